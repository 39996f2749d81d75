-- The parts of a sensor that samples, reads, waits and ordinary register writes leave as they are.
use Rattle.time.specs.declared.Time.{Time}
use Rattle.sensor.specs.Operation.{Operation}
use Rattle.std.specs.Prelude.{◌≡◌, List, ℕ, Option}
use Rattle.i2c.specs.declared.types.State.{State}
use Rattle.spi.specs.declared.types.Frame.{Frame}
use Rattle.spi.specs.Frame as F
use Rattle.sensor.specs.declared.types.Kept.{Kept}
use Rattle.sensor.specs.declared.types.Outage.{Outage}
use Rattle.sensor.specs.declared.types.Sensor.{Sensor}

-- the stored bytes and the running write, the supply, what is kept, the I2C engine, the SPI frame but for its driver (sleep releases it), and how long the pins are dead or quiet
pub record Core : Type 0 where
  pub cells : List ℕ
  pub writing : Operation
  pub outage : Option Outage
  pub kept : Kept
  pub i2c : State
  pub frame : Frame
  pub serial_ready : Option Time
  pub quiet : Option Time

abbrev pub core : Sensor → Core
core s = record {
  cells = s.nonvolatile;
  writing = s.writing;
  outage = s.outage;
  kept = s.kept;
  i2c = s.i2c;
  frame = F.released s.frame;
  serial_ready = s.deadlines.serial_ready;
  quiet = s.deadlines.quiet;
}

-- t has them of s. A record, so that s and t are inferred from it
pub record Keeps (s t : Sensor) : Type 0 where
  pub same : core t ≡ core s
