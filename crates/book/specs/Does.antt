-- What an accepted call does to what is kept, to the supply and to the write book, said once for each call.
use Rattle.std.specs.Prelude.{ℕ, Bool, false, not, ◌&&◌, if◌then◌else◌, Option, Some, None}
use Rattle.time.specs.declared.Time.{Time}
use Rattle.i2c.specs.declared.types.Levels.{Levels}
use Rattle.i2c.specs.declared.types.Edge.{Edge}
use Rattle.i2c.specs.declared.types.Action.{Action}
use Rattle.i2c.specs.Bus.{edge}
use Rattle.i2c.specs.Engine as E
use Rattle.spi.specs.Frame as F
use Rattle.calls.specs.declared.types.Timed.{Timed}
use Rattle.calls.specs.declared.types.Call.{Call}
use Rattle.bma150.specs.Called.{Acts, acts}
use Rattle.sensor.specs.declared.types.Kept.{Kept}
use Rattle.sensor.specs.declared.types.Sensor.{Sensor}
use Rattle.sensor.specs.Record.{with_acceleration, lines_kept, is_quiet, four_wire}
use Rattle.samples.specs.Samples.{sync_local_until}
use Rattle.serial.specs.SpiEdges.{spi_listens, rise_synced}
use Rattle.serial.specs.I2cPins.{i2c_listens, ones_for, pins_synced}

-- ---- the register write that the pins make, read off the serial definitions

-- the sensor that meets the edge
abbrev pub at_rise : Sensor → (now : Time) → Sensor
at_rise s now = rise_synced (sync_local_until s now false) now

abbrev pub at_pins : Sensor → Edge → (now : Time) → Sensor
at_pins s e now = pins_synced (sync_local_until s now false) e now

-- SPI: the last rise of a write frame
unfoldable pub spi_write : Sensor → (mosi : Bool) → Option (ℕ × ℕ)
spi_write s mosi = if spi_listens s && not s.frame.turnaround then (F.take_bit s.frame mosi (four_wire s)).write else None

-- I2C: the eighth rise of a value byte
unfoldable pub action_write : Option Action → Option (ℕ × ℕ)
action_write (Some (Action.Write register value)) = Some (register, value)
action_write _ = None

unfoldable pub i2c_write : Sensor → Edge → Option (ℕ × ℕ)
i2c_write s e = if i2c_listens s then action_write (E.step s.i2c e (is_quiet s) (ones_for s.frame.tx)).action else None

-- a register write, and the sensor that meets it
pub record Asked : Type 0 where
  pub write : Option (ℕ × ℕ)
  pub meets : Sensor

-- ---- what a call does

pub record Does : Type 0 where
  -- the time of a timed call
  pub time : Option Time
  -- what is kept after it
  pub keeps : Kept → Kept
  -- the supply voltage that it brings
  pub rail : Option ℕ
  -- the register write that it makes on this sensor
  pub asks : Sensor → Asked

abbrev no_write : Sensor → Asked
no_write s = record { write = None; meets = s }

-- 01: temperature, select, view and stored image do no more to the book; accelerations, temperature and pin reports set what is kept
abbrev pub untimed : (keeps : Kept → Kept) → Does
untimed keeps = record { time = None; keeps = keeps; rail = None; asks = no_write }

abbrev pub timed : (now : Time) → Does
timed now = record { time = Some now; keeps = λ k. k; rail = None; asks = no_write }

abbrev pub supplying : (now : Time) (rail : ℕ) → Does
supplying now rail = record { time = Some now; keeps = λ k. k; rail = Some rail; asks = no_write }

abbrev pub asking : (now : Time) (asks : Sensor → Asked) → Does
asking now asks = record { time = Some now; keeps = λ k. k; rail = None; asks = asks }

abbrev pub rise_asks : (now : Time) (mosi : Bool) → Sensor → Asked
rise_asks now mosi s = record { write = spi_write (at_rise s now) mosi; meets = at_rise s now }

abbrev pub pins_ask : (now : Time) (before after : Levels) → Sensor → Asked
pins_ask now before after s = record { write = i2c_write (at_pins s (edge before after) now) (edge before after); meets = at_pins s (edge before after) now }

unfoldable pub timed_does : (now : Time) → Timed → Does
timed_does now (Timed.Accelerations input) = record { time = Some now; keeps = with_acceleration input; rail = None; asks = no_write }
timed_does now (Timed.Supply rail) = supplying now rail
timed_does now Timed.Due = timed now
timed_does now (Timed.Rising mosi) = asking now (rise_asks now mosi)
timed_does now Timed.Falling = timed now
timed_does now (Timed.Pins before after) = record { time = Some now; keeps = λ k. lines_kept k after; rail = None; asks = pins_ask now before after }

abbrev pub act_does : Acts → Does
act_does (Acts.timed now t) = timed_does now t
act_does (Acts.select on) = untimed (λ k. k)
act_does (Acts.keeps f) = untimed f

unfoldable pub does : Call → Does
does c = act_does (acts c)
