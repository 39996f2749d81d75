-- What the bus sees of a sensor that hears it, and what leaves that as it is.
use Rattle.time.specs.declared.Time.{Time}
use Rattle.std.specs.Prelude.{◌≡◌, refl, Bool, true, false, Option, None}
use Rattle.std.proofs.Common.{true≢false, ap, ◌∙◌}
use Rattle.i2c.specs.declared.types.State.{State}
use Rattle.spi.specs.declared.types.Frame.{Frame}
use Rattle.spi.specs.Frame as F
use Rattle.deadlines.specs.Deadlines.{is_set}
use Rattle.sensor.specs.declared.types.Outage.{Outage}
use Rattle.sensor.specs.declared.types.Sensor.{Sensor}
use Rattle.sensor.specs.Record.{away, with_i2c, is_quiet}
use Rattle.serial.specs.I2cPins.{i2c_listens, ones_for}
use Rattle.serial.specs.Outputs.{i2c_holds}
use Rattle.i2c.specs.Target.{target}
use Rattle.effects.specs.Core as C
use Rattle.bus.specs.I2c.{Heard, target_of}

pub absurd_bool : {A : Type 0} → ◌≡◌ {A = Bool} true false → A
absurd_bool e = absurd (true≢false e)

-- ---- the parts: the I2C engine, the SPI frame but for its driver, the supply, and how long the pins are dead or quiet

pub record Parts : Type 0 where
  pub i2c : State
  pub frame : Frame
  pub outage : Option Outage
  pub serial_ready : Option Time
  pub quiet : Option Time

abbrev pub parts : Sensor → Parts
parts s = record { i2c = s.i2c; frame = F.released s.frame; outage = s.outage; serial_ready = s.deadlines.serial_ready; quiet = s.deadlines.quiet }

abbrev part : C.Core → Parts
part k = record { i2c = k.i2c; frame = k.frame; outage = k.outage; serial_ready = k.serial_ready; quiet = k.quiet }

-- t has them of s
pub record Same (s t : Sensor) : Type 0 where
  pub same : parts t ≡ parts s

pub and_then : {s t u : Sensor} → Same s t → Same t u → Same s u
and_then p q = record { same = q.same ∙ p.same }

pub itself : (s : Sensor) → Same s s
itself s = record { same = refl }

pub of : {s t : Sensor} → C.Keeps s t → Same s t
of p = record { same = ap part p.same }

-- ---- a sensor that has the parts of one that hears the bus hears it, and is the same to the bus

pub heard : {s t : Sensor} → Same s t → Heard s → Heard t
heard {s} {t} p h =
    record {
      on = ap (λ (k : Parts). away k.outage) p.same ∙ h.on;
      ready = ap (λ (k : Parts). k.serial_ready) p.same ∙ h.ready;
      unselected = ap (λ (k : Parts). k.frame.selected) p.same ∙ h.unselected;
      at_rest = ap (λ (k : Parts). k.frame.serial) p.same ∙ h.at_rest;
      loud = ap (λ (k : Parts). k.quiet) p.same ∙ h.loud;
    }

pub same_target : {s t : Sensor} → Same s t → target_of t ≡ target_of s
same_target p = ap (λ (k : Parts). target k.i2c (ones_for k.frame.tx)) p.same

-- ---- it listens, is not quiet, and holds the pin low where its engine does

pub is_never : (d : Option Time) → d ≡ None → is_set d ≡ false
unfolding is_set
is_never d e = rw e

module _ {s : Sensor} (h : Heard s) where
  pub listens : i2c_listens s ≡ true
  unfolding i2c_listens
  listens = rw (h.unselected, h.on, is_never s.deadlines.serial_ready h.ready)

  pub not_quiet : is_quiet s ≡ false
  not_quiet = is_never s.deadlines.quiet h.loud

  pub holds : i2c_holds s ≡ s.i2c.low
  unfolding i2c_holds
  holds = rw (h.unselected, h.on, is_never s.deadlines.serial_ready h.ready)

-- the engine is no part of hearing
pub heard_engine : (s : Sensor) (st : State) → Heard s → Heard (with_i2c s st)
heard_engine s st h = record { on = h.on; ready = h.ready; unselected = h.unselected; at_rest = h.at_rest; loud = h.loud }
