-- A relation that each step meets at every moment is met by every accepted call.
use Rattle.std.specs.Prelude.{refl, false}
use Rattle.time.specs.declared.Time.{Time}
use Rattle.calls.specs.declared.types.Timed.{Timed}
use Rattle.calls.specs.declared.types.Call.{Call}
use Rattle.sensor.specs.declared.types.Sensor.{Sensor}
use Rattle.sensor.specs.Record.{with_temperature, lines_kept}
use Rattle.samples.specs.Samples.{sync_local_until}
use Rattle.serial.specs.I2cPins.{i2c_pins_at}
use Rattle.bma150.specs.declared.host.Bma150.{Bma150}
use Rattle.bma150.specs.Called.{effect, leaves}
use Rattle.effects.specs.Walk.{Steps}
use Rattle.effects.specs.Theorems.Walk.{sync_meets, supply_meets, due_meets, rising_meets, falling_meets, pins_meets, select_meets}

-- at a moment
module _ (now : Time) (R : Sensor → Sensor → Type 0) (p : Steps now R) where
  effect_meets : (s : Sensor) (t : Timed) → R s (effect s now t).sensor
  unfolding effect
  effect_meets s (Timed.Accelerations input) = p.sets s input
  effect_meets s (Timed.Supply rail) = supply_meets now R p s rail
  effect_meets s Timed.Due = due_meets now R p s
  effect_meets s (Timed.Rising mosi) = rising_meets now R p s mosi
  effect_meets s Timed.Falling = falling_meets now R p s
  effect_meets s (Timed.Pins before after) =
      let u = i2c_pins_at s before after now in p.then (pins_meets now R p s before after) (p.keeps u (lines_kept u.kept after) refl)

  timed_meets : (s : Sensor) (t : Timed) → R s (effect (sync_local_until s now false) now t).sensor
  timed_meets s t = p.then (sync_meets now R p s false) (effect_meets _ t)

-- from the sensor before a call to the one that it leaves, at the last accepted time after it
pub leaves_meets : (R : Time → Sensor → Sensor → Type 0) → ((now : Time) → Steps now (R now)) → (s : Bma150) (c : Call) → R (leaves s c).last s.sensor (leaves s c).sensor
unfolding leaves
leaves_meets R p s (Call.At now t) = timed_meets now (R now) (p now) s.sensor t
leaves_meets R p s (Call.Temperature x) = (p s.last).keeps s.sensor (with_temperature x s.sensor.kept) refl
leaves_meets R p s (Call.Select on) = select_meets s.last (R s.last) (p s.last) s.sensor on
leaves_meets R p s _ = (p s.last).itself s.sensor
