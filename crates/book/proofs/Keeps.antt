-- What leaves the stored bytes, the running write, the supply, what is kept and the select pin as they are.
use Rattle.std.specs.Prelude.{Option}
use Rattle.sensor.specs.Operation.{Operation}
use Prim.Native.Nat.{ℕ}
use mathlib.Core.Path.{◌≡◌, refl, ap, ◌∙◌}
use mathlib.Core.Bool.{Bool, true, false, cond, not, ◌&&◌}
use mathlib.Core.List.{List}
use Rattle.std.proofs.lemmas.Bool.{cond_both}
use Rattle.time.specs.declared.Time.{Time}
use Rattle.i2c.specs.declared.types.Edge.{Edge}
use Rattle.spi.specs.declared.types.Serial.{Serial}
use Rattle.spi.specs.declared.types.Frame.{Frame}
use Rattle.spi.specs.declared.types.Clocked.{Clocked}
use Rattle.spi.specs.declared.types.Shift.{Shift}
use Rattle.control.specs.declared.types.Effect.{Effect}
use Rattle.sensor.specs.declared.types.Kept.{Kept}
use Rattle.sensor.specs.declared.types.Outage.{Outage}
use Rattle.sensor.specs.declared.types.Sensor.{Sensor}
use Rattle.registers.specs.Map.{at}
use Rattle.spi.specs.Frame as F
use Rattle.sensor.specs.Record.{with_frame, is_off, serial_not_ready}
use Rattle.sensor.specs.Mode.{soft_reset}
use Rattle.writes.specs.Write.{register_effect, then_automatic}
use Rattle.samples.specs.Samples.{sync_local_until}
use Rattle.sensor.specs.RegisterReads.{fetched, byte_read}
use Rattle.serial.specs.SpiEdges.{moved, shift_output, rise_synced, fall_synced, falling_effect, falling_at}
use Rattle.serial.specs.I2cPins.{pins_synced}
use Rattle.sensor.specs.Select.{reselected, selected_to}
use Rattle.waits.specs.Supply.{reacquired}
use Rattle.waits.specs.Due.{waits_ended, pause_ended, image_ended, wake_ended, sample_served}
use Rattle.effects.specs.Core as C
use Rattle.effects.specs.Theorems.Keeps as E

-- ---- the five parts that the write book needs, of those that an effect leaves as they are

pub record Core : Type 0 where
  pub cells : List ℕ
  pub writing : Operation
  pub outage : Option Outage
  pub kept : Kept
  pub selected : Bool

abbrev pub core : Sensor → Core
core s = record { cells = s.nonvolatile; writing = s.writing; outage = s.outage; kept = s.kept; selected = s.frame.selected }

abbrev part : C.Core → Core
part k = record { cells = k.cells; writing = k.writing; outage = k.outage; kept = k.kept; selected = k.frame.selected }

-- t has them of s. A record, so that s and t are inferred from it
pub record Keeps (s t : Sensor) : Type 0 where
  pub same : core t ≡ core s

pub then : {s t u : Sensor} → Keeps s t → Keeps t u → Keeps s u
then p q = record { same = q.same ∙ p.same }

pub itself : (s : Sensor) → Keeps s s
itself s = record { same = refl }

of : {s t : Sensor} → C.Keeps s t → Keeps s t
of p = record { same = ap part p.same }

pub then_automatic_keeps : (e : Effect) (s : Sensor) (address value : ℕ) (now : Time) → Keeps s (then_automatic e s address value now)
unfolding E.Ordinary register_effect
then_automatic_keeps Effect.Reset s address value now = then (record { same = refl }) (of (E.automatic_keeps (soft_reset s now) now _ false))
then_automatic_keeps Effect.Control s address value now = of (E.then_automatic_keeps Effect.Control s address value now tt)
then_automatic_keeps Effect.Measurement s address value now = of (E.then_automatic_keeps Effect.Measurement s address value now tt)
then_automatic_keeps Effect.Operation s address value now = of (E.then_automatic_keeps Effect.Operation s address value now tt)
then_automatic_keeps Effect.Durations s address value now = of (E.then_automatic_keeps Effect.Durations s address value now tt)
then_automatic_keeps Effect.Plain s address value now = of (E.then_automatic_keeps Effect.Plain s address value now tt)

pub sync_keeps : (s : Sensor) (end : Time) (inclusive : Bool) → Keeps s (sync_local_until s end inclusive)
sync_keeps s end inclusive = of (E.sync_keeps s end inclusive)

pub fetched_keeps : (v : Option ℕ) (s : Sensor) (address : ℕ) → Keeps s (fetched v s address).sensor
fetched_keeps v s address = of (E.fetched_keeps v s address)

pub byte_read_keeps : (t : Option ℕ) (s : Sensor) (address : ℕ) → Keeps s (byte_read t s address)
byte_read_keeps t s address = of (E.byte_read_keeps t s address)

pub rise_synced_keeps : (s : Sensor) (now : Time) → Keeps s (rise_synced s now)
rise_synced_keeps s now = of (E.rise_synced_keeps s now)

pub pins_synced_keeps : (s : Sensor) (e : Edge) (now : Time) → Keeps s (pins_synced s e now)
pins_synced_keeps s e now = of (E.pins_synced_keeps s e now)

-- ---- select and the output

-- the select pin is the one asked for
abbrev pub with_selected : Core → Bool → Core
with_selected k b = record k { selected = b }

pub select_core : (s : Sensor) (b : Bool) → core (selected_to s b) ≡ with_selected (core s) b
unfolding selected_to F.differs
select_core s b = go s.frame.selected b refl
  where
    go : (was to : Bool) → s.frame.selected ≡ was → core (cond (cond was (not to) to) (reselected s to) s) ≡ with_selected (core s) to
    go true true e = ap (λ (x : Bool). with_selected (core s) x) e
    go true false e = refl
    go false true e = refl
    go false false e = ap (λ (x : Bool). with_selected (core s) x) e

-- a frame keeps its select pin
shifted_selected : (f : Frame) (tx : Option ℕ) → (F.shifted f tx).selected ≡ f.selected
unfolding F.moved
shifted_selected f tx = go f.serial
  where
    go : (x : Serial) → (F.moved x f tx).selected ≡ f.selected
    go Serial.Address = refl
    go (Serial.Read a) = refl
    go (Serial.Write a) = refl

pub framed_keeps : (s : Sensor) (f : Frame) → f.selected ≡ s.frame.selected → Keeps s (with_frame s f)
framed_keeps s f e = record { same = ap (λ (x : Bool). with_selected (core s) x) e }

moved_keeps : (m : Shift) (s : Sensor) → Keeps s (moved m s)
unfolding moved
moved_keeps Shift.Stay s = itself s
moved_keeps (Shift.Fetch a) s = then (fetched_keeps _ s a) (framed_keeps _ _ (shifted_selected _ _))
moved_keeps Shift.Next s = framed_keeps s _ (shifted_selected _ _)

pub shift_keeps : (s : Sensor) (at : Clocked) → Keeps s (shift_output s at)
shift_keeps s at = moved_keeps _ s

pub falling_keeps : (s : Sensor) (now : Time) → Keeps s (falling_at s now)
unfolding falling_effect
falling_keeps s now =
    let t = fall_synced s now in
    then (of (E.fall_synced_keeps s now)) (cond_both (not (serial_not_ready t) && not (is_off t)) _ _ (Keeps t) (λ e. shift_keeps t _) (λ e. itself t))

-- ---- the steps of a due call but the end of a write

pub waits_keeps : (s : Sensor) (now : Time) → Keeps s (pause_ended (waits_ended s now) now)
waits_keeps s now = then {t = waits_ended s now} (record { same = refl }) (of (E.pause_ended_keeps (waits_ended s now) now))

pub scalars_keeps : (s : Sensor) (now : Time) (was hold : Bool) → Keeps s (sample_served (wake_ended (image_ended s now) now) now was hold)
scalars_keeps s now was hold = of (E.scalars_keeps s now was hold)

pub waits_served_keeps : (s : Sensor) (now : Time) → Keeps s (reacquired s now)
waits_served_keeps s now = of (E.waits_served_keeps s now)
