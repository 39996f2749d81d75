-- The wire mode and the SPI driver: what leaves them as they are.
use Rattle.sensor.specs.Operation.{Operation}
use Prim.Native.Nat.{ℕ, ◌<◌}
use Rattle.std.proofs.Common.{arith, true≢false, sym, ap, ◌∙◌, get_or-set_other}
use Rattle.std.specs.Prelude.{◌≡◌, Bool, cond, ◌&&◌, set, ℤ, Option, Some, None}
use Rattle.std.proofs.Math.Path.{refl}
use Rattle.std.proofs.Math.Bool.{true, false}
use mathlib.Core.List.{List}
use Rattle.std.proofs.lemmas.Bool.{cond_both}
use Rattle.time.specs.declared.Time.{Time}
use Rattle.spi.specs.declared.types.Drive.{Drive}
use Rattle.spi.specs.declared.types.Drive.TheVariants as D
use Rattle.time.specs.Time.{same}
use Rattle.nv.specs.Cycle as Cycle
use Rattle.registers.specs.Map.{at, acc_lsb, acc_msb, temp, status, control, operation}
use Rattle.registers.specs.Codes.{code_low, code_high, temperature}
use Rattle.deadlines.specs.Deadlines.{is_at}
use Rattle.control.specs.declared.types.WriteKind.{WriteKind}
use Rattle.control.specs.declared.types.Effect.{Effect}
use Rattle.control.specs.declared.types.SelfTest.{SelfTest}
use Rattle.control.specs.declared.types.Sleep.{Sleep}
use Rattle.control.specs.Lengths.{needs}
use Rattle.control.specs.Kinds as Kinds
use Rattle.sampling.specs.declared.types.Input.{Input}
use Rattle.sampling.specs.declared.types.Acquisition.{Acquisition}
use Rattle.sampling.specs.Phase as Phase
use Rattle.sensor.specs.declared.types.Sensor.{Sensor}
use Rattle.sensor.specs.Record.{put, automatic}
use Rattle.sensor.specs.Mode.{criterion, automatic_control}
use Rattle.writes.specs.Write.{recounted, interrupts_written, tested, slept, image_written, control_written, mode_written, register_effect, then_automatic, write_effect}
use Rattle.samples.specs.Samples.{acquisition, edges_until, sync_local_until}
use Rattle.waits.specs.declared.types.Served.{Served}
use Rattle.waits.specs.Due.{sample_due_now, pause_ended, write_ended, image_ended, wake_ended, sample_ended, waits_ended, at_deadline}
use Rattle.effects.specs.Theorems.Keeps.{Ordinary}
use Rattle.effects.specs.Theorems.Phases.{samples_same}
use Rattle.effects.specs.Theorems.Walk.{Automatic, OnDemand, automatic_met, sync_met}

-- ---- a sample leaves register 15 hex, in which the wire mode stands

abbrev mode : Acquisition → ℕ
mode c = at c.registers operation

elsewhere : (l : List ℕ) (i v : ℕ) → (operation ≡ i → ⊥) → at (set l i v) operation ≡ at l operation
elsewhere l i v h = get_or-set_other l i operation v 0 h

code_keeps : (l : List ℕ) (axis : ℕ) (k : ℤ) → axis < 3 → at (Phase.with_code l axis k) operation ≡ at l operation
code_keeps l axis k small =
    elsewhere (set l (acc_lsb axis) (code_low k)) (acc_msb axis) (code_high k) (λ h. absurd (omega (arith, h)))
    ∙ elsewhere l (acc_lsb axis) (code_low k) (λ h. absurd (omega (arith, h)))

samples_mode : (input : Input) (needs : List ℕ) (n : ℕ) (c : Acquisition) → mode (Phase.samples n c input needs) ≡ mode c
samples_mode input needs =
    samples_same mode (λ c i. refl) (λ c. refl) input needs (λ c. refl) (λ c. refl)
    (λ c. elsewhere c.registers temp (temperature input.temperature_millicelsius) (λ h. absurd (omega (arith, h))))
    (λ c axis small. code_keeps c.registers axis _ small)
    (λ c. elsewhere (set c.registers control _) status _ (λ h. absurd (omega (arith, h))) ∙ elsewhere c.registers control _ (λ h. absurd (omega (arith, h))))

-- and wakes no sensor, nor puts it to sleep
samples_asleep : (input : Input) (needs : List ℕ) (n : ℕ) (c : Acquisition) → (Phase.samples n c input needs).sampling.asleep ≡ c.sampling.asleep
samples_asleep input needs =
    samples_same (λ (c : Acquisition). c.sampling.asleep) (λ c i. refl) (λ c. refl) input needs (λ c. refl) (λ c. refl) (λ c. refl) (λ c axis small. refl) (λ c. refl)

-- ---- the driver stays as it is unless the sensor falls asleep

-- t is awake only if s is, and then with the same driver
pub record Steady (s t : Sensor) : Type 0 where
  pub driver : t.sampling.asleep ≡ false → (t.frame.driven ≡ s.frame.driven) × (s.sampling.asleep ≡ false)

pub and_steady : {s t u : Sensor} → Steady s t → Steady t u → Steady s u
and_steady p q = record { driver = λ a. let y = q.driver a in let x = p.driver y.1 in (y.0 ∙ x.0, x.1) }

steady : (s : Sensor) → Steady s s
steady s = record { driver = λ a. (refl, a) }

awake_not_asleep : {A : Type 0} → ◌≡◌ {A = Bool} true false → A
awake_not_asleep e = absurd (true≢false e)

steady_automatic : (now : Time) → Automatic now Steady
steady_automatic now = record {
  itself = steady;
  then = and_steady;
  pauses = λ s. record { driver = λ a. awake_not_asleep a };
  holds = λ s. record { driver = λ a. (refl, a) };
  manual = λ s. record { driver = λ a. (refl, a) };
}

steady_steps : (now : Time) → OnDemand now Steady
steady_steps now = record {
  automatic = steady_automatic now;
  edges = λ s inclusive d. record { driver = λ a. (refl, sym (samples_asleep s.kept.input needs (edges_until s now inclusive) (acquisition s)) ∙ a) };
}

pub automatic_steady : (s : Sensor) (now : Time) (was verify : Bool) → Steady s (automatic_control s now was verify)
automatic_steady s now was verify = automatic_met now Steady (steady_automatic now) s was verify

-- ---- automatic mode writes no register

abbrev Alike : Sensor → Sensor → Type 0
Alike s t = t.registers ≡ s.registers

register_steps : (now : Time) → Automatic now Alike
register_steps now = record { itself = λ s. refl; then = λ p q. q ∙ p; pauses = λ s. refl; holds = λ s. refl; manual = λ s. refl }

automatic_mode : (now : Time) (s : Sensor) (was verify : Bool) → (automatic_control s now was verify).registers ≡ s.registers
automatic_mode now s was verify = automatic_met now Alike (register_steps now) s was verify

-- ---- samples up to a moment leave the wire mode, and the driver of a sensor that is awake after them

abbrev reg15 : Sensor → ℕ
reg15 s = at s.registers operation

-- t has the wire mode of s
abbrev Mode : Sensor → Sensor → Type 0
Mode s t = reg15 t ≡ reg15 s

mode_steps : (now : Time) → OnDemand now Mode
mode_steps now = record {
  automatic = record { itself = λ s. refl; then = λ p q. q ∙ p; pauses = λ s. refl; holds = λ s. refl; manual = λ s. refl };
  edges = λ s inclusive d. samples_mode s.kept.input needs (edges_until s now inclusive) (acquisition s);
}

module _ (s : Sensor) (end : Time) where
  pub sync_mode : (inclusive : Bool) → reg15 (sync_local_until s end inclusive) ≡ reg15 s
  sync_mode inclusive = sync_met end Mode (mode_steps end) s inclusive

  pub sync_driver : (inclusive : Bool) → (sync_local_until s end inclusive).sampling.asleep ≡ false → (sync_local_until s end inclusive).frame.driven ≡ s.frame.driven
  sync_driver inclusive a = ((sync_met end Steady (steady_steps end) s inclusive).driver a).0

-- ---- in any case the driver stays as it is or is released

pub record Fades (s t : Sensor) : Type 0 where
  pub stays : Bool
  pub driver : t.frame.driven ≡ cond stays s.frame.driven D.Floating

and_cond : (a b : Bool) (d : Drive) → cond b (cond a d D.Floating) D.Floating ≡ cond (a && b) d D.Floating
and_cond true b d = refl
and_cond false b d = cond_both b _ _ (λ (x : Drive). x ≡ D.Floating) (λ e. refl) (λ e. refl)

pub and_fades : {s t u : Sensor} → Fades s t → Fades t u → Fades s u
and_fades {s} {t} {u} p q =
    record {
      stays = p.stays && q.stays;
      driver = q.driver ∙ ap (λ (d : Drive). cond q.stays d D.Floating) p.driver ∙ and_cond p.stays q.stays s.frame.driven;
    }

pub unfaded : {s t : Sensor} → t.frame.driven ≡ s.frame.driven → Fades s t
unfaded e = record { stays = true; driver = e }

faded : {s t : Sensor} → t.frame.driven ≡ D.Floating → Fades s t
faded e = record { stays = false; driver = e }

fading_automatic : (now : Time) → Automatic now Fades
fading_automatic now = record {
  itself = λ s. unfaded refl;
  then = and_fades;
  pauses = λ s. faded refl;
  holds = λ s. unfaded refl;
  manual = λ s. unfaded refl;
}

fading_steps : (now : Time) → OnDemand now Fades
fading_steps now = record { automatic = fading_automatic now; edges = λ s inclusive d. unfaded refl }

pub automatic_fades : (s : Sensor) (now : Time) (was verify : Bool) → Fades s (automatic_control s now was verify)
automatic_fades s now was verify = automatic_met now Fades (fading_automatic now) s was verify

pub sync_fades : (s : Sensor) (end : Time) (inclusive : Bool) → Fades s (sync_local_until s end inclusive)
sync_fades s end inclusive = sync_met end Fades (fading_steps end) s inclusive

-- ---- register writes

-- these and due calls have walks of their own: `Steps` has steps that drive the output (a shift), and a wake, which is not steady

-- t has the driver of s
abbrev Same : Sensor → Sensor → Type 0
Same s t = t.frame.driven ≡ s.frame.driven

recounted_driver : (s : Sensor) (again : Bool) → Same s (recounted s again)
unfolding recounted
recounted_driver s again = cond_both again _ _ (Same s) (λ e. refl) (λ e. refl)

interrupts_driver : (s : Sensor) (value : ℕ) → Same s (interrupts_written s value)
unfolding interrupts_written
interrupts_driver s value = cond_both (Kinds.resets_interrupts value) _ _ (Same s) (λ e. recounted_driver _ (automatic s)) (λ e. refl)

tested_driver : (t : Option SelfTest) (s : Sensor) → Same s (tested t s)
unfolding tested
tested_driver (Some SelfTest.Starts) s = refl
tested_driver (Some SelfTest.Stops) s = refl
tested_driver None s = refl

slept_fades : (t : Option Sleep) (s : Sensor) (now : Time) → Fades s (slept t s now)
unfolding slept
slept_fades (Some Sleep.Wakes) s now = unfaded refl
slept_fades (Some Sleep.Pauses) s now = faded refl
slept_fades None s now = unfaded refl

slept_driver : (t : Option Sleep) (s : Sensor) (now : Time) → (slept t s now).sampling.asleep ≡ false → (slept t s now).frame.driven ≡ s.frame.driven
unfolding slept
slept_driver (Some Sleep.Wakes) s now a = refl
slept_driver (Some Sleep.Pauses) s now a = awake_not_asleep a
slept_driver None s now a = refl

image_steady : (s : Sensor) (value : ℕ) (now : Time) → Steady s (image_written s value now)
unfolding image_written
image_steady s value now = cond_both (Kinds.copies_image value) _ _ (Steady s) (λ e. record { driver = λ a. (refl, a) }) (λ e. steady s)

image_fades : (s : Sensor) (value : ℕ) (now : Time) → Fades s (image_written s value now)
unfolding image_written
image_fades s value now = cond_both (Kinds.copies_image value) _ _ (Fades s) (λ e. unfaded refl) (λ e. unfaded refl)

module _ (s : Sensor) (value : ℕ) (now : Time) where
  -- the sensor before its sleep is looked at
  abbrev begun : Sensor
  begun = tested (Kinds.self_test (at s.registers control) value) (interrupts_written (put s control (Kinds.kept value)) value)

  begun_driver : Same s begun
  begun_driver = tested_driver (Kinds.self_test (at s.registers control) value) _ ∙ interrupts_driver (put s control (Kinds.kept value)) value

  control_fades : Fades s (control_written s value now)
  control_fades = and_fades {t = begun} (unfaded begun_driver) (and_fades (slept_fades _ begun now) (image_fades _ value now))

  control_driver : (control_written s value now).sampling.asleep ≡ false → (control_written s value now).frame.driven ≡ s.frame.driven
  control_driver a = let y = (image_steady _ value now).driver a in y.0 ∙ slept_driver _ begun now y.1 ∙ begun_driver

mode_driver : (s : Sensor) (turns : Bool) → Same s (mode_written s turns)
unfolding mode_written recounted
mode_driver s turns = cond_both turns _ _ (Same s) (λ e. refl) (λ e. refl)

-- what a write does to the registers
module _ (s : Sensor) (address value : ℕ) (now : Time) where
  effect_fades : (e : Effect) → Fades s (register_effect e s address value now)
  unfolding register_effect
  effect_fades Effect.Reset = faded refl
  effect_fades Effect.Control = control_fades s value now
  effect_fades Effect.Measurement = unfaded refl
  effect_fades Effect.Operation = unfaded (mode_driver _ _)
  effect_fades Effect.Durations = unfaded refl
  effect_fades Effect.Plain = unfaded refl

  effect_driver : (e : Effect) → Ordinary (WriteKind.Taken e) → (register_effect e s address value now).sampling.asleep ≡ false → (register_effect e s address value now).frame.driven ≡ s.frame.driven
  unfolding register_effect Ordinary
  effect_driver Effect.Reset o a = absurd o
  effect_driver Effect.Control o a = control_driver s value now a
  effect_driver Effect.Measurement o a = refl
  effect_driver Effect.Operation o a = mode_driver _ _
  effect_driver Effect.Durations o a = refl
  effect_driver Effect.Plain o a = refl

  automatic_after : (e : Effect) → Fades s (then_automatic e s address value now)
  automatic_after e = and_fades (effect_fades e) (automatic_fades _ now _ false)

  awake_after : (e : Effect) → Ordinary (WriteKind.Taken e) → (then_automatic e s address value now).sampling.asleep ≡ false → (then_automatic e s address value now).frame.driven ≡ s.frame.driven
  awake_after e o a = let y = (automatic_steady (register_effect e s address value now) now (criterion s) false).driver a in y.0 ∙ effect_driver e o y.1

  -- a write leaves the driver or releases it
  pub write_fades : (w : WriteKind) → Fades s (write_effect w s address value now)
  unfolding write_effect
  write_fades WriteKind.Ignored = unfaded refl
  write_fades WriteKind.Stored = unfaded refl
  write_fades (WriteKind.Taken e) = automatic_after e

  -- one but a soft reset leaves it, if the sensor is awake then
  pub write_driver : (w : WriteKind) → Ordinary w → (write_effect w s address value now).sampling.asleep ≡ false → (write_effect w s address value now).frame.driven ≡ s.frame.driven
  unfolding write_effect
  write_driver WriteKind.Ignored o a = refl
  write_driver WriteKind.Stored o a = refl
  write_driver (WriteKind.Taken e) o a = awake_after e o a

-- ---- due calls

paused_driver : (s : Sensor) (now : Time) → Same s (pause_ended s now)
unfolding pause_ended
paused_driver s now = cond_both (is_at s.deadlines.pause now) _ _ (Same s) (λ e. refl) (λ e. refl)

over_driver : (o : Operation) (s : Sensor) (now : Time) → Same s (write_ended o s now).sensor
unfolding write_ended
over_driver None s now = refl
over_driver (Some w) s now = cond_both (same (Cycle.deadline w.cycle) now) _ _ (λ (r : Served). Same s r.sensor) (λ e. refl) (λ e. refl)

loaded_driver : (s : Sensor) (now : Time) → Same s (image_ended s now)
unfolding image_ended
loaded_driver s now = cond_both (is_at s.deadlines.image now) _ _ (Same s) (λ e. refl) (λ e. refl)

woken_driver : (s : Sensor) (now : Time) → Same s (wake_ended s now)
unfolding wake_ended
woken_driver s now = cond_both (is_at s.deadlines.wake now) _ _ (Same s) (λ e. refl) (λ e. refl)

sampled_driver : (s : Sensor) (now : Time) → Same s (sample_ended s now)
unfolding sample_ended
sampled_driver s now = cond_both (sample_due_now s now) _ _ (Same s) (λ e. refl) (λ e. refl)

module _ (s : Sensor) (now : Time) where
  -- the sensor before automatic mode
  abbrev p : Sensor
  p = pause_ended (waits_ended s now) now

  abbrev w : Sensor
  w = (write_ended p.writing p now).sensor

  abbrev i : Sensor
  i = image_ended w now

  abbrev k : Sensor
  k = wake_ended i now

  ended_driver : Same s (sample_ended k now)
  ended_driver = sampled_driver k now ∙ woken_driver i now ∙ loaded_driver w now ∙ over_driver p.writing p now ∙ paused_driver (waits_ended s now) now

  pub due_fades : Fades s (at_deadline s now).sensor
  due_fades = and_fades {t = sample_ended k now} (unfaded ended_driver) (automatic_fades _ now _ _)

  pub due_driver : (at_deadline s now).sensor.sampling.asleep ≡ false → (at_deadline s now).sensor.frame.driven ≡ s.frame.driven
  due_driver a = ((automatic_steady (sample_ended k now) now _ _).driver a).0 ∙ ended_driver
