-- What samples, reads, waits and ordinary register writes leave as it is.
use Rattle.std.specs.Prelude.{ℕ, refl, Bool, false, cond, Option, Some, None}
use Rattle.std.proofs.Common.{◌∙◌}
use Rattle.std.proofs.lemmas.Bool.{cond_both}
use Rattle.time.specs.declared.Time.{Time}
use Rattle.i2c.specs.declared.types.Edge.{Edge}
use Rattle.control.specs.declared.types.WriteKind.{WriteKind}
use Rattle.control.specs.declared.types.Effect.{Effect}
use Rattle.control.specs.declared.types.SelfTest.{SelfTest}
use Rattle.control.specs.declared.types.Sleep.{Sleep}
use Rattle.sensor.specs.declared.types.Sensor.{Sensor}
use Rattle.deadlines.specs.Deadlines.{is_at}
use Rattle.control.specs.Kinds as Kinds
use Rattle.sensor.specs.Mode.{automatic_control}
use Rattle.sensor.specs.Record.{put}
use Rattle.writes.specs.Write.{recounted, interrupts_reset, interrupts_written, tested, slept, image_written, control_written, mode_written, operation_written, register_effect, then_automatic}
use Rattle.samples.specs.Samples.{sync_local_until}
use Rattle.sensor.specs.RegisterReads.{fetched, counts_as_read, byte_read}
use Rattle.serial.specs.SpiEdges.{rise_synced, fall_synced}
use Rattle.serial.specs.I2cPins.{pins_synced}
use Rattle.waits.specs.Supply.{reacquired}
use Rattle.waits.specs.Due.{sample_due_now, pause_ended, image_ended, wake_ended, sample_ended, sample_served}
use Rattle.effects.specs.Core.{Keeps}
use Rattle.effects.specs.Theorems.Walk.{Automatic, OnDemand, automatic_met, sync_met, rise_synced_met, fall_synced_met, pins_synced_met}

pub then : {s t u : Sensor} → Keeps s t → Keeps t u → Keeps s u
then p q = record { same = q.same ∙ p.same }

pub pick : {s t u : Sensor} (b : Bool) → Keeps s t → Keeps s u → Keeps s (cond b t u)
pick {s} b p q = cond_both b _ _ (Keeps s) (λ e. p) (λ e. q)

pub itself : (s : Sensor) → Keeps s s
itself s = record { same = refl }

-- ---- automatic mode and samples

in_automatic : (now : Time) → Automatic now Keeps
in_automatic now = record {
  itself = itself;
  then = then;
  pauses = λ s. record { same = refl };
  holds = λ s. record { same = refl };
  manual = λ s. record { same = refl };
}

on_demand : (now : Time) → OnDemand now Keeps
on_demand now = record { automatic = in_automatic now; edges = λ s inclusive d. record { same = refl } }

pub automatic_keeps : (s : Sensor) (now : Time) (was verify : Bool) → Keeps s (automatic_control s now was verify)
automatic_keeps s now was verify = automatic_met now Keeps (in_automatic now) s was verify

pub sync_keeps : (s : Sensor) (end : Time) (inclusive : Bool) → Keeps s (sync_local_until s end inclusive)
sync_keeps s end inclusive = sync_met end Keeps (on_demand end) s inclusive

-- ---- register writes but stored ones

-- a walk of their own: `Steps` has steps that keep less (a soft reset, a stored write, a shift), and a record of the others with its two instances is longer than this

recounted_keeps : (s : Sensor) (again : Bool) → Keeps s (recounted s again)
unfolding recounted
recounted_keeps s again = pick again (record { same = refl }) (itself s)

reset_keeps : (s : Sensor) → Keeps s (interrupts_reset s)
reset_keeps s = then (record { same = refl }) (recounted_keeps _ _)

interrupts_keeps : (s : Sensor) (value : ℕ) → Keeps s (interrupts_written s value)
unfolding interrupts_written
interrupts_keeps s value = pick (Kinds.resets_interrupts value) (reset_keeps s) (itself s)

tested_keeps : (t : Option SelfTest) (s : Sensor) → Keeps s (tested t s)
unfolding tested
tested_keeps (Some SelfTest.Starts) s = record { same = refl }
tested_keeps (Some SelfTest.Stops) s = record { same = refl }
tested_keeps None s = itself s

slept_keeps : (t : Option Sleep) (s : Sensor) (now : Time) → Keeps s (slept t s now)
unfolding slept
slept_keeps (Some Sleep.Wakes) s now = record { same = refl }
slept_keeps (Some Sleep.Pauses) s now = record { same = refl }
slept_keeps None s now = itself s

image_keeps : (s : Sensor) (value : ℕ) (now : Time) → Keeps s (image_written s value now)
unfolding image_written
image_keeps s value now = pick (Kinds.copies_image value) (record { same = refl }) (itself s)

put_keeps : (s : Sensor) (address value : ℕ) → Keeps s (put s address value)
put_keeps s address value = record { same = refl }

control_keeps : (s : Sensor) (value : ℕ) (now : Time) → Keeps s (control_written s value now)
control_keeps s value now =
    then (put_keeps s _ _) (then (interrupts_keeps _ value) (then (tested_keeps _ _) (then (slept_keeps _ _ now) (image_keeps _ value now))))

mode_keeps : (s : Sensor) (turns : Bool) → Keeps s (mode_written s turns)
unfolding mode_written recounted
mode_keeps s turns = pick turns (record { same = refl }) (itself s)

operation_keeps : (s : Sensor) (value : ℕ) → Keeps s (operation_written s value)
operation_keeps s value = then (record { same = refl }) (mode_keeps _ _)

-- every write but a soft reset
unfoldable pub Ordinary : WriteKind → Type 0
Ordinary WriteKind.Ignored = Unit {0}
Ordinary WriteKind.Stored = Unit {0}
Ordinary (WriteKind.Taken Effect.Reset) = ⊥
Ordinary (WriteKind.Taken Effect.Control) = Unit {0}
Ordinary (WriteKind.Taken Effect.Measurement) = Unit {0}
Ordinary (WriteKind.Taken Effect.Operation) = Unit {0}
Ordinary (WriteKind.Taken Effect.Durations) = Unit {0}
Ordinary (WriteKind.Taken Effect.Plain) = Unit {0}

register_effect_keeps : (e : Effect) (s : Sensor) (address value : ℕ) (now : Time) → Ordinary (WriteKind.Taken e) → Keeps s (register_effect e s address value now)
unfolding register_effect Ordinary
register_effect_keeps Effect.Reset s address value now h = absurd h
register_effect_keeps Effect.Control s address value now h = control_keeps s value now
register_effect_keeps Effect.Measurement s address value now h = record { same = refl }
register_effect_keeps Effect.Operation s address value now h = operation_keeps s value
register_effect_keeps Effect.Durations s address value now h = record { same = refl }
register_effect_keeps Effect.Plain s address value now h = record { same = refl }

pub then_automatic_keeps : (e : Effect) (s : Sensor) (address value : ℕ) (now : Time) → Ordinary (WriteKind.Taken e) → Keeps s (then_automatic e s address value now)
then_automatic_keeps e s address value now h = then (register_effect_keeps e s address value now h) (automatic_keeps _ now _ false)

-- ---- reads, select and the output

pub fetched_keeps : (v : Option ℕ) (s : Sensor) (address : ℕ) → Keeps s (fetched v s address).sensor
unfolding fetched
fetched_keeps (Some b) s address = record { same = refl }
fetched_keeps None s address = record { same = refl }

pub byte_read_keeps : (t : Option ℕ) (s : Sensor) (address : ℕ) → Keeps s (byte_read t s address)
unfolding byte_read
byte_read_keeps None s address = itself s
byte_read_keeps (Some b) s address = pick (counts_as_read s address) (record { same = refl }) (itself s)

pub rise_synced_keeps : (s : Sensor) (now : Time) → Keeps s (rise_synced s now)
rise_synced_keeps s now = rise_synced_met now Keeps (on_demand now) s

pub pins_synced_keeps : (s : Sensor) (e : Edge) (now : Time) → Keeps s (pins_synced s e now)
pins_synced_keeps s e now = pins_synced_met now Keeps (on_demand now) s e

pub fall_synced_keeps : (s : Sensor) (now : Time) → Keeps s (fall_synced s now)
fall_synced_keeps s now = fall_synced_met now Keeps (on_demand now) s

-- ---- the steps of a due call but the end of a write

pub pause_ended_keeps : (s : Sensor) (now : Time) → Keeps s (pause_ended s now)
unfolding pause_ended
pause_ended_keeps s now = pick (is_at s.deadlines.pause now) (record { same = refl }) (itself s)

image_ended_keeps : (s : Sensor) (now : Time) → Keeps s (image_ended s now)
unfolding image_ended
image_ended_keeps s now = pick (is_at s.deadlines.image now) (record { same = refl }) (itself s)

wake_ended_keeps : (s : Sensor) (now : Time) → Keeps s (wake_ended s now)
unfolding wake_ended
wake_ended_keeps s now = pick (is_at s.deadlines.wake now) (record { same = refl }) (itself s)

sample_ended_keeps : (s : Sensor) (now : Time) → Keeps s (sample_ended s now)
unfolding sample_ended
sample_ended_keeps s now = pick (sample_due_now s now) (record { same = refl }) (itself s)

sample_keeps : (s : Sensor) (now : Time) (was hold : Bool) → Keeps s (sample_served s now was hold)
sample_keeps s now was hold = then (sample_ended_keeps s now) (automatic_keeps _ now was _)

pub scalars_keeps : (s : Sensor) (now : Time) (was hold : Bool) → Keeps s (sample_served (wake_ended (image_ended s now) now) now was hold)
scalars_keeps s now was hold = then (image_ended_keeps s now) (then (wake_ended_keeps _ now) (sample_keeps _ now was hold))

-- ---- a warm return's wake

pub waits_served_keeps : (s : Sensor) (now : Time) → Keeps s (reacquired s now)
unfolding reacquired
waits_served_keeps s now = pick s.sampling.asleep (itself s) (record { same = refl })
