-- Next due of a sensor from its start on: its first scan, and the end of a running write.
use Rattle.sensor.specs.Operation.{Operation, stored_write}
use Rattle.std.specs.Prelude.{ℕ, ◌+◌, ◌^◌, ◌<◌, ◌≡◌, refl, Bool, true, false, cond, List, Option, Some, None}
use Rattle.std.proofs.Common.{arith, ◌∙◌, lit<}
use Rattle.std.proofs.Math.Path.{ap}
use Rattle.time.specs.declared.Time.{Time}
use Rattle.time.specs.Time.{ticks, lasts, plus, precedes, from_millis}
use Rattle.nv.specs.Cell.{write_length}
use Rattle.deadlines.specs.Deadlines.{is_set, is_by, sooner, first, earliest}
use Rattle.deadlines.specs.declared.Deadlines.{Deadlines}
use Rattle.deadlines.proofs.Theorems.Earliest.{sooner_never}
use Rattle.control.specs.Lengths.{acquisition_delay}
use Rattle.sensor.specs.declared.types.Outage.{Outage}
use Rattle.sensor.specs.declared.types.Sensor.{Sensor}
use Rattle.sensor.specs.Record.{away, is_off, automatic}
use Rattle.samples.specs.Samples.{samples_run, next_sample, write_end, sample_due, next_deadline, interaction_deadline}
use Rattle.happens.specs.Theorems.Moments.{not_by}
use Rattle.happens.specs.Theorems.Holding.{Held}
use Rattle.happens.specs.Theorems.Writes.{Awake, Asleep}

-- without samples next due is the first of the waits and the end of a write
no_sample_due : (s : Sensor) (b : Bool) → samples_run s ≡ false → sample_due s b ≡ None
unfolding sample_due next_sample
no_sample_due s true e = rw e
no_sample_due s false e = refl

due_is : (s : Sensor) → is_off s ≡ false → samples_run s ≡ false → interaction_deadline s ≡ earliest s.deadlines None (write_end s.writing)
unfolding next_deadline
due_is s on e = rw (on, no_sample_due s (automatic s) e)

-- the sooner of two that are later is later
sooner_later : (now t : Time) (d : Option Time) → is_by (Some t) now ≡ false → is_by d now ≡ false → is_by (sooner (Some t) (sooner d None)) now ≡ false
unfolding sooner is_by
sooner_later now t (Some u) p q = by (precedes u t)
  where
    by : (b : Bool) → is_by (cond b (Some u) (Some t)) now ≡ false
    by true = q
    by false = p
sooner_later now t None p q = p

-- without a write none ends
pub idle_undue : {o : Operation} → o ≡ None → (now : Time) → is_by (write_end o) now ≡ false
unfolding is_by write_end
idle_undue e now = rw e

module _ {t : Time} (high : t.0 < 2 ^ 32) (low : t.1 < 2 ^ 64) where
  -- the first scan begins later
  wakes_later : is_by (Some (plus t (acquisition_delay (from_millis 3)))) t ≡ false
  unfolding is_by
  wakes_later = not_by t (lasts (acquisition_delay (from_millis 3))) high low (lit< tt) (ticks t) (omega arith)

  -- a write ends later
  pub ends_later : (now : Time) (a x : ℕ) → ticks now < ticks t + write_length → is_by (write_end (Some (stored_write t a x))) now ≡ false
  unfolding is_by write_end
  ends_later now a x l = not_by t write_length high low (lit< tt) (ticks now) l

  -- so one that begins now is not over
  pub running_undue : {o : Operation} {a x : ℕ} → o ≡ Some (stored_write t a x) → is_by (write_end o) t ≡ false
  running_undue {o} {a} {x} e = ap (λ (k : Operation). is_by (write_end k) t) e ∙ ends_later t a x (omega arith)

  module _ {image : List ℕ} {selected : Bool} {s : Sensor} (h : Awake t image selected s) where
    awake_on : is_off s ≡ false
    unfolding away
    awake_on = ap (λ (o : Option Outage). away o) h.on

    awake_unsampled : samples_run s ≡ false
    unfolding samples_run is_set away
    awake_unsampled = rw (h.on, h.awake, h.waits)

    -- an awake sensor stands still at its start
    pub awake_held : is_by (write_end s.writing) t ≡ false → Held t s
    unfolding earliest first sooner
    awake_held w = record {
      on = awake_on;
      ready = ap (λ (d : Deadlines). d.serial_ready) h.waits;
      loud = ap (λ (d : Deadlines). d.quiet) h.waits;
      unsampled = awake_unsampled;
      undue = ap (λ (d : Option Time). is_by d t) (due_is s awake_on awake_unsampled)
          ∙ ap (λ (d : Deadlines). is_by (earliest d None (write_end s.writing)) t) h.waits
          ∙ sooner_later t (plus t (acquisition_delay (from_millis 3))) (write_end s.writing) wakes_later w;
    }

module _ {image : List ℕ} {selected : Bool} {s : Sensor} (h : Asleep image selected s) where
  asleep_on : is_off s ≡ false
  unfolding away
  asleep_on = ap (λ (o : Option Outage). away o) h.on

  asleep_unsampled : samples_run s ≡ false
  unfolding samples_run away
  asleep_unsampled = rw (h.on, h.asleep)

  -- a sleeping one stands still until its write ends
  pub asleep_held : (now : Time) → is_by (write_end s.writing) now ≡ false → Held now s
  unfolding earliest first sooner
  asleep_held now w = record {
    on = asleep_on;
    ready = ap (λ (d : Deadlines). d.serial_ready) h.waits;
    loud = ap (λ (d : Deadlines). d.quiet) h.waits;
    unsampled = asleep_unsampled;
    undue = ap (λ (d : Option Time). is_by d now) (due_is s asleep_on asleep_unsampled)
        ∙ ap (λ (d : Deadlines). is_by (earliest d None (write_end s.writing)) now) h.waits
        ∙ ap (λ (d : Option Time). is_by d now) (sooner_never (write_end s.writing))
        ∙ w;
  }
