-- What happens to a sensor at a moment leaves no axis of the stage ahead of it, where none was.
use Rattle.std.specs.Prelude.{◌≤◌, ◌≡◌, refl, Bool, Option}
use Rattle.std.proofs.Common.{eqb-true}
use Rattle.std.proofs.Math.Bool.{true}
use Rattle.std.proofs.Math.Nat.{le_of_eq}
use Rattle.std.proofs.lemmas.Bool.{false≢true, cond_both}
use Rattle.laws.specs.Iterate.{iterate}
use Rattle.time.specs.declared.Time.{Time}
use Rattle.time.specs.Time.{ticks}
use Rattle.time.specs.Clock as C
use Rattle.analog.specs.Axis.{Acceleration}
use Rattle.analog.specs.Axis as A
use Rattle.deadlines.specs.Deadlines.{is_at}
use Rattle.control.specs.Lengths.{needs}
use Rattle.sampling.specs.declared.types.Sampling.{Sampling}
use Rattle.sensor.specs.declared.types.Sensor.{Sensor}
use Rattle.sensor.specs.Record.{is_off}
use Rattle.writes.specs.Write.{tested}
use Rattle.samples.specs.Samples.{acquisition, after_edges, samples_run, next_sample, edges_until}
use Rattle.waits.specs.Supply as S
use Rattle.waits.specs.Due.{sample_due_now}
use Rattle.effects.specs.Onward.{Upto, Onward}
use Rattle.effects.specs.Walk.{Steps}
use Rattle.effects.specs.Theorems.Stage.{rest_upto, resumed_upto, held_upto, turned_upto, sample_stands, samples_stand, edges_counted}

module _ (now : Time) where
  -- the edge of a due sample is now
  due_edge : (s : Sensor) → sample_due_now s now ≡ true → ticks (C.next s.sampling.clock) ≤ ticks now
  unfolding next_sample is_at
  due_edge s e =
      cond_both (samples_run s) _ _ (λ (d : Option Time). is_at d now ≡ true → ticks (C.next s.sampling.clock) ≤ ticks now)
      (λ p q. le_of_eq (eqb-true _ _ q)) (λ p q. absurd (false≢true q)) e

  due_upto : (s : Sensor) → sample_due_now s now ≡ true → Onward now s (after_edges s 1)
  unfolding iterate
  due_upto s e = record { onward = λ h. (sample_stands now s.kept.input needs (acquisition s) (due_edge s e) (record { clock = refl; upto = h })).upto }

  edges_upto : (s : Sensor) (inclusive : Bool) → Onward now s (after_edges s (edges_until s now inclusive))
  edges_upto s inclusive = record { onward = λ h. (samples_stand now s.kept.input needs (edges_until s now inclusive) (acquisition s) (edges_counted now s.sampling.clock inclusive) h).upto }

  input_upto : (s : Sensor) (input : Acceleration) → Upto now s.sampling.analog → Upto now (S.turned s input now).analog
  unfolding S.turned
  input_upto s input h = cond_both (is_off s) _ _ (λ (g : Sampling). Upto now g.analog) (λ e. h) (λ e. turned_upto now s.sampling s.kept.input.acceleration input h)

  -- acquisition and a warm return resume, a pause and the loss of supply hold, a soft reset and a cold return rest, a setting turns; nothing else moves the stage
  pub onward : Steps now (Onward now)
  unfolding tested
  onward = record {
    itself = λ s. record { onward = λ h. h };
    then = λ p q. record { onward = λ h. q.onward (p.onward h) };
    edges = λ s inclusive d. edges_upto s inclusive;
    due_edge = due_upto;
    acquires = λ s ready. record { onward = λ h. resumed_upto now s.sampling.analog };
    pauses = λ s. record { onward = λ h. held_upto now s.sampling s.kept.input h };
    holds = λ s. record { onward = λ h. h };
    manual = λ s. record { onward = λ h. h };
    recounts = λ s. record { onward = λ h. h };
    drops_hold = λ s. record { onward = λ h. h };
    resets = λ s. record { onward = λ h. h };
    test_starts = λ s. record { onward = λ h. h };
    test_stops = λ s. record { onward = λ h. h };
    copy_begins = λ s. record { onward = λ h. h };
    controls = λ s value. record { onward = λ h. h };
    operates = λ s value. record { onward = λ h. h };
    measures = λ s value. record { onward = λ h. h };
    soft_resets = λ s. record { onward = λ h. resumed_upto now (A.rest now) };
    lasts = λ s address value k. record { onward = λ h. h };
    puts = λ s address value k. record { onward = λ h. h };
    begins = λ s address value k. record { onward = λ h. h };
    fetches = λ s address b. record { onward = λ h. h };
    drops_read = λ s. record { onward = λ h. h };
    reads = λ s address sent k. record { onward = λ h. h };
    reselects = λ s selected. record { onward = λ h. h };
    shifts = λ s sent. record { onward = λ h. h };
    turns = λ s. record { onward = λ h. h };
    takes = λ s mosi. record { onward = λ h. h };
    sends = λ s sent. record { onward = λ h. h };
    steps = λ s e. record { onward = λ h. h };
    aborts = λ s. record { onward = λ h. h };
    acknowledges = λ s. record { onward = λ h. h };
    launches = λ s byte. record { onward = λ h. h };
    waits_end = λ s. record { onward = λ h. h };
    completes = λ s w o. record { onward = λ h. h };
    copies = λ s. record { onward = λ h. h };
    loads = λ s. record { onward = λ h. h };
    wakes = λ s. record { onward = λ h. h };
    stops = λ s. record { onward = λ h. held_upto now s.sampling s.kept.input h };
    cuts = λ s w o. record { onward = λ h. h };
    goes_off = λ s cold. record { onward = λ h. h };
    meets_zero = λ s o e. record { onward = λ h. h };
    comes_back = λ s o e. record { onward = λ h. h };
    powers_on = λ s o. record { onward = λ h. rest_upto now };
    sets = λ s input. record { onward = λ h. input_upto s input h };
    keeps = λ s k e. record { onward = λ h. h };
  }
