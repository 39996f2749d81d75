-- Values and marks at a start, a return, a reset, a wake and an edge of the sample clock.
use Rattle.std.specs.Prelude.{ℕ, zero, suc, ◌+◌, ◌<◌, ◌≡◌, Bool, List, Some, None}
use Rattle.std.proofs.Common.{arith, ◌∙◌, get_or-set_other}
use Rattle.std.proofs.Math.Path.{refl}
use Rattle.std.proofs.Math.ListN.{set}
use Rattle.filter.specs.declared.Filter.{Filter}
use Rattle.registers.specs.Map.{at, acc_lsb, acc_msb, temp, status, control, with_st_result, without_self_test_0}
use Rattle.sampling.specs.declared.types.Input.{Input}
use Rattle.sampling.specs.declared.types.Acquisition.{Acquisition}
use Rattle.sampling.specs.Phase as Phase
use Rattle.sensor.specs.Image.{from_nonvolatile, power_on}
use Rattle.sensor.specs.Mode.{soft_reset}
use Rattle.effects.specs.Marks.{value_in, value, next_phase, converts, Sampled, Passed, Filtered, Marks}
use Rattle.effects.specs.Theorems.Phases.{ticked_same, phase_measures, phase_warms, phase_tests}

-- one of the three axes
pub each : (P : ℕ → Type 0) → P 0 → P 1 → P 2 → (axis : ℕ) → axis < 3 → P axis
each P x y z zero p = x
each P x y z (suc zero) p = y
each P x y z (suc (suc zero)) p = z
each P x y z (suc (suc (suc n))) p = absurd (omega arith)

-- a register that is no acceleration's leaves the values
pub value_apart : (registers : List ℕ) (a v : ℕ) → 8 < a + 1 → (axis : ℕ) → axis < 3 → value_in (set registers a v) axis ≡ value_in registers axis
value_apart registers a v h axis p =
    let low : at (set registers a v) (acc_lsb axis) ≡ at registers (acc_lsb axis) = get_or-set_other registers a (acc_lsb axis) v 0 (λ e. omega (arith, e)) in
    let high : at (set registers a v) (acc_msb axis) ≡ at registers (acc_msb axis) = get_or-set_other registers a (acc_msb axis) v 0 (λ e. omega (arith, e)) in
    rw (low, high)

-- ---- the parts that matter here

abbrev means_of : Acquisition → List Bool
means_of c = c.sampling.means

abbrev filter_of : Acquisition → Filter
filter_of c = c.sampling.filter

abbrev registers_of : Acquisition → List ℕ
registers_of c = c.registers

abbrev shows : (axis : ℕ) → Acquisition → ℕ × ℕ
shows axis c = value_in c.registers axis

module _ (c : Acquisition) (input : Input) (needs : List ℕ) where
  abbrev d : Acquisition
  d = Phase.advanced c

  sampled : (axis : ℕ) → next_phase c ≡ suc axis → c.sampling.test ≡ None → Sampled c (Phase.sample input needs c) axis (converts c input axis)
  unfolding Phase.sample
  sampled axis p e = record {
    registers = ticked_same registers_of (λ k i. refl) (λ k. refl) input needs _ ∙ phase_measures registers_of (λ k i. refl) (λ k. refl) input needs d axis p e;
    means = ticked_same means_of (λ k i. refl) (λ k. refl) input needs _ ∙ phase_measures means_of (λ k i. refl) (λ k. refl) input needs d axis p e;
    filter = ticked_same filter_of (λ k i. refl) (λ k. refl) input needs _ ∙ phase_measures filter_of (λ k i. refl) (λ k. refl) input needs d axis p e;
  }

  warmed : next_phase c ≡ 0 → Passed c (Phase.sample input needs c)
  unfolding Phase.sample
  warmed p =
      let r : (Phase.sample input needs c).registers ≡ set c.registers temp _ = ticked_same registers_of (λ k i. refl) (λ k. refl) input needs _ ∙ phase_warms registers_of (λ k i. refl) (λ k. refl) input needs d p in
      record {
        values = λ axis q. rw r (value_apart c.registers temp _ (omega arith) axis q);
        means = ticked_same means_of (λ k i. refl) (λ k. refl) input needs _ ∙ phase_warms means_of (λ k i. refl) (λ k. refl) input needs d p;
        filter = ticked_same filter_of (λ k i. refl) (λ k. refl) input needs _ ∙ phase_warms filter_of (λ k i. refl) (λ k. refl) input needs d p;
      }

  -- while a self test runs, the registers that change are temp, and at its end 0a and 09
  tested : (left : ℕ) → c.sampling.test ≡ Some left → Passed c (Phase.sample input needs c)
  unfolding Phase.sample
  tested left e = record {
    values = λ axis q. ticked_same (shows axis) (λ k i. refl) (λ k. refl) input needs _
        ∙ phase_tests (shows axis) (λ k i. refl) (λ k. refl) input needs d left e
        (value_apart c.registers temp _ (omega arith) axis q)
        refl
        (value_apart (set c.registers control (without_self_test_0 (at c.registers control))) status (with_st_result (at c.registers status)) (omega arith) axis q
        ∙ value_apart c.registers control (without_self_test_0 (at c.registers control)) (omega arith) axis q);
    means = ticked_same means_of (λ k i. refl) (λ k. refl) input needs _ ∙ phase_tests means_of (λ k i. refl) (λ k. refl) input needs d left e refl refl refl;
    filter = ticked_same filter_of (λ k i. refl) (λ k. refl) input needs _ ∙ phase_tests filter_of (λ k i. refl) (λ k. refl) input needs d left e refl refl refl;
  }

pub marks : Marks
marks = record {
  start_single = λ now image. record { values = each (λ a. value (from_nonvolatile now image) a ≡ (0, 0)) refl refl refl; means = refl; filter = refl };
  return_single = λ s now. record { values = each (λ a. value (power_on s now) a ≡ (0, 0)) refl refl refl; means = refl; filter = refl };
  reset_single = λ s now. record { values = each (λ a. value (soft_reset s now) a ≡ (0, 0)) refl refl refl; means = refl; filter = refl };
  phase = sampled;
  temperature = warmed;
  self_test = tested;
  wake_keeps = λ s now ready. record { values = λ axis p. refl; means = refl; filter = Filtered.anew refl };
}
