-- What a phase leaves of an acquisition, for any part of it that neither the criteria nor the count of scans changes.
use Prim.Native.Nat.{ℕ, zero, suc, ◌-◌, ◌<◌}
use native.Mathlib.Omega.{arith}
use Rattle.std.specs.Prelude.{◌≡◌, ◌&&◌, List, Option, Some, None}
use Rattle.std.proofs.Math.Path.{refl}
use Rattle.std.proofs.Common.{◌∙◌}
use Rattle.std.proofs.Math.Dec.{eqb}
use borrow.Author.Tests.{ne_eqb}
use Rattle.std.proofs.lemmas.Bool.{cond_both}
use Rattle.laws.specs.Iterate.{iterate}
use Rattle.interrupts.specs.declared.Interrupts.{Interrupts}
use Rattle.sampling.specs.declared.types.Input.{Input}
use Rattle.sampling.specs.declared.types.Acquisition.{Acquisition}
use Rattle.sampling.specs.Phase as Phase

-- the self test counted down
abbrev pub counted_down : Acquisition → Acquisition
counted_down c = Phase.with_sampling c (Phase.with_test c.sampling (Phase.test_counted c.sampling.test))

counted_off : (t : Option ℕ) → t ≡ None → Phase.test_counted t ≡ None
unfolding Phase.test_counted
counted_off t e = rw e

counted_on : (t : Option ℕ) (left : ℕ) → t ≡ Some left → Phase.test_counted t ≡ Some (Phase.one_less left)
unfolding Phase.test_counted
counted_on t left e = rw e

-- a property that neither the criteria nor the count of scans changes
module _ (P : Acquisition → Type 0)
    (interrupts : (c : Acquisition) (i : Interrupts) → P c → P (Phase.with_interrupts c i))
    (counts : (c : Acquisition) → P c → P (Phase.counted c))
    (input : Input) (needs : List ℕ)
  where
    scanned_kept : (c : Acquisition) (axis : ℕ) → P c → P (Phase.scanned c axis needs)
    unfolding Phase.scanned Phase.observed
    scanned_kept c axis h =
        let d = Phase.counted c in
        cond_both (eqb axis 2) _ _ P (λ e. cond_both (Phase.observing d.registers d.sampling) _ _ P (λ f. interrupts d _ (counts c h)) (λ f. counts c h)) (λ e. h)

    ticked_kept : (c : Acquisition) → P c → P (Phase.ticked c)
    unfolding Phase.ticked
    ticked_kept c h = cond_both (Phase.ticks_now c) _ _ P (λ e. interrupts c _ h) (λ e. h)

    -- that no other step of an edge changes either
    module _ (counts_down : (c : Acquisition) → P c → P (counted_down c)) (warms : (c : Acquisition) → P c → P (Phase.warmed c input))
        (measures : (c : Acquisition) (axis : ℕ) → axis < 3 → P c → P (Phase.measured c input axis)) (ends : (c : Acquisition) → P c → P (Phase.test_ended c))
      where
        axis_kept : (t : Option ℕ) (c : Acquisition) (phase : ℕ) → phase < 4 → P c → P (Phase.axis_phase t c input phase needs)
        unfolding Phase.axis_phase
        axis_kept None c phase small h = scanned_kept (Phase.measured c input (phase - 1)) (phase - 1) (measures c (phase - 1) (omega arith) h)
        axis_kept (Some left) c phase small h = cond_both (eqb phase 3 && eqb left 0) _ _ P (λ e. ends c h) (λ e. h)

        phase_kept : (c : Acquisition) → P c → P (Phase.sample_phase c input needs)
        unfolding Phase.sample_phase
        phase_kept c h =
            cond_both (eqb (Phase.phase_of c.sampling.clock.ordinal) 0) _ _ P (λ e. warms _ (counts_down c h))
            (λ e. axis_kept (Phase.test_counted c.sampling.test) _ (Phase.phase_of c.sampling.clock.ordinal) (omega arith) (counts_down c h))

        pub sample_kept : (c : Acquisition) → P (Phase.advanced c) → P (Phase.sample input needs c)
        unfolding Phase.sample
        sample_kept c h = ticked_kept _ (phase_kept (Phase.advanced c) h)

module _ {A : Type 0} (part : Acquisition → A)
    (interrupts_apart : (c : Acquisition) (i : Interrupts) → part (Phase.with_interrupts c i) ≡ part c)
    (count_apart : (c : Acquisition) → part (Phase.counted c) ≡ part c)
    (input : Input) (needs : List ℕ)
  where
    abbrev Same : Acquisition → Acquisition → Type 0
    Same c d = part d ≡ part c

    pub ticked_same : (c : Acquisition) → part (Phase.ticked c) ≡ part c
    ticked_same c = ticked_kept (Same c) (λ d i e. interrupts_apart d i ∙ e) (λ d e. count_apart d ∙ e) input needs c refl

    -- a phase of an axis, without a self test and with one
    axis_measures : (t : Option ℕ) (c : Acquisition) (axis : ℕ) → t ≡ None → part (Phase.axis_phase t c input (suc axis) needs) ≡ part (Phase.measured c input axis)
    unfolding Phase.axis_phase
    axis_measures t c axis e =
        let k : suc axis - 1 ≡ axis = omega arith in
        let m = Phase.measured c input axis in
        rw (e, k) (scanned_kept (Same m) (λ d i h. interrupts_apart d i ∙ h) (λ d h. count_apart d ∙ h) input needs m axis refl)

    axis_tests : (t : Option ℕ) (c : Acquisition) (left phase : ℕ) → t ≡ Some left → part (Phase.test_ended c) ≡ part c → part (Phase.axis_phase t c input phase needs) ≡ part c
    unfolding Phase.axis_phase
    axis_tests t c left phase e q = rw e (cond_both (eqb phase 3 && eqb left 0) _ _ (Same c) (λ h. q) (λ h. refl))

    pub phase_measures : (c : Acquisition) (axis : ℕ) → Phase.phase_of c.sampling.clock.ordinal ≡ suc axis → c.sampling.test ≡ None
        → part (Phase.sample_phase c input needs) ≡ part (Phase.measured (counted_down c) input axis)
    unfolding Phase.sample_phase
    phase_measures c axis p e = rw (p, ne_eqb (suc axis) 0 (λ h. absurd (omega (arith, h)))) (axis_measures (Phase.test_counted c.sampling.test) _ axis (counted_off _ e))

    pub phase_warms : (c : Acquisition) → Phase.phase_of c.sampling.clock.ordinal ≡ 0 → part (Phase.sample_phase c input needs) ≡ part (Phase.warmed (counted_down c) input)
    unfolding Phase.sample_phase
    phase_warms c p = rw p

    pub phase_tests : (c : Acquisition) (left : ℕ) → c.sampling.test ≡ Some left
        → part (Phase.warmed (counted_down c) input) ≡ part c → part (counted_down c) ≡ part c → part (Phase.test_ended (counted_down c)) ≡ part (counted_down c)
        → part (Phase.sample_phase c input needs) ≡ part c
    unfolding Phase.sample_phase
    phase_tests c left e warm down end =
        cond_both (eqb (Phase.phase_of c.sampling.clock.ordinal) 0) _ _ (Same c) (λ z. warm)
        (λ z. axis_tests (Phase.test_counted c.sampling.test) _ (Phase.one_less left) (Phase.phase_of c.sampling.clock.ordinal) (counted_on _ left e) end ∙ down)

    -- a part that no step of an edge changes stays over any number of edges
    module _ (advances : (c : Acquisition) → part (Phase.advanced c) ≡ part c) (counts_down : (c : Acquisition) → part (counted_down c) ≡ part c)
        (warms : (c : Acquisition) → part (Phase.warmed c input) ≡ part c) (measures : (c : Acquisition) (axis : ℕ) → axis < 3 → part (Phase.measured c input axis) ≡ part c)
        (ends : (c : Acquisition) → part (Phase.test_ended c) ≡ part c)
      where
        pub sample_same : (c : Acquisition) → part (Phase.sample input needs c) ≡ part c
        sample_same c =
            sample_kept (Same c) (λ d i e. interrupts_apart d i ∙ e) (λ d e. count_apart d ∙ e) input needs
            (λ d e. counts_down d ∙ e) (λ d e. warms d ∙ e) (λ d axis p e. measures d axis p ∙ e) (λ d e. ends d ∙ e) c (advances c)

        pub samples_same : (n : ℕ) (c : Acquisition) → part (Phase.samples n c input needs) ≡ part c
        unfolding iterate
        samples_same zero c = refl
        samples_same (suc n) c = sample_same (Phase.samples n c input needs) ∙ samples_same n c
