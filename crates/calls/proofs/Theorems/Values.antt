-- The number fixes what a call answers.
use Rattle.std.specs.Prelude.{ℕ, ◌≡◌, refl, false, cond, eqb, Ok, Err}
use Rattle.std.proofs.Common.{sym, ap, ◌∙◌}
use Rattle.calls.specs.declared.types.Refusal.{Refusal}
use Rattle.calls.specs.Table.{Outcome, refusal_number, number}

-- the refusal that has a number, and what is answered with one
abbrev refusal : ℕ → Refusal
refusal n =
    cond (eqb n 1) Refusal.ImageLength
    (cond (eqb n 2) Refusal.AxisRange
    (cond (eqb n 3) Refusal.TimeLimit
    (cond (eqb n 4) Refusal.TimeBack
    (cond (eqb n 5) Refusal.DueFirst
    (cond (eqb n 6) Refusal.NotDue
    (cond (eqb n 7) Refusal.Command (cond (eqb n 8) Refusal.PinJump Refusal.ReservedCode)))))))

abbrev outcome : ℕ → Outcome
outcome n = cond (eqb n 0) (Ok tt) (Err (refusal n))

outcome_number : (o : Outcome) → outcome (number o) ≡ o
unfolding number refusal_number
outcome_number (Ok _) = refl
outcome_number (Err Refusal.ImageLength) = refl
outcome_number (Err _) = refl

pub number_injective : (a b : Outcome) → number a ≡ number b → a ≡ b
number_injective a b p = sym (outcome_number a) ∙ ap outcome p ∙ outcome_number b

-- no refusal has the number 0
pub refused_number : (why : Refusal) → eqb (refusal_number why) 0 ≡ false
unfolding refusal_number
refused_number Refusal.ImageLength = refl
refused_number _ = refl
