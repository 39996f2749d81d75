-- A step of 8 ms or more lands on the input, from any state.
use Rattle.std.specs.Prelude.{◌≡◌, ℕ, suc, ◌+◌, ◌-◌, ◌*◌, ◌/◌, ◌^◌, ◌≤◌, Bool, true, false, not, ◌||◌, ltb, ℤ, pos, negsuc, ◌+ℤ◌, ◌-ℤ◌, ◌*ℤ◌, neg_ℤ, FitsSigned, ◌≢◌, nat_eq, nat_lt, unsigned_abs, refl, if◌then◌else◌}
use Rattle.std.proofs.Common.{sym, ap, ◌∙◌, le_antisymm, lt_of_le_of_lt, mul-le-mul_right, lt_trans, arith, lit<, lit≤, ltb-false, ne_eqb, le-ltb}
use Rattle.std.proofs.lemmas.Bool.{false≢true, not-true}
use Rattle.std.proofs.Math.IntN.{zero-*ℤ, +ℤ_idr}
use Rattle.std.specs.Int.Signed.{nat_abs-le}
use Rattle.std.specs.Int.{w32}
use Rattle.std.proofs.Math.Facts.{sfits_lit}
use Rattle.time.specs.declared.Time.{Time}
use Rattle.time.specs.Time.{lasts, time, since}
use Rattle.analog.specs.declared.types.Axis.{Axis}
use Rattle.analog.specs.Round.{round, low_64, bits_64, signed_64}
use Rattle.analog.specs.Decay.{unit, settling, factors, nothing}
use Rattle.analog.specs.Axis.{signal, target, same, stands_on, resumed, stepped, advanced, value}
use Rattle.analog.proofs.Theorems.Near.{round_pos, round_signed}
use Rattle.analog.proofs.Theorems.Sizes.{abs_mul, low_keeps, low_keeps_abs, both_true}
use Rattle.analog.proofs.Theorems.Bounds.{decay_nothing}
use Rattle.analog.proofs.Theorems.Common.{factors_are_decay}

-- neither of two tests holds
neither : (a b : Bool) → a || b ≡ false → (a ≡ false) × (b ≡ false)
neither true b e = absurd (false≢true (sym e))
neither false b e = (refl, e)

-- naturals of which neither is less are the same
same_nats : (a b : ℕ) → not (nat_lt a b || nat_lt b a) ≡ true → a ≡ b
same_nats a b e =
    let h = neither (nat_lt a b) (nat_lt b a) (not-true (nat_lt a b || nat_lt b a) e) in
    le_antisymm (ltb-false b a h.1) (ltb-false a b h.0)

-- integers that pass the test are the same
pub same_true : (a b : ℤ) → same a b ≡ true → a ≡ b
same_true (pos a) (pos b) e = ap pos (same_nats a b e)
same_true (pos a) (negsuc b) e = absurd (false≢true e)
same_true (negsuc a) (pos b) e = absurd (false≢true e)
same_true (negsuc a) (negsuc b) e = ap negsuc (sym (same_nats b a e))

-- an integer passes it with itself
pub same_refl : (a : ℤ) → same a a ≡ true
same_refl (pos a) = let e : ltb a a ≡ false = le-ltb a a (omega arith) in rw e
same_refl (negsuc a) = let e : ltb a a ≡ false = le-ltb a a (omega arith) in rw e

-- an axis that stands on the input has its output and no velocity
pub settled_true : (a : Axis) (input : ℤ) → stands_on a input ≡ true → (a.output ≡ target input) × (a.velocity ≡ pos 0)
settled_true a input e =
    let h = both_true (same a.output (target input)) (same a.velocity (pos 0)) e in
    (same_true a.output (target input) h.0, same_true a.velocity (pos 0) h.1)

-- an input's size
pub input_size : (input : ℤ) → FitsSigned w32 input → unsigned_abs input ≤ 2 ^ 31
input_size input f = nat_abs-le input f.sfits

-- a target's size
pub target_size : (input : ℤ) → FitsSigned w32 input → unsigned_abs (target input) ≤ 2 ^ 55
target_size input f = rw (abs_mul input (pos signal)) (mul-le-mul_right signal (input_size input f))

-- 64 bits keep a target
pub target_keeps : (input : ℤ) → FitsSigned w32 input → low_64 (target input) ≡ target input
target_keeps input f = low_keeps_abs (target input) (lt_of_le_of_lt (target_size input f) (lit< tt))

-- nothing is rounded to nothing
round_zero : round (pos 0) unit ≡ pos 0
unfolding round
round_zero = refl

-- the output is the target
nothing_output : (t d v : ℤ) → low_64 (t +ℤ round (pos 0 *ℤ d +ℤ pos 0 *ℤ v) unit) ≡ low_64 t
nothing_output t d v = rw (zero-*ℤ d, zero-*ℤ v, round_zero, +ℤ_idr t)

-- the velocity is 0
nothing_velocity : (d v : ℤ) → low_64 (round (pos 0 *ℤ v -ℤ pos 0 *ℤ d) unit) ≡ pos 0
unfolding round bits_64 signed_64
nothing_velocity d v = rw (zero-*ℤ d, zero-*ℤ v)

-- an axis from its parts
pub same_parts : (now : Time) {o p v w : ℤ} → o ≡ p → v ≡ w
    → ◌≡◌ {A = Axis} (record { at = now; output = o; velocity = v }) (record { at = now; output = p; velocity = w })
same_parts now e f = cc (e, f)

-- so the step lands
stepped_nothing : (a : Axis) (now : Time) (input : ℤ) → FitsSigned w32 input
    → stepped a now input nothing ≡ record { at = now; output = target input; velocity = pos 0 }
unfolding stepped
stepped_nothing a now input f =
    let d = a.output -ℤ target input in
    same_parts now (nothing_output (target input) d a.velocity ∙ target_keeps input f) (nothing_velocity d a.velocity)

-- a multiple with a half more is rounded down to it
exact : (n : ℕ) → (n * 2 ^ 24 + 2 ^ 24 / 2) / 2 ^ 24 ≡ n
exact n = omega arith

-- a target is read back as its input
pub round_target : (input : ℤ) → round (target input) signal ≡ input
round_target (pos n) = round_pos (n * 2 ^ 24) signal ∙ ap pos (exact n)
round_target (negsuc n) = round_signed true (suc n * 2 ^ 24) signal (lit< tt) ∙ ap (λ (k : ℕ). neg_ℤ (pos k)) (exact (suc n))

-- so does `value`
pub value_target : (a : Axis) (input : ℤ) → a.output ≡ target input → FitsSigned w32 input → value a ≡ input
unfolding value
value_target a input e f =
    ap (λ z. low_64 (round z signal)) e ∙ ap low_64 (round_target input)
    ∙ low_keeps input (lt_trans f.sfits (lit< tt))

-- the step is taken, or the axis stands there already
lands : (a : Axis) (now : Time) (input : ℤ) → settling ≤ lasts (since now a.at) → FitsSigned w32 input
    → advanced a now input ≡ record { at = now; output = target input; velocity = pos 0 }
unfolding advanced
lands a now input p f =
    let none : nat_eq (lasts (since now a.at)) 0 ≡ false = ne_eqb (lasts (since now a.at)) 0 (positive (lasts (since now a.at)) p) in
    rw none (go (stands_on a input) refl)
  where
    positive : (n : ℕ) → settling ≤ n → n ≢ 0
    positive n p e = omega arith

    go : (b : Bool) → stands_on a input ≡ b
        → (if b then resumed a now else stepped a now input (factors (lasts (since now a.at)))) ≡ record { at = now; output = target input; velocity = pos 0 }
    go true e = let h = settled_true a input e in same_parts now h.0 h.1
    go false e =
        ap (stepped a now input) (factors_are_decay (lasts (since now a.at)) ∙ decay_nothing (lasts (since now a.at)) p)
        ∙ stepped_nothing a now input f

-- the promise: one step of 8 ms or more, from any state
pub long_step_lands : (a : Axis) (now : Time) (input : ℤ) → 8 * 2 ^ 64 / 1000 ≤ lasts (since now a.at) → FitsSigned w32 input
    → (advanced a now input ≡ record { at = now; output = target input; velocity = pos 0 }) × (value (advanced a now input) ≡ input)
long_step_lands a now input p f =
    let e = lands a now input p f in
    (e, value_target (advanced a now input) input (ap (λ (x : Axis). x.output) e) f)

-- such a step: 8 ms from time 0, at the ends of the ranges
farthest : Axis
farthest = record { at = time 0; output = pos (2 ^ 63 - 1); velocity = negsuc (2 ^ 63 - 1) }

-- the theorem holds of it
such_a_step : (settling ≤ lasts (since (time settling) farthest.at)) × (value (advanced farthest (time settling) (negsuc (2 ^ 31 - 1))) ≡ negsuc (2 ^ 31 - 1))
unfolding farthest
such_a_step = (lit≤ tt, (long_step_lands farthest (time settling) (negsuc (2 ^ 31 - 1)) (lit≤ tt) (sfits_lit tt)).1)
