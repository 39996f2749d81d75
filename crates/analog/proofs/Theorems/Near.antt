-- `round` by sign and size, and that it is the nearest whole number.
use Rattle.std.specs.Prelude.{◌≡◌, ℕ, zero, suc, ◌+◌, ◌-◌, ◌*◌, ◌/◌, ◌<◌, ◌≤◌, Bool, true, false, cond, ℤ, pos, negsuc, ◌-ℤ◌, ◌*ℤ◌, neg_ℤ, nat_lt, unsigned_abs, refl}
use Rattle.std.proofs.Common.{sym, ap, ◌∙◌, zero-add, suc-add, div-mul-le_self, zero-mul, arith, lit<, ltb-true, lt-ltb, le-ltb}
use Rattle.std.proofs.Math.Nat.{div-eq_of_lt, lt-div-mul-add, mul-div_cancel_left}
use Rattle.std.proofs.Math.IntN.{sub_ℕ}
use Rattle.analog.specs.Round.{round, signed}

-- a difference of naturals below 0
sub_below : (a b : ℕ) → a < b → sub_ℕ a b ≡ negsuc (b - suc a)
sub_below a b p = ap (λ t. cond t (negsuc (b - suc a)) (pos (a - b))) (lt-ltb a b p)

-- a negative number less h is further from zero by h
minus : (m h : ℕ) → negsuc m -ℤ pos h ≡ negsuc (m + h)
minus m zero = sub_below 0 (suc m) (omega arith) ∙ ap negsuc (omega arith)
minus m (suc h) = ap negsuc (omega arith)

-- `round` of a number that is not negative
pub round_pos : (m d : ℕ) → round (pos m) d ≡ pos ((m + d / 2) / d)
unfolding round
round_pos m d = rw (le-ltb m 0 (omega arith))

-- `round` of a negative number
pub round_neg : (m d : ℕ) → round (negsuc m) d ≡ neg_ℤ (pos ((suc m + d / 2) / d))
unfolding round
round_neg m d = rw (minus m (d / 2), ← suc-add m (d / 2))

-- the half of a divisor is less than it
half_less : (d : ℕ) → 0 < d → d / 2 < d
half_less d p = omega arith

-- `round` by sign and size
pub round_signed : (negative : Bool) (m d : ℕ) → 0 < d → round (signed negative m) d ≡ signed negative ((m + d / 2) / d)
round_signed false m d p = round_pos m d
round_signed true zero d p =
    let e : (0 + d / 2) / d ≡ 0 = ap (λ (n : ℕ). n / d) (zero-add (d / 2)) ∙ div-eq_of_lt (half_less d p) in
    round_pos 0 d ∙ ap pos e ∙ sym (ap (λ (n : ℕ). neg_ℤ (pos n)) e)
round_signed true (suc m) d p = round_neg m d

-- the size of an opposite number
pub abs_neg : (z : ℤ) → unsigned_abs (neg_ℤ z) ≡ unsigned_abs z
abs_neg (pos zero) = refl
abs_neg (pos (suc n)) = refl
abs_neg (negsuc n) = refl

-- the size of a rounded number
pub abs_round : (n : ℤ) (d : ℕ) → unsigned_abs (round n d) ≡ (unsigned_abs n + d / 2) / d
abs_round (pos m) d = ap unsigned_abs (round_pos m d)
abs_round (negsuc m) d = ap unsigned_abs (round_neg m d) ∙ abs_neg (pos ((suc m + d / 2) / d))

-- the size of a difference of naturals
abs_sub : (t : Bool) (a b k : ℕ) → nat_lt a b ≡ t → a ≤ b + k → b ≤ a + k → unsigned_abs (cond t (negsuc (b - suc a)) (pos (a - b))) ≤ k
abs_sub true a b k e p q = omega (arith, ltb-true a b e)
abs_sub false a b k e p q = omega arith

pub abs_subℕ : (a b k : ℕ) → a ≤ b + k → b ≤ a + k → unsigned_abs (sub_ℕ a b) ≤ k
abs_subℕ a b k p q = abs_sub (nat_lt a b) a b k refl p q

-- the distance of two naturals
pub abs_diff : (a b k : ℕ) → a ≤ b + k → b ≤ a + k → unsigned_abs (pos a -ℤ pos b) ≤ k
abs_diff a zero k p q = omega arith
abs_diff a (suc b) k p q = abs_subℕ a (suc b) k p q

-- the distance of the opposites of two naturals
abs_diff_neg : (a b k : ℕ) → a ≤ suc b + k → suc b ≤ a + k → unsigned_abs (neg_ℤ (pos a) -ℤ negsuc b) ≤ k
abs_diff_neg zero b k p q = omega arith
abs_diff_neg (suc a) b k p q = abs_subℕ (suc b) (suc a) k q p

-- a negative quotient times its divisor
neg_mul : (q d : ℕ) → neg_ℤ (pos q) *ℤ pos d ≡ neg_ℤ (pos (q * d))
neg_mul zero d = ap pos (zero-mul d) ∙ sym (ap (λ (n : ℕ). neg_ℤ (pos n)) (zero-mul d))
neg_mul (suc q) d = refl

-- the rounded quotient times 2 h is at most h from the number
module _ (m h : ℕ) (p : 0 < h) where
  abbrev quotient : ℕ
  quotient = (m + 2 * h / 2) / (2 * h)

  half_is : 2 * h / 2 ≡ h
  half_is = mul-div_cancel_left h (lit< tt)

  not_more : quotient * (2 * h) ≤ m + h
  not_more = omega (arith, half_is, div-mul-le_self (m + 2 * h / 2) (2 * h))

  not_less : m ≤ quotient * (2 * h) + h
  not_less =
      let z : 0 < 2 * h = omega arith in
      let q : m + 2 * h / 2 < quotient * (2 * h) + 2 * h = lt-div-mul-add z in
      omega (arith, half_is)

-- the promise: within half of the divisor
pub round_near : (n : ℤ) (h : ℕ) → 0 < h → unsigned_abs (round n (2 * h) *ℤ pos (2 * h) -ℤ n) ≤ h
round_near (pos m) h p =
    rw (round_pos m (2 * h)) (abs_diff (quotient m h p * (2 * h)) m h (not_more m h p) (not_less m h p))
round_near (negsuc m) h p =
    rw (round_neg m (2 * h), neg_mul (quotient (suc m) h p) (2 * h))
    (abs_diff_neg (quotient (suc m) h p * (2 * h)) m h (not_more (suc m) h p) (not_less (suc m) h p))

-- the bound is met at a tie: 3 / 2 is rounded to 2
tie : round (pos 3) 2 ≡ pos 2
unfolding round
tie = refl

-- and −3 / 2 to −2
tie_below : round (negsuc 2) 2 ≡ negsuc 1
unfolding round
tie_below = refl
