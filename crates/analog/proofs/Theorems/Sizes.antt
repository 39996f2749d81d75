-- Sizes of sums, differences, products and rounded numbers; a number of 64 bits is kept by `low_64`.
use Rattle.std.specs.Prelude.{◌≡◌, ℕ, zero, suc, ◌+◌, ◌-◌, ◌*◌, ◌/◌, ◌%◌, ◌^◌, ◌<◌, ◌≤◌, max, Bool, true, false, ◌&&◌, T, ℤ, pos, negsuc, ◌+ℤ◌, ◌-ℤ◌, ◌*ℤ◌, neg_ℤ, nat_lt, unsigned_abs, refl}
use Rattle.std.proofs.Common.{⊎_elim, le_refl, le_trans, lt_of_le_of_lt, le-div_iff_mul-le, div-mul-le_self, mul-le-mul, mod-eq_of_lt, arith, lt-ltb, le-ltb}
use Rattle.std.proofs.lemmas.Bool.{false≢true}
use Rattle.std.proofs.Math.Nat.{le-max_left, le-max_right, le-suc_iff}
use Rattle.std.specs.Int.Signed.{mag}
use Rattle.analog.specs.Round.{round, bits_64, signed_64, low_64}
use Rattle.analog.proofs.Theorems.Near.{abs_subℕ, abs_neg, abs_round}

-- a quotient grows with its dividend
pub div_mono : (a b d : ℕ) → 0 < d → a ≤ b → a / d ≤ b / d
div_mono a b d z p = (le-div_iff_mul-le z).1 (le_trans (div-mul-le_self a d) p)

-- a sum is at most the sum of the sizes
pub abs_add : (a b : ℤ) (A B : ℕ) → unsigned_abs a ≤ A → unsigned_abs b ≤ B → unsigned_abs (a +ℤ b) ≤ A + B
abs_add (pos a) (pos b) A B p q = omega arith
abs_add (pos a) (negsuc b) A B p q = abs_subℕ a (suc b) (A + B) (omega arith) (omega arith)
abs_add (negsuc a) (pos b) A B p q = abs_subℕ b (suc a) (A + B) (omega arith) (omega arith)
abs_add (negsuc a) (negsuc b) A B p q = omega arith

-- and so is a difference
pub abs_sub : (a b : ℤ) (A B : ℕ) → unsigned_abs a ≤ A → unsigned_abs b ≤ B → unsigned_abs (a -ℤ b) ≤ A + B
abs_sub a b A B p q = abs_add a (neg_ℤ b) A B p (rw (abs_neg b) q)

-- the size of a product
pub abs_mul : (a b : ℤ) → unsigned_abs (a *ℤ b) ≡ unsigned_abs a * unsigned_abs b
abs_mul (pos a) (pos b) = refl
abs_mul (pos a) (negsuc b) = abs_neg (pos (a * suc b))
abs_mul (negsuc a) (pos b) = abs_neg (pos (suc a * b))
abs_mul (negsuc a) (negsuc b) = refl

-- a product is at most the product of the bounds
pub abs_mul_le : (a b : ℤ) (A B : ℕ) → unsigned_abs a ≤ A → unsigned_abs b ≤ B → unsigned_abs (a *ℤ b) ≤ A * B
abs_mul_le a b A B p q = rw (abs_mul a b) (mul-le-mul p q)

-- a rounded number is at most its bound rounded
pub abs_round_le : (n : ℤ) (d N : ℕ) → 0 < d → unsigned_abs n ≤ N → unsigned_abs (round n d) ≤ (N + d / 2) / d
abs_round_le n d N z p = rw (abs_round n d) (div_mono (unsigned_abs n + d / 2) (N + d / 2) d z (omega arith))

-- a square is not negative
square : (z : ℤ) → z *ℤ z ≡ pos (unsigned_abs z * unsigned_abs z)
square (pos n) = refl
square (negsuc n) = refl

-- a difference of naturals is at most the greater
larger : (a b k : ℕ) → a ≤ k → b ≤ k → unsigned_abs (pos a -ℤ pos b) ≤ k
larger a zero k p q = omega arith
larger a (suc b) k p q = abs_subℕ a (suc b) k (omega arith) (omega arith)

-- a difference of squares is at most the greater square
pub abs_squares : (a b : ℤ) (A B : ℕ) → unsigned_abs a ≤ A → unsigned_abs b ≤ B → unsigned_abs (a *ℤ a -ℤ b *ℤ b) ≤ max (A * A) (B * B)
abs_squares a b A B p q =
    rw (square a, square b)
    (larger (unsigned_abs a * unsigned_abs a) (unsigned_abs b * unsigned_abs b) (max (A * A) (B * B))
    (le_trans (mul-le-mul p p) (le-max_left (A * A) (B * B)))
    (le_trans (mul-le-mul q q) (le-max_right (A * A) (B * B))))

-- ---- `as i64` keeps a number of 64 bits

-- a negative number
keeps_below : (n : ℕ) → n < 2 ^ 63 → low_64 (negsuc n) ≡ negsuc n
unfolding bits_64 signed_64
keeps_below n p =
    let e : n % 2 ^ 64 ≡ n = mod-eq_of_lt (omega arith) in
    let f : nat_lt (2 ^ 64 - 1 - n) (2 ^ 63) ≡ false = le-ltb (2 ^ 64 - 1 - n) (2 ^ 63) (omega arith) in
    let g : 2 ^ 64 - 1 - (2 ^ 64 - 1 - n) ≡ n = omega arith in
    rw (e, f, g)

-- a number that is not negative
keeps_above : (n : ℕ) → n < 2 ^ 63 → low_64 (pos n) ≡ pos n
unfolding bits_64 signed_64
keeps_above n p =
    let e : n % 2 ^ 64 ≡ n = mod-eq_of_lt (omega arith) in
    rw (e, lt-ltb n (2 ^ 63) p)

-- any number of 64 bits
pub low_keeps : (z : ℤ) → mag z < 2 ^ 63 → low_64 z ≡ z
low_keeps (pos n) p = keeps_above n p
low_keeps (negsuc n) p = keeps_below n p

-- the reach is at most the size
mag_abs : (z : ℤ) → mag z ≤ unsigned_abs z
mag_abs (pos n) = le_refl n
mag_abs (negsuc n) = omega arith

-- any number of a size below 2^63
pub low_keeps_abs : (z : ℤ) → unsigned_abs z < 2 ^ 63 → low_64 z ≡ z
low_keeps_abs z p = low_keeps z (lt_of_le_of_lt (mag_abs z) p)

-- the greatest number of 64 bits is kept
kept_most : low_64 (pos (2 ^ 63 - 1)) ≡ pos (2 ^ 63 - 1)
unfolding bits_64 signed_64
kept_most = refl

-- and the least
kept_least : low_64 (negsuc (2 ^ 63 - 1)) ≡ negsuc (2 ^ 63 - 1)
unfolding bits_64 signed_64
kept_least = refl

-- ---- a test that holds at each number up to n
unfoldable pub all_to : (n : ℕ) → (ℕ → Bool) → Bool
all_to zero test = test zero
all_to (suc n) test = test (suc n) && all_to n test

-- the first of two tests that hold
pub both_left : (a b : Bool) → T (a && b) → T a
both_left true b t = tt
both_left false b t = t

-- and the second
pub both_right : (a b : Bool) → T (a && b) → T b
both_right true b t = t
both_right false b t = absurd t

-- both of two tests that hold
pub both_true : (a b : Bool) → a && b ≡ true → (a ≡ true) × (b ≡ true)
both_true true b e = (refl, e)
both_true false b e = absurd (false≢true e)

-- a test that holds at each, at one of them
pub at_each : (n : ℕ) (test : ℕ → Bool) → T (all_to n test) → (k : ℕ) → k ≤ n → T (test k)
unfolding all_to
at_each zero test t zero p = t
at_each zero test t (suc k) p = absurd (omega arith)
at_each (suc n) test t k p =
    ⊎_elim
    (λ q. at_each n test (both_right (test (suc n)) (all_to n test) t) k q)
    (λ e. rw e (both_left (test (suc n)) (all_to n test) t))
    (le-suc_iff.0 p)
