-- The code's numbers: x, as goals write it, is the number z that the definitions name, of a size of at most N.
use Rattle.std.proofs.Common.{◌≡◌, ℕ, suc, negsuc, arith, lit≤, w32, ◌+◌, ◌*◌, ◌/◌, ◌^◌, ◌<◌, ◌≤◌, T, leb, leb→le, ltb, ltb→lt, le_trans, le_of_lt, ℤ, pos, ◌+ℤ◌, ◌-ℤ◌, ◌*ℤ◌, nat_abs, ap, refl, ◌∙◌, lt_of_le_of_lt, w64, FitsSigned, to_z, of_z}
use lib.IntN.{neg_ℤ, +ℤ_idl}
use lib.Signed.{mag, quot_z}
use mir.Syntax.{w128}
use Rattle.std.proofs.lemmas.Int.{to_z-of_z, to_z_pos, fits_signed_from_abs}
use Rattle.analog.proofs.Theorems.Near.{abs_neg}
use Rattle.analog.proofs.Theorems.Sizes.{abs_add, abs_sub, abs_mul_le, abs_round_le, div_mono}
use Rattle.analog.specs.Round.{round}
use Rattle.analog.specs.Axis.{signal, target}

-- what is read back of 128 bits, and of 64
abbrev pub wide : ℤ → ℤ
wide z = to_z w128 (of_z w128 z)

abbrev pub word : ℤ → ℤ
word z = to_z w64 (of_z w64 z)

-- x is z, and z at most N
pub record Is (x z : ℤ) (N : ℕ) : Type 0 where
  pub is : x ≡ z
  pub le : nat_abs z ≤ N

-- a number is itself
pub itself : (z : ℤ) (N : ℕ) → nat_abs z ≤ N → Is z z N
itself z N p = record { is = refl; le = p }

-- ---- operations

-- sums, differences and products
pub plus : {x y z w : ℤ} {M N : ℕ} → Is x z M → Is y w N → Is (x +ℤ y) (z +ℤ w) (M + N)
plus {x} {y} {z} {w} {M} {N} p q = record { is = λ i. p.is i +ℤ q.is i; le = abs_add z w M N p.le q.le }

pub minus : {x y z w : ℤ} {M N : ℕ} → Is x z M → Is y w N → Is (x -ℤ y) (z -ℤ w) (M + N)
minus {x} {y} {z} {w} {M} {N} p q = record { is = λ i. p.is i -ℤ q.is i; le = abs_sub z w M N p.le q.le }

pub times : {x y z w : ℤ} {M N : ℕ} → Is x z M → Is y w N → Is (x *ℤ y) (z *ℤ w) (M * N)
times {x} {y} {z} {w} {M} {N} p q = record { is = λ i. p.is i *ℤ q.is i; le = abs_mul_le z w M N p.le q.le }

-- the opposite
pub opposite : {x z : ℤ} {N : ℕ} → Is x z N → Is (pos 0 -ℤ x) (neg_ℤ z) N
opposite {x} {z} {N} p = record { is = ap (λ (y : ℤ). pos 0 -ℤ y) p.is ∙ +ℤ_idl (neg_ℤ z); le = rw (abs_neg z) p.le }

-- a quotient by a number without a sign, which is held as y
abs_quot : (z : ℤ) (d : ℕ) → nat_abs (quot_z z (pos d)) ≡ nat_abs z / d
abs_quot (pos n) d = refl
abs_quot (negsuc n) d = abs_neg (pos (suc n / d))

pub over : {x z y : ℤ} {N : ℕ} (d : ℕ) → y ≡ pos d → 0 < d → Is x z N → Is (quot_z x y) (quot_z z (pos d)) (N / d)
over {x} {z} {y} {N} d e l p = record { is = λ i. quot_z (p.is i) (e i); le = rw (abs_quot z d) (div_mono (nat_abs z) N d l p.le) }

-- ---- words

-- 128 bits hold it, and 64
pub fits : {x z : ℤ} {N : ℕ} → Is x z N → T (ltb N (2 ^ 127)) → FitsSigned w128 x
fits {x} {z} {N} p t = rw p.is (fits_signed_from_abs w128 z (lt_of_le_of_lt p.le (ltb→lt N (2 ^ 127) t)))

pub fits_64 : {x z : ℤ} {N : ℕ} → Is x z N → T (ltb N (2 ^ 63)) → FitsSigned w64 x
fits_64 {x} {z} {N} p t = rw p.is (fits_signed_from_abs w64 z (lt_of_le_of_lt p.le (ltb→lt N (2 ^ 63) t)))

-- so it is read back
pub read : {x z : ℤ} {N : ℕ} → Is x z N → T (ltb N (2 ^ 127)) → Is (wide x) z N
read {x} {z} {N} p t = record { is = to_z-of_z w128 x (fits p t) ∙ p.is; le = p.le }

pub read_64 : {x z : ℤ} {N : ℕ} → Is x z N → T (ltb N (2 ^ 63)) → Is (word x) z N
read_64 {x} {z} {N} p t = record { is = to_z-of_z w64 x (fits_64 p t) ∙ p.is; le = p.le }

-- a bound in the code
pub within : {x z : ℤ} {N : ℕ} (M : ℕ) → Is x z N → T (leb N M) → nat_abs x ≤ M
within {x} {z} {N} M p t = rw p.is (le_trans p.le (leb→le N M t))

-- a number without a sign
pub natural : (n N : ℕ) → n ≤ N → T (ltb N (2 ^ 127)) → Is (to_z w128 n) (pos n) N
natural n N p t = record { is = to_z_pos w128 n (lt_of_le_of_lt p (ltb→lt N (2 ^ 127) t)); le = p }

pub natural_64 : (n N : ℕ) → n ≤ N → T (ltb N (2 ^ 63)) → Is (to_z w64 n) (pos n) N
natural_64 n N p t = record { is = to_z_pos w64 n (lt_of_le_of_lt p (ltb→lt N (2 ^ 63) t)); le = p }

-- a number that `round` of the code returns
pub rounded : {x z : ℤ} {N : ℕ} (d : ℕ) (r : ℤ) → r ≡ round x d → 0 < d → Is x z N → Is r (round z d) ((N + d / 2) / d)
rounded {x} {z} {N} d r e o p = record { is = e ∙ ap (λ (y : ℤ). round y d) p.is; le = abs_round_le z d N o p.le }

-- a size is at most one more than a reach
abs_mag : (z : ℤ) → nat_abs z ≤ suc (mag z)
abs_mag (pos n) = omega arith
abs_mag (negsuc n) = omega arith

-- a word of the code's records or arguments, widened
pub stored : (z : ℤ) → FitsSigned w64 z → Is (wide (word z)) z (2 ^ 63)
stored z f =
    let l : nat_abs z ≤ 2 ^ 63 = le_trans (abs_mag z) f.sfits in
    let h : Is (word z) z (2 ^ 63) = record { is = to_z-of_z w64 z f; le = l } in
    read h tt

-- the code's target
pub aimed : (input y : ℤ) → FitsSigned w32 input → y ≡ target (to_z w32 (of_z w32 input)) → Is y (target input) (2 ^ 55)
aimed input y f e =
    let k = to_z-of_z w32 input f in
    let l : nat_abs input ≤ 2 ^ 31 = le_trans (abs_mag input) f.sfits in
    record { is = e ∙ ap target k; le = abs_mul_le input (pos signal) (2 ^ 31) (2 ^ 24) l (lit≤ tt) }

-- a part of the factors, widened
pub part : (z : ℤ) → nat_abs z < 2 ^ 56 → Is (wide (word z)) z (2 ^ 56)
part z p = read (read_64 (itself z (2 ^ 56) (le_of_lt p)) tt) tt
