-- How far a signed number reaches, and that a number which a width holds is read back from its bits.
use Rattle.std.specs.Prelude.{◌≡◌, Bool, true, false, cond, ℕ, zero, suc, ◌+◌, ◌-◌, ◌*◌, ◌/◌, ◌^◌, ◌≤◌, ◌<◌, T, leb, ltb, ℤ, pos, negsuc, neg_ℤ, ◌+ℤ◌, ◌-ℤ◌, ◌*ℤ◌}
use Rattle.std.proofs.Common.{div-le_self, mul-le-mul_right, suc-mul, div-lt_iff_lt-mul, lt_of_lt_of_le, arith, leb→le, lit<, ltb-false}
use Rattle.std.proofs.Math.IntN.{sub_ℕ}
use Rattle.std.specs.Int.Signed.{mag, shr_z, quot_z, lt_z, non_neg}
use Rattle.std.specs.Int.{Width}
use mir.Val.{to_z, of_z, SFits, hbits}
use Rattle.std.proofs.lemmas.Int.{to_z-of_z}

-- z lies from -N to N - 1. A record, so that z and N are inferred from it
pub record Reach (z : ℤ) (N : ℕ) : Type 0 where
  pub reach : mag z < N

-- ---- a width holds it
pub holds : {w : Width} {z : ℤ} {N : ℕ} → Reach z N → T (leb N (2 ^ hbits w)) → SFits w z
holds {w} {z} {N} r t = record { sfits = lt_of_lt_of_le r.reach (leb→le N (2 ^ hbits w) t) }

pub back : (w : Width) {z : ℤ} {N : ℕ} → Reach z N → T (leb N (2 ^ hbits w)) → to_z w (of_z w z) ≡ z
back w {z} r t = to_z-of_z w z (holds r t)

pub of_fits : {w : Width} {z : ℤ} → SFits w z → Reach z (2 ^ hbits w)
of_fits p = record { reach = p.sfits }

-- ---- operations
pub reach_pos : (n N : ℕ) → n < N → Reach (pos n) N
reach_pos n N p = record { reach = p }

mag_cond : (t : Bool) (m n N : ℕ) → m < N → n < N → mag (cond t (negsuc m) (pos n)) < N
mag_cond true m n N p q = p
mag_cond false m n N p q = q

mag_sub : (a b N : ℕ) → a < N → b ≤ N → mag (sub_ℕ a b) < N
mag_sub a b N p q = mag_cond (ltb a b) (b - suc a) (a - b) N (omega arith) (omega arith)

mag_add : (a b : ℤ) (A B : ℕ) → mag a < A → mag b < B → mag (a +ℤ b) < A + B
mag_add (pos a) (pos b) A B p q = omega arith
mag_add (pos a) (negsuc b) A B p q = mag_sub a (suc b) (A + B) (omega arith) (omega arith)
mag_add (negsuc a) (pos b) A B p q = mag_sub b (suc a) (A + B) (omega arith) (omega arith)
mag_add (negsuc a) (negsuc b) A B p q = omega arith

pub reach_add : {a b : ℤ} {A B : ℕ} → Reach a A → Reach b B → Reach (a +ℤ b) (A + B)
reach_add {a} {b} {A} {B} p q = record { reach = mag_add a b A B p.reach q.reach }

mag_neg : (z : ℤ) → mag (neg_ℤ z) ≤ suc (mag z)
mag_neg (pos zero) = omega arith
mag_neg (pos (suc n)) = omega arith
mag_neg (negsuc n) = omega arith

pub reach_neg : {z : ℤ} {N : ℕ} → Reach z N → Reach (neg_ℤ z) (N + 1)
reach_neg {z} {N} p = record { reach = omega (arith, mag_neg z, p.reach) }

pub reach_sub : {a b : ℤ} {A B : ℕ} → Reach a A → Reach b B → Reach (a -ℤ b) (A + (B + 1))
reach_sub p q = reach_add p (reach_neg q)

mag_negpos : (n N : ℕ) → n ≤ N → 0 < N → mag (neg_ℤ (pos n)) < N
mag_negpos zero N p q = q
mag_negpos (suc n) N p q = p

mag_mul : (z : ℤ) (N k : ℕ) → mag z < N → 0 < k → mag (z *ℤ pos k) < N * k
mag_mul (pos n) N k p q =
    let h : suc n * k ≤ N * k = mul-le-mul_right k p in
    omega (arith, suc-mul n k)
mag_mul (negsuc n) N k p q =
    let h : suc n * k ≤ N * k = mul-le-mul_right k p in
    mag_negpos (suc n * k) (N * k) h (omega (arith, suc-mul n k))

pub reach_mul : {z : ℤ} {N : ℕ} (k : ℕ) → Reach z N → T (ltb 0 k) → Reach (z *ℤ pos k) (N * k)
reach_mul {z} {N} k p t = record { reach = mag_mul z N k p.reach (lit< t) }

mag_quot : (z : ℤ) (d N : ℕ) → mag z < N → mag (quot_z z (pos d)) < N
mag_quot (pos n) d N p = omega (arith, div-le_self n d)
mag_quot (negsuc n) d N p = mag_negpos (suc n / d) N (omega (arith, div-le_self (suc n) d)) (omega arith)

pub reach_quot : {z : ℤ} {N : ℕ} (d : ℕ) → Reach z N → Reach (quot_z z (pos d)) N
reach_quot {z} {N} d p = record { reach = mag_quot z d N p.reach }

mag_shr : (z : ℤ) (m N : ℕ) → 0 < m → mag z < N * m → mag (shr_z z m) < N
mag_shr (pos a) m N z p = (div-lt_iff_lt-mul z).1 p
mag_shr (negsuc a) m N z p = (div-lt_iff_lt-mul z).1 p

pub reach_shr : {z : ℤ} (m N : ℕ) → 0 < m → Reach z (N * m) → Reach (shr_z z m) N
reach_shr {z} m N q p = record { reach = mag_shr z m N q p.reach }

-- ---- tests, and the sign
pub nonneg : (z : ℤ) → lt_z z (pos 0) ≡ false → T (non_neg z)
nonneg (pos n) e = tt
nonneg (negsuc n) e = let q : ◌≡◌ {A = ℕ} 0 1 = cc in absurd (omega arith)

-- held between two tests
pub between : (z : ℤ) (lo hi : ℕ) → lt_z z (negsuc lo) ≡ false → lt_z (pos hi) z ≡ false → hi ≤ lo → Reach z (lo + 1)
between (pos n) lo hi p q h = record { reach = omega (arith, ltb-false hi n q) }
between (negsuc n) lo hi p q h = record { reach = omega (arith, ltb-false lo n p) }
