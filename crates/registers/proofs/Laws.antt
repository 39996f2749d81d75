-- How far each step of the scaling of a code reaches, and the code of a large acceleration.
use mathlib.Core.Path.{◌≡◌, refl, sym, ◌∙◌, ap}
use mathlib.Core.Bool.{Bool, true, false, cond}
use Prim.Native.Nat.{ℕ, zero, suc, ◌+◌, ◌-◌, ◌*◌, ◌/◌, ◌^◌, ◌≤◌, ◌<◌}
use native.Mathlib.Nat.{le-div_iff_mul-le, mul-le-mul_left}
use native.Mathlib.Omega.{arith}
use lib.Dec.{ltb, eqb}
use Rattle.std.proofs.Common.{lit≤}
use lib.IntN.{ℤ, pos, negsuc, neg_ℤ, ◌+ℤ◌, ◌-ℤ◌, ◌*ℤ◌}
use borrow.Author.Tests.{lt-ltb, le-ltb, ltb-true}
use Rattle.laws.specs.Signed.{Reach, reach_sub, reach_pos, reach_mul, reach_add}
use Rattle.std.specs.Int.{int_max, int_min}
use Rattle.std.proofs.lemmas.Int.{ints}
use lib.Signed.{◌≤ℤ◌}
use Rattle.registers.specs.Codes.{clamped, towards_zero, range_g, scaled, code}

-- ---- the range
pub range_within : (k : ℕ) → (0 < range_g k) × (range_g k ≤ 8)
unfolding range_g
range_within k = go (eqb k 0) (eqb k 1)
  where
    go : (s t : Bool) → (0 < cond s 2 (cond t 4 8)) × (cond s 2 (cond t 4 8) ≤ 8)
    go true t = omega arith
    go false true = omega arith
    go false false = omega arith

pub within_code : (z : ℤ) → negsuc 511 ≤ℤ z → z ≤ℤ pos 511 → Reach z 512
within_code (pos n) p q = record { reach = omega (arith, ints) }
within_code (negsuc n) p q = record { reach = omega (arith, ints) }

-- ---- how far each step of the scaling reaches, between the limits
pub within : (z : ℤ) → negsuc 999999999999 ≤ℤ z → z ≤ℤ pos 1000000000000 → Reach z (1000000000000 + 1)
within (pos n) p q = record { reach = omega (arith, ints) }
within (negsuc n) p q = record { reach = omega (arith, ints) }

module _ (o : ℕ) (ro : o < 2 ^ 16) where
  pub r1 : Reach (pos o -ℤ pos 512) (65536 + (513 + 1))
  r1 = reach_sub (reach_pos o 65536 ro) (reach_pos 512 513 (omega arith))

  pub r2 : Reach ((pos o -ℤ pos 512) *ℤ pos 31250) ((65536 + (513 + 1)) * 31250)
  r2 = reach_mul 31250 r1 tt

  module _ (a : ℤ) (ra : Reach a (1000000000000 + 1)) where
    pub r3 : Reach (a +ℤ (pos o -ℤ pos 512) *ℤ pos 31250) (1000000000000 + 1 + (65536 + (513 + 1)) * 31250)
    r3 = reach_add ra r2

    pub r4 : Reach (scaled a o) ((1000000000000 + 1 + (65536 + (513 + 1)) * 31250) * 512)
    r4 = reach_mul 512 r3 tt

-- ---- a large acceleration: z is k or more, or less than -k
record Above (z : ℤ) (k : ℕ) : Type 0 where
  size : ℕ
  is : z ≡ pos size
  far : k ≤ size

record Below (z : ℤ) (k : ℕ) : Type 0 where
  size : ℕ
  is : z ≡ negsuc size
  far : k ≤ size

above_add : (n k : ℕ) (z : ℤ) (N : ℕ) → Reach z N → k + N ≤ n → Above (pos n +ℤ z) k
above_add n k (pos b) N r p = record { size = n + b; is = refl; far = omega arith }
above_add n k (negsuc b) N r p =
    let e : ltb n (suc b) ≡ false = le-ltb n (suc b) (omega (arith, r.reach)) in
    record { size = n - suc b; is = rw e; far = omega (arith, r.reach) }

below_add : (n k : ℕ) (z : ℤ) (N : ℕ) → Reach z N → k + N ≤ n → Below (negsuc n +ℤ z) k
below_add n k (pos b) N r p =
    let e : ltb b (suc n) ≡ true = lt-ltb b (suc n) (omega (arith, r.reach)) in
    record { size = suc n - suc b; is = rw e; far = omega (arith, r.reach) }
below_add n k (negsuc b) N r p = record { size = suc (n + b); is = refl; far = omega arith }

below_far : {z : ℤ} → Below z (9000000 * 512) → Below z (513 * 8000000)
below_far b = record { size = b.size; is = b.is; far = omega (arith, b.far) }

above_mul : {z : ℤ} {k : ℕ} → Above z k → Above (z *ℤ pos 512) (k * 512)
above_mul {z} {k} a = record { size = a.size * 512; is = rw a.is; far = omega (arith, a.far) }

below_mul : {z : ℤ} {k : ℕ} → Below z k → Below (z *ℤ pos 512) (k * 512)
below_mul {z} {k} b =
    let e : suc b.size * 512 ≡ suc (b.size * 512 + 511) = omega arith in
    record { size = b.size * 512 + 511; is = rw b.is (ap (λ (n : ℕ). neg_ℤ (pos n)) e); far = omega (arith, b.far) }

-- a quotient is large, by each range
large : (n m r : ℕ) → 0 < r → r ≤ 8 → m * 8000000 ≤ n → m ≤ n / (r * 1000000)
large n m r p q h =
    let l : m * (r * 1000000) ≤ m * 8000000 = mul-le-mul_left m (omega arith) in
    (le-div_iff_mul-le {k = r * 1000000} {x = m} {y = n} (omega arith)).1 (omega arith)

above_code : (z : ℤ) (r : ℕ) → 0 < r → r ≤ 8 → Above z (512 * 8000000) → clamped (negsuc 511) (pos 511) (towards_zero z (r * 1000000)) ≡ pos 511
unfolding clamped
above_code z r p q a = rw (a.is, lt-ltb 511 (a.size / (r * 1000000)) (large a.size 512 r p q a.far))

negated : (n : ℕ) → 512 < n → clamped (negsuc 511) (pos 511) (neg_ℤ (pos n)) ≡ negsuc 511
unfolding clamped
negated zero p = absurd (omega arith)
negated (suc n) p = rw (lt-ltb 511 n (omega arith))

below_code : (z : ℤ) (r : ℕ) → 0 < r → r ≤ 8 → Below z (513 * 8000000) → clamped (negsuc 511) (pos 511) (towards_zero z (r * 1000000)) ≡ negsuc 511
below_code z r p q b = rw b.is (negated (suc b.size / (r * 1000000)) (large (suc b.size) 513 r p q (omega (arith, b.far))))

module _ (o : ℕ) (ro : o < 2 ^ 16) (k : ℕ) where
  code_above : (n : ℕ) → 1000000000000 ≤ n → code (pos n) o k ≡ pos 511
  unfolding code
  code_above n p =
      above_code (scaled (pos n) o) (range_g k) (range_within k).0 (range_within k).1
      (above_mul (above_add n 8000000 ((pos o -ℤ pos 512) *ℤ pos 31250) ((65536 + (513 + 1)) * 31250) (r2 o ro) (omega arith)))

  code_below : (n : ℕ) → 999999999999 ≤ n → code (negsuc n) o k ≡ negsuc 511
  unfolding code
  code_below n p =
      below_code (scaled (negsuc n) o) (range_g k) (range_within k).0 (range_within k).1
      (below_far (below_mul (below_add n 9000000 ((pos o -ℤ pos 512) *ℤ pos 31250) ((65536 + (513 + 1)) * 31250) (r2 o ro) (omega arith))))

  -- an acceleration clamped to a million g has the code that it had
  pub code_near : (a : ℤ) → code (clamped (negsuc 999999999999) (pos 1000000000000) a) o k ≡ code a o k
  unfolding clamped
  code_near (pos n) = go (ltb 1000000000000 n) refl
    where
      go : (b : Bool) → ltb 1000000000000 n ≡ b → code (cond b (pos 1000000000000) (pos n)) o k ≡ code (pos n) o k
      go true e = code_above 1000000000000 (lit≤ tt) ∙ sym (code_above n (omega (arith, ltb-true 1000000000000 n e)))
      go false e = refl
  code_near (negsuc n) = go (ltb 999999999999 n) refl
    where
      go : (b : Bool) → ltb 999999999999 n ≡ b → code (cond b (negsuc 999999999999) (negsuc n)) o k ≡ code (negsuc n) o k
      go true e = code_below 999999999999 (lit≤ tt) ∙ sym (code_below n (omega (arith, ltb-true 999999999999 n e)))
      go false e = refl

-- ---- the library's clamp is `held`
pub clamp_is : (lo hi z : ℤ) → lo ≤ℤ hi → int_max lo (int_min z hi) ≡ clamped lo hi z
unfolding clamped
clamp_is lo hi z p = grind (arith, ints)
