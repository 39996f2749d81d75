-- When a bit crosses, and the mask of crossed bits, put together bit by bit.
use mathlib.Core.Path.{◌≡◌, refl, ap, ◌∙◌}
use mathlib.Core.Bool.{Bool, true, false}
use Prim.Native.Nat.{ℕ, zero, suc, ◌+◌, ◌*◌, ◌%◌, ◌^◌, ◌≤◌, ◌<◌}
use native.Mathlib.Nat.{mul-le-mul_right, one-mul, pow-suc}
use native.Mathlib.Numerals.{add-one}
use native.Mathlib.Omega.{arith}
use lib.Pow.{shl_exact}
use lib.Bits.{bit_or, or_shifted_r}
use mir.Val.{bool_byte}
use Rattle.nv.specs.Cell.{crossing, bits_where}
use Rattle.std.proofs.Common.{◌/◌, add-mul, mul_assoc, mul_comm, lit<}
use Rattle.std.proofs.Math.Nat.{add-mul-div_right}
use Rattle.laws.specs.Bytes.{bit_value}

-- a product by 65536, from the quotient and the remainder of one factor
pub crossing_is : (d t : ℕ) → d * t / 65536 ≡ crossing d t
unfolding crossing
crossing_is d t =
    let q : d ≡ d / 65536 * 65536 + d % 65536 = omega arith in
    let e : d * t ≡ d % 65536 * t + d / 65536 * t * 65536 =
    ap (λ (n : ℕ). n * t) q ∙ omega (arith, add-mul (d / 65536 * 65536) (d % 65536) t, mul_assoc (d / 65536) 65536 t, mul_comm 65536 t, mul_assoc (d / 65536) t 65536) in
    ap (λ (n : ℕ). n / 65536) e ∙ add-mul-div_right (d % 65536 * t) (d / 65536 * t) (lit< tt) ∙ omega arith

pub bit_value_lt : (t : Bool) → bit_value t < 2
bit_value_lt true = omega arith
bit_value_lt false = omega arith

pub bits_lt : (n : ℕ) (f : ℕ → Bool) → bits_where n f < 2 ^ n
unfolding bits_where
bits_lt zero f = omega arith
bits_lt (suc n) f =
    let l : bit_value (f n) ≤ 1 = omega (arith, bit_value_lt (f n)) in
    omega (arith, bits_lt n f, mul-le-mul_right (2 ^ n) l, one-mul (2 ^ n), pow-suc 2 n)

-- a bit is put above the lower ones
put : (m b n : ℕ) → m < 2 ^ n → b < 2 → n < 8 → bit_or m (b * 2 ^ n % 2 ^ 8) ≡ m + b * 2 ^ n
put m b n p q r =
    let e : b * 2 ^ n % 2 ^ 8 ≡ b * 2 ^ n = shl_exact 1 n 8 q (omega arith) in
    rw (e, or_shifted_r b n m p) (omega arith)

-- a cast of a bit
cast : (t : Bool) → bool_byte t ≡ bit_value t
cast true = refl
cast false = refl

-- one turn of the loop over the bits
pub turn : (f : ℕ → Bool) (n m : ℕ) (t : Bool) → n < 8 → m ≡ bits_where n f → t ≡ f n → bit_or m (bool_byte t * 2 ^ n % 2 ^ 8) ≡ bits_where (n + 1) f
unfolding bits_where
turn f n m t r p q =
    let e : bool_byte t ≡ bit_value (f n) = cast t ∙ ap bit_value q in
    let l : bool_byte t < 2 = rw e (bit_value_lt (f n)) in
    let h : m < 2 ^ n = rw p (bits_lt n f) in
    rw add-one (put m (bool_byte t) n h l r ∙ cc)
