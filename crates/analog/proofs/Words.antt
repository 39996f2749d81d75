-- Numbers of 128 bits: what a quotient and the lowest 64 bits of one are.
use Rattle.std.proofs.Math.Nat.{div-div-eq-div-mul, div-le_self}
use Rattle.std.proofs.Common.{refl, le_trans, ◌+ℤ◌, ◌-ℤ◌, Bool, true, false, ◌*ℤ◌, sym, mul-pos, ltb-true, ◌≡◌, ℕ, suc, ◌+◌, ◌-◌, ◌*◌, ◌/◌, ◌%◌, ◌^◌, ◌<◌, ◌≤◌, ℤ, pos, negsuc, nat_abs, bit_and, ap, ◌∙◌, div-lt_iff_lt-mul, mul-le-mul_left, add-mul, one-mul, mul-one, arith, lit<, lt_trans, FitsSigned, to_z, of_z}
use lib.Signed.{lt_z, quot_z}
use mir.Syntax.{w128}
use Rattle.std.proofs.lemmas.Int.{to_z_pos}
use Rattle.std.proofs.lemmas.Nat.{and_mask}
use Rattle.analog.specs.Round.{round, bits_64, signed}
use Rattle.analog.specs.Decay.{unit}
use Rattle.analog.proofs.Held.{wide, Is, itself, natural, plus, minus, over, read}
use Rattle.analog.proofs.Theorems.Near.{abs_round, round_signed}

-- the lowest 64 bits of 128
pub low_bits : (z : ℤ) (b : ℕ) → FitsSigned w128 z → b ≡ of_z w128 z → bit_and b 18446744073709551615 ≡ bits_64 z
unfolding bits_64
low_bits (pos n) b f e = ap (λ (m : ℕ). bit_and m 18446744073709551615) e ∙ and_mask n 64
low_bits (negsuc n) b f e =
    let l : n < 2 ^ 127 = f.sfits in
    let r : (2 ^ 128 - suc n) % 2 ^ 64 ≡ 2 ^ 64 - 1 - n % 2 ^ 64 = omega arith in
    ap (λ (m : ℕ). bit_and m 18446744073709551615) e ∙ and_mask (2 ^ 128 - suc n) 64 ∙ r

-- a rounded number is no larger
pub round_le : (n : ℤ) (d : ℕ) → 0 < d → nat_abs (round n d) ≤ nat_abs n
round_le n d p =
    let m = nat_abs n in
    let h : m * 1 ≤ m * d = mul-le-mul_left m p in
    let q : (m + d / 2) / d < m + 1 = (div-lt_iff_lt-mul p).1 (omega (arith, add-mul m 1 d, one-mul d, mul-one m)) in
    rw (abs_round n d) (omega arith)

-- a product of the series, by its size: first by 2^48, and then by n
module _ (m n : ℕ) (z : 0 < n) where
  abbrev pub by_both : ℕ
  by_both = (m + n * 2 ^ 47) / 2 ^ 48 / n

  -- it is by 2^48 · n
  at_once : (m + unit * n / 2) / (unit * n) ≡ by_both
  at_once = let half : unit * n / 2 ≡ n * 2 ^ 47 = omega arith in rw half (sym (div-div-eq-div-mul (m + n * 2 ^ 47) (2 ^ 48) n))

  pub round_size : (s : Bool) → round (signed s m) (unit * n) ≡ signed s by_both
  round_size s = round_signed s m (unit * n) (mul-pos (lit< tt) z) ∙ ap (signed s) at_once

-- a number times one without a sign, by its size
pub product_below : (x : ℤ) (k : ℕ) → lt_z x (pos 0) ≡ true → x *ℤ pos k ≡ signed true (nat_abs x * k)
product_below (pos m) k t = absurd (omega (arith, ltb-true m 0 t))
product_below (negsuc m) k t = refl

pub product_above : (x : ℤ) (k : ℕ) → lt_z x (pos 0) ≡ false → x *ℤ pos k ≡ signed false (nat_abs x * k)
product_above (pos m) k t = refl
product_above (negsuc m) k t = let z : ◌≡◌ {A = ℕ} 0 1 = cc in absurd (omega arith)

-- `round` of the code: half of the divisor away from zero, and then the quotient
module _ (n : ℤ) (d : ℕ) (p : nat_abs n ≤ 2 ^ 126) (z : 0 < d) (l : d < 2 ^ 64) where
  whole : Is (wide n) n (2 ^ 126)
  whole = read (itself n (2 ^ 126) p) tt

  half : Is (to_z w128 (d / 2)) (pos (d / 2)) (2 ^ 63)
  half = natural (d / 2) (2 ^ 63) (omega arith) tt

  abbrev pub Rounded : (x : ℤ) → Type 0
  Rounded x = (wide (quot_z x (to_z w128 d)) ≡ round n d) × (nat_abs (wide (quot_z x (to_z w128 d))) ≤ nat_abs n)

  -- a dividend y, which the code has as x
  rounded : {x y : ℤ} → Is x y (2 ^ 126 + 2 ^ 63) → quot_z y (pos d) ≡ round n d → Rounded x
  rounded h e =
      let q = over d (to_z_pos w128 d (lt_trans l (lit< tt))) z h in
      let r = read (record { is = q.is; le = le_trans q.le (div-le_self (2 ^ 126 + 2 ^ 63) d) }) tt in
      let f = r.is ∙ e in
      (f, rw f (round_le n d z))

  pub rounded_below : (x : ℤ) → x ≡ wide (wide n -ℤ to_z w128 (d / 2)) → lt_z n (pos 0) ≡ true → Rounded x
  unfolding round
  rounded_below x e t = let h = read (minus whole half) tt in rounded (record { is = e ∙ h.is; le = h.le }) (rw t)

  pub rounded_above : (x : ℤ) → x ≡ wide (wide n +ℤ to_z w128 (d / 2)) → lt_z n (pos 0) ≡ false → Rounded x
  unfolding round
  rounded_above x e t = let h = read (plus whole half) tt in rounded (record { is = e ∙ h.is; le = h.le }) (rw t)
