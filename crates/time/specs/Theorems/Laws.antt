-- Moments and lengths from their words, and back.
use Rattle.std.specs.Prelude.{◌≡◌, ℕ, ◌+◌, ◌-◌, ◌*◌, ◌/◌, ◌%◌, ◌^◌, ◌<◌, ◌≤◌, min}
use Rattle.std.proofs.Common.{sym, ap, ◌∙◌, sub-le, mod-eq_of_lt, lt_of_le_of_lt, div-le_self, add-zero, mul-add, mul_assoc, arith, lit<}
use Rattle.std.proofs.Math.Nat.{add-mul-div_right}
use Rattle.std.proofs.Math.Arith.{mod-mul, digits_lt}
use Rattle.time.specs.declared.Time.{Time}
use Rattle.time.specs.declared.Duration.{Duration}
use Rattle.time.specs.Time.{ticks, lasts, time, duration}
use Rattle.time.specs.Clock.{edge_ticks}
use Rattle.laws.specs.Words.{digits}

-- the moment of n units has these words, where n is q * 2^64 + l
pub time_of : (q l n : ℕ) → l < 2 ^ 64 → n ≡ q * 2 ^ 64 + l → ◌≡◌ {A = Time} (record { 0 = q % 2 ^ 64; 1 = l }) (time n)
time_of q l n low e = let d = digits (2 ^ 64) q l n low e in cc (d.0, d.1)

-- the same where the high word fits, for a moment and for a length
module _ {q l : ℕ} (n : ℕ) where
  pub time_at : l < 2 ^ 64 → n ≡ q * 2 ^ 64 + l → q < 2 ^ 64 → ◌≡◌ {A = Time} (record { 0 = q; 1 = l }) (time n)
  time_at low e p = let d = digits (2 ^ 64) q l n low e in cc (d.0, d.1, mod-eq_of_lt p)

  pub duration_at : l < 2 ^ 64 → n ≡ q * 2 ^ 64 + l → q < 2 ^ 64 → ◌≡◌ {A = Duration} (record { 0 = q; 1 = l }) (duration n)
  duration_at low e p = let d = digits (2 ^ 64) q l n low e in cc (d.0, d.1, mod-eq_of_lt p)

-- the units of the moment of n units
pub ticks_time : (n : ℕ) → ticks (time n) ≡ n % 2 ^ 128
ticks_time n = sym (mod-mul n (lit< tt) (lit< tt))

-- a number of units below 2^128 is read back from its length and its moment
pub lasts_duration : (n : ℕ) → n < 2 ^ 128 → lasts (duration n) ≡ n
lasts_duration n p = ticks_time n ∙ mod-eq_of_lt p

pub ticks_time_below : (n : ℕ) → n < 2 ^ 128 → ticks (time n) ≡ n
ticks_time_below n p = ticks_time n ∙ mod-eq_of_lt p

-- an edge's units fit two words
pub edge_fits : (n : ℕ) → n < 2 ^ 64 → edge_ticks n < 2 ^ 128
edge_fits n p =
    let q : n * 2 ^ 64 + 0 < 2 ^ 64 * 2 ^ 64 = digits_lt p (lit< tt) in
    lt_of_le_of_lt (div-le_self (n * 2 ^ 64) 12000) (rw add-zero at q)

-- whole seconds hold f edges each
pub seconds_div : (b f k s r : ℕ) → 0 < b → (f * (s * b + r) + k) / b ≡ f * s + (f * r + k) / b
seconds_div b f k s r p =
    let e : f * (s * b + r) + k ≡ f * r + k + f * s * b = omega (arith, mul-add f (s * b) r, mul_assoc f s b) in
    ap (λ (n : ℕ). n / b) e ∙ add-mul-div_right (f * r + k) (f * s) p ∙ omega arith

-- a moment's units fit two words
pub ticks_fits : (h l : ℕ) → h < 2 ^ 64 → l < 2 ^ 64 → h * 2 ^ 64 + l < 2 ^ 128
ticks_fits h l p q = digits_lt p q

-- a sum that is clamped to m, and one that is not
pub held : (m w r : ℕ) → m - w < r → m ≡ min m (w + r)
held m w r p = omega arith

pub not_held : (m w r : ℕ) → w ≤ m → r ≤ m - w → w + r ≡ min m (w + r)
not_held m w r p q = omega arith

-- 12000 times a number, less 1, from the number before it
pub less_one : (x y : ℕ) → y + 1 ≡ x → 12000 * x - 1 ≡ 12000 * y + 11999
less_one x y e = omega arith

-- the length from one moment to a later one is read back
pub lasts_since : (t s : ℕ) → t < 2 ^ 128 → lasts (duration (t - s)) ≡ t - s
lasts_since t s p = lasts_duration (t - s) (lt_of_le_of_lt (sub-le t s) p)
