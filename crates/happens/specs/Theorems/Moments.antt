-- Moments after a start, below the time limit.
use Rattle.std.specs.Prelude.{ℕ, ◌+◌, ◌*◌, ◌^◌, ◌<◌, ◌≤◌, ◌≡◌, false, leb}
use Rattle.std.proofs.Common.{mul-le-mul_right, add-mul, arith, ap, ◌∙◌}
use Rattle.std.proofs.lemmas.Bool.{lt-leb}
use Rattle.time.specs.declared.Time.{Time}
use Rattle.time.specs.Time.{ticks, time}
use Rattle.time.specs.Theorems.Laws.{ticks_time_below}

-- two words and a length below a word's range, over any base
sum_fits : (b h l k : ℕ) → h + 2 ≤ b → l < b → k < b → h * b + l + k < b * b
sum_fits b h l k p q r =
    let e : (h + 2) * b ≡ h * b + 2 * b = add-mul h 2 b in
    let m : (h + 2) * b ≤ b * b = mul-le-mul_right b p in
    omega arith

-- a moment below the limit of whole seconds, and a length of less than a second after it
module _ (t : Time) (k : ℕ) (high : t.0 < 2 ^ 32) (low : t.1 < 2 ^ 64) (short : k < 2 ^ 64) where
  later_fits : ticks t + k < 2 ^ 128
  later_fits = sum_fits (2 ^ 64) t.0 t.1 k (omega arith) low short

  -- the moment so much later is not at or before an earlier one
  pub not_by : (m : ℕ) → m < ticks t + k → leb (ticks (time (ticks t + k))) m ≡ false
  not_by m p = ap (λ (n : ℕ). leb n m) (ticks_time_below (ticks t + k) later_fits) ∙ lt-leb (ticks t + k) m p
