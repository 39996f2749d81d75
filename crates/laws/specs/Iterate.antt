-- A step taken a number of times, and that it may be split anywhere.
use Rattle.std.specs.Prelude.{◌≡◌, ℕ, zero, suc, ◌+◌}
use Rattle.std.proofs.Common.{add-zero, add-suc}

-- `step` taken n times from x
unfoldable pub iterate : {A : Type 0} → ℕ → (A → A) → A → A
iterate zero step x = x
iterate (suc n) step x = step (iterate n step x)

-- m times and then n times more is m + n times
pub iterate_split : {A : Type 0} (m n : ℕ) (step : A → A) (x : A) → iterate (m + n) step x ≡ iterate n step (iterate m step x)
unfolding iterate
iterate_split m zero step x = rw add-zero
iterate_split m (suc n) step x = rw (add-suc, iterate_split m n step x)
