-- Lists of codes and the floor of their mean.
use Rattle.std.specs.Prelude.{ℕ, zero, suc, ◌+◌, ◌-◌, ◌%◌, List, [], ◌∷◌, take, get_or, ℤ, pos, ◌+ℤ◌}
use Rattle.std.specs.Int.Signed.{shr_z}

-- the list of f 0, f 1, .. f (n - 1)
unfoldable pub tabulate : ℕ → (ℕ → ℤ) → List ℤ
tabulate zero f = []
tabulate (suc n) f = f zero ∷ tabulate n (λ k. f (suc k))

-- a ring of 64 codes from `base` on, newest first, where the newest stands at `at` (the Rust's rule, `(next + 63 - n) & 63`)
unfoldable pub ring : (history : List ℤ) (base at : ℕ) → List ℤ
ring history base at = tabulate 64 (λ k. get_or history (base + (at + 64 - k) % 64) (pos 0))

-- the sum of codes
unfoldable pub sumZ : List ℤ → ℤ
sumZ [] = pos 0
sumZ (x ∷ xs) = x +ℤ sumZ xs

-- the floor of the mean of the first `window` codes (01, "Filtered sample"); shr_z is the floor by `mean_is_floor` of proofs/Floor
unfoldable pub mean : (window : ℕ) (codes : List ℤ) → ℤ
mean window codes = shr_z (sumZ (take window codes)) window
