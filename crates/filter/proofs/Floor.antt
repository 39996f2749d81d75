-- The answer of `mean` is the floor of the mean.
use mathlib.Core.Path.{◌≡◌, ap}
use mathlib.Core.List.{List}
use Prim.Native.Nat.{ℕ, zero, suc, ◌+◌, ◌-◌, ◌*◌, ◌/◌, ◌%◌, ◌<◌}
use native.Mathlib.Nat.{div-add-mod', mod-lt, suc-mul}
use native.Mathlib.Omega.{arith}
use lib.IntN.{ℤ, pos, negsuc, neg_ℤ, ◌+ℤ◌, ◌*ℤ◌}
use lib.ListN.{take}
use lib.Signed.{shr_z}
use borrow.Author.Tests.{lt-ltb}
use Rattle.filter.specs.Mean.{sumZ, mean}

-- q is the floor of z / m: z is q times m and a rest from 0 to m - 1
pub record IsFloor (z : ℤ) (m : ℕ) (q : ℤ) : Type 0 where
  pub rest : ℕ
  pub small : rest < m
  pub whole : q *ℤ pos m +ℤ pos rest ≡ z

-- -(n + 1) is -(n / m + 1) times m, and m - 1 - n % m
negative : (a n r : ℕ) → a ≡ suc (n + r) → neg_ℤ (pos a) +ℤ pos r ≡ negsuc n
negative zero n r e = absurd (omega arith)
negative (suc a) n r e = rw (lt-ltb r (suc a) (omega arith)) (ap negsuc (omega arith))

pub shr_is_floor : (z : ℤ) (m : ℕ) → 0 < m → IsFloor z m (shr_z z m)
shr_is_floor (pos n) m p = record { rest = n % m; small = mod-lt n p; whole = ap pos (div-add-mod' n m) }
shr_is_floor (negsuc n) m p =
    let l : n % m < m = mod-lt n p in
    record {
      rest = m - 1 - n % m;
      small = omega arith;
      whole = negative (suc (n / m) * m) n (m - 1 - n % m) (omega (arith, suc-mul (n / m) m, div-add-mod' n m));
    }

-- the mean of the first `window` codes
pub mean_is_floor : (window : ℕ) (codes : List ℤ) → 0 < window → IsFloor (sumZ (take window codes)) window (mean window codes)
unfolding mean
mean_is_floor window codes p = shr_is_floor (sumZ (take window codes)) window p
