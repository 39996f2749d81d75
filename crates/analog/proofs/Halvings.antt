-- The halvings of an angle, and the squarings that undo them.
use Rattle.std.proofs.Common.{◌≡◌, ℕ, zero, suc, ◌+◌, ◌-◌, ◌*◌, ◌/◌, ◌^◌, ◌<◌, ◌≤◌, ◌⊎◌, refl, ap, ◌∙◌, inl, inr, le_trans, lt_of_le_of_lt, mul_assoc, arith, lit<, lit≤}
use native.Mathlib.Nat.{pow-succ'}
use Rattle.laws.specs.Iterate.{iterate}
use Rattle.analog.specs.Decay.{series, squared, reduced}
use Rattle.analog.specs.Theorems.Bounds.{Below}
use Rattle.analog.proofs.Theorems.Bounds.{terms_small, squares_small, reduced_stays, reduced_halves}

-- one step more, taken first or last
iterate_first : {A : Type 0} (n : ℕ) (f : A → A) (x : A) → iterate n f (f x) ≡ iterate (n + 1) f x
unfolding iterate
iterate_first zero f x = refl
iterate_first (suc n) f x = let e : suc (n + 1) ≡ suc n + 1 = omega arith in ap f (iterate_first n f x) ∙ ap (λ (k : ℕ). iterate k f x) e

-- what holds after some halvings: what is left to square, and how large the angle is
pub record Halving (angle a squares : ℕ) : Type 0 where
  pub is : reduced 10 angle ≡ iterate squares squared (reduced (10 - squares) a)
  pub within : a ≤ 2 ^ (10 - squares) * 2 ^ 44
  pub few : squares ≤ 10
  pub large : (squares ≡ 0) ⊎ (2 ^ 43 ≤ a)

-- before the first
pub none : (angle : ℕ) → angle < 2 ^ 54 → Halving angle angle 0
unfolding iterate
none angle p = record { is = refl; within = omega arith; few = omega arith; large = inl refl }

-- the limit of one halving more is half
limit_half : (k : ℕ) → 2 ^ suc k * 2 ^ 44 ≡ 2 * (2 ^ k * 2 ^ 44)
limit_half k = ap (λ (n : ℕ). n * 2 ^ 44) (pow-succ' 2 k) ∙ mul_assoc 2 (2 ^ k) (2 ^ 44)

module _ (angle a squares : ℕ) (h : Halving angle a squares) where
  -- an angle above a sixteenth is not halved ten times yet
  pub left : 2 ^ 44 < a → squares < 10
  left p = go (10 - squares) refl h.within
    where
      go : (k : ℕ) → 10 - squares ≡ k → a ≤ 2 ^ k * 2 ^ 44 → squares < 10
      go zero e l = absurd (omega arith)
      go (suc k) e l = omega arith

  -- one more
  pub one_more : 2 ^ 44 < a → Halving angle (a / 2) (squares + 1)
  one_more p =
      let l = left p in
      let k = 10 - (squares + 1) in
      let e : 10 - squares ≡ suc k = omega arith in
      let w : a ≤ 2 * (2 ^ k * 2 ^ 44) = rw (← limit_half k, ← e) h.within in
      record {
        is = h.is ∙ ap (λ (n : ℕ). iterate squares squared (reduced n a)) e ∙ ap (iterate squares squared) (reduced_halves k a p)
            ∙ iterate_first squares squared (reduced k (a / 2));
        within = omega arith;
        few = omega arith;
        large = inr (omega arith);
      }

  -- and no more: what is left is to square the series
  pub enough : a ≤ 2 ^ 44 → reduced 10 angle ≡ iterate squares squared (series a)
  enough p = h.is ∙ ap (iterate squares squared) (reduced_stays (10 - squares) a p)

-- a series that is not squared
series_below : (a : ℕ) → a ≤ 2 ^ 44 → Below (iterate 0 squared (series a))
unfolding iterate
series_below a p =
    let h = terms_small a 12 p (lit≤ tt) in
    (lt_of_le_of_lt h.2 (lit< tt), lt_of_le_of_lt h.3 (lit< tt))

-- every square on the way is small
pub all_below : (a squares : ℕ) → a ≤ 2 ^ 44 → squares ≤ 10 → (squares ≡ 0) ⊎ (2 ^ 43 ≤ a) → (k : ℕ) → k ≤ squares → Below (iterate k squared (series a))
all_below a squares p q (inl e) k l = let z : k ≡ 0 = omega arith in rw z (series_below a p)
all_below a squares p q (inr e) k l = squares_small a k (le_trans l q) e p
