-- The first row found, for any table.
use Rattle.std.specs.Prelude.{ℕ, ◌<◌, ◌≡◌, Bool, ◌⊎◌}
use Rattle.std.proofs.Common.{arith, ◌∙◌}
use Rattle.std.proofs.Math.Path.{refl, sym}
use Rattle.std.proofs.Math.Bool.{true, false, cond}
use Rattle.std.proofs.Math.Logic.{inl, inr}
use mathlib.Core.List.{List, [], ◌∷◌}
use Rattle.calls.specs.Table.{Row, first_found}

pub never : {B : Type 0} → ◌≡◌ {A = Bool} false true → B
never e = absurd (let z : ◌≡◌ {A = ℕ} 0 1 = cc in omega arith)

-- the numbers of a table's rows, in order
abbrev pub numbers : {A : Type 0} → List (Row A) → List ℕ
numbers [] = []
numbers (r ∷ rs) = r.number ∷ numbers rs

-- ---- where no row is found, no test finds anything

abbrev pub Positive : {A : Type 0} → List (Row A) → Type 0
Positive [] = Unit {0}
Positive (r ∷ rs) = (0 < r.number) × Positive rs

abbrev pub Clear : {A : Type 0} → A → List (Row A) → Type 0
Clear a [] = Unit {0}
Clear a (r ∷ rs) = (r.test a ≡ false) × Clear a rs

pub clear_is : {A : Type 0} (a : A) (rs : List (Row A)) → Positive rs → first_found rs a ≡ 0 → Clear a rs
unfolding first_found
clear_is a [] p e = tt
clear_is {A} a (r ∷ rs) p e = go (λ z. clear_is a rs p.1 z) (r.test a) refl e
  where
    go : (first_found rs a ≡ 0 → Clear a rs) → (b : Bool) → r.test a ≡ b → cond b r.number (first_found rs a) ≡ 0 → Clear a (r ∷ rs)
    go more true q z = absurd (let w : 0 < r.number = p.0 in omega arith)
    go more false q z = (q, more z)

-- ---- the first fault that is there

-- a fault: its number, and that it is there
pub record Fault : Type 1 where
  pub number : ℕ
  pub there : Type 0

abbrev pub fault : ℕ → Type 0 → Fault
fault n P = record { number = n; there = P }

-- n is the number of the first fault that is there, or 0 where there is none
abbrev pub First : List Fault → ℕ → Type 0
First [] n = n ≡ 0
First (f ∷ fs) n = (f.there × (n ≡ f.number)) ⊎ ((f.there → ⊥) × First fs n)

-- a test finds exactly this fault
pub record Tells (P : Type 0) (found : Bool) : Type 0 where
  pub only : found ≡ true → P
  pub whole : P → found ≡ true

-- the rows of a table find exactly these faults, in this order
abbrev pub Finds : {A : Type 0} → A → List (Row A) → List Fault → Type 0
Finds a [] [] = Unit {0}
Finds a [] (f ∷ fs) = ⊥
Finds a (r ∷ rs) [] = ⊥
Finds a (r ∷ rs) (f ∷ fs) = ((r.number ≡ f.number) × Tells f.there (r.test a)) × Finds a rs fs

module _ {A : Type 0} (a : A) where
  pub found_first : (rs : List (Row A)) (fs : List Fault) → Finds a rs fs → First fs (first_found rs a)
  unfolding first_found
  found_first [] [] t = refl
  found_first [] (f ∷ fs) t = absurd t
  found_first (r ∷ rs) [] t = absurd t
  found_first (r ∷ rs) (f ∷ fs) t = go (found_first rs fs t.1) (r.test a) refl
    where
      go : First fs (first_found rs a) → (b : Bool) → r.test a ≡ b → First (f ∷ fs) (cond b r.number (first_found rs a))
      go more true e = inl (t.0.1.only e, t.0.0)
      go more false e = inr (λ p. never (sym e ∙ t.0.1.whole p), more)

  pub first_is_found : (rs : List (Row A)) (fs : List Fault) → Finds a rs fs → (n : ℕ) → First fs n → first_found rs a ≡ n
  unfolding first_found
  first_is_found [] [] t n p = sym p
  first_is_found [] (f ∷ fs) t n p = absurd t
  first_is_found (r ∷ rs) [] t n p = absurd t
  first_is_found (r ∷ rs) (f ∷ fs) t n p = go (λ q. first_is_found rs fs t.1 n q) (r.test a) refl p
    where
      go : (First fs n → first_found rs a ≡ n) → (b : Bool) → r.test a ≡ b → First (f ∷ fs) n → cond b r.number (first_found rs a) ≡ n
      go more true e (inl q) = t.0.0 ∙ sym q.1
      go more true e (inr q) = absurd (q.0 (t.0.1.only e))
      go more false e (inl q) = never (sym e ∙ t.0.1.whole q.0)
      go more false e (inr q) = more q.1
