-- A table of marked rows, and the computed check of one.
use Rattle.std.specs.Prelude.{ℕ, Bool, true, false, ◌&&◌, List, [], ◌∷◌, eqb, ℤ, pos, negsuc}

-- the row's number, the value computed from a definition, and the value that 01 prints
pub record Row : Type 0 where
  pub number : ℕ
  pub computed : ℤ
  pub printed : ℤ

-- yes and no as values of a row
abbrev pub answer : Bool → ℤ
answer true = pos 1
answer false = pos 0

abbrev pub same : ℤ → ℤ → Bool
same (pos m) (pos n) = eqb m n
same (pos m) (negsuc n) = false
same (negsuc m) (pos n) = false
same (negsuc m) (negsuc n) = eqb m n

-- every row's two values are the same
abbrev pub all : List Row → Bool
all [] = true
all (row ∷ rows) = same row.computed row.printed && all rows
