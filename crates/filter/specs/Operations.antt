-- What 01 says of a filter's answers after any operations on it; `answers_as_said` of proofs/Answers joins it to the filter.
use Rattle.std.specs.Prelude.{ℕ, ◌%◌, Bool, not, List, [], ◌∷◌, ltb, eqb, length, ℤ, if◌then◌else◌}
use Rattle.filter.specs.declared.Filter.{Filter}
use Rattle.filter.specs.Mean.{mean}
use Rattle.filter.specs.Filter.{made, selected, pushed}

-- what is done to a filter: a code is pushed on an axis, or a bandwidth selected
pub data Operation : Type 0 where
  push : ℕ → ℤ → Operation
  select : ℕ → Operation

-- ---- the filter
-- a new filter after operations, of which the list has the latest first
unfoldable pub after : (bandwidth : ℕ) → List Operation → Filter
after bandwidth [] = made bandwidth
after bandwidth (push axis code ∷ earlier) = pushed (after bandwidth earlier) axis code
after bandwidth (select b ∷ earlier) = selected (after bandwidth earlier) b

-- ---- 01's words
-- the codes that were pushed on an axis, newest first
unfoldable pub codes_on : (axis : ℕ) → List Operation → List ℤ
codes_on axis [] = []
codes_on axis (push a code ∷ earlier) = if eqb (a % 3) (axis % 3) then code ∷ codes_on axis earlier else codes_on axis earlier
codes_on axis (select b ∷ earlier) = codes_on axis earlier

-- the bandwidth code last selected, or that of the new filter
unfoldable pub bandwidth_of : (bandwidth : ℕ) → List Operation → ℕ
bandwidth_of bandwidth [] = bandwidth
bandwidth_of bandwidth (push axis code ∷ earlier) = bandwidth_of bandwidth earlier
bandwidth_of bandwidth (select b ∷ earlier) = b

-- the answer to a code, given those before it: itself while fewer than the window with it, else the floor of the mean of the last window codes (01)
unfoldable pub answer : (window : ℕ) (code : ℤ) (before : List ℤ) → ℤ
answer window code before = if ltb (length (code ∷ before)) window then code else mean window (code ∷ before)

-- whether that answer is the mean of a full window: not fewer codes than the window with this one
unfoldable pub is_mean : (window : ℕ) (code : ℤ) (before : List ℤ) → Bool
is_mean window code before = not (ltb (length (code ∷ before)) window)
