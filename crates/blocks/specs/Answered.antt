-- An input that is answered item by item.
use Rattle.std.specs.Prelude.{◌≡◌, List, [], ◌++◌, ℕ, ◌<◌, length, Option}
use Rattle.std.specs.Io.KnownBytes.{Appends, Consumes, IsAtEnd}

-- from the machine s to t, items of n bytes were answered by m bytes each, one after the other
pub data Run {S : Type 0} (gives : S → List ℕ → List ℕ → S → Type 0) (n m : ℕ) (s : S) : (items answers : List ℕ) → S → Type 0 where
  none : Run gives n m s [] [] s
  more : {l w : List ℕ} {t u : S} (item answer : List ℕ) → Run gives n m s l w t → length item ≡ n → length answer ≡ m → gives t item answer u → Run gives n m s (l ++ item) (w ++ answer) u

-- the reader had these items and then less than one, and has none left; the writer got the answers
pub record Answered {S : Type 0} (gives : S → List ℕ → List ℕ → S → Type 0) (n m : ℕ) (s t : S) (a b v w : Option (List ℕ)) : Type 0 where
  pub items : List ℕ
  pub rest : List ℕ
  pub answers : List ℕ
  pub run : Run gives n m s items answers t
  pub took : Consumes a b (items ++ rest)
  pub short : length rest < n
  pub over : IsAtEnd b
  pub wrote : Appends v w answers

-- where it broke off: the machine answered items that the reader had in front, and the reader lost them and some bytes behind
pub record BrokenOff {S : Type 0} (gives : S → List ℕ → List ℕ → S → Type 0) (n m : ℕ) (s t : S) (a b : Option (List ℕ)) : Type 0 where
  pub items : List ℕ
  pub rest : List ℕ
  pub answers : List ℕ
  pub run : Run gives n m s items answers t
  pub took : Consumes a b (items ++ rest)
