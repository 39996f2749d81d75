-- An input that is brought in pieces, with blocks run between them.
use Rattle.std.specs.Prelude.{◌≡◌, Bool, true, false, ◌⊎◌, List, [], ◌++◌, ℕ, length}
use Rattle.machine.specs.Machine.{Machine}
use Rattle.machine.specs.Block.{block}

-- between two steps: the state, the bytes that are kept, whether the input is over, whether the machine has stopped
pub record Between (S : Type 0) : Type 0 where
  pub state : S
  pub kept : List ℕ
  pub over : Bool
  pub stop : Bool

abbrev pub between : {S : Type 0} → S → List ℕ → Bool → Bool → Between S
between n k o z = record { state = n; kept = k; over = o; stop = z }

-- after a block on the kept bytes
abbrev pub worked : {S : Type 0} → Machine S → S → (k : List ℕ) (o : Bool) → Between S
worked m n k o = between (block m o n k).state (block m o n k).left o (block m o n k).stop

-- from the state s, with the pieces that make up l brought, the texts that make up t are written: each step brings a further piece, or tells that the input is over, or runs a block
pub data Steps {S : Type 0} (m : Machine S) (s : S) : List ℕ → List ℕ → Between S → Type 0 where
  begun : Steps m s [] [] (between s [] false false)
  brought : {l t k : List ℕ} {n : S} (piece : List ℕ) → Steps m s l t (between n k false false) → Steps m s (l ++ piece) t (between n (k ++ piece) false false)
  ended : {l t k : List ℕ} {n : S} → Steps m s l t (between n k false false) → Steps m s l t (between n k true false)
  ran : {l t k : List ℕ} {n : S} {o : Bool} → Steps m s l t (between n k o false) → Steps m s l (t ++ (block m o n k).text) (worked m n k o)

-- it is at an end: stopped, or no byte is kept
abbrev pub AtEnd : {S : Type 0} → Between S → Type 0
AtEnd d = (d.stop ≡ true) ⊎ (length d.kept ≡ 0)
