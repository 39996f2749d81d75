-- Text appended to a buffer.
use Rattle.std.specs.Prelude.{◌≡◌, List, ℕ, ◌+◌, length}
use Rattle.std.proofs.lemmas.List.Edits.{sets}

-- the buffer `e` is `d` with the bytes `l` stored from `o` on, and `r` is the place after them
pub record Put (d : List ℕ) (o : ℕ) (l : List ℕ) (e : List ℕ) (r : ℕ) : Type 0 where
  pub bytes : e ≡ sets d o l
  pub next : r ≡ o + length l
