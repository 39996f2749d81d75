-- What a read does to the bytes that are kept.
use Rattle.std.specs.Prelude.{◌≡◌, List, ◌++◌, ℕ, ◌<◌, length, Option, Result, MatchResult}
use Rattle.std.specs.Io.KnownBytes.{Keeps, Consumes, IsAtEnd}

-- the bytes that came stand behind those that were kept, and the reader lost them; where none came although there was room, it has none left; a read that failed changes nothing, and when one fails std does not say
abbrev pub Filled : {E : Type 0} → (a b : Option (List ℕ)) (old new : List ℕ) → Result ℕ E → Type 0
Filled a b old new r = MatchResult r (λ n. (piece : List ℕ) × (new ≡ old ++ piece) × (length piece ≡ n) × Consumes a b piece × (n ≡ 0 → length old < 65536 → IsAtEnd b)) (λ e. (new ≡ old) × Keeps a b)
