-- What is handed to a writer of the bytes that are yet to be written.
use Rattle.std.specs.Prelude.{◌≡◌, List, ◌++◌, ℕ, Option}
use Rattle.std.specs.Io.KnownBytes.{Appends}

-- of the bytes that were pending and a text behind them the writer got the front, and the rest is pending
pub record Handed (v w : Option (List ℕ)) (old text new : List ℕ) : Type 0 where
  pub handed : List ℕ
  pub wrote : Appends v w handed
  pub rest : old ++ text ≡ handed ++ new
