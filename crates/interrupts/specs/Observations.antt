-- The last three observations, with which any motion compares a new one.
use Rattle.std.specs.Prelude.{ℕ, ◌+◌, ◌%◌, min, List, [], leb, get_or, set, replicate, ℤ, pos, Option, Some, None, if◌then◌else◌}
use Rattle.interrupts.specs.declared.observations.Observations.{Observations}

-- 01: a new sensor's are all zero
abbrev pub none : Observations
none = record { codes = replicate 3 (replicate 3 (pos 0)); next = 0; count = 0 }

-- where the observation three earlier stands, and the next one goes (specs/Theorems/History.antt)
abbrev pub place : Observations → ℕ
place o = o.next % 3

-- the observation that stands there
abbrev pub earlier : Observations → List ℤ
earlier o = get_or o.codes (place o) []

-- what the next observation is compared with: none while fewer than three were taken
unfoldable pub compared_with : Observations → Option (List ℤ)
compared_with o = if leb 3 o.count then Some (earlier o) else None

-- an observation more: with the fourth, three earlier ones stand
abbrev pub added : Observations → (codes : List ℤ) → Observations
added o codes = record { codes = set o.codes (place o) codes; next = (o.next % 3 + 1) % 3; count = min 4 (o.count + 1) }

-- acquisition starts anew: the codes stay (the Rust's rule)
abbrev pub restarted : Observations → Observations
restarted o = record o { count = 0 }
