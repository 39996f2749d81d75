-- The fault of a start that only its image has, in the table's words; the theorems on it are in proofs/Theorems/Exactly.antt.
use Rattle.std.specs.Prelude.{ℕ, ◌/◌, ◌%◌, ◌≡◌, ◌⊎◌}
use Rattle.calls.specs.declared.types.Starting.{Starting}

-- 9: bits 4..3 of the byte of register 14 are 3, or bits 2..0 are 7; command 0c's start does not have it
abbrev pub Reserved : ℕ → Type 0
Reserved measurement = (measurement / 8 % 4 ≡ 3) ⊎ (measurement % 8 ≡ 7)

abbrev pub TurnedDown : Starting → ℕ → Type 0
TurnedDown Starting.Checked measurement = Reserved measurement
TurnedDown Starting.Stored measurement = ⊥
