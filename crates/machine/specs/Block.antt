-- A block: turns while a whole command is left and its text fits.
use Rattle.std.specs.Prelude.{Bool, false, List, [], ℕ, ltb, length, get_or, if◌then◌else◌}
use Rattle.laws.specs.Iterate.{iterate}
use Rattle.machine.specs.Machine.{Machine, Running, running, turn}

-- the bytes that must be there for the command at the head: its own while input comes; any number once it is over
unfoldable pub needed_bytes : {S : Type 0} → Machine S → (over : Bool) (l : List ℕ) → ℕ
needed_bytes m over l = if over then 1 else m.wants (get_or l 0 0)

-- a turn where enough bytes are left and its text fits, else nothing
unfoldable pub bounded_turn : {S : Type 0} → Machine S → (over : Bool) → Running S → Running S
bounded_turn m over b = if ltb (length b.left) (needed_bytes m over b.left) then b else if ltb m.room (length b.text) then b else turn m b

unfoldable pub block : {S : Type 0} → Machine S → (over : Bool) → S → (l : List ℕ) → Running S
block m over s l = iterate (length l) (bounded_turn m over) (running s l [] false)
