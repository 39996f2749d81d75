-- The bench program's line of a command is a function of its call's answer in the sense of demand 3.
use Rattle.std.specs.Prelude.{◌≡◌, Bool, List, [], ◌∷◌, ◌++◌, ℕ, Option, Some, None}
use Rattle.laws.specs.Notation.{Image}
use Rattle.deadlines.specs.Deadlines.{moment}
use Rattle.calls.specs.declared.types.Call.{Call}
use Rattle.bma150.specs.declared.host.Bma150.{Bma150}
use Rattle.bma150.specs.Values.{drive_letter}
use Rattle.commands.specs.declared.Command.{Command}
use Rattle.book.specs.Lists.{Answer, answer}
use Rattle.book.specs.Lists as C
use Rattle.bench.specs.Text.{space, line_feed, hex, word, bit, due_text}
use Rattle.bench.specs.Line as L

-- the call of a command; a start begins another list, a bad command calls nothing
unfoldable pub call_of : Command → Option Call
call_of (Command.Start by t) = None
call_of (Command.Host c) = Some c
call_of Command.Bad = None

-- interrupt, four-wire output, data pin
abbrev pins_of : Answer → List ℕ
pins_of a = space ∷ bit a.interrupt ∷ space ∷ drive_letter a.output ∷ space ∷ drive_letter a.data_output ∷ []

-- the line of an answer
unfoldable pub text_of : (trace : Bool) (b : ℕ) → Answer → List ℕ
text_of trace b a = hex b ++ (space ∷ []) ++ word a.number ++ pins_of a ++ L.added_text a.adds ++ due_text trace (moment a.next_due) ++ (line_feed ∷ [])

-- the command leaves the call's sensor, and its line is that of the call's answer
abbrev pub Prints : (trace : Bool) (b : ℕ) → Bma150 → Command → (image : Image) → Option Call → Type 0
Prints trace b s c image None = Unit {0}
Prints trace b s c image (Some call) = (L.step s c image ≡ C.step s call) × (L.said trace b s c image ≡ text_of trace b (answer s call))
