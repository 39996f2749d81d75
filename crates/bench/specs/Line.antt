-- What a command leaves and answers, and the line that is written of it (01, "Bench program").
use Rattle.std.specs.Prelude.{Bool, List, [], ◌∷◌, ◌++◌, ℕ, eqb, Option, None, Some, Result, Ok, Err, if◌then◌else◌}
use Rattle.laws.specs.Notation.{Image}
use Rattle.time.specs.declared.Time.{Time}
use Rattle.commands.specs.declared.Command.{Command}
use Rattle.calls.specs.declared.types.Starting.{Starting}
use Rattle.calls.specs.declared.types.Refusal.{Refusal}
use Rattle.calls.specs.Table as R
use Rattle.bma150.specs.declared.host.Bma150.{Bma150}
use Rattle.bma150.specs.Values.{drive_letter, report_values}
use Rattle.bma150.specs.Called.{Added, of_view, Called, called, start_number, after_start, interrupt, output, data_output, next_due}
use Rattle.bench.specs.declared.types.Extra.{Extra}
use Rattle.bench.specs.Text.{space, line_feed, hex, word, bit, view_text, mark_text, report_text, image_text, due_text}

-- ---- what a command leaves and answers; `image` is a start's 19 bytes

-- this number, and nothing added
abbrev pub silent : Bma150 → ℕ → Called
silent s n = record { number = n; sensor = s; adds = Added.nothing }

-- a start begins with a new sensor; a refused one touches none
unfoldable pub started : Bma150 → Starting → Time → (image : Image) → Bma150
started s by t image = if eqb (start_number by t image) 0 then after_start by t image else s

-- a start, a call of the host, or refusal 7, which changes nothing
unfoldable pub commanded : Bma150 → Command → (image : Image) → Called
commanded s (Command.Start by t) image = silent (started s by t image) (start_number by t image)
commanded s (Command.Host c) image = called s c
commanded s Command.Bad image = silent s R.command

abbrev pub step : Bma150 → Command → (image : Image) → Bma150
step s c image = (commanded s c image).sensor

-- ---- the line

-- an accepted 0b adds the byte and an acceleration's mark, or `--`, 0a its 38 digits, 04 and 05 the report
unfoldable pub added_text : Added → List ℕ
added_text Added.nothing = []
added_text (Added.report values) = report_text values
added_text (Added.viewed value mark) = view_text value ++ mark_text mark
added_text (Added.put bytes) = image_text bytes

-- interrupt; four-wire output, then data pin
unfoldable pub pins : Bma150 → List ℕ
pins s = space ∷ bit (interrupt s) ∷ space ∷ drive_letter (output s) ∷ space ∷ drive_letter (data_output s) ∷ []

-- command; `ok` or the table's word; pins after the command; what it adds; the trace's next due
unfoldable pub line : (trace : Bool) (command : ℕ) → Called → List ℕ
line trace command k =
    hex command ++ (space ∷ []) ++ word k.number ++ pins k.sensor ++ added_text k.adds ++ due_text trace (next_due k.sensor) ++ (line_feed ∷ [])

-- the line of the command c, whose first byte is b
abbrev pub said : (trace : Bool) (b : ℕ) → Bma150 → Command → (image : Image) → List ℕ
said trace b s c image = line trace b (commanded s c image)

-- ---- what the code hands from the step to the line

unfoldable pub extra_adds : Extra → Added
extra_adds (Extra.Reported report) = Added.report (report_values report)
extra_adds (Extra.Viewed viewed) = of_view viewed
extra_adds (Extra.Image image) = Added.put image

abbrev pub adds : Option Extra → Added
adds None = Added.nothing
adds (Some extra) = extra_adds extra

abbrev pub Answer : Type 0
Answer = Result (Option Extra) Refusal

abbrev pub answer_adds : Answer → Added
answer_adds (Ok extra) = adds extra
answer_adds (Err why) = Added.nothing

-- a refused call adds nothing
abbrev pub unless_refused : ℕ → Added → Added
unless_refused n a = R.unless_refused n Added.nothing a

-- the sensor that a command left and its answer
abbrev pub left : Bma150 → Answer → Called
left s a = record { number = R.number a; sensor = s; adds = answer_adds a }
