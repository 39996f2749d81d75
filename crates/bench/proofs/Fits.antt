-- How long the pieces of a line are.
use Rattle.std.specs.Prelude.{◌≡◌, Bool, true, false, ℕ, List, ◌++◌, ◌≤◌, length, Option, Some, None, Ok, Err}
use Rattle.std.proofs.Common.{arith, length-append}
use Rattle.time.specs.declared.Time.{Time}
use Rattle.calls.specs.declared.types.Refusal.{Refusal}
use Rattle.calls.specs.Table.{refusal_number, number}
use Rattle.sensor.specs.declared.types.Mark.{Mark}
use Rattle.waits.specs.declared.types.Report.{Report}
use Rattle.bma150.specs.Values.{report_values, view_value, mark_letter}
use Rattle.bench.specs.Text.{hex_halves, word, view_text, mark_text, report_text, image_text, moment_text, due_text}
use Rattle.bench.specs.Theorems.Text.{length_hexes}
use Rattle.bench.specs.Line.{Answer}

refusal_fits : (why : Refusal) → length (word (refusal_number why)) ≤ 13
unfolding word refusal_number
refusal_fits Refusal.ImageLength = omega arith
refusal_fits _ = omega arith

pub word_fits : (a : Answer) → length (word (number a)) ≤ 13
unfolding word number
word_fits (Ok extra) = omega arith
word_fits (Err why) = refusal_fits why

pub report_fits : (r : Option Report) → length (report_text (report_values r)) ≤ 8
unfolding report_text report_values
report_fits None = omega arith
report_fits (Some (Report.Completed a v)) = omega arith
report_fits (Some (Report.Cut a v)) = omega arith

view_fits : (v : Option ℕ) → length (view_text (view_value v)) ≤ 3
unfolding view_text view_value
view_fits (Some b) = omega arith
view_fits None = omega arith

mark_fits : (m : Option Mark) → length (mark_text (mark_letter m)) ≤ 2
unfolding mark_text mark_letter
mark_fits (Some Mark.Mean) = omega arith
mark_fits (Some Mark.Single) = omega arith
mark_fits None = omega arith

pub viewed_fits : (v : Option ℕ) (m : Option Mark) → length (view_text (view_value v) ++ mark_text (mark_letter m)) ≤ 5
viewed_fits v m = omega (arith, length-append (view_text (view_value v)) (mark_text (mark_letter m)), view_fits v, mark_fits m)

pub image_fits : (l : List ℕ) → length l ≡ 19 → length (image_text l) ≤ 39
unfolding image_text
image_fits l h = omega (arith, length_hexes l)

moment_fits : (d : Option Time) → length (moment_text d) ≤ 33
unfolding moment_text hex_halves
moment_fits (Some t) = omega arith
moment_fits None = omega arith

pub due_fits : (trace : Bool) (d : Option Time) → length (due_text trace d) ≤ 38
unfolding due_text
due_fits true d = omega (arith, moment_fits d)
due_fits false d = omega arith
