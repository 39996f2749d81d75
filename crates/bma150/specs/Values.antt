-- 01's values of each answer.
use Rattle.std.specs.Prelude.{ℕ, List, [], ◌∷◌, Option, Some, None, Result, Ok, Err}
use Rattle.spi.specs.declared.types.Drive.{Drive}
use Rattle.calls.specs.declared.types.Refusal.{Refusal}
use Rattle.sensor.specs.declared.types.Mark.{Mark}
use Rattle.waits.specs.declared.types.Report.{Report}

-- F, L or H
unfoldable pub drive_letter : Drive → ℕ
drive_letter Drive.Floating = 0x46
drive_letter Drive.Low = 0x4c
drive_letter Drive.High = 0x48

-- `C aa vv` (completed), `X aa vv` (cut) or nothing
unfoldable pub report_values : Option Report → List ℕ
report_values None = []
report_values (Some (Report.Completed address byte)) = 0x43 ∷ address ∷ byte ∷ []
report_values (Some (Report.Cut address byte)) = 0x58 ∷ address ∷ byte ∷ []

-- what a call that may report answers first: accepted and what it reports, or refused and why
abbrev pub Answer : Type 0
Answer = Result (Option Report) Refusal

-- the report of an answer: a refused call has none
unfoldable pub report_of : Answer → Option Report
report_of (Ok report) = report
report_of (Err why) = None

-- the byte or its absence
unfoldable pub view_value : Option ℕ → Option ℕ
view_value (Some b) = Some b
view_value None = None

-- m (mean), s (single) or no mark
unfoldable pub mark_letter : Option Mark → Option ℕ
mark_letter (Some Mark.Mean) = Some 0x6d
mark_letter (Some Mark.Single) = Some 0x73
mark_letter None = None
