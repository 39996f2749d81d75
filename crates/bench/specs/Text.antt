-- The pieces of a line as ASCII bytes (01, "Bench program").
use Rattle.std.specs.Prelude.{Bool, List, [], ◌∷◌, ◌++◌, ℕ, zero, suc, ◌+◌, ◌-◌, ◌/◌, ◌%◌, ◌^◌, length, take, ltb, eqb, if◌then◌else◌, Option, Some, None}
use Rattle.laws.specs.Notation.{ascii}
use Rattle.time.specs.declared.Time.{Time}

abbrev pub space : ℕ
space = 32

abbrev pub line_feed : ℕ
line_feed = 10

-- the text l of a line, and of m as much as its buffer of 128 bytes has room for
unfoldable pub appended : (l m : List ℕ) → List ℕ
appended l m = l ++ take (128 - length l) m

-- ---- hexadecimal, lower case

-- 0..9, a..f
abbrev pub digit : ℕ → ℕ
digit x = if ltb x 10 then 48 + x else 87 + x

-- two digits a byte
abbrev pub hex : ℕ → List ℕ
hex b = digit (b / 16) ∷ digit (b % 16) ∷ []

abbrev pub hexes : List ℕ → List ℕ
hexes [] = []
hexes (b ∷ l) = hex b ++ hexes l

-- the digits of the upper half of a number's bytes, then those of the lower: 1, 2, 4 and 8 bytes for n = 0, 1, 2 and 3
unfoldable pub hex_halves : (n : ℕ) → ℕ → List ℕ
hex_halves zero x = hex x
hex_halves (suc n) x = hex_halves n (x / 256 ^ (2 ^ n)) ++ hex_halves n (x % 256 ^ (2 ^ n))

-- 16 digits
abbrev pub hex16 : ℕ → List ℕ
hex16 x = hex_halves 3 x

-- ---- `ok` or the table's word, for 01's number

unfoldable pub word : (number : ℕ) → List ℕ
word number =
    if eqb number 0 then ascii "ok"
    else if eqb number 1 then ascii "image-length"
    else if eqb number 2 then ascii "axis-range"
    else if eqb number 3 then ascii "time-limit"
    else if eqb number 4 then ascii "time-back"
    else if eqb number 5 then ascii "due-first"
    else if eqb number 6 then ascii "not-due"
    else if eqb number 7 then ascii "command"
    else if eqb number 8 then ascii "pin-jump"
    else ascii "reserved-code"

-- ---- interrupt 0 or 1

unfoldable pub bit : Bool → ℕ
bit b = if b then 49 else 48

-- ---- what an accepted command adds

-- the byte or `--`
unfoldable pub view_text : Option ℕ → List ℕ
view_text (Some b) = space ∷ hex b
view_text None = ascii " --"

-- the mark of an acceleration as one more field, or nothing
unfoldable pub mark_text : Option ℕ → List ℕ
mark_text (Some letter) = space ∷ letter ∷ []
mark_text None = []

-- a report's values, each byte of two digits
abbrev pub spaced : List ℕ → List ℕ
spaced [] = []
spaced (b ∷ l) = (space ∷ hex b) ++ spaced l

-- `C aa vv` (completed), `X aa vv` (cut) or `-`
unfoldable pub report_text : List ℕ → List ℕ
report_text [] = ascii " -"
report_text (letter ∷ l) = space ∷ letter ∷ spaced l

-- 38 digits
unfoldable pub image_text : List ℕ → List ℕ
image_text l = (space ∷ []) ++ hexes l

-- ---- the trace's ` due ` and next due: seconds and fraction of 16 digits each, or `-` (the form of the oracle's `--due`)

unfoldable pub moment_text : Option Time → List ℕ
moment_text (Some t) = hex16 t.0 ++ (space ∷ []) ++ hex16 t.1
moment_text None = ascii "-"

unfoldable pub due_text : (trace : Bool) (due : Option Time) → List ℕ
due_text trace due = if trace then ascii " due " ++ moment_text due else []
