-- 01's table of refusals: which one a call gets, from the last accepted time, next due, the I2C levels after the last accepted report, and the call.
use Rattle.std.specs.Prelude.{ℕ, ◌^◌, Bool, false, not, ◌&&◌, ◌||◌, List, [], ◌∷◌, leb, eqb, ℤ, pos, neg_ℤ, if◌then◌else◌, Option, Some, None, Result, Ok, Err}
use Rattle.std.specs.Bool.{beq}
use Rattle.std.specs.Int.Signed.{lt_z}
use Rattle.time.specs.declared.Time.{Time}
use Rattle.time.specs.Time.{precedes}
use Rattle.analog.specs.Axis.{Acceleration}
use Rattle.registers.specs.Map.{range, bandwidth}
use Rattle.i2c.specs.declared.types.Levels.{Levels}
use Rattle.deadlines.specs.Deadlines.{is_at, is_by}
use Rattle.calls.specs.declared.types.Call.{Call}
use Rattle.calls.specs.declared.types.Starting.{Starting}
use Rattle.calls.specs.declared.types.Refusal.{Refusal}
use Rattle.calls.specs.declared.types.Kind.{Kind}
use Rattle.calls.specs.declared.types.Facts.{Facts}
use Rattle.calls.specs.Facts.{facts}

-- ---- 01's table: a number for each refusal, 0 where a call is accepted

abbrev pub no_refusal : ℕ
no_refusal = 0

abbrev pub image_length : ℕ
image_length = 1

abbrev pub axis_range : ℕ
axis_range = 2

abbrev pub time_limit : ℕ
time_limit = 3

abbrev pub time_back : ℕ
time_back = 4

abbrev pub due_first : ℕ
due_first = 5

abbrev pub not_due : ℕ
not_due = 6

-- given by the bench program alone
abbrev pub command : ℕ
command = 7

-- a pin report that does not follow on
abbrev pub pin_jump : ℕ
pin_jump = 8

-- a start image with a reserved code
abbrev pub reserved_code : ℕ
reserved_code = 9

-- the number of a refusal, and of what a call answers
unfoldable pub refusal_number : Refusal → ℕ
refusal_number Refusal.ImageLength = image_length
refusal_number Refusal.AxisRange = axis_range
refusal_number Refusal.TimeLimit = time_limit
refusal_number Refusal.TimeBack = time_back
refusal_number Refusal.DueFirst = due_first
refusal_number Refusal.NotDue = not_due
refusal_number Refusal.Command = command
refusal_number Refusal.PinJump = pin_jump
refusal_number Refusal.ReservedCode = reserved_code

-- what a call answers first: accepted, or refused and why
abbrev pub Outcome : Type 0
Outcome = Result (Unit {0}) Refusal

unfoldable pub number : {A : Type 0} → Result A Refusal → ℕ
number (Ok _) = no_refusal
number (Err why) = refusal_number why

-- ---- the table's last column, a test each, false where it does not apply

-- 1: not 19 bytes
unfoldable pub wrong_length : Option ℕ → Bool
wrong_length (Some n) = not (eqb n 19)
wrong_length None = false

-- 2: an axis is beyond ±1,000,000,000
unfoldable pub beyond : (axis : ℤ) → Bool
beyond axis = lt_z (pos 1000000000) axis || lt_z axis (neg_ℤ (pos 1000000000))

unfoldable pub any_beyond : Acceleration → Bool
any_beyond input = beyond input.x || (beyond input.y || beyond input.z)

unfoldable pub out_of_range : Option Acceleration → Bool
out_of_range (Some input) = any_beyond input
out_of_range None = false

-- 3: whole seconds are 2^32 or more
unfoldable pub late : (now : Time) → Bool
late now = leb (2 ^ 32) now.0

unfoldable pub too_late : Option Time → Bool
too_late (Some now) = late now
too_late None = false

-- 4: earlier than the last accepted time
unfoldable pub goes_back : (last : Time) → Option Time → Bool
goes_back last (Some now) = precedes now last
goes_back last None = false

-- 5: a timed call other than the due call, and next due is at or before its time
unfoldable pub due_by : (due : Option Time) → Option Time → Bool
due_by due (Some now) = is_by due now
due_by due None = false

unfoldable pub before_due : (due : Option Time) → Kind → (time : Option Time) → Bool
before_due due Kind.Timed time = due_by due time
before_due due Kind.Due time = false
before_due due Kind.Untimed time = false

-- 6: a due call whose time is not next due, or nothing is due
unfoldable pub due_at : (due : Option Time) → Option Time → Bool
due_at due (Some now) = is_at due now
due_at due None = false

unfoldable pub beside_due : (due : Option Time) → Kind → (time : Option Time) → Bool
beside_due due Kind.Timed time = false
beside_due due Kind.Due time = not (due_at due time)
beside_due due Kind.Untimed time = false

-- 8: the levels before a pin report are not those after the last accepted one
abbrev pub same_levels : (a b : Levels) → Bool
same_levels a b = beq a.scl b.scl && beq a.sda b.sda

unfoldable pub jumps : (lines : Levels) → Option Levels → Bool
jumps lines (Some before) = not (same_levels lines before)
jumps lines None = false

-- 9: range code 3 or bandwidth code 7 in the byte of register 14, which the data sheet reserves; asked by command 01's start alone
unfoldable pub reserved : (measurement : ℕ) → Bool
reserved measurement = eqb (range measurement) 3 || eqb (bandwidth measurement) 7

unfoldable pub turned_down : Starting → (measurement : ℕ) → Bool
turned_down Starting.Checked measurement = reserved measurement
turned_down Starting.Stored measurement = false

-- ---- which refusal a call gets: the first found

-- a row: a number and a test
pub record Row (A : Type 0) : Type 0 where
  pub number : ℕ
  pub test : A → Bool

abbrev pub row : {A : Type 0} → ℕ → (A → Bool) → Row A
row n t = record { number = n; test = t }

unfoldable pub first_found : {A : Type 0} → List (Row A) → A → ℕ
first_found [] a = no_refusal
first_found (r ∷ rs) a = if r.test a then r.number else first_found rs a

-- what a call meets: the last accepted time, next due before any sampling, the levels after the last accepted pin report, and what is asked of the call itself
pub record Meets : Type 0 where
  pub last : Time
  pub due : Option Time
  pub lines : Levels
  pub call : Facts

-- 01's order, with 8 after 4 and before 5: 1, 3, 4, 2, 8, 5, 6
abbrev pub rows : List (Row Meets)
rows =
    row image_length (λ m. wrong_length m.call.bytes)
    ∷ row time_limit (λ m. too_late m.call.time)
    ∷ row time_back (λ m. goes_back m.last m.call.time)
    ∷ row axis_range (λ m. out_of_range m.call.axes)
    ∷ row pin_jump (λ m. jumps m.lines m.call.lines)
    ∷ row due_first (λ m. before_due m.due m.call.kind m.call.time)
    ∷ row not_due (λ m. beside_due m.due m.call.kind m.call.time)
    ∷ []

unfoldable pub refusal : (last : Time) (due : Option Time) (lines : Levels) → Call → ℕ
refusal last due lines c = first_found rows (record { last = last; due = due; lines = lines; call = facts c })

-- what a start meets: by which call, its time, the length of the image and its byte of register 14
pub record Brings : Type 0 where
  pub by : Starting
  pub time : Time
  pub length : ℕ
  pub measurement : ℕ

-- a start: 1, 9, 3
abbrev pub start_rows : List (Row Brings)
start_rows =
    row image_length (λ b. wrong_length (Some b.length))
    ∷ row reserved_code (λ b. turned_down b.by b.measurement)
    ∷ row time_limit (λ b. late b.time)
    ∷ []

unfoldable pub start_refusal : Starting → (now : Time) (length measurement : ℕ) → ℕ
start_refusal by now length measurement = first_found start_rows (record { by = by; time = now; length = length; measurement = measurement })

-- what a call leaves: a refused one what came in
unfoldable pub unless_refused : {A : Type 0} (number : ℕ) (before after : A) → A
unless_refused number before after = if eqb number no_refusal then after else before
