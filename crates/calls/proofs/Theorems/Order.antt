-- The order of the refusals: read off the table, and computed on calls with several faults.
use Rattle.std.specs.Prelude.{ℕ, ◌^◌, ◌≡◌, refl, List, [], ◌∷◌, Bool, true, false, ℤ, pos, Some, None}
use Rattle.time.specs.declared.Time.{Time}
use Rattle.i2c.specs.declared.types.Levels.{Levels}
use Rattle.deadlines.specs.Deadlines.{is_at, is_by}
use Rattle.calls.specs.declared.types.Timed.{Timed}
use Rattle.calls.specs.declared.types.Call.TheVariants as Call
use Rattle.calls.specs.declared.types.Starting.TheVariants as Starting
use Rattle.calls.specs.Facts.{timed_facts, facts}
use Rattle.calls.specs.Table.{wrong_length, beyond, any_beyond, out_of_range, jumps, late, too_late, goes_back, due_by, due_at, before_due, beside_due, reserved, turned_down, first_found, rows, start_rows, refusal, start_refusal}
use Rattle.calls.proofs.Theorems.Found.{numbers}

-- 01's order
pub order : numbers rows ≡ 1 ∷ 3 ∷ 4 ∷ 2 ∷ 8 ∷ 5 ∷ 6 ∷ []
order = refl

pub start_order : numbers start_rows ≡ 1 ∷ 9 ∷ 3 ∷ []
start_order = refl

-- whole seconds
abbrev s : ℕ → Time
s n = record { 0 = n; 1 = 0 }

abbrev far : Time
far = s (2 ^ 32)

abbrev wide : ℤ
wide = pos 1000000001

-- levels of the clock and the data
abbrev levels : Bool → Bool → Levels
levels scl sda = record { scl = scl; sda = sda }

abbrev high : Levels
high = levels true true

-- with all faults, and then without the one that was found
-- bytes of register 14 with both reserved codes, range code 3 alone, bandwidth code 7 alone, neither
abbrev starts : List ℕ
starts =
    start_refusal Starting.Checked far 18 0x1f
    ∷ start_refusal Starting.Checked far 19 0x1f
    ∷ start_refusal Starting.Checked far 19 0x18
    ∷ start_refusal Starting.Checked far 19 0x07
    ∷ start_refusal Starting.Checked far 19 0xf6
    ∷ start_refusal Starting.Checked (s 9) 19 0xf6
    ∷ []

-- with both reserved codes throughout
abbrev stored_starts : List ℕ
stored_starts =
    start_refusal Starting.Stored far 20 0x1f
    ∷ start_refusal Starting.Stored far 19 0x1f
    ∷ start_refusal Starting.Stored (s 9) 19 0x1f
    ∷ []

abbrev stored_images : List ℕ
stored_images =
    refusal (s (2 ^ 33)) None high (Call.StoredImage far 20)
    ∷ refusal (s (2 ^ 33)) None high (Call.StoredImage far 19)
    ∷ refusal (s 9) (Some (s 1)) high (Call.StoredImage (s 8) 19)
    ∷ refusal (s 9) (Some (s 1)) high (Call.StoredImage (s 9) 19)
    ∷ []

abbrev accelerations : List ℕ
accelerations =
    refusal (s (2 ^ 33)) (Some (s 1)) high (Call.At far (Timed.Accelerations (record { x = wide; y = wide; z = wide })))
    ∷ refusal (s 9) (Some (s 1)) high (Call.At (s 8) (Timed.Accelerations (record { x = pos 0; y = wide; z = pos 0 })))
    ∷ refusal (s 9) (Some (s 9)) high (Call.At (s 9) (Timed.Accelerations (record { x = pos 0; y = pos 0; z = wide })))
    ∷ refusal (s 9) (Some (s 9)) high (Call.At (s 9) (Timed.Accelerations (record { x = pos 1000000000; y = pos 0; z = pos 0 })))
    ∷ refusal (s 9) (Some (s 10)) high (Call.At (s 9) (Timed.Accelerations (record { x = pos 1000000000; y = pos 0; z = pos 0 })))
    ∷ []

abbrev timed : Timed → List ℕ
timed t =
    refusal (s (2 ^ 33)) (Some (s 1)) high (Call.At far t)
    ∷ refusal (s 9) (Some (s 1)) high (Call.At (s 8) t)
    ∷ refusal (s 9) (Some (s 9)) high (Call.At (s 9) t)
    ∷ refusal (s 9) (Some (s 10)) high (Call.At (s 9) t)
    ∷ refusal (s 9) None high (Call.At (s 9) t)
    ∷ []

-- a pin report from these levels, where both were high after the last accepted one
abbrev report : Levels → Timed
report before = Timed.Pins before high

abbrev pin_reports : List ℕ
pin_reports =
    refusal (s (2 ^ 33)) (Some (s 1)) high (Call.At far (report (levels false false)))
    ∷ refusal (s 9) (Some (s 1)) high (Call.At (s 8) (report (levels false false)))
    ∷ refusal (s 9) (Some (s 9)) high (Call.At (s 9) (report (levels false true)))
    ∷ refusal (s 9) (Some (s 9)) high (Call.At (s 9) (report (levels true false)))
    ∷ refusal (s 9) (Some (s 9)) high (Call.At (s 9) (report high))
    ∷ refusal (s 9) (Some (s 10)) high (Call.At (s 9) (report high))
    ∷ refusal (s 9) None high (Call.At (s 9) (report high))
    ∷ []

pub record Ordered : Type 0 where
  pub start : starts ≡ 1 ∷ 9 ∷ 9 ∷ 9 ∷ 3 ∷ 0 ∷ []
  pub stored_start : stored_starts ≡ 1 ∷ 3 ∷ 0 ∷ []
  pub stored_image : stored_images ≡ 1 ∷ 3 ∷ 4 ∷ 0 ∷ []
  pub accelerations : accelerations ≡ 3 ∷ 4 ∷ 2 ∷ 5 ∷ 0 ∷ []
  pub supply : timed (Timed.Supply 0) ≡ 3 ∷ 4 ∷ 5 ∷ 0 ∷ 0 ∷ []
  pub rising : timed (Timed.Rising true) ≡ 3 ∷ 4 ∷ 5 ∷ 0 ∷ 0 ∷ []
  pub falling : timed Timed.Falling ≡ 3 ∷ 4 ∷ 5 ∷ 0 ∷ 0 ∷ []
  pub pins : pin_reports ≡ 3 ∷ 4 ∷ 8 ∷ 8 ∷ 5 ∷ 0 ∷ 0 ∷ []
  pub due : timed Timed.Due ≡ 3 ∷ 4 ∷ 0 ∷ 6 ∷ 6 ∷ []

pub ordered : Ordered
unfolding timed_facts facts wrong_length beyond any_beyond out_of_range jumps late too_late goes_back due_by due_at before_due beside_due reserved turned_down first_found refusal start_refusal is_at is_by
ordered = record { start = refl; stored_start = refl; stored_image = refl; accelerations = refl; supply = refl; rising = refl; falling = refl; pins = refl; due = refl }
