-- A call gets number n exactly if n is that of the first fault of 01's table that is there, or 0 where there is none.
use Rattle.std.specs.Prelude.{ℕ, ◌/◌, ◌%◌, ◌^◌, ◌≤◌, ◌<◌, ◌≡◌, refl, Bool, true, false, not, ◌&&◌, ◌||◌, ◌⊎◌, List, [], ◌∷◌, ltb, eqb, ℤ, pos, negsuc, nat_abs, Option, Some, None}
use Rattle.std.proofs.Common.{arith, sym, ap, ◌∙◌, inl, inr, leb-true, le-leb, ltb-true, lt-ltb, eqb-true, eq-eqb}
use Rattle.std.specs.Bool.{beq}
use Rattle.std.proofs.lemmas.Bool.{or_cases, or_left, or_right, not-true, not-false, not_from_false, false_from_ne_true}
use Rattle.time.specs.declared.Time.{Time}
use Rattle.time.specs.Time.{ticks}
use Rattle.analog.specs.Axis.{Acceleration}
use Rattle.i2c.specs.declared.types.Levels.{Levels}
use Rattle.deadlines.specs.Deadlines.{is_at, is_by}
use Rattle.calls.specs.declared.types.Timed.{Timed}
use Rattle.calls.specs.declared.types.Call.{Call}
use Rattle.calls.specs.declared.types.Starting.{Starting}
use Rattle.calls.specs.Facts.{timed_facts, facts}
use Rattle.calls.specs.Table.{wrong_length, beyond, any_beyond, out_of_range, same_levels, jumps, late, too_late, goes_back, due_by, due_at, before_due, beside_due, reserved, turned_down, rows, start_rows, refusal, start_refusal}
use Rattle.calls.specs.Theorems.Exactly.{Reserved, TurnedDown}
use Rattle.calls.proofs.Theorems.Left.{clear}
use Rattle.calls.proofs.Theorems.Found.{never, Fault, fault, First, Tells, Finds, found_first, first_is_found}

-- ---- the faults of 01's table, for each call by its own arguments

-- an axis is beyond ±1,000,000,000
abbrev pub Beyond : ℤ → Type 0
Beyond axis = 1000000000 < nat_abs axis

-- next due is at or before this time, and is this time
abbrev pub DueBy : Option Time → Time → Type 0
DueBy None now = ⊥
DueBy (Some d) now = ticks d ≤ ticks now

abbrev pub DueAt : Option Time → Time → Type 0
DueAt None now = ⊥
DueAt (Some d) now = ticks d ≡ ticks now

-- some axis is beyond
abbrev pub AnyBeyond : Acceleration → Type 0
AnyBeyond input = Beyond input.x ⊎ (Beyond input.y ⊎ Beyond input.z)

-- each fault only where it applies: `_` is every other call

-- 1: the stored-image call, and its buffer is not 19 bytes
abbrev pub WrongLength : Call → Type 0
WrongLength (Call.StoredImage now n) = n ≡ 19 → ⊥
WrongLength _ = ⊥

-- 3 and 4: a timed call or the stored-image call, and its time is so
abbrev pub HasTime : Call → (Time → Type 0) → Type 0
HasTime (Call.At now t) So = So now
HasTime (Call.StoredImage now n) So = So now
HasTime _ So = ⊥

-- 2, 8, 5 and 6: a timed call, and it is so
abbrev pub IsTimed : Call → (Time → Timed → Type 0) → Type 0
IsTimed (Call.At now t) So = So now t
IsTimed _ So = ⊥

-- 2: the accelerations call, and an axis is beyond
abbrev pub AxisBeyond : Timed → Type 0
AxisBeyond (Timed.Accelerations input) = AnyBeyond input
AxisBeyond _ = ⊥

-- 8: a pin report, and the levels before it are not those after the last accepted one
abbrev pub Jumps : (lines : Levels) → Timed → Type 0
Jumps lines (Timed.Pins before after) = before ≡ lines → ⊥
Jumps lines _ = ⊥

-- 5: a timed call other than the due call, and next due is at or before its time
abbrev pub DueFirst : Option Time → Time → Timed → Type 0
DueFirst due now Timed.Due = ⊥
DueFirst due now _ = DueBy due now

-- 6: the due call, and its time is not next due, or nothing is due
abbrev pub NotDue : Option Time → Time → Timed → Type 0
NotDue due now Timed.Due = DueAt due now → ⊥
NotDue due now _ = ⊥

-- 01's table, in its order
abbrev pub faults : Time → Option Time → Levels → Call → List Fault
faults last due lines c =
    fault 1 (WrongLength c)
    ∷ fault 3 (HasTime c (λ now. 2 ^ 32 ≤ now.0))
    ∷ fault 4 (HasTime c (λ now. ticks now < ticks last))
    ∷ fault 2 (IsTimed c (λ now t. AxisBeyond t))
    ∷ fault 8 (IsTimed c (λ now t. Jumps lines t))
    ∷ fault 5 (IsTimed c (λ now t. DueFirst due now t))
    ∷ fault 6 (IsTimed c (λ now t. NotDue due now t))
    ∷ []

-- a start: 1, 9, 3
abbrev pub start_faults : Starting → Time → (length measurement : ℕ) → List Fault
start_faults by now length measurement = fault 1 (length ≡ 19 → ⊥) ∷ fault 9 (TurnedDown by measurement) ∷ fault 3 (2 ^ 32 ≤ now.0) ∷ []

-- ---- the tests of the table find exactly these

axis_only : (axis : ℤ) → beyond axis ≡ true → Beyond axis
unfolding beyond
axis_only (pos n) p = elim (or_cases (ltb 1000000000 n) false p) [ inl q ↦ ltb-true 1000000000 n q | inr q ↦ never q ]
axis_only (negsuc n) p = let q : 999999999 < n = ltb-true 999999999 n p in omega arith

axis_whole : (axis : ℤ) → Beyond axis → beyond axis ≡ true
unfolding beyond
axis_whole (pos n) p = or_left (ltb 1000000000 n) false (lt-ltb 1000000000 n p)
axis_whole (negsuc n) p = lt-ltb 999999999 n (omega arith)

either_only : {P Q : Type 0} (a b : Bool) → (a ≡ true → P) → (b ≡ true → Q) → (a || b) ≡ true → P ⊎ Q
either_only a b p q e = elim (or_cases a b e) [ inl x ↦ inl (p x) | inr y ↦ inr (q y) ]

axes_only : (input : Acceleration) → any_beyond input ≡ true → AnyBeyond input
unfolding any_beyond
axes_only a p = either_only (beyond a.x) (beyond a.y || beyond a.z) (axis_only a.x) (either_only (beyond a.y) (beyond a.z) (axis_only a.y) (axis_only a.z)) p

axes_whole : (input : Acceleration) → AnyBeyond input → any_beyond input ≡ true
unfolding any_beyond
axes_whole a (inl p) = or_left (beyond a.x) _ (axis_whole a.x p)
axes_whole a (inr (inl p)) = or_right (beyond a.x) _ (or_left (beyond a.y) _ (axis_whole a.y p))
axes_whole a (inr (inr p)) = or_right (beyond a.x) _ (or_right (beyond a.y) _ (axis_whole a.z p))

by_only : (due : Option Time) (now : Time) → is_by due now ≡ true → DueBy due now
unfolding is_by
by_only None now p = never p
by_only (Some d) now p = leb-true (ticks d) (ticks now) p

by_whole : (due : Option Time) (now : Time) → DueBy due now → is_by due now ≡ true
unfolding is_by
by_whole None now p = absurd p
by_whole (Some d) now p = le-leb (ticks d) (ticks now) p

at_only : (due : Option Time) (now : Time) → is_at due now ≡ true → DueAt due now
unfolding is_at
at_only None now p = never p
at_only (Some d) now p = eqb-true (ticks d) (ticks now) p

at_whole : (due : Option Time) (now : Time) → DueAt due now → is_at due now ≡ true
unfolding is_at
at_whole None now p = absurd p
at_whole (Some d) now p = eq-eqb (ticks d) (ticks now) p

not_only : {P : Type 0} (b : Bool) → (P → b ≡ true) → not b ≡ true → P → ⊥
not_only b f e p = never (sym (not-true b e) ∙ f p)

not_whole : {P : Type 0} (b : Bool) → (b ≡ true → P) → (P → ⊥) → not b ≡ true
not_whole b f g = not_from_false b (false_from_ne_true b (λ e. g (f e)))

-- a test that does not apply
never_tells : Tells ⊥ false
never_tells = record { only = never; whole = absurd }

length_tells : (n : ℕ) → Tells (n ≡ 19 → ⊥) (not (eqb n 19))
length_tells n = record { only = not_only (eqb n 19) (eq-eqb n 19); whole = not_whole (eqb n 19) (eqb-true n 19) }

late_tells : (now : Time) → Tells (2 ^ 32 ≤ now.0) (late now)
unfolding late
late_tells now = record { only = leb-true (2 ^ 32) now.0; whole = le-leb (2 ^ 32) now.0 }

back_tells : (last now : Time) → Tells (ticks now < ticks last) (ltb (ticks now) (ticks last))
back_tells last now = record { only = ltb-true (ticks now) (ticks last); whole = lt-ltb (ticks now) (ticks last) }

by_tells : (due : Option Time) (now : Time) → Tells (DueBy due now) (is_by due now)
by_tells due now = record { only = by_only due now; whole = by_whole due now }

not_at_tells : (due : Option Time) (now : Time) → Tells (DueAt due now → ⊥) (not (is_at due now))
not_at_tells due now = record { only = not_only (is_at due now) (at_whole due now); whole = not_whole (is_at due now) (at_only due now) }

axes_tell : (input : Acceleration) → Tells (AnyBeyond input) (any_beyond input)
axes_tell input = record { only = axes_only input; whole = axes_whole input }

reserved_whole : (m : ℕ) → Reserved m → reserved m ≡ true
unfolding reserved
reserved_whole m (inl p) = or_left (eqb (m / 8 % 4) 3) _ (eq-eqb (m / 8 % 4) 3 p)
reserved_whole m (inr p) = or_right (eqb (m / 8 % 4) 3) _ (eq-eqb (m % 8) 7 p)

reserved_only : (m : ℕ) → reserved m ≡ true → Reserved m
unfolding reserved
reserved_only m = either_only (eqb (m / 8 % 4) 3) (eqb (m % 8) 7) (eqb-true (m / 8 % 4) 3) (eqb-true (m % 8) 7)

turned_down_tells : (by : Starting) (m : ℕ) → Tells (TurnedDown by m) (turned_down by m)
unfolding turned_down
turned_down_tells Starting.Checked m = record { only = reserved_only m; whole = reserved_whole m }
turned_down_tells Starting.Stored m = never_tells

-- two levels that are the same, line by line
same_lines : (lines before : Levels) → (lines.scl ≡ before.scl) → (lines.sda ≡ before.sda) → before ≡ lines
same_lines lines before p q =
    sym (ap {B = Levels} (λ (x : Bool). record { scl = x; sda = lines.sda }) p ∙ ap {B = Levels} (λ (x : Bool). record { scl = before.scl; sda = x }) q)

same_only : (lines before : Levels) → same_levels lines before ≡ true → before ≡ lines
same_only lines before p = go lines.scl before.scl lines.sda before.sda refl refl refl refl p
  where
    go : (a b c d : Bool) → lines.scl ≡ a → before.scl ≡ b → lines.sda ≡ c → before.sda ≡ d → (beq a b && beq c d) ≡ true → before ≡ lines
    go true true true true e f g h p = same_lines lines before (e ∙ sym f) (g ∙ sym h)
    go true true true false e f g h p = never p
    go true true false true e f g h p = never p
    go true true false false e f g h p = same_lines lines before (e ∙ sym f) (g ∙ sym h)
    go true false c d e f g h p = never p
    go false true c d e f g h p = never p
    go false false true true e f g h p = same_lines lines before (e ∙ sym f) (g ∙ sym h)
    go false false true false e f g h p = never p
    go false false false true e f g h p = never p
    go false false false false e f g h p = same_lines lines before (e ∙ sym f) (g ∙ sym h)

level_same : (b : Bool) → beq b b ≡ true
level_same true = refl
level_same false = refl

pub same_whole : (lines before : Levels) → before ≡ lines → same_levels lines before ≡ true
same_whole lines before e =
    ap (λ (l : Levels). same_levels lines l) e ∙ rw (level_same lines.scl, level_same lines.sda)

jump_tells : (lines before : Levels) → Tells (before ≡ lines → ⊥) (not (same_levels lines before))
jump_tells lines before =
    record { only = not_only (same_levels lines before) (same_whole lines before); whole = not_whole (same_levels lines before) (same_only lines before) }

module _ (last : Time) (due : Option Time) (lines : Levels) where
  abbrev Found : Call → Type 0
  Found c = Finds (record { last = last; due = due; lines = lines; call = facts c }) rows (faults last due lines c)

  -- what the seven tests find of a call
  found : (c : Call)
      → Tells (WrongLength c) (wrong_length (facts c).bytes)
      → Tells (HasTime c (λ now. 2 ^ 32 ≤ now.0)) (too_late (facts c).time)
      → Tells (HasTime c (λ now. ticks now < ticks last)) (goes_back last (facts c).time)
      → Tells (IsTimed c (λ now t. AxisBeyond t)) (out_of_range (facts c).axes)
      → Tells (IsTimed c (λ now t. Jumps lines t)) (jumps lines (facts c).lines)
      → Tells (IsTimed c (λ now t. DueFirst due now t)) (before_due due (facts c).kind (facts c).time)
      → Tells (IsTimed c (λ now t. NotDue due now t)) (beside_due due (facts c).kind (facts c).time)
      → Found c
  found c length limit back axis jump due_first not_due = ((refl, length), ((refl, limit), ((refl, back), ((refl, axis), ((refl, jump), ((refl, due_first), ((refl, not_due), tt)))))))

  -- what is asked of a call computes only once it is known which call it is: a last line stands for each of the others
  timed_found : (now : Time) (t : Timed) → Found (Call.At now t)
  unfolding facts timed_facts wrong_length too_late goes_back out_of_range jumps before_due beside_due due_by due_at
  timed_found now (Timed.Accelerations input) = found (Call.At now (Timed.Accelerations input)) never_tells (late_tells now) (back_tells last now) (axes_tell input) never_tells (by_tells due now) never_tells
  timed_found now Timed.Due = found (Call.At now Timed.Due) never_tells (late_tells now) (back_tells last now) never_tells never_tells never_tells (not_at_tells due now)
  timed_found now (Timed.Pins before after) = found (Call.At now (Timed.Pins before after)) never_tells (late_tells now) (back_tells last now) never_tells (jump_tells lines before) (by_tells due now) never_tells
  timed_found now t = found (Call.At now t) never_tells (late_tells now) (back_tells last now) never_tells never_tells (by_tells due now) never_tells

  finds : (c : Call) → Found c
  unfolding facts wrong_length too_late goes_back out_of_range jumps before_due beside_due
  finds (Call.At now t) = timed_found now t
  finds (Call.StoredImage now n) = found (Call.StoredImage now n) (length_tells n) (late_tells now) (back_tells last now) never_tells never_tells never_tells never_tells
  finds c = found c never_tells never_tells never_tells never_tells never_tells never_tells never_tells

  -- the number that a call gets is that of the first fault, or 0
  pub refused_only : (c : Call) → First (faults last due lines c) (refusal last due lines c)
  unfolding refusal
  refused_only c = found_first _ rows (faults last due lines c) (finds c)

  -- and it gets the number of the first fault, or 0
  pub refused_whole : (c : Call) (n : ℕ) → First (faults last due lines c) n → refusal last due lines c ≡ n
  unfolding refusal
  refused_whole c n p = first_is_found _ rows (faults last due lines c) (finds c) n p

module _ (by : Starting) (now : Time) (length measurement : ℕ) where
  start_finds : Finds (record { by = by; time = now; length = length; measurement = measurement }) start_rows (start_faults by now length measurement)
  unfolding wrong_length
  start_finds = ((refl, length_tells length), ((refl, turned_down_tells by measurement), ((refl, late_tells now), tt)))

  pub start_refused_only : First (start_faults by now length measurement) (start_refusal by now length measurement)
  unfolding start_refusal
  start_refused_only = found_first _ start_rows (start_faults by now length measurement) start_finds

  pub start_refused_whole : (n : ℕ) → First (start_faults by now length measurement) n → start_refusal by now length measurement ≡ n
  unfolding start_refusal
  start_refused_whole n p = first_is_found _ start_rows (start_faults by now length measurement) start_finds n p

-- so an accepted pin report follows on
pub follows_on : (last : Time) (due : Option Time) (lines : Levels) (now : Time) (before after : Levels) → eqb (refusal last due lines (Call.At now (Timed.Pins before after))) 0 ≡ true → before ≡ lines
unfolding facts timed_facts jumps
follows_on last due lines now before after e =
    same_only lines before (not-false (same_levels lines before) (clear last due lines (Call.At now (Timed.Pins before after)) e).1.1.1.1.0)
