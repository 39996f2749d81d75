-- What a refused and an accepted call leave, and what an accepted one has.
use Rattle.std.specs.Prelude.{ℕ, ◌≡◌, Bool, true, false, not, eqb, ℤ, Option}
use Rattle.std.proofs.Common.{arith, sym, eqb-true}
use Rattle.std.proofs.Math.Path.{refl}
use Rattle.time.specs.declared.Time.{Time}
use Rattle.i2c.specs.declared.types.Levels.{Levels}
use Rattle.calls.specs.declared.types.Call.{Call}
use Rattle.calls.specs.declared.types.Starting.{Starting}
use Rattle.calls.specs.Facts.{facts}
use Rattle.calls.specs.Table.{rows, start_rows, first_found, wrong_length, too_late, goes_back, out_of_range, jumps, before_due, beside_due, refusal, start_refusal, unless_refused}
use Rattle.calls.proofs.Theorems.Found.{never, Clear, clear_is}

pub accepted_is : {A : Type 0} (n : ℕ) (x y : A) → eqb n 0 ≡ true → unless_refused n x y ≡ y
unfolding unless_refused
accepted_is n x y e = rw e

pub refused_is : {A : Type 0} (n : ℕ) (x y : A) → eqb n 0 ≡ false → unless_refused n x y ≡ x
unfolding unless_refused
refused_is n x y e = rw e

-- no test of the table finds anything in an accepted call
pub clear : (last : Time) (due : Option Time) (lines : Levels) (c : Call) → eqb (refusal last due lines c) 0 ≡ true → Clear (record { last = last; due = due; lines = lines; call = facts c }) rows
unfolding refusal
clear last due lines c e = clear_is _ rows (omega arith) (eqb-true _ 0 e)

pub start_clear : (by : Starting) (now : Time) (n m : ℕ) → eqb (start_refusal by now n m) 0 ≡ true → Clear (record { by = by; time = now; length = n; measurement = m }) start_rows
unfolding start_refusal
start_clear by now n m e = clear_is _ start_rows (omega arith) (eqb-true _ 0 e)

is_nineteen : (n : ℕ) (b : Bool) → eqb n 19 ≡ b → not b ≡ false → n ≡ 19
is_nineteen n true e p = eqb-true n 19 e
is_nineteen n false e p = never (sym p)

-- so its image or buffer has 19 bytes
pub start_length : (by : Starting) (now : Time) (n m : ℕ) → eqb (start_refusal by now n m) 0 ≡ true → n ≡ 19
unfolding wrong_length
start_length by now n m e = is_nineteen n (eqb n 19) refl (start_clear by now n m e).0

pub buffer_length : (last : Time) (due : Option Time) (lines : Levels) (now : Time) (n : ℕ) → eqb (refusal last due lines (Call.StoredImage now n)) 0 ≡ true → n ≡ 19
unfolding facts wrong_length
buffer_length last due lines now n e = is_nineteen n (eqb n 19) refl (clear last due lines (Call.StoredImage now n) e).0

-- 01: temperature, select and view have no refusal
module _ (last : Time) (due : Option Time) (lines : Levels) where
  pub temperature_accepted : (x : ℤ) → refusal last due lines (Call.Temperature x) ≡ 0
  unfolding refusal first_found facts wrong_length too_late goes_back out_of_range jumps before_due beside_due
  temperature_accepted x = refl

  pub select_accepted : (on : Bool) → refusal last due lines (Call.Select on) ≡ 0
  unfolding refusal first_found facts wrong_length too_late goes_back out_of_range jumps before_due beside_due
  select_accepted on = refl

  pub view_accepted : (address : ℕ) → refusal last due lines (Call.View address) ≡ 0
  unfolding refusal first_found facts wrong_length too_late goes_back out_of_range jumps before_due beside_due
  view_accepted address = refl
