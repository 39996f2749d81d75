-- No axis of the stage runs ahead, over every list: by induction over the calls.
use Rattle.std.specs.Prelude.{Option, Some}
use Prim.Native.Nat.{◌≤◌}
use native.Mathlib.Nat.{le_trans}
use native.Mathlib.Omega.{arith}
use mathlib.Core.Path.{◌≡◌, refl, sym, ap, ◌∙◌}
use mathlib.Core.Bool.{true}
use mathlib.Core.List.{List, [], ◌∷◌}
use borrow.Author.Tests.{ltb-false}
use Rattle.time.specs.declared.Time.{Time}
use Rattle.time.specs.Time.{ticks, time}
use Rattle.analog.specs.Axis.{Analog}
use Rattle.calls.specs.declared.types.Timed.{Timed}
use Rattle.calls.specs.declared.types.Call.{Call}
use Rattle.calls.specs.Facts.{timed_facts, facts}
use Rattle.calls.specs.Table as T
use Rattle.calls.proofs.Theorems.Left.{clear}
use Rattle.samples.specs.Samples.{interaction_deadline}
use Rattle.bma150.specs.declared.host.Bma150.{Bma150}
use Rattle.bma150.proofs.Theorems.Acts.{by_acts}
use Rattle.bma150.specs.Called.{leaves}
use Rattle.effects.specs.Onward as E
use Rattle.effects.specs.Onward.{Upto}
use Rattle.effects.specs.Theorems.Stage.{rest_upto}
use Rattle.effects.specs.Theorems.Onward as Steps
use Rattle.book.specs.Lists.{accepts, step, Start, started, after}
use Rattle.book.specs.Onward.{NotAhead, Onward}
use Rattle.book.proofs.Call.{after_call, at_start}
use Rattle.book.proofs.Walk.{leaves_meets}

-- no axis is after the last accepted time
abbrev Stands : Bma150 → Type 0
Stands s = Upto s.last s.sensor.sampling.analog

-- ---- one call

dated : (now : Time) (t : Timed) → (timed_facts now t).time ≡ Some now
unfolding timed_facts
dated now (Timed.Accelerations input) = refl
dated now (Timed.Supply rail) = refl
dated now Timed.Due = refl
dated now (Timed.Rising mosi) = refl
dated now Timed.Falling = refl
dated now (Timed.Pins before after) = refl

-- the table has no accepted call go back
not_back : (s : Bma150) (now : Time) (t : Timed) → accepts s (Call.At now t) ≡ true → ticks s.last ≤ ticks now
unfolding facts T.goes_back
not_back s now t p =
    let q = clear s.last (interaction_deadline s.sensor) s.sensor.kept.lines (Call.At now t) p in
    ltb-false (ticks now) (ticks s.last) (sym (ap (λ (d : Option Time). T.goes_back s.last d) (dated now t)) ∙ q.1.1.0)

-- the last accepted time never goes back
not_before : (s : Bma150) (c : Call) → accepts s c ≡ true → ticks s.last ≤ ticks (leaves s c).last
unfolding leaves
not_before s =
    by_acts (λ c. accepts s c ≡ true → ticks s.last ≤ ticks (leaves s c).last) (not_back s) (λ on p. omega arith) (λ c f e p. rw e (omega arith))

later_upto : (a b : Time) (g : Analog) → ticks a ≤ ticks b → Upto a g → Upto b g
later_upto a b g p h = record { x = le_trans h.x p; y = le_trans h.y p; z = le_trans h.z p }

leaves_stands : (s : Bma150) (c : Call) → accepts s c ≡ true → Stands s → Stands (leaves s c)
leaves_stands s c p h = (leaves_meets E.Onward Steps.onward s c).onward (later_upto s.last (leaves s c).last s.sensor.sampling.analog (not_before s c p) h)

step_stands : (s : Bma150) (c : Call) → Stands s → Stands (step s c)
step_stands s c h = after_call Stands s c (λ p. leaves_stands s c p h) (λ p. h)

-- ---- and a list

after_stands : (s : Bma150) (cs : List Call) → Stands s → Stands (after s cs)
unfolding after
after_stands s [] h = h
after_stands s (c ∷ cs) h = after_stands (step s c) cs (step_stands s c h)

-- a start rests at its time, a refused one at 0
started_stands : (b : Start) → Stands (started b)
started_stands b = at_start Stands b (λ e. rest_upto b.time) (rest_upto (time 0))

not_ahead : (b : Start) (cs : List Call) → NotAhead (after (started b) cs)
not_ahead b cs = let h = after_stands (started b) cs (started_stands b) in record { x = h.x; y = h.y; z = h.z }

pub onward : Onward
onward = record { stage_onward = not_ahead }
