-- A wait that is set anew is due when it was set to, and the five others stay.
use Rattle.std.specs.Prelude.{◌≡◌, refl, ℕ, ◌<◌, List, [], ◌∷◌, Option, None, get_or, set}
use Rattle.std.proofs.Common.{arith, get_or-set_same, get_or-set_other}
use Rattle.time.specs.declared.Time.{Time}
use Rattle.deadlines.specs.declared.Deadlines.{Deadlines}
use Rattle.deadlines.specs.Deadlines.{with_serial_ready, with_wake, with_pause, with_quiet, with_irq_hold, with_image}

-- the names of the waits
pub data Wait : Type 0 where
  SerialReady : Wait
  Wake : Wait
  Pause : Wait
  Quiet : Wait
  IrqHold : Wait
  Image : Wait

-- the setter of that name
abbrev pub with_wait : Wait → Deadlines → Option Time → Deadlines
with_wait Wait.SerialReady s d = with_serial_ready s d
with_wait Wait.Wake s d = with_wake s d
with_wait Wait.Pause s d = with_pause s d
with_wait Wait.Quiet s d = with_quiet s d
with_wait Wait.IrqHold s d = with_irq_hold s d
with_wait Wait.Image s d = with_image s d

-- the six waits
abbrev pub six : Deadlines → List (Option Time)
six s = s.serial_ready ∷ s.wake ∷ s.pause ∷ s.quiet ∷ s.irq_hold ∷ s.image ∷ []

-- the place of a wait among them
abbrev pub place : Wait → ℕ
place Wait.SerialReady = 0
place Wait.Wake = 1
place Wait.Pause = 2
place Wait.Quiet = 3
place Wait.IrqHold = 4
place Wait.Image = 5

-- when a wait is due
abbrev pub due : Wait → Deadlines → Option Time
due w s = get_or (six s) (place w) None

-- one place of the six is set
pub one_is_set : (w : Wait) (s : Deadlines) (d : Option Time) → six (with_wait w s d) ≡ set (six s) (place w) d
one_is_set Wait.SerialReady s d = refl
one_is_set Wait.Wake s d = refl
one_is_set Wait.Pause s d = refl
one_is_set Wait.Quiet s d = refl
one_is_set Wait.IrqHold s d = refl
one_is_set Wait.Image s d = refl

place_lt : (w : Wait) → place w < 6
place_lt Wait.SerialReady = omega arith
place_lt Wait.Wake = omega arith
place_lt Wait.Pause = omega arith
place_lt Wait.Quiet = omega arith
place_lt Wait.IrqHold = omega arith
place_lt Wait.Image = omega arith

module _ (w : Wait) (s : Deadlines) (d : Option Time) where
  -- it is due when it was set to
  pub set_is_due : due w (with_wait w s d) ≡ d
  set_is_due = rw (one_is_set w s d) (get_or-set_same (six s) (place w) d None (place_lt w))

  -- each other is due when it was
  pub others_stay : (v : Wait) → (place v ≡ place w → ⊥) → due v (with_wait w s d) ≡ due v s
  others_stay v apart = rw (one_is_set w s d) (get_or-set_other (six s) (place w) (place v) d None apart)
