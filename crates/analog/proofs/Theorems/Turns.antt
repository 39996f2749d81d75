-- A setting of an axis, both ways: it moves the stage exactly if the input changes, and then with the old one.
use Rattle.std.specs.Prelude.{◌≡◌, Bool, true, false, ℤ, pos, ◌≢◌, refl, if◌then◌else◌}
use Rattle.time.specs.declared.Time.{Time}
use Rattle.analog.specs.declared.types.Axis.{Axis}
use Rattle.analog.specs.Axis.{same, advanced, turned}
use Rattle.analog.proofs.Theorems.Lands.{same_true, same_refl}

-- the same input: nothing moves
pub turned_same : (a : Axis) (now : Time) (old new : ℤ) → old ≡ new → turned a now old new ≡ a
unfolding turned
turned_same a now old new e = rw (← e, same_refl old)

-- a test that does not hold
second : (b : Bool) (p q : Axis) → (b ≢ true) → (if b then p else q) ≡ q
second true p q h = absurd (h refl)
second false p q h = refl

-- another: the axis advances with the old one
pub turned_changed : (a : Axis) (now : Time) (old new : ℤ) → (old ≢ new) → turned a now old new ≡ advanced a now old
unfolding turned
turned_changed a now old new h = second (same old new) _ _ (λ e. h (same_true old new e))

-- the first and the last of the inputs differ
such_inputs : same (pos 0) (pos 1) ≡ false
such_inputs = refl
