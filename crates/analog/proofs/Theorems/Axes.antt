-- An axis has its number; one that is set is read back under it, and the two others stay.
use Rattle.std.specs.Prelude.{◌≡◌, refl}
use Rattle.analog.specs.declared.types.Axes.{Axes}
use Rattle.analog.specs.Axis.{axis_of, with_axis}

module _ {T : Type 0} (g : Axes T) where
  -- x, y and z are 0, 1 and 2
  pub numbered : (axis_of g 0 ≡ g.x) × (axis_of g 1 ≡ g.y) × (axis_of g 2 ≡ g.z)
  unfolding axis_of
  numbered = (refl, refl, refl)

  -- one of them is set
  pub one_axis_set : (a : T) → (with_axis g 0 a ≡ record g { x = a }) × (with_axis g 1 a ≡ record g { y = a }) × (with_axis g 2 a ≡ record g { z = a })
  unfolding with_axis
  one_axis_set a = (refl, refl, refl)
