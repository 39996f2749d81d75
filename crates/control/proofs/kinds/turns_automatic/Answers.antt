use Rattle.std.proofs.Common.{◌≡◌, refl, Bool, true, false, not}
use mathlib.Core.Bool.{beq, xor}
use Rattle.control.proofs.kinds.turns_automatic.Goals as goal

differ : (a b : Bool) → not (beq a b) ≡ xor a b
unfolding xor
differ true true = refl
differ true false = refl
differ false true = refl
differ false false = refl

pub returns : goal.returns
returns c = rw (c.has.ensures, c.has-2.ensures) (differ _ _)
