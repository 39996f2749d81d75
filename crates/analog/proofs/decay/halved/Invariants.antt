use Rattle.analog.proofs.Halvings.{Halving}
use Rattle.analog.proofs.decay.halved.Given as goal

abbrev pub invariant-loop-size : goal.invariant-loop-size
invariant-loop-size l = Halving l.angle l.size l.squares

abbrev pub decreases-loop-size : goal.decreases-loop-size
decreases-loop-size l = l.size
