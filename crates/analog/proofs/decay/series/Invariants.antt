use Rattle.std.proofs.Common.{◌≡◌, ◌-◌}
use Rattle.analog.specs.Decay.{terms}
use Rattle.analog.proofs.decay.series.Given as goal

abbrev pub invariant-loop-n : goal.invariant-loop-n
invariant-loop-n l = l.s ≡ terms l.angle.size (l.n - 1)
