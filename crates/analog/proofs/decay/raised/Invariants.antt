use Rattle.std.proofs.Common.{◌≡◌}
use Rattle.laws.specs.Iterate.{iterate}
use Rattle.analog.specs.Decay.{squared}
use Rattle.analog.proofs.decay.raised.Given as goal

abbrev pub invariant-loop : goal.invariant-loop
invariant-loop l = l.g ≡ iterate l.counter squared l.fn.f
