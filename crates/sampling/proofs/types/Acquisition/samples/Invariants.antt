use Rattle.std.proofs.Common.{◌≡◌, ◌≤◌}
use Rattle.sampling.specs.Phase.{samples}
use Rattle.sampling.proofs.types.Acquisition.samples.Given as goal

-- the phases of the edges so far are done
abbrev pub invariant-loop : goal.invariant-loop
invariant-loop l = (l.counter ≤ l.n) × (l.self ≡ samples l.counter l.initial.self l.input l.needs)
