use Rattle.std.proofs.Common.{length}
use Rattle.machine.proofs.Theorems.Blocks.{Upto}
use Rattle.bench.specs.Run.{bench}
use Rattle.bench.proofs.run.Given as goal

abbrev pub invariant-loop-stop : goal.invariant-loop-stop
invariant-loop-stop l = Upto (bench l.trace) l.over l.initial.sensor l.input l.sensor l.left l.out.items l.stop

abbrev pub decreases-loop-stop : goal.decreases-loop-stop
decreases-loop-stop l = length l.left
