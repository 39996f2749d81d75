use Rattle.bench_stream.proofs.Theorems.Loop.{Upto}
use Rattle.bench_stream.proofs.turns.Given as goal

abbrev pub invariant-loop : goal.invariant-loop
invariant-loop g l = Upto l.trace (g.R.Read.remaining l.initial.input) (g.R.Read.remaining l.input) (g.W.Write.contents l.initial.output) (g.W.Write.contents l.output) l.counter l.t l.kept
