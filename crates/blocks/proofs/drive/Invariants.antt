use Rattle.blocks.proofs.Loop.{Upto}
use Rattle.blocks.proofs.drive.Given as goal

abbrev pub invariant-loop : goal.invariant-loop
invariant-loop g l = Upto g.A.Answers.gives g.row.N g.row.M l.initial.machine l.machine (g.R.Read.remaining l.initial.input) (g.R.Read.remaining l.input) (g.W.Write.contents l.initial.output) (g.W.Write.contents l.output) l.kept l.pending
