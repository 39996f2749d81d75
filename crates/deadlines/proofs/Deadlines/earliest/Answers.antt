use Rattle.deadlines.proofs.Theorems.Earliest.{sooner_never}
use Rattle.deadlines.specs.Deadlines.{earliest, first}
use Rattle.deadlines.proofs.Deadlines.earliest.Goals as goal

pub returns : goal.returns
unfolding earliest first
returns c = simp (c.sooner.ensures, c.sooner-first-6.ensures, c.sooner-first-5.ensures, c.sooner-first-4.ensures, c.sooner-first-3.ensures, c.sooner-first-2.ensures, c.sooner-first.ensures, sooner_never)
