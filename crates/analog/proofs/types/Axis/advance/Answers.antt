use Rattle.time.specs.Time.{lasts}
use Rattle.analog.proofs.Theorems.Bounds.{factors_small}
use Rattle.analog.proofs.types.Axis.advance.Goals as goal

pub step-requires : goal.step-requires
step-requires c = rw c.factors.ensures (factors_small (lasts c.since-d.result))
