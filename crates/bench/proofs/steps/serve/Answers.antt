use Rattle.std.proofs.Common.{sym, ◌∙◌}
use Rattle.commands.proofs.Theorems.More.{image_there}
use Rattle.bench.proofs.steps.serve.Goals as goal

pub slice_bounds-start-end : goal.slice_bounds-start-end
slice_bounds-start-end c = image_there _ _ _ (sym c.requires ∙ c.in-Start.is)
