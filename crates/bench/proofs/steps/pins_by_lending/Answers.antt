use Rattle.std.proofs.Common.{◌∙◌}
use Rattle.bench.proofs.Laws.{pins_called}
use Rattle.bench.proofs.steps.pins_by_lending.Goals as goal

pub returns : goal.returns
returns c = c.silent.ensures _ ∙ pins_called c.args.sensor.now c.args.when c.args.before c.args.after _ c.pins_lent.result c.pins_lent.ensures
