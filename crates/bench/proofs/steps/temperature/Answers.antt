use Rattle.bench.proofs.Laws.{temperature_called}
use mir.Syntax.{w32}
use mir.ValLaws.{to_z-of_z}
use Rattle.calls.specs.Table.{number}
use mathlib.Core.Path.{ap, ◌∙◌}
use lib.IntN.{ℤ}
use Rattle.calls.specs.declared.types.Call.TheVariants as Call
use Rattle.bma150.specs.declared.host.Bma150.{Bma150}
use Rattle.bma150.specs.Called.{called}
use Rattle.bench.specs.Line.{silent}
use borrow.Author.Rules.{rules}
use Rattle.bench.proofs.steps.temperature.Goals as goal

pub returns : goal.returns
unfolding number
returns c =
    ap (λ (t : Bma150). silent t 0) c.temperature.ensures
    ∙ temperature_called c.args.sensor.now _
    ∙ ap (λ (x : ℤ). called c.args.sensor.now (Call.Temperature x)) (to_z-of_z w32 c.args.millicelsius (search rules))
