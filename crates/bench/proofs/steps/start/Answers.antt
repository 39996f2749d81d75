use Rattle.std.proofs.Common.{sym, ap, ◌∙◌}
use Rattle.calls.specs.Table.{number}
use Rattle.bma150.specs.declared.host.Bma150.{Bma150}
use Rattle.bench.specs.Line.{silent}
use Rattle.bench.proofs.Laws.{start_accepted, start_refused}
use Rattle.bench.proofs.steps.start.Goals as goal
use Rattle.bench.proofs.steps.start.Goals.{then-is_accepted, else-is_accepted}

pub returns : goal.returns
returns c =
    let a = c.args in
    let e = c.begun-answer.ensures in
    let n = number c.begun-answer.result.answer in
    c.silent.ensures _
    ∙ elim c.if-is_accepted.branch [
      | then-is_accepted w ↦ ap (λ (s : Bma150). silent s n) w.running-is ∙ start_accepted a.running.now _ a.by a.when _ n e.outcome_value e.sensor_value (sym c.is_accepted.ensures ∙ w.if-is_accepted.true)
      | else-is_accepted w ↦ ap (λ (s : Bma150). silent s n) w.running-is ∙ start_refused a.running.now a.running.now a.by a.when _ n e.outcome_value (sym c.is_accepted.ensures ∙ w.if-is_accepted.false)
    ]
