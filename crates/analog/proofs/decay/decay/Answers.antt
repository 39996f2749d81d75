use Rattle.std.proofs.Common.{◌<◌, sym, ap, ◌∙◌}
use Rattle.laws.specs.Iterate.{iterate}
use Rattle.analog.specs.Decay.{settling, squared}
use Rattle.analog.proofs.Theorems.Bounds.{decay_keeps}
use Rattle.analog.proofs.Halvings.{all_below}
use Rattle.analog.proofs.decay.decay.Goals as goal

pub raised-requires : goal.raised-requires
raised-requires c =
    let h = c.halved-squares in
    rw c.series.ensures (all_below h.result.0.size h.result.1 h.result.0.small h.ensures.1 h.ensures.2)

pub returns : goal.returns
returns c =
    let h = c.halved-squares in
    let l : c.args.dt < settling = c.if-dt-ge-SETTLING.false in
    c.raised.ensures ∙ ap (iterate h.result.1 squared) c.series.ensures ∙ sym (rw c.from.ensures at h.ensures.0) ∙ sym (decay_keeps c.args.dt l)
