use Rattle.analog.proofs.Halvings.{none, one_more, enough}
use Rattle.analog.proofs.decay.halved.Goals as goal

pub loop-size-init : goal.loop-size-init
loop-size-init c = none c.args.angle c.requires

pub loop-size-preserved : goal.loop-size-preserved
loop-size-preserved c = let l = c.loop-size in one_more c.args.angle l.size l.squares l.invariant c.loop-size-test.true

pub returns : goal.returns
returns c = let l = c.loop-size in
    let p = c.loop-size-test.false in
    (enough c.args.angle l.size l.squares l.invariant p, l.invariant.few, l.invariant.large)
