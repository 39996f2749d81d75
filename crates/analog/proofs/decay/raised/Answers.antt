use Rattle.std.proofs.Common.{◌+◌, add-one, arith}
use Rattle.laws.specs.Iterate.{iterate}
use Rattle.analog.proofs.decay.raised.Goals as goal

pub square-g-requires : goal.square-g-requires
unfolding iterate
square-g-requires c =
    let l = c.loop in
    let p = c.requires in
    rw l.invariant (p l.counter (omega arith), rw add-one at (p (l.counter + 1) (omega arith)))
