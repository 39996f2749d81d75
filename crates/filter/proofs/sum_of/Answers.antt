use Rattle.std.proofs.Common.{arith, get_or, pos, rules, w16, to_z, w32}
use mir.Val.{SFits}
use Rattle.laws.specs.Signed.{of_fits}
use Rattle.filter.proofs.Sums.{turn}
use Rattle.filter.proofs.sum_of.Goals as goal

pub loop-code-preserved : goal.loop-code-preserved
loop-code-preserved c =
    let xs = c.args.codes.now in let n = c.loop-code.code-index in
    let f : SFits w16 (get_or xs n (pos 0)) = search rules in
    rw c.from-total.ensures (turn xs n (to_z w32 c.loop-code.total-bits) (of_fits f) c.loop-code.invariant.0 c.loop-code.invariant.1 (omega arith))
