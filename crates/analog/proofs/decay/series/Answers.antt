use Rattle.std.proofs.Common.{◌+◌, ◌-◌, ◌*◌, ◌^◌, ◌≤◌, le_trans, arith}
use Rattle.analog.proofs.Theorems.Bounds.{terms_small}
use Rattle.analog.proofs.decay.series.Goals as goal

pub term-s-requires : goal.term-s-requires
term-s-requires c =
    let n = c.loop-n.n in let a = c.args.angle.size in
    let p : n - 1 ≤ 12 = omega arith in
    let h = terms_small a (n - 1) c.args.angle.small p in
    let k : (n - 1 + 1) * 2 ^ 48 ≤ 13 * 2 ^ 48 = omega arith in
    rw c.loop-n.invariant (h.0, h.1, le_trans h.2 k, le_trans h.3 k, omega arith, omega arith)
