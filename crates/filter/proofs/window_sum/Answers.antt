use Rattle.std.proofs.Common.{◌^◌, ◌+ℤ◌, arith, w32}
use Rattle.laws.specs.Signed.{Reach, back}
use Rattle.filter.proofs.Sums.{both}
use Rattle.filter.proofs.window_sum.Goals as goal

pub returns : goal.returns
returns c =
    let x = c.args in let p = c.requires in let s = c.sum_of.result in let t = c.sum_of-2.result in
    let a = c.sum_of.ensures in let b = c.sum_of-2.ensures in
    let h = both x.codes.now x.at x.window c.min-near.result p.1 p.2 p.3 c.min-near.ensures s t a.0 a.1 b.0 b.1 in
    let u : Reach s (2 ^ 31) = record { reach = c.sum_of.type_inv } in
    let v : Reach t (2 ^ 31) = record { reach = c.sum_of-2.type_inv } in
    let w : Reach (s +ℤ t) (2 ^ 31) = record { reach = omega (arith, h.1) } in
    rw (back w32 u tt, back w32 v tt, back w32 w tt) h
