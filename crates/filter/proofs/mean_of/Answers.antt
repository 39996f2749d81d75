use Rattle.std.proofs.Common.{◌*◌, ◌^◌, ◌≤◌, ◌∙◌, arith}
use lib.Pow.{pow_pos}
use Rattle.laws.specs.Signed.{Reach}
use Rattle.filter.specs.Mean.{mean}
use Rattle.filter.proofs.Sums.{window_is, window_le, mean_back}
use Rattle.filter.proofs.mean_of.Goals as goal

pub window_sum-requires : goal.window_sum-requires
window_sum-requires c = let s = c.args.shift in
    let six : s ≤ 6 = omega arith in
    (c.requires.0, omega arith, rw (window_is s six) (pow_pos s), rw (window_is s six) (window_le s six))

pub returns : goal.returns
unfolding mean
returns c = let s = c.args.shift in
    let six : s ≤ 6 = omega arith in
    let r : Reach c.window_sum.result (2 ^ s * 32768) = record { reach = rw (window_is s six) at c.window_sum.ensures.1 } in
    mean_back s six r ∙ rw (c.window_sum.ensures.0, window_is s six)
