use Rattle.std.proofs.Common.{◌^◌, ◌<◌}
use mir.Syntax.{w128}
use Rattle.std.proofs.lemmas.Int.{to_z-of_z}
use Rattle.analog.proofs.Words.{rounded_below, rounded_above}
use Rattle.analog.proofs.wide.round.Goals as goal
use Rattle.analog.proofs.wide.round.Goals.{then-n-lt0, else-n-lt0}

pub returns : goal.returns
returns c =
    let n = c.args.n in let d = c.args.d in let p = c.requires in
    let l : d < 2 ^ 64 = c.ranges.d.fits in
    let e = to_z-of_z w128 n c.ranges.n in
    elim c.if-n-lt0.branch [
      | then-n-lt0 w ↦ rw c.from.ensures (rounded_below n d p.0 p.1 l _ (rw c.from-half.ensures at w.result-is) (rw e at w.if-n-lt0.true))
      | else-n-lt0 w ↦ rw c.from.ensures (rounded_above n d p.0 p.1 l _ (rw c.from-half.ensures at w.result-is) (rw e at w.if-n-lt0.false))
    ]
