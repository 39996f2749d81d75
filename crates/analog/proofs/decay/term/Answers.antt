use Rattle.std.proofs.Common.{◌*◌, ◌^◌, ℤ, pos, ◌+ℤ◌, ◌*ℤ◌, ap, ◌∙◌}
use Rattle.analog.specs.Round.{round}
use Rattle.analog.specs.Decay.{unit, term}
use Rattle.analog.proofs.Held.{itself, opposite, plus, minus, read_64}
use Rattle.analog.proofs.decay.term.Goals as goal

pub returns : goal.returns
unfolding term
returns c =
    let s = c.args.s in let p = c.requires in let x = c.args in
    let tr = itself s.last.re (2 ^ 48) p.0 in
    let ti = read_64 (itself s.last.im (2 ^ 48) p.1) tt in
    let down = read_64 (minus (read_64 (opposite (read_64 tr tt)) tt) ti) tt in
    let up = read_64 (minus (read_64 tr tt) ti) tt in
    let t = itself c.share-re.result (2 ^ 47) c.share-re.ensures.1 in
    let u = itself c.share-im.result (2 ^ 47) c.share-im.ensures.1 in
    let e = c.share-re.ensures.0 ∙ ap (λ (z : ℤ). round (z *ℤ pos x.angle.size) (unit * x.n)) down.is in
    let f = c.share-im.ensures.0 ∙ ap (λ (z : ℤ). round (z *ℤ pos x.angle.size) (unit * x.n)) up.is in
    let re = read_64 (plus (read_64 (itself s.sum.re (13 * 2 ^ 48) p.2) tt) (read_64 t tt)) tt in
    let im = read_64 (plus (read_64 (itself s.sum.im (13 * 2 ^ 48) p.3) tt) (read_64 u tt)) tt in
    λ i. record {
      sum = record { re = (re.is ∙ ap (λ (z : ℤ). s.sum.re +ℤ z) e) i; im = (im.is ∙ ap (λ (z : ℤ). s.sum.im +ℤ z) f) i };
      last = record { re = ((read_64 t tt).is ∙ e) i; im = ((read_64 u tt).is ∙ f) i };
    }
