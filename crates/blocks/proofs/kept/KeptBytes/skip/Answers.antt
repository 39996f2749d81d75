use Rattle.std.specs.Prelude.{◌≡◌, ◌-◌, ◌≤◌, min, length, drop}
use Rattle.std.proofs.Common.{arith, ap, ◌∙◌}
use Rattle.std.proofs.lemmas.List.{drop_min}
use Rattle.blocks.proofs.Buffer.{kept, kept_length, shorter}
use Rattle.blocks.proofs.kept.KeptBytes.skip.Goals as goal

pub returns : goal.returns
returns c =
    let k = c.self.inside in
    let l = kept k.buf k.at k.have in
    let room : k.have ≤ length k.buf = omega (arith, c.self.told, c.self.invariant.1) in
    let size : length l ≡ k.have - k.at = kept_length k.buf k.at k.have c.self.invariant.0 room in
    let some : c.min.result ≡ min c.args.n (length l) = rw size c.min.ensures in
    let few : c.min.result ≤ length l = omega (arith, some) in
    shorter k.buf k.at k.have c.min.result c.self.invariant.0 room few ∙ ap (λ m. drop m l) some ∙ drop_min c.args.n l ∙ ap (drop c.args.n) c.self.view_is
