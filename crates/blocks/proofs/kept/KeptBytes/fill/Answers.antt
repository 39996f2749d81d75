use Rattle.std.specs.Prelude.{◌≡◌, ◌≤◌, ◌-◌, ◌++◌, List, ℕ, length, take, drop}
use Rattle.std.proofs.Common.{arith, sym, ap, ◌∙◌, length-take-le, length-drop}
use Rattle.std.proofs.lemmas.List.{take-append-le}
use Rattle.std.proofs.lemmas.Result.{err_from_is_err_and}
use Rattle.blocks.proofs.Buffer.{kept, kept_length, front, untouched, behind}
use Rattle.blocks.proofs.kept.KeptBytes.fill.Goals as goal

pub returns-in_err-got : goal.returns-in_err-got
returns-in_err-got g c =
    let k = c.self.inside in
    let m = c.copy_within.new.self in
    let e = c.copy_within.ensures in
    let have = k.have - k.at in
    let room : k.have ≤ length k.buf = omega (arith, c.self.told, c.self.invariant.1) in
    let fits : have ≤ length m = omega (arith, room, e.len) in
    let p = err_from_is_err_and c.from_residual.result c.from_residual.ensures.1 in
    rw p.1 (untouched m _ 0 have (omega arith) fits ∙ ap (λ l. kept l 0 have) e.after ∙ front k.buf k.at k.have c.self.invariant.0 room ∙ c.self.view_is, c.in_err-got.ensures.bytes)

pub returns : goal.returns
returns g c =
    let k = c.self.inside in
    let m = c.copy_within.new.self in
    let e = c.copy_within.ensures in
    let have = k.have - k.at in
    let got = c.in_ok-got.got in
    let came = c.in_ok-got.ensures in
    let room : k.have ≤ length k.buf = omega (arith, c.self.told, c.self.invariant.1) in
    let long : length m ≡ 65536 = e.len ∙ c.self.told in
    let fits : have ≤ length m = omega (arith, room, e.len) in
    let same = ap (λ l. kept l 0 have) e.after ∙ front k.buf k.at k.have c.self.invariant.0 room ∙ c.self.view_is in
    let size : length c.args.self.now ≡ have = sym (ap length same) ∙ kept_length m 0 have (omega arith) fits ∙ omega arith in
    let rest : length (take (65536 - have) (drop have m)) ≡ 65536 - have = length-take-le (65536 - have) (drop have m) (simp length-drop (omega arith)) in (
      _,
      behind m _ 0 have got (omega arith) fits
          ∙ ap (λ (l : List ℕ). kept m 0 have ++ l) (take-append-le got c.read.new.buf _ came.bound.0)
          ∙ ap (λ (l : List ℕ). l ++ take got c.read.new.buf) same,
      sym came.bound.1,
      came.bytes.0,
      λ none few. came.bytes.1 none (omega (arith, c.read.auto.buf, rest, size, few)),
    )
