use Rattle.std.proofs.Common.{◌≡◌, ◌+◌, ◌-◌, ◌*◌, ◌%◌, ◌<◌, ◌≤◌, ap, arith, sym, ◌∙◌, rules, length, set, List, ℤ, w16}
use mir.Val.{SFits}
use Rattle.std.proofs.lemmas.Int.{to_z-of_z}
use Rattle.filter.specs.Mean.{mean}
use Rattle.filter.specs.Filter.{window, place, count_with, pushed}
use Rattle.filter.proofs.Codes.{ring_lent, answered_code, answered_ring, not_full, is_full}
use Rattle.filter.proofs.Filter.take_code.Goals as goal

pub returns-then-ring-window_of : goal.returns-then-ring-window_of
unfolding pushed
returns-then-ring-window_of c =
    let f = c.args.self.now in
    let a = c.args.axis in
    let code = to_z-of_z w16 c.args.code c.ranges.code in
    let few : count_with f a < window f = rw (c.grown-ring.ensures, c.from-a.ensures, c.window_of.ensures) at c.if-ring-window_of.true in
    record {
      filter_after = rw (code, c.grown-ring.ensures, c.from-place.ensures, c.from-a.ensures);
      code_value = code ∙ sym (answered_code f a c.args.code few);
      full_value = sym (not_full f a c.args.code few);
    }

pub returns : goal.returns
unfolding pushed
returns c =
    let f = c.args.self.now in
    let a = c.args.axis in
    let code = to_z-of_z w16 c.args.code c.ranges.code in
    let three : length c.args.self.now.rings ≡ 3 = search rules in
    let enough : window f ≤ count_with f a = rw (c.grown-ring.ensures, c.from-a.ensures, c.window_of.ensures) at c.if-ring-window_of.false in
    let fits : SFits w16 c.mean_of-mean.result = search rules in
    let mean-is = rw (code, c.min.ensures, c.from-place.ensures, c.from-a.ensures) at c.mean_of-mean.ensures in
    let from = a % 3 * 64 in
    let lent = ring_lent (set f.history (from + place f a) c.args.code) from (from + 64 - from) (place f a) (omega arith) in
    record {
      filter_after = rw (code, c.grown-ring.ensures, c.from-place.ensures, c.from-a.ensures);
      code_value = to_z-of_z w16 c.mean_of-mean.result fits ∙ mean-is ∙ ap (λ (l : List ℤ). mean (window f) l) lent ∙ sym (answered_ring f a c.args.code three enough);
      full_value = sym (is_full f a c.args.code enough);
    }
