use Rattle.std.specs.Prelude.{◌<◌, ◌≤◌, length, take}
use Rattle.std.proofs.Common.{arith, ap, ◌∙◌, length-append}
use Rattle.std.proofs.Common.{rules}
use Rattle.std.proofs.lemmas.Result.{err_from_is_err_and}
use Rattle.blocks.proofs.Loop.{begun, item_done, flushed, filled, done, broke_at, unbegun}
use Rattle.blocks.proofs.drive.Goals as goal
use Rattle.blocks.proofs.drive.Goals.{in-Some+in_ok-put-in-Some, in-None+in_ok-flush-in-None+in_ok-fill-in-None+else-branch-eq0}

pub loop-init : goal.loop-init
loop-init g c = begun _ _ _ _ _ _ c.new-kept.ensures c.new-pending.ensures

pub returns-then-branch-eq0-clause-answered : goal.returns-then-branch-eq0-clause-answered
returns-then-branch-eq0-clause-answered g c =
    let x = c.in_ok-flush-in-None.ensures in
    let y = c.in_ok-fill-in-None.ensures in
    let none = c.if-branch-eq0.true in
    let few : length c.loop.kept < g.row.N = rw (← c.bytes.ensures) c.in-None.ensures.cases in
    let short : length c.fill.new.self < g.row.N = rw (y.1, length-append) (omega (arith, y.2, none, few)) in
    let fits : g.row.N ≤ 65536 = omega (arith, c.if-this-gt-SIZE.false) in
    done _ _ _ _ (filled _ _ _ _ (flushed _ _ _ _ c.loop.invariant x.taken x.none_left) y.0 y.1 y.3) short (y.4 none (omega (arith, few, fits))) x.none_left

pub loop-preserved : goal.loop-preserved
loop-preserved g c = elim c.match-first_chunk.branch [
  | in-Some+in_ok-put-in-Some w ↦ let h = w.in-Some.ensures.cases in rw (w.machine-is, w.input-is, w.output-is, w.kept-is, w.pending-is, w.skip.ensures)
      (item_done _ _ _ _ c.loop.invariant w.in-Some.item.now w.answer.result (h.same ∙ ap (take g.row.N) c.bytes.ensures) (rw c.bytes.ensures at h.enough) (search rules) w.answer.ensures w.in_ok-put-in-Some.ensures)
  | in-None+in_ok-flush-in-None+in_ok-fill-in-None+else-branch-eq0 w ↦
      let x = w.in_ok-flush-in-None.ensures in
      let y = w.in_ok-fill-in-None.ensures in
      rw (w.machine-is, w.input-is, w.output-is, w.kept-is, w.pending-is) (filled _ _ _ _ (flushed _ _ _ _ c.loop.invariant x.taken x.none_left) y.0 y.1 y.3)
]

pub returns-then-this-gt-SIZE-clause-broken_off : goal.returns-then-this-gt-SIZE-clause-broken_off
returns-then-this-gt-SIZE-clause-broken_off g c = unbegun _ _ _ _ _

pub returns-in_err-put-in-Some-clause-broken_off : goal.returns-in_err-put-in-Some-clause-broken_off
returns-in_err-put-in-Some-clause-broken_off g c =
    let h = c.in-Some.ensures.cases in
    rw (err_from_is_err_and c.from_residual.result c.from_residual.ensures.1).1
    (broke_at _ _ _ _ c.loop.invariant c.in-Some.item.now c.answer.result (h.same ∙ ap (take g.row.N) c.bytes.ensures) (rw c.bytes.ensures at h.enough) (search rules) c.answer.ensures)
