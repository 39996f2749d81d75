use Rattle.std.specs.Prelude.{◌≡◌, ◌+◌, ◌++◌, ◌≤◌, length, Result, Ok, Err, IsOk, OnOk}
use Rattle.std.proofs.Common.{sym, ap, ◌∙◌, arith, length-drop}
use Rattle.std.proofs.lemmas.Bool.{false≢true}
use Rattle.std.proofs.lemmas.List.{take_rest}
use Rattle.machine.specs.Machine.{running}
use Rattle.machine.specs.Block.{bounded_turn}
use Rattle.machine.proofs.Theorems.Blocks.{begun, bounded_short, bounded_full, bounded_stopped, stopped_turn}
use Rattle.bench.specs.Run.{bench}
use Rattle.bench.specs.Theorems.Loop.{short, some, advance, went, going, finished}
use Rattle.bench.proofs.run.Goals as goal
use Rattle.bench.proofs.run.Goals.{then-loop-stop-test+then-len-le-ROOM+else-is_whole, then-loop-stop-test+else-len-le-ROOM, else-loop-stop-test}

-- what went well
extended : {T E : Type 0} {P : Type 0} (r : Result T E) → IsOk r → OnOk r P → P
extended (Ok x) e p = p
extended (Err d) e p = absurd (false≢true e)

pub loop-stop-init : goal.loop-stop-init
loop-stop-init c = rw c.clear.ensures begun

pub bounds-left-0 : goal.bounds-left-0
bounds-left-0 c = omega (arith, some c.args.over _ (sym c.if-is_whole.ensures))

pub slice_bounds-left-count : goal.slice_bounds-left-count
slice_bounds-left-count c = (advance c.args.over _ (sym c.if-is_whole.ensures) c.decode-command.ensures c.size.ensures).0

pub slice_bounds-left-start : goal.slice_bounds-left-start
slice_bounds-left-start c = omega (arith, (advance c.args.over _ (sym c.if-is_whole.ensures) c.decode-command.ensures c.size.ensures).0)

pub loop-stop-smaller : goal.loop-stop-smaller
loop-stop-smaller c =
    let left = c.loop-stop.left.now in
    let k = c.size.result in
    let adv = advance c.args.over left (sym c.if-is_whole.ensures) c.decode-command.ensures c.size.ensures in
    let e = ap length (take_rest left k) ∙ length-drop k left in
    omega (arith, adv.0, adv.1, e)

pub loop-stop-preserved : goal.loop-stop-preserved
loop-stop-preserved c =
    let ran = c.loop-stop in
    let l = ran.left.now in
    let room : length ran.out.items ≤ 65408 = omega (arith, c.len.ensures.value, c.if-len-le-ROOM.true) in
    let fits : length ran.out.items + length c.text.result.now ≤ 65536 = omega (arith, room, c.text.ensures.fits) in
    let e = c.try_extend_from_slice.ensures in
    let lines = extended c.try_extend_from_slice.result (e.variant.1 fits) e.ok ∙ ap (λ m. ran.out.items ++ m) (c.text.ensures.value ∙ c.reply.ensures) in
    let going_on = going c.args.trace c.loop-stop-test.true ran.invariant in
    let done = went c.args.trace _ c.serve-answer.result going_on (sym c.if-is_whole.ensures) room c.decode-command.ensures c.serve-answer.ensures c.size.ensures c.is_bad-stop.ensures in
    rw (take_rest l c.size.result, lines) done

pub returns : goal.returns
returns c =
    let ran = c.loop-stop in
    let b = running ran.sensor ran.left.now ran.out.items ran.stop in
    let still : bounded_turn (bench c.args.trace) c.args.over b ≡ b = elim c.loop-stop-test.branch [
      | then-loop-stop-test+then-len-le-ROOM+else-is_whole w ↦ bounded_short _ _ _ (short c.args.trace c.args.over _ (sym w.if-is_whole.ensures))
      | then-loop-stop-test+else-len-le-ROOM w ↦ bounded_full _ _ _ (omega (arith, w.len.ensures.value, w.if-len-le-ROOM.false))
      | else-loop-stop-test w ↦ bounded_stopped _ _ _ (stopped_turn _ _ w.loop-stop-test.false)
    ] in
    let done = finished c.args.trace ran.invariant still in
    record { value = done.0; text = done.1; input_value = done.2; read_in_bounds = omega arith }
