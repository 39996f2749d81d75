use Rattle.std.proofs.Common.{sym, arith}
use Rattle.bench_stream.proofs.Theorems.Loop.{upto_first, upto_next, ended_now, used_up}
use Rattle.bench_stream.proofs.turns.Goals as goal

pub loop-init : goal.loop-init
loop-init g c = upto_first c.args.trace _ _ _ _ c.begin-t.ensures c.requires

pub loop-preserved : goal.loop-preserved
loop-preserved g c = upto_next c.args.trace c.loop.invariant (sym c.if-not-goes_on.ensures) c.step-t.ensures

pub returns-after-loop : goal.returns-after-loop
returns-after-loop g c = used_up c.args.trace c.loop.invariant (omega (arith, c.loop-test.false, c.loop.auto.counter-end))

pub returns-then-not-goes_on : goal.returns-then-not-goes_on
returns-then-not-goes_on g c = ended_now c.args.trace c.loop.invariant (sym c.if-not-goes_on.ensures)
