use Rattle.std.proofs.Common.{◌≡◌, take}
use Rattle.bench.specs.Text.{appended}
use Rattle.bench.proofs.text.Line.word.Given as goal

abbrev pub invariant-loop-b : goal.invariant-loop-b
invariant-loop-b l = l.self ≡ appended l.initial.self (take l.b-index l.w)
