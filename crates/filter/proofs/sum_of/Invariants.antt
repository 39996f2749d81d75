use Rattle.std.proofs.Common.{◌≡◌, ◌-◌, ◌*◌, ◌≤◌, take}
use Rattle.std.specs.Int.Signed.{mag}
use Rattle.filter.specs.Mean.{sumZ}
use Rattle.filter.proofs.sum_of.Given as goal

-- the sum of the codes so far, and how far it reaches
abbrev pub invariant-loop-code : goal.invariant-loop-code
invariant-loop-code l = (l.total ≡ sumZ (take l.code-index l.codes)) × (mag l.total ≤ l.code-index * 32768 - 1)
