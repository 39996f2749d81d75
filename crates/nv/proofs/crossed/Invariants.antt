use Rattle.std.proofs.Common.{◌≡◌}
use Rattle.nv.specs.Cell.{bits_where, has_crossed}
use Rattle.nv.proofs.crossed.Given as goal

abbrev pub invariant-loop-bit : goal.invariant-loop-bit
invariant-loop-bit l = l.mask ≡ bits_where l.bit (has_crossed l.cell l.elapsed l.duration)
