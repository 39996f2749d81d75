use Rattle.std.proofs.Common.{◌^◌, ◌≤◌, arith}
use lib.Pow.{pow_mono}
use native.Mathlib.Nat.{div-eq_of_lt}
use borrow.Author.Tests.{lt-leb}
use Rattle.registers.proofs.fields.has.Goals as goal

pub returns-else-k-le7 : goal.returns-else-k-le7
returns-else-k-le7 c = let x = c.args in
    let l : 2 ^ 8 ≤ 2 ^ x.k = pow_mono {i = 8} {j = x.k} (omega arith) in
    rw (lt-leb x.k 7 (omega arith), div-eq_of_lt {n = x.byte} {m = 2 ^ x.k} (omega arith))
