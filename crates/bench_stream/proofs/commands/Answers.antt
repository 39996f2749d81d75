use Rattle.std.specs.Prelude.{◌≡◌, true, cond, None, Some, is_ok, List, ℕ, length}
use Rattle.std.proofs.Common.{ap, rules}
use Rattle.bench_stream.specs.declared.Failed.{Failed}
use Rattle.bench_stream.proofs.Steps.{on_ok, served}
use Rattle.bench_stream.proofs.commands.Goals as goal

pub returns : goal.returns
returns g c =
    let e = rw c.bytes.ensures at c.run-ran.ensures in
    let taken = is_ok c.write_all-taken.result in
    let which : c.map.result ≡ cond taken None (Some Failed.Write) = search rules in
    let wrote = rw c.as_slice.ensures.value at c.write_all-taken.ensures.bytes in
    served c.args.trace c.args.t c.args.kept.now c.run-ran.result c.map.result taken _ _ c.requires e.value e.text e.input_value e.read_in_bounds
    c.skip.ensures which
    (λ (y : taken ≡ true). on_ok c.write_all-taken.result y wrote)
    (ap (λ (x : List ℕ). length x) c.bytes-left.ensures) c.len.ensures.value
