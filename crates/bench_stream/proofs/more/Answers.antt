use Rattle.std.specs.Prelude.{List, ℕ, length}
use Rattle.std.proofs.Common.{ap}
use Rattle.bench_stream.proofs.Steps.{read, cut}
use Rattle.bench_stream.proofs.more.Goals as goal

pub returns-in-Ok : goal.returns-in-Ok
returns-in-Ok g c = λ trace o v.
    let q = c.requires in
    let e = c.in-Ok.ensures in
    read trace c.args.t c.args.kept.now q.going q.few.0 q.few.1 o v e.0 e.1 e.2 e.3 e.4 (ap (λ (x : List ℕ). length x) c.bytes.ensures)

pub returns-in-Err : goal.returns-in-Err
returns-in-Err g c = λ trace o v.
    let q = c.requires in
    let e = c.in-Err.ensures in
    cut trace c.args.t c.args.kept.now q.going q.few.0 q.few.1 o v e.0 e.1 (ap (λ (x : List ℕ). length x) c.bytes-in-Err.ensures)
