-- What standard error is told of what could not be done.
use Rattle.std.specs.Prelude.{List, ℕ}
use Rattle.laws.specs.Notation.{ascii}
use Rattle.bench_stream.specs.declared.Failed.{Failed}

unfoldable pub message : Failed → List ℕ
message Failed.Read = ascii "a read of standard input failed; the commands before it are answered"
message Failed.Write = ascii "a write to standard output failed; lines are missing"
