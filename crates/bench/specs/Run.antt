-- The bench program as a machine on bytes: a command and its line.
use Rattle.std.specs.Prelude.{Bool, List, ℕ, get_or}
use Rattle.machine.specs.Machine as M
use Rattle.machine.specs.Machine.{Took, Machine, Running}
use Rattle.commands.specs.declared.Command.{Command}
use Rattle.commands.specs.Decode.{decoded, image, wants, size, is_bad}
use Rattle.bma150.specs.declared.host.Bma150.{Bma150}
use Rattle.bma150.specs.Called.{Called}
use Rattle.bench.specs.Line.{commanded, line}

-- the command c, whose first byte is b, does k: its line is written, and refusal 7 stops the bench
abbrev pub took : (trace : Bool) (b : ℕ) → Command → Called → Took Bma150
took trace b c k = record { state = k.sensor; size = size c; said = line trace b k; stop = is_bad c }

-- the last place in the buffer of 65536 bytes at which a line surely fits
abbrev pub room : ℕ
room = 65408

-- the command at the head of the bytes, whose first byte says how many it has
abbrev pub bench : (trace : Bool) → Machine Bma150
bench trace = record {
  wants = wants;
  takes = λ s l. took trace (get_or l 0 0) (decoded l) (commanded s (decoded l) (image l));
  room = room;
}

-- the run over a whole input
abbrev pub whole : (trace : Bool) → Bma150 → (l : List ℕ) → Running Bma150
whole trace s l = M.whole (bench trace) s l
