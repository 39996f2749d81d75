-- A block of input, as the code meets it.
use Rattle.std.specs.Prelude.{Bool, List, ℕ, ◌-◌, leb, length, get_or, if◌then◌else◌}
use Rattle.machine.specs.Machine.{Running}
use Rattle.machine.specs.Block as M
use Rattle.commands.specs.Decode.{wants}
use Rattle.bma150.specs.declared.host.Bma150.{Bma150}
use Rattle.bench.specs.declared.Ran.{Ran}
use Rattle.bench.specs.Run.{bench}

-- the command at the head is whole: its bytes are there, or no more come and one is
unfoldable pub is_whole : (over : Bool) (l : List ℕ) → Bool
is_whole over l = leb (if over then 1 else wants (get_or l 0 0)) (length l)

abbrev pub block : (trace over : Bool) → Bma150 → (l : List ℕ) → Running Bma150
block trace over s l = M.block (bench trace) over s l

-- what `run` answers: the sensor, the bytes read, and whether it stopped
abbrev pub after_block : (sensor : Bma150) (read : ℕ) (stop : Bool) → Ran
after_block sensor read stop = record { sensor = sensor; read = read; stop = stop }

abbrev pub answer : ℕ → Running Bma150 → Ran
answer n b = after_block b.state (n - length b.left) b.stop
