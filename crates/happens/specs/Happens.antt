-- Every stored write happens, and every cut of it: what is claimed.
use Rattle.std.specs.Prelude.{ℕ, ◌+◌, ◌-◌, ◌^◌, ◌<◌, ◌≤◌, ◌≡◌, List, Some}
use Rattle.time.specs.declared.Time.{Time}
use Rattle.time.specs.Time.{ticks}
use Rattle.nv.specs.Cell.{write_length, cell_number, byte}
use Rattle.sensor.specs.Operation.{stored_write}
use Rattle.calls.specs.declared.types.Call.{Call}
use Rattle.sensor.specs.Image.{cell_byte, with_cell}
use Rattle.bma150.specs.Called.{Added, start_number}
use Rattle.book.specs.Lists.{Start, started, after, accepted, Returns}
use Rattle.book.specs.Claim.{ending, stored_bytes}

-- an accepted start, a cell 2b..3d hex, a byte, and a moment below the time limit from the start on and before a write from there would end
pub record Wanted (b : Start) (address value : ℕ) (at : Time) : Type 0 where
  pub start_fraction : b.time.1 < 2 ^ 64
  pub start_accepted : start_number b.by b.time b.image ≡ 0
  pub first_cell : 0x2b ≤ address
  pub last_cell : address ≤ 0x3d
  pub is_byte : value < 256
  pub below_limit : at.0 < 2 ^ 32
  pub since : ticks b.time ≤ ticks at
  pub before_end : ticks at < ticks b.time + write_length

-- calls of that bus that begin the write at the start's time, and then 0 mV at the moment: all are accepted, and right after the return at that moment the cell holds the cut rule's byte, by the time since the start, and every other cell the start's byte
pub record Happens (Over : List Call → Type 0) (b : Start) (address value : ℕ) (at : Time) : Type 0 where
  pub calls : List Call
  pub over : Over calls
  pub begun : (after (started b) calls).sensor.writing ≡ Some (stored_write b.time address value)
  pub all_accepted : accepted (started b) (ending calls at 0) ≡ ending calls at 0
  pub returns : Returns b (ending calls at 0) at 2400
  pub stored : stored_bytes b (ending calls at 0) at 2400
      ≡ Added.put (with_cell b.image address (byte (cell_byte b.image address) value (cell_number address) (ticks at - ticks b.time)))
