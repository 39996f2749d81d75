-- Register views and reads (`peek`, `prepare_read`, `acknowledge_read`).
use Rattle.std.specs.Prelude.{ℕ, ◌+◌, Bool, false, not, ◌&&◌, eqb, get_or, set, if◌then◌else◌, Option, Some, None}
use Rattle.std.specs.Int.Bits.{bit_or}
use Rattle.laws.specs.Notation.{Byte, Address}
use Rattle.interrupts.specs.Pin as Pin
use Rattle.reads.specs.declared.Prepared.{Prepared}
use Rattle.reads.specs.Reads as R
use Rattle.registers.specs.Map.{at, status, operation, acc_lsb, shadow_dis}
use Rattle.registers.specs.Access.{withheld}
use Rattle.sensor.specs.declared.types.Mark.{Mark}
use Rattle.sensor.specs.declared.types.Viewed.{Viewed}
use Rattle.sensor.specs.declared.types.Fetched.{Fetched}
use Rattle.sensor.specs.declared.types.Sensor.{Sensor}
use Rattle.sensor.specs.Record.{with_registers, with_reads, with_sampling, is_quiet, gate, with_ready}

-- the byte of a register; the status register shows the criteria too
unfoldable pub shown : Sensor → (address : Address) → ℕ
shown s address = if eqb address status then bit_or (at s.registers status) (Pin.status s.interrupts) else at s.registers address

unfoldable pub peek : Sensor → (address : Address) → Option ℕ
peek s address =
    if withheld address (gate s) then None else Some (shown s address)

-- the mark of an acceleration's registers 02 to 07: whether the value that its axis shows is the mean of a full window; no other register has one
unfoldable pub mark : Sensor → (address : Address) → Option Mark
mark s address =
    if not (R.is_acceleration address) then None
    else if get_or s.sampling.means (R.axis_of address) false then Some Mark.Mean else Some Mark.Single

-- where the byte is withheld there is no mark
unfoldable pub mark_of : Option ℕ → Sensor → (address : Address) → Option Mark
mark_of (Some b) s address = mark s address
mark_of None s address = None

-- what a view answers of a byte that is shown or withheld: the byte and its mark, or nothing
unfoldable pub viewed_as : Option ℕ → Sensor → (address : Address) → Option Viewed
viewed_as None s address = None
viewed_as (Some b) s address = Some (record { byte = b; mark = mark s address })

-- what a view answers
abbrev pub viewed : Sensor → (address : Address) → Option Viewed
viewed s address = viewed_as (peek s address) s address

-- the address of the low byte of an acceleration
abbrev pub low_address : (address : Address) → ℕ
low_address address = acc_lsb (R.axis_of address)

-- with shadowing on, the bytes of an acceleration come in pairs
abbrev pub prepared : Sensor → (address : Address) (viewed : Byte) → Prepared
prepared s address viewed =
    R.prepared s.reads address viewed (at s.registers (low_address address)) (at s.registers (low_address address + 1))
    (not (shadow_dis (at s.registers operation)))

unfoldable pub fetched : Option ℕ → Sensor → (address : Address) → Fetched
fetched None s address = record { sensor = with_reads s (R.dropped s.reads); sent = None }
fetched (Some b) s address = record { sensor = with_reads s (prepared s address b).reads; sent = Some (prepared s address b).byte }

abbrev pub prepare_read : Sensor → (address : Address) → Fetched
prepare_read s address = fetched (peek s address) s address

-- an acceleration's byte was read: its new_data and the data-ready interrupt are cleared
abbrev pub acceleration_read : Sensor → (address : Address) (sent : Byte) → Sensor
acceleration_read s address sent =
    with_sampling
    (with_reads
    (with_registers s (set s.registers (low_address address) (R.without_new_data (at s.registers (low_address address)))))
    (R.read_began s.reads address sent))
    (with_ready s.sampling false)

-- asleep or quiet no read begins
unfoldable pub counts_as_read : Sensor → (address : Address) → Bool
counts_as_read s address = not s.sampling.asleep && (not (is_quiet s) && R.is_acceleration address)

unfoldable pub byte_read : Option ℕ → Sensor → (address : Address) → Sensor
byte_read None s address = s
byte_read (Some b) s address = if counts_as_read s address then acceleration_read s address b else s

abbrev pub read_began : Sensor → (address : Address) → Sensor
read_began s address = byte_read s.frame.tx s address
