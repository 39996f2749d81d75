-- The sensor record with one part replaced, and short views of it.
use Rattle.sensor.specs.Operation.{Operation}
use Rattle.std.specs.Prelude.{ℕ, ℤ, Bool, true, false, List, set, Option, Some, None}
use Rattle.laws.specs.Notation.{Byte, Address, Registers}
use Rattle.analog.specs.Axis.{Acceleration}
use Rattle.filter.specs.declared.Filter.{Filter}
use Rattle.interrupts.specs.declared.Interrupts.{Interrupts}
use Rattle.i2c.specs.declared.types.Levels.{Levels}
use Rattle.i2c.specs.declared.types.State.{State}
use Rattle.spi.specs.declared.types.Frame.{Frame}
use Rattle.reads.specs.declared.Reads.{Reads}
use Rattle.deadlines.specs.declared.Deadlines.{Deadlines}
use Rattle.deadlines.specs.Deadlines.{is_set}
use Rattle.sampling.specs.declared.types.Input.{Input}
use Rattle.sampling.specs.declared.types.Sampling.{Sampling}
use Rattle.sampling.specs.Phase as Phase
use Rattle.registers.specs.declared.access.Gate.{Gate}
use Rattle.registers.specs.Map.{at, control, operation, SPI4}
use Rattle.sensor.specs.declared.types.Outage.{Outage}
use Rattle.sensor.specs.declared.types.Kept.{Kept}
use Rattle.sensor.specs.declared.types.Sensor.{Sensor}

-- ---- one part replaced

abbrev pub with_registers : Sensor → List ℕ → Sensor
with_registers s x = record s { registers = x }

abbrev pub with_nonvolatile : Sensor → List ℕ → Sensor
with_nonvolatile s x = record s { nonvolatile = x }

abbrev pub with_frame : Sensor → Frame → Sensor
with_frame s x = record s { frame = x }

abbrev pub with_i2c : Sensor → State → Sensor
with_i2c s x = record s { i2c = x }

abbrev pub with_reads : Sensor → Reads → Sensor
with_reads s x = record s { reads = x }

abbrev pub with_kept : Sensor → Kept → Sensor
with_kept s x = record s { kept = x }

abbrev pub with_sampling : Sensor → Sampling → Sensor
with_sampling s x = record s { sampling = x }

abbrev pub with_deadlines : Sensor → Deadlines → Sensor
with_deadlines s x = record s { deadlines = x }

abbrev pub with_writing : Sensor → Operation → Sensor
with_writing s x = record s { writing = x }

abbrev pub with_interrupts : Sensor → Interrupts → Sensor
with_interrupts s x = record s { interrupts = x }

abbrev pub with_outage : Sensor → Option Outage → Sensor
with_outage s x = record s { outage = x }

-- what is kept, with another acceleration and temperature
abbrev pub with_input : Kept → Input → Kept
with_input k input = record k { input = input }

-- with another acceleration, and with another temperature
abbrev pub with_acceleration : Acceleration → Kept → Kept
with_acceleration acceleration k = with_input k (record k.input { acceleration = acceleration })

abbrev pub with_temperature : (millicelsius : ℤ) → Kept → Kept
with_temperature millicelsius k = with_input k (record k.input { temperature_millicelsius = millicelsius })

-- and with other levels after the last accepted pin report
abbrev pub lines_kept : Kept → Levels → Kept
lines_kept k lines = record k { lines = lines }

abbrev pub with_lines : Sensor → Levels → Sensor
with_lines s lines = with_kept s (lines_kept s.kept lines)

-- the registers with one byte replaced
abbrev pub with_byte : (registers : Registers) (address : Address) (value : Byte) → Registers
with_byte registers address value = set registers address value

-- a register keeps a value
abbrev pub put : Sensor → (address : Address) (value : Byte) → Sensor
put s address value = with_registers s (with_byte s.registers address value)

-- ---- short views

-- the supply is away
unfoldable pub away : Option Outage → Bool
away None = false
away (Some o) = true

-- it met 0 mV while it is away
unfoldable pub cold_of : Option Outage → Bool
cold_of None = false
cold_of (Some o) = o.cold

-- without supply, below 2400 mV
abbrev pub is_off : Sensor → Bool
is_off s = away s.outage

-- without supply, and it met 0 mV (the Rust's `cold`)
abbrev pub is_cold : Sensor → Bool
is_cold s = cold_of s.outage

-- the serial pins are dead after a return from 0 mV
abbrev pub serial_not_ready : Sensor → Bool
serial_not_ready s = is_set s.deadlines.serial_ready

-- quiet after a soft reset
abbrev pub is_quiet : Sensor → Bool
is_quiet s = is_set s.deadlines.quiet

-- an image copy runs
abbrev pub is_copying : Sensor → Bool
is_copying s = is_set s.deadlines.image

-- automatic mode (wake_up)
abbrev pub automatic : Sensor → Bool
automatic s = Phase.automatic s.registers

-- SPI4
abbrev pub four_wire : Sensor → Bool
four_wire s = SPI4 (at s.registers operation)

-- a stored write runs
unfoldable pub runs : Operation → Bool
runs None = false
runs (Some w) = true

abbrev pub is_writing : Sensor → Bool
is_writing s = runs s.writing

-- what a read or a write of a register meets
abbrev pub gate : Sensor → Gate
gate s = record { control = at s.registers control; quiet = is_quiet s; copying = is_copying s; asleep = s.sampling.asleep }

-- a self test runs
unfoldable pub tests : Option ℕ → Bool
tests None = false
tests (Some n) = true

-- ---- parts of the sampling

abbrev pub with_filter : Sampling → Filter → Sampling
with_filter g f = record g { filter = f }

abbrev pub with_asleep : Sampling → Bool → Sampling
with_asleep g b = record g { asleep = b }

abbrev pub with_cycles : Sampling → ℕ → Sampling
with_cycles g n = record g { auto_cycles = n }

abbrev pub with_ready : Sampling → Bool → Sampling
with_ready g b = record g { data_ready = b }
