-- The stored image, the working image, and a sensor at its start.
use Rattle.sensor.specs.Operation.{Operation}
use Rattle.std.specs.Prelude.{ℕ, ◌-◌, true, false, List, [], ◌∷◌, get_or, set, replicate, pos, if◌then◌else◌, Some, None}
use Rattle.std.proofs.Math.Seq.{paste}
use Rattle.laws.specs.Notation.{Byte, Address, Image, Registers}
use Rattle.time.specs.declared.Time.{Time}
use Rattle.time.specs.Time.{plus, from_millis}
use Rattle.time.specs.Clock as Clock
use Rattle.nv.specs.Cell.{cell_number}
use Rattle.nv.specs.Cycle as Cycle
use Rattle.filter.specs.Filter.{made, selected}
use Rattle.analog.specs.Axis.{rest}
use Rattle.interrupts.specs.State as I
use Rattle.i2c.specs.Engine as E
use Rattle.spi.specs.Frame as F
use Rattle.reads.specs.declared.Reads.{Reads}
use Rattle.reads.specs.Reads as R
use Rattle.deadlines.specs.declared.Deadlines.{Deadlines}
use Rattle.deadlines.specs.Deadlines.{never, with_wake, with_serial_ready}
use Rattle.control.specs.Lengths.{acquisition_delay}
use Rattle.registers.specs.Map.{at, chip_id, version, measurement, operation, bandwidth, shadow_dis}
use Rattle.registers.specs.Access.{stored}
use Rattle.sampling.specs.declared.types.Sampling.{Sampling}
use Rattle.sensor.specs.declared.types.Kept.{Kept}
use Rattle.sensor.specs.declared.types.StoredWrite.{StoredWrite}
use Rattle.sensor.specs.declared.types.Sensor.{Sensor}
use Rattle.sensor.specs.Record.{with_registers, with_reads, with_sampling, with_interrupts, with_deadlines, with_filter}

-- ---- stored cells: addresses 2b..3d in order; there is none elsewhere

unfoldable pub cell_byte : (image : Image) (address : Address) → Byte
cell_byte image address = if stored address then get_or image (address - 0x2b) 0 else 0

unfoldable pub with_cell : (image : Image) (address : Address) (value : Byte) → Image
with_cell image address value = if stored address then set image (address - 0x2b) value else image

-- the byte of a running write's cell at a moment: torn until the write has ended (01)
abbrev pub byte_at : StoredWrite → (image : Image) (now : Time) → Byte
byte_at w image now = Cycle.byte_at w.cycle (cell_byte image w.address) w.value (cell_number w.address) now

-- the stored bytes at a moment: a running write shows in its cell (`nonvolatile`)
unfoldable pub image_at : Operation → (image : Image) (now : Time) → Image
image_at None image now = image
image_at (Some w) image now = with_cell image w.address (byte_at w image now)

abbrev pub nonvolatile : Sensor → (now : Time) → Image
nonvolatile s now = image_at s.writing s.nonvolatile now

-- ---- the image copied into the registers 0b..1d (`copy_image`)

abbrev pub image_copied : (registers : Registers) (image : Image) → Registers
image_copied registers image = paste registers 0x0b image 19

-- held pairs are released where shadow_dis is set
unfoldable pub shadowing : Reads → (byte : Byte) → Reads
shadowing r byte = if shadow_dis byte then R.released r else r

-- the registers are these: the bandwidth, the durations and the held pairs follow them
abbrev pub configured : Sensor → List ℕ → Sensor
configured s r =
    with_interrupts
    (with_sampling (with_reads (with_registers s r) (shadowing s.reads (at r operation))) (with_filter s.sampling (selected s.sampling.filter (bandwidth (at r measurement)))))
    (I.configure s.interrupts r)

abbrev pub copy_image : Sensor → Sensor
copy_image s = configured s (image_copied s.registers s.nonvolatile)

-- ---- a sensor at its start

-- registers after a reset: chip_id 2, version 10 hex, else 0 (the Rust's rule)
abbrev pub reset_registers : Registers
reset_registers = set (set (replicate 62 0) chip_id 2) version 0x10

-- the start's acceleration 0, 0, 1000000 and temperature 20000 (the Rust's `STILL` and `new`), both I2C lines high
abbrev pub new_kept : Kept
new_kept = record {
  input = record { acceleration = record { x = pos 0; y = pos 0; z = pos 1000000 }; temperature_millicelsius = pos 20000 };
  lines = record { scl = true; sda = true };
}

abbrev pub fresh_sampling : (now : Time) → Sampling
fresh_sampling now = record { filter = made 6; filtered = replicate 3 (pos 0); means = replicate 3 false; clock = Clock.started now; analog = rest now; asleep = false; auto_cycles = 0; test = None; data_ready = false }

-- 3 ms to the first scan
abbrev pub acquiring : (now : Time) → Deadlines
acquiring now = with_wake never (Some (plus now (acquisition_delay (from_millis 3))))

-- a sensor that has just got supply, before its image is copied
abbrev pub blank : (now : Time) (image : Image) (kept : Kept) → Sensor
blank now image kept = record {
  registers = reset_registers;
  nonvolatile = image;
  frame = F.fresh false;
  i2c = E.default;
  reads = R.new;
  kept = kept;
  sampling = fresh_sampling now;
  deadlines = acquiring now;
  writing = None;
  interrupts = I.new;
  outage = None;
}

-- a start with these stored bytes (`from_nonvolatile`; with the stock image `new`)
abbrev pub from_nonvolatile : (now : Time) (image : Image) → Sensor
from_nonvolatile now image = copy_image (blank now image new_kept)

-- 01: the stock image
abbrev pub stock : Image
stock = 3 ∷ 20 ∷ 150 ∷ 160 ∷ 150 ∷ 0 ∷ 0 ∷ 162 ∷ 13 ∷ 14 ∷ 128 ∷ 0 ∷ 0 ∷ 0 ∷ 0 ∷ 128 ∷ 128 ∷ 128 ∷ 0 ∷ []

-- 01: having met 0 mV the sensor returns as after a start from its stored bytes, with what is kept and serial pins dead for 3 ms; a function of the moment, the stored bytes and what is kept
abbrev pub powered : (now : Time) (image : Image) (kept : Kept) → Sensor
powered now image kept =
    let s = copy_image (blank now image kept) in
    with_deadlines s (with_serial_ready s.deadlines (Some (plus now (from_millis 3))))

abbrev pub power_on : Sensor → (now : Time) → Sensor
power_on s now = powered now s.nonvolatile s.kept
