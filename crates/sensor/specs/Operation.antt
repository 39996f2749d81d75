-- A stored write that runs, or none.
use Rattle.std.specs.Prelude.{Option}
use Rattle.laws.specs.Notation.{Byte, Address}
use Rattle.time.specs.declared.Time.{Time}
use Rattle.nv.specs.Cycle as Cycle
use Rattle.sensor.specs.declared.types.StoredWrite.{StoredWrite}

-- when it began, the address and the wanted byte (the Rust's `nv_operation`)
abbrev pub Operation : Type 0
Operation = Option StoredWrite

-- a stored write that begins now
abbrev pub stored_write : (now : Time) (address : Address) (value : Byte) → StoredWrite
stored_write now address value = record { cycle = Cycle.start now; address = address; value = value }
