-- What a write of a register does (the Rust's `write_register`). Addresses are hexadecimal.
use Rattle.std.specs.Prelude.{ℕ, Bool, eqb, if◌then◌else◌, Option, Some, None}
use Rattle.std.specs.Bool.{xor}
use Rattle.laws.specs.Notation.{Byte, Address, cleared}
use Rattle.registers.specs.Map as Map
use Rattle.registers.specs.declared.access.Gate.{Gate}
use Rattle.registers.specs.Access.{ignores, stored}
use Rattle.control.specs.declared.types.WriteKind.{WriteKind}
use Rattle.control.specs.declared.types.Effect.{Effect}
use Rattle.control.specs.declared.types.SelfTest.{SelfTest}
use Rattle.control.specs.declared.types.Sleep.{Sleep}

-- ---- what a write does

-- 0a: a soft reset where soft_reset is set, else its fields (the Rust's rule)
unfoldable pub written_control : (value : Byte) → Effect
written_control value = if Map.soft_reset value then Effect.Reset else Effect.Control

-- a register that takes the write: 0a, 14, 15, 0d and 0f have effects, the others only keep the value (the Rust's rule)
unfoldable pub written_register : (address : Address) (value : Byte) → Effect
written_register address value =
    if eqb address Map.control then written_control value
    else if eqb address Map.measurement then Effect.Measurement
    else if eqb address Map.operation then Effect.Operation
    else if eqb address Map.LG_dur then Effect.Durations
    else if eqb address Map.HG_dur then Effect.Durations
    else Effect.Plain

-- 01: a write is ignored, begins a stored write unless one runs, or is taken
unfoldable pub kind_of_write : (address : Address) (value : Byte) → Gate → (running : Bool) → WriteKind
kind_of_write address value g running =
    if ignores address value g then WriteKind.Ignored
    else if stored address then (if running then WriteKind.Ignored else WriteKind.Stored)
    else WriteKind.Taken (written_register address value)

-- ---- a write of 0a that is no soft reset

-- the Rust's rule: 0a keeps all but bit 7, reset_INT (bit 6) and soft_reset (bit 1)
abbrev pub kept : (value : Byte) → ℕ
kept value = cleared 7 (cleared 6 (cleared 1 value))

-- reset_INT resets the interrupts (data sheet)
abbrev pub resets_interrupts : (value : Byte) → Bool
resets_interrupts value = Map.reset_INT value

-- self_test_0 begins the self test where it was clear; written clear it ends it (the Rust's rule)
unfoldable pub self_test : (old : ℕ) (value : Byte) → Option SelfTest
self_test old value = if Map.self_test_0 value then (if Map.self_test_0 old then None else Some SelfTest.Starts) else Some SelfTest.Stops

-- sleep puts an awake sensor to sleep; written clear it wakes a sleeping one (the Rust's rule)
unfoldable pub sleep : (asleep : Bool) (value : Byte) → Option Sleep
sleep asleep value = if Map.sleep value then (if asleep then None else Some Sleep.Pauses) else if asleep then Some Sleep.Wakes else None

-- update_image copies the stored image into the working one (data sheet)
abbrev pub copies_image : (value : Byte) → Bool
copies_image value = Map.update_image value

-- ---- a write of 15

-- wake_up, automatic mode, goes on or off (the Rust's `(old ^ value) & 1`)
abbrev pub turns_automatic : (old : ℕ) (value : Byte) → Bool
turns_automatic old value = xor (Map.wake_up old) (Map.wake_up value)
