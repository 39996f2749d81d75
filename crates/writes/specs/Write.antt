-- Register writes (`write_register`).
use Rattle.std.specs.Prelude.{Bool, true, false, set, if◌then◌else◌, Option, Some, None}
use Rattle.laws.specs.Notation.{Byte, Address}
use Rattle.time.specs.declared.Time.{Time}
use Rattle.time.specs.Time.{plus, from_millis, from_micros}
use Rattle.filter.specs.Filter.{selected}
use Rattle.interrupts.specs.State as I
use Rattle.deadlines.specs.Deadlines.{with_irq_hold, with_image}
use Rattle.control.specs.declared.types.WriteKind.{WriteKind}
use Rattle.control.specs.declared.types.Effect.{Effect}
use Rattle.control.specs.declared.types.SelfTest.{SelfTest}
use Rattle.control.specs.declared.types.Sleep.{Sleep}
use Rattle.control.specs.Kinds as Kinds
use Rattle.registers.specs.Map.{at, status, control, measurement, operation, bandwidth, without_st_result}
use Rattle.sampling.specs.Phase.{with_test}
use Rattle.sensor.specs.declared.types.Sensor.{Sensor}
use Rattle.sensor.specs.Operation.{stored_write}
use Rattle.sensor.specs.Record.{put, with_registers, with_reads, with_sampling, with_deadlines, with_writing, with_interrupts, gate, automatic, is_writing, with_filter, with_cycles, with_ready}
use Rattle.sensor.specs.Image.{shadowing}
use Rattle.sensor.specs.Mode.{criterion, start_acquisition, pause, automatic_control, soft_reset}

-- ---- 0a

-- in automatic mode acquisition is counted anew, and the criteria forget their counts
unfoldable pub recounted : Sensor → (again : Bool) → Sensor
recounted s again =
    if again then with_interrupts (with_sampling s (with_cycles s.sampling 0)) (I.restart_acquisition s.interrupts) else s

-- reset_INT: new data, the hold and the criteria are cleared
abbrev pub interrupts_reset : Sensor → Sensor
interrupts_reset s =
    recounted
    (with_interrupts (with_deadlines (with_sampling s (with_ready s.sampling false)) (with_irq_hold s.deadlines None)) (I.reset s.interrupts s.registers))
    (automatic s)

unfoldable pub interrupts_written : Sensor → (value : Byte) → Sensor
interrupts_written s value = if Kinds.resets_interrupts value then interrupts_reset s else s

-- the self test lasts four phases and clears st_result until it ends
unfoldable pub tested : Option SelfTest → Sensor → Sensor
tested (Some SelfTest.Starts) s =
    with_sampling (with_registers s (set s.registers status (without_st_result (at s.registers status)))) (with_test s.sampling (Some 4))
tested (Some SelfTest.Stops) s = with_sampling s (with_test s.sampling None)
tested None s = s

-- a wake is ready after 1 ms
unfoldable pub slept : Option Sleep → Sensor → (now : Time) → Sensor
slept (Some Sleep.Wakes) s now = start_acquisition s now (from_millis 1)
slept (Some Sleep.Pauses) s now = pause s now
slept None s now = s

-- an image copy lasts 300 µs
unfoldable pub image_written : Sensor → (value : Byte) (now : Time) → Sensor
image_written s value now = if Kinds.copies_image value then with_deadlines s (with_image s.deadlines (Some (plus now (from_micros 300)))) else s

-- sleep or wake, then the copy
abbrev pub sleep_written : Sensor → (value : Byte) (now : Time) → Sensor
sleep_written s value now = image_written (slept (Kinds.sleep s.sampling.asleep value) s now) value now

-- the fields of 0a in the Rust's order
abbrev pub control_written : Sensor → (value : Byte) (now : Time) → Sensor
control_written s value now =
    sleep_written (tested (Kinds.self_test (at s.registers control) value) (interrupts_written (put s control (Kinds.kept value)) value)) value now

-- ---- 14, 15, 0d and 0f

abbrev pub measurement_written : Sensor → (value : Byte) → Sensor
measurement_written s value =
    with_sampling (put s measurement value) (with_filter s.sampling (selected s.sampling.filter (bandwidth value)))

-- automatic mode switched: the hold is dropped and acquisition counted anew
unfoldable pub mode_written : Sensor → (turns : Bool) → Sensor
mode_written s turns = if turns then with_deadlines (recounted s true) (with_irq_hold s.deadlines None) else s

abbrev pub operation_written : Sensor → (value : Byte) → Sensor
operation_written s value =
    mode_written (with_reads (put s operation value) (shadowing s.reads value)) (Kinds.turns_automatic (at s.registers operation) value)

abbrev pub durations_written : Sensor → (address : Address) (value : Byte) → Sensor
durations_written s address value = with_interrupts (put s address value) (I.configure s.interrupts (set s.registers address value))

-- ---- any address

-- what a register that takes a write does, before automatic mode
unfoldable pub register_effect : Effect → Sensor → (address : Address) (value : Byte) (now : Time) → Sensor
register_effect Effect.Reset s address value now = soft_reset s now
register_effect Effect.Control s address value now = control_written s value now
register_effect Effect.Measurement s address value now = measurement_written s value
register_effect Effect.Operation s address value now = operation_written s value
register_effect Effect.Durations s address value now = durations_written s address value
register_effect Effect.Plain s address value now = put s address value

-- 01: a stored write begins
abbrev pub begun : Sensor → (address : Address) (value : Byte) (now : Time) → Sensor
begun s address value now = with_writing s (Some (stored_write now address value))

-- a write to a register lets automatic mode follow
abbrev pub then_automatic : Effect → Sensor → (address : Address) (value : Byte) (now : Time) → Sensor
then_automatic e s address value now = automatic_control (register_effect e s address value now) now (criterion s) false

unfoldable pub write_effect : WriteKind → Sensor → (address : Address) (value : Byte) (now : Time) → Sensor
write_effect WriteKind.Ignored s address value now = s
write_effect WriteKind.Stored s address value now = begun s address value now
write_effect (WriteKind.Taken e) s address value now = then_automatic e s address value now

-- which of these a write is (01, "Registers")
abbrev pub write_kind : Sensor → (address : Address) (value : Byte) → WriteKind
write_kind s address value = Kinds.kind_of_write address value (gate s) (is_writing s)

abbrev pub write_register : Sensor → (address : Address) (value : Byte) (now : Time) → Sensor
write_register s address value now = write_effect (write_kind s address value) s address value now
