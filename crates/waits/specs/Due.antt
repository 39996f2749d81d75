-- A due moment is served (`at_deadline`), step by step in the Rust's order.
use Rattle.sensor.specs.Operation.{Operation}
use Rattle.std.specs.Prelude.{◌%◌, Bool, true, ◌&&◌, eqb, set, if◌then◌else◌, Some, None}
use Rattle.laws.specs.Notation.{Byte, Address}
use Rattle.time.specs.declared.Time.{Time}
use Rattle.time.specs.Time.{same, from_millis}
use Rattle.time.specs.Clock as Clock
use Rattle.nv.specs.Cycle as Cycle
use Rattle.deadlines.specs.Deadlines.{is_at, unless_at, with_serial_ready, with_quiet, with_irq_hold, with_image, with_wake}
use Rattle.registers.specs.Map.{at, control, without_update_image}
use Rattle.sampling.specs.Phase.{with_clock}
use Rattle.waits.specs.declared.types.Report.{Report}
use Rattle.waits.specs.declared.types.Served.{Served}
use Rattle.sensor.specs.declared.types.Sensor.{Sensor}
use Rattle.sensor.specs.Record.{with_registers, with_sampling, with_deadlines}
use Rattle.sensor.specs.Image.{copy_image}
use Rattle.sensor.specs.Mode.{criterion, start_acquisition, automatic_control}
use Rattle.samples.specs.Samples.{next_sample, after_edges}
use Rattle.waits.specs.Supply.{without_report, write_over}

-- dead pins, hold and quiet that end now are over
abbrev pub waits_ended : Sensor → (now : Time) → Sensor
waits_ended s now =
    with_deadlines s
    (with_quiet
    (with_irq_hold (with_serial_ready s.deadlines (unless_at s.deadlines.serial_ready now)) (unless_at s.deadlines.irq_hold now))
    (unless_at s.deadlines.quiet now))

-- a pause that ends now: the sensor wakes, ready after 1 ms
unfoldable pub pause_ended : Sensor → (now : Time) → Sensor
pause_ended s now = if is_at s.deadlines.pause now then start_acquisition s now (from_millis 1) else s

-- 01: a write that has completed puts its byte in its cell; then the whole image is copied (the Rust's rule)
abbrev pub completed : Sensor → (address : Address) (value : Byte) → Served
completed s address value =
    record {
      sensor = copy_image (write_over s address value);
      report = Some (Report.Completed address value);
    }

unfoldable pub write_ended : Operation → Sensor → (now : Time) → Served
write_ended None s now = without_report s
write_ended (Some w) s now = if same (Cycle.deadline w.cycle) now then completed s w.address w.value else without_report s

-- an image copy that ends now: update_image is cleared
abbrev pub image_loaded : Sensor → Sensor
image_loaded s =
    let t = copy_image s in
    with_registers (with_deadlines t (with_image t.deadlines None)) (set t.registers control (without_update_image (at t.registers control)))

unfoldable pub image_ended : Sensor → (now : Time) → Sensor
image_ended s now = if is_at s.deadlines.image now then image_loaded s else s

-- samples begin
unfoldable pub wake_ended : Sensor → (now : Time) → Sensor
wake_ended s now =
    if is_at s.deadlines.wake now
    then with_sampling (with_deadlines s (with_wake s.deadlines None)) (with_clock s.sampling (Clock.started now))
    else s

-- a sample is at this moment
abbrev pub sample_due_now : Sensor → (now : Time) → Bool
sample_due_now s now = is_at (next_sample s) now

unfoldable pub sample_ended : Sensor → (now : Time) → Sensor
sample_ended s now = if sample_due_now s now then after_edges s 1 else s

-- the clock's last edge was the last of a scan
abbrev pub scan_complete : Sensor → Bool
scan_complete s = eqb (s.sampling.clock.ordinal % 4) 0

-- the hold of automatic mode ends at this moment
abbrev pub hold_ends_now : Sensor → (now : Time) → Bool
hold_ends_now s now = is_at s.deadlines.irq_hold now

-- automatic mode verifies at the end of a scan or of a hold
unfoldable pub verifies : (sample scan hold_ended : Bool) → Bool
verifies sample scan hold_ended = if sample && scan then true else hold_ended

abbrev pub sample_served : Sensor → (now : Time) (was_criterion hold_ended : Bool) → Sensor
sample_served s now was_criterion hold_ended =
    automatic_control (sample_ended s now) now was_criterion (verifies (sample_due_now s now) (scan_complete (sample_ended s now)) hold_ended)

-- the steps before the sample
abbrev pub waits_served : Sensor → (now : Time) → Served
waits_served s now =
    let p = pause_ended (waits_ended s now) now in
    let w = write_ended p.writing p now in
    record { sensor = wake_ended (image_ended w.sensor now) now; report = w.report }

-- automatic mode comes last
abbrev pub at_deadline : Sensor → (now : Time) → Served
at_deadline s now = record { sensor = sample_served (waits_served s now).sensor now (criterion s) (hold_ends_now s now); report = (waits_served s now).report }
