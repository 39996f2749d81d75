-- Acquisition, pauses, automatic mode, soft reset.
use Rattle.std.specs.Prelude.{ℕ, Bool, true, false, ◌&&◌, ◌||◌, replicate, pos, if◌then◌else◌, Option, Some, None}
use Rattle.time.specs.declared.Time.{Time}
use Rattle.time.specs.declared.Duration.{Duration}
use Rattle.time.specs.Time.{plus, from_millis, from_micros}
use Rattle.filter.specs.Filter.{made}
use Rattle.analog.specs.Axis.{rest, all_resumed}
use Rattle.interrupts.specs.State as I
use Rattle.interrupts.specs.Pin.{output, verifying}
use Rattle.i2c.specs.Engine as E
use Rattle.spi.specs.Frame as F
use Rattle.reads.specs.Reads as R
use Rattle.deadlines.specs.Deadlines.{is_set, with_wake, with_pause, with_quiet, with_irq_hold, with_image}
use Rattle.control.specs.Lengths.{acquisition_delay, pauses, pause_length}
use Rattle.control.specs.declared.automatic.Activity.{Activity}
use Rattle.control.specs.Automatic.{holds, pauses_again, may_pause}
use Rattle.registers.specs.Map.{at, measurement, operation, bandwidth, latch_INT, wake_up_pause, new_data_INT}
use Rattle.sampling.specs.declared.types.Sampling.{Sampling}
use Rattle.sampling.specs.Phase as Phase
use Rattle.sampling.specs.Stage as Stage
use Rattle.sensor.specs.declared.types.Sensor.{Sensor}
use Rattle.sensor.specs.Record.{with_registers, with_frame, with_i2c, with_reads, with_sampling, with_deadlines, with_interrupts, is_copying, automatic, is_writing, tests, with_asleep}
use Rattle.sensor.specs.Image.{copy_image, reset_registers}

-- ---- acquisition

-- awake with an empty filter and no scan counted; the stage goes on from where it was
abbrev pub acquiring : Sampling → ℕ → (now : Time) → Sampling
acquiring g b now = record g { filter = made b; analog = all_resumed g.analog now; asleep = false; auto_cycles = 0 }

-- acquisition starts: samples begin so that the first scan is complete after `ready` (`start_acquisition`)
abbrev pub start_acquisition : Sensor → (now : Time) (ready : Duration) → Sensor
start_acquisition s now ready =
    with_interrupts
    (with_reads
    (with_sampling
    (with_deadlines s (with_wake (with_pause s.deadlines None) (Some (plus now (acquisition_delay ready)))))
    (acquiring s.sampling (bandwidth (at s.registers measurement)) now))
    (R.released s.reads))
    (I.restart_acquisition s.interrupts)

-- ---- pauses

-- 01: pauses of 20, 80, 320 or 2560 ms; wake_up_pause chooses one (data sheet)
abbrev pub pause_of : Sensor → Duration
pause_of s = pause_length (wake_up_pause (at s.registers operation)) pauses

-- only automatic mode ends a pause by itself
unfoldable pub pause_end : Sensor → (now : Time) → Option Time
pause_end s now = if automatic s then Some (plus now (pause_of s)) else None

-- the sensor sleeps; awake, the stage is brought up to now first (`pause`)
abbrev pub pause : Sensor → (now : Time) → Sensor
pause s now =
    with_frame
    (with_deadlines (with_sampling s (with_asleep (Stage.hold s.sampling now s.kept.input) true)) (with_pause (with_wake s.deadlines None) (pause_end s now)))
    (F.released s.frame)

-- ---- the interrupt pin

-- a scan of new data shows where new_data_INT is set
unfoldable pub shows_new_data : Sensor → Bool
shows_new_data s = s.sampling.data_ready && new_data_INT (at s.registers operation)

-- the hold of automatic mode, new data, or a criterion (`interrupt`)
unfoldable pub interrupt : Sensor → Bool
interrupt s =
    is_set s.deadlines.irq_hold
    || (shows_new_data s
    || output s.interrupts s.registers)

-- a criterion shows, and one is being verified
abbrev pub criterion : Sensor → Bool
criterion s = output s.interrupts s.registers

abbrev pub verifies : Sensor → Bool
verifies s = verifying s.interrupts s.registers

-- ---- automatic mode (`automatic_control`), in three steps

unfoldable pub pause_restarted : Sensor → (now : Time) → Sensor
pause_restarted s now = if pauses_again s.sampling.asleep (is_set s.deadlines.pause) then pause s now else s

-- a new criterion holds the pin for 330 us
unfoldable pub interrupt_held : Sensor → (now : Time) (was_criterion : Bool) → Sensor
interrupt_held s now was_criterion =
    if holds was_criterion (latch_INT (at s.registers operation)) (criterion s)
    then with_deadlines s (with_irq_hold s.deadlines (Some (plus now (from_micros 330))))
    else s

-- what the sensor is doing
abbrev pub activity : Sensor → Activity
activity s = record {
  asleep = s.sampling.asleep;
  waking = is_set s.deadlines.wake;
  testing = tests s.sampling.test;
  copying = is_copying s;
  writing = is_writing s;
  acquired = Phase.acquired s.sampling;
  interrupt = interrupt s;
  verifying = verifies s;
}

abbrev pub may_sleep : Sensor → (verify : Bool) → Bool
may_sleep s verify = may_pause verify (activity s)

unfoldable pub pause_if_idle : Sensor → (now : Time) (verify : Bool) → Sensor
pause_if_idle s now verify = if may_sleep s verify then pause s now else s

-- outside automatic mode no hold and no pause runs
abbrev pub automatic_off : Sensor → Sensor
automatic_off s = with_deadlines s (with_pause (with_irq_hold s.deadlines None) None)

unfoldable pub automatic_control : Sensor → (now : Time) (was_criterion verify : Bool) → Sensor
automatic_control s now was_criterion verify =
    if automatic s then pause_if_idle (interrupt_held (pause_restarted s now) now was_criterion) now verify else automatic_off s

-- ---- soft reset (`soft_reset`)

-- no code, every axis single, no self test, no new data; the stage at rest
abbrev pub cleared : Sampling → (now : Time) → Sampling
cleared g now = record g { filtered = replicate 3 (pos 0); means = replicate 3 false; analog = rest now; test = None; data_ready = false }

-- registers, criteria and the I2C state as at a start, and the image copied
abbrev pub reloaded : Sensor → Sensor
reloaded s = copy_image (with_interrupts (with_i2c (with_registers s reset_registers) E.default) I.new)

-- quiet for 10 µs; an image copy and the hold are dropped, and the byte being sent
abbrev pub quieted : Sensor → (now : Time) → Sensor
quieted s now =
    with_frame
    (with_deadlines
    (with_reads (with_sampling s (cleared s.sampling now)) (R.forgotten s.reads))
    (with_quiet (with_image (with_irq_hold s.deadlines None) None) (Some (plus now (from_micros 10)))))
    (F.released (F.sending s.frame None))

-- ready after 30 ms from sleep, else after 1300 µs
unfoldable pub reset_time : (asleep : Bool) → Duration
reset_time asleep = if asleep then from_millis 30 else from_micros 1300

abbrev pub soft_reset : Sensor → (now : Time) → Sensor
soft_reset s now = start_acquisition (quieted (reloaded s) now) now (reset_time s.sampling.asleep)
