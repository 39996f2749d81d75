-- What a call does to a sensor, in steps: a relation between sensors that each step meets is met by every call (`Theorems.Walk`).
use Rattle.std.specs.Prelude.{ℕ, ◌≡◌, Bool, true, false, Option, Some, None}
use Rattle.time.specs.declared.Time.{Time}
use Rattle.time.specs.declared.Duration.{Duration}
use Rattle.time.specs.Time.{plus, since, from_micros}
use Rattle.interrupts.specs.State as I
use Rattle.i2c.specs.declared.types.Edge.{Edge}
use Rattle.i2c.specs.Engine as E
use Rattle.spi.specs.Frame as F
use Rattle.reads.specs.Reads as Reads
use Rattle.deadlines.specs.Deadlines.{with_irq_hold, with_image, with_wake, shifted}
use Rattle.control.specs.declared.types.WriteKind.TheVariants as WriteKind
use Rattle.control.specs.declared.types.Effect.TheVariants as Effect
use Rattle.control.specs.declared.types.SelfTest.TheVariants as SelfTest
use Rattle.control.specs.Kinds as Kinds
use Rattle.registers.specs.Map.{control, operation}
use Rattle.sampling.specs.Phase.{with_clock}
use Rattle.time.specs.Clock as Clock
use Rattle.analog.specs.Axis.{Acceleration}
use Rattle.sensor.specs.declared.types.StoredWrite.{StoredWrite}
use Rattle.sensor.specs.declared.types.Outage.{Outage}
use Rattle.sensor.specs.declared.types.Kept.{Kept}
use Rattle.sensor.specs.declared.types.Sensor.{Sensor}
use Rattle.sensor.specs.Record.{with_frame, with_i2c, with_reads, with_sampling, with_deadlines, with_interrupts, with_outage, with_kept, put, is_quiet, four_wire, is_off, with_cycles, with_ready}
use Rattle.sensor.specs.Image.{byte_at, shadowing, copy_image, power_on}
use Rattle.sensor.specs.Mode.{start_acquisition, pause, automatic_off, soft_reset}
use Rattle.sensor.specs.RegisterReads.{prepared, counts_as_read, acceleration_read}
use Rattle.sensor.specs.Select.{reselected}
use Rattle.writes.specs.Write.{tested, measurement_written, durations_written, begun, write_kind}
use Rattle.samples.specs.Samples.{after_edges, edges_until, samples_on_demand}
use Rattle.serial.specs.I2cPins.{ones_for}
use Rattle.waits.specs.Supply.{write_over, hold_analog, set_input}
use Rattle.waits.specs.Due.{waits_ended, image_loaded, sample_due_now}

pub record Steps (now : Time) (R : Sensor → Sensor → Type 0) : Type 0 where
  pub itself : (s : Sensor) → R s s
  pub then : {s t u : Sensor} → R s t → R t u → R s u
  -- ---- samples: those up to a moment outside automatic mode, and the one that is due
  pub edges : (s : Sensor) (inclusive : Bool) → samples_on_demand s ≡ true → R s (after_edges s (edges_until s now inclusive))
  pub due_edge : (s : Sensor) → sample_due_now s now ≡ true → R s (after_edges s 1)
  -- ---- acquisition, pauses, automatic mode
  pub acquires : (s : Sensor) (ready : Duration) → R s (start_acquisition s now ready)
  pub pauses : (s : Sensor) → R s (pause s now)
  pub holds : (s : Sensor) → R s (with_deadlines s (with_irq_hold s.deadlines (Some (plus now (from_micros 330)))))
  pub manual : (s : Sensor) → R s (automatic_off s)
  -- ---- register writes
  pub recounts : (s : Sensor) → R s (with_interrupts (with_sampling s (with_cycles s.sampling 0)) (I.restart_acquisition s.interrupts))
  pub drops_hold : (s : Sensor) → R s (with_deadlines s (with_irq_hold s.deadlines None))
  pub resets : (s : Sensor) → R s (with_interrupts (with_deadlines (with_sampling s (with_ready s.sampling false)) (with_irq_hold s.deadlines None)) (I.reset s.interrupts s.registers))
  pub test_starts : (s : Sensor) → R s (tested (Some SelfTest.Starts) s)
  pub test_stops : (s : Sensor) → R s (tested (Some SelfTest.Stops) s)
  pub copy_begins : (s : Sensor) → R s (with_deadlines s (with_image s.deadlines (Some (plus now (from_micros 300)))))
  pub controls : (s : Sensor) (value : ℕ) → R s (put s control (Kinds.kept value))
  pub operates : (s : Sensor) (value : ℕ) → R s (with_reads (put s operation value) (shadowing s.reads value))
  pub measures : (s : Sensor) (value : ℕ) → R s (measurement_written s value)
  pub soft_resets : (s : Sensor) → R s (soft_reset s now)
  pub lasts : (s : Sensor) (address value : ℕ) → write_kind s address value ≡ WriteKind.Taken Effect.Durations → R s (durations_written s address value)
  pub puts : (s : Sensor) (address value : ℕ) → write_kind s address value ≡ WriteKind.Taken Effect.Plain → R s (put s address value)
  pub begins : (s : Sensor) (address value : ℕ) → write_kind s address value ≡ WriteKind.Stored → R s (begun s address value now)
  -- ---- reads and select
  pub fetches : (s : Sensor) (address b : ℕ) → R s (with_reads s (prepared s address b).reads)
  pub drops_read : (s : Sensor) → R s (with_reads s (Reads.dropped s.reads))
  pub reads : (s : Sensor) (address sent : ℕ) → counts_as_read s address ≡ true → R s (acceleration_read s address sent)
  pub reselects : (s : Sensor) (selected : Bool) → R s (reselected s selected)
  -- ---- the SPI frame and the I2C engine
  pub shifts : (s : Sensor) (sent : Option ℕ) → R s (with_frame s (F.shifted s.frame sent))
  pub turns : (s : Sensor) → R s (with_frame s (F.turned s.frame))
  pub takes : (s : Sensor) (mosi : Bool) → R s (with_frame s (F.take_bit s.frame mosi (four_wire s)).frame)
  pub sends : (s : Sensor) (sent : Option ℕ) → R s (with_frame s (F.sending s.frame sent))
  pub steps : (s : Sensor) (e : Edge) → R s (with_i2c s (E.step s.i2c e (is_quiet s) (ones_for s.frame.tx)).state)
  pub aborts : (s : Sensor) → R s (with_i2c s (E.aborted s.i2c))
  pub acknowledges : (s : Sensor) → R s (with_i2c s (E.written s.i2c (is_quiet s)))
  pub launches : (s : Sensor) (byte : ℕ) → R s (with_i2c s (E.launched s.i2c byte))
  -- ---- due moments
  pub waits_end : (s : Sensor) → R s (waits_ended s now)
  pub completes : (s : Sensor) (w : StoredWrite) → s.writing ≡ Some w → R s (write_over s w.address w.value)
  pub copies : (s : Sensor) → R s (copy_image s)
  pub loads : (s : Sensor) → R s (image_loaded s)
  pub wakes : (s : Sensor) → R s (with_sampling (with_deadlines s (with_wake s.deadlines None)) (with_clock s.sampling (Clock.started now)))
  -- ---- supply, acceleration, and what is kept with the same acceleration
  pub stops : (s : Sensor) → R s (hold_analog s now)
  pub cuts : (s : Sensor) (w : StoredWrite) → s.writing ≡ Some w → R s (write_over s w.address (byte_at w s.nonvolatile now))
  pub goes_off : (s : Sensor) (cold : Bool) → R s (with_outage s (Some (record { since = now; cold = cold })))
  pub meets_zero : (s : Sensor) (o : Outage) → s.outage ≡ Some o → R s (with_outage s (Some (record o { cold = true })))
  pub comes_back : (s : Sensor) (o : Outage) → s.outage ≡ Some o → R s (with_outage (with_deadlines s (shifted s.deadlines (since now o.since))) None)
  pub powers_on : (s : Sensor) → is_off s ≡ true → R s (power_on s now)
  pub sets : (s : Sensor) (input : Acceleration) → R s (set_input s input now)
  pub keeps : (s : Sensor) (k : Kept) → k.input.acceleration ≡ s.kept.input.acceleration → R s (with_kept s k)
