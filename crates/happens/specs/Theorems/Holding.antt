-- A sensor that stands still at a moment: with supply, its pins alive, no samples running and nothing due by then.
use Rattle.std.specs.Prelude.{◌≡◌, refl, Bool, cond, ◌&&◌, Option, None}
use Rattle.std.proofs.Math.Path.{ap}
use Rattle.std.proofs.Math.Bool.{true, false, not}
use Rattle.std.proofs.Common.{le_refl, le-ltb}
use Rattle.time.specs.declared.Time.{Time}
use Rattle.time.specs.Time.{ticks}
use Rattle.i2c.specs.declared.types.Edge.{Edge}
use Rattle.i2c.specs.Engine as E
use Rattle.i2c.specs.declared.types.Levels.{Levels}
use Rattle.i2c.specs.declared.types.State.{State}
use Rattle.spi.specs.declared.types.Frame.{Frame}
use Rattle.spi.specs.Frame as F
use Rattle.reads.specs.declared.Reads.{Reads}
use Rattle.deadlines.specs.Deadlines.{is_set, is_by}
use Rattle.calls.specs.declared.types.Timed.{Timed}
use Rattle.calls.specs.declared.types.Call.TheVariants as Call
use Rattle.calls.specs.Table as T
use Rattle.sensor.specs.declared.types.Sensor.{Sensor}
use Rattle.sensor.specs.Record.{with_frame, with_i2c, with_reads, with_lines, is_off, is_quiet, four_wire, automatic}
use Rattle.samples.specs.Samples.{samples_run, next_sample, sample_due, next_deadline, interaction_deadline, samples_on_demand, sync_local_until}
use Rattle.serial.specs.SpiEdges.{spi_listens, rise_synced, fall_synced}
use Rattle.serial.specs.I2cPins.{i2c_listens, pins_synced}
use Rattle.bma150.specs.declared.host.Bma150.{Bma150}
use Rattle.bma150.specs.Called.{effect, leaves}
use Rattle.book.specs.Lists.{accepts}
use Rattle.happens.specs.Theorems.Accepting.{Plain, plain_accepted}

-- a sensor and the time of its last accepted call
abbrev pub host : (last : Time) → Sensor → Bma150
host last s = record { sensor = s; last = last }

-- with supply, its pins neither dead nor quiet, no samples running, and next due later
pub record Held (now : Time) (s : Sensor) : Type 0 where
  pub on : is_off s ≡ false
  pub ready : s.deadlines.serial_ready ≡ None
  pub loud : s.deadlines.quiet ≡ None
  pub unsampled : samples_run s ≡ false
  pub undue : is_by (interaction_deadline s) now ≡ false

-- a sensor with another frame, engine and held pairs
abbrev pub with_pins : Sensor → Frame → State → Reads → Sensor
with_pins s f i r = with_reads (with_i2c (with_frame s f) i) r

-- they are no part of standing still
pub held_pins : {now : Time} {s : Sensor} → Held now s → (f : Frame) (i : State) (r : Reads) → Held now (with_pins s f i r)
unfolding samples_run next_sample sample_due next_deadline
held_pins {now} {s} h f i r = record { on = h.on; ready = h.ready; loud = h.loud; unsampled = h.unsampled; undue = h.undue }

-- nor are the levels of the last report
pub held_lines : {now : Time} {s : Sensor} → Held now s → (l : Levels) → Held now (with_lines s l)
unfolding samples_run next_sample sample_due next_deadline
held_lines {now} {s} h l = record { on = h.on; ready = h.ready; loud = h.loud; unsampled = h.unsampled; undue = h.undue }

-- no deadline is set
pub never_set : {d : Option Time} → d ≡ None → is_set d ≡ false
unfolding is_set
never_set {d} e = rw e

-- no sample is taken
pub no_samples : (s : Sensor) (now : Time) (inclusive : Bool) → samples_run s ≡ false → sync_local_until s now inclusive ≡ s
unfolding sync_local_until samples_on_demand
no_samples s now inclusive e = rw e (by (not (automatic s)) _)
  where
    by : (b : Bool) (x : Sensor) → cond (b && false) x s ≡ s
    by true x = refl
    by false x = refl

-- a choice of one and the same
either_way : (b : Bool) {s t : Sensor} → t ≡ s → cond b t s ≡ s
either_way true e = e
either_way false e = refl

module _ (s : Sensor) (now : Time) (e : samples_run s ≡ false) where
  -- nor at a rise that uses converted values
  pub rise_met : rise_synced s now ≡ s
  unfolding rise_synced
  rise_met = either_way (spi_listens s && F.consumes_at_rise s.frame) (no_samples s now true e)

  -- nor at such a fall
  pub fall_met : fall_synced s now ≡ s
  unfolding fall_synced
  fall_met = either_way (spi_listens s && F.consumes_at_fall s.frame (four_wire s)) (no_samples s now true e)

  -- nor at such a report
  pub pins_met : (d : Edge) → pins_synced s d now ≡ s
  unfolding pins_synced
  pins_met d = either_way (i2c_listens s && (E.consumes_conversion s.i2c d && not (is_quiet s))) (no_samples s now true e)

module _ (now : Time) (late : T.late now ≡ false) (s : Sensor) (h : Held now s) where
  -- any timed call at the moment but a due call and accelerations is accepted
  pub held_accepts : (t : Timed) → Plain s.kept.lines t → accepts (host now s) (Call.At now t) ≡ true
  held_accepts t p = plain_accepted (host now s) now t p late (le-ltb (ticks now) (ticks now) (le_refl (ticks now))) h.undue

  -- and meets the sensor as it is
  pub held_leaves : (t : Timed) → leaves (host now s) (Call.At now t) ≡ host now (effect s now t).sensor
  unfolding leaves
  held_leaves t = ap (λ (u : Sensor). host now (effect u now t).sensor) (no_samples s now false h.unsampled)
