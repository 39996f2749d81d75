-- What the bus sees of a sensor that does not hear it: selected, off or dead, or quiet after a soft reset.
use Rattle.std.specs.Prelude.{ℕ, ◌≡◌, Bool, cond, ◌&&◌, if◌then◌else◌, Some, None}
use Rattle.std.proofs.Common.{arith, ◌∙◌}
use Rattle.std.proofs.Math.Path.{refl, ap}
use Rattle.std.proofs.Math.Bool.{true, false, not}
use Rattle.time.specs.declared.Time.{Time}
use Rattle.i2c.specs.declared.types.Levels.{Levels}
use Rattle.i2c.specs.declared.types.Edge.{Edge}
use Rattle.i2c.specs.declared.types.State.{State}
use Rattle.i2c.specs.declared.types.Step.{Step}
use Rattle.i2c.specs.declared.types.Action.TheVariants as A
use Rattle.i2c.specs.Bus.{edge, is_condition}
use Rattle.i2c.specs.Engine as E
use Rattle.i2c.proofs.Theorems.Quiet.{quiet_aborts, quiet_conditions}
use Rattle.deadlines.specs.Deadlines.{is_set}
use Rattle.calls.specs.declared.types.Timed.TheVariants as Timed
use Rattle.calls.specs.declared.types.Call.{Call}
use Rattle.sensor.specs.declared.types.Sensor.{Sensor}
use Rattle.sensor.specs.Record.{away, with_lines, with_i2c, is_off, serial_not_ready, is_quiet}
use Rattle.samples.specs.Samples.{sync_local_until}
use Rattle.serial.specs.I2cPins.{i2c_listens, ones_for, acted, i2c_pins, pins_synced}
use Rattle.serial.specs.Outputs.{i2c_holds}
use Rattle.bma150.specs.declared.host.Bma150.{Bma150}
use Rattle.bma150.specs.Called.{effect, leaves}
use Rattle.book.specs.Lists.{accepts, step}
use Rattle.effects.specs.Theorems.Keeps as K
use Rattle.bus.specs.Theorems.Parts.{Parts, Same, of}
use Rattle.bus.specs.Theorems.Calls.{accepted_leaves}

-- ---- the samples before a report change nothing of what is heard

module _ (s : Sensor) (now : Time) where
  -- the sensor with the samples before the moment
  abbrev pub caught : Sensor
  caught = sync_local_until s now false

  same : Same s caught
  same = of (K.sync_keeps s now false)

  listens_same : i2c_listens caught ≡ i2c_listens s
  unfolding i2c_listens
  listens_same = ap (λ (k : Parts). not k.frame.selected && (not (away k.outage) && not (is_set k.serial_ready))) same.same

  quiet_same : is_quiet caught ≡ is_quiet s
  quiet_same = ap (λ (k : Parts). is_set k.quiet) same.same

  engine_same : caught.i2c ≡ s.i2c
  engine_same = ap (λ (k : Parts). k.i2c) same.same

  sent_same : ones_for caught.frame.tx ≡ ones_for s.frame.tx
  sent_same = ap (λ (k : Parts). ones_for k.frame.tx) same.same

-- ---- a report

module _ (s : Bma150) (now : Time) (before after : Levels) where
  -- the call, and its event
  abbrev pub report : Call
  report = Call.At now (Timed.Pins before after)

  abbrev e : Edge
  e = edge before after

  abbrev u : Sensor
  u = caught s.sensor now

  left : accepts s report ≡ true → (step s report).sensor ≡ with_lines (i2c_pins (pins_synced u e now) e now) after
  unfolding leaves effect
  left a = ap (λ (t : Bma150). t.sensor) (accepted_leaves s report a)

  -- selected, off or dead: the engine waits for START, and all else of the sensor but the levels of the last report is as the samples before leave it, the SPI frame too
  pub deaf_report : accepts s report ≡ true → i2c_listens s.sensor ≡ false → (step s report).sensor ≡ with_lines (with_i2c u (E.aborted s.sensor.i2c)) after
  unfolding i2c_pins pins_synced
  deaf_report a d =
      let l = listens_same s.sensor now ∙ d in
      let synced : pins_synced u e now ≡ u = rw l in
      let is : i2c_pins u e now ≡ with_i2c u (E.aborted u.i2c) = rw l in
      left a
      ∙ ap (λ (t : Sensor). with_lines t after) (ap (λ (t : Sensor). i2c_pins t e now) synced ∙ is ∙ ap (λ (t : State). with_i2c u (E.aborted t)) (engine_same s.sensor now))

  -- quiet: what the engine does when quiet
  quiet_report : accepts s report ≡ true → i2c_listens s.sensor ≡ true → is_quiet s.sensor ≡ true
      → let t = E.step s.sensor.i2c e true (ones_for s.sensor.frame.tx) in (step s report).sensor ≡ with_lines (acted t.action (with_i2c u t.state) now) after
  unfolding i2c_pins pins_synced
  quiet_report a l q =
      let listening = listens_same s.sensor now ∙ l in
      let quiet = quiet_same s.sensor now ∙ q in
      let t = E.step u.i2c e true (ones_for u.frame.tx) in
      let is : i2c_pins (pins_synced u e now) e now ≡ acted t.action (with_i2c u t.state) now = rw (listening, quiet, and_false (E.consumes_conversion u.i2c e), listening, quiet) in
      left a
      ∙ ap (λ (t : Sensor). with_lines t after) is
      ∙ ap (λ (t : Step). with_lines (acted t.action (with_i2c u t.state) now) after)
      (ap (λ (x : State). E.step x e true (ones_for u.frame.tx)) (engine_same s.sensor now)
      ∙ ap (λ (n : ℕ). E.step s.sensor.i2c e true n) (sent_same s.sensor now))
    where
      and_false : (b : Bool) → b && not true ≡ false
      and_false true = refl
      and_false false = refl

  -- quiet, and not in an acknowledge: the engine waits for START, which it does not hear; nothing is written or fetched
  pub quiet_silent : accepts s report ≡ true → i2c_listens s.sensor ≡ true → is_quiet s.sensor ≡ true → E.acknowledging s.sensor.i2c.phase ≡ false
      → (step s report).sensor ≡ with_lines (acted (if is_condition e then Some A.Drop else None) (with_i2c u (E.aborted s.sensor.i2c)) now) after
  quiet_silent a l q k =
      quiet_report a l q
      ∙ ap (λ (t : Step). with_lines (acted t.action (with_i2c u t.state) now) after) (quiet_aborts s.sensor.i2c e (ones_for s.sensor.frame.tx) k)

  -- quiet, START and STOP: also an acknowledge is dropped
  pub quiet_hears_no_start : accepts s report ≡ true → i2c_listens s.sensor ≡ true → is_quiet s.sensor ≡ true → is_condition e ≡ true
      → (step s report).sensor ≡ with_lines (acted (Some A.Drop) (with_i2c u (E.aborted s.sensor.i2c)) now) after
  quiet_hears_no_start a l q k =
      quiet_report a l q
      ∙ ap (λ (t : Step). with_lines (acted t.action (with_i2c u t.state) now) after) (quiet_conditions s.sensor.i2c e (ones_for s.sensor.frame.tx) k)

-- ---- the pin

and_more : (a b c d : Bool) → a && (b && c) ≡ false → a && (b && (c && d)) ≡ false
and_more true true true d e = let z : ◌≡◌ {A = ℕ} 1 0 = ap (λ (b : Bool). cond b 1 0) e in absurd (omega (arith, z))
and_more true true false d e = refl
and_more true false c d e = refl
and_more false b c d e = refl

-- selected, off or dead it never holds the data pin
pub deaf_free : (s : Sensor) → i2c_listens s ≡ false → i2c_holds s ≡ false
unfolding i2c_listens i2c_holds
deaf_free s e = and_more (not s.frame.selected) (not (is_off s)) (not (serial_not_ready s)) s.i2c.low e
