-- Supply, acceleration and temperature.
use Rattle.sensor.specs.Operation.{Operation}
use Rattle.std.specs.Prelude.{ℕ, Bool, true, false, ltb, eqb, ℤ, if◌then◌else◌, Option, Some, None}
use Rattle.laws.specs.Notation.{Byte, Address}
use Rattle.time.specs.declared.Time.{Time}
use Rattle.time.specs.Time.{since, from_millis}
use Rattle.analog.specs.Axis.{Acceleration}
use Rattle.i2c.specs.Engine as E
use Rattle.deadlines.specs.Deadlines.{shifted}
use Rattle.sampling.specs.declared.types.Sampling.{Sampling}
use Rattle.sampling.specs.Stage as Stage
use Rattle.waits.specs.declared.types.Report.{Report}
use Rattle.waits.specs.declared.types.Served.{Served}
use Rattle.sensor.specs.declared.types.Outage.{Outage}
use Rattle.sensor.specs.declared.types.Sensor.{Sensor}
use Rattle.sensor.specs.Record.{with_nonvolatile, with_i2c, with_sampling, with_kept, with_acceleration, with_temperature, with_deadlines, with_writing, with_outage, is_off}
use Rattle.sensor.specs.Image.{byte_at, with_cell, power_on}
use Rattle.sensor.specs.Mode.{start_acquisition}
use Rattle.sensor.specs.Select.{set_selected}

-- no report
abbrev pub without_report : Sensor → Served
without_report s = record { sensor = s; report = None }

-- ---- loss of supply

-- a stored write is over: its cell holds this byte, and none runs
abbrev pub write_over : Sensor → (address : Address) (value : Byte) → Sensor
write_over s address value = with_writing (with_nonvolatile s (with_cell s.nonvolatile address value)) (None)

-- 01: a running write is cut, and its cell holds the torn byte
unfoldable pub cut : Operation → Sensor → (now : Time) → Served
cut None s now = without_report s
cut (Some w) s now =
    let torn = byte_at w s.nonvolatile now in
    record { sensor = write_over s w.address torn; report = Some (Report.Cut w.address torn) }

-- deselected, the engine aborted, off since now
abbrev pub off : Sensor → (now : Time) (cold : Bool) → Sensor
off s now cold =
    let t = set_selected s false in
    with_outage (with_i2c t (E.aborted t.i2c)) (Some (record { since = now; cold = cold }))

-- awake, the stage is brought up to now first
abbrev pub hold_analog : Sensor → (now : Time) → Sensor
hold_analog s now = with_sampling s (Stage.hold s.sampling now s.kept.input)

-- (`power_off`, called only with supply); 0 mV makes the return a cold one
abbrev pub power_off : Sensor → (now : Time) (cold : Bool) → Served
power_off s now cold =
    let c = cut s.writing (hold_analog s now) now in
    record { sensor = off c.sensor now cold; report = c.report }

-- while off only 0 mV matters
unfoldable pub zero_while_off : Sensor → Outage → (zero_volt : Bool) → Sensor
zero_while_off s o zero_volt = if zero_volt then with_outage s (Some (record o { cold = true })) else s

-- ---- return of supply

-- a sensor that was awake acquires anew, ready after 1 ms
unfoldable pub reacquired : Sensor → (now : Time) → Sensor
reacquired s now = if s.sampling.asleep then s else start_acquisition s now (from_millis 1)

-- 01: otherwise it returns warm, registers kept; that the waits are shifted by the length without supply is the Rust's rule
abbrev pub warm_return : Sensor → (lost : Time) (now : Time) → Sensor
warm_return s lost now = reacquired (with_outage (with_deadlines s (shifted s.deadlines (since now lost))) None) now

unfoldable pub returned : Sensor → Outage → (now : Time) → Sensor
returned s o now = if o.cold then power_on s now else warm_return s o.since now

-- ---- 01: below 2400 mV the sensor is off (`set_supply`)

unfoldable pub supply_low : Option Outage → Sensor → (zero_volt : Bool) (now : Time) → Served
supply_low None s zero_volt now = power_off s now zero_volt
supply_low (Some o) s zero_volt now = without_report (zero_while_off s o zero_volt)

unfoldable pub supply_ok : Option Outage → Sensor → (now : Time) → Sensor
supply_ok None s now = s
supply_ok (Some o) s now = returned s o now

unfoldable pub set_supply : Sensor → (rail : ℕ) (now : Time) → Served
set_supply s rail now = if ltb rail 2400 then supply_low s.outage s (eqb rail 0) now else without_report (supply_ok s.outage s now)

-- ---- inputs

-- with supply, the stage of an axis that changes is first brought up to now
unfoldable pub turned : Sensor → (input : Acceleration) (now : Time) → Sampling
turned s input now = if is_off s then s.sampling else Stage.turned s.sampling now s.kept.input.acceleration input

abbrev pub set_input : Sensor → (input : Acceleration) (now : Time) → Sensor
set_input s input now = with_kept (with_sampling s (turned s input now)) (with_acceleration input s.kept)

abbrev pub set_temperature : Sensor → (millicelsius : ℤ) → Sensor
set_temperature s millicelsius = with_kept s (with_temperature millicelsius s.kept)
