-- What a sensor keeps, told from the calls alone, over every list after a start; and I2C reports that follow on.
use Rattle.std.specs.Prelude.{◌≡◌, true, List, [], ◌∷◌, ℤ}
use Rattle.time.specs.declared.Time.{Time}
use Rattle.analog.specs.Axis.{Acceleration}
use Rattle.i2c.specs.declared.types.Levels.{Levels}
use Rattle.i2c.specs.declared.types.Edge.TheVariants as Edge
use Rattle.i2c.specs.Bus.{edge}
use Rattle.calls.specs.declared.types.Timed.{Timed}
use Rattle.calls.specs.declared.types.Call.{Call}
use Rattle.sensor.specs.Image.{new_kept}
use Rattle.book.specs.Lists.{Start, started, accepts, after, accepted}

-- ---- what is set by each call, told from the calls alone

-- 01: acceleration and temperature are those last set by an accepted call, else the start's
unfoldable pub call_acceleration : Call → (before : Acceleration) → Acceleration
call_acceleration (Call.At now (Timed.Accelerations input)) before = input
call_acceleration _ before = before

unfoldable pub call_temperature : Call → (before : ℤ) → ℤ
call_temperature (Call.Temperature millicelsius) before = millicelsius
call_temperature _ before = before

-- an accepted report brings the levels after it; no other call changes them
unfoldable pub call_levels : Call → (before : Levels) → Levels
call_levels (Call.At now (Timed.Pins from to)) before = to
call_levels _ before = before

-- what was last set by a list of calls, else what was there before
unfoldable pub last_set : {A : Type 0} → (Call → A → A) → (before : A) → List Call → A
last_set sets before [] = before
last_set sets before (c ∷ cs) = last_set sets (sets c before) cs

-- a start sets both high
abbrev pub both_high : Levels
both_high = record { scl = true; sda = true }

-- the levels after the last accepted report, else both high
abbrev pub lines : Start → List Call → Levels
lines b cs = last_set call_levels both_high (accepted (started b) cs)

-- ---- over every list

pub record Follows : Type 0 where
  -- these are the levels that the sensor remembers
  pub lines_kept : (b : Start) (cs : List Call) → (after (started b) cs).sensor.kept.lines ≡ lines b cs
  -- an accepted report begins with them
  pub follows : (b : Start) (cs : List Call) (now : Time) (from to : Levels) → accepts (after (started b) cs) (Call.At now (Timed.Pins from to)) ≡ true → from ≡ lines b cs
  -- so an accepted report that is a START was preceded by both lines high
  pub start_was : (b : Start) (cs : List Call) (now : Time) (from to : Levels) → accepts (after (started b) cs) (Call.At now (Timed.Pins from to)) ≡ true → edge from to ≡ Edge.Start
      → lines b cs ≡ both_high

-- acceleration and temperature are those last set by an accepted call, else the start's
pub record LastSet : Type 0 where
  pub acceleration : (b : Start) (cs : List Call) → (after (started b) cs).sensor.kept.input.acceleration ≡ last_set call_acceleration new_kept.input.acceleration (accepted (started b) cs)
  pub temperature : (b : Start) (cs : List Call) → (after (started b) cs).sensor.kept.input.temperature_millicelsius ≡ last_set call_temperature new_kept.input.temperature_millicelsius (accepted (started b) cs)
