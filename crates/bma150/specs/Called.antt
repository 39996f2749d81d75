-- What a call leaves and answers, for all arguments.
use Rattle.std.specs.Prelude.{ℕ, ◌-◌, Bool, false, List, [], length, get_or, Option, Some, None}
use Rattle.laws.specs.Notation.{Image}
use Rattle.time.specs.declared.Time.{Time}
use Rattle.time.specs.Time.{time}
use Rattle.registers.specs.Map.{measurement}
use Rattle.spi.specs.declared.types.Drive.{Drive}
use Rattle.deadlines.specs.Deadlines.{moment}
use Rattle.calls.specs.declared.types.Timed.{Timed}
use Rattle.calls.specs.declared.types.Call.{Call}
use Rattle.calls.specs.declared.types.Starting.{Starting}
use Rattle.calls.specs.Table.{refusal, start_refusal, unless_refused}
use Rattle.sensor.specs.declared.types.Sensor.{Sensor}
use Rattle.sensor.specs.Record.{with_kept, with_temperature, with_lines}
use Rattle.sensor.specs.declared.types.Kept.{Kept}
use Rattle.sensor.specs.Image.{nonvolatile, from_nonvolatile, stock}
use Rattle.sensor.specs.Mode as Mode
use Rattle.sensor.specs.declared.types.Viewed.{Viewed}
use Rattle.sensor.specs.RegisterReads as Reads
use Rattle.sensor.specs.Select.{set_selected}
use Rattle.samples.specs.Samples.{interaction_deadline, sync_local_until}
use Rattle.serial.specs.Outputs as Outputs
use Rattle.serial.specs.SpiEdges.{rising_at, falling_at}
use Rattle.serial.specs.I2cPins.{i2c_pins_at}
use Rattle.waits.specs.declared.types.Report.{Report}
use Rattle.waits.specs.declared.types.Served.{Served}
use Rattle.waits.specs.Supply.{without_report, set_supply, set_input}
use Rattle.waits.specs.Due.{at_deadline}
use Rattle.bma150.specs.declared.host.Bma150.{Bma150}
use Rattle.bma150.specs.Values.{report_values, view_value, mark_letter}

-- ---- a start by command 01's call or by command 0c's: its number, and the sensor that it hands out

-- the byte of register 14 in an image, which has those of registers 0b to 1d; 0 where the image does not reach it
abbrev pub measurement_of : (image : Image) → ℕ
measurement_of image = get_or image (measurement - 0x0b) 0

abbrev pub start_number : Starting → (now : Time) (image : Image) → ℕ
start_number by now image = start_refusal by now (length image) (measurement_of image)

-- it sets the last accepted time
abbrev pub started : (now : Time) (image : Image) → Bma150
started now image = record { sensor = from_nonvolatile now image; last = now }

-- a refused start's sensor is the stock image's at time 0
unfoldable pub after_start : Starting → (now : Time) (image : Image) → Bma150
after_start by now image = unless_refused (start_number by now image) (started (time 0) stock) (started now image)

-- ---- what an accepted call answers beside its number: a report, a viewed byte or its absence with its mark or none, the bytes put in the buffer

pub data Added : Type 0 where
  nothing : Added
  report : List ℕ → Added
  viewed : (value mark : Option ℕ) → Added
  put : List ℕ → Added

-- the report of an answer
unfoldable pub reported : Added → List ℕ
reported (Added.report values) = values
reported _ = []

-- the answer of a view: the byte and its mark, or the absence of both
unfoldable pub of_view : Option Viewed → Added
of_view None = Added.viewed (view_value None) (mark_letter None)
of_view (Some v) = Added.viewed (view_value (Some v.byte)) (mark_letter v.mark)

-- the lent buffer after the call
unfoldable pub put_in : Added → (buffer : List ℕ) → List ℕ
put_in (Added.put bytes) buffer = bytes
put_in _ buffer = buffer

-- ---- an accepted call

-- 01: a timed call is `sync_local_until(now, false)` and then this; the levels after a pin report are kept
unfoldable pub effect : Sensor → (now : Time) → Timed → Served
effect s now (Timed.Accelerations input) = without_report (set_input s input now)
effect s now (Timed.Supply rail) = set_supply s rail now
effect s now Timed.Due = at_deadline s now
effect s now (Timed.Rising mosi) = without_report (rising_at s mosi now)
effect s now Timed.Falling = without_report (falling_at s now)
effect s now (Timed.Pins before after) = without_report (with_lines (i2c_pins_at s before after now) after)

-- supply and due calls report
unfoldable pub timed_adds : Timed → Option Report → Added
timed_adds (Timed.Supply rail) r = Added.report (report_values r)
timed_adds Timed.Due r = Added.report (report_values r)
timed_adds _ r = Added.nothing

-- the sensor at a timed call's moment, after it
abbrev pub served : Bma150 → (now : Time) → Timed → Served
served s now t = effect (sync_local_until s.sensor now false) now t

-- what a call acts on: the sensor at a moment, the select pin, or no more than what is kept
pub data Acts : Type 0 where
  timed : Time → Timed → Acts
  select : Bool → Acts
  keeps : (Kept → Kept) → Acts

-- 01: temperature, select, view and stored image are no timed calls; view and stored image change nothing (the Rust's `peek` and `nonvolatile`)
abbrev pub acts : Call → Acts
acts (Call.At now t) = Acts.timed now t
acts (Call.Temperature x) = Acts.keeps (with_temperature x)
acts (Call.Select on) = Acts.select on
acts (Call.View address) = Acts.keeps (λ k. k)
acts (Call.StoredImage now n) = Acts.keeps (λ k. k)

-- the sensor left; a timed call's time is then the last accepted one
abbrev pub left_by : Bma150 → Acts → Bma150
left_by s (Acts.timed now t) = record { sensor = (served s now t).sensor; last = now }
left_by s (Acts.select on) = record s { sensor = set_selected s.sensor on }
left_by s (Acts.keeps f) = record s { sensor = with_kept s.sensor (f s.sensor.kept) }

unfoldable pub leaves : Bma150 → Call → Bma150
leaves s c = left_by s (acts c)

unfoldable pub adds : Bma150 → Call → Added
adds s (Call.At now t) = timed_adds t (served s now t).report
adds s (Call.Temperature x) = Added.nothing
adds s (Call.Select on) = Added.nothing
adds s (Call.View address) = Added.viewed (view_value (Reads.peek s.sensor address)) (mark_letter (Reads.mark_of (Reads.peek s.sensor address) s.sensor address))
adds s (Call.StoredImage now n) = Added.put (nonvolatile s.sensor now)

-- ---- any call: a refused one leaves the sensor as it came, and answers only its number

pub record Called : Type 0 where
  pub number : ℕ
  pub sensor : Bma150
  pub adds : Added

-- next due is that before any sampling
abbrev pub number : Bma150 → Call → ℕ
number s c = refusal s.last (interaction_deadline s.sensor) s.sensor.kept.lines c

abbrev pub called : Bma150 → Call → Called
called s c = record {
  number = number s c;
  sensor = unless_refused (number s c) s (leaves s c);
  adds = unless_refused (number s c) Added.nothing (adds s c);
}

-- ---- the observers

abbrev pub interrupt : Bma150 → Bool
interrupt s = Mode.interrupt s.sensor

abbrev pub output : Bma150 → Drive
output s = Outputs.output s.sensor

abbrev pub data_output : Bma150 → Drive
data_output s = Outputs.data_output s.sensor

-- next due: the moment or nothing
abbrev pub next_due : Bma150 → Option Time
next_due s = moment (interaction_deadline s.sensor)
