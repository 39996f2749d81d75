-- Runs in which one more bit completes a register write on a bus, and what that bit begins in the write book.
use Rattle.std.specs.Prelude.{ℕ, ◌^◌, ◌<◌, ◌≡◌, Bool, true, false, List, [], ◌∷◌, ◌++◌, if◌then◌else◌, Some}
use Rattle.laws.specs.Bytes.{sent_bit}
use Rattle.time.specs.declared.Time.{Time}
use Rattle.i2c.specs.declared.types.Levels.{Levels}
use Rattle.i2c.specs.declared.types.Edge.TheVariants.{Rise}
use Rattle.i2c.specs.Bus.{edge}
use Rattle.registers.specs.Access.{begins}
use Rattle.spi.specs.Frame.{fresh}
use Rattle.calls.specs.declared.types.Timed.{Timed}
use Rattle.calls.specs.declared.types.Call.{Call}
use Rattle.sensor.specs.declared.types.Sensor.{Sensor}
use Rattle.sensor.specs.Record.{gate, is_writing}
use Rattle.bma150.specs.declared.host.Bma150.{Bma150}
use Rattle.bma150.specs.Called.{start_number}
use Rattle.book.specs.Lists.{Start, started, Fractions, accepts, after, accepted}
use Rattle.book.specs.Book.{opened, booked}
use Rattle.bus.specs.I2c.{Heard, events, ended, sampled}
use Rattle.bus.specs.Spi.{Chosen, edges, left_frame}
use Rattle.bus.specs.Theorems.Stored as I2c
use Rattle.bus.specs.Theorems.SpiFalls.{levels}
use Rattle.bus.specs.Theorems.SpiStored as Spi

-- the sensor of a run
abbrev pub sensor_after : Start → List Call → Bma150
sensor_after b cs = after (started b) cs

-- after the calls cs the sensor hears the I2C bus; the calls ds then bring START, 70 hex, a register and all but the last bit of a value, and nothing that ends its hearing; the report at `now` is the rise of that bit
pub record I2cSoFar (b : Start) (cs ds : List Call) (register value : ℕ) : Type 0 where
  pub start_accepted : start_number b.by b.time b.image ≡ 0
  pub fractions : Fractions (cs ++ ds)
  pub heard : Heard (sensor_after b cs).sensor
  pub still_heard : ended (sensor_after b cs) ds ≡ false
  pub register_byte : register < 256
  pub value_byte : value < 256
  pub address_acknowledged : Bool
  pub register_acknowledged : Bool
  pub brings : events (accepted (sensor_after b cs) ds) ≡ I2c.all_but_the_last_bit register value address_acknowledged register_acknowledged
  pub now : Time
  pub before : Levels
  pub next : Levels
  pub fraction : now.1 < 2 ^ 64
  pub last_bit : edge before next ≡ Rise (sent_bit value 7)
  pub last_accepted : accepts (sensor_after b (cs ++ ds)) (Call.At now (Timed.Pins before next)) ≡ true

-- after the calls cs the sensor is selected and its frame begins; the calls ds then bring the rises of an address byte and of all but the last bit of a value, and nothing that ends the frame; the rise of that bit at `now` is accepted
pub record SpiSoFar (b : Start) (cs ds : List Call) (address value : ℕ) : Type 0 where
  pub start_accepted : start_number b.by b.time b.image ≡ 0
  pub fractions : Fractions (cs ++ ds)
  pub chosen : Chosen (sensor_after b cs).sensor
  pub still_chosen : left_frame (sensor_after b cs) ds ≡ false
  pub frame_begins : (sensor_after b cs).sensor.frame ≡ fresh true
  pub address_byte : address < 128
  pub value_byte : value < 256
  pub brings : levels (edges (accepted (sensor_after b cs) ds)) ≡ Spi.all_but_the_last_bit address value
  pub now : Time
  pub fraction : now.1 < 2 ^ 64
  pub last_accepted : accepts (sensor_after b (cs ++ ds)) (Call.At now (Timed.Rising (sent_bit value 7))) ≡ true

-- the call at `now` begins the stored write in the book exactly where 01's rule lets one begin, asked of the sensor with the sample of that moment; else what ran in the book runs on
abbrev pub BeginsExactly : Start → (cs : List Call) (now : Time) → Timed → (address value : ℕ) → Type 0
BeginsExactly b cs now t address value =
    let met : Sensor = sampled (sensor_after b cs).sensor now in
    (booked (opened b) (cs ++ (Call.At now t ∷ []))).running
    ≡ (if begins address value (gate met) (is_writing met) then Some (record { address = address; wanted = value; began = now }) else (booked (opened b) cs).running)
