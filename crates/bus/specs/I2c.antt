-- The I2C bus as the reports of a list of calls have it, and what the sensor does on it.
use Rattle.std.specs.Prelude.{ℕ, ◌≡◌, Bool, true, false, ◌&&◌, ◌||◌, List, [], ◌∷◌, ltb, if◌then◌else◌, None, Option, Some}
use Rattle.time.specs.declared.Time.{Time}
use Rattle.i2c.specs.declared.types.Edge.{Edge}
use Rattle.i2c.specs.declared.types.Edge.TheVariants.{Still}
use Rattle.i2c.specs.declared.types.Action.{Action}
use Rattle.i2c.specs.declared.types.Action.TheVariants as A
use Rattle.i2c.specs.Bus.{edge}
use Rattle.i2c.specs.Transfers.{and_edge}
use Rattle.i2c.specs.Target.{Target, target, deed, Seen}
use Rattle.spi.specs.declared.types.Serial.TheVariants as Serial
use Rattle.calls.specs.declared.types.Timed.{Timed}
use Rattle.calls.specs.declared.types.Call.{Call}
use Rattle.control.specs.declared.types.WriteKind.{WriteKind}
use Rattle.control.specs.declared.types.Effect.{Effect}
use Rattle.writes.specs.Write.{write_kind}
use Rattle.sensor.specs.declared.types.Sensor.{Sensor}
use Rattle.sensor.specs.Record.{is_off}
use Rattle.sensor.specs.RegisterReads.{prepare_read}
use Rattle.samples.specs.Samples.{sync_local_until}
use Rattle.serial.specs.I2cPins.{ones_for}
use Rattle.serial.specs.Outputs.{i2c_holds}
use Rattle.bma150.specs.declared.host.Bma150.{Bma150}
use Rattle.bma150.specs.Called.{Acts, acts}
use Rattle.book.specs.Lists.{accepts, step, after}

-- ---- a sensor that hears the bus: with supply, its pins not dead, SPI not selected and at rest, not quiet after a soft reset
pub record Heard (s : Sensor) : Type 0 where
  pub on : is_off s ≡ false
  pub ready : s.deadlines.serial_ready ≡ None
  pub unselected : s.frame.selected ≡ false
  pub at_rest : s.frame.serial ≡ Serial.Address
  pub loud : s.deadlines.quiet ≡ None

-- ---- events

-- the event of a timed call: that of a report (UM10204 3.1.3, 3.1.4)
unfoldable pub timed_event : Timed → Edge
timed_event (Timed.Pins before after) = edge before after
timed_event _ = Still

-- the event of a call: only a report has one
abbrev pub act_event : Acts → Edge
act_event (Acts.timed now t) = timed_event t
act_event _ = Still

unfoldable pub event : Call → Edge
event c = act_event (acts c)

-- the bus: the events of the accepted calls
unfoldable pub events : List Call → List Edge
events [] = []
events (c ∷ cs) = and_edge (event c) (events cs)

-- ---- what the sensor does at them

-- its engine, and the byte being sent
abbrev pub target_of : Sensor → Target
target_of s = target s.i2c (ones_for s.frame.tx)

-- the sensor with the samples before a moment, and with that of the moment itself
abbrev pub sampled : Sensor → (now : Time) → Sensor
sampled s now = sync_local_until (sync_local_until s now false) now true

-- the byte that a register shows when it is fetched; ones where it is withheld (01)
abbrev pub fetch : Sensor → ℕ → ℕ
fetch s r = ones_for (prepare_read s r).sent

-- ---- what ends hearing: select 1, a supply below 2400 mV, and the write of a soft reset

-- a soft reset
unfoldable pub is_reset : WriteKind → Bool
is_reset (WriteKind.Taken Effect.Reset) = true
is_reset _ = false

-- what the engine asks for is the write of a soft reset, as the registers of the sensor are
unfoldable pub resets : Sensor → Option Action → Bool
resets s (Some (A.Write r v)) = is_reset (write_kind s r v)
resets s _ = false

-- a timed call ends hearing; a report by what the engine asks for, of the sensor with the sample of its moment
unfoldable pub timed_ends : Sensor → (now : Time) → Timed → Bool
timed_ends s now (Timed.Supply rail) = ltb rail 2400
timed_ends s now (Timed.Pins before after) = resets (sampled s now) (deed (target_of s) (edge before after))
timed_ends s now _ = false

-- a call does
abbrev pub act_ends : Sensor → Acts → Bool
act_ends s (Acts.timed now t) = timed_ends s now t
act_ends s (Acts.select on) = on
act_ends s (Acts.keeps f) = false

unfoldable pub ends : Bma150 → Call → Bool
ends s c = act_ends s.sensor (acts c)

-- this is so of an accepted call of the list
unfoldable pub some_accepted : (Bma150 → Call → Bool) → Bma150 → List Call → Bool
some_accepted so s [] = false
some_accepted so s (c ∷ cs) = accepts s c && so s c || some_accepted so (step s c) cs

-- an accepted call of the list ends hearing
abbrev pub ended : Bma150 → List Call → Bool
ended s cs = some_accepted ends s cs

-- ---- what is seen

-- at a call: of the sensor with the sample of its moment
abbrev pub fetch_at : Sensor → Acts → ℕ → ℕ
fetch_at s (Acts.timed now t) = fetch (sampled s now)
fetch_at s _ = fetch s

unfoldable pub shows : Bma150 → Call → ℕ → ℕ
shows s c = fetch_at s.sensor (acts c)

-- one entry for each event
unfoldable pub at_event : {A : Type 0} → Edge → A → List A → List A
at_event Still a l = l
at_event _ a l = a ∷ l

-- what the registers show at each event
unfoldable pub shown : Bma150 → List Call → List (ℕ → ℕ)
shown s [] = []
shown s (c ∷ cs) = if accepts s c then at_event (event c) (shows s c) (shown (step s c) cs) else shown (step s c) cs

-- what is seen of the sensor at each event: whether it holds the data pin low after it, and what its engine asks for
abbrev pub sees : Bma150 → Call → Seen
sees s c = record { low = i2c_holds (step s c).sensor; deed = deed (target_of s.sensor) (event c) }

-- over a list of calls: an entry for each event of an accepted one
unfoldable pub seen_of : Bma150 → List Call → List Seen
seen_of s [] = []
seen_of s (c ∷ cs) = if accepts s c then at_event (event c) (sees s c) (seen_of (step s c) cs) else seen_of (step s c) cs
