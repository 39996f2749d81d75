-- SPI as the edges of a list of calls have it, and what the selected sensor does on it.
use Rattle.std.specs.Prelude.{ℕ, ◌≡◌, Bool, true, false, not, ◌||◌, List, [], ◌∷◌, ltb, if◌then◌else◌, Option, Some, None}
use Rattle.time.specs.declared.Time.{Time}
use Rattle.spi.specs.declared.types.Drive.{Drive}
use Rattle.spi.specs.Frame as F
use Rattle.spi.specs.Lines.{Event, Rise, Fall, Now, past_end, samples, deeds, Seen}
use Rattle.calls.specs.declared.types.Timed.{Timed}
use Rattle.calls.specs.declared.types.Call.{Call}
use Rattle.writes.specs.Write.{write_kind}
use Rattle.sensor.specs.declared.types.Sensor.{Sensor}
use Rattle.sensor.specs.Record.{is_off, four_wire}
use Rattle.sensor.specs.RegisterReads.{prepare_read}
use Rattle.samples.specs.Samples.{sync_local_until}
use Rattle.serial.specs.SpiEdges.{first_bit_taken, fall_synced}
use Rattle.serial.specs.Outputs as Outputs
use Rattle.bma150.specs.declared.host.Bma150.{Bma150}
use Rattle.bma150.specs.Called.{Acts, acts}
use Rattle.book.specs.Does.{at_rise, spi_write}
use Rattle.book.specs.Lists.{accepts, step}
use Rattle.bus.specs.I2c.{sampled, is_reset, some_accepted}

-- ---- a selected sensor that hears SPI: with supply, its pins not dead, not quiet after a soft reset
pub record Chosen (s : Sensor) : Type 0 where
  pub on : is_off s ≡ false
  pub ready : s.deadlines.serial_ready ≡ None
  pub loud : s.deadlines.quiet ≡ None
  pub selected : s.frame.selected ≡ true

-- ---- events: the edges of the clock

-- the edge of a timed call
unfoldable pub timed_edge : Timed → Option Event
timed_edge (Timed.Rising mosi) = Some (Rise mosi)
timed_edge Timed.Falling = Some Fall
timed_edge _ = None

-- the edge of a call, if it has one
abbrev pub act_edge : Acts → Option Event
act_edge (Acts.timed now t) = timed_edge t
act_edge _ = None

unfoldable pub edge_of : Call → Option Event
edge_of c = act_edge (acts c)

-- an entry before others
unfoldable pub and_some : {A : Type 0} → Option A → List A → List A
and_some None l = l
and_some (Some a) l = a ∷ l

-- the edges of accepted calls
unfoldable pub edges : List Call → List Event
edges [] = []
edges (c ∷ cs) = and_some (edge_of c) (edges cs)

-- ---- the sensor at an edge

-- the sensor that meets a fall; a rise is met by `at_rise`
abbrev pub at_fall : Sensor → (now : Time) → Sensor
at_fall s now = fall_synced (sync_local_until s now false) now

-- after a read began, which comes first; at the turnaround's rise none begins
unfoldable pub after_read_began : Sensor → Sensor
after_read_began m = if m.frame.turnaround then m else first_bit_taken (F.first_bit m.frame.serial m.frame.rx_bits) m

-- the byte that a register shows to a fetch: none where it is withheld
abbrev pub sends : Sensor → ℕ → Option ℕ
sends s r = (prepare_read s r).sent

-- at a rise: the wire mode that its bit meets, the one after the call, and what the registers show after a read began
abbrev pub now_at_rise : Bma150 → (now : Time) (c : Call) → Now
now_at_rise s now c =
    let m = after_read_began (at_rise s.sensor now) in
    record { four_wire = four_wire m; four_wire_then = four_wire (step s c).sensor; shows = sends m }

-- at a fall
abbrev pub now_at_fall : Bma150 → (now : Time) → Now
now_at_fall s now =
    let m = at_fall s.sensor now in
    record { four_wire = four_wire m; four_wire_then = four_wire m; shows = sends m }

-- at a timed call; of no account where there is no edge
unfoldable pub timed_now : Bma150 → (now : Time) → Timed → Now
timed_now s now (Timed.Rising mosi) = now_at_rise s now (Call.At now (Timed.Rising mosi))
timed_now s now Timed.Falling = now_at_fall s now
timed_now s now _ = past_end

-- at a call
abbrev pub act_now : Bma150 → Acts → Now
act_now s (Acts.timed now t) = timed_now s now t
act_now s _ = past_end

unfoldable pub now_of : Bma150 → Call → Now
now_of s c = act_now s (acts c)

-- ---- what ends hearing: select 0, a supply below 2400 mV, and the write of a soft reset

-- a register write that is a soft reset
unfoldable pub write_resets : Sensor → Option (ℕ × ℕ) → Bool
write_resets s None = false
write_resets s (Some (r, v)) = is_reset (write_kind s r v)

-- a timed call ends hearing; a rise by the write that it makes
unfoldable pub timed_leaves : Sensor → (now : Time) → Timed → Bool
timed_leaves s now (Timed.Supply rail) = ltb rail 2400
timed_leaves s now (Timed.Rising mosi) = write_resets (after_read_began (at_rise s now)) (spi_write (at_rise s now) mosi)
timed_leaves s now _ = false

-- a call does
abbrev pub act_leaves : Sensor → Acts → Bool
act_leaves s (Acts.timed now t) = timed_leaves s now t
act_leaves s (Acts.select on) = not on
act_leaves s (Acts.keeps f) = false

unfoldable pub leaves_frame : Bma150 → Call → Bool
leaves_frame s c = act_leaves s.sensor (acts c)

-- an accepted call of the list does
abbrev pub left_frame : Bma150 → List Call → Bool
left_frame s cs = some_accepted leaves_frame s cs

-- ---- sleep, which releases the driver

-- the sensor sleeps before a timed call's effect, or with the sample of its moment
abbrev pub act_sleeps : Sensor → Acts → Bool
act_sleeps s (Acts.timed now t) = (sync_local_until s now false).sampling.asleep || (sampled s now).sampling.asleep
act_sleeps s _ = false

-- or after the call
unfoldable pub sleeps_at : Bma150 → Call → Bool
sleeps_at s c = act_sleeps s.sensor (acts c) || (step s c).sensor.sampling.asleep

-- at an accepted call of the list
abbrev pub sleeps : Bma150 → List Call → Bool
sleeps s cs = some_accepted sleeps_at s cs

-- ---- what is seen

-- the pin of SPI: the four-wire output, or the data pin in three-wire mode
unfoldable pub spi_pin : Sensor → Drive
spi_pin s = if four_wire s then Outputs.output s else Outputs.data_output s

-- at an edge: the pin after it, whether a sample of the moment comes first, and what is done
abbrev pub sees_edge : Bma150 → Call → Event → Seen
sees_edge s c e = record { driven = spi_pin (step s c).sensor; sampled = samples (now_of s c) s.sensor.frame e; deeds = deeds (now_of s c) s.sensor.frame e }

-- if there is an edge
unfoldable pub seen_edge : Bma150 → Call → Option Event → Option Seen
seen_edge s c None = None
seen_edge s c (Some e) = Some (sees_edge s c e)

-- the sensor at the edge, if there is one
unfoldable pub now_edge : Bma150 → Call → Option Event → Option Now
now_edge s c None = None
now_edge s c (Some e) = Some (now_of s c)

-- over a list of calls: an entry for each edge of an accepted one
unfoldable pub seen_edges : Bma150 → List Call → List Seen
seen_edges s [] = []
seen_edges s (c ∷ cs) = if accepts s c then and_some (seen_edge s c (edge_of c)) (seen_edges (step s c) cs) else seen_edges (step s c) cs

-- the sensor at each edge
unfoldable pub nows : Bma150 → List Call → List Now
nows s [] = []
nows s (c ∷ cs) = if accepts s c then and_some (now_edge s c (edge_of c)) (nows (step s c) cs) else nows (step s c) cs
