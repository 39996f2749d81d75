-- What a selected sensor does at each edge of the clock, with its wire mode and what its registers show at that edge.
use Rattle.std.specs.Prelude.{ℕ, Bool, true, List, [], ◌∷◌, ◌++◌, get_or, drop, if◌then◌else◌, Option, Some, None}
use Rattle.spi.specs.declared.types.Drive.{Drive}
use Rattle.spi.specs.declared.types.Clocked.TheVariants as C
use Rattle.spi.specs.declared.types.Frame.{Frame}
use Rattle.spi.specs.declared.types.Taken.{Taken}
use Rattle.spi.specs.declared.types.Shift.{Shift}
use Rattle.spi.specs.declared.types.Shift.TheVariants as H
use Rattle.spi.specs.Frame.{first_bit, take_bit, shifts, turned, shifted, consumes_at_rise, consumes_at_fall}

-- ---- what happens on the lines

-- an edge of the clock: a rise with the level of the data line, or a fall (the sensor is selected throughout)
pub data Event : Type 0 where
  Rise : Bool → Event
  Fall : Event

-- what the sensor does: it writes a value at a register, fetches a register's byte to send it, or takes the read of a register as begun
pub data Deed : Type 0 where
  Wrote : ℕ → ℕ → Deed
  Fetched : ℕ → Deed
  ReadBegan : ℕ → Deed

-- the sensor at an event: the wire mode that the event meets, the one after the event's write, and the byte that a register shows to a fetch (nothing where it is withheld)
pub record Now : Type 0 where
  pub four_wire : Bool
  pub four_wire_then : Bool
  pub shows : ℕ → Option ℕ

-- ---- the frame after an event

-- the output moves: it fetches a byte first, or goes on with the byte being sent
unfoldable pub output : (shows : ℕ → Option ℕ) → Frame → Shift → Frame
output shows f H.Stay = f
output shows f (H.Fetch a) = shifted f (shows a)
output shows f H.Next = shifted f f.tx

-- how the output moves at the turnaround's rise, at another rise once its bit is taken, and at a fall
abbrev pub turnaround_shift : Now → Frame → Shift
turnaround_shift n f = shifts (turned f) C.Turnaround n.four_wire

abbrev pub rise_shift : Now → Taken → Shift
rise_shift n t = shifts t.frame C.Rise n.four_wire_then

abbrev pub fall_shift : Now → Frame → Shift
fall_shift n f = shifts f C.Fall n.four_wire

-- the frame after a rise outside a turnaround
abbrev pub bit_served : Now → Taken → Frame
bit_served n t = output n.shows t.frame (rise_shift n t)

-- the frame after an event
unfoldable pub serve : Now → Frame → Event → Frame
serve n f (Rise mosi) =
    if f.turnaround then output n.shows (turned f) (turnaround_shift n f) else bit_served n (take_bit f mosi n.four_wire)
serve n f Fall = output n.shows f (fall_shift n f)

-- ---- what is done at an event

-- a read that begins, as a deed
unfoldable pub read_deeds : Option ℕ → List Deed
read_deeds None = []
read_deeds (Some a) = ReadBegan a ∷ []

-- the write of a completed frame as a deed
unfoldable pub wrote : Option (ℕ × ℕ) → List Deed
wrote None = []
wrote (Some (a, x)) = Wrote a x ∷ []

-- the fetch of a byte as a deed
unfoldable pub fetched : Shift → List Deed
fetched H.Stay = []
fetched (H.Fetch a) = Fetched a ∷ []
fetched H.Next = []

-- what a rise outside a turnaround does: a read begins, a write, a fetch
abbrev pub bit_deeds : Now → Option ℕ → Taken → List Deed
bit_deeds n k t = read_deeds k ++ (wrote t.write ++ fetched (rise_shift n t))

-- what an event does, in order
unfoldable pub deeds : Now → Frame → Event → List Deed
deeds n f (Rise mosi) =
    if f.turnaround then fetched (turnaround_shift n f) else bit_deeds n (first_bit f.serial f.rx_bits) (take_bit f mosi n.four_wire)
deeds n f Fall = fetched (fall_shift n f)

-- ---- what is seen of it

-- whether a sample of the same moment comes before an event
unfoldable pub samples : Now → Frame → Event → Bool
samples n f (Rise mosi) = consumes_at_rise f
samples n f Fall = consumes_at_fall f n.four_wire

-- what is seen at an event: how the pin is driven from then on, whether a sample of the same moment came first, and what was done
pub record Seen : Type 0 where
  pub driven : Drive
  pub sampled : Bool
  pub deeds : List Deed

-- what is seen of a frame at an event
abbrev pub seen_at : Now → Frame → Event → Seen
seen_at n f e = record { driven = (serve n f e).driven; sampled = samples n f e; deeds = deeds n f e }

-- ---- a list of events, each with the sensor as it is then

-- past the end of the list: four-wire, with each register withheld
abbrev pub past_end : Now
past_end = record { four_wire = true; four_wire_then = true; shows = λ a. None }

-- the sensor at the first event of a list
abbrev pub now : List Now → Now
now ns = get_or ns 0 past_end

-- the byte that a register then shows to a fetch
abbrev pub shown : List Now → (register : ℕ) → Option ℕ
shown ns a = (now ns).shows a

-- the frame that the events leave
unfoldable pub left : Frame → List Event → List Now → Frame
left f [] ns = f
left f (e ∷ es) ns = left (serve (now ns) f e) es (drop 1 ns)

-- what is seen, event by event
unfoldable pub seen : Frame → List Event → List Now → List Seen
seen f [] ns = []
seen f (e ∷ es) ns = seen_at (now ns) f e ∷ seen (serve (now ns) f e) es (drop 1 ns)
