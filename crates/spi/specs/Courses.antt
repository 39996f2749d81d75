-- Frames as courses of edges of the clock.
use Rattle.std.specs.Prelude.{ℕ, ◌+◌, ◌<◌, ◌≡◌, Bool, List, [], ◌∷◌, ◌++◌, drop}
use Rattle.laws.specs.Notation.{Byte}
use Rattle.laws.specs.Bytes.{sent_bit, seven_bits}
use Rattle.spi.specs.Lines.{Event, Rise, Fall, Now, now}

-- ---- bytes of the master's

-- bits clocked in, each taken at a rise and followed by a fall
unfoldable pub clocked : List Bool → List Event
clocked [] = []
clocked (d ∷ ds) = Rise d ∷ Fall ∷ clocked ds

-- a byte up to its eighth rise, most significant bit first
abbrev pub eight_rises : Byte → List Event
eight_rises b = clocked (seven_bits b) ++ (Rise (sent_bit b 7) ∷ [])

-- a byte with its eighth fall
abbrev pub byte_frame : Byte → List Event
byte_frame b = eight_rises b ++ (Fall ∷ [])

-- ---- writes

-- a write frame: an address byte and a value byte, up to the sixteenth rise
abbrev pub write_frame : (register value : ℕ) → List Event
write_frame a x = byte_frame a ++ eight_rises x

-- a register and the value to be written at it
pub record Pair : Type 0 where
  pub register : ℕ
  pub value : ℕ

-- the registers have seven bits and the values eight
abbrev pub Fit : List Pair → Type 0
Fit [] = Unit {0}
Fit (p ∷ ps) = (p.register < 128) × (p.value < 256) × Fit ps

-- write frames in a row without a deselect, each after a fall
unfoldable pub write_frames : List Pair → List Event
write_frames [] = []
write_frames (p ∷ ps) = (Fall ∷ write_frame p.register p.value) ++ write_frames ps

-- ---- reads

-- the data line at the eight rises of a byte that is read
pub record Levels8 : Type 0 where
  pub 0 : Bool
  pub 1 : Bool
  pub 2 : Bool
  pub 3 : Bool
  pub 4 : Bool
  pub 5 : Bool
  pub 6 : Bool
  pub 7 : Bool

-- the eight clocks of a byte that is read from their first rise on
abbrev pub read_rises : Levels8 → List Event
read_rises o = Rise o.0 ∷ Fall ∷ Rise o.1 ∷ Fall ∷ Rise o.2 ∷ Fall ∷ Rise o.3 ∷ Fall ∷ Rise o.4 ∷ Fall ∷ Rise o.5 ∷ Fall ∷ Rise o.6 ∷ Fall ∷ Rise o.7 ∷ []

-- the eight clocks of a byte that is read, each a fall and a rise
abbrev pub read_byte : Levels8 → List Event
read_byte o = Fall ∷ read_rises o

-- any number of bytes that are read
unfoldable pub read_bytes : List Levels8 → List Event
read_bytes [] = []
read_bytes (o ∷ os) = read_byte o ++ read_bytes os

-- a read frame in four-wire mode: an address byte with bit 7 set, and bytes
abbrev pub four_wire_read : (register : ℕ) → List Levels8 → List Event
four_wire_read a os = eight_rises (128 + a) ++ read_bytes os

-- the turnaround's clock
abbrev pub turnaround_clock : (level : Bool) → List Event
turnaround_clock level = Fall ∷ Rise level ∷ []

-- a read frame in three-wire mode: a turnaround stands between the address byte and the bytes
abbrev pub three_wire_read : (register : ℕ) (level : Bool) → List Levels8 → List Event
three_wire_read a level os = eight_rises (128 + a) ++ (turnaround_clock level ++ read_bytes os)

-- ---- the wire mode on the way

-- the wire mode by which the output moves at an event: at a rise the one after its write, at a fall the one that it meets
abbrev pub output_mode : Now → Event → Bool
output_mode n (Rise d) = n.four_wire_then
output_mode n Fall = n.four_wire

-- it is this one at each of the events
abbrev pub Keeps : (four_wire : Bool) → List Event → List Now → Type 0
Keeps w [] ns = Unit {0}
Keeps w (e ∷ es) ns = (output_mode (now ns) e ≡ w) × Keeps w es (drop 1 ns)
