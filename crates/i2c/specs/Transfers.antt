-- Transfers as courses of events on the two lines, in UM10204's words.
use Rattle.std.specs.Prelude.{ℕ, ◌<◌, Bool, true, false, ◌||◌, List, [], ◌∷◌, ◌++◌}
use Rattle.laws.specs.Notation.{Byte}
use Rattle.laws.specs.Bytes.{sent_bit, seven_bits}
use Rattle.i2c.specs.Bus.{is_start}
use Rattle.i2c.specs.declared.types.Edge.{Edge}
use Rattle.i2c.specs.declared.types.Edge.TheVariants.{Still, Start, Stop, Rise, Fall}

-- ---- events

-- an event before others; a report without an event is none
unfoldable pub and_edge : Edge → List Edge → List Edge
and_edge Still es = es
and_edge Start es = Start ∷ es
and_edge Stop es = Stop ∷ es
and_edge (Rise d) es = Rise d ∷ es
and_edge Fall es = Fall ∷ es

-- ---- bytes

-- bits clocked, each taken at a rise and followed by a fall (UM10204 3.1.3)
unfoldable pub clocked : List Bool → List Edge
clocked [] = []
clocked (d ∷ ds) = Rise d ∷ Fall ∷ clocked ds

-- a byte of the master's up to its eighth rise, most significant bit first (UM10204 3.1.5)
abbrev pub eight_rises : Byte → List Edge
eight_rises b = clocked (seven_bits b) ++ (Rise (sent_bit b 7) ∷ [])

-- the eighth fall and the ninth clock (UM10204 3.1.6), whatever the level of the data line
abbrev pub ninth_clock : (level : Bool) → List Edge
ninth_clock level = Fall ∷ Rise level ∷ Fall ∷ []

-- a byte of the master's with its ninth clock
abbrev pub byte_frame : Byte → (level : Bool) → List Edge
byte_frame b level = eight_rises b ++ ninth_clock level

-- START and an address byte (UM10204 3.1.4 and 3.1.10), up to its eighth rise
abbrev pub address_frame : Byte → List Edge
address_frame b = Start ∷ Fall ∷ eight_rises b

-- the clock rises with the data high, and the data falls: a repeated START (UM10204 3.1.10) is this and START
abbrev pub again : List Edge
again = Rise true ∷ []

-- the clock rises with the data low, and the data rises (UM10204 3.1.4)
abbrev pub stop : List Edge
stop = Rise false ∷ Stop ∷ []

-- a byte broken off by STOP before its eighth rise
abbrev pub broken : List Bool → List Edge
broken ds = clocked ds ++ stop

-- nine clocks with the data line high: bus clear (UM10204 3.1.16)
abbrev pub nine_clocks : List Edge
nine_clocks = clocked (true ∷ true ∷ true ∷ true ∷ true ∷ true ∷ true ∷ true ∷ true ∷ [])

-- START is among these events
unfoldable pub starts : List Edge → Bool
starts [] = false
starts (e ∷ es) = is_start e || starts es

-- ---- a write: START, 70 hex, and pairs of register and value (01), each byte with its ninth clock

-- the bytes, and the data line in their ninth clocks
pub record Pair : Type 0 where
  pub register : ℕ
  pub value : ℕ
  pub register_level : Bool
  pub value_level : Bool

-- they are bytes
abbrev pub Bytes : List Pair → Type 0
Bytes [] = Unit {0}
Bytes (p ∷ ps) = (p.register < 256) × (p.value < 256) × Bytes ps

-- pairs, one after the other
unfoldable pub pairs : List Pair → List Edge
pairs [] = []
pairs (p ∷ ps) = byte_frame p.register p.register_level ++ byte_frame p.value p.value_level ++ pairs ps

-- the address with its ninth clock, and the pairs
abbrev pub write_transfer : (level : Bool) → List Pair → List Edge
write_transfer level ps = (address_frame 0x70 ++ ninth_clock level) ++ pairs ps

-- ---- a read: START, 71 hex, and bytes of the sensor's; the master acknowledges each but the last with a low data line (UM10204 3.1.6)

-- the data line at the eight rises of a byte that is read
pub record Levels8 : Type 0 where
  pub 0 : Bool
  pub 1 : Bool
  pub 2 : Bool
  pub 3 : Bool
  pub 4 : Bool
  pub 5 : Bool
  pub 6 : Bool
  pub 7 : Bool

-- the fall that ends the ninth clock before, eight clocks, and the ninth rise with the master's answer
abbrev pub read_byte : Levels8 → (answer : Bool) → List Edge
read_byte o answer = Fall ∷ Rise o.0 ∷ Fall ∷ Rise o.1 ∷ Fall ∷ Rise o.2 ∷ Fall ∷ Rise o.3 ∷ Fall ∷ Rise o.4 ∷ Fall ∷ Rise o.5 ∷ Fall ∷ Rise o.6 ∷ Fall ∷ Rise o.7 ∷ Fall ∷ Rise answer ∷ []

-- bytes that the master acknowledges
unfoldable pub acknowledged : List Levels8 → List Edge
acknowledged [] = []
acknowledged (o ∷ os) = read_byte o false ++ acknowledged os

-- up to the ninth rise of the address
abbrev pub read_address : (level : Bool) → List Edge
read_address level = address_frame 0x71 ++ (Fall ∷ Rise level ∷ [])

-- the last byte is not acknowledged, and its ninth clock falls
abbrev pub read_transfer : (level : Bool) → List Levels8 → (last : Levels8) → List Edge
read_transfer level os last = read_address level ++ acknowledged os ++ (read_byte last true ++ (Fall ∷ []))

-- ---- combined (UM10204 3.1.10): a register byte is written, and after a repeated START bytes are read from it on
abbrev pub combined : (register : Byte) (a b c : Bool) → List Levels8 → (last : Levels8) → List Edge
combined register a b c os last = (address_frame 0x70 ++ ninth_clock a) ++ (byte_frame register b ++ (again ++ read_transfer c os last))
