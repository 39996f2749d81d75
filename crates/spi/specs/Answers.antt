-- What is seen of the sensor in each part of a frame, event by event.
use Rattle.std.specs.Prelude.{ℕ, ◌+◌, ◌%◌, Bool, true, false, List, [], ◌∷◌, ◌++◌, drop, replicate, if◌then◌else◌, Option, Some, None}
use Rattle.laws.specs.Bytes.{bit}
use Rattle.spi.specs.declared.types.Serial.TheVariants as S
use Rattle.spi.specs.declared.types.Drive.{Drive}
use Rattle.spi.specs.declared.types.Drive.TheVariants as D
use Rattle.spi.specs.declared.types.Frame.{Frame}
use Rattle.spi.specs.Lines.{Deed, Wrote, Fetched, ReadBegan, Now, Seen, shown}
use Rattle.spi.specs.Courses.{Pair, Levels8}

-- ---- bytes of the master's

-- the pin floats, no sample is taken for it, and nothing is done
abbrev pub floats : Seen
floats = record { driven = D.Floating; sampled = false; deeds = [] }

-- the pin floats, and after a sample of the same moment this is done
abbrev pub floats_and : List Deed → Seen
floats_and ds = record { driven = D.Floating; sampled = true; deeds = ds }

-- a byte of the master's up to its eighth rise, at which this is done
abbrev pub taken_answer : List Deed → List Seen
taken_answer ds = replicate 14 floats ++ (floats_and ds ∷ [])

-- an address byte: nothing is done
abbrev pub address_answer : List Seen
address_answer = taken_answer []

-- a write frame: one write, at the sixteenth rise
abbrev pub write_answer : (register value : ℕ) → List Seen
write_answer a x = (address_answer ++ (floats ∷ [])) ++ taken_answer (Wrote a x ∷ [])

-- write frames in a row: one write each
unfoldable pub writes_answer : List Pair → List Seen
writes_answer [] = []
writes_answer (p ∷ ps) = (floats ∷ write_answer p.register p.value) ++ writes_answer ps

-- ---- bytes of the sensor's

-- how the pin is driven for a bit of a byte, bit 7 the most significant: high for a 1 and low for a 0; a withheld byte floats
unfoldable pub drive_for : Option ℕ → (bit : ℕ) → Drive
drive_for None k = D.Floating
drive_for (Some b) k = if bit b k then D.High else D.Low

-- a bit is on the pin, and nothing is done
abbrev pub shows_bit : Option ℕ → (bit : ℕ) → Seen
shows_bit t k = record { driven = drive_for t k; sampled = false; deeds = [] }

-- a bit is on the pin, and after a sample of the same moment this is done
abbrev pub shows_bit_and : Option ℕ → (bit : ℕ) → List Deed → Seen
shows_bit_and t k ds = record { driven = drive_for t k; sampled = true; deeds = ds }

-- the next register, modulo 128
abbrev pub next_register : ℕ → ℕ
next_register a = (a + 1) % 128

-- the register after bytes that were read
unfoldable pub register_after : (register : ℕ) → List Levels8 → ℕ
register_after a [] = a
register_after a (o ∷ os) = register_after (next_register a) os

-- ---- four-wire reads

-- a byte from its first rise on, at which the read begins: each fall shows the next bit
abbrev pub four_wire_rises : (register : ℕ) → Option ℕ → List Seen
four_wire_rises a t =
    shows_bit_and t 7 (ReadBegan a ∷ []) ∷ shows_bit t 6 ∷ shows_bit t 6 ∷ shows_bit t 5 ∷ shows_bit t 5 ∷ shows_bit t 4 ∷ shows_bit t 4
    ∷ shows_bit t 3 ∷ shows_bit t 3 ∷ shows_bit t 2 ∷ shows_bit t 2 ∷ shows_bit t 1 ∷ shows_bit t 1 ∷ shows_bit t 0 ∷ shows_bit_and t 0 [] ∷ []

-- a byte: the fall before its first rise fetches it and shows its first bit
abbrev pub four_wire_byte : (register : ℕ) → Option ℕ → List Seen
four_wire_byte a t = shows_bit_and t 7 (Fetched a ∷ []) ∷ four_wire_rises a t

-- bytes from a register on, each the one that its register shows at the fall that fetches it
unfoldable pub four_wire_bytes : (register : ℕ) → List Levels8 → List Now → List Seen
four_wire_bytes a [] ns = []
four_wire_bytes a (o ∷ os) ns = four_wire_byte a (shown ns a) ++ four_wire_bytes (next_register a) os (drop 16 ns)

-- how the pin is driven after them: the last bit of the last byte
unfoldable pub drive_after : Drive → (register : ℕ) → List Levels8 → List Now → Drive
drive_after d a [] ns = d
drive_after d a (o ∷ os) ns = drive_after (drive_for (shown ns a) 0) (next_register a) os (drop 16 ns)

-- a read frame
abbrev pub four_wire_answer : (register : ℕ) → List Levels8 → List Now → List Seen
four_wire_answer a os ns = address_answer ++ four_wire_bytes a os (drop 15 ns)

-- ---- three-wire reads

-- the turnaround's fall moves nothing; its rise fetches the first byte and shows its first bit
abbrev pub turnaround_answer : (register : ℕ) → Option ℕ → List Seen
turnaround_answer a t = floats ∷ shows_bit_and t 7 (Fetched a ∷ []) ∷ []

-- a byte up to its eighth fall: at its first rise the read begins, and each rise shows the next bit
abbrev pub three_wire_bits : (register : ℕ) → Option ℕ → List Seen
three_wire_bits a t =
    shows_bit t 7 ∷ shows_bit_and t 6 (ReadBegan a ∷ []) ∷ shows_bit t 6 ∷ shows_bit t 5 ∷ shows_bit t 5 ∷ shows_bit t 4 ∷ shows_bit t 4
    ∷ shows_bit t 3 ∷ shows_bit t 3 ∷ shows_bit t 2 ∷ shows_bit t 2 ∷ shows_bit t 1 ∷ shows_bit t 1 ∷ shows_bit t 0 ∷ shows_bit t 0 ∷ []

-- a byte: its eighth rise fetches the next one and shows its first bit
abbrev pub three_wire_byte : (register : ℕ) → Option ℕ → (next : Option ℕ) → List Seen
three_wire_byte a t next = three_wire_bits a t ++ (shows_bit_and next 7 (Fetched (next_register a) ∷ []) ∷ [])

-- the byte that the eighth rise of a byte fetches: the one that the next register then shows
abbrev pub next_byte_shown : (register : ℕ) → List Now → Option ℕ
next_byte_shown a ns = shown (drop 15 ns) (next_register a)

-- bytes from a register on, the first of them fetched before
unfoldable pub three_wire_bytes : (register : ℕ) → Option ℕ → List Levels8 → List Now → List Seen
three_wire_bytes a t [] ns = []
three_wire_bytes a t (o ∷ os) ns = three_wire_byte a t (next_byte_shown a ns) ++ three_wire_bytes (next_register a) (next_byte_shown a ns) os (drop 16 ns)

-- the byte on the pin after them
unfoldable pub sent_after : (register : ℕ) → Option ℕ → List Levels8 → List Now → Option ℕ
sent_after a t [] ns = t
sent_after a t (o ∷ os) ns = sent_after (next_register a) (next_byte_shown a ns) os (drop 16 ns)

-- a read frame: the turnaround's rise is its seventeenth event
abbrev pub three_wire_answer : (register : ℕ) → List Levels8 → List Now → List Seen
three_wire_answer a os ns =
    address_answer ++ (turnaround_answer a (shown (drop 16 ns) a) ++ three_wire_bytes a (shown (drop 16 ns) a) os (drop 17 ns))

-- ---- frames on the way

-- the byte of a register is to be fetched next, in three-wire mode after a turnaround
abbrev pub to_read : (register : ℕ) → Drive → (turnaround : Bool) → Frame
to_read a d turnaround = record { serial = S.Read a; selected = true; rx = 0; rx_bits = 0; tx = None; tx_bit = 0; driven = d; turnaround = turnaround }

-- the first bit of a register's byte is on the pin, and none of its rises came
abbrev pub first_shown : (register : ℕ) → Option ℕ → Frame
first_shown a t = record { serial = S.Read a; selected = true; rx = 0; rx_bits = 0; tx = t; tx_bit = 1; driven = drive_for t 7; turnaround = false }
