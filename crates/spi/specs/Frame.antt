-- The SPI frame: address byte with the read bit, then one value, or bytes that move on.
use Rattle.std.specs.Prelude.{ℕ, ◌+◌, ◌%◌, Bool, true, false, not, ◌&&◌, ◌||◌, leb, ltb, eqb, if◌then◌else◌, Option, Some, None}
use Rattle.laws.specs.Notation.{Byte}
use Rattle.laws.specs.Bytes.{sent_bit, shifted_in}
use Rattle.spi.specs.declared.types.Serial.{Serial}
use Rattle.spi.specs.declared.types.Serial.TheVariants as S
use Rattle.spi.specs.declared.types.Drive.{Drive}
use Rattle.spi.specs.declared.types.Drive.TheVariants as D
use Rattle.spi.specs.declared.types.Clocked.{Clocked}
use Rattle.spi.specs.declared.types.Clocked.TheVariants as C
use Rattle.spi.specs.declared.types.Frame.{Frame}
use Rattle.spi.specs.declared.types.Taken.{Taken}
use Rattle.spi.specs.declared.types.Shift.{Shift}
use Rattle.spi.specs.declared.types.Shift.TheVariants as H

-- ---- selecting

-- a frame before its first bit: an address byte comes, nothing is sent
abbrev pub fresh : (selected : Bool) → Frame
fresh selected = record { serial = S.Address; selected = selected; rx = 0; rx_bits = 0; tx = None; tx_bit = 8; driven = D.Floating; turnaround = false }

-- a change of the select pin drops the frame; without one nothing happens (`set_selected`)
unfoldable pub differs : (was selected : Bool) → Bool
differs was selected = if was then not selected else selected

abbrev pub changes : Frame → (selected : Bool) → Bool
changes f selected = differs f.selected selected

unfoldable pub select : Frame → (selected : Bool) → Frame
select f selected = if changes f selected then fresh selected else f

-- ---- a rise takes a bit

-- the register being read
unfoldable pub reads : Serial → Bool
reads S.Address = false
reads (S.Read a) = true
reads (S.Write a) = false

-- at the first bit of a byte that is read the read begins (`acknowledge_read`)
unfoldable pub first_bit : Serial → (bits : ℕ) → Option ℕ
first_bit S.Address bits = None
first_bit (S.Read a) bits = if eqb bits 0 then Some a else None
first_bit (S.Write a) bits = None

-- one of the first seven bits of a byte
abbrev pub bit_taken : Frame → (mosi : Bool) → Frame
bit_taken f mosi = record f { rx = shifted_in f.rx mosi; rx_bits = f.rx_bits + 1 }

-- a byte is complete: the next one is that of `serial`
abbrev pub next_byte : Frame → (serial : Serial) → Frame
next_byte f serial = record f { serial = serial; rx = 0; rx_bits = 0 }

-- a register's byte is to be sent next, in three-wire mode after a turnaround
abbrev pub next_read : Frame → (a : ℕ) (turnaround : Bool) → Frame
next_read f a turnaround = record f { serial = S.Read a; rx = 0; rx_bits = 0; tx = None; tx_bit = 0; turnaround = turnaround }

-- an address byte: bit 7 set reads, else writes; bits 6 to 0 are the register
unfoldable pub addressed : Frame → (byte : Byte) (four_wire : Bool) → Frame
addressed f byte four_wire = if ltb byte 128 then next_byte f (S.Write byte) else next_read f (byte % 128) (not four_wire)

-- the eighth bit: a write is done with its value byte, a read moves on modulo 128
unfoldable pub completed : Serial → Frame → (byte : Byte) (four_wire : Bool) → Taken
completed S.Address f byte four_wire = record { frame = addressed f byte four_wire; write = None }
completed (S.Read a) f byte four_wire = record { frame = next_read f ((a + 1) % 128) f.turnaround; write = None }
completed (S.Write a) f byte four_wire = record { frame = next_byte f S.Address; write = Some (a, byte) }

unfoldable pub take_bit : Frame → (mosi four_wire : Bool) → Taken
take_bit f mosi four_wire =
    if ltb f.rx_bits 7 then record { frame = bit_taken f mosi; write = None } else completed f.serial f (shifted_in f.rx mosi) four_wire

-- ---- the output

-- when the output moves: in three-wire mode at a rise outside a turnaround, and at the turnaround's own; in four-wire mode at a fall
unfoldable pub moves : Clocked → (four_wire turnaround : Bool) → Bool
moves C.Rise four_wire turnaround = not four_wire && not turnaround
moves C.Turnaround four_wire turnaround = true
moves C.Fall four_wire turnaround = four_wire

-- before the first bit of a byte that is read its register is fetched
unfoldable pub fetches : Serial → ℕ → Shift
fetches S.Address n = H.Next
fetches (S.Read a) n = if eqb n 0 then H.Fetch a else H.Next
fetches (S.Write a) n = H.Next

unfoldable pub shifts : Frame → (at : Clocked) (four_wire : Bool) → Shift
shifts f at four_wire = if moves at four_wire f.turnaround then fetches f.serial f.tx_bit else H.Stay

-- the turnaround is over
abbrev pub turned : Frame → Frame
turned f = record f { turnaround = false }

-- the pin shows the n-th bit of the byte being sent, most significant first, while selected
unfoldable pub bit_drive : ℕ → ℕ → Drive
bit_drive b n = if sent_bit b n then D.High else D.Low

unfoldable pub level : Option ℕ → (selected : Bool) (n : ℕ) → Drive
level None selected n = D.Floating
level (Some b) selected n = if selected && ltb n 8 then bit_drive b n else D.Floating

-- the place of the next bit, 8 past the last
unfoldable pub next_bit : ℕ → ℕ
next_bit n = if ltb n 8 then n + 1 else 8

-- the driver is released (also by `pause`)
abbrev pub released : Frame → Frame
released f = record f { driven = D.Floating }

-- the next bit of a byte is driven
abbrev pub showing : Frame → (tx : Option ℕ) → Frame
showing f tx = record f { tx = tx; tx_bit = next_bit f.tx_bit; driven = level tx f.selected f.tx_bit }

-- the output moves on, with the byte now being sent (`shift_output`); outside a read it floats
unfoldable pub moved : Serial → Frame → (tx : Option ℕ) → Frame
moved S.Address f tx = released f
moved (S.Read a) f tx = showing f tx
moved (S.Write a) f tx = released f

abbrev pub shifted : Frame → (tx : Option ℕ) → Frame
shifted f tx = moved f.serial f tx

-- the byte being sent is another, or none (I2C shares it)
abbrev pub sending : Frame → (tx : Option ℕ) → Frame
sending f tx = record f { tx = tx }

-- ---- which edges use converted values (a sample at the same moment comes first)

-- a rise: the turnaround's, the last of a byte, the first of a byte that is read
unfoldable pub consumes_at_rise : Frame → Bool
consumes_at_rise f = f.turnaround || (leb 7 f.rx_bits || (reads f.serial && eqb f.rx_bits 0))

-- a four-wire fall that fetches a byte
unfoldable pub consumes_at_fall : Frame → (four_wire : Bool) → Bool
consumes_at_fall f four_wire = four_wire && (reads f.serial && eqb f.tx_bit 0)
