-- The I2C engine: one report of the lines, in the order of UM10204.
use Rattle.std.specs.Prelude.{ℕ, ◌+◌, ◌%◌, Bool, true, false, not, ◌&&◌, ◌||◌, leb, ltb, eqb, if◌then◌else◌, Option, Some, None}
use Rattle.laws.specs.Notation.{Byte}
use Rattle.laws.specs.Bytes.{sent_bit, shifted_in}
use Rattle.i2c.specs.declared.types.Edge.{Edge}
use Rattle.i2c.specs.declared.types.Receive.{Receive}
use Rattle.i2c.specs.declared.types.Receive.TheVariants as R
use Rattle.i2c.specs.declared.types.Following.{Following}
use Rattle.i2c.specs.declared.types.Following.TheVariants as F
use Rattle.i2c.specs.declared.types.Answer.{Answer}
use Rattle.i2c.specs.declared.types.Answer.TheVariants as M
use Rattle.i2c.specs.declared.types.Phase.{Phase}
use Rattle.i2c.specs.declared.types.Phase.TheVariants as P
use Rattle.i2c.specs.declared.types.State.{State}
use Rattle.i2c.specs.declared.types.Action.{Action}
use Rattle.i2c.specs.declared.types.Action.TheVariants as A
use Rattle.i2c.specs.declared.types.Step.{Step}
use Rattle.i2c.specs.Bus.{is_condition, is_start, is_rise, is_fall, data_at}

-- ---- states

-- waiting for START: nothing is kept but the register pointer (the Rust's `abort`)
abbrev pub aborted : State → State
aborted s = record { phase = P.Idle; pointer = s.pointer; bits = 0; shift = 0; low = false }

-- the state of a sensor at its start (the Rust's `default`)
abbrev pub default : State
default = record { phase = P.Idle; pointer = 0; bits = 0; shift = 0; low = false }

abbrev pub with_phase : State → Phase → State
with_phase s p = record s { phase = p }

abbrev pub with_low : State → Phase → Bool → State
with_low s p l = record s { phase = p; low = l }

abbrev pub with_pointer : State → Phase → ℕ → State
with_pointer s p n = record s { phase = p; pointer = n }

abbrev pub and_do : State → Option Action → Step
and_do s a = record { state = s; action = a }

-- ---- START and STOP (UM10204 3.1.4): what was going on is dropped; after START an address is received, unless quiet
unfoldable pub conditioned : State → Edge → (quiet : Bool) → Step
conditioned s e quiet = and_do (if not quiet && is_start e then with_phase (aborted s) (P.Receive R.Address) else aborted s) (Some A.Drop)

-- ---- quiet: the Rust lets only an acknowledge finish
unfoldable pub acknowledging : Phase → Bool
acknowledging P.Idle = false
acknowledging (P.Receive k) = false
acknowledging (P.Acknowledge f n) = true
acknowledging (P.Read n) = false
acknowledging (P.MasterAcknowledge a) = false

-- an edge of the clock
abbrev pub clocks : Edge → Bool
clocks e = is_rise e || is_fall e

-- ---- byte (UM10204 3.1.5): eight bits, most significant first

-- the edge belongs to a bit within a byte: one of the first seven received, or one of the eight sent
unfoldable pub within_byte : Phase → (bits : ℕ) → Edge → Bool
within_byte P.Idle bits e = false
within_byte (P.Receive k) bits e = is_rise e && ltb bits 7
within_byte (P.Acknowledge f n) bits e = false
within_byte (P.Read n) bits e = clocks e && ltb n 8
within_byte (P.MasterAcknowledge a) bits e = false

-- a bit received
abbrev pub bit_received : State → Edge → Step
bit_received s e = and_do (record s { bits = s.bits + 1; shift = shifted_in s.shift (data_at e) }) None

-- the register pointer after bit n was taken: past the last bit it moves on modulo 128
unfoldable pub pointer_after : (pointer n : ℕ) → ℕ
pointer_after pointer n = if eqb n 7 then (pointer + 1) % 128 else pointer

-- the master takes bit n: at the first the read begins
unfoldable pub bit_taken : State → ℕ → Step
bit_taken s n =
    and_do (with_pointer s (P.Read (n + 1)) (pointer_after s.pointer n))
    (if eqb n 0 then Some (A.ReadBegan s.pointer) else None)

-- the pin shows bit n: held low for a 0, free for a 1
abbrev pub bit_shown : State → (n : ℕ) (sent : Byte) → Step
bit_shown s n sent = and_do (with_low s s.phase (not (sent_bit sent n))) None

unfoldable pub byte_step : Phase → State → Edge → (sent : Byte) → Step
byte_step P.Idle s e sent = and_do s None
byte_step (P.Receive k) s e sent = bit_received s e
byte_step (P.Acknowledge f n) s e sent = and_do s None
byte_step (P.Read n) s e sent = if is_rise e then bit_taken s n else bit_shown s n sent
byte_step (P.MasterAcknowledge a) s e sent = and_do s None

-- ---- acknowledge (UM10204 3.1.6): the ninth clock

-- the edge belongs to the ninth clock, the eighth fall included
unfoldable pub at_ninth : Phase → Edge → Bool
at_ninth P.Idle e = false
at_ninth (P.Receive k) e = false
at_ninth (P.Acknowledge f n) e = clocks e
at_ninth (P.Read n) e = is_fall e && leb 8 n
at_ninth (P.MasterAcknowledge a) e = clocks e

-- the sensor's acknowledge is over: what follows it
unfoldable pub followed : State → Following → Step
followed s F.Control = and_do (with_low s (P.Receive R.Control) false) None
followed s F.Data = and_do (with_low s (P.Receive R.Data) false) None
followed s F.Read = and_do (with_low s s.phase false) (Some (A.Launch s.pointer))
followed s F.Idle = and_do (with_low s P.Idle false) None

-- the sensor acknowledges: low from the eighth fall to the ninth
unfoldable pub acknowledge_step : State → Following → ℕ → Edge → Step
acknowledge_step s f n e =
    if is_rise e then and_do (with_phase s (P.Acknowledge f 2)) None
    else if eqb n 0 then and_do (with_low s (P.Acknowledge f 1) true) None
    else if eqb n 2 then followed s f else and_do s None

-- the master's acknowledge is over: the next register's byte, or the pin is free until START
unfoldable pub answered : State → Answer → Step
answered s M.Unseen = and_do s None
answered s M.Acknowledge = and_do s (Some (A.Launch s.pointer))
answered s M.NotAcknowledge = and_do (aborted s) None

-- the master acknowledges with a low data line at the ninth rise
unfoldable pub answer : (sda : Bool) → Answer
answer sda = if sda then M.NotAcknowledge else M.Acknowledge

unfoldable pub answer_step : State → Answer → Edge → Step
answer_step s a e =
    if is_rise e then and_do (with_phase s (P.MasterAcknowledge (answer (data_at e)))) None
    else answered s a

unfoldable pub ninth_step : Phase → State → Edge → Step
ninth_step P.Idle s e = and_do s None
ninth_step (P.Receive k) s e = and_do s None
ninth_step (P.Acknowledge f n) s e = acknowledge_step s f n e
ninth_step (P.Read n) s e = and_do (with_low s (P.MasterAcknowledge M.Unseen) false) None
ninth_step (P.MasterAcknowledge a) s e = answer_step s a e

-- ---- address (UM10204 3.1.10; the data sheet's 38 hex with the direction bit): 70 to write, 71 to read, else silence
abbrev pub acknowledging_with : State → Following → State
acknowledging_with s f = with_phase (aborted s) (P.Acknowledge f 0)

unfoldable pub addressed : State → (byte : Byte) → Step
addressed s byte =
    and_do (if eqb byte 0x70 then acknowledging_with s F.Control else if eqb byte 0x71 then acknowledging_with s F.Read else aborted s) None

-- ---- data: a register byte sets the pointer, a value byte is written there
abbrev pub pointed : State → (byte : Byte) → Step
pointed s byte = and_do (with_pointer (aborted s) (P.Acknowledge F.Data 0) (byte % 128)) None

abbrev pub valued : State → (byte : Byte) → Step
valued s byte = and_do (aborted s) (Some (A.Write s.pointer byte))

-- the eighth bit completes a byte
unfoldable pub received : Receive → State → (byte : Byte) → Step
received R.Address s byte = addressed s byte
received R.Control s byte = pointed s byte
received R.Data s byte = valued s byte

unfoldable pub completes : Phase → Edge → Bool
completes P.Idle e = false
completes (P.Receive k) e = is_rise e
completes (P.Acknowledge f n) e = false
completes (P.Read n) e = false
completes (P.MasterAcknowledge a) e = false

unfoldable pub completed : Phase → State → Edge → Step
completed P.Idle s e = and_do s None
completed (P.Receive k) s e = received k s (shifted_in s.shift (data_at e))
completed (P.Acknowledge f n) s e = and_do s None
completed (P.Read n) s e = and_do s None
completed (P.MasterAcknowledge a) s e = and_do s None

-- ---- one report: the first that applies
unfoldable pub step : State → Edge → (quiet : Bool) (sent : Byte) → Step
step s e quiet sent =
    if is_condition e then conditioned s e quiet
    else if quiet && not (acknowledging s.phase) then and_do (aborted s) None
    else if within_byte s.phase s.bits e then byte_step s.phase s e sent
    else if at_ninth s.phase e then ninth_step s.phase s e
    else if completes s.phase e then completed s.phase s e
    else and_do s None

-- a register was written: its acknowledge begins, and the next pair follows, or nothing while quiet
abbrev pub written : State → (quiet : Bool) → State
written s quiet = with_phase s (P.Acknowledge (if quiet then F.Idle else F.Control) 0)

-- a byte to send was fetched: its first bit is shown
abbrev pub launched : State → (sent : Byte) → State
launched s sent = with_low s (P.Read 0) (not (sent_bit sent 0))

-- ---- which edges use converted values (a sample at the same moment comes first): the last rise of a value byte and the
-- first of a byte being sent, and the fall at which a byte is fetched
unfoldable pub uses_as : Receive → (bits : ℕ) → Bool
uses_as R.Address bits = false
uses_as R.Control bits = false
uses_as R.Data bits = leb 7 bits

unfoldable pub uses_at_rise : Phase → (bits : ℕ) → Bool
uses_at_rise P.Idle bits = false
uses_at_rise (P.Receive k) bits = uses_as k bits
uses_at_rise (P.Acknowledge f n) bits = false
uses_at_rise (P.Read n) bits = eqb n 0
uses_at_rise (P.MasterAcknowledge a) bits = false

unfoldable pub reads_next : Following → Bool
reads_next F.Control = false
reads_next F.Data = false
reads_next F.Read = true
reads_next F.Idle = false

unfoldable pub goes_on : Answer → Bool
goes_on M.Unseen = false
goes_on M.Acknowledge = true
goes_on M.NotAcknowledge = false

unfoldable pub uses_at_fall : Phase → Bool
uses_at_fall P.Idle = false
uses_at_fall (P.Receive k) = false
uses_at_fall (P.Acknowledge f n) = eqb n 2 && reads_next f
uses_at_fall (P.Read n) = false
uses_at_fall (P.MasterAcknowledge a) = goes_on a

unfoldable pub consumes_conversion : State → Edge → Bool
consumes_conversion s e = if is_rise e then uses_at_rise s.phase s.bits else is_fall e && uses_at_fall s.phase
