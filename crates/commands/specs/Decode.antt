-- What the bytes of a command mean (01, "Bench program").
use Rattle.std.specs.Prelude.{Bool, true, false, List, [], ◌∷◌, ℕ, ◌+◌, ◌-◌, ◌*◌, ◌/◌, ◌%◌, ltb, eqb, ℤ, pos, negsuc, length, take, drop, get_or, ◌≡◌, ◌≤◌, ◌<◌, Option, Some, None, MatchOption, option_map, unwrap_or, Result, Ok, Err, if◌then◌else◌}
use Rattle.time.specs.declared.Time.{Time}
use Rattle.i2c.specs.declared.types.Levels.{Levels}
use Rattle.calls.specs.declared.types.Timed.{Timed}
use Rattle.calls.specs.declared.types.Call.{Call}
use Rattle.calls.specs.declared.types.Starting.{Starting}
use Rattle.commands.specs.declared.Command.{Command}
use Rattle.commands.specs.declared.Opcode.{Opcode}
use Rattle.commands.specs.declared.UnknownByte.{UnknownByte}

-- ---- operands, big-endian; `at` counts from the command's byte

-- the n bytes from `at`
abbrev pub part : (at n : ℕ) (l : List ℕ) → List ℕ
part at n l = take n (drop at l)

abbrev pub big_from : ℕ → List ℕ → ℕ
big_from x [] = x
big_from x (b ∷ l) = big_from (x * 256 + b) l

-- the number of the bytes, the first the highest
abbrev pub big : List ℕ → ℕ
big l = big_from 0 l

-- the number of the n bytes from `at`
unfoldable pub number_at : (at n : ℕ) (l : List ℕ) → ℕ
number_at at n l = big (part at n l)

-- two's complement in 32 bits
unfoldable pub signed : ℕ → ℤ
signed x = if ltb x 2147483648 then pos x else negsuc (4294967295 - x)

abbrev pub signed_at : (at : ℕ) (l : List ℕ) → ℤ
signed_at at l = signed (number_at at 4 l)

-- T: 4 bytes of seconds and 8 of fraction
unfoldable pub moment_at : (at : ℕ) (l : List ℕ) → Time
moment_at at l = record { 0 = number_at at 4 l; 1 = number_at (at + 4) 8 l }

abbrev pub byte_at : (at : ℕ) (l : List ℕ) → ℕ
byte_at at l = get_or l at 0

-- v, where l has n bytes
abbrev pub Reads : {A : Type 0} → (result : Option A) (l : List ℕ) (n : ℕ) (v : A) → Type 0
Reads result l n v = MatchOption result (length l < n) (λ x. (n ≤ length l) × (x ≡ v))

-- 0 for off, 1 for on
abbrev pub flag_number : Bool → ℕ
flag_number on = if on then 1 else 0

-- the bit of this weight
unfoldable pub bit : (b weight : ℕ) → Bool
bit b weight = eqb (b / weight % 2) 1

-- the clock and the data as two bits of a byte
abbrev pub levels : (b scl sda : ℕ) → Levels
levels b scl sda = record { scl = bit b scl; sda = bit b sda }

-- a start, T at its byte 1
abbrev pub start : Starting → List ℕ → Command
start by l = Command.Start by (moment_at 1 l)

-- the 19 bytes of a start
abbrev pub image : List ℕ → List ℕ
image l = part 13 19 l

-- the command of a timed call, T at its byte 1
abbrev pub timed : List ℕ → Timed → Command
timed l t = Command.Host (Call.At (moment_at 1 l) t)

-- the command for 0 and that for 1; another value is not listed
abbrev pub either_of : (b : ℕ) (low high : Command) → Command
either_of b low high = if eqb b 0 then low else if eqb b 1 then high else Command.Bad

-- a byte 0..15: bits 3 and 2 the clock and data before, 1 and 0 after
abbrev pub lines : List ℕ → ℕ → Command
lines l b = if ltb 15 b then Command.Bad else timed l (Timed.Pins (levels b 8 4) (levels b 2 1))

-- ---- 01's commands: which byte begins each, how many bytes it has, and its operands

-- the command that a byte begins; an unknown one begins none
unfoldable pub opcode : ℕ → Result Opcode UnknownByte
opcode c =
    if eqb c 0x01 then Ok Opcode.Start
    else if eqb c 0x02 then Ok Opcode.Accelerations
    else if eqb c 0x03 then Ok Opcode.Temperature
    else if eqb c 0x04 then Ok Opcode.Supply
    else if eqb c 0x05 then Ok Opcode.Due
    else if eqb c 0x06 then Ok Opcode.Select
    else if eqb c 0x07 then Ok Opcode.Rising
    else if eqb c 0x08 then Ok Opcode.Falling
    else if eqb c 0x09 then Ok Opcode.Pins
    else if eqb c 0x0a then Ok Opcode.StoredImage
    else if eqb c 0x0b then Ok Opcode.View
    else if eqb c 0x0c then Ok Opcode.StartStored
    else Err (record {})

-- how many bytes it has: that byte and its operands
abbrev pub opcode_size : Opcode → ℕ
opcode_size Opcode.Start = 32
opcode_size Opcode.Accelerations = 25
opcode_size Opcode.Temperature = 5
opcode_size Opcode.Supply = 15
opcode_size Opcode.Due = 13
opcode_size Opcode.Select = 2
opcode_size Opcode.Rising = 14
opcode_size Opcode.Falling = 13
opcode_size Opcode.Pins = 14
opcode_size Opcode.StoredImage = 13
opcode_size Opcode.View = 2
opcode_size Opcode.StartStored = 32

-- the command with its operands, read where its bytes are all there
unfoldable pub operands : Opcode → List ℕ → Command
-- 01 start T, 19 bytes
operands Opcode.Start l = start Starting.Checked l
-- 02 accelerations T, three signed 4-byte numbers
operands Opcode.Accelerations l = timed l (Timed.Accelerations (record { x = signed_at 13 l; y = signed_at 17 l; z = signed_at 21 l }))
-- 03 temperature, signed 4 bytes
operands Opcode.Temperature l = Command.Host (Call.Temperature (signed_at 1 l))
-- 04 supply T, 2 bytes
operands Opcode.Supply l = timed l (Timed.Supply (number_at 13 2 l))
-- 05 due T
operands Opcode.Due l = timed l Timed.Due
-- 06 select, 0 or 1
operands Opcode.Select l = either_of (byte_at 1 l) (Command.Host (Call.Select false)) (Command.Host (Call.Select true))
-- 07 rising T, data 0 or 1
operands Opcode.Rising l = either_of (byte_at 13 l) (timed l (Timed.Rising false)) (timed l (Timed.Rising true))
-- 08 falling T
operands Opcode.Falling l = timed l Timed.Falling
-- 09 pins T, a byte 0..15
operands Opcode.Pins l = lines l (byte_at 13 l)
-- 0a stored image T; the bench program's buffer has 19 bytes
operands Opcode.StoredImage l = Command.Host (Call.StoredImage (moment_at 1 l) 19)
-- 0b view, address
operands Opcode.View l = Command.Host (Call.View (byte_at 1 l))
-- 0c as 01, with an image that was stored
operands Opcode.StartStored l = start Starting.Stored l

-- ---- the command at the head of the input

-- the command that the opcode names; where bytes are missing, a bad one (refusal 7)
unfoldable pub named : Opcode → List ℕ → Command
named o l = if ltb (length l) (opcode_size o) then Command.Bad else operands o l

-- an unknown byte is a bad command (refusal 7)
abbrev pub named_by : Result Opcode UnknownByte → List ℕ → Command
named_by (Ok o) l = named o l
named_by (Err e) l = Command.Bad

-- the command at the head of the input; none where nothing is left
unfoldable pub decoded : List ℕ → Command
decoded l = if ltb 0 (length l) then named_by (opcode (byte_at 0 l)) l else Command.Bad

-- what is no command is a bad one
abbrev pub or_bad : Option Command → Command
or_bad o = unwrap_or o Command.Bad

-- ---- how many bytes a command has that begins with the byte c

-- an unknown byte is whole at once
abbrev pub size_by : Result Opcode UnknownByte → ℕ
size_by (Ok o) = opcode_size o
size_by (Err e) = 1

unfoldable pub wants : ℕ → ℕ
wants c = size_by (opcode c)

-- ---- how many bytes a command takes

-- the opcode that it begins with; a bad one has none
abbrev pub opcode_of : Command → Option Opcode
opcode_of (Command.Start Starting.Checked t) = Some Opcode.Start
opcode_of (Command.Host (Call.At t (Timed.Accelerations input))) = Some Opcode.Accelerations
opcode_of (Command.Host (Call.Temperature x)) = Some Opcode.Temperature
opcode_of (Command.Host (Call.At t (Timed.Supply rail))) = Some Opcode.Supply
opcode_of (Command.Host (Call.At t Timed.Due)) = Some Opcode.Due
opcode_of (Command.Host (Call.Select on)) = Some Opcode.Select
opcode_of (Command.Host (Call.At t (Timed.Rising mosi))) = Some Opcode.Rising
opcode_of (Command.Host (Call.At t Timed.Falling)) = Some Opcode.Falling
opcode_of (Command.Host (Call.At t (Timed.Pins before after))) = Some Opcode.Pins
opcode_of (Command.Host (Call.StoredImage t n)) = Some Opcode.StoredImage
opcode_of (Command.Host (Call.View address)) = Some Opcode.View
opcode_of (Command.Start Starting.Stored t) = Some Opcode.StartStored
opcode_of Command.Bad = None

-- as many as its opcode says; a bad one takes its first
unfoldable pub size : Command → ℕ
size c = unwrap_or (option_map opcode_size (opcode_of c)) 1

-- refusal 7
unfoldable pub is_bad : Command → Bool
is_bad (Command.Start by t) = false
is_bad (Command.Host c) = false
is_bad Command.Bad = true
