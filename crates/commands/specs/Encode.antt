-- The bytes that a command is written as (01, "Bench program"), said apart from how `Decode` takes them.
use Rattle.std.specs.Prelude.{◌≡◌, Bool, List, [], ◌∷◌, ◌++◌, ℕ, zero, suc, ◌+◌, ◌-◌, ◌/◌, ◌%◌, ◌^◌, ◌<◌, ℤ, pos, negsuc, length, if◌then◌else◌}
use Rattle.std.specs.Int.Signed.{mag}
use Rattle.laws.specs.Notation.{Image}
use Rattle.time.specs.declared.Time.{Time}
use Rattle.i2c.specs.declared.types.Levels.{Levels}
use Rattle.calls.specs.declared.types.Timed.{Timed}
use Rattle.calls.specs.declared.types.Call.{Call}
use Rattle.calls.specs.declared.types.Starting.{Starting}
use Rattle.commands.specs.declared.Command.{Command}

-- ---- operands

-- x as n bytes, big-endian: the last is what is left over by 256, before it the bytes of the quotient
unfoldable pub bytes : ℕ → ℕ → List ℕ
bytes zero x = []
bytes (suc n) x = bytes n (x / 256) ++ (x % 256 ∷ [])

-- T: 4 bytes of seconds and 8 of fraction
unfoldable pub time_bytes : Time → List ℕ
time_bytes t = bytes 4 t.0 ++ bytes 8 t.1

-- two's complement of 32 bits: 2^32 is added to a negative number
unfoldable pub complement : ℤ → ℕ
complement (pos n) = n
complement (negsuc n) = 2 ^ 32 - (n + 1)

-- a signed 4-byte number
abbrev pub signed_bytes : ℤ → List ℕ
signed_bytes z = bytes 4 (complement z)

-- a bit that is set counts its weight
abbrev pub weighed : (b : Bool) (weight : ℕ) → ℕ
weighed b weight = if b then weight else 0

-- the byte 0..15 of the lines: bits 3 and 2 the clock and data before, 1 and 0 after
abbrev pub lines_byte : (before after : Levels) → ℕ
lines_byte before after = weighed before.scl 8 + weighed before.sda 4 + weighed after.scl 2 + weighed after.sda 1

-- ---- commands: the byte, then the operands

-- 02, 04, 05, 07, 08, 09
unfoldable pub timed_bytes : Time → Timed → List ℕ
timed_bytes t (Timed.Accelerations input) = 0x02 ∷ (time_bytes t ++ signed_bytes input.x ++ signed_bytes input.y ++ signed_bytes input.z)
timed_bytes t (Timed.Supply rail) = 0x04 ∷ (time_bytes t ++ bytes 2 rail)
timed_bytes t Timed.Due = 0x05 ∷ time_bytes t
timed_bytes t (Timed.Rising mosi) = 0x07 ∷ (time_bytes t ++ (weighed mosi 1 ∷ []))
timed_bytes t Timed.Falling = 0x08 ∷ time_bytes t
timed_bytes t (Timed.Pins before after) = 0x09 ∷ (time_bytes t ++ (lines_byte before after ∷ []))

-- those, and 03, 06, 0b, 0a
unfoldable pub call_bytes : Call → List ℕ
call_bytes (Call.At t what) = timed_bytes t what
call_bytes (Call.Temperature x) = 0x03 ∷ signed_bytes x
call_bytes (Call.Select on) = 0x06 ∷ weighed on 1 ∷ []
call_bytes (Call.View address) = 0x0b ∷ bytes 1 address
call_bytes (Call.StoredImage t n) = 0x0a ∷ time_bytes t

-- 01 and 0c
unfoldable pub start_byte : Starting → ℕ
start_byte Starting.Checked = 0x01
start_byte Starting.Stored = 0x0c

-- a command, with the 19 bytes of a start; ff is one of the bytes that begin no command
unfoldable pub encoded : Command → (image : Image) → List ℕ
encoded (Command.Start by t) image = start_byte by ∷ (time_bytes t ++ image)
encoded (Command.Host c) image = call_bytes c
encoded Command.Bad image = 0xff ∷ []

-- ---- what the fields of a command hold

-- a time with seconds of 4 bytes and a fraction of 8
abbrev pub TimeFits : Time → Type 0
TimeFits t = (t.0 < 2 ^ 32) × (t.1 < 2 ^ 64)

-- a signed number of 4 bytes, from -2^31 to 2^31 - 1 (`mag` counts a negative number from -1)
abbrev pub SignedFits : ℤ → Type 0
SignedFits z = mag z < 2 ^ 31

-- every axis is a signed number, the rail has 2 bytes
unfoldable pub TimedFits : Timed → Type 0
TimedFits (Timed.Accelerations input) = SignedFits input.x × SignedFits input.y × SignedFits input.z
TimedFits (Timed.Supply rail) = rail < 2 ^ 16
TimedFits Timed.Due = Unit {0}
TimedFits (Timed.Rising mosi) = Unit {0}
TimedFits Timed.Falling = Unit {0}
TimedFits (Timed.Pins before after) = Unit {0}

-- an address has a byte; a stored image's buffer has 19, which the command does not say
unfoldable pub CallFits : Call → Type 0
CallFits (Call.At t what) = TimeFits t × TimedFits what
CallFits (Call.Temperature x) = SignedFits x
CallFits (Call.Select on) = Unit {0}
CallFits (Call.View address) = address < 2 ^ 8
CallFits (Call.StoredImage t n) = TimeFits t × (n ≡ 19)

-- a command whose operands fit its fields; a start has 19 bytes
unfoldable pub Fits : Command → (image : Image) → Type 0
Fits (Command.Start by t) image = TimeFits t × (length image ≡ 19)
Fits (Command.Host c) image = CallFits c
Fits Command.Bad image = Unit {0}
