-- Commands written out, and the greatest and least operands that fit.
use Rattle.std.specs.Prelude.{◌≡◌, refl, true, false, [], ◌∷◌, pos, negsuc}
use Rattle.std.proofs.Common.{arith}
use Rattle.time.specs.declared.Time.{Time}
use Rattle.calls.specs.declared.types.Timed.TheVariants as Timed
use Rattle.calls.specs.declared.types.Call.TheVariants as Call
use Rattle.commands.specs.declared.Command.{Command}
use Rattle.commands.specs.Encode.{bytes, time_bytes, complement, timed_bytes, call_bytes, encoded, TimedFits, CallFits, Fits}

-- 01's input: 03 00 00 4e 20 sets 20000, 0b 16 views address 16
temperature_is : encoded (Command.Host (Call.Temperature (pos 20000))) [] ≡ 0x03 ∷ 0x00 ∷ 0x00 ∷ 0x4e ∷ 0x20 ∷ []
unfolding encoded call_bytes complement bytes
temperature_is = refl

view_is : encoded (Command.Host (Call.View 0x16)) [] ≡ 0x0b ∷ 0x16 ∷ []
unfolding encoded call_bytes bytes
view_is = refl

-- the latest time that a command can give
abbrev latest : Time
latest = record { 0 = 4294967295; 1 = 18446744073709551615 }

-- the least, the greatest and the last negative acceleration
abbrev extreme : Command
extreme = Command.Host (Call.At latest (Timed.Accelerations (record { x = negsuc 2147483647; y = pos 2147483647; z = negsuc 0 })))

extreme_fits : Fits extreme []
unfolding Fits CallFits TimedFits
extreme_fits = ((omega arith, omega arith), (omega arith, omega arith, omega arith))

extreme_is : encoded extreme [] ≡ 0x02 ∷ 0xff ∷ 0xff ∷ 0xff ∷ 0xff ∷ 0xff ∷ 0xff ∷ 0xff ∷ 0xff ∷ 0xff ∷ 0xff ∷ 0xff ∷ 0xff ∷ 0x80 ∷ 0x00 ∷ 0x00 ∷ 0x00 ∷ 0x7f ∷ 0xff ∷ 0xff ∷ 0xff ∷ 0xff ∷ 0xff ∷ 0xff ∷ 0xff ∷ []
unfolding encoded call_bytes timed_bytes time_bytes complement bytes
extreme_is = refl

-- the clock high before and the data high after: bits 3 and 0
abbrev pins : Command
pins = Command.Host (Call.At (record { 0 = 1; 1 = 0 }) (Timed.Pins (record { scl = true; sda = false }) (record { scl = false; sda = true })))

pins_fits : Fits pins []
unfolding Fits CallFits TimedFits
pins_fits = ((omega arith, omega arith), tt)

pins_is : encoded pins [] ≡ 0x09 ∷ 0x00 ∷ 0x00 ∷ 0x00 ∷ 0x01 ∷ 0x00 ∷ 0x00 ∷ 0x00 ∷ 0x00 ∷ 0x00 ∷ 0x00 ∷ 0x00 ∷ 0x00 ∷ 0x09 ∷ []
unfolding encoded call_bytes timed_bytes time_bytes bytes
pins_is = refl
