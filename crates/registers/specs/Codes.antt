-- Codes, offsets and temperatures, and the register bits that hold them.
use Rattle.std.specs.Prelude.{ℕ, ◌+◌, ◌-◌, ◌*◌, ◌/◌, ◌%◌, ltb, eqb, ℤ, pos, negsuc, nat_abs, ◌+ℤ◌, ◌-ℤ◌, ◌*ℤ◌, if◌then◌else◌}
use Rattle.std.specs.Int.Signed.{lt_z, quot_z}

-- z clamped to lo..hi
unfoldable pub clamped : (lo hi z : ℤ) → ℤ
clamped lo hi z = if lt_z z lo then lo else if lt_z hi z then hi else z

-- a quotient, towards zero (01 has codes so)
abbrev pub towards_zero : ℤ → ℕ → ℤ
towards_zero z d = quot_z z (pos d)

-- the ten-bit offset, <9:2> in one register and <1:0> in bits 7..6 of another
abbrev pub offset : (lsb msb : ℕ) → ℕ
offset lsb msb = msb * 4 + lsb / 64

-- the lowest ten bits of a code in two's complement
abbrev pub ten_bits : ℤ → ℕ
ten_bits (pos n) = n % 1024
ten_bits (negsuc n) = 1023 - n % 1024

-- acc<1:0> in bits 7..6, and new_data set in bit 0
abbrev pub code_low : (code : ℤ) → ℕ
code_low code = ten_bits code % 4 * 64 + 1

-- acc<9:2>
abbrev pub code_high : (code : ℤ) → ℕ
code_high code = ten_bits code / 4

-- ten bits read as two's complement
unfoldable pub signed_ten : (bits : ℕ) → ℤ
signed_ten bits = if ltb bits 512 then pos bits else negsuc (1023 - bits)

-- 01: the range is 2, 4, 8, 8 g
unfoldable pub range_g : (range : ℕ) → ℕ
range_g range = if eqb range 0 then 2 else if eqb range 1 then 4 else 8

-- 01: (acceleration + (offset − 512) × 31250) × 512
abbrev pub scaled : (acceleration : ℤ) (offset : ℕ) → ℤ
scaled acceleration offset = (acceleration +ℤ (pos offset -ℤ pos 512) *ℤ pos 31250) *ℤ pos 512

-- 01: code, held to −512..511
unfoldable pub code : (acceleration : ℤ) (offset range : ℕ) → ℤ
code acceleration offset range = clamped (negsuc 511) (pos 511) (towards_zero (scaled acceleration offset) (range_g range * 1000000))

-- 01: (thousandths + 30000) / 500 held to 0..255; towards zero is the Rust's rule
unfoldable pub temperature : (millicelsius : ℤ) → ℕ
temperature millicelsius = nat_abs (clamped (pos 0) (pos 255) (towards_zero (millicelsius +ℤ pos 30000) 500))
