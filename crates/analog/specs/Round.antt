-- Rounding and casts of analog.rs, over the integers.
use Rattle.std.specs.Prelude.{ℕ, Bool, ◌-◌, ◌/◌, ◌%◌, ◌^◌, ℤ, pos, negsuc, ◌+ℤ◌, ◌-ℤ◌, neg_ℤ, int_div, int_lt, nat_lt, if◌then◌else◌}

-- `round`: half of the divisor away from zero, then the quotient towards zero
unfoldable pub round : (n : ℤ) (d : ℕ) → ℤ
round n d = int_div (if int_lt n (pos 0) then n -ℤ pos (d / 2) else n +ℤ pos (d / 2)) (pos d)

-- the lowest 64 bits in two's complement
unfoldable pub bits_64 : ℤ → ℕ
bits_64 (pos n) = n % 2 ^ 64
bits_64 (negsuc n) = 2 ^ 64 - 1 - n % 2 ^ 64

-- 64 bits read as two's complement
unfoldable pub signed_64 : (bits : ℕ) → ℤ
signed_64 bits = if nat_lt bits (2 ^ 63) then pos bits else negsuc (2 ^ 64 - 1 - bits)

-- `as i64`: the lowest 64 bits, as a signed number
abbrev pub low_64 : ℤ → ℤ
low_64 z = signed_64 (bits_64 z)

-- a number by its sign and its size
abbrev pub signed : (negative : Bool) (size : ℕ) → ℤ
signed negative size = if negative then neg_ℤ (pos size) else pos size
