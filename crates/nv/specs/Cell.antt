-- The byte of a cell during and after a stored write (01, "Torn byte"; devices/nv.rs).
use Rattle.std.specs.Prelude.{ℕ, zero, suc, ◌+◌, ◌-◌, ◌*◌, ◌/◌, ◌%◌, ◌^◌, max, Bool, leb, ltb, eqb, if◌then◌else◌}
use Rattle.std.specs.Int.Bits.{bit_xor, bit_and}
use Rattle.laws.specs.Notation.{Address}
use Rattle.laws.specs.Bytes.{bit_value}

-- ---- lengths, in units of 2^-64 s
-- D of 01: 28 ms, rounded down
abbrev pub write_length : ℕ
write_length = 28 * 2 ^ 64 / 1000

-- E of 01: the first part, in which the cell is erased
abbrev pub erase_length : ℕ
erase_length = write_length / 2

-- the cell of a register's address (01)
abbrev pub cell_number : (address : Address) → ℕ
cell_number address = 0x20000 + address

-- ---- the file's 32-bit wrapping mixer
-- a product modulo 2^32 (the Rust's `wrapping_mul`)
abbrev pub wrapping_mul : ℕ → ℕ → ℕ
wrapping_mul x y = x * y % 2 ^ 32

-- one round of the mixer: (key ^ (key >> shift)) times a factor (the Rust's rule)
unfoldable pub mixed : (shift factor key : ℕ) → ℕ
mixed shift factor key = wrapping_mul (bit_xor key (key / 2 ^ shift)) factor

-- the low 16 bits of key ^ (key >> 16) (the Rust's rule)
unfoldable pub low_half : (key : ℕ) → ℕ
low_half key = bit_xor key (key / 2 ^ 16) % 2 ^ 16

-- the threshold of a bit of a cell: mixed in two rounds, and at least 1 (01)
unfoldable pub threshold : (cell bit : ℕ) → ℕ
threshold cell bit = max (low_half (mixed 15 0x846ca68b (mixed 16 0x7feb352d (bit_xor cell (wrapping_mul 0x9e3779b9 (bit + 1)))))) 1

-- when a bit crosses in a part of that length: floor(length / 65536) * threshold and the rest's share (the Rust's rule)
unfoldable pub crossing : (length threshold : ℕ) → ℕ
crossing length threshold = length / 65536 * threshold + length % 65536 * threshold / 65536

-- whether a bit has crossed
abbrev pub has_crossed : (cell elapsed length bit : ℕ) → Bool
has_crossed cell elapsed length bit = leb (crossing length (threshold cell bit)) elapsed

-- the number of n bits of which bit k is set where f k holds
unfoldable pub bits_where : ℕ → (ℕ → Bool) → ℕ
bits_where zero f = 0
bits_where (suc n) f = bits_where n f + bit_value (f n) * 2 ^ n

-- the crossed bits of (cell, elapsed, length)
abbrev pub crossed : (cell elapsed length : ℕ) → ℕ
crossed cell elapsed length = bits_where 8 (has_crossed cell elapsed length)

-- the cell whose thresholds hold in the second part (01)
abbrev pub program_cell : (cell : ℕ) → ℕ
program_cell cell = bit_xor cell 0x8a513c27

-- ---- the byte
-- by the time elapsed (01): old at 0; below E old without the crossed bits; from E on the wanted one, only its crossed bits
unfoldable pub byte : (old target cell elapsed : ℕ) → ℕ
byte old target cell elapsed =
    if eqb elapsed 0 then old
    else if ltb elapsed erase_length then bit_and old (255 - crossed cell elapsed erase_length)
    else bit_and target (crossed (program_cell cell) (elapsed - erase_length) (write_length - erase_length))
