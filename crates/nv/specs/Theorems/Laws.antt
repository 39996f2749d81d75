-- A stored write at its two ends: the old byte at e = 0, and the wanted one from D on.
use Rattle.std.specs.Prelude.{◌≡◌, refl, Bool, true, ℕ, zero, suc, ◌+◌, ◌-◌, ◌/◌, ◌%◌, ◌^◌, ◌≤◌, ◌<◌}
use Rattle.std.proofs.Common.{◌∙◌, mul-le-mul_left, one-mul, pow-suc, mod-eq_of_lt, arith, le-ltb, le-leb, ne_eqb}
use Rattle.std.specs.Int.Bits.{bit_and}
use Rattle.std.proofs.lemmas.Nat.{and_mask}
use Rattle.nv.specs.Cell.{write_length, erase_length, low_half, threshold, crossing, has_crossed, bits_where, crossed, program_cell, byte}

-- at e = 0 the old byte
pub start_is_old : (old target cell : ℕ) → byte old target cell 0 ≡ old
unfolding byte
start_is_old old target cell = refl

-- a threshold is at most 65535
pub threshold_le : (cell b : ℕ) → threshold cell b ≤ 65535
unfolding threshold low_half
threshold_le cell b = omega arith

-- so every bit has crossed at the end of its part
pub crossing_le : (length t : ℕ) → t ≤ 65535 → crossing length t ≤ length
unfolding crossing
crossing_le length t p =
    omega (arith, mul-le-mul_left (length / 65536) p, mul-le-mul_left (length % 65536) p)

bits_all : (n : ℕ) (f : ℕ → Bool) → ((k : ℕ) → f k ≡ true) → bits_where n f + 1 ≡ 2 ^ n
unfolding bits_where
bits_all zero f e = refl
bits_all (suc n) f e = rw (e n) (omega (arith, bits_all n f e, pow-suc 2 n, one-mul (2 ^ n)))

all_crossed : (cell e d : ℕ) → d ≤ e → crossed cell e d ≡ 255
all_crossed cell e d p =
    let h = bits_all 8 (has_crossed cell e d) (λ k. le-leb (crossing d (threshold cell k)) e (omega (arith, crossing_le d (threshold cell k) (threshold_le cell k)))) in
    omega arith

-- from E on the crossed bits of the wanted byte
pub programming : (old target cell e : ℕ) → erase_length ≤ e
    → byte old target cell e ≡ bit_and target (crossed (program_cell cell) (e - erase_length) (write_length - erase_length))
unfolding byte
programming old target cell e p = rw (ne_eqb e 0 (λ q. omega arith), le-ltb e erase_length p)

-- from D on the wanted byte, however late
pub end_is_wanted : (old target cell e : ℕ) → target < 256 → write_length ≤ e → byte old target cell e ≡ target
end_is_wanted old target cell e p q =
    programming old target cell e (omega arith)
    ∙ rw (all_crossed (program_cell cell) (e - erase_length) (write_length - erase_length) (omega arith), and_mask target 8)
    (mod-eq_of_lt p)
