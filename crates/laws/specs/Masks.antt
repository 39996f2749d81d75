-- Masks and shifts, as quotients and remainders.
use Rattle.std.specs.Prelude.{◌≡◌, not, ℕ, zero, suc, ◌+◌, ◌-◌, ◌*◌, ◌/◌, ◌%◌, ◌^◌, ◌<◌, eqb}
use Rattle.std.proofs.Common.{mod-lt, zero-mul, arith, lit<, pow_pos, ne_eqb}
use Rattle.std.specs.Int.Bits.{bit_and}
use Rattle.std.proofs.lemmas.Nat.Bits.{and_high}

test : (b m : ℕ) → b < 2 → 0 < m → not (eqb (b * m) 0) ≡ eqb b 1
test zero m p q = rw (zero-mul m)
test (suc zero) m p q = let n : (1 * m ≡ 0 → ⊥) = λ e. omega arith in rw (ne_eqb (1 * m) 0 n)
test (suc (suc b)) m p q = absurd (omega arith)

-- a test of bit k by its mask: `x & 0x10 != 0` is bit_test x 4, where 2 ^ (1 + 4) - 2 ^ 4 computes to 16
pub bit_test : (x k : ℕ) → not (eqb (bit_and x (2 ^ (1 + k) - 2 ^ k)) 0) ≡ eqb (x / 2 ^ k % 2) 1
bit_test x k = rw (and_high x 1 k) (test (x / 2 ^ k % 2) (2 ^ k) (mod-lt (x / 2 ^ k) (lit< tt)) (pow_pos k))
