-- Bytes as they go over a serial line: most significant bit first.
use Rattle.std.specs.Prelude.{ℕ, zero, suc, ◌+◌, ◌-◌, ◌*◌, ◌/◌, ◌%◌, ◌^◌, ◌<◌, ◌≡◌, refl, Bool, true, false, List, [], ◌∷◌, eqb}
use Rattle.std.proofs.Common.{mod-lt, arith, lit<}

-- bit k of a byte, bit 0 the least significant
abbrev pub bit : ℕ → ℕ → Bool
bit x k = eqb (x / 2 ^ k % 2) 1

-- the n-th bit of a byte that is sent, from 0: most significant first (and the last one from 7 on)
abbrev pub sent_bit : ℕ → ℕ → Bool
sent_bit x n = bit x (7 - n)

-- a bit as a number
abbrev pub bit_value : Bool → ℕ
bit_value true = 1
bit_value false = 0

-- a byte with one more bit received: the byte moves up and loses its top bit
abbrev pub shifted_in : ℕ → Bool → ℕ
shifted_in x b = x % 128 * 2 + bit_value b

-- the number that bits shifted in one after the other make of x
unfoldable pub all_shifted_in : ℕ → List Bool → ℕ
all_shifted_in x [] = x
all_shifted_in x (d ∷ ds) = all_shifted_in (shifted_in x d) ds

-- the first seven bits of a byte, most significant first
abbrev pub seven_bits : ℕ → List Bool
seven_bits b = sent_bit b 0 ∷ sent_bit b 1 ∷ sent_bit b 2 ∷ sent_bit b 3 ∷ sent_bit b 4 ∷ sent_bit b 5 ∷ sent_bit b 6 ∷ []

-- a bit as a number is the number
bit_number : (n : ℕ) → n < 2 → bit_value (eqb n 1) ≡ n
bit_number zero h = refl
bit_number (suc zero) h = refl
bit_number (suc (suc n)) h = absurd (omega arith)

bit_at : (b k : ℕ) → bit_value (sent_bit b k) ≡ b / 2 ^ (7 - k) % 2
bit_at b k = bit_number (b / 2 ^ (7 - k) % 2) (mod-lt (b / 2 ^ (7 - k)) (lit< tt))

-- the eight bits of a byte, shifted in, make the byte
pub bits_make_the_byte : (b : ℕ) → b < 256 → shifted_in (all_shifted_in 0 (seven_bits b)) (sent_bit b 7) ≡ b
unfolding all_shifted_in
bits_make_the_byte b h =
    let s0 : 0 % 128 * 2 + b / 2 ^ 7 % 2 ≡ b / 2 ^ 7 = omega arith in
    let s1 : b / 2 ^ 7 % 128 * 2 + b / 2 ^ 6 % 2 ≡ b / 2 ^ 6 = omega arith in
    let s2 : b / 2 ^ 6 % 128 * 2 + b / 2 ^ 5 % 2 ≡ b / 2 ^ 5 = omega arith in
    let s3 : b / 2 ^ 5 % 128 * 2 + b / 2 ^ 4 % 2 ≡ b / 2 ^ 4 = omega arith in
    let s4 : b / 2 ^ 4 % 128 * 2 + b / 2 ^ 3 % 2 ≡ b / 2 ^ 3 = omega arith in
    let s5 : b / 2 ^ 3 % 128 * 2 + b / 2 ^ 2 % 2 ≡ b / 2 ^ 2 = omega arith in
    let s6 : b / 2 ^ 2 % 128 * 2 + b / 2 ^ 1 % 2 ≡ b / 2 ^ 1 = omega arith in
    let s7 : b / 2 ^ 1 % 128 * 2 + b / 2 ^ 0 % 2 ≡ b = omega arith in
    rw (bit_at b 0, s0, bit_at b 1, s1, bit_at b 2, s2, bit_at b 3, s3, bit_at b 4, s4, bit_at b 5, s5, bit_at b 6, s6, bit_at b 7) s7
