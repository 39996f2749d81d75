-- What two registers hold of a code, joined again, is its ten bits, and read as two's complement is the code.
use Rattle.std.specs.Prelude.{◌≡◌, false, ℕ, ◌+◌, ◌-◌, ◌*◌, ◌/◌, ◌%◌, ltb, ℤ, pos, negsuc}
use Rattle.std.proofs.Common.{arith, lt-ltb, le-ltb}
use Rattle.laws.specs.Signed.{Reach}
use Rattle.registers.specs.Codes.{offset, ten_bits, code_low, code_high, signed_ten}

put_together : (bits : ℕ) → (bits / 4 * 4 + (bits % 4 * 64 + 1) / 64) ≡ bits
put_together bits = omega arith

-- joined as an offset is
pub joined : (code : ℤ) → offset (code_low code) (code_high code) ≡ ten_bits code
joined code = put_together (ten_bits code)

-- codes of −512..511
pub signed_back : (code : ℤ) → Reach code 512 → signed_ten (ten_bits code) ≡ code
unfolding signed_ten
signed_back (pos n) r =
    let e : n % 1024 ≡ n = omega (arith, r.reach) in
    rw (e, lt-ltb n 512 r.reach)
signed_back (negsuc n) r =
    let e : n % 1024 ≡ n = omega (arith, r.reach) in
    let f : 1023 - (1023 - n) ≡ n = omega (arith, r.reach) in
    let l : ltb (1023 - n) 512 ≡ false = le-ltb (1023 - n) 512 (omega (arith, r.reach)) in
    rw (e, l, f)
