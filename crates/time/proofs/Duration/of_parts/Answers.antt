use Rattle.std.proofs.Common.{◌≡◌, ℕ, ◌+◌, ◌*◌, ◌/◌, ◌%◌, ◌^◌, ◌<◌, ap, ◌∙◌, add-mul, mul-add, mul_assoc, mul_comm, div-lt_iff_lt-mul, mod-lt, div-le_self, lt_of_le_of_lt, arith}
use Rattle.std.proofs.Math.Nat.{add-mul-div_right}
use Rattle.time.specs.Theorems.Laws.{duration_at}
use Rattle.time.proofs.Duration.of_parts.Goals as goal

-- (x + y * z) / z, of a number that is that
over : (x y z n : ℕ) → 0 < z → n ≡ x + y * z → n / z ≡ y + x / z
over x y z n h e = ap (λ (m : ℕ). m / z) e ∙ add-mul-div_right x y h ∙ omega arith

-- p parts of which a second of b units has N, each of q units and a rest
part : (b N q r p : ℕ) → 0 < N → b ≡ q * N + r → p * b / N ≡ p * q + p * r / N
part b N q r p h e =
    let f : p * b ≡ p * (q * N + r) = ap (λ (m : ℕ). p * m) e in
    over (p * r) (p * q) N (p * b) h (omega (arith, f, mul-add p (q * N) r, mul_assoc p q N))

-- n parts are k seconds and p parts
whole : (b N k p n : ℕ) → 0 < N → n ≡ k * N + p → n * b / N ≡ k * b + p * b / N
whole b N k p n h e =
    let f : n * b ≡ (k * N + p) * b = ap (λ (m : ℕ). m * b) e in
    let g : N * b ≡ b * N = mul_comm N b in
    let i : k * (N * b) ≡ k * (b * N) = ap (λ (m : ℕ). k * m) g in
    over (p * b) (k * b) N (n * b) h (omega (arith, f, add-mul (k * N) p b, mul_assoc k N b, i, mul_assoc k b N))

pub returns : goal.returns
returns g c =
    let n = c.args.n in let N = g.row.N in
    let h : 0 < N = omega arith in
    let p = part (2 ^ 64) N (2 ^ 64 / N) (2 ^ 64 % N) (n % N) h (omega (arith, mul_comm N (2 ^ 64 / N))) in
    let w = whole (2 ^ 64) N (n / N) (n % N) n h (omega (arith, mul_comm N (n / N))) in
    let l : n % N * 2 ^ 64 / N < 2 ^ 64 = (div-lt_iff_lt-mul h).1 (omega (arith, mod-lt n h, mul_comm N (2 ^ 64))) in
    rw c.from-parts.ensures (duration_at (n * 2 ^ 64 / N) (rw p at l) (omega arith) (lt_of_le_of_lt (div-le_self n N) c.ranges.n.fits))
