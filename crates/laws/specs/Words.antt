-- Numbers of two digits, h * b + l, at any base b: their order, their sum and their difference, digit by digit.
-- The base is a variable so that `omega` meets no number of 128 bits, at which it stops.
use Rattle.std.specs.Prelude.{◌≡◌, refl, ℕ, ◌+◌, ◌-◌, ◌*◌, ◌/◌, ◌%◌, ◌≤◌, ◌<◌, min, Bool, true, false, ltb, eqb}
use Rattle.std.proofs.Common.{sym, ap, ◌∙◌, add-mul, suc-mul, zero-mul, mul-le-mul_right, arith, ltb-true, ltb-false, lt-ltb, le-ltb, eqb-true, eq-eqb, ne_eqb}
use Rattle.std.proofs.lemmas.Bool.{eqb-false}
use Rattle.std.proofs.Math.Arith.{digits_div, digits_mod}

-- a higher digit is a whole base more
pub step : (b : ℕ) {h k : ℕ} → h < k → h * b + b ≤ k * b
step b {h} {k} p = rw suc-mul at (mul-le-mul_right b p)

pub word_lt : (b h l k m : ℕ) → h < k → l < b → h * b + l < k * b + m
word_lt b h l k m p q = omega (arith, step b p)

-- a difference of higher digits
pub diff : (b : ℕ) {h k : ℕ} → k ≤ h → h * b ≡ k * b + (h - k) * b
diff b {h} {k} p =
    let e : h ≡ k + (h - k) = omega arith in
    ap (λ (n : ℕ). n * b) e ∙ add-mul k (h - k) b

-- the digits of a number that is q * b + l: the low one, and the high one modulo the base
pub digits : (b q l n : ℕ) → l < b → n ≡ q * b + l → (q % b ≡ n / b % b) × (l ≡ n % b)
digits b q l n p e = rw e (rw (digits_div q p), sym (digits_mod q p))

-- the sum of two numbers, from the sum of the low digits: no carry, and a carry
pub sum_keeps : (b h l k m : ℕ) → h * b + l + (k * b + m) ≡ (h + k) * b + (l + m)
sum_keeps b h l k m = omega (arith, add-mul h k b)

pub sum_carries : (b h l k m : ℕ) → b ≤ l + m → h * b + l + (k * b + m) ≡ (h + k + 1) * b + (l + m - b)
sum_carries b h l k m r = omega (arith, add-mul h k b, add-mul (h + k) 1 b)

-- one more, clamped to the last number of two digits: no carry, a carry, and the last number
pub next_keeps : (b h l : ℕ) → h < b → l + 1 < b → min (h * b + l + 1) (b * b - 1) ≡ h * b + (l + 1)
next_keeps b h l p q = omega (arith, step b p)

pub next_carries : (b h l : ℕ) → h + 1 < b → l + 1 ≡ b → min (h * b + l + 1) (b * b - 1) ≡ (h + 1) * b + 0
next_carries b h l p q = omega (arith, step b p, add-mul h 1 b)

pub next_stays : (b h l : ℕ) → h + 1 ≡ b → l + 1 ≡ b → min (h * b + l + 1) (b * b - 1) ≡ h * b + l
next_stays b h l p q =
    let e : (h + 1) * b ≡ b * b = ap (λ (n : ℕ). n * b) p in
    omega (arith, add-mul h 1 b)

-- two tests agree where what they test does
module _ (a b c d : ℕ) where
  ltb_go : (a < b → c < d) → (b ≤ a → d ≤ c) → (t : Bool) → ltb a b ≡ t → t ≡ ltb c d
  ltb_go f g true e = sym (lt-ltb c d (f (ltb-true a b e)))
  ltb_go f g false e = sym (le-ltb c d (g (ltb-false a b e)))

  pub ltb_iff : (a < b → c < d) → (b ≤ a → d ≤ c) → ltb a b ≡ ltb c d
  ltb_iff f g = ltb_go f g (ltb a b) refl

  eqb_go : (a ≡ b → c ≡ d) → (c ≡ d → a ≡ b) → (t : Bool) → eqb a b ≡ t → t ≡ eqb c d
  eqb_go f g true e = sym (eq-eqb c d (f (eqb-true a b e)))
  eqb_go f g false e = sym (ne_eqb c d (λ q. eqb-false a b e (g q)))

  pub eqb_iff : (a ≡ b → c ≡ d) → (c ≡ d → a ≡ b) → eqb a b ≡ eqb c d
  eqb_iff f g = eqb_go f g (eqb a b) refl

-- the tests of two numbers with the same high digit are those of the low digits
pub low_ltb : (b h l k m : ℕ) → h ≡ k → ltb l m ≡ ltb (h * b + l) (k * b + m)
low_ltb b h l k m e =
    let q : h * b ≡ k * b = ap (λ (n : ℕ). n * b) e in
    ltb_iff l m (h * b + l) (k * b + m) (λ p. omega arith) (λ p. omega arith)

pub low_eqb : (b h l k m : ℕ) → h ≡ k → eqb l m ≡ eqb (h * b + l) (k * b + m)
low_eqb b h l k m e =
    let q : h * b ≡ k * b = ap (λ (n : ℕ). n * b) e in
    eqb_iff l m (h * b + l) (k * b + m) (λ p. omega arith) (λ p. omega arith)

-- numbers of two digits that are equal have the same high digit
pub high_eq : (b h l k m : ℕ) → l < b → m < b → h * b + l ≡ k * b + m → h ≡ k
high_eq b h l k m p q e = sym (digits_div h p) ∙ ap (λ (n : ℕ). n / b) e ∙ digits_div k q

-- the difference of two numbers, from their digits: no borrow, and a borrow
pub sub_keeps : (b h l k m : ℕ) → k ≤ h → m ≤ l → (h - k) * b + (l - m) ≡ h * b + l - (k * b + m)
sub_keeps b h l k m p q = omega (arith, diff b p)

pub sub_borrows : (b h l k m : ℕ) → k < h → m < b → (h - k - 1) * b + (l + (b - 1 - m) + 1) ≡ h * b + l - (k * b + m)
sub_borrows b h l k m p q =
    let e : (h - k) * b ≡ 1 * b + (h - k - 1) * b = diff b (omega arith) in
    let f : h * b ≡ k * b + (h - k) * b = diff b (omega arith) in
    omega arith

pub sub_none : (b h l k m : ℕ) → h < k → l < b → 0 ≡ h * b + l - (k * b + m)
sub_none b h l k m p q = omega (arith, word_lt b h l k m p q)

-- one less, digit by digit: no borrow, and a borrow
pub pred_keeps : (b h l : ℕ) → 0 < l → h * b + (l - 1) + 1 ≡ h * b + l
pred_keeps b h l p = omega arith

pub pred_borrows : (b h l : ℕ) → 0 < b → l ≤ 0 → 0 < h → (h - 1) * b + (b - 1) + 1 ≡ h * b + l
pred_borrows b h l z p q =
    let e : h * b ≡ 1 * b + (h - 1) * b = diff b q in
    omega arith

pub pred_none : (b h l : ℕ) → l ≤ 0 → h ≤ 0 → h * b + l ≡ 0
pred_none b h l p q =
    let e : h ≡ 0 = omega arith in
    rw (e, zero-mul b) (omega arith)
