-- What a stored write does to each bit of its cell.
use mathlib.Core.Path.{◌≡◌, refl, sym, ap, ◌∙◌}
use mathlib.Core.Bool.{Bool, true, false, not}
use Prim.Native.Nat.{ℕ, zero, suc, ◌+◌, ◌-◌, ◌*◌, ◌/◌, ◌%◌, ◌^◌, ◌≤◌, ◌<◌}
use native.Mathlib.Nat.{add-mul, one-mul, pow-suc, mod-lt, mod-eq_of_lt, div-eq_of_lt, lt_of_lt_of_le}
use native.Mathlib.Omega.{arith}
use lib.Dec.{leb, ltb, lit<}
use lib.Pow.{pow_mono, field, mod-mod-pow, high, low}
use lib.Bits.{bit_and, and_shr, and_mod, and_le_l}
use borrow.Author.Tests.{ltb-true, ltb-false, lt-ltb, eqb-true, eq-eqb, ne_eqb, le-leb, leb-true}
use Rattle.laws.specs.Bytes.{bit, bit_value}
use Rattle.nv.specs.Cell.{write_length, erase_length, threshold, crossing, has_crossed, bits_where, crossed, program_cell, byte}
use Rattle.nv.specs.Theorems.Laws.{start_is_old, programming}
use Rattle.nv.proofs.Masks.{bit_value_lt, bits_lt}

-- the binary digit of a number at place k
abbrev place : ℕ → ℕ → ℕ
place x k = x / 2 ^ k % 2

-- ---- bits of masks
bit_and_at : (a b k : ℕ) → place (bit_and a b) k ≡ bit_and (place a k) (place b k)
bit_and_at a b k = rw (and_shr a b k) (and_mod (a / 2 ^ k) (b / 2 ^ k) 1)

and_mono : (x a b : ℕ) → x < 2 → b < 2 → a ≤ b → bit_and x a ≤ bit_and x b
and_mono zero a b p q r = omega arith
and_mono (suc zero) zero b p q r = omega arith
and_mono (suc zero) (suc zero) zero p q r = absurd (omega arith)
and_mono (suc zero) (suc zero) (suc zero) p q r = omega arith
and_mono (suc zero) (suc zero) (suc (suc b)) p q r = absurd (omega arith)
and_mono (suc zero) (suc (suc a)) b p q r = absurd (omega arith)
and_mono (suc (suc x)) a b p q r = absurd (omega arith)

-- a digit below place n is that of the n lowest bits
bit_low : (x n k : ℕ) → k < n → place (x % 2 ^ n) k ≡ place x k
bit_low x n k p =
    let e : n - (1 + k) + (1 + k) ≡ n = omega arith in
    let m : x % 2 ^ n % 2 ^ (1 + k) ≡ x % 2 ^ (1 + k) = rw e at (mod-mod-pow x (n - (1 + k)) (1 + k)) in
    sym (field (x % 2 ^ n) 1 k) ∙ ap (λ (y : ℕ). y / 2 ^ k) m ∙ field x 1 k

-- the bit at place n on top of the lower ones
top : (n : ℕ) (f : ℕ → Bool) → bits_where (suc n) f ≡ bit_value (f n) * 2 ^ n + bits_where n f
unfolding bits_where
top n f = omega arith

bits_step : (n : ℕ) (f : ℕ → Bool) (k : ℕ) → k ≤ n → (k < n → place (bits_where n f) k ≡ bit_value (f k))
    → (t : Bool) → ltb k n ≡ t → place (bits_where (suc n) f) k ≡ bit_value (f k)
bits_step n f k p h true e =
    let l = ltb-true k n e in
    sym (bit_low (bits_where (suc n) f) n k l) ∙ rw (top n f, low (bit_value (f n)) n (bits_lt n f)) (h l)
bits_step n f k p h false e =
    let q : k ≡ n = omega (arith, ltb-false k n e) in
    rw (q, top n f, high (bit_value (f n)) n (bits_lt n f)) (mod-eq_of_lt (bit_value_lt (f n)))

bits_bit : (n : ℕ) (f : ℕ → Bool) (k : ℕ) → k < n → place (bits_where n f) k ≡ bit_value (f k)
bits_bit zero f k p = absurd (omega arith)
bits_bit (suc n) f k p = bits_step n f k (omega arith) (bits_bit n f k) (ltb k n) refl

bits_high : (n : ℕ) (f : ℕ → Bool) (k : ℕ) → n ≤ k → place (bits_where n f) k ≡ 0
bits_high n f k p = rw (div-eq_of_lt (lt_of_lt_of_le (bits_lt n f) (pow_mono p)))

-- where f implies g, so do the bits
bits_mono : (n : ℕ) (f g : ℕ → Bool) → ((k : ℕ) → bit_value (f k) ≤ bit_value (g k))
    → (k : ℕ) (t : Bool) → ltb k n ≡ t → place (bits_where n f) k ≤ place (bits_where n g) k
bits_mono n f g h k true e = let l = ltb-true k n e in rw (bits_bit n f k l, bits_bit n g k l) (h k)
bits_mono n f g h k false e = rw (bits_high n f k (ltb-false k n e)) (omega arith)

-- the bits that are not set
digit_not : (t : Bool) → bit_value t + bit_value (not t) ≡ 1
digit_not true = refl
digit_not false = refl

bits_not : (n : ℕ) (f : ℕ → Bool) → bits_where n f + bits_where n (λ k. not (f k)) + 1 ≡ 2 ^ n
unfolding bits_where
bits_not zero f = refl
bits_not (suc n) f =
    let one : (bit_value (f n) + bit_value (not (f n))) * 2 ^ n ≡ 1 * 2 ^ n = ap (λ (d : ℕ). d * 2 ^ n) (digit_not (f n)) in
    omega (arith, bits_not n f, add-mul (bit_value (f n)) (bit_value (not (f n))) (2 ^ n), one-mul (2 ^ n), pow-suc 2 n)

-- a digit that grows keeps a set bit set
set_stays : (x y k : ℕ) → place x k ≤ place y k → bit x k ≡ true → bit y k ≡ true
set_stays x y k p e = eq-eqb (place y k) 1 (omega (arith, eqb-true (place x k) 1 e))

-- ---- the crossed bits
crossed_later : (a e l : ℕ) → e ≤ l → (t : Bool) → leb a e ≡ t → bit_value (leb a e) ≤ bit_value (leb a l)
crossed_later a e l p true h = rw (le-leb a l (omega (arith, leb-true a e h))) (omega (arith, bit_value_lt (leb a e)))
crossed_later a e l p false h = rw h (omega arith)

not_mono : (t u : Bool) → bit_value t ≤ bit_value u → bit_value (not u) ≤ bit_value (not t)
not_mono true true p = omega arith
not_mono true false p = absurd (omega arith)
not_mono false u p = omega (arith, bit_value_lt (not u))

module _ (cell d e l k : ℕ) (later : e ≤ l) where
  sooner : (b : ℕ) → bit_value (has_crossed cell e d b) ≤ bit_value (has_crossed cell l d b)
  sooner b = crossed_later (crossing d (threshold cell b)) e l later (has_crossed cell e d b) refl

  crossed_rise : place (crossed cell e d) k ≤ place (crossed cell l d) k
  crossed_rise = bits_mono 8 (has_crossed cell e d) (has_crossed cell l d) sooner k (ltb k 8) refl

  rest_is : (x : ℕ) → 255 - crossed cell x d ≡ bits_where 8 (λ b. not (has_crossed cell x d b))
  rest_is x = omega (arith, bits_not 8 (has_crossed cell x d))

  rest_falls : place (255 - crossed cell l d) k ≤ place (255 - crossed cell e d) k
  rest_falls =
      rw (rest_is l, rest_is e)
      (bits_mono 8 (λ b. not (has_crossed cell l d b)) (λ b. not (has_crossed cell e d b)) (λ b. not_mono (has_crossed cell e d b) (has_crossed cell l d b) (sooner b)) k (ltb k 8) refl)

  -- a bit once crossed stays crossed
  pub crossed_stays : bit (crossed cell e d) k ≡ true → bit (crossed cell l d) k ≡ true
  crossed_stays = set_stays (crossed cell e d) (crossed cell l d) k crossed_rise

-- ---- the byte
-- below E the old byte without the crossed bits
erasing : (old target cell e : ℕ) → 0 < e → e < erase_length → byte old target cell e ≡ bit_and old (255 - crossed cell e erase_length)
unfolding byte
erasing old target cell e p q = rw (ne_eqb e 0 (λ z. omega arith), lt-ltb e erase_length q)

bit_and_le : (a b k : ℕ) → place (bit_and a b) k ≤ place a k
bit_and_le a b k = rw (bit_and_at a b k) (and_le_l (place a k) (place b k))

bit_and_mono : (x a b k : ℕ) → place a k ≤ place b k → place (bit_and x a) k ≤ place (bit_and x b) k
bit_and_mono x a b k p = rw (bit_and_at x a k, bit_and_at x b k) (and_mono (place x k) (place a k) (place b k) (mod-lt (x / 2 ^ k) (lit< tt)) (mod-lt (b / 2 ^ k) (lit< tt)) p)

-- ---- the first part
module _ (old target cell : ℕ) where
  old_bounds : (e k : ℕ) → e < erase_length → place (byte old target cell e) k ≤ place old k
  old_bounds zero k p = rw (start_is_old old target cell) (omega arith)
  old_bounds (suc e) k p = rw (erasing old target cell (suc e) (omega arith) p) (bit_and_le old (255 - crossed cell (suc e) erase_length) k)

  falls : (e l k : ℕ) → e ≤ l → l < erase_length → place (byte old target cell l) k ≤ place (byte old target cell e) k
  falls zero l k p q = rw (start_is_old old target cell) (old_bounds l k q)
  falls (suc e) l k p q =
      rw (erasing old target cell l (omega arith) q, erasing old target cell (suc e) (omega arith) (omega arith))
      (bit_and_mono old (255 - crossed cell l erase_length) (255 - crossed cell (suc e) erase_length) k (rest_falls cell erase_length (suc e) l k p))

  -- below E the byte has no bit that the old one lacks
  pub erasing_adds_none : (e k : ℕ) → e < erase_length → bit (byte old target cell e) k ≡ true → bit old k ≡ true
  erasing_adds_none e k p = set_stays (byte old target cell e) old k (old_bounds e k p)

  -- and none that it lacked earlier: a bit once erased stays erased
  pub erased_stays : (e l k : ℕ) → e ≤ l → l < erase_length → bit (byte old target cell l) k ≡ true → bit (byte old target cell e) k ≡ true
  erased_stays e l k p q = set_stays (byte old target cell l) (byte old target cell e) k (falls e l k p q)

-- ---- the second part
module _ (old target cell : ℕ) where
  mask : ℕ → ℕ
  mask e = crossed (program_cell cell) (e - erase_length) (write_length - erase_length)

  wanted_bounds : (e k : ℕ) → erase_length ≤ e → place (byte old target cell e) k ≤ place target k
  unfolding mask
  wanted_bounds e k p = rw (programming old target cell e p) (bit_and_le target (mask e) k)

  rises : (e l k : ℕ) → erase_length ≤ e → e ≤ l → place (byte old target cell e) k ≤ place (byte old target cell l) k
  unfolding mask
  rises e l k p q =
      rw (programming old target cell e p, programming old target cell l (omega arith))
      (bit_and_mono target (mask e) (mask l) k
      (crossed_rise (program_cell cell) (write_length - erase_length) (e - erase_length) (l - erase_length) k (omega arith)))

  -- from E on the byte has no bit that the wanted one lacks
  pub programming_adds_none : (e k : ℕ) → erase_length ≤ e → bit (byte old target cell e) k ≡ true → bit target k ≡ true
  programming_adds_none e k p = set_stays (byte old target cell e) target k (wanted_bounds e k p)

  -- and a bit once programmed stays programmed
  pub programmed_stays : (e l k : ℕ) → erase_length ≤ e → e ≤ l → bit (byte old target cell e) k ≡ true → bit (byte old target cell l) k ≡ true
  programmed_stays e l k p q = set_stays (byte old target cell e) (byte old target cell l) k (rises e l k p q)
