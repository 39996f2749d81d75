-- The Rust's i128 and u128 never overflow: every number that analog.rs computes is far below 2^127.
use Rattle.std.specs.Prelude.{◌≡◌, ℕ, suc, ◌+◌, ◌-◌, ◌*◌, ◌/◌, ◌^◌, ◌<◌, ◌≤◌, max, Bool, true, false, T, ℤ, pos, negsuc, ◌+ℤ◌, ◌-ℤ◌, ◌*ℤ◌, neg_ℤ, FitsSigned, nat_le, nat_lt, unsigned_abs, refl}
use Rattle.std.proofs.Common.{sym, ◌∙◌, add-le-add, le_refl, le_trans, lt_of_le_of_lt, le_of_lt, mul-le-mul_left, mul-le-mul_right, div-one, not-suc-le-zero, arith, lit<, lit≤, leb-true, leb-false}
use Rattle.std.specs.Int.Signed.{nat_abs-le}
use Rattle.std.specs.Int.{w32, w64}
use Rattle.std.proofs.Math.Facts.{sfits_lit}
use Rattle.laws.specs.Iterate.{iterate}
use Rattle.time.specs.declared.Time.{Time}
use Rattle.analog.specs.declared.types.Factors.{Factors}
use Rattle.analog.specs.declared.types.Series.{Series}
use Rattle.analog.specs.declared.types.Axis.{Axis}
use Rattle.analog.specs.Round.{round, low_64}
use Rattle.analog.specs.Decay.{unit, rate, settling, term, terms, series, squared, decay, factors}
use Rattle.analog.specs.Axis.{signal, target, stepped, value}
use Rattle.analog.proofs.Theorems.Near.{abs_neg}
use Rattle.analog.proofs.Theorems.Sizes.{div_mono, abs_add, abs_sub, abs_mul_le, abs_round_le, abs_squares, low_keeps_abs}
use Rattle.analog.specs.Theorems.Bounds.{Below}
use Rattle.analog.proofs.Theorems.Bounds.{Small, terms_small, squares_small, factors_small, halved, reduced_stays, angle_small, decay_keeps}
use Rattle.analog.proofs.Theorems.Lands.{target_size}

-- a number, with h more, is one of 128 bits
abbrev pub Room : (h : ℕ) → ℤ → Type 0
Room h z = unsigned_abs z + h < 2 ^ 127

-- from a bound that is computed
room : (h N : ℕ) (z : ℤ) → unsigned_abs z ≤ N → T (nat_lt (N + h) (2 ^ 127)) → Room h z
room h N z p t = lt_of_le_of_lt (add-le-add p (le_refl h)) (lit< t)

-- ---- a step of an axis

-- the distance from the input
abbrev pub distance : Axis → (input : ℤ) → ℤ
distance a input = a.output -ℤ target input

-- the sum of products for the output
abbrev pub output_sum : Axis → (input : ℤ) → Factors → ℤ
output_sum a input f = (f.re +ℤ f.im) *ℤ distance a input +ℤ f.im *ℤ a.velocity

-- the sum of products for the velocity
abbrev pub velocity_sum : Axis → (input : ℤ) → Factors → ℤ
velocity_sum a input f = (f.re -ℤ f.im) *ℤ a.velocity -ℤ pos 2 *ℤ f.im *ℤ distance a input

-- these are the sums that a step rounds
pub step_is : (a : Axis) (now : Time) (input : ℤ) (f : Factors)
    → stepped a now input f
    ≡ record { at = now; output = low_64 (target input +ℤ round (output_sum a input f) unit); velocity = low_64 (round (velocity_sum a input f) unit) }
unfolding stepped
step_is a now input f = refl

-- every number on the way, with the half that `round` adds
pub record StepFits (a : Axis) (input : ℤ) (f : Factors) : Type 0 where
  pub target_fits : Room 0 (target input)
  pub distance_fits : Room 0 (distance a input)
  pub sum_fits : Room 0 (f.re +ℤ f.im)
  pub difference_fits : Room 0 (f.re -ℤ f.im)
  pub double_fits : Room 0 (pos 2 *ℤ f.im)
  pub product_1_fits : Room 0 ((f.re +ℤ f.im) *ℤ distance a input)
  pub product_2_fits : Room 0 (f.im *ℤ a.velocity)
  pub product_3_fits : Room 0 ((f.re -ℤ f.im) *ℤ a.velocity)
  pub product_4_fits : Room 0 (pos 2 *ℤ f.im *ℤ distance a input)
  pub output_fits : Room (2 ^ 47) (output_sum a input f)
  pub velocity_fits : Room (2 ^ 47) (velocity_sum a input f)
  pub moved_fits : Room 0 (target input +ℤ round (output_sum a input f) unit)

module _ (a : Axis) (input : ℤ) (f : Factors) (o : FitsSigned w64 a.output) (v : FitsSigned w64 a.velocity) (i : FitsSigned w32 input) (small : Below f) where
  abbrev D : ℕ
  D = 2 ^ 63 + 2 ^ 55

  abbrev F : ℕ
  F = 2 ^ 56

  distance_size : unsigned_abs (distance a input) ≤ D
  distance_size = abs_sub a.output (target input) (2 ^ 63) (2 ^ 55) (nat_abs-le a.output o.sfits) (target_size input i)

  velocity_size : unsigned_abs a.velocity ≤ 2 ^ 63
  velocity_size = nat_abs-le a.velocity v.sfits

  re_size : unsigned_abs f.re ≤ F
  re_size = le_of_lt small.0

  im_size : unsigned_abs f.im ≤ F
  im_size = le_of_lt small.1

  sum_size : unsigned_abs (f.re +ℤ f.im) ≤ F + F
  sum_size = abs_add f.re f.im F F re_size im_size

  difference_size : unsigned_abs (f.re -ℤ f.im) ≤ F + F
  difference_size = abs_sub f.re f.im F F re_size im_size

  double_size : unsigned_abs (pos 2 *ℤ f.im) ≤ 2 * F
  double_size = abs_mul_le (pos 2) f.im 2 F (lit≤ tt) im_size

  product_1_size : unsigned_abs ((f.re +ℤ f.im) *ℤ distance a input) ≤ (F + F) * D
  product_1_size = abs_mul_le (f.re +ℤ f.im) (distance a input) (F + F) D sum_size distance_size

  product_2_size : unsigned_abs (f.im *ℤ a.velocity) ≤ F * 2 ^ 63
  product_2_size = abs_mul_le f.im a.velocity F (2 ^ 63) im_size velocity_size

  product_3_size : unsigned_abs ((f.re -ℤ f.im) *ℤ a.velocity) ≤ (F + F) * 2 ^ 63
  product_3_size = abs_mul_le (f.re -ℤ f.im) a.velocity (F + F) (2 ^ 63) difference_size velocity_size

  product_4_size : unsigned_abs (pos 2 *ℤ f.im *ℤ distance a input) ≤ 2 * F * D
  product_4_size = abs_mul_le (pos 2 *ℤ f.im) (distance a input) (2 * F) D double_size distance_size

  output_size : unsigned_abs (output_sum a input f) ≤ (F + F) * D + F * 2 ^ 63
  output_size = abs_add ((f.re +ℤ f.im) *ℤ distance a input) (f.im *ℤ a.velocity) ((F + F) * D) (F * 2 ^ 63) product_1_size product_2_size

  turned_size : unsigned_abs (velocity_sum a input f) ≤ (F + F) * 2 ^ 63 + 2 * F * D
  turned_size =
      abs_sub ((f.re -ℤ f.im) *ℤ a.velocity) (pos 2 *ℤ f.im *ℤ distance a input) ((F + F) * 2 ^ 63) (2 * F * D) product_3_size product_4_size

  moved_size : unsigned_abs (target input +ℤ round (output_sum a input f) unit) ≤ 2 ^ 55 + ((F + F) * D + F * 2 ^ 63 + unit / 2) / unit
  moved_size =
      abs_add (target input) (round (output_sum a input f) unit) (2 ^ 55) (((F + F) * D + F * 2 ^ 63 + unit / 2) / unit) (target_size input i)
      (abs_round_le (output_sum a input f) unit ((F + F) * D + F * 2 ^ 63) (lit< tt) output_size)

  step_fits : StepFits a input f
  step_fits =
      record {
        target_fits = room 0 (2 ^ 55) (target input) (target_size input i) tt;
        distance_fits = room 0 D (distance a input) distance_size tt;
        sum_fits = room 0 (F + F) (f.re +ℤ f.im) sum_size tt;
        difference_fits = room 0 (F + F) (f.re -ℤ f.im) difference_size tt;
        double_fits = room 0 (2 * F) (pos 2 *ℤ f.im) double_size tt;
        product_1_fits = room 0 ((F + F) * D) ((f.re +ℤ f.im) *ℤ distance a input) product_1_size tt;
        product_2_fits = room 0 (F * 2 ^ 63) (f.im *ℤ a.velocity) product_2_size tt;
        product_3_fits = room 0 ((F + F) * 2 ^ 63) ((f.re -ℤ f.im) *ℤ a.velocity) product_3_size tt;
        product_4_fits = room 0 (2 * F * D) (pos 2 *ℤ f.im *ℤ distance a input) product_4_size tt;
        output_fits = room (2 ^ 47) ((F + F) * D + F * 2 ^ 63) (output_sum a input f) output_size tt;
        velocity_fits = room (2 ^ 47) ((F + F) * 2 ^ 63 + 2 * F * D) (velocity_sum a input f) turned_size tt;
        moved_fits = room 0 (2 ^ 55 + ((F + F) * D + F * 2 ^ 63 + unit / 2) / unit) (target input +ℤ round (output_sum a input f) unit) moved_size tt;
      }

-- the promise: for any state of 64 bits, any input of 32 bits and any length
pub sums_fit : (a : Axis) (input : ℤ) (dt : ℕ) → FitsSigned w64 a.output → FitsSigned w64 a.velocity → FitsSigned w32 input → StepFits a input (factors dt)
sums_fit a input dt o v i = step_fits a input (factors dt) o v i (factors_small dt)

-- such a state and input, at their ends
such_a_state : FitsSigned w64 (negsuc (2 ^ 63 - 1)) × FitsSigned w64 (pos (2 ^ 63 - 1)) × FitsSigned w32 (negsuc (2 ^ 31 - 1))
such_a_state = (sfits_lit tt, sfits_lit tt, sfits_lit tt)

-- ---- a term of the series
pub record TermFits (angle n : ℕ) (s : Series) : Type 0 where
  pub divisor_fits : unit * n < 2 ^ 127
  pub down_fits : Room 0 (neg_ℤ s.last.re -ℤ s.last.im)
  pub up_fits : Room 0 (s.last.re -ℤ s.last.im)
  pub down_product_fits : Room (unit * n / 2) ((neg_ℤ s.last.re -ℤ s.last.im) *ℤ pos angle)
  pub up_product_fits : Room (unit * n / 2) ((s.last.re -ℤ s.last.im) *ℤ pos angle)
  pub next_tr_fits : Room 0 (term angle n s).last.re
  pub next_ti_fits : Room 0 (term angle n s).last.im
  pub next_re_fits : Room 0 (term angle n s).sum.re
  pub next_im_fits : Room 0 (term angle n s).sum.im

-- the same with a bound of what is added
room_le : (h H N : ℕ) (z : ℤ) → unsigned_abs z ≤ N → h ≤ H → T (nat_lt (N + H) (2 ^ 127)) → Room h z
room_le h H N z p q t = lt_of_le_of_lt (add-le-add p q) (lit< t)

module _ (angle n : ℕ) (small : angle ≤ 2 ^ 44) (few : n < 12) where
  abbrev before : Series
  before = terms angle n

  abbrev P : ℕ
  P = (2 ^ 48 + 2 ^ 48) * 2 ^ 44

  now_small : Small n (terms angle n)
  now_small = terms_small angle n small (le_of_lt few)

  next_small : Small (suc n) (term angle (suc n) (terms angle n))
  unfolding terms
  next_small = terms_small angle (suc n) small few

  up_size : unsigned_abs (before.last.re -ℤ before.last.im) ≤ 2 ^ 48 + 2 ^ 48
  up_size = abs_sub before.last.re before.last.im (2 ^ 48) (2 ^ 48) now_small.0 now_small.1

  down_size : unsigned_abs (neg_ℤ before.last.re -ℤ before.last.im) ≤ 2 ^ 48 + 2 ^ 48
  down_size = abs_sub (neg_ℤ before.last.re) before.last.im (2 ^ 48) (2 ^ 48) (rw (abs_neg before.last.re) now_small.0) now_small.1

  half_size : unit * suc n / 2 ≤ unit * 12 / 2
  half_size = div_mono (unit * suc n) (unit * 12) 2 (lit< tt) (mul-le-mul_left unit few)

  total_size : (suc n + 1) * 2 ^ 48 ≤ 13 * 2 ^ 48
  total_size = omega arith

  -- every number that a term computes
  pub term_fits : TermFits angle (suc n) (terms angle n)
  term_fits =
      record {
        divisor_fits = lt_of_le_of_lt (mul-le-mul_left unit few) (lit< tt);
        down_fits = room 0 (2 ^ 48 + 2 ^ 48) (neg_ℤ before.last.re -ℤ before.last.im) down_size tt;
        up_fits = room 0 (2 ^ 48 + 2 ^ 48) (before.last.re -ℤ before.last.im) up_size tt;
        down_product_fits =
            room_le (unit * suc n / 2) (unit * 12 / 2) P ((neg_ℤ before.last.re -ℤ before.last.im) *ℤ pos angle)
            (abs_mul_le (neg_ℤ before.last.re -ℤ before.last.im) (pos angle) (2 ^ 48 + 2 ^ 48) (2 ^ 44) down_size small) half_size tt;
        up_product_fits =
            room_le (unit * suc n / 2) (unit * 12 / 2) P ((before.last.re -ℤ before.last.im) *ℤ pos angle)
            (abs_mul_le (before.last.re -ℤ before.last.im) (pos angle) (2 ^ 48 + 2 ^ 48) (2 ^ 44) up_size small) half_size tt;
        next_tr_fits = room 0 (2 ^ 48) (term angle (suc n) before).last.re next_small.0 tt;
        next_ti_fits = room 0 (2 ^ 48) (term angle (suc n) before).last.im next_small.1 tt;
        next_re_fits = room 0 (13 * 2 ^ 48) (term angle (suc n) before).sum.re (le_trans next_small.2 total_size) tt;
        next_im_fits = room 0 (13 * 2 ^ 48) (term angle (suc n) before).sum.im (le_trans next_small.3 total_size) tt;
      }

-- ---- a square
pub record SquareFits (f : Factors) : Type 0 where
  pub re_square_fits : Room 0 (f.re *ℤ f.re)
  pub im_square_fits : Room 0 (f.im *ℤ f.im)
  pub difference_fits : Room (2 ^ 47) (f.re *ℤ f.re -ℤ f.im *ℤ f.im)
  pub double_fits : Room 0 (pos 2 *ℤ f.re)
  pub product_fits : Room (2 ^ 47) (pos 2 *ℤ f.re *ℤ f.im)

-- any square of parts below 2^56
square_fits : (f : Factors) → Below f → SquareFits f
square_fits f h =
    let r = le_of_lt h.0 in
    let i = le_of_lt h.1 in
    let d = abs_mul_le (pos 2) f.re 2 (2 ^ 56) (lit≤ tt) r in
    record {
      re_square_fits = room 0 (2 ^ 56 * 2 ^ 56) (f.re *ℤ f.re) (abs_mul_le f.re f.re (2 ^ 56) (2 ^ 56) r r) tt;
      im_square_fits = room 0 (2 ^ 56 * 2 ^ 56) (f.im *ℤ f.im) (abs_mul_le f.im f.im (2 ^ 56) (2 ^ 56) i i) tt;
      difference_fits =
          room (2 ^ 47) (max (2 ^ 56 * 2 ^ 56) (2 ^ 56 * 2 ^ 56)) (f.re *ℤ f.re -ℤ f.im *ℤ f.im)
          (abs_squares f.re f.im (2 ^ 56) (2 ^ 56) r i) tt;
      double_fits = room 0 (2 * 2 ^ 56) (pos 2 *ℤ f.re) d tt;
      product_fits = room (2 ^ 47) (2 * 2 ^ 56 * 2 ^ 56) (pos 2 *ℤ f.re *ℤ f.im) (abs_mul_le (pos 2 *ℤ f.re) f.im (2 * 2 ^ 56) (2 ^ 56) d i) tt;
    }

-- each of the squarings that a length below 8 ms takes
pub squares_fit : (angle k : ℕ) → k ≤ 10 → 2 ^ 43 ≤ angle → angle ≤ 2 ^ 44 → SquareFits (iterate k squared (series angle))
squares_fit angle k p q r = square_fits (iterate k squared (series angle)) (squares_small angle k p q r)

-- ---- the angle's product
pub angle_fits : (dt : ℕ) → dt < settling → dt * rate < 2 ^ 128
angle_fits dt p = lt_of_le_of_lt (mul-le-mul_right rate (le_of_lt p)) (lit< tt)

-- ---- all of `decay`, for a length below 8 ms
pub record DecayFits (dt : ℕ) : Type 0 where
  pub angle_product_fits : dt * rate < 2 ^ 128
  pub times : ℕ
  pub held : ℕ
  pub held_is : held ≡ dt * rate / unit / 2 ^ times
  pub is : decay dt ≡ iterate times squared (series held)
  pub terms_fit : (n : ℕ) → n < 12 → TermFits held (suc n) (terms held n)
  pub squares_fit : (k : ℕ) → k < times → SquareFits (iterate k squared (series held))

-- every length below 8 ms
pub decay_fits : (dt : ℕ) → dt < settling → DecayFits dt
unfolding iterate
decay_fits dt p = go (nat_le (dt * rate / unit) (2 ^ 44)) refl
  where
    go : (b : Bool) → nat_le (dt * rate / unit) (2 ^ 44) ≡ b → DecayFits dt
    go true e =
        let a = leb-true (dt * rate / unit) (2 ^ 44) e in
        record {
          angle_product_fits = angle_fits dt p;
          times = 0;
          held = dt * rate / unit;
          held_is = sym (div-one (dt * rate / unit));
          is = decay_keeps dt p ∙ reduced_stays 10 (dt * rate / unit) a;
          terms_fit = λ n few. term_fits (dt * rate / unit) n a few;
          squares_fit = λ k few. absurd (not-suc-le-zero few);
        }
    go false e =
        let h = halved 10 (dt * rate / unit) (le_trans (lit≤ tt) (le_of_lt (leb-false (dt * rate / unit) (2 ^ 44) e))) (le_of_lt (angle_small dt p)) in
        record {
          angle_product_fits = angle_fits dt p;
          times = h.times;
          held = h.held;
          held_is = h.held_is;
          is = decay_keeps dt p ∙ h.is;
          terms_fit = λ n few. term_fits h.held n h.below few;
          squares_fit = λ k few. squares_fit h.held k (le_trans (le_of_lt few) h.few) h.above h.below;
        }

-- ---- the answer: a state of 64 bits is rounded without loss
pub value_fits : (a : Axis) → FitsSigned w64 a.output → Room (2 ^ 23) a.output
value_fits a o = room (2 ^ 23) (2 ^ 63) a.output (nat_abs-le a.output o.sfits) tt

-- and `as i64` loses nothing
pub value_keeps : (a : Axis) → FitsSigned w64 a.output → value a ≡ round a.output signal
unfolding value
value_keeps a o =
    low_keeps_abs (round a.output signal)
    (lt_of_le_of_lt (abs_round_le a.output signal (2 ^ 63) (lit< tt) (nat_abs-le a.output o.sfits)) (lit< tt))
