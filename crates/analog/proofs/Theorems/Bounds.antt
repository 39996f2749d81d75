-- How large the series, its squares and the factors become: far below 64 bits.
use Rattle.std.specs.Prelude.{◌≡◌, ℕ, zero, suc, ◌+◌, ◌-◌, ◌*◌, ◌/◌, ◌^◌, ◌<◌, ◌≤◌, max, Bool, true, false, ◌&&◌, T, ℤ, pos, ◌+ℤ◌, ◌-ℤ◌, ◌*ℤ◌, neg_ℤ, nat_le, nat_lt, unsigned_abs, refl, if◌then◌else◌}
use Rattle.std.proofs.Common.{sym, ap, ◌∙◌, zero-le, suc-le-suc, le_trans, lt_of_le_of_lt, mul-le-mul_right, mul-pos, zero-lt-suc, mul_assoc, suc-add, le_of_lt, lt_trans, div-lt_iff_lt-mul, div-one, arith, lit<, lit≤, ltb→lt, ltb-true, ltb-false, leb-true, leb-false, lt-ltb, le-ltb, le-leb}
use Rattle.std.proofs.Math.Nat.{div-le_of_le-mul, pow-succ', div-div-eq-div-mul}
use Rattle.std.proofs.lemmas.Bool.{lt-leb}
use Rattle.laws.specs.Iterate.{iterate}
use Rattle.analog.specs.declared.types.Factors.{Factors}
use Rattle.analog.specs.declared.types.Series.{Series}
use Rattle.analog.specs.Round.{low_64}
use Rattle.analog.specs.Decay.{unit, rate, settling, period, term, terms, series, squared, reduced, decay, factors}
use Rattle.analog.specs.Theorems.Bounds.{Below}
use Rattle.analog.proofs.Theorems.Near.{abs_neg, abs_diff, round_signed}
use Rattle.analog.proofs.Theorems.Sizes.{abs_add, abs_sub, abs_mul_le, abs_round_le, abs_squares, low_keeps_abs, all_to, at_each, both_left, both_right}

-- ---- the terms

-- a term's two dividends, from bounds of the term before
up_product : (tr ti : ℤ) (angle A N : ℕ) → unsigned_abs tr ≤ N → unsigned_abs ti ≤ N → angle ≤ A → unsigned_abs ((tr -ℤ ti) *ℤ pos angle) ≤ (N + N) * A
up_product tr ti angle A N p q r = abs_mul_le (tr -ℤ ti) (pos angle) (N + N) A (abs_sub tr ti N N p q) r

down_product : (tr ti : ℤ) (angle A N : ℕ) → unsigned_abs tr ≤ N → unsigned_abs ti ≤ N → angle ≤ A → unsigned_abs ((neg_ℤ tr -ℤ ti) *ℤ pos angle) ≤ (N + N) * A
down_product tr ti angle A N p q r = up_product (neg_ℤ tr) ti angle A N (rw (abs_neg tr) p) q r

-- the bound of term k from the bound N of the term before, at an angle of at most 2^44
abbrev pub next_size : (k N : ℕ) → ℕ
next_size k N = ((N + N) * 2 ^ 44 + unit * k / 2) / (unit * k)

-- one term: its two parts, and the sums with it
module _ (angle n N R I : ℕ) (s : Series) (small : angle ≤ 2 ^ 44) (p : unsigned_abs s.last.re ≤ N) (q : unsigned_abs s.last.im ≤ N) where
  positive : 0 < unit * suc n
  positive = mul-pos (lit< tt) (zero-lt-suc n)

  term_tr : unsigned_abs (term angle (suc n) s).last.re ≤ next_size (suc n) N
  unfolding term
  term_tr =
      abs_round_le ((neg_ℤ s.last.re -ℤ s.last.im) *ℤ pos angle) (unit * suc n) ((N + N) * 2 ^ 44) positive
      (down_product s.last.re s.last.im angle (2 ^ 44) N p q small)

  term_ti : unsigned_abs (term angle (suc n) s).last.im ≤ next_size (suc n) N
  unfolding term
  term_ti =
      abs_round_le ((s.last.re -ℤ s.last.im) *ℤ pos angle) (unit * suc n) ((N + N) * 2 ^ 44) positive
      (up_product s.last.re s.last.im angle (2 ^ 44) N p q small)

  term_re : unsigned_abs s.sum.re ≤ R → unsigned_abs (term angle (suc n) s).sum.re ≤ R + next_size (suc n) N
  unfolding term
  term_re r = abs_add s.sum.re (term angle (suc n) s).last.re R (next_size (suc n) N) r term_tr

  term_im : unsigned_abs s.sum.im ≤ I → unsigned_abs (term angle (suc n) s).sum.im ≤ I + next_size (suc n) N
  unfolding term
  term_im r = abs_add s.sum.im (term angle (suc n) s).last.im I (next_size (suc n) N) r term_ti

-- no term is above 1
at_most_one : (n : ℕ) → next_size (suc n) (2 ^ 48) ≤ 2 ^ 48
at_most_one n = div-le_of_le-mul (unit * suc n) (omega arith)

-- the last term is at most 1, and the sums of n terms at most n + 1
abbrev pub Small : (n : ℕ) → Series → Type 0
Small n s = (unsigned_abs s.last.re ≤ 2 ^ 48) × (unsigned_abs s.last.im ≤ 2 ^ 48) × (unsigned_abs s.sum.re ≤ (n + 1) * 2 ^ 48) × (unsigned_abs s.sum.im ≤ (n + 1) * 2 ^ 48)

-- one more term
small_step : (angle n : ℕ) (s : Series) → angle ≤ 2 ^ 44 → Small n s → Small (suc n) (term angle (suc n) s)
small_step angle n s a h =
    let o = at_most_one n in
    let e : (n + 1) * 2 ^ 48 + 2 ^ 48 ≤ (suc n + 1) * 2 ^ 48 = omega arith in
    let re = term_re angle n (2 ^ 48) ((n + 1) * 2 ^ 48) 0 s a h.0 h.1 h.2 in
    let im = term_im angle n (2 ^ 48) 0 ((n + 1) * 2 ^ 48) s a h.0 h.1 h.3 in (
      le_trans (term_tr angle n (2 ^ 48) 0 0 s a h.0 h.1) o,
      le_trans (term_ti angle n (2 ^ 48) 0 0 s a h.0 h.1) o,
      omega arith,
      omega arith,
    )

-- any number of terms
small_terms : (angle n : ℕ) → angle ≤ 2 ^ 44 → Small n (terms angle n)
unfolding terms
small_terms angle zero a = (lit≤ tt, lit≤ tt, lit≤ tt, lit≤ tt)
small_terms angle (suc n) a = small_step angle n (terms angle n) a (small_terms angle n a)

-- the terms and the sums at an angle of at most a sixteenth
pub terms_small : (angle n : ℕ) → angle ≤ 2 ^ 44 → n ≤ 12 → Small n (terms angle n)
terms_small angle n a p = small_terms angle n a

-- ---- the sums at an angle from a thirty-second to a sixteenth

-- the bound of term n + 1, and of the sum of terms 2 to n + 1
unfoldable later : ℕ → ℕ
later zero = 2 ^ 44
later (suc n) = next_size (suc (suc n)) (later n)

unfoldable later_sum : ℕ → ℕ
later_sum zero = 0
later_sum (suc n) = later_sum n + later (suc n)

-- terms 2 to 12 add less than 0.0041 of one
twelve : later_sum 11 ≡ 1146792818606
unfolding later later_sum
twelve = refl

-- the first term is −angle and angle, exactly
exact : (angle : ℕ) → (2 ^ 48 * angle + 2 ^ 48 / 2) / 2 ^ 48 ≡ angle
exact angle = omega arith

first_tr : (angle : ℕ) → (terms angle 1).last.re ≡ neg_ℤ (pos angle)
unfolding term terms
first_tr angle = round_signed true (2 ^ 48 * angle) (2 ^ 48) (lit< tt) ∙ ap (λ (n : ℕ). neg_ℤ (pos n)) (exact angle)

first_ti : (angle : ℕ) → (terms angle 1).last.im ≡ pos angle
unfolding term terms
first_ti angle = round_signed false (2 ^ 48 * angle) (2 ^ 48) (lit< tt) ∙ ap pos (exact angle)

-- the sums after it
first_re : (angle : ℕ) → (terms angle 1).sum.re ≡ pos unit -ℤ pos angle
unfolding term terms
first_re angle = ap (λ z. pos unit +ℤ z) (first_tr angle)

first_im : (angle : ℕ) → (terms angle 1).sum.im ≡ pos (0 + angle)
unfolding term terms
first_im angle = ap (λ z. pos 0 +ℤ z) (first_ti angle)

-- the first term and the later ones, with the sums so far
abbrev Finer : (n : ℕ) → Series → Type 0
Finer n s =
    (unsigned_abs s.last.re ≤ later n) × (unsigned_abs s.last.im ≤ later n) × (unsigned_abs s.sum.re ≤ 2 ^ 48 - 2 ^ 43 + later_sum n)
    × (unsigned_abs s.sum.im ≤ 2 ^ 44 + later_sum n)

-- the first term
finer_first : (angle : ℕ) → 2 ^ 43 ≤ angle → angle ≤ 2 ^ 44 → Finer 0 (terms angle 1)
unfolding later later_sum
finer_first angle a b = (
  rw (first_tr angle, abs_neg (pos angle)) b,
  rw (first_ti angle) b,
  rw (first_re angle) (abs_diff unit angle (2 ^ 48 - 2 ^ 43) (omega arith) (omega arith)),
  rw (first_im angle) (omega arith),
)

-- one more term, from the second on
finer_step : (angle n : ℕ) (s : Series) → angle ≤ 2 ^ 44 → Finer n s → Finer (suc n) (term angle (suc (suc n)) s)
unfolding later later_sum
finer_step angle n s a h =
    let N = later n in
    let R = 2 ^ 48 - 2 ^ 43 + later_sum n in
    let I = 2 ^ 44 + later_sum n in
    let re = term_re angle (suc n) N R I s a h.0 h.1 h.2 in
    let im = term_im angle (suc n) N R I s a h.0 h.1 h.3 in (
      term_tr angle (suc n) N R I s a h.0 h.1,
      term_ti angle (suc n) N R I s a h.0 h.1,
      omega arith,
      omega arith,
    )

-- any number of terms
finer : (angle n : ℕ) → 2 ^ 43 ≤ angle → angle ≤ 2 ^ 44 → Finer n (terms angle (suc n))
unfolding terms
finer angle zero a b = finer_first angle a b
finer angle (suc n) a b = finer_step angle n (terms angle (suc n)) b (finer angle n a b)

-- the two sums of the series: at most 0.973 and 0.067
abbrev pub series_re : ℕ
series_re = 2 ^ 48 - 2 ^ 43 + 1146792818606

abbrev pub series_im : ℕ
series_im = 2 ^ 44 + 1146792818606

pub series_small : (angle : ℕ) → 2 ^ 43 ≤ angle → angle ≤ 2 ^ 44 → (unsigned_abs (series angle).re ≤ series_re) × (unsigned_abs (series angle).im ≤ series_im)
series_small angle a b =
    let h = finer angle 11 a b in
    (rw twelve at h.2, rw twelve at h.3)

-- these are the shares of one that are said
pub series_below : (series_re * 1000 < 973 * 2 ^ 48) × (series_im * 1000 < 67 * 2 ^ 48)
series_below = (lit< tt, lit< tt)

-- ---- the squares

-- bounds of a square's parts, from bounds of the parts
abbrev pub next_re : (a b : ℕ) → ℕ
next_re a b = (max (a * a) (b * b) + unit / 2) / unit

abbrev pub next_im : (a b : ℕ) → ℕ
next_im a b = (2 * a * b + unit / 2) / unit

-- both parts are within bounds
abbrev Within : (a b : ℕ) → Factors → Type 0
Within a b f = (unsigned_abs f.re ≤ a) × (unsigned_abs f.im ≤ b)

-- a square is within the next bounds
squared_within : (a b : ℕ) (f : Factors) → Within a b f → Within (next_re a b) (next_im a b) (squared f)
unfolding squared
squared_within a b f h = (
  abs_round_le (f.re *ℤ f.re -ℤ f.im *ℤ f.im) unit (max (a * a) (b * b)) (lit< tt) (abs_squares f.re f.im a b h.0 h.1),
  abs_round_le (pos 2 *ℤ f.re *ℤ f.im) unit (2 * a * b) (lit< tt)
      (abs_mul_le (pos 2 *ℤ f.re) f.im (2 * a) b (abs_mul_le (pos 2) f.re 2 a (lit≤ tt) h.0) h.1),
)

-- the bounds after k squarings
unfoldable after : ℕ → ℕ × ℕ
after zero = (series_re, series_im)
after (suc k) = (next_re (after k).0 (after k).1, next_im (after k).0 (after k).1)

-- k squarings are within the bounds after k
squares_within : (angle k : ℕ) → 2 ^ 43 ≤ angle → angle ≤ 2 ^ 44 → Within (after k).0 (after k).1 (iterate k squared (series angle))
unfolding iterate after
squares_within angle zero p q = series_small angle p q
squares_within angle (suc k) p q = squared_within (after k).0 (after k).1 (iterate k squared (series angle)) (squares_within angle k p q)

-- the bounds after k squarings are below 2^56
abbrev both_below : ℕ → Bool
both_below k = nat_lt (after k).0 (2 ^ 56) && nat_lt (after k).1 (2 ^ 56)

-- so they are up to ten
ten_below : T (all_to 10 both_below)
unfolding all_to after
ten_below = tt

-- so are both parts of the squares themselves
pub squares_small : (angle k : ℕ) → k ≤ 10 → 2 ^ 43 ≤ angle → angle ≤ 2 ^ 44 → Below (iterate k squared (series angle))
squares_small angle k p q r =
    let t = at_each 10 both_below ten_below k p in
    let h = squares_within angle k q r in (
      lt_of_le_of_lt h.0 (ltb→lt (after k).0 (2 ^ 56) (both_left (nat_lt (after k).0 (2 ^ 56)) (nat_lt (after k).1 (2 ^ 56)) t)),
      lt_of_le_of_lt h.1 (ltb→lt (after k).1 (2 ^ 56) (both_right (nat_lt (after k).0 (2 ^ 56)) (nat_lt (after k).1 (2 ^ 56)) t)),
    )

-- ---- the halvings

-- an angle of at most a sixteenth is not halved
pub reduced_stays : (most angle : ℕ) → angle ≤ 2 ^ 44 → reduced most angle ≡ series angle
unfolding reduced
reduced_stays zero angle p = refl
reduced_stays (suc most) angle p = rw (le-ltb (2 ^ 44) angle p)

-- a greater one is
pub reduced_halves : (most angle : ℕ) → 2 ^ 44 < angle → reduced (suc most) angle ≡ squared (reduced most (angle / 2))
unfolding reduced
reduced_halves most angle p = rw (lt-ltb (2 ^ 44) angle p)

-- half of at most twice b is at most b
half_le : (angle b : ℕ) → angle ≤ 2 * b → angle / 2 ≤ b
half_le angle b p = omega arith

-- an angle of at most 2^44 * 2^most is halved at most `most` times
abbrev pub limit : ℕ → ℕ
limit most = 2 ^ most * 2 ^ 44

-- one more halving allows twice the angle
limit_suc : (most : ℕ) → limit (suc most) ≡ 2 * limit most
limit_suc most = ap (λ (n : ℕ). n * 2 ^ 44) (pow-succ' 2 most) ∙ mul_assoc 2 (2 ^ most) (2 ^ 44)

-- a half is within the limit with one halving less
half_within : (most angle : ℕ) → angle ≤ limit (suc most) → angle / 2 ≤ limit most
half_within most angle p = half_le angle (limit most) (rw (limit_suc most) at p)

-- more halvings allowed change nothing
module _ (most k angle : ℕ) (rest : reduced (most + k) (angle / 2) ≡ reduced most (angle / 2)) where
  enough_go : (b : Bool) → nat_lt (2 ^ 44) angle ≡ b → reduced (suc (most + k)) angle ≡ reduced (suc most) angle
  enough_go true e =
      let a = ltb-true (2 ^ 44) angle e in
      reduced_halves (most + k) angle a ∙ ap squared rest ∙ sym (reduced_halves most angle a)
  enough_go false e =
      let a = ltb-false (2 ^ 44) angle e in
      reduced_stays (suc (most + k)) angle a ∙ sym (reduced_stays (suc most) angle a)

-- an angle within the limit needs no more halvings
enough : (most k angle : ℕ) → angle ≤ limit most → reduced (most + k) angle ≡ reduced most angle
enough zero k angle p = reduced_stays (0 + k) angle (omega arith) ∙ sym (reduced_stays 0 angle (omega arith))
enough (suc most) k angle p =
    ap (λ (n : ℕ). reduced n angle) (suc-add most k)
    ∙ enough_go most k angle (enough most k (angle / 2) (half_within most angle p)) (nat_lt (2 ^ 44) angle) refl

-- the angle of a length below 8 ms is below 2^54
pub angle_small : (dt : ℕ) → dt < settling → dt * rate / unit < 2 ^ 54
angle_small dt p = (div-lt_iff_lt-mul (lit< tt)).1 (lt_of_le_of_lt (mul-le-mul_right rate (le_of_lt p)) (lit< tt))

-- so ten halvings are enough
pub halved_enough : (dt k : ℕ) → dt < settling → reduced (10 + k) (dt * rate / unit) ≡ reduced 10 (dt * rate / unit)
halved_enough dt k p = enough 10 k (dt * rate / unit) (le_of_lt (angle_small dt p))

-- an angle above a thirty-second: what is squared is the series of its half, quarter, .., from a thirty-second to a sixteenth
pub record Halved (most angle : ℕ) : Type 0 where
  pub times : ℕ
  pub held : ℕ
  pub held_is : held ≡ angle / 2 ^ times
  pub few : times ≤ most
  pub above : 2 ^ 43 ≤ held
  pub below : held ≤ 2 ^ 44
  pub is : reduced most angle ≡ iterate times squared (series held)

-- a half divided k times more
halves : (angle k : ℕ) → angle / 2 / 2 ^ k ≡ angle / 2 ^ suc k
halves angle k = div-div-eq-div-mul angle 2 (2 ^ k) ∙ ap (λ (n : ℕ). angle / n) (sym (pow-succ' 2 k))

-- no halving
halved_none : (most angle : ℕ) → 2 ^ 43 ≤ angle → angle ≤ 2 ^ 44 → Halved most angle
unfolding iterate
halved_none most angle p q =
    record { times = 0; held = angle; held_is = sym (div-one angle); few = zero-le; above = p; below = q; is = reduced_stays most angle q }

-- one more halving
halved_once : (most angle : ℕ) → 2 ^ 44 < angle → Halved most (angle / 2) → Halved (suc most) angle
unfolding iterate
halved_once most angle p h =
    record {
      times = suc h.times;
      held = h.held;
      held_is = h.held_is ∙ halves angle h.times;
      few = suc-le-suc h.few;
      above = h.above;
      below = h.below;
      is = reduced_halves most angle p ∙ ap squared h.is;
    }

-- every angle above a thirty-second and within the limit
pub halved : (most angle : ℕ) → 2 ^ 43 ≤ angle → angle ≤ limit most → Halved most angle
halved zero angle p q = halved_none 0 angle p (omega arith)
halved (suc most) angle p q = go (nat_lt (2 ^ 44) angle) refl (λ r. halved most (angle / 2) r (half_within most angle q))
  where
    go : (b : Bool) → nat_lt (2 ^ 44) angle ≡ b → (2 ^ 43 ≤ angle / 2 → Halved most (angle / 2)) → Halved (suc most) angle
    go true e f = let a = ltb-true (2 ^ 44) angle e in halved_once most angle a (f (omega arith))
    go false e f = halved_none (suc most) angle p (ltb-false (2 ^ 44) angle e)

-- such an angle: that of a period, halved six times
such_an_angle : (period < settling) × (2 ^ 43 ≤ period * rate / unit / 2 ^ 6) × (period * rate / unit / 2 ^ 6 ≤ 2 ^ 44)
such_an_angle = (lit< tt, lit≤ tt, lit≤ tt)

-- ---- the factors

-- a series that is not squared
series_not_squared : (angle : ℕ) → angle ≤ 2 ^ 44 → Below (series angle)
series_not_squared angle p =
    let h = terms_small angle 12 p (lit≤ tt) in
    (lt_of_le_of_lt h.2 (lit< tt), lt_of_le_of_lt h.3 (lit< tt))

-- the halved and squared series of an angle below 2^54
reduced_small : (angle : ℕ) → angle < 2 ^ 54 → Below (reduced 10 angle)
reduced_small angle p = go (nat_le angle (2 ^ 44)) refl
  where
    go : (b : Bool) → nat_le angle (2 ^ 44) ≡ b → Below (reduced 10 angle)
    go true e = let a = leb-true angle (2 ^ 44) e in rw (reduced_stays 10 angle a) (series_not_squared angle a)
    go false e =
        let h = halved 10 angle (omega (arith, leb-false angle (2 ^ 44) e)) (le_of_lt p) in
        rw h.is (squares_small h.held h.times h.few h.above h.below)

-- 64 bits keep a number below 2^56
keeps : (z : ℤ) → unsigned_abs z < 2 ^ 56 → low_64 z ≡ z
keeps z p = low_keeps_abs z (lt_trans p (lit< tt))

-- 64 bits keep both parts
kept : (f : Factors) → Below f → ◌≡◌ {A = Factors} (record { re = low_64 f.re; im = low_64 f.im }) f
kept f h = rw (keeps f.re h.0, keeps f.im h.1)

-- a length below 8 ms: `as i64` loses nothing of either part
pub decay_keeps : (dt : ℕ) → dt < settling → decay dt ≡ reduced 10 (dt * rate / unit)
unfolding decay
decay_keeps dt p =
    rw (lt-leb settling dt p) (kept (reduced 10 (dt * rate / unit)) (reduced_small (dt * rate / unit) (angle_small dt p)))

-- a length of 8 ms or more leaves nothing
pub decay_nothing : (dt : ℕ) → settling ≤ dt → decay dt ≡ record { re = pos 0; im = pos 0 }
unfolding decay
decay_nothing dt p = rw (le-leb settling dt p)

-- the decay of any length
decay_small : (dt : ℕ) → Below (decay dt)
decay_small dt = go (nat_le settling dt) refl
  where
    go : (b : Bool) → nat_le settling dt ≡ b → Below (decay dt)
    go true e = rw (decay_nothing dt (leb-true settling dt e)) (lit< tt, lit< tt)
    go false e =
        let a = leb-false settling dt e in
        rw (decay_keeps dt a) (reduced_small (dt * rate / unit) (angle_small dt a))

-- both parts of the factors, for any length
pub factors_small : (dt : ℕ) → Below (factors dt)
unfolding factors
factors_small dt = go (nat_le period dt && nat_le dt (period + 1))
  where
    go : (b : Bool) → Below (if b then decay period else decay dt)
    go true = decay_small period
    go false = decay_small dt
