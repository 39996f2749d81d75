-- With a constant input, 40 periods end exactly on it, from any state, and the axis stays there.
use Rattle.std.specs.Prelude.{◌≡◌, ℕ, zero, suc, ◌+◌, ◌-◌, ◌*◌, ◌/◌, ◌^◌, ◌<◌, ◌≤◌, Bool, true, false, ◌||◌, ◌⊎◌, List, [], ◌∷◌, length, ℤ, pos, negsuc, ◌+ℤ◌, ◌-ℤ◌, ◌*ℤ◌, FitsSigned, ◌==◌, unsigned_abs, refl, if◌then◌else◌}
use Rattle.std.proofs.Common.{sym, ap, ◌∙◌, inl, inr, zero-le, le_refl, le_trans, lt_of_le_of_lt, add-le-add, mul-le-mul_left, mul-le-mul_right, add-mul, zero-add, suc-add, add-sub_of_le, lt_trans, le_of_lt, le_of_eq, arith, lit<, lit≤, ne_eqb}
use Rattle.std.proofs.Math.IntN.{+ℤ_comm, +ℤ-neg_ℤ_cancel, +ℤ_invr, -ℤ-+ℤ_cancel, +ℤ_idl}
use Rattle.std.specs.Int.Signed.{nat_abs-le}
use Rattle.std.specs.Int.{w32, w64}
use Rattle.std.proofs.Math.Facts.{sfits_lit}
use Rattle.time.specs.declared.Time.{Time}
use Rattle.time.specs.Time.{ticks, lasts, time, since}
use Rattle.time.specs.Clock.{edge_ticks, edge}
use Rattle.analog.specs.declared.types.Axis.{Axis}
use Rattle.analog.specs.Round.{round, low_64, bits_64, signed_64}
use Rattle.analog.specs.Decay.{unit, period, term, terms, squared, reduced, decay, factors}
use Rattle.analog.specs.Axis.{target, stands_on, resumed, stepped, advanced, value}
use Rattle.analog.proofs.Theorems.Sizes.{div_mono, abs_add, abs_sub, abs_mul_le, abs_round_le, low_keeps_abs}
use Rattle.analog.specs.Theorems.Common.{common_pair}
use Rattle.analog.proofs.Theorems.Common.{factors_common, samples_apart}
use Rattle.analog.proofs.Theorems.Lands.{target_size, settled_true, same_refl, same_parts, value_target}

-- the axis advances at each moment of a list, with one input
unfoldable pub followed : Axis → List Time → (input : ℤ) → Axis
followed a [] input = a
followed a (t ∷ ts) input = followed (advanced a t input) ts input

-- one of the two lengths between samples
abbrev pub A_period : (t earlier : Time) → Type 0
A_period t earlier = (lasts (since t earlier) ≡ period) ⊎ (lasts (since t earlier) ≡ period + 1)

-- each moment is one of these lengths after the one before, the first after `last`
unfoldable pub Spaced : (last : Time) → List Time → Type 0
Spaced last [] = Unit
Spaced last (t ∷ ts) = A_period t last × Spaced t ts

-- ---- one step shrinks the distance and the velocity

-- at most M from the input, and no faster than M
abbrev Near : (M : ℕ) → Axis → (input : ℤ) → Type 0
Near M a input = (unsigned_abs (a.output -ℤ target input) ≤ M) × (unsigned_abs a.velocity ≤ M)

-- |re − im| + 2 |im| of the common factors, the greater of the two sums of factors: 0.3246 of one
abbrev weight : ℕ
weight = 91359715029292

-- the bound after a step: 0.3246 M + 1/2 at most
abbrev shrink : ℕ → ℕ
shrink M = (weight * M + 2 ^ 47) / 2 ^ 48

-- above any distance of an output of 64 bits from a target of 56 bits
abbrev most : ℕ
most = 2 ^ 63 + 2 ^ 55 + 1

-- one step leaves less than 2^62
shrink_small : (M : ℕ) → M ≤ most → shrink M < 2 ^ 62
shrink_small M p =
    let h : weight * M + 2 ^ 47 ≤ weight * most + 2 ^ 47 = add-le-add (mul-le-mul_left weight p) (le_refl (2 ^ 47)) in
    lt_of_le_of_lt (div_mono (weight * M + 2 ^ 47) (weight * most + 2 ^ 47) (2 ^ 48) (lit< tt) h) (lit< tt)

-- a number of at most two products, rounded, from the sizes of the factors
rounded : (z : ℤ) (A B M : ℕ) → unsigned_abs z ≤ A * M + B * M → A + B ≤ weight → unsigned_abs (round z unit) ≤ shrink M
rounded z A B M h t =
    let k : A * M + B * M ≤ weight * M = rw (← add-mul A B M) (mul-le-mul_right M t) in
    abs_round_le z unit (weight * M) (lit< tt) (le_trans h k)

-- a step with the common factors, from M
module _ (a : Axis) (now : Time) (input : ℤ) (M : ℕ) (fits : FitsSigned w32 input) (p : M ≤ most) (near : Near M a input) where
  abbrev d : ℤ
  d = a.output -ℤ target input

  abbrev v : ℤ
  v = a.velocity

  -- 5799871677828 and 24289896676780 of distance and velocity
  abbrev moved : ℤ
  moved = round (pos 5799871677828 *ℤ d +ℤ pos 24289896676780 *ℤ v) unit

  -- −42779921675732 and 48579793353560 of velocity and distance
  abbrev turned : ℤ
  turned = round (negsuc 42779921675731 *ℤ v -ℤ pos 48579793353560 *ℤ d) unit

  moved_size : unsigned_abs moved ≤ shrink M
  moved_size =
      rounded (pos 5799871677828 *ℤ d +ℤ pos 24289896676780 *ℤ v) 5799871677828 24289896676780 M
      (abs_add (pos 5799871677828 *ℤ d) (pos 24289896676780 *ℤ v) (5799871677828 * M) (24289896676780 * M)
      (abs_mul_le (pos 5799871677828) d 5799871677828 M (lit≤ tt) near.0) (abs_mul_le (pos 24289896676780) v 24289896676780 M (lit≤ tt) near.1))
      (lit≤ tt)

  turned_size : unsigned_abs turned ≤ shrink M
  turned_size =
      rounded (negsuc 42779921675731 *ℤ v -ℤ pos 48579793353560 *ℤ d) 42779921675732 48579793353560 M
      (abs_sub (negsuc 42779921675731 *ℤ v) (pos 48579793353560 *ℤ d) (42779921675732 * M) (48579793353560 * M)
      (abs_mul_le (negsuc 42779921675731) v 42779921675732 M (lit≤ tt) near.1) (abs_mul_le (pos 48579793353560) d 48579793353560 M (lit≤ tt) near.0))
      (lit≤ tt)

  -- 64 bits keep both
  sum_size : unsigned_abs (target input +ℤ moved) < 2 ^ 63
  sum_size =
      let h = abs_add (target input) moved (2 ^ 55) (shrink M) (target_size input fits) moved_size in
      let k = shrink_small M p in
      omega arith

  turned_keeps : low_64 turned ≡ turned
  turned_keeps = let k = shrink_small M p in let h = turned_size in low_keeps_abs turned (lt_of_le_of_lt h (lt_trans k (lit< tt)))

  stepped_is : stepped a now input common_pair ≡ record { at = now; output = target input +ℤ moved; velocity = turned }
  unfolding stepped
  stepped_is = same_parts now (low_keeps_abs (target input +ℤ moved) sum_size) turned_keeps

  -- what is left of the distance
  left : target input +ℤ moved -ℤ target input ≡ moved
  left = ap (λ z. z -ℤ target input) (+ℤ_comm (target input) moved) ∙ +ℤ-neg_ℤ_cancel moved (target input)

  stepped_near : Near (shrink M) (stepped a now input common_pair) input
  stepped_near = rw (stepped_is, left) (moved_size, turned_size)

-- an axis on the input without velocity is at most 0 from it
on_input : (M : ℕ) (a : Axis) (input : ℤ) → a.output ≡ target input → a.velocity ≡ pos 0 → Near M a input
on_input M a input e f = rw (e, f, +ℤ_invr (target input)) (zero-le, zero-le)

-- a period is not no time
not_none : (dt : ℕ) → (dt ≡ period) ⊎ (dt ≡ period + 1) → (dt == 0) ≡ false
not_none dt (inl e) = ne_eqb dt 0 (λ z. let h : period ≡ 0 = sym e ∙ z in omega arith)
not_none dt (inr e) = ne_eqb dt 0 (λ z. let h : period + 1 ≡ 0 = sym e ∙ z in omega arith)

-- an `advance` over a period shrinks the bound
advanced_near : (a : Axis) (t : Time) (input : ℤ) (M : ℕ) → FitsSigned w32 input → M ≤ most → A_period t a.at → Near M a input
    → Near (shrink M) (advanced a t input) input
unfolding advanced
advanced_near a t input M f p e near = rw (not_none (lasts (since t a.at)) e) (go (stands_on a input) refl)
  where
    go : (b : Bool) → stands_on a input ≡ b
        → Near (shrink M) (if b then resumed a t else stepped a t input (factors (lasts (since t a.at)))) input
    go true s = let h = settled_true a input s in on_input (shrink M) (resumed a t) input h.0 h.1
    go false s = rw (factors_common (lasts (since t a.at)) e) (stepped_near a t input M f p near)

-- an axis that has advanced stands at that moment
pub advanced_at : (a : Axis) (t : Time) (input : ℤ) → (advanced a t input).at ≡ t
unfolding advanced stepped
advanced_at a t input = go (lasts (since t a.at) == 0 || stands_on a input)
  where
    go : (b : Bool) → (if b then resumed a t else stepped a t input (factors (lasts (since t a.at)))).at ≡ t
    go true = refl
    go false = refl

-- ---- many steps

-- the bound after n steps
unfoldable shrunk : (n M : ℕ) → ℕ
shrunk zero M = M
shrunk (suc n) M = shrunk n (shrink M)

-- the bound shrinks once for each moment
followed_near : (ts : List Time) (a : Axis) (input : ℤ) (M : ℕ) → FitsSigned w32 input → M ≤ most → Spaced a.at ts → Near M a input
    → Near (shrunk (length ts) M) (followed a ts input) input
unfolding followed Spaced shrunk
followed_near [] a input M f p s near = near
followed_near (t ∷ ts) a input M f p s near =
    followed_near ts (advanced a t input) input (shrink M) f
    (le_of_lt (lt_trans (shrink_small M p) (lit< tt)))
    (rw (advanced_at a t input) s.1)
    (advanced_near a t input M f p s.0 near)

-- 40 steps leave nothing of the bound, and from nothing comes nothing
forty : shrunk 40 most ≡ 0
unfolding shrunk
forty = refl

nothing_left : (n : ℕ) → shrunk n 0 ≡ 0
unfolding shrunk
nothing_left zero = refl
nothing_left (suc n) = nothing_left n

-- m + n steps are m and then n
split : (m n M : ℕ) → shrunk (m + n) M ≡ shrunk n (shrunk m M)
unfolding shrunk
split zero n M = ap (λ (k : ℕ). shrunk k M) (zero-add n)
split (suc m) n M = ap (λ (k : ℕ). shrunk k M) (suc-add m n) ∙ split m n (shrink M)

-- 40 steps or more leave nothing
from_forty : (n : ℕ) → 40 ≤ n → shrunk n most ≡ 0
from_forty n p =
    ap (λ (k : ℕ). shrunk k most) (sym (add-sub_of_le p)) ∙ split 40 (n - 40) most
    ∙ ap (λ (k : ℕ). shrunk (n - 40) k) forty ∙ nothing_left (n - 40)

-- any state of 64 bits is near enough to begin
begin : (a : Axis) (input : ℤ) → FitsSigned w64 a.output → FitsSigned w64 a.velocity → FitsSigned w32 input → Near most a input
begin a input o v i = (
  le_trans (abs_sub a.output (target input) (2 ^ 63) (2 ^ 55) (nat_abs-le a.output o.sfits) (target_size input i)) (lit≤ tt),
  le_trans (nat_abs-le a.velocity v.sfits) (lit≤ tt),
)

-- at most 0 is 0
no_size : (z : ℤ) → unsigned_abs z ≤ 0 → z ≡ pos 0
no_size (pos n) p = ap pos (omega arith)
no_size (negsuc n) p = absurd (omega arith)

-- numbers at a distance of 0 are the same
no_distance : (a b : ℤ) → unsigned_abs (a -ℤ b) ≤ 0 → a ≡ b
no_distance a b p = sym (-ℤ-+ℤ_cancel a b) ∙ ap (λ z. z +ℤ b) (no_size (a -ℤ b) p) ∙ +ℤ_idl b

-- it stands on the input
abbrev pub On : Axis → (input : ℤ) → Type 0
On a input = (a.output ≡ target input) × (a.velocity ≡ pos 0)

-- the promise: 40 periods or more, from any state of 64 bits, with any input of 32 bits
pub settles : (a : Axis) (ts : List Time) (input : ℤ) → FitsSigned w64 a.output → FitsSigned w64 a.velocity → FitsSigned w32 input
    → Spaced a.at ts → 40 ≤ length ts → On (followed a ts input) input
settles a ts input o v i s n =
    let h = followed_near ts a input most i (le_refl most) s (begin a input o v i) in
    let e = from_forty (length ts) n in
    (no_distance (followed a ts input).output (target input) (rw e at h.0), no_size (followed a ts input).velocity (rw e at h.1))

-- and then reads as the input
pub settles_value : (a : Axis) (ts : List Time) (input : ℤ) → FitsSigned w64 a.output → FitsSigned w64 a.velocity → FitsSigned w32 input
    → Spaced a.at ts → 40 ≤ length ts → value (followed a ts input) ≡ input
settles_value a ts input o v i s n = value_target (followed a ts input) input (settles a ts input o v i s n).0 i

-- ---- it stays

-- the test for standing on the input holds
on_settled : (a : Axis) (input : ℤ) → On a input → stands_on a input ≡ true
on_settled a input h = rw (h.0, h.1, same_refl (target input))

-- the first of two where the second test holds
either : {A : Type 0} (b s : Bool) (x y : A) → s ≡ true → (if b || s then x else y) ≡ x
either true s x y e = refl
either false s x y e = rw e

-- from there an `advance` at any moment leaves output and velocity
pub stays : (a : Axis) (now : Time) (input : ℤ) → On a input → advanced a now input ≡ resumed a now
unfolding advanced
stays a now input h =
    either (lasts (since now a.at) == 0) (stands_on a input) (resumed a now) (stepped a now input (factors (lasts (since now a.at))))
    (on_settled a input h)

-- and so does any number of them
pub stays_on : (ts : List Time) (a : Axis) (input : ℤ) → On a input → On (followed a ts input) input
unfolding followed
stays_on [] a input h = h
stays_on (t ∷ ts) a input h = stays_on ts (advanced a t input) input (rw (stays a t input h) h)

-- ---- such moments: those of an axis's samples, four edges apart

-- k samples after the one at edge n
unfoldable pub samples : (s : Time) (n k : ℕ) → List Time
samples s n zero = []
samples s n (suc k) = edge s (n + 4) ∷ samples s (n + 4) k

-- there are k of them
pub samples_length : (s : Time) (n k : ℕ) → length (samples s n k) ≡ k
unfolding samples
samples_length s n zero = refl
samples_length s n (suc k) = ap suc (samples_length s (n + 4) k)

-- edges come in order
edge_mono : (n m : ℕ) → n ≤ m → edge_ticks n ≤ edge_ticks m
edge_mono n m p = div_mono (n * 2 ^ 64) (m * 2 ^ 64) 12000 (lit< tt) (mul-le-mul_right (2 ^ 64) p)

-- they are a period apart, where none wraps
pub samples_spaced : (s : Time) (n k : ℕ) → ticks s + edge_ticks (n + 4 * k) < 2 ^ 128 → Spaced (edge s n) (samples s n k)
unfolding Spaced samples
samples_spaced s n zero p = tt
samples_spaced s n (suc k) p =
    let e : n + 4 * suc k ≡ n + 4 + 4 * k = omega arith in
    let h : n + 4 ≤ n + 4 * suc k = omega arith in (
      samples_apart s n (lt_of_le_of_lt (add-le-add (le_refl (ticks s)) (edge_mono (n + 4) (n + 4 * suc k) h)) p),
      samples_spaced s (n + 4) k (lt_of_le_of_lt (le_of_eq (ap (λ (m : ℕ). ticks s + edge_ticks m) (sym e))) p),
    )

-- 40 samples of one axis with a constant input end on it, where no moment wraps
pub settles_sampled : (a : Axis) (s : Time) (n : ℕ) (input : ℤ) → FitsSigned w64 a.output → FitsSigned w64 a.velocity → FitsSigned w32 input
    → a.at ≡ edge s n → ticks s + edge_ticks (n + 160) < 2 ^ 128 → On (followed a (samples s n 40) input) input
settles_sampled a s n input o v i e p =
    settles a (samples s n 40) input o v i (rw e (samples_spaced s n 40 p)) (le_of_eq (sym (samples_length s n 40)))

-- such an axis, at an end of its range, and such moments
farthest : Axis
farthest = record { at = time 0; output = negsuc (2 ^ 63 - 1); velocity = pos (2 ^ 63 - 1) }

-- the theorem holds of them
such_a_start : On (followed farthest (samples (time 0) 0 40) (pos (2 ^ 31 - 1))) (pos (2 ^ 31 - 1))
unfolding farthest
such_a_start = settles_sampled farthest (time 0) 0 (pos (2 ^ 31 - 1)) (sfits_lit tt) (sfits_lit tt) (sfits_lit tt) refl (lit< tt)

-- computed: it is there after 21 samples, and after 20 it is not
reached : On (followed farthest (samples (time 0) 0 21) (pos (2 ^ 31 - 1))) (pos (2 ^ 31 - 1))
unfolding farthest followed samples round bits_64 signed_64 term terms squared reduced decay factors stepped advanced
reached = (refl, refl)

not_yet : (followed farthest (samples (time 0) 0 20) (pos (2 ^ 31 - 1))).velocity ≡ pos 1
unfolding farthest followed samples round bits_64 signed_64 term terms squared reduced decay factors stepped advanced
not_yet = refl
