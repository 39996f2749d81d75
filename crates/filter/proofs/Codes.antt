-- What a push, a selection and a new filter do to each axis's list of last codes.
use mathlib.Core.Path.{◌≡◌, refl, ap, ◌∙◌}
use mathlib.Core.Bool.{true, false}
use mathlib.Core.List.{List, ◌∷◌}
use Prim.Native.Nat.{ℕ, zero, suc, ◌+◌, ◌-◌, ◌*◌, ◌%◌, ◌≤◌, ◌<◌}
use native.Mathlib.Omega.{arith}
use lib.IntN.{ℤ, pos}
use lib.ListN.{length, get_or, take, drop, set, replicate, length-set}
use Rattle.std.proofs.lemmas.List.{get_or-take, get_or-drop}
use lib.Seq.{get_or-set_same, get_or-set_other}
use borrow.Author.Tests.{lt-ltb, le-ltb}
use Rattle.filter.specs.declared.Ring.{Ring}
use Rattle.filter.specs.declared.Filter.{Filter}
use Rattle.filter.specs.Mean.{tabulate, ring, mean}
use Rattle.filter.specs.Filter.{window, empty, made, selected, ring_of, grown, place, count_with, pushed, last_codes, full, answered}
use Rattle.filter.proofs.Sums.{take_tabulate}

-- ---- rings
tabulate_ext : (n : ℕ) (f g : ℕ → ℤ) → ((k : ℕ) → k < n → f k ≡ g k) → tabulate n f ≡ tabulate n g
unfolding tabulate
tabulate_ext zero f g e = refl
tabulate_ext (suc n) f g e =
    let x : f 0 ≡ g 0 = e 0 (omega arith) in
    let y : tabulate n (λ k. f (suc k)) ≡ tabulate n (λ k. g (suc k)) = tabulate_ext n (λ k. f (suc k)) (λ k. g (suc k)) (λ k p. e (suc k) (omega arith)) in
    cc

tabulate_suc : (m : ℕ) (f : ℕ → ℤ) → tabulate (suc m) f ≡ f 0 ∷ tabulate m (λ k. f (suc k))
unfolding tabulate
tabulate_suc m f = refl

-- a list of m + 1 with a new first: the code, and then the others
tabulate_push : (m : ℕ) (f g : ℕ → ℤ) (code : ℤ) → f 0 ≡ code → ((k : ℕ) → k < m → f (suc k) ≡ g k)
    → tabulate (suc m) f ≡ take (suc m) (code ∷ tabulate (suc m) g)
tabulate_push m f g code e q =
    let x : tabulate m (λ k. f (suc k)) ≡ tabulate m g = tabulate_ext m (λ k. f (suc k)) g q in
    let y : take m (tabulate (suc m) g) ≡ tabulate m g = take_tabulate m (suc m) g (omega arith) in
    let z : tabulate (suc m) f ≡ f 0 ∷ tabulate m (λ k. f (suc k)) = tabulate_suc m f in
    z ∙ cc

-- a ring of the history is the ring of that slice of it, from 0 on
pub ring_lent : (h : List ℤ) (base n at : ℕ) → n ≡ 64 → ring (take n (drop base h)) 0 at ≡ ring h base at
unfolding ring
ring_lent h base n at e =
    tabulate_ext 64 (λ k. get_or (take n (drop base h)) (0 + (at + 64 - k) % 64) (pos 0)) (λ k. get_or h (base + (at + 64 - k) % 64) (pos 0))
    (λ k q.
    let i = (at + 64 - k) % 64 in
    let z : 0 + i ≡ i = omega arith in
    rw z (get_or-take n (drop base h) i (pos 0) (omega arith) ∙ get_or-drop base h i (pos 0)))

module _ (h : List ℤ) (a n : ℕ) (code : ℤ) (n<64 : n < 64) where
  -- the ring that is written
  ring_same : a * 64 + n < length h → ring (set h (a * 64 + n) code) (a * 64) n ≡ take 64 (code ∷ ring h (a * 64) ((n + 63) % 64))
  unfolding ring
  ring_same p =
      tabulate_push 63 (λ k. get_or (set h (a * 64 + n) code) (a * 64 + (n + 64 - k) % 64) (pos 0))
      (λ k. get_or h (a * 64 + ((n + 63) % 64 + 64 - k) % 64) (pos 0)) code
      (let e : (n + 64 - 0) % 64 ≡ n = omega arith in rw (e, get_or-set_same h (a * 64 + n) code (pos 0) p))
      (λ k q.
      let e : (n + 64 - suc k) % 64 ≡ ((n + 63) % 64 + 64 - k) % 64 = omega arith in
      get_or-set_other h (a * 64 + n) (a * 64 + (n + 64 - suc k) % 64) code (pos 0) (λ r. omega arith) ∙ rw e)

  -- another ring
  ring_other : (b at : ℕ) → (b ≡ a → ⊥) → ring (set h (a * 64 + n) code) (b * 64) at ≡ ring h (b * 64) at
  unfolding ring
  ring_other b at d =
      tabulate_ext 64 (λ k. get_or (set h (a * 64 + n) code) (b * 64 + (at + 64 - k) % 64) (pos 0))
      (λ k. get_or h (b * 64 + (at + 64 - k) % 64) (pos 0))
      (λ k q. get_or-set_other h (a * 64 + n) (b * 64 + (at + 64 - k) % 64) code (pos 0) (λ r. d (omega arith)))

-- ---- a filter's arrays have the lengths that its declaration says
pub record Sized (f : Filter) : Type 0 where
  pub codes : length f.history ≡ 192
  pub rings : length f.rings ≡ 3

pub sized_made : (bandwidth : ℕ) → Sized (made bandwidth)
sized_made bandwidth = record { codes = refl; rings = refl }

pub sized_pushed : (f : Filter) (axis : ℕ) (code : ℤ) → Sized f → Sized (pushed f axis code)
unfolding pushed
sized_pushed f axis code s = record { codes = rw length-set s.codes; rings = rw length-set s.rings }

-- ---- a push
module _ (f : Filter) (axis : ℕ) (code : ℤ) where
  -- the axis's ring has then grown
  pub ring_grown : length f.rings ≡ 3 → ring_of (pushed f axis code) axis ≡ grown (ring_of f axis)
  unfolding pushed
  ring_grown three = get_or-set_same f.rings (axis % 3) (grown (ring_of f axis)) empty (omega (arith, three))

  -- the newest code then stands where it was put
  pub newest_place : length f.rings ≡ 3 → (place (pushed f axis code) axis + 63) % 64 ≡ place f axis
  newest_place three = rw (ring_grown three) (omega arith)

  -- the answer: the code itself while there are fewer than the window, and else the mean of the window
  pub answered_code : count_with f axis < window f → answered f axis code ≡ code
  unfolding answered
  answered_code p = rw (lt-ltb (count_with f axis) (window f) p)

  pub answered_mean : window f ≤ count_with f axis → answered f axis code ≡ mean (window f) (last_codes (pushed f axis code) axis)
  unfolding answered
  answered_mean p = rw (le-ltb (count_with f axis) (window f) p)

  -- whether the window is full goes with that
  pub not_full : count_with f axis < window f → full f axis ≡ false
  unfolding full
  not_full p = rw (lt-ltb (count_with f axis) (window f) p)

  pub is_full : window f ≤ count_with f axis → full f axis ≡ true
  unfolding full
  is_full p = rw (le-ltb (count_with f axis) (window f) p)

  -- the mean as the code makes it
  pub answered_ring : length f.rings ≡ 3
      → window f ≤ count_with f axis
      → answered f axis code
      ≡ mean (window f) (ring (set f.history (axis % 3 * 64 + place f axis) code) (axis % 3 * 64) (place f axis))
  unfolding pushed
  answered_ring three p = answered_mean p ∙ rw (newest_place three)

module _ (f : Filter) (axis : ℕ) (code : ℤ) (s : Sized f) where
  -- the code is put in front, and the oldest dropped
  pub push_codes : last_codes (pushed f axis code) axis ≡ take 64 (code ∷ last_codes f axis)
  unfolding pushed
  push_codes = rw (newest_place f axis code s.rings) (ring_same f.history (axis % 3) (place f axis) code (omega arith) (omega (arith, s.codes)))

  -- one more is counted, 64 at most
  pub push_count : (ring_of (pushed f axis code) axis).count ≡ count_with f axis
  push_count = ap (λ (r : Ring). r.count) (ring_grown f axis code s.rings)

  -- another axis keeps its codes and its count
  module _ (other : ℕ) (apart : other % 3 ≡ axis % 3 → ⊥) where
    pub push_keeps_codes : last_codes (pushed f axis code) other ≡ last_codes f other
    unfolding pushed
    push_keeps_codes =
        rw (get_or-set_other f.rings (axis % 3) (other % 3) (grown (ring_of f axis)) empty apart)
        (ring_other f.history (axis % 3) (place f axis) code (omega arith) (other % 3) ((place f other + 63) % 64) apart)

    pub push_keeps_count : (ring_of (pushed f axis code) other).count ≡ (ring_of f other).count
    unfolding pushed
    push_keeps_count = ap (λ (r : Ring). r.count) (get_or-set_other f.rings (axis % 3) (other % 3) (grown (ring_of f axis)) empty apart)

-- ---- a selection keeps every list, and a new filter's lists are zeros
pub select_keeps_codes : (f : Filter) (bandwidth axis : ℕ) → last_codes (selected f bandwidth) axis ≡ last_codes f axis
select_keeps_codes f bandwidth axis = refl

pub same_everywhere : {A : Type 0} (x : A) (n i : ℕ) → get_or (replicate n x) i x ≡ x
same_everywhere x zero i = refl
same_everywhere x (suc n) zero = refl
same_everywhere x (suc n) (suc i) = same_everywhere x n i

all_zeros : tabulate 64 (λ k. pos 0) ≡ replicate 64 (pos 0)
unfolding tabulate
all_zeros = refl

pub new_codes : (bandwidth axis : ℕ) → last_codes (made bandwidth) axis ≡ replicate 64 (pos 0)
unfolding ring
new_codes bandwidth axis =
    let place : ℕ → ℕ = λ k. axis % 3 * 64 + (((get_or (replicate 3 empty) (axis % 3) empty).next % 64 + 63) % 64 + 64 - k) % 64 in
    tabulate_ext 64 (λ k. get_or (replicate 192 (pos 0)) (place k) (pos 0)) (λ k. pos 0) (λ k p. same_everywhere (pos 0) 192 (place k)) ∙ all_zeros
