-- A filter answers as 01 says, whatever was done to it before: each push on each of the three axes and each selection, in any order and number.
--
use mathlib.Core.Path.{◌≡◌, refl, sym, ap, ◌∙◌}
use mathlib.Core.Bool.{Bool, true, false, cond, not}
use mathlib.Core.List.{List, [], ◌∷◌, ◌++◌}
use Prim.Native.Nat.{ℕ, ◌+◌, ◌%◌, ◌^◌, ◌≤◌, min}
use native.Mathlib.Omega.{arith}
use lib.Dec.{ltb, eqb, lit≤}
use borrow.Author.Tests.{ltb-true, ltb-false, eq-eqb, eqb-true, eqb-false}
use Rattle.std.proofs.lemmas.Bool.{true≢false, false≢true}
use lib.IntN.{ℤ, pos}
use lib.ListN.{length, take, replicate}
use lib.Seq.{take-take, take-append-le}
use Rattle.filter.specs.declared.Ring.{Ring}
use Rattle.filter.specs.declared.Filter.{Filter}
use Rattle.filter.specs.Mean.{mean}
use Rattle.filter.specs.Filter.{shift_of, window, empty, ring_of, count_with, pushed, last_codes, full, answered}
use Rattle.filter.specs.Operations.{Operation, push, select, after, codes_on, bandwidth_of, answer, is_mean}
use Rattle.filter.proofs.Codes.{Sized, sized_made, sized_pushed, push_codes, push_count, push_keeps_codes, push_keeps_count, new_codes, same_everywhere, answered_code, answered_mean, not_full, is_full}
use Rattle.filter.proofs.Sums.{window_le}

pub sized : (bandwidth : ℕ) (earlier : List Operation) → Sized (after bandwidth earlier)
unfolding after
sized bandwidth [] = sized_made bandwidth
sized bandwidth (push axis code ∷ earlier) = sized_pushed (after bandwidth earlier) axis code (sized bandwidth earlier)
sized bandwidth (select b ∷ earlier) = let s = sized bandwidth earlier in record { codes = s.codes; rings = s.rings }

-- the shift is that of the bandwidth last selected
pub shift_is : (bandwidth : ℕ) (earlier : List Operation) → (after bandwidth earlier).shift ≡ shift_of (bandwidth_of bandwidth earlier)
unfolding after bandwidth_of pushed
shift_is bandwidth [] = refl
shift_is bandwidth (push axis code ∷ earlier) = shift_is bandwidth earlier
shift_is bandwidth (select b ∷ earlier) = refl

-- ---- the last 64 codes are the first of the codes pushed, and then zeros; the count is theirs, 64 at most
pub record Holds (f : Filter) (axis : ℕ) (codes : List ℤ) : Type 0 where
  pub last : last_codes f axis ≡ take 64 (codes ++ replicate 64 (pos 0))
  pub count : (ring_of f axis).count ≡ min (length codes) 64

holds_push : (f : Filter) (a axis : ℕ) (code : ℤ) (codes : List ℤ) → Sized f → Holds f axis codes
    → (t : Bool) → eqb (a % 3) (axis % 3) ≡ t → Holds (pushed f a code) axis (cond t (code ∷ codes) codes)
holds_push f a axis code codes s h true e =
    let q : a % 3 ≡ axis % 3 = eqb-true (a % 3) (axis % 3) e in
    let all = codes ++ replicate 64 (pos 0) in
    let last : last_codes (pushed f a code) axis ≡ take 64 (code ∷ last_codes f axis) = rw q at (push_codes f a code s) in
    let count : (ring_of (pushed f a code) axis).count ≡ min ((ring_of f axis).count + 1) 64 = rw q at (push_count f a code s) in
    record {
      last = last ∙ rw h.last (ap (λ (l : List ℤ). code ∷ l) (take-take 63 64 all (lit≤ tt)));
      count = count ∙ rw h.count (omega arith);
    }
holds_push f a axis code codes s h false e =
    let apart : axis % 3 ≡ a % 3 → ⊥ = λ q. eqb-false (a % 3) (axis % 3) e (sym q) in
    record {
      last = push_keeps_codes f a code s axis apart ∙ h.last;
      count = push_keeps_count f a code s axis apart ∙ h.count;
    }

pub holds : (bandwidth axis : ℕ) (earlier : List Operation) → Holds (after bandwidth earlier) axis (codes_on axis earlier)
unfolding after codes_on
holds bandwidth axis [] = record { last = new_codes bandwidth axis; count = ap (λ (r : Ring). r.count) (same_everywhere empty 3 (axis % 3)) }
holds bandwidth axis (push a code ∷ earlier) =
    holds_push (after bandwidth earlier) a axis code (codes_on axis earlier) (sized bandwidth earlier) (holds bandwidth axis earlier) (eqb (a % 3) (axis % 3)) refl
holds bandwidth axis (select b ∷ earlier) = let h = holds bandwidth axis earlier in record { last = h.last; count = h.count }

-- ---- the answers
answers : (f : Filter) (axis : ℕ) (code : ℤ) (codes : List ℤ) → Sized f → Holds f axis codes
    → (t : Bool) → ltb (length (code ∷ codes)) (window f) ≡ t
    → answered f axis code ≡ cond t code (mean (window f) (code ∷ codes))
unfolding mean
answers f axis code codes s h true e =
    let few = ltb-true (length (code ∷ codes)) (window f) e in
    answered_code f axis code (rw h.count (omega (arith, window_le (min f.shift 6) (omega arith))))
answers f axis code codes s h false e =
    let w = window f in
    let enough : w ≤ length (code ∷ codes) = ltb-false (length (code ∷ codes)) w e in
    let most : w ≤ 64 = omega (arith, window_le (min f.shift 6) (omega arith)) in
    let then = holds_push f axis axis code codes s h true (eq-eqb (axis % 3) (axis % 3) refl) in
    answered_mean f axis code (rw h.count (omega arith))
    ∙ rw (then.last, take-take w 64 (code ∷ codes ++ replicate 64 (pos 0)) most, take-append-le w (code ∷ codes) (replicate 64 (pos 0)) enough)

-- the answer to a code, after a new filter and any operations: 01's answer for the bandwidth in force and the codes pushed on that axis
pub answers_as_said : (bandwidth : ℕ) (earlier : List Operation) (axis : ℕ) (code : ℤ)
    → answered (after bandwidth earlier) axis code ≡ answer (2 ^ shift_of (bandwidth_of bandwidth earlier)) code (codes_on axis earlier)
unfolding answer
answers_as_said bandwidth earlier axis code =
    let f = after bandwidth earlier in let codes = codes_on axis earlier in let b = bandwidth_of bandwidth earlier in
    let w : min (shift_of b) 6 ≡ shift_of b = omega arith in
    answers f axis code codes (sized bandwidth earlier) (holds bandwidth axis earlier) (ltb (length (code ∷ codes)) (window f)) refl
    ∙ rw (shift_is bandwidth earlier, w)

-- ---- whether the answer is a mean

-- the window is full exactly where the answer is the mean of the last window codes; else the answer is the code itself
module _ (f : Filter) (axis : ℕ) (code : ℤ) where
  pub mean_where_full : full f axis ≡ true → answered f axis code ≡ mean (window f) (last_codes (pushed f axis code) axis)
  unfolding full
  mean_where_full e = go (ltb (count_with f axis) (window f)) refl e
    where
      go : (t : Bool) → ltb (count_with f axis) (window f) ≡ t → not t ≡ true → answered f axis code ≡ mean (window f) (last_codes (pushed f axis code) axis)
      go true p q = absurd (false≢true q)
      go false p q = answered_mean f axis code (ltb-false (count_with f axis) (window f) p)

  pub code_where_not : full f axis ≡ false → answered f axis code ≡ code
  unfolding full
  code_where_not e = go (ltb (count_with f axis) (window f)) refl e
    where
      go : (t : Bool) → ltb (count_with f axis) (window f) ≡ t → not t ≡ false → answered f axis code ≡ code
      go true p q = answered_code f axis code (ltb-true (count_with f axis) (window f) p)
      go false p q = absurd (true≢false q)

fullness : (f : Filter) (axis : ℕ) (code : ℤ) (codes : List ℤ) → Holds f axis codes
    → (t : Bool) → ltb (length (code ∷ codes)) (window f) ≡ t → full f axis ≡ not t
fullness f axis code codes h true e =
    let few = ltb-true (length (code ∷ codes)) (window f) e in
    not_full f axis code (rw h.count (omega (arith, window_le (min f.shift 6) (omega arith))))
fullness f axis code codes h false e =
    let enough : window f ≤ length (code ∷ codes) = ltb-false (length (code ∷ codes)) (window f) e in
    let most : window f ≤ 64 = omega (arith, window_le (min f.shift 6) (omega arith)) in
    is_full f axis code (rw h.count (omega arith))

-- after a new filter and any operations: 01's word for the bandwidth in force and the codes pushed on that axis
pub full_as_said : (bandwidth : ℕ) (earlier : List Operation) (axis : ℕ) (code : ℤ)
    → full (after bandwidth earlier) axis ≡ is_mean (2 ^ shift_of (bandwidth_of bandwidth earlier)) code (codes_on axis earlier)
unfolding is_mean
full_as_said bandwidth earlier axis code =
    let f = after bandwidth earlier in let codes = codes_on axis earlier in let b = bandwidth_of bandwidth earlier in
    let w : min (shift_of b) 6 ≡ shift_of b = omega arith in
    fullness f axis code codes (holds bandwidth axis earlier) (ltb (length (code ∷ codes)) (window f)) refl
    ∙ rw (shift_is bandwidth earlier, w)

-- ---- computed: window 4 is full with the fourth code; M5's case, window 2 selected after three codes at window 1, is full at once; window 1 always is
abbrev zero_code : Operation
zero_code = push 1 (pos 0)

pub full_with_the_fourth : (full (after 4 []) 1 ≡ false) × (full (after 4 (zero_code ∷ [])) 1 ≡ false) × (full (after 4 (zero_code ∷ zero_code ∷ [])) 1 ≡ false)
    × (full (after 4 (zero_code ∷ zero_code ∷ zero_code ∷ [])) 1 ≡ true)
unfolding full after pushed
full_with_the_fourth = (refl, refl, refl, refl)

pub full_after_select : full (after 6 (select 5 ∷ push 0 (pos 9) ∷ push 0 (pos 7) ∷ push 0 (pos 5) ∷ [])) 0 ≡ true
unfolding full after pushed
full_after_select = refl

pub one_is_full : full (after 6 []) 2 ≡ true
unfolding full after
one_is_full = refl
