-- Sums of codes: one more code, straight runs of a list and the window of a ring.
use mathlib.Core.Path.{◌≡◌, refl, sym, ap, ◌∙◌}
use mathlib.Core.List.{List, [], ◌∷◌}
use Prim.Native.Nat.{ℕ, zero, suc, ◌+◌, ◌-◌, ◌*◌, ◌%◌, ◌^◌, ◌≤◌, ◌<◌, min}
use native.Mathlib.Nat.{one-mul, add-zero, add-suc}
use lib.Pow.{shl_exact, pow_mono, pow_pos}
use native.Mathlib.Numerals.{add-one}
use native.Mathlib.Omega.{arith}
use lib.IntN.{ℤ, pos, ◌+ℤ◌, +ℤ_idl, +ℤ_idr, +ℤ_assoc, +ℤ_comm}
use lib.ListN.{get_or, take, drop, length}
use Rattle.std.proofs.lemmas.List.{length-take}
use lib.Seq.{take-nil}
use lib.Signed.{mag, shr_z}
use mir.Syntax.{w16, w32}
use mir.Val.{to_z, of_z, SFits}
use Rattle.laws.specs.Signed.{Reach, holds, back, reach_add, reach_shr}
use Rattle.filter.specs.Mean.{tabulate, ring, sumZ}

-- a code, widened to 32 bits
pub wide : {z : ℤ} → Reach z (2 ^ 15) → to_z w32 (of_z w32 (to_z w16 (of_z w16 z))) ≡ z
wide r = rw (back w16 r tt, back w32 r tt)

-- ---- a run of a list
-- the sum of a list with one element more, or 0 past its end
sum_take : (xs : List ℤ) (n : ℕ) → sumZ (take (suc n) xs) ≡ sumZ (take n xs) +ℤ get_or xs n (pos 0)
unfolding sumZ
sum_take [] zero = refl
sum_take [] (suc n) = refl
sum_take (x ∷ xs) zero = +ℤ_idr x ∙ sym (+ℤ_idl x)
sum_take (x ∷ xs) (suc n) = ap (λ (y : ℤ). x +ℤ y) (sum_take xs n) ∙ sym (+ℤ_assoc x (sumZ (take n xs)) (get_or xs n (pos 0)))

-- the same run, from its end down
take_suc_drop : (h : List ℤ) (from n : ℕ) → sumZ (take (suc n) (drop from h)) ≡ get_or h from (pos 0) +ℤ sumZ (take n (drop (suc from) h))
unfolding sumZ
take_suc_drop [] zero n = rw take-nil
take_suc_drop [] (suc from) n = rw take-nil
take_suc_drop (x ∷ h) zero n = refl
take_suc_drop (x ∷ h) (suc from) n = take_suc_drop h from n

sum_tabulate : (n : ℕ) (f : ℕ → ℤ) → sumZ (tabulate (suc n) f) ≡ sumZ (tabulate n f) +ℤ f n
unfolding tabulate sumZ
sum_tabulate zero f = +ℤ_idr (f 0) ∙ sym (+ℤ_idl (f 0))
sum_tabulate (suc n) f = ap (λ (y : ℤ). f 0 +ℤ y) (sum_tabulate n (λ k. f (suc k))) ∙ sym (+ℤ_assoc (f 0) (sumZ (tabulate n (λ k. f (suc k)))) (f (suc n)))

-- n codes, of which the newest stands just below `top`
pub run_down : (h : List ℤ) (top n : ℕ) (f : ℕ → ℤ) → n ≤ top → ((k : ℕ) → k < n → f k ≡ get_or h (top - suc k) (pos 0))
    → sumZ (tabulate n f) ≡ sumZ (take n (drop (top - n) h))
unfolding tabulate sumZ
run_down h top zero f p e = refl
run_down h top (suc n) f p e =
    let below : sumZ (tabulate n f) ≡ sumZ (take n (drop (top - n) h)) = run_down h top n f (omega arith) (λ k q. e k (omega arith)) in
    let next : suc (top - suc n) ≡ top - n = omega arith in
    let first : sumZ (take (suc n) (drop (top - suc n) h)) ≡ get_or h (top - suc n) (pos 0) +ℤ sumZ (take n (drop (top - n) h)) =
    rw (take_suc_drop h (top - suc n) n, next) in
    sum_tabulate n f ∙ rw (below, e n (omega arith), first) (+ℤ_comm (sumZ (take n (drop (top - n) h))) (get_or h (top - suc n) (pos 0)))

-- a sum of n codes and one more, z: it reaches from -32768 to 32767 a code
one_more : (n : ℕ) (t z : ℤ) → (n ≡ 0 → t ≡ pos 0) → mag t ≤ n * 32768 - 1 → Reach z (2 ^ 15) → mag (t +ℤ z) ≤ (n + 1) * 32768 - 1
one_more zero t z o p q = rw (o refl, +ℤ_idl z) (omega (arith, q.reach))
one_more (suc n) t z o p q = let r : Reach t (suc n * 32768) = record { reach = omega arith } in omega (arith, (reach_add r q).reach)

-- one turn of the loop over some codes: the sum with one more, and how far it reaches
module _ (xs : List ℤ) (n : ℕ) (t : ℤ) (code : Reach (get_or xs n (pos 0)) (2 ^ 15)) (sum : t ≡ sumZ (take n xs)) (far : mag t ≤ n * 32768 - 1) (few : n < 64) where
  none : n ≡ 0 → t ≡ pos 0
  unfolding sumZ
  none e = sum ∙ ap (λ (k : ℕ). sumZ (take k xs)) e

  more : mag (t +ℤ get_or xs n (pos 0)) ≤ (n + 1) * 32768 - 1
  more = one_more n t (get_or xs n (pos 0)) none far code

  back_32 : to_z w32 (of_z w32 (t +ℤ to_z w32 (of_z w32 (to_z w16 (of_z w16 (get_or xs n (pos 0))))))) ≡ t +ℤ get_or xs n (pos 0)
  back_32 = let r : Reach (t +ℤ get_or xs n (pos 0)) (2 ^ 31) = record { reach = omega (arith, more) } in rw (wide code, back w32 r tt)

  pub turn : (to_z w32 (of_z w32 (t +ℤ to_z w32 (of_z w32 (to_z w16 (of_z w16 (get_or xs n (pos 0))))))) ≡ sumZ (take (n + 1) xs))
      × (mag (to_z w32 (of_z w32 (t +ℤ to_z w32 (of_z w32 (to_z w16 (of_z w16 (get_or xs n (pos 0)))))))) ≤ (n + 1) * 32768 - 1)
  turn = rw (back_32, add-one) (rw sum (sym (sum_take xs n)), omega (arith, more))

-- ---- the window of a ring
sum_split : (m n : ℕ) (f : ℕ → ℤ) → sumZ (tabulate (m + n) f) ≡ sumZ (tabulate m f) +ℤ sumZ (tabulate n (λ k. f (m + k)))
unfolding tabulate sumZ
sum_split m zero f = rw (add-zero, +ℤ_idr)
sum_split m (suc n) f =
    rw (add-suc, sum_tabulate (m + n) f, sum_split m n f, sum_tabulate n (λ k. f (m + k)), +ℤ_assoc)

pub take_tabulate : (n m : ℕ) (f : ℕ → ℤ) → n ≤ m → take n (tabulate m f) ≡ tabulate n f
unfolding tabulate
take_tabulate zero m f p = refl
take_tabulate (suc n) zero f p = absurd (omega arith)
take_tabulate (suc n) (suc m) f p = ap (λ (l : List ℤ). f 0 ∷ l) (take_tabulate n m (λ k. f (suc k)) (omega arith))

-- the codes at the newest one's place and below it, and those from the ring's end
pub two_runs : (h : List ℤ) (at near far : ℕ) → at < 64 → near ≤ at + 1 → (0 < far → near ≡ at + 1) → near + far ≤ 64
    → sumZ (take (near + far) (ring h 0 at)) ≡ sumZ (take near (drop (at + 1 - near) h)) +ℤ sumZ (take far (drop (64 - far) h))
unfolding ring
two_runs h at near far l p q few =
    let f : ℕ → ℤ = λ k. get_or h (0 + (at + 64 - k) % 64) (pos 0) in
    let run1 : sumZ (tabulate near f) ≡ sumZ (take near (drop (at + 1 - near) h)) =
    run_down h (at + 1) near f (omega arith) (λ k r. ap (λ (n : ℕ). get_or h n (pos 0)) (omega arith)) in
    let run2 : sumZ (tabulate far (λ k. f (near + k))) ≡ sumZ (take far (drop (64 - far) h)) =
    run_down h 64 far (λ k. f (near + k)) (omega arith) (λ k r. let e = q (omega arith) in ap (λ (n : ℕ). get_or h n (pos 0)) (omega arith)) in
    rw (take_tabulate (near + far) 64 f few, sum_split near far f, run1, run2)

-- the two sums of the code are that of the window
module _ (h : List ℤ) (at window near : ℕ) (l : at < 64) (w : 1 ≤ window) (x : window ≤ 64) (e : near ≡ min window (at + 1)) (s t : ℤ) where
  abbrev first : List ℤ
  first = take (at + 1 - (at + 1 - near)) (drop (at + 1 - near) h)

  abbrev second : List ℤ
  second = take (64 - (64 - (window - near))) (drop (64 - (window - near)) h)

  module _ (p : s ≡ sumZ first) (q : mag s ≤ length first * 32768 - 1) (u : t ≡ sumZ second) (v : mag t ≤ length second * 32768 - 1) where
    near_is : at + 1 - (at + 1 - near) ≡ near
    near_is = omega arith

    far_is : 64 - (64 - (window - near)) ≡ window - near
    far_is = omega arith

    first_le : length first ≤ near
    first_le = omega (arith, length-take (at + 1 - (at + 1 - near)) (drop (at + 1 - near) h))

    second_le : length second ≤ window - near
    second_le = omega (arith, length-take (64 - (64 - (window - near))) (drop (64 - (window - near)) h))

    no_second : (far : ℕ) → window - near ≡ far → far ≡ 0 → t ≡ pos 0
    unfolding sumZ
    no_second far d z = u ∙ rw (far_is, d, z)

    both_le : (far : ℕ) → window - near ≡ far → mag (s +ℤ t) < window * 32768
    both_le zero d = rw (no_second 0 d refl, +ℤ_idr s) (omega (arith, first_le))
    both_le (suc far) d =
        let m : Reach s (near * 32768) = record { reach = omega (arith, first_le) } in
        let n : Reach t (suc far * 32768) = record { reach = omega (arith, second_le) } in
        omega (arith, (reach_add m n).reach)

    pub both : (s +ℤ t ≡ sumZ (take window (ring h 0 at))) × (mag (s +ℤ t) < window * 32768)
    both =
        let k : near + (window - near) ≡ window = omega arith in
        let r = two_runs h at near (window - near) l (omega arith) (λ z. omega arith) (omega arith) in
        (rw (p, u, near_is, far_is) (sym r ∙ ap (λ (n : ℕ). sumZ (take n (ring h 0 at))) k), both_le (window - near) refl)

-- ---- the window as the code has it, a shift of 1
pub window_is : (s : ℕ) → s ≤ 6 → 1 * 2 ^ s % 2 ^ 64 ≡ 2 ^ s
window_is s p = shl_exact 1 s 64 (omega arith) (omega arith) ∙ one-mul (2 ^ s)

pub window_le : (s : ℕ) → s ≤ 6 → 2 ^ s ≤ 64
window_le s p = pow_mono p

-- the mean of 2 ^ s codes, from their 32-bit sum
module _ {r : ℤ} (s : ℕ) (six : s ≤ 6) (sum : Reach r (2 ^ s * 32768)) where
  few : Reach r (2 ^ 31)
  few = record { reach = omega (arith, sum.reach, window_le s six) }

  small : Reach (shr_z r (2 ^ s)) (2 ^ 15)
  small = let q : Reach r (2 ^ 15 * 2 ^ s) = record { reach = omega (arith, sum.reach) } in reach_shr (2 ^ s) (2 ^ 15) (pow_pos s) q

  mean32 : to_z w32 (of_z w32 (shr_z (to_z w32 (of_z w32 r)) (2 ^ s))) ≡ shr_z r (2 ^ s)
  mean32 = rw (back w32 few tt, back w32 small tt)

  pub mean_fits : SFits w16 (to_z w32 (of_z w32 (shr_z (to_z w32 (of_z w32 r)) (2 ^ s))))
  mean_fits = rw mean32 (holds small tt)

  pub mean_back : to_z w16 (of_z w16 (to_z w32 (of_z w32 (shr_z (to_z w32 (of_z w32 r)) (2 ^ s))))) ≡ shr_z r (2 ^ s)
  mean_back = rw (mean32, back w16 small tt)
