-- Laws of the definitions of `Decode`, for the proofs.
use Rattle.std.specs.Prelude.{◌≡◌, refl, List, [], ◌∷◌, ◌++◌, ℕ, ◌+◌, ◌*◌, ◌<◌, length, take, drop, get_or}
use Rattle.std.proofs.Common.{sym, ap, ◌∙◌, add-zero, add_assoc, add-one, arith, length-drop, take-suc, get_or-drop, drop-drop}
use Rattle.commands.specs.Decode.{part, big_from, big, number_at, moment_at}

pub big_more : (x : ℕ) (l : List ℕ) (b : ℕ) → big_from x (l ++ (b ∷ [])) ≡ big_from x l * 256 + b
big_more x [] b = refl
big_more x (a ∷ l) b = big_more (x * 256 + a) l b

pub part_more : (at i : ℕ) (l : List ℕ) → at + i < length l → part at i l ++ (get_or l (at + i) 0 ∷ []) ≡ part at (i + 1) l
part_more at i l h =
    let k : i < length (drop at l) = simp length-drop (omega arith) in
    rw (add-one, take-suc (drop at l) i 0 k, get_or-drop)

pub number_none : (at : ℕ) (l : List ℕ) → 0 ≡ number_at at 0 l
unfolding number_at
number_none at l = refl

pub number_more : (at i : ℕ) (l : List ℕ) → at + i < length l → number_at at (i + 1) l ≡ number_at at i l * 256 + get_or l (at + i) 0
unfolding number_at
number_more at i l h = ap big (sym (part_more at i l h)) ∙ big_more 0 (part at i l) (get_or l (at + i) 0)

-- ---- what stands behind the first bytes of a list

pub number_drop : (a n at : ℕ) (l : List ℕ) → number_at a n (drop at l) ≡ number_at (at + a) n l
unfolding number_at
number_drop a n at l = ap (λ (x : List ℕ). big (take n x)) (drop-drop a at l)

pub moment_drop : (a at : ℕ) (l : List ℕ) → moment_at a (drop at l) ≡ moment_at (at + a) l
unfolding moment_at
moment_drop a at l = rw (number_drop, number_drop, add_assoc)

pub head_drop : (at : ℕ) (l : List ℕ) → get_or (drop at l) 0 0 ≡ get_or l at 0
head_drop at l = rw (get_or-drop, add-zero)
