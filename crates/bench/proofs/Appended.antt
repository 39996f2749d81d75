-- A line's text, one piece after the other, as far as it has room.
use Rattle.std.specs.Prelude.{◌≡◌, refl, List, [], ◌∷◌, ◌++◌, ℕ, zero, suc, ◌+◌, ◌-◌, ◌≤◌, ◌<◌, length, take, get_or}
use Rattle.std.proofs.Common.{ap, ◌∙◌, append_assoc, append-nil, arith, length-append}
use Rattle.std.proofs.Math.Seq.{take-nil}
use Rattle.machine.proofs.Theorems.Put.{one_more}
use Rattle.bench.specs.Text.{appended, hex, hexes}
use Rattle.bench.specs.Theorems.Text.{one_more_hex}

take_short : (n : ℕ) (l : List ℕ) → length l ≤ n → take n l ≡ l
take_short zero [] h = refl
take_short zero (x ∷ l) h = let z : ⊥ = omega arith in absurd z
take_short (suc n) [] h = refl
take_short (suc n) (x ∷ l) h = ap (λ (r : List ℕ). x ∷ r) (take_short n l (omega arith))

take_both : (k : ℕ) (m n : List ℕ) → take k m ++ take (k - length (take k m)) n ≡ take k (m ++ n)
take_both zero [] n = refl
take_both zero (x ∷ m) n = refl
take_both (suc k) [] n = let e : suc k - 0 ≡ suc k = omega arith in ap (λ (i : ℕ). take i n) e
take_both (suc k) (x ∷ m) n = let e : suc k - suc (length (take k m)) ≡ k - length (take k m) = omega arith in rw e (ap (λ (r : List ℕ). x ∷ r) (take_both k m n))

-- nothing
pub none : (l : List ℕ) → appended l [] ≡ l
unfolding appended
none l = rw take-nil (append-nil l)

-- one text and then another
pub both : (l m n : List ℕ) → appended (appended l m) n ≡ appended l (m ++ n)
unfolding appended
both l m n =
    let k : ℕ = 128 - length l in
    let e : 128 - length (l ++ take k m) ≡ k - length (take k m) = rw length-append (omega arith) in
    rw e (append_assoc l (take k m) (take (k - length (take k m)) n) ∙ ap (λ (r : List ℕ). l ++ r) (take_both k m n))

-- a text that fits, from nothing on
pub all : (l : List ℕ) → length l ≤ 128 → appended [] l ≡ l
unfolding appended
all l h = take_short 128 l h

-- a byte for which there is room, and one for which there is none
pub put_there : (l : List ℕ) (b : ℕ) → length l < 128 → appended l (b ∷ []) ≡ l ++ (b ∷ [])
unfolding appended
put_there l b h = let short : length (b ∷ []) ≤ 128 - length l = omega arith in ap (λ (r : List ℕ). l ++ r) (take_short (128 - length l) (b ∷ []) short)

pub put_full : (l : List ℕ) (b : ℕ) → length l ≡ 128 → appended l (b ∷ []) ≡ l
unfolding appended
put_full l b h = let z : 128 - length l ≡ 0 = omega arith in rw z (append-nil l)

-- the bytes of a word, one after the other
pub word_step : (l w : List ℕ) (i : ℕ) → i < length w → appended (appended l (take i w)) (get_or w i 0 ∷ []) ≡ appended l (take (i + 1) w)
word_step l w i h = both l (take i w) (get_or w i 0 ∷ []) ∙ ap (appended l) (one_more w i h)

pub hexes_step : (l w : List ℕ) (i : ℕ) → i < length w → appended (appended l (hexes (take i w))) (hex (get_or w i 0)) ≡ appended l (hexes (take (i + 1) w))
hexes_step l w i h = both l (hexes (take i w)) (hex (get_or w i 0)) ∙ ap (appended l) (one_more_hex w i h)

-- ---- a text that is put together from nothing on

pub begun : {e : List ℕ} (l : List ℕ) → e ≡ [] → {d : List ℕ} → d ≡ appended e l → d ≡ appended [] l
begun l p q = q ∙ ap (λ (r : List ℕ). appended r l) p

pub went_on : {d e : List ℕ} (l m : List ℕ) → e ≡ appended [] l → d ≡ appended e m → d ≡ appended [] (l ++ m)
went_on l m p q = q ∙ ap (λ (r : List ℕ). appended r m) p ∙ both [] l m
