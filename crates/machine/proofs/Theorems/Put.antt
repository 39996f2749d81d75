-- Texts appended one after another.
use Rattle.std.specs.Prelude.{◌≡◌, refl, List, [], ◌∷◌, ◌++◌, ℕ, suc, ◌+◌, ◌-◌, ◌≤◌, ◌<◌, length, take, drop, get_or, set}
use Rattle.std.proofs.Common.{sym, ap, ◌∙◌, add-zero, add-suc, suc-add, add-one, arith, length-append, length-take, length-drop, take-suc, take_at, get_or-set_other, get_or-drop}
use Rattle.std.proofs.lemmas.List.Edits.{sets, sets-eq}
use Rattle.std.proofs.Math.Seq.{length-sets}
use Rattle.machine.specs.Put.{Put}

sets_append : (d : List ℕ) (o : ℕ) (l m : List ℕ) → sets (sets d o l) (o + length l) m ≡ sets d o (l ++ m)
sets_append d o [] m = ap (λ (k : ℕ). sets d k m) (add-zero o)
sets_append d o (a ∷ l) m =
    ap (λ (k : ℕ). sets (sets (set d o a) (suc o) l) k m) (add-suc o (length l) ∙ sym (suc-add o (length l)))
    ∙ sets_append (set d o a) (suc o) l m

-- ---- nothing, one text and then another, the same bytes by another name

pub none : {d : List ℕ} {o : ℕ} → Put d o [] d o
none {d} {o} = record { bytes = refl; next = sym (add-zero o) }

infixl 60 ◌then◌
pub ◌then◌ : {d : List ℕ} {o : ℕ} {l e : List ℕ} {r : ℕ} {m f : List ℕ} {s : ℕ} → Put d o l e r → Put e r m f s → Put d o (l ++ m) f s
◌then◌ {d} {o} {l} {e} {r} {m} {f} {s} p q =
    record {
      bytes = q.bytes ∙ ap (λ (x : List ℕ). sets x r m) p.bytes ∙ ap (λ (k : ℕ). sets (sets d o l) k m) p.next ∙ sets_append d o l m;
      next = omega (arith, p.next, q.next, length-append l m);
    }

pub says : {d : List ℕ} {o : ℕ} {l m e : List ℕ} {r : ℕ} → Put d o l e r → l ≡ m → Put d o m e r
says {d} {o} {l} {m} {e} {r} p q =
    record { bytes = p.bytes ∙ ap (λ (x : List ℕ). sets d o x) q; next = p.next ∙ ap (λ (x : List ℕ). o + length x) q }

pub stored : {d : List ℕ} {o a : ℕ} → Put d o (a ∷ []) (set d o a) (o + 1)
stored = record { bytes = refl; next = refl }

-- ---- the buffer keeps its length, and what stands up to the place after is what stood before and the text

pub kept_length : {d : List ℕ} {o : ℕ} {l e : List ℕ} {r : ℕ} → Put d o l e r → length e ≡ length d
kept_length {d} {o} {l} p = ap length p.bytes ∙ length-sets d o l

pub text : {d : List ℕ} {o : ℕ} {l e : List ℕ} {r : ℕ} → o + length l ≤ length d → Put d o l e r → take r e ≡ take o d ++ l
text {d} {o} {l} {e} {r} h p =
    let k : length (take o d ++ l) ≡ o + length l = simp (length-append, length-take) (omega arith) in
    ap (λ (n : ℕ). take n e) p.next ∙ ap (λ (x : List ℕ). take (o + length l) x) (p.bytes ∙ sets-eq l d o h)
    ∙ take_at (take o d ++ l) (drop (o + length l) d) (o + length l) k

-- ---- one byte more of a list

pub one_more : (l : List ℕ) (i : ℕ) → i < length l → take i l ++ (get_or l i 0 ∷ []) ≡ take (i + 1) l
one_more l i h = rw (add-one, take-suc l i 0)

-- ---- the tail moved to the front

getD_sets_past : (l d : List ℕ) (i j : ℕ) → i + length l ≤ j → get_or (sets d i l) j 0 ≡ get_or d j 0
getD_sets_past [] d i j h = refl
getD_sets_past (a ∷ l) d i j h =
    getD_sets_past l (set d i a) (suc i) j (omega arith) ∙ get_or-set_other d i j a 0 (λ e. omega arith)

unmoved : {d l e : List ℕ} {r : ℕ} → Put d 0 l e r → (j : ℕ) → r ≤ j → get_or e j 0 ≡ get_or d j 0
unmoved {d} {l} {e} {r} p j h = rw p.bytes (getD_sets_past l d 0 j (omega (arith, p.next)))

pub moved : (at : ℕ) {d e f : List ℕ} {p q : ℕ} → at + p < length d → Put d 0 (take p (drop at d)) e p → Put e p (get_or e (at + p) 0 ∷ []) f q → Put d 0 (take (p + 1) (drop at d)) f q
moved at {d} {e} {f} {p} {q} h x y =
    let k : p < length (drop at d) = simp length-drop (omega arith) in
    let g : get_or e (at + p) 0 ≡ get_or (drop at d) p 0 = unmoved x (at + p) (omega arith) ∙ sym (get_or-drop at d p 0) in
    says (x then y) (rw g (one_more (drop at d) p k))

-- ---- a text at the front of a buffer

-- bytes moved to the front stay there while more is read behind them
pub stays_front : (b c d : List ℕ) (at have k : ℕ) → Put b 0 (take (have - at) (drop at b)) c k → take k d ≡ take k c → take k d ≡ take (have - at) (drop at b)
stays_front b c d at have k p q =
    let n : 0 + length (take (have - at) (drop at b)) ≤ length b = simp (length-take, length-drop) (omega arith) in
    q ∙ text n p

-- a text that is stored in front is what stands there
pub shown : (d l : List ℕ) {e : List ℕ} → length l ≤ length d → e ≡ sets d 0 l → take (length l) e ≡ l
shown d l {e} h p =
    let x : Put d 0 l e (length l) = record { bytes = p; next = omega arith } in
    text (omega (arith, h)) x
