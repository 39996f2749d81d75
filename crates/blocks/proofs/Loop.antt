-- What the loop of `drive` has done so far.
use Rattle.std.specs.Prelude.{◌≡◌, refl, List, [], ◌++◌, ℕ, ◌≤◌, ◌<◌, length, take, drop, Option}
use Rattle.std.proofs.Common.{sym, ap, subst, ◌∙◌, append_assoc, append-nil, length-take-le, take-append-drop}
use Rattle.std.specs.Io.KnownBytes.{Appends, Consumes, IsAtEnd}
use Rattle.std.proofs.KnownBytes.{Consumes-nil, Consumes-trans, Appends-nil, Appends-trans}
use Rattle.blocks.specs.Pending.{Handed}
use Rattle.blocks.specs.Answered.{Run, Answered, BrokenOff}

module _ {S : Type 0} (gives : S → List ℕ → List ℕ → S → Type 0) (n m : ℕ) (s : S) where
  -- the items are answered that were read, but for the bytes that are kept, and the answers written, but for those pending
  pub record Upto (t : S) (a b v w : Option (List ℕ)) (kept pending : List ℕ) : Type 0 where
    pub items : List ℕ
    pub answers : List ℕ
    pub handed : List ℕ
    pub run : Run gives n m s items answers t
    pub took : Consumes a b (items ++ kept)
    pub wrote : Appends v w handed
    pub rest : answers ≡ handed ++ pending

  pub begun : (a v : Option (List ℕ)) {k p : List ℕ} → k ≡ [] → p ≡ [] → Upto s a a v v k p
  begun a v e f = rw (e, f) (record { items = []; answers = []; handed = []; run = Run.none; took = Consumes-nil a; wrote = Appends-nil v; rest = refl })

  module _ {t : S} {a b v w : Option (List ℕ)} {k p : List ℕ} (h : Upto t a b v w k p) where
    -- the item in front taken off those that are kept
    item_took : (item : List ℕ) → item ≡ take n k → Consumes a b ((h.items ++ item) ++ drop n k)
    item_took item e = subst (Consumes a b) (ap (λ (l : List ℕ). h.items ++ l) (sym (take-append-drop n k) ∙ ap (λ (l : List ℕ). l ++ drop n k) (sym e)) ∙ sym (append_assoc h.items item (drop n k))) h.took

    -- an item more
    pub item_done : {u : S} {w' : Option (List ℕ)} {q : List ℕ} (item answer : List ℕ) → item ≡ take n k → n ≤ length k → length answer ≡ m → gives t item answer u
        → Handed w w' p answer q → Upto u a b v w' (drop n k) q
    item_done {u} {w'} {q} item answer e f g d x =
        record {
          items = h.items ++ item;
          answers = h.answers ++ answer;
          handed = h.handed ++ x.handed;
          run = Run.more item answer h.run (ap length e ∙ length-take-le n k f) g d;
          took = item_took item e;
          wrote = Appends-trans v w w' h.handed x.handed h.wrote x.wrote;
          rest = ap (λ (l : List ℕ). l ++ answer) h.rest ∙ append_assoc h.handed p answer ∙ ap (λ (l : List ℕ). h.handed ++ l) x.rest ∙ sym (append_assoc h.handed x.handed q);
        }

    -- all is written
    pub flushed : {w' : Option (List ℕ)} {q : List ℕ} → Appends w w' p → q ≡ [] → Upto t a b v w' k q
    flushed {w'} {q} d e =
        rw e
        (record {
          items = h.items;
          answers = h.answers;
          handed = h.handed ++ p;
          run = h.run;
          took = h.took;
          wrote = Appends-trans v w w' h.handed p h.wrote d;
          rest = h.rest ∙ sym (append-nil (h.handed ++ p));
        })

    -- more is read
    pub filled : {b' : Option (List ℕ)} {l : List ℕ} (piece : List ℕ) → l ≡ k ++ piece → Consumes b b' piece → Upto t a b' v w l p
    filled {b'} {l} piece e d =
        rw e
        (record {
          items = h.items;
          answers = h.answers;
          handed = h.handed;
          run = h.run;
          took = subst (Consumes a b') (append_assoc h.items k piece) (Consumes-trans a b b' (h.items ++ k) piece h.took d);
          wrote = h.wrote;
          rest = h.rest;
        })

    -- the input is over
    pub done : length k < n → IsAtEnd b → p ≡ [] → Answered gives n m s t a b v w
    done f e g =
        record {
          items = h.items;
          rest = k;
          answers = h.answers;
          run = h.run;
          took = h.took;
          short = f;
          over = e;
          wrote = subst (Appends v w) (sym (h.rest ∙ ap (λ (l : List ℕ). h.handed ++ l) g ∙ append-nil h.handed)) h.wrote;
        }

    -- it broke off where an answer could not be put
    pub broke_at : {u : S} (item answer : List ℕ) → item ≡ take n k → n ≤ length k → length answer ≡ m → gives t item answer u → BrokenOff gives n m s u a b
    broke_at {u} item answer e f g d =
        record { items = h.items ++ item; rest = drop n k; answers = h.answers ++ answer; run = Run.more item answer h.run (ap length e ∙ length-take-le n k f) g d; took = item_took item e }

  -- before the loop
  pub unbegun : (a : Option (List ℕ)) → BrokenOff gives n m s s a a
  unbegun a = record { items = []; rest = []; answers = []; run = Run.none; took = Consumes-nil a }
