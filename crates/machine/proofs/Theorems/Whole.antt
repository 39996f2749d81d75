-- Any split of an input, block by block, writes the text of the whole run; and after a stop nothing more is written.
use Rattle.std.specs.Prelude.{◌≡◌, Bool, true, false, ◌⊎◌, ltb, drop}
use Rattle.std.proofs.Math.Path.{refl}
use Rattle.std.proofs.Common.{sym, ap, subst, ◌∙◌, inl, ⊎_elim, arith, ltb-true, ltb-false}
use mathlib.Core.List.{List, [], ◌++◌, append_assoc, append-nil}
use Prim.Native.Nat.{ℕ, zero, suc, ◌+◌, ◌≤◌, ◌<◌}
use Rattle.std.proofs.Math.ListN.{length}
use Rattle.laws.specs.Iterate.{iterate}
use Rattle.machine.specs.Machine.{Took, Machine, Running, running, turn, whole, Lawful}
use Rattle.machine.specs.Pieces.{Between, between, Steps, begun, brought, ended, ran, AtEnd}
use Rattle.machine.proofs.Theorems.Turns.{Goes, stay, and_then, one, turn_at}
use Rattle.machine.proofs.Theorems.Settles.{settle}
use Rattle.machine.proofs.Theorems.Blocks.{turn_falls, stopped_turn, block_goes, Follows}

nothing : (over : Bool) → Follows over []
nothing true = refl
nothing false = tt

module _ {S : Type 0} {m : Machine S} (laws : Lawful m) where
  -- ---- turns that stop, or leave nothing, are the whole run

  empty_turn : (b : Running S) → length b.left ≡ 0 → turn m b ≡ b
  empty_turn b e =
      ⊎_elim (λ (r : turn m b ≡ b). r) (λ (h : length (turn m b).left + 1 ≤ length b.left). let z : ⊥ = omega arith in absurd z)
      (turn_falls laws b)

  pub whole_is : {s n : S} {l k t : List ℕ} {z : Bool} → Goes m s l t n k z → (z ≡ true) ⊎ (length k ≡ 0) → whole m s l ≡ running n k t z
  unfolding whole
  whole_is {s} {n} {l} {k} {t} {z} g f =
      settle (turn m) (turn_falls laws) (running s l [] false) (running n k t z) g.turns
      (g.leads [])
      (⊎_elim (λ (e : z ≡ true). stopped_turn m (running n k t z) e) (λ (e : length k ≡ 0). empty_turn (running n k t z) e) f)

  -- ---- any split of an input

  -- whatever follows, the steps are turns of the whole run
  abbrev Turned : S → (l t : List ℕ) → Between S → Type 0
  Turned s l t d = (k : List ℕ) → Follows d.over k → Goes m s (l ++ k) t d.state (d.kept ++ k) d.stop

  turned_brought : (s n : S) (l t k piece : List ℕ) → Turned s l t (between n k false false) → Turned s (l ++ piece) t (between n (k ++ piece) false false)
  turned_brought s n l t k piece h j f =
      subst (λ (x : List ℕ). Goes m s x t n ((k ++ piece) ++ j) false) (sym (append_assoc l piece j))
      (subst (λ (y : List ℕ). Goes m s (l ++ (piece ++ j)) t n y false) (sym (append_assoc k piece j)) (h (piece ++ j) tt))

  turned : {s : S} {l t : List ℕ} {d : Between S} → Steps m s l t d → Turned s l t d
  turned begun = λ j f. stay
  turned {s} (brought {l} {t} {k} {n} piece h) = turned_brought s n l t k piece (turned h)
  turned {s} (ended {l} {t} {k} {n} h) = λ j f. turned h j tt
  turned {s} (ran {l} {t} {k} {n} {o} h) = λ j f. and_then (turned h j f) (block_goes laws o j f n k)

  -- while more comes, the texts are what turns of the whole run write, whatever follows
  pub so_far : {s n : S} {l t k : List ℕ} {z : Bool} → Steps m s l t (between n k false z) → (j : List ℕ) → Goes m s (l ++ j) t n (k ++ j) z
  so_far h j = turned h j tt

  -- the texts put together are the text of the whole run on what was brought
  pub put_together : {s : S} {l t : List ℕ} (d : Between S) → Steps m s l t d → AtEnd d → (whole m s l).text ≡ t
  put_together {s} {l} {t} d h f =
      let g : Goes m s l t d.state d.kept d.stop = rw (append-nil l, append-nil d.kept) at (turned h [] (nothing d.over)) in
      ap (λ (b : Running S). b.text) (whole_is g f)

  -- stopped before the input's end: whatever follows
  pub put_together_stopped : {s n : S} {l t k : List ℕ} → Steps m s l t (between n k false true) → (j : List ℕ) → (whole m s (l ++ j)).text ≡ t
  put_together_stopped h j = ap (λ (b : Running S). b.text) (whole_is (turned h j tt) (inl refl))

  -- ---- a run that has not stopped goes on with what follows

  module _ (s : S) (l j : List ℕ) where
    abbrev Has : Running S → Type 0
    Has b = Goes m s (l ++ j) b.text b.state (b.left ++ j) false

    abbrev On : Running S → Type 0
    On b = b.stop ≡ false → Has b

    on_turn : (q : S) (k u : List ℕ) (z x : Bool) → ltb 0 (length k) ≡ x → On (running q k u z) → On (turn m (running q k u z))
    on_turn q k u true x e w g =
        let same = stopped_turn m (running q k u true) refl in
        subst Has (sym same) (w (sym (ap (λ (b : Running S). b.stop) same) ∙ g))
    on_turn q k u false false e w g =
        let h : length k ≡ 0 = omega (arith, ltb-false 0 (length k) e) in
        subst Has (sym (empty_turn (running q k u false) h)) (w refl)
    on_turn q k u false true e w g =
        let a : 0 < length k = ltb-true 0 (length k) e in
        let at = turn_at m q k u a in
        let t : Took S = m.takes q k in
        let good : t.stop ≡ false = sym (ap (λ (b : Running S). b.stop) at) ∙ g in
        let next = and_then (w refl) (one laws q k j a (laws.going_is_known q k j a good)) in
        subst Has (sym at)
        (subst (λ (z : Bool). Goes m s (l ++ j) (u ++ t.said) t.state (drop t.size k ++ j) z) good next)

    on : (n : ℕ) → On (iterate n (turn m) (running s l [] false))
    unfolding iterate
    on zero g = stay
    on (suc n) g =
        let b : Running S = iterate n (turn m) (running s l [] false) in
        on_turn b.state b.left b.text b.stop (ltb 0 (length b.left)) refl (on n) g

    pub goes_on : (whole m s l).stop ≡ false → Goes m s (l ++ j) (whole m s l).text (whole m s l).state ((whole m s l).left ++ j) false
    unfolding whole
    goes_on e = on (length l) e

  -- the commands of l are done, and the command of p stops the machine, alone and with j after it: what follows p alters nothing
  pub after_stop : (s : S) (l p j : List ℕ) → (whole m s l).stop ≡ false → (whole m s l).left ≡ [] → 0 < length p
      → (m.takes (whole m s l).state p).stop ≡ true → m.takes (whole m s l).state (p ++ j) ≡ m.takes (whole m s l).state p
      → (whole m s (l ++ (p ++ j))).text ≡ (whole m s l).text ++ (m.takes (whole m s l).state p).said
  after_stop s l p j run none some stops same =
      let n : S = (whole m s l).state in
      let first : Goes m s (l ++ (p ++ j)) (whole m s l).text n (p ++ j) false =
      subst (λ (k : List ℕ). Goes m s (l ++ (p ++ j)) (whole m s l).text n (k ++ (p ++ j)) false) none (goes_on s l (p ++ j) run) in
      ap (λ (b : Running S). b.text) (whole_is (and_then first (one laws n p j some same)) (inl stops))
