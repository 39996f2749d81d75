-- A block is some number of turns of the whole run; and what the loop over a block has done so far.
use Rattle.std.specs.Prelude.{◌≡◌, Bool, cond, ◌⊎◌, ltb, drop, get_or}
use Rattle.std.proofs.Math.Path.{refl, ap}
use Rattle.std.proofs.Common.{sym, ◌∙◌}
use Rattle.std.proofs.Math.Bool.{true, false}
use Rattle.std.proofs.Math.Logic.{inl, inr}
use mathlib.Core.List.{List, [], ◌++◌, append-nil}
use Prim.Native.Nat.{ℕ, zero, suc, ◌+◌, ◌-◌, ◌≤◌, ◌<◌}
use native.Mathlib.Omega.{arith}
use borrow.Author.Tests.{lt-ltb, le-ltb, ltb-true, ltb-false}
use Rattle.std.proofs.Math.ListN.{length, length-drop}
use Rattle.std.proofs.Math.Seq.{drop-drop}
use Rattle.laws.specs.Iterate.{iterate, iterate_split}
use Rattle.machine.specs.Machine.{Took, Machine, Running, running, turn, Lawful}
use Rattle.machine.specs.Block.{needed_bytes, bounded_turn, block}
use Rattle.machine.proofs.Theorems.Turns.{Goes, stay, and_then, one, turn_at}
use Rattle.machine.proofs.Theorems.Settles.{never_more, settle}

-- ---- a turn takes a byte or changes nothing

pub stopped_turn : {S : Type 0} (m : Machine S) (b : Running S) → b.stop ≡ true → turn m b ≡ b
unfolding turn
stopped_turn m b e = rw e

twice : {A : Type 0} (t : Bool) (a : A) → cond t a a ≡ a
twice true a = refl
twice false a = refl

module _ {S : Type 0} {m : Machine S} (laws : Lawful m) where
  by_stop : (b : Running S) (z t : Bool) → b.stop ≡ z → ltb 0 (length b.left) ≡ t → (turn m b ≡ b) ⊎ (length (turn m b).left + 1 ≤ length b.left)
  unfolding turn
  by_stop b true t e g = inl (rw e)
  by_stop b false false e g = inl (rw (e, g))
  by_stop b false true e g = inr (rw (e, g, length-drop) (omega (arith, laws.takes_some b.state b.left, ltb-true 0 (length b.left) g)))

  pub turn_falls : (b : Running S) → (turn m b ≡ b) ⊎ (length (turn m b).left + 1 ≤ length b.left)
  turn_falls b = by_stop b b.stop (ltb 0 (length b.left)) refl refl

  -- a command's bytes that must be there are one at least
  pub least_some : (over : Bool) (l : List ℕ) → 0 < needed_bytes m over l
  unfolding needed_bytes
  least_some true l = omega arith
  least_some false l = laws.wants_some (get_or l 0 0)

-- ---- when a block goes on

module _ {S : Type 0} (m : Machine S) (over : Bool) (b : Running S) where
  pub bounded_short : length b.left < needed_bytes m over b.left → bounded_turn m over b ≡ b
  unfolding bounded_turn
  bounded_short h = rw (lt-ltb (length b.left) (needed_bytes m over b.left) h)

  pub bounded_full : m.room < length b.text → bounded_turn m over b ≡ b
  unfolding bounded_turn
  bounded_full h = rw (lt-ltb m.room (length b.text) h) (twice (ltb (length b.left) (needed_bytes m over b.left)) b)

  pub bounded_goes : needed_bytes m over b.left ≤ length b.left → length b.text ≤ m.room → bounded_turn m over b ≡ turn m b
  unfolding bounded_turn
  bounded_goes h k = rw (le-ltb (length b.left) (needed_bytes m over b.left) h, le-ltb m.room (length b.text) k)

  pub bounded_stopped : turn m b ≡ b → bounded_turn m over b ≡ b
  unfolding bounded_turn
  bounded_stopped e = rw (e, twice (ltb m.room (length b.text)) b) (twice (ltb (length b.left) (needed_bytes m over b.left)) b)

  by_tests : Lawful m → (x y : Bool) → ltb (length b.left) (needed_bytes m over b.left) ≡ x → ltb m.room (length b.text) ≡ y
      → (bounded_turn m over b ≡ b) ⊎ (length (bounded_turn m over b).left + 1 ≤ length b.left)
  by_tests laws true y e g = inl (bounded_short (ltb-true (length b.left) (needed_bytes m over b.left) e))
  by_tests laws false true e g = inl (bounded_full (ltb-true m.room (length b.text) g))
  by_tests laws false false e g =
      rw (bounded_goes (ltb-false (length b.left) (needed_bytes m over b.left) e) (ltb-false m.room (length b.text) g)) (turn_falls laws b)

  bounded_falls : Lawful m → (bounded_turn m over b ≡ b) ⊎ (length (bounded_turn m over b).left + 1 ≤ length b.left)
  bounded_falls laws = by_tests laws (ltb (length b.left) (needed_bytes m over b.left)) (ltb m.room (length b.text)) refl refl

-- ---- what the loop over a block has done so far: this is left of the input, and this text is made

pub record Upto {S : Type 0} (m : Machine S) (over : Bool) (s : S) (input : List ℕ) (n : S) (left text : List ℕ) (z : Bool) : Type 0 where
  pub turns : ℕ
  pub is : iterate turns (bounded_turn m over) (running s input [] false) ≡ running n left text z
  pub at : ℕ
  pub within : at ≤ length input
  pub rest : left ≡ drop at input

pub begun : {S : Type 0} {m : Machine S} {over : Bool} {s : S} {input : List ℕ} → Upto m over s input s input [] false
unfolding iterate
begun = record { turns = 0; is = refl; at = 0; within = omega arith; rest = refl }

module _ {S : Type 0} {m : Machine S} (laws : Lawful m) {over : Bool} {s : S} {input : List ℕ} {n : S} {left text : List ℕ} where
  -- a further command
  pub went : (k : Took S) → Upto m over s input n left text false → needed_bytes m over left ≤ length left → length text ≤ m.room
      → k ≡ m.takes n left → Upto m over s input k.state (drop k.size left) (text ++ k.said) k.stop
  unfolding iterate
  went k b l fits ek =
      let some : 0 < length left = omega (arith, l, least_some laws over left) in
      let there : k.size ≤ length left = rw ek (laws.takes_there n left some) in
      let long : length left ≡ length input - b.at = ap length b.rest ∙ length-drop b.at input in
      record {
        turns = suc b.turns;
        is = ap (bounded_turn m over) b.is
            ∙ bounded_goes m over (running n left text false) l fits
            ∙ turn_at m n left text some
            ∙ rw (sym ek);
        at = b.at + k.size;
        within = omega (arith, there, long, b.within);
        rest = ap (drop k.size) b.rest ∙ drop-drop k.size b.at input;
      }

  -- the loop is left: the block is done
  pub block_is : {z : Bool} (b : Upto m over s input n left text z) → bounded_turn m over (running n left text z) ≡ running n left text z
      → block m over s input ≡ running n left text z
  unfolding block
  block_is {z} b h = settle (bounded_turn m over) (λ c. bounded_falls m over c laws) (running s input [] false) (running n left text z) b.turns b.is h

-- what is left is the input without the bytes that were read
pub left_is : {S : Type 0} {m : Machine S} {over : Bool} {s : S} {input : List ℕ} {n : S} {left text : List ℕ} {z : Bool} → Upto m over s input n left text z
    → (length left ≤ length input) × (left ≡ drop (length input - length left) input)
left_is {S} {m} {over} {s} {input} {n} {left} b =
    let long : length left ≡ length input - b.at = ap length b.rest ∙ length-drop b.at input in
    let e : b.at ≡ length input - length left = omega (arith, long, b.within) in
    (omega (arith, long), b.rest ∙ ap (λ (i : ℕ). drop i input) e)

-- ---- a block takes a command that it may take

module _ {S : Type 0} {m : Machine S} (laws : Lawful m) (over : Bool) (s : S) (l : List ℕ) where
  abbrev start : Running S
  start = running s l [] false

  pub block_takes : needed_bytes m over l ≤ length l → length (block m over s l).left + 1 ≤ length l
  unfolding block iterate
  block_takes h =
      let some : 0 < length l = omega (arith, least_some laws over l) in
      let e : length l ≡ 1 + (length l - 1) = omega arith in
      let fits : length start.text ≤ m.room = omega arith in
      let first : bounded_turn m over start ≡ turn m start = bounded_goes m over start h fits in
      let less : length (bounded_turn m over start).left + 1 ≤ length l = rw (first, turn_at m s l [] some, length-drop) (omega (arith, laws.takes_some s l)) in
      let same : block m over s l ≡ iterate (length l - 1) (bounded_turn m over) (bounded_turn m over start) = ap (λ (k : ℕ). iterate k (bounded_turn m over) start) e ∙ iterate_split 1 (length l - 1) (bounded_turn m over) start in
      rw same (omega (arith, less, never_more (bounded_turn m over) (λ c. bounded_falls m over c laws) (length l - 1) (bounded_turn m over start)))

-- ---- a block is some number of turns of the whole run, whatever follows its input while more comes

-- nothing follows once the input is over
abbrev pub Follows : Bool → List ℕ → Type 0
Follows true k = k ≡ []
Follows false k = Unit {0}

module _ {S : Type 0} {m : Machine S} (laws : Lawful m) where
  same_command : (over : Bool) (s : S) (l k : List ℕ) → Follows over k → needed_bytes m over l ≤ length l → m.takes s (l ++ k) ≡ m.takes s l
  unfolding needed_bytes
  same_command true s l k f h = rw (f, append-nil)
  same_command false s l k f h = laws.whole_is_known s l k h

  module _ (over : Bool) (k : List ℕ) (follows : Follows over k) (s : S) (l : List ℕ) where
    abbrev So : Running S → Type 0
    So b = Goes m s (l ++ k) b.text b.state (b.left ++ k) b.stop

    next : (q : S) (j u : List ℕ) (z x y : Bool) → ltb (length j) (needed_bytes m over j) ≡ x → ltb m.room (length u) ≡ y
        → So (running q j u z) → So (bounded_turn m over (running q j u z))
    next q j u true x y e g w = rw (bounded_stopped m over (running q j u true) (stopped_turn m (running q j u true) refl)) w
    next q j u false true y e g w = rw (bounded_short m over (running q j u false) (ltb-true (length j) (needed_bytes m over j) e)) w
    next q j u false false true e g w = rw (bounded_full m over (running q j u false) (ltb-true m.room (length u) g)) w
    next q j u false false false e g w =
        let a : needed_bytes m over j ≤ length j = ltb-false (length j) (needed_bytes m over j) e in
        let some : 0 < length j = omega (arith, least_some laws over j) in
        rw (bounded_goes m over (running q j u false) a (ltb-false m.room (length u) g), turn_at m q j u some)
        (and_then w (one laws q j k some (same_command over q j k follows a)))

    goes : (n : ℕ) → So (iterate n (bounded_turn m over) (running s l [] false))
    unfolding iterate
    goes zero = stay
    goes (suc n) =
        let b : Running S = iterate n (bounded_turn m over) (running s l [] false) in
        next b.state b.left b.text b.stop (ltb (length b.left) (needed_bytes m over b.left)) (ltb m.room (length b.text)) refl refl (goes n)

    pub block_goes : So (block m over s l)
    unfolding block
    block_goes = goes (length l)
