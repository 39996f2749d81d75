-- Turns put together.
use Rattle.std.specs.Prelude.{◌≡◌, Bool, false, List, [], ◌++◌, ℕ, ◌+◌, ◌<◌, length, drop}
use Rattle.std.proofs.Common.{sym, ap, ◌∙◌, append_assoc, append-nil, arith, lt-ltb, length-append}
use Rattle.std.proofs.lemmas.List.{drop-append-le}
use Rattle.laws.specs.Iterate.{iterate, iterate_split}
use Rattle.machine.specs.Machine.{Took, Machine, running, after, turn, Lawful}

-- some turns from the state s with the input l write t, and lead to n with k left
pub record Goes {S : Type 0} (m : Machine S) (s : S) (l t : List ℕ) (n : S) (k : List ℕ) (z : Bool) : Type 0 where
  pub turns : ℕ
  pub leads : (u : List ℕ) → iterate turns (turn m) (running s l u false) ≡ running n k (u ++ t) z

-- ---- the laws of turns

pub stay : {S : Type 0} {m : Machine S} {s : S} {l : List ℕ} → Goes m s l [] s l false
unfolding iterate
stay {S} {m} {s} {l} = record { turns = 0; leads = λ u. ap (λ (t : List ℕ). running s l t false) (sym (append-nil u)) }

-- some turns and then some more
pub and_then : {S : Type 0} {m : Machine S} {s n q : S} {l k j t v : List ℕ} {z : Bool} → Goes m s l t n k false → Goes m n k v q j z → Goes m s l (t ++ v) q j z
and_then {S} {m} {s} {n} {q} {l} {k} {j} {t} {v} {z} a b =
    record {
      turns = a.turns + b.turns;
      leads = λ u. iterate_split a.turns b.turns (turn m) (running s l u false)
          ∙ ap (iterate b.turns (turn m)) (a.leads u)
          ∙ b.leads (u ++ t)
          ∙ ap (λ (x : List ℕ). running q j x z) (append_assoc u t v);
    }

-- ---- one turn

pub turn_at : {S : Type 0} (m : Machine S) (s : S) (l u : List ℕ) → 0 < length l → turn m (running s l u false) ≡ after l u (m.takes s l)
unfolding turn
turn_at m s l u h = rw (lt-ltb 0 (length l) h)

-- a command that what follows does not alter
pub one : {S : Type 0} {m : Machine S} (laws : Lawful m) (s : S) (l k : List ℕ) → 0 < length l → m.takes s (l ++ k) ≡ m.takes s l
    → Goes m s (l ++ k) (m.takes s l).said (m.takes s l).state (drop (m.takes s l).size l ++ k) (m.takes s l).stop
unfolding iterate
one {S} {m} laws s l k h e =
    let some : 0 < length (l ++ k) = simp length-append (omega arith) in
    let t : Took S = m.takes s l in
    record {
      turns = 1;
      leads = λ u. turn_at m s (l ++ k) u some ∙ ap (after (l ++ k) u) e
          ∙ ap (λ (x : List ℕ). running t.state x (u ++ t.said) t.stop) (drop-append-le t.size l k (laws.takes_there s l h));
    }
