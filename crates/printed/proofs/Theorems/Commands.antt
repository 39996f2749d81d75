-- The text of every input is the lines of its commands, in order.
use Rattle.std.specs.Prelude.{◌≡◌, Bool, cond, ◌⊎◌}
use Rattle.std.proofs.Math.Path.{refl, subst}
use Rattle.std.proofs.lemmas.Bool.{true≢false}
use Rattle.std.proofs.Common.{sym, ap, ◌∙◌, inr, ⊎_elim, le_refl, arith}
use Rattle.std.proofs.Math.Bool.{true, false}
use Rattle.std.proofs.Math.Logic.{inl}
use mathlib.Core.List.{List, [], ◌∷◌, ◌++◌, append-nil}
use Prim.Native.Nat.{ℕ, zero, suc, ◌≤◌}
use Rattle.std.proofs.Math.ListN.{length, drop, length-drop}
use Rattle.laws.specs.Iterate.{iterate}
use Rattle.bma150.specs.declared.host.Bma150.{Bma150}
use Rattle.machine.specs.Machine.{Running, running}
use Rattle.machine.proofs.Theorems.Turns.{Goes, stay, and_then, turn_at}
use Rattle.machine.proofs.Theorems.Whole as M
use Rattle.machine.proofs.Theorems.Whole.{whole_is}
use Rattle.commands.specs.declared.Command.{Command}
use Rattle.commands.specs.Decode.{decoded, image, size, is_bad}
use Rattle.commands.proofs.Theorems.More.{size_pos}
use Rattle.bench.specs.Line.{step, said}
use Rattle.bench.specs.Run.{bench, whole}
use Rattle.bench.specs.Theorems.Lawful.{lawful}
use Rattle.printed.specs.Commands.{Given, first_commands, commands, lines}

empty : (l : List ℕ) → length l ≡ 0 → l ≡ []
empty [] e = refl
empty (b ∷ l) e = absurd (omega arith)

module _ (trace : Bool) where
  -- turns that stop, or leave nothing, and write this text
  record Ends (s : Bma150) (l t : List ℕ) : Type 0 where
    state : Bma150
    left : List ℕ
    stop : Bool
    goes : Goes (bench trace) s l t state left stop
    over : (stop ≡ true) ⊎ (length left ≡ 0)

  none_left : (s : Bma150) → Ends s [] []
  none_left s = record { state = s; left = []; stop = false; goes = stay; over = inr refl }

  module _ (s : Bma150) (b : ℕ) (l : List ℕ) where
    abbrev c : Command
    c = decoded (b ∷ l)

    abbrev next : Bma150
    next = step s c (image (b ∷ l))

    -- the command at the head
    one_turn : Goes (bench trace) s (b ∷ l) (said trace b s c (image (b ∷ l))) next (drop (size c) (b ∷ l)) (is_bad c)
    unfolding iterate
    one_turn = record { turns = 1; leads = λ u. turn_at (bench trace) s (b ∷ l) u (omega arith) }

    -- a bad one is the last
    and_more : (gs : List Given) (z : Bool) → is_bad c ≡ z → Ends next (drop (size c) (b ∷ l)) (lines trace next gs)
        → Ends s (b ∷ l) (said trace b s c (image (b ∷ l)) ++ lines trace next (cond z [] gs))
    unfolding lines
    and_more gs true e r = record {
      state = next;
      left = drop (size c) (b ∷ l);
      stop = is_bad c;
      goes = subst (λ (t : List ℕ). Goes (bench trace) s (b ∷ l) t next (drop (size c) (b ∷ l)) (is_bad c)) (sym (append-nil (said trace b s c (image (b ∷ l))))) one_turn;
      over = inl e;
    }
    and_more gs false e r = record {
      state = r.state;
      left = r.left;
      stop = r.stop;
      goes = and_then (subst (λ (z : Bool). Goes (bench trace) s (b ∷ l) (said trace b s c (image (b ∷ l))) next (drop (size c) (b ∷ l)) z) e one_turn) r.goes;
      over = r.over;
    }

  ends : (n : ℕ) (s : Bma150) (l : List ℕ) → length l ≤ n → Ends s l (lines trace s (first_commands n l))
  unfolding first_commands lines
  ends zero s [] h = none_left s
  ends zero s (b ∷ l) h = absurd (omega arith)
  ends (suc n) s [] h = none_left s
  ends (suc n) s (b ∷ l) h =
      let k : ℕ = size (decoded (b ∷ l)) in
      let less : length (drop k (b ∷ l)) ≤ n = omega (arith, length-drop k (b ∷ l), size_pos (decoded (b ∷ l))) in
      and_more s b l (first_commands n (drop k (b ∷ l))) (is_bad (decoded (b ∷ l))) refl (ends n (next s b l) (drop k (b ∷ l)) less)

  all_ends : (s : Bma150) (l : List ℕ) → Ends s l (lines trace s (commands l))
  all_ends s l = ends (length l) s l (le_refl (length l))

  -- starts and bad commands included
  pub text_is_lines : (s : Bma150) (l : List ℕ) → (whole trace s l).text ≡ lines trace s (commands l)
  text_is_lines s l = ap (λ (b : Running Bma150). b.text) (whole_is (lawful trace) (all_ends s l).goes (all_ends s l).over)

  nothing_left : (s : Bma150) (l : List ℕ) → (whole trace s l).stop ≡ false → (whole trace s l).left ≡ []
  nothing_left s l e =
      let r = all_ends s l in
      let is : whole trace s l ≡ running r.state r.left (lines trace s (commands l)) r.stop = whole_is (lawful trace) r.goes r.over in
      ap (λ (b : Running Bma150). b.left) is
      ∙ ⊎_elim (λ (z : r.stop ≡ true). let y : ⊥ = true≢false (sym z ∙ sym (ap (λ (b : Running Bma150). b.stop) is) ∙ e) in absurd y) (λ (z : length r.left ≡ 0). empty r.left z) r.over

  -- turns that have not stopped, and then the run over what they leave
  pub goes_on : {s n : Bma150} {l k t : List ℕ} → Goes (bench trace) s l t n k false → (whole trace s l).text ≡ t ++ (whole trace n k).text
  goes_on {s} {n} {l} {k} {t} g =
      ap (λ (b : Running Bma150). b.text) (whole_is (lawful trace) (and_then g (all_ends n k).goes) (all_ends n k).over)
      ∙ ap (λ (x : List ℕ). t ++ x) (sym (text_is_lines n k))

  -- an input that is done without a stop, and then any other: a start may stand anywhere
  pub text_in_two : (s : Bma150) (l further : List ℕ) → (whole trace s l).stop ≡ false → (whole trace s (l ++ further)).text ≡ (whole trace s l).text ++ (whole trace (whole trace s l).state further).text
  text_in_two s l further e =
      goes_on
      (subst (λ (k : List ℕ). Goes (bench trace) s (l ++ further) (whole trace s l).text (whole trace s l).state (k ++ further) false) (nothing_left s l e)
      (M.goes_on (lawful trace) s l further e))
