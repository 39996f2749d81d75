-- Every input of bytes whose commands are calls, or a start and then calls, is their bytes.
use Rattle.std.specs.Prelude.{◌≡◌, refl, Bool, false, cond, ℕ, zero, suc, ◌+◌, ◌≤◌, length, drop}
use Rattle.std.proofs.Common.{sym, subst, ◌∙◌, le_refl, arith, length-drop, take-append-drop, get_or-drop}
use Rattle.std.proofs.Math.Path.{ap}
use mathlib.Core.List.{List, [], ◌∷◌, ◌++◌, map, nil≢cons, head-eq_of_cons-eq, tail-eq_of_cons-eq}
use Rattle.time.specs.declared.Time.{Time}
use Rattle.calls.specs.declared.types.Call.{Call}
use Rattle.calls.specs.declared.types.Starting.{Starting}
use Rattle.commands.specs.declared.Command.{Command}
use Rattle.commands.specs.Decode.{decoded, image, size, is_bad}
use Rattle.commands.specs.Encode.{encoded, Fits}
use Rattle.commands.proofs.Theorems.More.{size_pos}
use Rattle.book.specs.Lists.{Start}
use Rattle.printed.specs.Inputs.{inputs, AllFit, start_bytes, StartFits}
use Rattle.printed.specs.Commands.{Given, first_commands, Bytes, asked}
use Rattle.printed.proofs.Theorems.Written.{written_back}

-- what is left behind some bytes
tail_bytes : (k : ℕ) (l : List ℕ) → Bytes l → Bytes (drop k l)
tail_bytes k l all i = rw (get_or-drop k l i 0) (all (k + i))

-- the input is the commands of these calls, whose operands fit
pub record IsCalls (l : List ℕ) (cs : List Call) : Type 0 where
  pub is : l ≡ inputs cs
  pub fit : AllFit cs

abbrev asked_first : (n : ℕ) → List ℕ → List Command
asked_first n l = map (λ (g : Given). g.command) (first_commands n l)

-- the command at the head, which is not bad, and the others
module _ (b : ℕ) (m : List ℕ) (c : Command) (head : decoded (b ∷ m) ≡ c) (good : is_bad c ≡ false) where
  abbrev k : ℕ
  k = size (decoded (b ∷ m))

  fine : is_bad (decoded (b ∷ m)) ≡ false
  fine = ap is_bad head ∙ good

  head_written : Bytes (b ∷ m) → b ∷ m ≡ encoded c (image (b ∷ m)) ++ drop k (b ∷ m)
  head_written all =
      sym (take-append-drop k (b ∷ m))
      ∙ ap (λ (x : List ℕ). x ++ drop k (b ∷ m)) ((written_back b m all fine).is ∙ ap (λ (x : Command). encoded x (image (b ∷ m))) head)

  head_fits : Bytes (b ∷ m) → Fits c (image (b ∷ m))
  head_fits all = subst (λ (x : Command). Fits x (image (b ∷ m))) head (written_back b m all fine).fits

  others_asked : (n : ℕ) (cs : List Command) → asked_first (suc n) (b ∷ m) ≡ c ∷ cs → asked_first n (drop k (b ∷ m)) ≡ cs
  unfolding first_commands
  others_asked n cs e = ap (λ (z : Bool). map (λ (g : Given). g.command) (cond z [] (first_commands n (drop k (b ∷ m))))) (sym fine) ∙ tail-eq_of_cons-eq e

  others_fewer : (n : ℕ) → length m ≤ n → length (drop k (b ∷ m)) ≤ n
  others_fewer n h = omega (arith, length-drop k (b ∷ m), size_pos (decoded (b ∷ m)))

first_asked : (n : ℕ) (b : ℕ) (m : List ℕ) (c : Command) (cs : List Command) → asked_first (suc n) (b ∷ m) ≡ c ∷ cs → decoded (b ∷ m) ≡ c
unfolding first_commands
first_asked n b m c cs e = head-eq_of_cons-eq e

call_good : (c : Call) → is_bad (Command.Host c) ≡ false
unfolding is_bad
call_good c = refl

start_good : (by : Starting) (t : Time) → is_bad (Command.Start by t) ≡ false
unfolding is_bad
start_good by t = refl

one_more : (b : ℕ) (m : List ℕ) (c : Call) (cs : List Call) → Bytes (b ∷ m) → decoded (b ∷ m) ≡ Command.Host c
    → IsCalls (drop (size (decoded (b ∷ m))) (b ∷ m)) cs → IsCalls (b ∷ m) (c ∷ cs)
unfolding inputs AllFit encoded Fits
one_more b m c cs all e r = record {
  is = head_written b m (Command.Host c) e (call_good c) all ∙ ap (λ (x : List ℕ). encoded (Command.Host c) [] ++ x) r.is;
  fit = (head_fits b m (Command.Host c) e (call_good c) all, r.fit);
}

calls_written : (n : ℕ) (l : List ℕ) (cs : List Call) → length l ≤ n → Bytes l → asked_first n l ≡ map Command.Host cs → IsCalls l cs
unfolding first_commands inputs AllFit
calls_written zero [] [] h all e = record { is = refl; fit = tt }
calls_written zero [] (c ∷ cs) h all e = absurd (nil≢cons e)
calls_written zero (b ∷ m) cs h all e = absurd (omega arith)
calls_written (suc n) [] [] h all e = record { is = refl; fit = tt }
calls_written (suc n) [] (c ∷ cs) h all e = absurd (nil≢cons e)
calls_written (suc n) (b ∷ m) [] h all e = absurd (nil≢cons (sym e))
calls_written (suc n) (b ∷ m) (c ∷ cs) h all e =
    let p : decoded (b ∷ m) ≡ Command.Host c = first_asked n b m (Command.Host c) (map Command.Host cs) e in
    one_more b m c cs all p
    (calls_written n (drop (size (decoded (b ∷ m))) (b ∷ m)) cs (others_fewer b m (Command.Host c) p (call_good c) n (omega arith)) (tail_bytes (size (decoded (b ∷ m))) (b ∷ m) all)
    (others_asked b m (Command.Host c) p (call_good c) n (map Command.Host cs) e))

pub input_is_calls : (l : List ℕ) (cs : List Call) → Bytes l → asked l ≡ map Command.Host cs → IsCalls l cs
input_is_calls l cs all e = calls_written (length l) l cs (le_refl (length l)) all e

-- ---- a start and calls

pub record IsRun (l : List ℕ) (b : Start) (cs : List Call) : Type 0 where
  pub is : l ≡ start_bytes b ++ inputs cs
  pub start_fits : StartFits b
  pub fit : AllFit cs

pub input_is_run : (l : List ℕ) (by : Starting) (t : Time) (cs : List Call) → Bytes l → asked l ≡ Command.Start by t ∷ map Command.Host cs → IsRun l (record { by = by; time = t; image = image l }) cs
unfolding first_commands encoded Fits
input_is_run [] by t cs all e = absurd (nil≢cons e)
input_is_run (b ∷ m) by t cs all e =
    let p : decoded (b ∷ m) ≡ Command.Start by t = first_asked (length m) b m (Command.Start by t) (map Command.Host cs) e in
    let r : IsCalls (drop (size (decoded (b ∷ m))) (b ∷ m)) cs =
    calls_written (length m) (drop (size (decoded (b ∷ m))) (b ∷ m)) cs (others_fewer b m (Command.Start by t) p (start_good by t) (length m) (le_refl (length m))) (tail_bytes (size (decoded (b ∷ m))) (b ∷ m) all)
    (others_asked b m (Command.Start by t) p (start_good by t) (length m) (map Command.Host cs) e) in
    record {
      is = head_written b m (Command.Start by t) p (start_good by t) all ∙ ap (λ (x : List ℕ). encoded (Command.Start by t) (image (b ∷ m)) ++ x) r.is;
      start_fits = head_fits b m (Command.Start by t) p (start_good by t) all;
      fit = r.fit;
    }
