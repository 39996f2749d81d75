-- The text of an input is the lines of its calls' answers, in order.
use Rattle.std.specs.Prelude.{◌≡◌, refl, Bool, false, ℕ, ◌<◌, get_or}
use Rattle.std.proofs.Common.{sym, ◌∙◌, inr, arith, drop_at}
use Rattle.std.proofs.Math.Path.{ap, subst}
use mathlib.Core.List.{List, [], ◌∷◌, ◌++◌, append_assoc, append-nil}
use Rattle.std.proofs.Math.ListN.{length, length-append, get_or-append}
use Rattle.laws.specs.Iterate.{iterate}
use Rattle.calls.specs.declared.types.Call.{Call}
use Rattle.bma150.specs.declared.host.Bma150.{Bma150}
use Rattle.bma150.specs.Called.{Called, start_number}
use Rattle.machine.specs.Machine.{running}
use Rattle.machine.specs.Machine as M
use Rattle.machine.proofs.Theorems.Turns.{Goes, stay, and_then, turn_at}
use Rattle.machine.proofs.Theorems.Whole.{whole_is}
use Rattle.commands.specs.declared.Command.{Command}
use Rattle.commands.specs.Decode.{decoded, image, size, is_bad}
use Rattle.commands.specs.Encode.{start_byte, encoded, Fits}
use Rattle.commands.proofs.Theorems.More.{size_pos}
use Rattle.commands.proofs.Theorems.RoundTrip.{round_trip, image_round_trip, size_written}
use Rattle.book.specs.Lists.{Start, started, after, answer, answers}
use Rattle.book.specs.Lists as C
use Rattle.bench.specs.Line as L
use Rattle.bench.specs.Line.{commanded}
use Rattle.bench.specs.Run.{took, bench, whole}
use Rattle.bench.specs.Theorems.Lawful.{lawful}
use Rattle.printed.specs.Lines.{text_of}
use Rattle.printed.specs.Inputs.{inputs, AllFit, start_bytes, StartFits, texts, start_line}
use Rattle.printed.proofs.Theorems.Commands.{goes_on}

-- ---- a command that is written

-- no command but a start looks at an image
same_image : (s : Bma150) (c : Command) (given k : List ℕ) → Fits c given → commanded s c (image (encoded c given ++ k)) ≡ commanded s c given
unfolding commanded
same_image s (Command.Start by t) given k f = ap (λ (l : List ℕ). commanded s (Command.Start by t) l) (image_round_trip by t given k f)
same_image s (Command.Host c) given k f = refl
same_image s Command.Bad given k f = refl

module _ (trace : Bool) (s : Bma150) (c : Command) (given k : List ℕ) (f : Fits c given) where
  abbrev written : List ℕ
  written = encoded c given

  some : 0 < length written
  some = omega (arith, size_pos c, size_written c given f)

  -- it is read back, whatever follows
  taken : (bench trace).takes s (written ++ k) ≡ took trace (get_or written 0 0) c (commanded s c given)
  taken =
      ap (λ (b : ℕ). took trace b (decoded (written ++ k)) (commanded s (decoded (written ++ k)) (image (written ++ k)))) (get_or-append written k 0 0 some)
      ∙ ap (λ (x : Command). took trace (get_or written 0 0) x (commanded s x (image (written ++ k)))) (round_trip c given k f)
      ∙ ap (λ (x : Called). took trace (get_or written 0 0) c x) (same_image s c given k f)

  -- its turn writes its line and leaves what follows
  pub command_goes : Goes (bench trace) s (written ++ k) (L.said trace (get_or written 0 0) s c given) (L.step s c given) k (is_bad c)
  unfolding iterate
  command_goes =
      let more : 0 < length (written ++ k) = simp length-append (omega (arith, some)) in
      record {
        turns = 1;
        leads = λ u. turn_at (bench trace) s (written ++ k) u more
            ∙ ap (λ (x : M.Took Bma150). M.after (written ++ k) u x) taken
            ∙ ap (λ (x : List ℕ). running (L.step s c given) x (u ++ L.said trace (get_or written 0 0) s c given) (is_bad c)) (drop_at written k (size c) (size_written c given f));
      }

-- ---- calls

module _ (trace : Bool) where
  call_goes : (s : Bma150) (c : Call) (k : List ℕ) → Fits (Command.Host c) [] → Goes (bench trace) s (encoded (Command.Host c) [] ++ k) (text_of trace (get_or (encoded (Command.Host c) []) 0 0) (answer s c)) (C.step s c) k false
  unfolding text_of commanded is_bad L.line L.pins
  call_goes s c k f = command_goes trace s (Command.Host c) [] k f

  calls_go : (s : Bma150) (cs : List Call) (k : List ℕ) → AllFit cs → Goes (bench trace) s (inputs cs ++ k) (texts trace cs (answers s cs)) (after s cs) k false
  unfolding inputs AllFit texts answers after encoded Fits
  calls_go s [] k f = stay
  calls_go s (c ∷ cs) k f =
      subst (λ (l : List ℕ). Goes (bench trace) s l (texts trace (c ∷ cs) (answers s (c ∷ cs))) (after s (c ∷ cs)) k false) (sym (append_assoc (encoded (Command.Host c) []) (inputs cs) k))
      (and_then (call_goes s c (inputs cs ++ k) f.0) (calls_go (C.step s c) cs k f.1))

  -- the calls of an input are answered in order: their lines are its text, nothing is left and the bench has not stopped
  pub text_is_answers : (s : Bma150) (cs : List Call) → AllFit cs → whole trace s (inputs cs) ≡ running (after s cs) [] (texts trace cs (answers s cs)) false
  text_is_answers s cs f =
      whole_is (lawful trace) (subst (λ (l : List ℕ). Goes (bench trace) s l (texts trace cs (answers s cs)) (after s cs) [] false) (append-nil (inputs cs)) (calls_go s cs [] f)) (inr refl)

  -- and what follows is done by the sensor that they leave
  pub text_goes_on : (s : Bma150) (cs : List Call) (further : List ℕ) → AllFit cs → (whole trace s (inputs cs ++ further)).text ≡ texts trace cs (answers s cs) ++ (whole trace (after s cs) further).text
  text_goes_on s cs further f = goes_on trace (calls_go s cs further f)

-- ---- a start and calls

module _ (trace : Bool) (s : Bma150) (b : Start) (fits : StartFits b) (accepted : start_number b.by b.time b.image ≡ 0) where
  -- whatever the sensor before it
  start_does : commanded s (Command.Start b.by b.time) b.image ≡ L.silent (started b) 0
  unfolding commanded L.started
  start_does = rw accepted

  start_goes : (k : List ℕ) → Goes (bench trace) s (start_bytes b ++ k) (start_line trace b) (started b) k false
  unfolding encoded Fits is_bad
  start_goes k =
      subst (λ (x : Called). Goes (bench trace) s (start_bytes b ++ k) (L.line trace (start_byte b.by) x) x.sensor k false) start_does
      (command_goes trace s (Command.Start b.by b.time) b.image k fits)

  module _ (cs : List Call) (calls_fit : AllFit cs) where
    run_goes : (k : List ℕ) → Goes (bench trace) s (start_bytes b ++ inputs cs ++ k) (start_line trace b ++ texts trace cs (answers (started b) cs)) (after (started b) cs) k false
    run_goes k =
        subst (λ (l : List ℕ). Goes (bench trace) s l (start_line trace b ++ texts trace cs (answers (started b) cs)) (after (started b) cs) k false) (sym (append_assoc (start_bytes b) (inputs cs) k))
        (and_then (start_goes (inputs cs ++ k)) (calls_go trace (started b) cs k calls_fit))

    -- the start's line and then those of the calls' answers
    pub start_text_is_answers : whole trace s (start_bytes b ++ inputs cs) ≡ running (after (started b) cs) [] (start_line trace b ++ texts trace cs (answers (started b) cs)) false
    start_text_is_answers =
        whole_is (lawful trace) (subst (λ (l : List ℕ). Goes (bench trace) s l (start_line trace b ++ texts trace cs (answers (started b) cs)) (after (started b) cs) [] false) (append-nil (start_bytes b ++ inputs cs)) (run_goes [])) (inr refl)

    pub start_text_goes_on : (further : List ℕ) → (whole trace s (start_bytes b ++ inputs cs ++ further)).text ≡ start_line trace b ++ texts trace cs (answers (started b) cs) ++ (whole trace (after (started b) cs) further).text
    start_text_goes_on further = goes_on trace (run_goes further)
