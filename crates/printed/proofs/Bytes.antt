-- What follows the bytes of a run that comes back from 0 mV, and what 0a shows there.
use Prim.Native.Nat.{ℕ}
use mathlib.Core.Path.{◌≡◌, refl, sym, ap, ◌∙◌}
use mathlib.Core.Bool.{Bool, true, false, cond}
use mathlib.Core.List.{List, [], ◌∷◌, ◌++◌, append_assoc, append-nil, append_cancel_left}
use lib.Dec.{eqb}
use borrow.Author.Tests.{eqb-true}
use Rattle.time.specs.declared.Time.{Time}
use Rattle.calls.specs.declared.types.Timed.TheVariants as Timed
use Rattle.calls.specs.declared.types.Call.{Call}
use Rattle.calls.specs.Table.{unless_refused}
use Rattle.bma150.specs.declared.host.Bma150.{Bma150}
use Rattle.bma150.specs.Called.{Added, Called, adds, number, called, start_number}
use Rattle.bma150.proofs.Theorems.Added.{image_leaves}
use Rattle.machine.specs.Machine.{Running}
use Rattle.commands.specs.Encode.{timed_bytes, call_bytes, CallFits}
use Rattle.book.specs.Lists.{Start, answer, answers}
use Rattle.book.specs.Claim.{ending, left, stored_bytes}
use Rattle.bench.specs.Text.{word, hexes, image_text}
use Rattle.bench.specs.Line as L
use Rattle.bench.specs.Run.{whole}
use Rattle.bench.proofs.Laws.{called_is}
use Rattle.printed.specs.Lines.{text_of}
use Rattle.printed.specs.Inputs.{inputs, AllFit, start_bytes, supply_bytes, image_bytes, texts, image_line}
use Rattle.printed.specs.Printed.{run_bytes, RunFits, run_text, Follows, Shows}
use Rattle.printed.proofs.Theorems.Texts.{text_is_answers, start_text_goes_on}
use Rattle.printed.proofs.Theorems.Digits.{line_injective}

-- ---- lists that end with a call

inputs_ending : (cs : List Call) (c : Call) → inputs (cs ++ (c ∷ [])) ≡ inputs cs ++ call_bytes c
unfolding inputs
inputs_ending [] c = append-nil (call_bytes c)
inputs_ending (d ∷ cs) c = ap (λ (l : List ℕ). call_bytes d ++ l) (inputs_ending cs c) ∙ sym (append_assoc (call_bytes d) (inputs cs) (call_bytes c))

last_fits : (cs : List Call) (c : Call) → AllFit (cs ++ (c ∷ [])) → CallFits c
unfolding AllFit
last_fits [] c f = f.0
last_fits (d ∷ cs) c f = last_fits cs c f.1

-- ---- the line of 0a

-- an answer with bytes is an accepted call's
put_accepted : (n : ℕ) (a : Added) (bytes : List ℕ) → unless_refused n Added.nothing a ≡ Added.put bytes → n ≡ 0
unfolding unless_refused
put_accepted n a bytes e = go (eqb n 0) refl e
  where
    go : (x : Bool) → eqb n 0 ≡ x → cond x a Added.nothing ≡ Added.put bytes → n ≡ 0
    go true p q = eqb-true n 0 p
    go false p q = cc

module _ (trace : Bool) (s : Bma150) (now : Time) (bytes : List ℕ) (put : (called s (Call.StoredImage now 19)).adds ≡ Added.put bytes) where
  abbrev asked : Call
  asked = Call.StoredImage now 19

  -- it is accepted and leaves the sensor
  image_called : called s asked ≡ record { number = 0; sensor = s; adds = Added.put bytes }
  image_called = called_is (put_accepted (number s asked) (adds s asked) bytes put) (sym (image_leaves s now 19)) put

  image_said : text_of trace 0x0a (answer s asked) ≡ image_line trace s (hexes bytes)
  unfolding text_of L.line L.added_text L.pins word image_text
  image_said = ap (λ (k : Called). L.line trace 0x0a k) image_called

  -- the text of 0a alone
  image_shown : CallFits (asked) → (whole trace s (image_bytes now)).text ≡ image_line trace s (hexes bytes)
  unfolding inputs AllFit texts answers call_bytes
  image_shown f =
      ap (λ (l : List ℕ). (whole trace s l).text) (sym (append-nil (image_bytes now)))
      ∙ ap (λ (b : Running Bma150). b.text) (text_is_answers trace s (Call.StoredImage now 19 ∷ []) (f, tt))
      ∙ append-nil (text_of trace 0x0a (answer s (Call.StoredImage now 19)))
      ∙ image_said

-- ---- the run

module _ (b : Start) (cs : List Call) (now : Time) (rail : ℕ) (accepted : start_number b.by b.time b.image ≡ 0) (fits : RunFits b cs now rail) (trace : Bool) (s : Bma150) where
  -- the sensor that it leaves does what follows
  pub follows : (further : List ℕ) → Follows b cs now rail trace s further (whole trace (left b cs now rail) further).text
  unfolding call_bytes timed_bytes
  follows further =
      let bytes : start_bytes b ++ inputs (ending cs now rail) ≡ run_bytes b cs now rail =
      ap (λ (l : List ℕ). start_bytes b ++ l) (inputs_ending cs (Call.At now (Timed.Supply rail))) ∙ sym (append_assoc (start_bytes b) (inputs cs) (supply_bytes now rail)) in
      ap (λ (l : List ℕ). (whole trace s (l ++ further)).text) (sym bytes)
      ∙ start_text_goes_on trace s b fits.0 accepted (ending cs now rail) fits.1 further

  -- 0a shows the bytes that it hands out
  pub shows : (bytes : List ℕ) → stored_bytes b cs now rail ≡ Added.put bytes → Shows b cs now rail trace s (hexes bytes)
  unfolding CallFits
  shows bytes put =
      let f : CallFits (Call.At now (Timed.Supply rail)) = last_fits cs (Call.At now (Timed.Supply rail)) fits.1 in
      follows (image_bytes now) ∙ ap (λ (l : List ℕ). run_text b cs now rail trace ++ l) (image_shown trace (left b cs now rail) now bytes put (f.0, refl))

  -- and no other digits
  pub digits_are : (bytes digits : List ℕ) → stored_bytes b cs now rail ≡ Added.put bytes → Shows b cs now rail trace s digits → hexes bytes ≡ digits
  digits_are bytes digits put e =
      line_injective trace (left b cs now rail) (hexes bytes) digits
      (append_cancel_left (run_text b cs now rail trace) (image_line trace (left b cs now rail) (hexes bytes)) (image_line trace (left b cs now rail) digits) (sym (shows bytes put) ∙ e))
