-- Demand 3 over bytes in and bytes out.
use Prim.Native.Nat.{ℕ}
use mathlib.Core.Path.{◌≡◌, sym, ap, ◌∙◌}
use mathlib.Core.Bool.{Bool}
use mathlib.Core.List.{List, ◌++◌}
use Rattle.time.specs.declared.Time.{Time}
use Rattle.calls.specs.declared.types.Call.{Call}
use Rattle.bma150.specs.declared.host.Bma150.{Bma150}
use Rattle.bma150.specs.Called.{Added}
use Rattle.book.specs.Lists.{Start, kept, Returns}
use Rattle.book.specs.Book.{opened, booked}
use Rattle.book.specs.Claim.{ending, left, stored_bytes}
use Rattle.book.proofs.Lists.{claim}
use Rattle.bench.specs.Text.{hexes}
use Rattle.bench.specs.Run.{whole}
use Rattle.printed.specs.Printed.{RunFits, run_text, Follows, Shows, Printed}
use Rattle.printed.proofs.Theorems.Digits.{hexes_injective}
use Rattle.printed.proofs.Alike.{alike_prints}
use Rattle.printed.proofs.Bytes.{follows, shows, digits_are}

module _ (b d : Start) (cs ds : List Call) (now : Time) (rail power : ℕ) (first : Returns b cs now rail) (second : Returns d ds now power) where
  -- the sensors that the two leave
  left_alike : stored_bytes b cs now rail ≡ stored_bytes d ds now power → kept b cs ≡ kept d ds
      → (trace : Bool) (input : List ℕ) → (whole trace (left b cs now rail) input).text ≡ (whole trace (left d ds now power) input).text
  left_alike bytes k trace input = alike_prints (left b cs now rail) (left d ds now power) (λ calls. claim.same b d cs ds now rail power first second bytes k calls) trace input

  module _ (f : RunFits b cs now rail) (g : RunFits d ds now power) (trace : Bool) (s u : Bma150) (digits : List ℕ) (p : Shows b cs now rail trace s digits) (q : Shows d ds now power trace u digits) where
    -- equal digits are of equal bytes
    same_bytes : stored_bytes b cs now rail ≡ stored_bytes d ds now power
    same_bytes =
        let x = claim.stored b cs now rail first in
        let y = claim.stored d ds now power second in
        let k : List ℕ = (booked (opened b) (ending cs now rail)).cells in
        let l : List ℕ = (booked (opened d) (ending ds now power)).cells in
        let e : hexes k ≡ hexes l = digits_are b cs now rail first.start_accepted f trace s k digits x p ∙ sym (digits_are d ds now power second.start_accepted g trace u l digits y q) in
        x ∙ ap Added.put (hexes_injective k l e) ∙ sym y

    same_text : kept b cs ≡ kept d ds → (further : List ℕ) → (text : List ℕ) × Follows b cs now rail trace s further text × Follows d ds now power trace u further text
    same_text k further = (
      (whole trace (left b cs now rail) further).text,
      follows b cs now rail first.start_accepted f trace s further,
      follows d ds now power second.start_accepted g trace u further
          ∙ ap (λ (l : List ℕ). run_text d ds now power trace ++ l) (sym (left_alike same_bytes k trace further)),
    )

pub printed : Printed
printed = record {
  alike = alike_prints;
  left_alike = left_alike;
  stored = λ b cs now rail h f trace s. shows b cs now rail h.start_accepted f trace s (booked (opened b) (ending cs now rail)).cells (claim.stored b cs now rail h);
  same = λ b d cs ds now rail power h f k g. same_text b d cs ds now rail power h k f g;
}
