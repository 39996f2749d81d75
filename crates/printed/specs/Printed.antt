-- What demand 3 says of the bench program: bytes in and bytes out.
use Rattle.std.specs.Prelude.{ℕ, ◌≡◌, Bool, List, ◌++◌}
use Rattle.time.specs.declared.Time.{Time}
use Rattle.calls.specs.declared.types.Call.{Call}
use Rattle.bma150.specs.declared.host.Bma150.{Bma150}
use Rattle.book.specs.Lists.{Start, started, answers, kept, Returns}
use Rattle.book.specs.Book.{opened, booked}
use Rattle.book.specs.Claim.{ending, left, stored_bytes}
use Rattle.bench.specs.Text.{hexes}
use Rattle.bench.specs.Run.{whole}
use Rattle.printed.specs.Inputs.{inputs, AllFit, start_bytes, StartFits, supply_bytes, image_bytes, texts, start_line, image_line}

-- two sensors that answer every list of calls alike
abbrev pub Alike : Bma150 → Bma150 → Type 0
Alike s t = (cs : List Call) → answers s cs ≡ answers t cs

-- ---- a start, a list of calls, and the supply call that ends it
module _ (b : Start) (cs : List Call) (now : Time) (rail : ℕ) where
  -- bytes in: 01 T and the image, the calls' commands, 04 T and the rail
  abbrev pub run_bytes : List ℕ
  run_bytes = start_bytes b ++ inputs cs ++ supply_bytes now rail

  -- every operand fits its field
  abbrev pub RunFits : Type 0
  RunFits = StartFits b × AllFit (ending cs now rail)

  -- bytes out: the start's line and a line for each call, the supply call's the last
  abbrev pub run_text : (trace : Bool) → List ℕ
  run_text trace = start_line trace b ++ texts trace (ending cs now rail) (answers (started b) (ending cs now rail))

  -- from whichever sensor s before the start: with this further input, this text follows
  abbrev pub Follows : (trace : Bool) (s : Bma150) (further text : List ℕ) → Type 0
  Follows trace s further text = (whole trace s (run_bytes ++ further)).text ≡ run_text trace ++ text

  -- with 0a at the supply call's time, a line with these digits follows
  abbrev pub Shows : (trace : Bool) (s : Bma150) (digits : List ℕ) → Type 0
  Shows trace s digits = Follows trace s (image_bytes now) (image_line trace (left b cs now rail) digits)

pub record Printed : Type 0 where
  -- sensors that answer alike print the same text for every input, starts and bad commands included
  pub alike : (s t : Bma150) → Alike s t → (trace : Bool) (input : List ℕ) → (whole trace s input).text ≡ (whole trace t input).text
  -- so do two that come back from 0 mV at one time with equal stored bytes and equal kept
  pub left_alike : (b d : Start) (cs ds : List Call) (now : Time) (rail power : ℕ) → Returns b cs now rail → Returns d ds now power
      → stored_bytes b cs now rail ≡ stored_bytes d ds now power → kept b cs ≡ kept d ds
      → (trace : Bool) (input : List ℕ) → (whole trace (left b cs now rail) input).text ≡ (whole trace (left d ds now power) input).text
  -- bytes in and bytes out: after a return from 0 mV 0a shows the digits of the book's cells
  pub stored : (b : Start) (cs : List Call) (now : Time) (rail : ℕ) → Returns b cs now rail → RunFits b cs now rail
      → (trace : Bool) (s : Bma150) → Shows b cs now rail trace s (hexes (booked (opened b) (ending cs now rail)).cells)
  -- and where two return at one time, show the same digits and have equal kept, one text follows both with every further input
  pub same : (b d : Start) (cs ds : List Call) (now : Time) (rail power : ℕ) → Returns b cs now rail → RunFits b cs now rail → Returns d ds now power → RunFits d ds now power
      → (trace : Bool) (s u : Bma150) (digits : List ℕ) → Shows b cs now rail trace s digits → Shows d ds now power trace u digits
      → kept b cs ≡ kept d ds
      → (further : List ℕ) → (text : List ℕ) × Follows b cs now rail trace s further text × Follows d ds now power trace u further text
