-- Demand 3, over the definitions.
use Rattle.std.specs.Prelude.{ℕ, ◌≡◌, List, [], ◌∷◌, ◌++◌}
use Rattle.calls.specs.declared.types.Timed.TheVariants as Timed
use Rattle.calls.specs.declared.types.Call.{Call}
use Rattle.time.specs.declared.Time.{Time}
use Rattle.bma150.specs.declared.host.Bma150.{Bma150}
use Rattle.bma150.specs.Called.{Added, called}
use Rattle.book.specs.Lists.{Start, started, after, answers, kept, Returns}
use Rattle.book.specs.Book.{opened, booked}

-- a list and the supply call that ends it
abbrev pub ending : (cs : List Call) (now : Time) (rail : ℕ) → List Call
ending cs now rail = cs ++ (Call.At now (Timed.Supply rail) ∷ [])

-- the sensor right after it
abbrev pub left : Start → (cs : List Call) (now : Time) (rail : ℕ) → Bma150
left b cs now rail = after (started b) (ending cs now rail)

-- 01: stored bytes are those the stored-image call hands out right after it, at its time
abbrev pub stored_bytes : Start → (cs : List Call) (now : Time) (rail : ℕ) → Added
stored_bytes b cs now rail = (called (left b cs now rail) (Call.StoredImage now 19)).adds

pub record Claim : Type 0 where
  -- after a list that ends in a return from 0 mV the stored bytes are the book's cells
  pub stored : (b : Start) (cs : List Call) (now : Time) (rail : ℕ) → Returns b cs now rail
      → stored_bytes b cs now rail ≡ Added.put (booked (opened b) (ending cs now rail)).cells
  -- two that return at one time with equal bytes and equal kept answer every further list alike
  pub same : (b d : Start) (cs ds : List Call) (now : Time) (rail power : ℕ) → Returns b cs now rail → Returns d ds now power
      → stored_bytes b cs now rail ≡ stored_bytes d ds now power
      → kept b cs ≡ kept d ds
      → (further : List Call) → answers (left b cs now rail) further ≡ answers (left d ds now power) further
