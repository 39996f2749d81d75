-- The sensor of an accepted start.
use Rattle.std.specs.Prelude.{ℕ, ◌^◌, ◌<◌, ◌≡◌, refl, true, false, List, eqb, length}
use Rattle.std.proofs.Common.{arith, ap, lit≤}
use borrow.Author.Tests.{leb-false}
use Rattle.std.proofs.lemmas.List.Edits.{length-paste}
use Rattle.time.specs.declared.Time.{Time}
use Rattle.calls.specs.declared.types.Starting.{Starting}
use Rattle.calls.proofs.Theorems.Left.{start_clear, start_length}
use Rattle.calls.specs.Table as T
use Rattle.sensor.specs.Image.{reset_registers, from_nonvolatile}
use Rattle.bma150.specs.Called.{measurement_of, start_number, after_start}
use Rattle.book.specs.Lists.{Start, started}
use Rattle.happens.specs.Happens.{Wanted}
use Rattle.happens.specs.Theorems.Holding.{host}
use Rattle.happens.specs.Theorems.Writes.{Awake}

-- ---- what acceptance says of the start

module _ (by : Starting) (t : Time) (image : List ℕ) (e : start_number by t image ≡ 0) where
  taken : eqb (start_number by t image) 0 ≡ true
  taken = ap (λ (n : ℕ). eqb n 0) e

  start_in_time : T.late t ≡ false
  start_in_time = (start_clear by t (length image) (measurement_of image) taken).1.1.0

  nineteen : length image ≡ 19
  nineteen = start_length by t (length image) (measurement_of image) taken

  start_is : after_start by t image ≡ host t (from_nonvolatile t image)
  unfolding after_start T.unless_refused
  start_is = rw e

  start_awake : Awake t image false (from_nonvolatile t image)
  start_awake = record {
    on = refl;
    waits = refl;
    awake = refl;
    cells = refl;
    sized = length-paste reset_registers 0x0b image 19 (lit≤ tt) (omega (arith, nineteen));
    frame = refl;
  }

-- ---- the start of a wanted write
module _ {b : Start} {a x : ℕ} {at : Time} (w : Wanted b a x at) where
  -- its time is below the limit
  pub in_time : T.late b.time ≡ false
  in_time = start_in_time b.by b.time b.image w.start_accepted

  -- its whole seconds
  pub few_seconds : b.time.0 < 2 ^ 32
  unfolding T.late
  few_seconds = leb-false (2 ^ 32) b.time.0 in_time

  -- its fraction of a second
  pub a_fraction : b.time.1 < 2 ^ 64
  a_fraction = w.start_fraction

  -- its sensor
  pub started_is : started b ≡ host b.time (from_nonvolatile b.time b.image)
  started_is = start_is b.by b.time b.image w.start_accepted

  -- which is awake
  pub started_awake : Awake b.time b.image false (from_nonvolatile b.time b.image)
  started_awake = start_awake b.by b.time b.image w.start_accepted
