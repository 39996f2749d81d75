-- What a timed call reports, and what a view answers, is what the call adds; an accepted stored-image call has a buffer of 19 bytes.
use mathlib.Core.Path.{◌≡◌, refl, sym}
use Rattle.std.specs.Prelude.{ℕ, Option, Some, None}
use Rattle.time.specs.declared.Time.{Time}
use Rattle.calls.specs.declared.types.Timed.{Timed}
use Rattle.sensor.specs.declared.types.Sensor.{Sensor}
use borrow.Author.Tests.{eq-eqb}
use Rattle.calls.specs.declared.types.Call.TheVariants as Call
use Rattle.calls.proofs.Theorems.Left.{buffer_length}
use Rattle.samples.specs.Samples.{interaction_deadline}
use Rattle.bma150.specs.declared.host.Bma150.{Bma150}
use Rattle.sensor.specs.RegisterReads.{mark_of, viewed_as}
use Rattle.bma150.specs.Values.{report_values, view_value, mark_letter}
use Rattle.bma150.specs.Called.{Added, reported, of_view, effect, timed_adds, number}

pub reports_added : (s : Sensor) (now : Time) (t : Timed) → report_values (effect s now t).report ≡ reported (timed_adds t (effect s now t).report)
unfolding effect timed_adds reported report_values
reports_added s now (Timed.Accelerations input) = refl
reports_added s now (Timed.Supply rail) = refl
reports_added s now Timed.Due = refl
reports_added s now (Timed.Rising mosi) = refl
reports_added s now Timed.Falling = refl
reports_added s now (Timed.Pins before after) = refl

pub view_added : (v : Option ℕ) (s : Sensor) (address : ℕ) → of_view (viewed_as v s address) ≡ Added.viewed (view_value v) (mark_letter (mark_of v s address))
unfolding of_view viewed_as mark_of
view_added None s address = refl
view_added (Some b) s address = refl

pub buffer_sized : (s : Bma150) (now : Time) (n : ℕ) → 0 ≡ number s (Call.StoredImage now n) → n ≡ 19
buffer_sized s now n e = buffer_length s.last (interaction_deadline s.sensor) s.sensor.kept.lines now n (eq-eqb _ 0 (sym e))
