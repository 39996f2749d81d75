-- Marks over every list: by induction over the calls.
use mathlib.Core.Path.{◌≡◌, refl}
use mathlib.Core.List.{List, [], ◌∷◌}
use lib.ListN.{length}
use Rattle.time.specs.Time.{time}
use Rattle.calls.specs.declared.types.Call.{Call}
use Rattle.calls.proofs.Theorems.Left.{start_length}
use Rattle.sensor.specs.Image.{stock, reset_registers}
use Rattle.bma150.specs.declared.host.Bma150.{Bma150}
use Rattle.bma150.specs.Called.{measurement_of}
use Rattle.effects.specs.Marks.{Sized, Emptied, Course}
use Rattle.effects.specs.Theorems.Sizes.{copied_length}
use Rattle.effects.specs.Theorems.Marks as M
use Rattle.effects.specs.Theorems.Course.{Marked, joined, course, shows}
use Rattle.book.specs.Lists.{step, Start, started, after}
use Rattle.book.specs.Marks.{MarkedRuns}
use Rattle.book.proofs.Call.{after_call, at_start}
use Rattle.book.proofs.Walk.{leaves_meets}

-- ---- one call

step_marked : (s : Bma150) (c : Call) → Sized s.sensor → Sized (step s c).sensor × Course s.sensor (step s c).sensor
step_marked s c h = after_call (λ t. Sized t.sensor × Course s.sensor t.sensor) s c (λ p. (leaves_meets (λ now. Marked) course s c).marked h) (λ p. (h, Course.here))

-- ---- and a list

after_marked : (s : Bma150) (cs : List Call) → Sized s.sensor → Sized (after s cs).sensor × Course s.sensor (after s cs).sensor
unfolding after
after_marked s [] h = (h, Course.here)
after_marked s (c ∷ cs) h =
    let a = step_marked s c h in
    let b = after_marked (step s c) cs a.0 in
    (b.0, joined a.1 b.1)

-- ---- from a start, accepted or not

fresh : (b : Start) → Sized (started b).sensor × Emptied (started b).sensor
fresh b =
    at_start (λ x. Sized x.sensor × Emptied x.sensor) b
    (λ e. let n : length b.image ≡ 19 = start_length b.by b.time (length b.image) (measurement_of b.image) e in
    (record { registers = copied_length reset_registers b.image refl n; stored = n; marks = refl }, (M.marks).start_single b.time b.image))
    (record { registers = refl; stored = refl; marks = refl }, (M.marks).start_single (time 0) stock)

pub marked_runs : MarkedRuns
marked_runs = record {
  marks_with_values = step_marked;
  marked = λ b cs axis p. let f = fresh b in shows (started b).sensor f.1 axis p (after (started b) cs).sensor (after_marked (started b) cs f.0).1;
}
