-- The marks of a view, over every list of calls after a start.
use Rattle.std.specs.Prelude.{ℕ, ◌<◌, List}
use Rattle.calls.specs.declared.types.Call.{Call}
use Rattle.bma150.specs.declared.host.Bma150.{Bma150}
use Rattle.effects.specs.Marks.{Sized, Course, Shows}
use Rattle.book.specs.Lists.{Start, started, after, step}

pub record MarkedRuns : Type 0 where
  -- value and mark change only together: what a call does is a course of edges, soft resets, returns from 0 mV and steps without a sample
  pub marks_with_values : (s : Bma150) (c : Call) → Sized s.sensor → Sized (step s c).sensor × Course s.sensor (step s c).sensor
  -- so, of every sensor of a run, an axis shows nothing sampled yet, the mean of a full window, or a single code, and its mark says which
  pub marked : (b : Start) (cs : List Call) (axis : ℕ) → axis < 3 → Shows axis (started b).sensor (after (started b) cs).sensor
