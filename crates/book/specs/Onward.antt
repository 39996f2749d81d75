-- The axes of the stage, over every list of calls after a start: none runs ahead of the last accepted time.
use Rattle.std.specs.Prelude.{◌≤◌, List}
use Rattle.time.specs.Time.{ticks}
use Rattle.calls.specs.declared.types.Call.{Call}
use Rattle.bma150.specs.declared.host.Bma150.{Bma150}
use Rattle.book.specs.Lists.{Start, started, after}

-- each axis was last moved at the last accepted time or before it
pub record NotAhead (s : Bma150) : Type 0 where
  pub x : ticks s.sensor.sampling.analog.x.at ≤ ticks s.last
  pub y : ticks s.sensor.sampling.analog.y.at ≤ ticks s.last
  pub z : ticks s.sensor.sampling.analog.z.at ≤ ticks s.last

-- ---- over every list, accepted start or not, and whatever the calls bring

pub record Onward : Type 0 where
  pub stage_onward : (b : Start) (cs : List Call) → NotAhead (after (started b) cs)
