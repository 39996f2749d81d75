-- The moment of each axis of the stage: none runs ahead.
use Rattle.std.specs.Prelude.{◌≤◌}
use Rattle.time.specs.declared.Time.{Time}
use Rattle.time.specs.Time.{ticks}
use Rattle.analog.specs.Axis.{Analog}
use Rattle.sensor.specs.declared.types.Sensor.{Sensor}

-- every axis stands at this moment or before it
pub record Upto (now : Time) (g : Analog) : Type 0 where
  pub x : ticks g.x.at ≤ ticks now
  pub y : ticks g.y.at ≤ ticks now
  pub z : ticks g.z.at ≤ ticks now

-- if every axis of s does, so does every axis of t. A record, so that s and t are inferred from it
pub record Onward (now : Time) (s t : Sensor) : Type 0 where
  pub onward : Upto now s.sampling.analog → Upto now t.sampling.analog
