-- What moves the stage beside the phases (analog.rs, as devices/bma150.rs and bma150/control.rs call it).
use Rattle.std.specs.Prelude.{if◌then◌else◌}
use Rattle.time.specs.declared.Time.{Time}
use Rattle.analog.specs.Axis.{Acceleration}
use Rattle.analog.specs.Axis as A
use Rattle.sampling.specs.declared.types.Input.{Input}
use Rattle.sampling.specs.declared.types.Sampling.{Sampling}
use Rattle.sampling.specs.Phase.{with_analog}

-- at rest from now (a start, a return from 0 mV, a soft reset)
abbrev pub rested : Sampling → (now : Time) → Sampling
rested s now = with_analog s (A.rest now)

-- the time asleep or without supply does not count (`start_acquisition`)
abbrev pub resumed : Sampling → (now : Time) → Sampling
resumed s now = with_analog s (A.all_resumed s.analog now)

-- awake, every axis advances with its input (`hold_analog`, before a pause and a loss of supply)
unfoldable pub hold : Sampling → (now : Time) (input : Input) → Sampling
hold s now input = if s.asleep then s else with_analog s (A.hold s.analog now input.acceleration)

-- awake, every axis whose input changes advances with the old one (`set_input`)
unfoldable pub turned : Sampling → (now : Time) (old new : Acceleration) → Sampling
turned s now old new = if s.asleep then s else with_analog s (A.all_turned s.analog now old new)
