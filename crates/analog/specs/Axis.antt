-- The stage before an axis is sampled (analog.rs): second order, 1500 Hz, Butterworth damping, gain 1.
use Rattle.std.specs.Prelude.{ℕ, ◌^◌, Bool, not, ◌&&◌, ◌||◌, ℤ, pos, ◌+ℤ◌, ◌-ℤ◌, ◌*ℤ◌, ◌==◌, int_lt, if◌then◌else◌}
use Rattle.time.specs.declared.Time.{Time}
use Rattle.time.specs.Time.{lasts, since}
use Rattle.analog.specs.declared.types.Factors.{Factors}
use Rattle.analog.specs.declared.types.Axis.{Axis}
use Rattle.analog.specs.declared.types.Axes.{Axes}
use Rattle.analog.specs.Round.{round, low_64}
use Rattle.analog.specs.Decay.{unit, factors}

-- `SIGNAL`: output and velocity are in 2^-24 of a millionth of g
abbrev pub signal : ℕ
signal = 2 ^ 24

-- an acceleration in these units
abbrev pub target : (input : ℤ) → ℤ
target input = input *ℤ pos signal

-- two integers are the same
abbrev pub same : ℤ → ℤ → Bool
same a b = not (int_lt a b || int_lt b a)

-- `new` with an input of 0: at rest there from now
abbrev pub at_rest : (now : Time) → Axis
at_rest now = record { at = now; output = pos 0; velocity = pos 0 }

-- `resume`: the time between does not count
abbrev pub resumed : Axis → (now : Time) → Axis
resumed a now = record a { at = now }

-- it stands still on the input
abbrev pub stands_on : Axis → (input : ℤ) → Bool
stands_on a input = same a.output (target input) && same a.velocity (pos 0)

-- one step, by what remains of distance and velocity
unfoldable pub stepped : Axis → (now : Time) (input : ℤ) → Factors → Axis
stepped a now input f =
    let delta = a.output -ℤ target input in
    record {
      at = now;
      output = low_64 (target input +ℤ round ((f.re +ℤ f.im) *ℤ delta +ℤ f.im *ℤ a.velocity) unit);
      velocity = low_64 (round ((f.re -ℤ f.im) *ℤ a.velocity -ℤ pos 2 *ℤ f.im *ℤ delta) unit);
    }

-- `advance`: the input was constant since the axis's moment; no step where no time passes or where it stands on the input
unfoldable pub advanced : Axis → (now : Time) (input : ℤ) → Axis
advanced a now input =
    let dt = lasts (since now a.at) in
    if dt == 0 || stands_on a input then resumed a now else stepped a now input (factors dt)

-- what `advance` answers: the lagged acceleration in millionths of g
unfoldable pub value : Axis → ℤ
value a = low_64 (round a.output signal)

-- ---- the three axes

-- an acceleration: of each axis, in millionths of g (the Rust's `Acceleration`)
abbrev pub Acceleration : Type 0
Acceleration = Axes ℤ

-- the stage of each axis (the Rust's `analog`)
abbrev pub Analog : Type 0
Analog = Axes Axis

abbrev pub rest : (now : Time) → Analog
rest now = record { x = at_rest now; y = at_rest now; z = at_rest now }

abbrev pub all_resumed : Analog → (now : Time) → Analog
all_resumed g now = record { x = resumed g.x now; y = resumed g.y now; z = resumed g.z now }

-- `hold_analog`: every axis advances
unfoldable pub hold : Analog → (now : Time) (input : Acceleration) → Analog
hold g now input = record { x = advanced g.x now input.x; y = advanced g.y now input.y; z = advanced g.z now input.z }

-- a setting of an axis: where its input changes, it advances with the old one
unfoldable pub turned : Axis → (now : Time) (old new : ℤ) → Axis
turned a now old new = if same old new then a else advanced a now old

-- `set_input`: every axis is set
unfoldable pub all_turned : Analog → (now : Time) (old new : Acceleration) → Analog
all_turned g now old new = record { x = turned g.x now old.x new.x; y = turned g.y now old.y new.y; z = turned g.z now old.z new.z }

-- axis 0, 1 or 2 is x, y or z
unfoldable pub axis_of : {T : Type 0} → Axes T → (axis : ℕ) → T
axis_of g axis = if axis == 0 then g.x else if axis == 1 then g.y else g.z

unfoldable pub with_axis : {T : Type 0} → Axes T → (axis : ℕ) → T → Axes T
with_axis g axis a =
    if axis == 0 then record { x = a; y = g.y; z = g.z }
    else if axis == 1 then record { x = g.x; y = a; z = g.z }
    else record { x = g.x; y = g.y; z = a }
