-- What the table of refusals asks of a call, taken from the call once.
use Rattle.std.specs.Prelude.{ℕ, Some, None}
use Rattle.time.specs.declared.Time.{Time}
use Rattle.analog.specs.Axis.{Acceleration}
use Rattle.i2c.specs.declared.types.Levels.{Levels}
use Rattle.calls.specs.declared.types.Timed.{Timed}
use Rattle.calls.specs.declared.types.Call.{Call}
use Rattle.calls.specs.declared.types.Kind.{Kind}
use Rattle.calls.specs.declared.types.Facts.{Facts}

-- a timed call with nothing more to ask of it
abbrev pub at : (kind : Kind) (now : Time) → Facts
at kind now = record { kind = kind; time = Some now; bytes = None; axes = None; lines = None }

-- a call without a time
abbrev pub untimed : Facts
untimed = record { kind = Kind.Untimed; time = None; bytes = None; axes = None; lines = None }

-- a start or a stored-image call: bytes and a time, and none of 01's timed calls
abbrev pub bringing : (now : Time) (n : ℕ) → Facts
bringing now n = record { kind = Kind.Untimed; time = Some now; bytes = Some n; axes = None; lines = None }

-- a timed call that sets the accelerations
abbrev pub setting : (now : Time) (input : Acceleration) → Facts
setting now input = record { kind = Kind.Timed; time = Some now; bytes = None; axes = Some input; lines = None }

-- an I2C pin report
abbrev pub reporting : (now : Time) (before : Levels) → Facts
reporting now before = record { kind = Kind.Timed; time = Some now; bytes = None; axes = None; lines = Some before }

-- 01: a timed call is accelerations, supply, due moment, SPI edge, I2C pins
unfoldable pub timed_facts : (now : Time) → Timed → Facts
timed_facts now (Timed.Accelerations input) = setting now input
timed_facts now (Timed.Supply rail) = at Kind.Timed now
timed_facts now Timed.Due = at Kind.Due now
timed_facts now (Timed.Rising mosi) = at Kind.Timed now
timed_facts now Timed.Falling = at Kind.Timed now
timed_facts now (Timed.Pins before after) = reporting now before

unfoldable pub facts : Call → Facts
facts (Call.At now t) = timed_facts now t
facts (Call.Temperature x) = untimed
facts (Call.Select on) = untimed
facts (Call.View address) = untimed
facts (Call.StoredImage now n) = bringing now n
