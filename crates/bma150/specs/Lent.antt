-- The lent calls: what one leaves where the host keeps the sensor, and answers: what the call by value does.
use Rattle.std.specs.Prelude.{◌≡◌}
use Rattle.time.specs.declared.Time.{Time}
use Rattle.i2c.specs.declared.types.Levels.{Levels}
use Rattle.calls.specs.declared.types.Timed.TheVariants as Timed
use Rattle.calls.specs.declared.types.Call.TheVariants as Call
use Rattle.calls.specs.Table.{Outcome, number}
use Rattle.bma150.specs.declared.host.Bma150.{Bma150}
use Rattle.bma150.specs.Values.{Answer, report_of, report_values}
use Rattle.bma150.specs.Called.{called, reported}

-- a due call of the sensor s leaves t and answers r
pub record DueLent (s : Bma150) (now : Time) (t : Bma150) (r : Answer) : Type 0 where
  pub answers : number r ≡ (called s (Call.At now Timed.Due)).number
  pub leaves : t ≡ (called s (Call.At now Timed.Due)).sensor
  pub reports : report_values (report_of r) ≡ reported (called s (Call.At now Timed.Due)).adds

-- a pin call of the sensor s leaves t and answers r
pub record PinsLent (s : Bma150) (now : Time) (before after : Levels) (t : Bma150) (r : Outcome) : Type 0 where
  pub answers : number r ≡ (called s (Call.At now (Timed.Pins before after))).number
  pub leaves : t ≡ (called s (Call.At now (Timed.Pins before after))).sensor
