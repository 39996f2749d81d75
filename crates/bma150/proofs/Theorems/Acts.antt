-- Every call is a timed call, a select, or one that sets at most what is kept.
use Rattle.std.specs.Prelude.{◌≡◌, refl, Bool}
use Rattle.time.specs.declared.Time.{Time}
use Rattle.calls.specs.declared.types.Timed.{Timed}
use Rattle.calls.specs.declared.types.Call.{Call}
use Rattle.sensor.specs.declared.types.Kept.{Kept}
use Rattle.sensor.specs.Record.{with_temperature}
use Rattle.bma150.specs.Called.{Acts, acts}

pub by_acts : (P : Call → Type 0)
    → ((now : Time) (t : Timed) → P (Call.At now t))
    → ((on : Bool) → P (Call.Select on))
    → ((c : Call) (f : Kept → Kept) → acts c ≡ Acts.keeps f → P c)
    → (c : Call) → P c
by_acts P timed select keeps (Call.At now t) = timed now t
by_acts P timed select keeps (Call.Temperature x) = keeps (Call.Temperature x) (with_temperature x) refl
by_acts P timed select keeps (Call.Select on) = select on
by_acts P timed select keeps (Call.View address) = keeps (Call.View address) (λ k. k) refl
by_acts P timed select keeps (Call.StoredImage now n) = keeps (Call.StoredImage now n) (λ k. k) refl
