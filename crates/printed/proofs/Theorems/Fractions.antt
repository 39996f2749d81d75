-- Calls whose operands fit have fractions of 64 bits, so a list that is written as bytes has all that demand 3 asks of its arguments.
use Rattle.std.specs.Prelude.{List, [], ◌∷◌, ◌++◌}
use Rattle.time.specs.declared.Time.{Time}
use Rattle.calls.specs.declared.types.Timed.{Timed}
use Rattle.calls.specs.declared.types.Call.{Call}
use Rattle.bma150.proofs.Theorems.Acts.{by_acts}
use Rattle.commands.specs.Encode.{TimeFits, CallFits}
use Rattle.book.specs.Lists.{FitsTimed, Fits, Fractions}
use Rattle.printed.specs.Inputs.{AllFit}

timed_fraction : (now : Time) (t : Timed) → TimeFits now → FitsTimed now t
timed_fraction now (Timed.Accelerations input) f = tt
timed_fraction now (Timed.Supply rail) f = tt
timed_fraction now Timed.Due f = tt
timed_fraction now (Timed.Rising mosi) f = f.1
timed_fraction now Timed.Falling f = tt
timed_fraction now (Timed.Pins before after) f = f.1

call_fraction : (c : Call) → CallFits c → Fits c
unfolding CallFits
call_fraction = by_acts (λ c. CallFits c → Fits c) (λ now t f. timed_fraction now t f.0) (λ on f. tt) (λ c k e f. rw e tt)

pub fractions_fit : (cs ds : List Call) → AllFit (cs ++ ds) → Fractions cs
unfolding AllFit
fractions_fit [] ds f = tt
fractions_fit (c ∷ cs) ds f = (call_fraction c f.0, fractions_fit cs ds f.1)
