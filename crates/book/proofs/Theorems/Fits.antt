-- What the one hypothesis of demand 3 leaves in: every call whose time, if it has one, has a fraction of 64 bits.
use Rattle.std.specs.Prelude.{◌^◌, ◌<◌, ◌≡◌, refl, List, [], ◌∷◌, Some}
use Rattle.time.specs.declared.Time.{Time}
use Rattle.calls.specs.declared.types.Timed.TheVariants as Timed
use Rattle.calls.specs.declared.types.Call.{Call}
use Rattle.bma150.specs.Called.{Acts, acts}
use Rattle.book.specs.Does.{timed_does, act_does, does}
use Rattle.book.specs.Lists.{ActFits, Fits, Fractions}

-- such a call
abbrev pub Word : Call → Type 0
Word c = (now : Time) → (does c).time ≡ Some now → now.1 < 2 ^ 64

-- of what a call acts on
act_fits : (o : Acts) → ((now : Time) → (act_does o).time ≡ Some now → now.1 < 2 ^ 64) → ActFits o
unfolding timed_does
act_fits (Acts.timed now (Timed.Rising mosi)) w = w now refl
act_fits (Acts.timed now (Timed.Pins before after)) w = w now refl
act_fits _ w = tt

-- whatever its kind and its other arguments
pub fits : (c : Call) → Word c → Fits c
unfolding does
fits c w = act_fits (acts c) w

abbrev pub Words : List Call → Type 0
Words [] = Unit {0}
Words (c ∷ cs) = Word c × Words cs

pub all_fit : (cs : List Call) → Words cs → Fractions cs
all_fit [] w = tt
all_fit (c ∷ cs) w = (fits c w.0, all_fit cs w.1)
