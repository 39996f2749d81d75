-- Lists of calls after a start (01, "Runs and the write book"): what they leave, answer and keep.
use Rattle.std.specs.Prelude.{ℕ, ◌^◌, ◌<◌, ◌≡◌, Bool, true, false, ◌||◌, List, [], ◌∷◌, leb, eqb, if◌then◌else◌, Option, Some, None}
use Rattle.time.specs.declared.Time.{Time}
use Rattle.spi.specs.declared.types.Drive.{Drive}
use Rattle.calls.specs.declared.types.Timed.{Timed}
use Rattle.calls.specs.declared.types.Call.{Call}
use Rattle.calls.specs.declared.types.Starting.{Starting}
use Rattle.sensor.specs.declared.types.Kept.{Kept}
use Rattle.sensor.specs.Image.{new_kept}
use Rattle.samples.specs.Samples.{interaction_deadline}
use Rattle.bma150.specs.declared.host.Bma150.{Bma150}
use Rattle.bma150.specs.Called.{Acts, acts, Added, number, called, start_number, after_start, interrupt, output, data_output}
use Rattle.book.specs.Does.{does}

-- ---- the fraction of a pin call's time is a 64-bit word, as its type has it; no other argument is bounded

abbrev pub FitsTimed : Time → Timed → Type 0
FitsTimed now (Timed.Supply rail) = Unit {0}
FitsTimed now (Timed.Rising mosi) = now.1 < 2 ^ 64
FitsTimed now Timed.Falling = Unit {0}
FitsTimed now (Timed.Pins before after) = now.1 < 2 ^ 64
FitsTimed now _ = Unit {0}

abbrev pub ActFits : Acts → Type 0
ActFits (Acts.timed now t) = FitsTimed now t
ActFits _ = Unit {0}

abbrev pub Fits : Call → Type 0
Fits c = ActFits (acts c)

abbrev pub Fractions : List Call → Type 0
Fractions [] = Unit {0}
Fractions (c ∷ cs) = Fits c × Fractions cs

-- ---- one call

abbrev pub accepts : Bma150 → Call → Bool
accepts s c = eqb (number s c) 0

-- the sensor that the call returns or leaves
abbrev pub step : Bma150 → Call → Bma150
step s c = (called s c).sensor

-- 01: answers compared; the report, the viewed byte with its mark and the bytes put in the buffer are what the call adds; the pins and next due are those after the call
pub record Answer : Type 0 where
  pub number : ℕ
  pub interrupt : Bool
  pub output : Drive
  pub data_output : Drive
  pub adds : Added
  pub next_due : Option Time

abbrev pub answer : Bma150 → Call → Answer
answer s c = record {
  number = (called s c).number;
  interrupt = interrupt (step s c);
  output = output (step s c);
  data_output = data_output (step s c);
  adds = (called s c).adds;
  next_due = interaction_deadline (step s c).sensor;
}

-- ---- a start and a list of calls

-- by command 01's call or by command 0c's
pub record Start : Type 0 where
  pub by : Starting
  pub time : Time
  pub image : List ℕ

abbrev pub started : Start → Bma150
started b = after_start b.by b.time b.image

-- each call gets the sensor that the call before it returned or left
unfoldable pub after : Bma150 → List Call → Bma150
after s [] = s
after s (c ∷ cs) = after (step s c) cs

unfoldable pub answers : Bma150 → List Call → List Answer
answers s [] = []
answers s (c ∷ cs) = answer s c ∷ answers (step s c) cs

-- the calls of a list that are accepted
unfoldable pub accepted : Bma150 → List Call → List Call
accepted s [] = []
accepted s (c ∷ cs) = if accepts s c then c ∷ accepted (step s c) cs else accepted (step s c) cs

-- ---- 01: supply comes back from 0 mV; over accepted calls

-- one of 0 since the last one of 2400 or more, or since the start
unfoldable pub zeroed : (before : Bool) → Option ℕ → Bool
zeroed before None = before
zeroed before (Some rail) = if leb 2400 rail then false else eqb rail 0 || before

unfoldable pub met_zero : (before : Bool) → List Call → Bool
met_zero before [] = before
met_zero before (c ∷ cs) = met_zero (zeroed before (does c).rail) cs

-- ---- 01: what is kept is what an accepted call last set, else the start's; over accepted calls

unfoldable pub last_kept : (before : Kept) → List Call → Kept
last_kept before [] = before
last_kept before (c ∷ cs) = last_kept ((does c).keeps before) cs

abbrev pub kept : Start → (cs : List Call) → Kept
kept b cs = last_kept new_kept (accepted (started b) cs)

-- ---- the start is accepted, and a list cs is followed by an accepted supply call at `now` that comes back from 0 mV
pub record Returns (b : Start) (cs : List Call) (now : Time) (rail : ℕ) : Type 0 where
  pub fractions : Fractions cs
  pub start_accepted : start_number b.by b.time b.image ≡ 0
  pub supply_accepted : accepts (after (started b) cs) (Call.At now (Timed.Supply rail)) ≡ true
  pub with_supply : leb 2400 rail ≡ true
  pub from_zero : met_zero false (accepted (started b) cs) ≡ true
