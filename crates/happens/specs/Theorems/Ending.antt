-- From the calls that begin a write to what is claimed: the cut, the return and the stored bytes.
use Rattle.std.specs.Prelude.{ℕ, ◌^◌, ◌≡◌, refl, Bool, true, false, List, [], ◌∷◌, ◌++◌, Some}
use Rattle.std.proofs.Common.{ap, ◌∙◌}
use borrow.Author.Tests.{lt-leb}
use Rattle.time.specs.declared.Time.{Time}
use Rattle.sensor.specs.Operation.{stored_write}
use Rattle.calls.specs.declared.types.Timed.TheVariants as Timed
use Rattle.calls.specs.declared.types.Call.{Call}
use Rattle.calls.specs.Table as T
use Rattle.sensor.specs.declared.types.Sensor.{Sensor}
use Rattle.sensor.specs.Image.{power_on}
use Rattle.bma150.specs.declared.host.Bma150.{Bma150}
use Rattle.bma150.specs.Called.{called}
use Rattle.book.specs.Does.{timed_does, does}
use Rattle.book.specs.Lists.{Fractions, Start, started, accepts, zeroed, met_zero, Returns}
use Rattle.book.specs.Claim.{ending}
use Rattle.happens.specs.Happens.{Wanted, Happens}
use Rattle.happens.specs.Theorems.Going.{Goes, goes_on, all_fit}
use Rattle.happens.specs.Theorems.Holding.{host}
use Rattle.happens.specs.Theorems.Writes.{Asleep}
use Rattle.happens.specs.Theorems.Cut.{Dark, torn_cells, dark, is_dark, cut_goes, return_accepted, return_goes, image_handed_out}
use Rattle.happens.specs.Theorems.Starting.{few_seconds, a_fraction}

-- a list that ends with 0 mV has met it
zero_met : (cs : List Call) (before : Bool) (now : Time) → met_zero before (cs ++ (Call.At now (Timed.Supply 0) ∷ [])) ≡ true
unfolding met_zero zeroed does timed_does
zero_met [] before now = refl
zero_met (c ∷ cs) before now = zero_met cs (zeroed before (does c).rail) now

-- accepted calls from the start that leave the sensor asleep with the write running since then
pub record Begins (b : Start) (address value : ℕ) (cs : List Call) : Type 0 where
  pub selected : Bool
  pub sensor : Sensor
  pub goes : Goes (started b) cs (host b.time sensor)
  pub asleep : Asleep b.image selected sensor
  pub running : sensor.writing ≡ Some (stored_write b.time address value)
  pub fits : Fractions cs

module _ {b : Start} {a x : ℕ} {at : Time} {cs : List Call} (w : Wanted b a x at) (h : Begins b a x cs) where
  cut_in_time : T.late at ≡ false
  unfolding T.late
  cut_in_time = lt-leb (2 ^ 32) at.0 w.below_limit

  -- the sensor that the cut leaves
  abbrev gone : Sensor
  gone = dark b.time at (few_seconds w) (a_fraction w) cut_in_time w.since w.before_end h.asleep h.running

  to_cut : Goes (started b) (ending cs at 0) (host at gone)
  to_cut = goes_on h.goes (cut_goes b.time at (few_seconds w) (a_fraction w) cut_in_time w.since w.before_end h.asleep h.running)

  gone_dark : Dark (torn_cells b.time at b.image a x) gone
  gone_dark = is_dark b.time at (few_seconds w) (a_fraction w) cut_in_time w.since w.before_end h.asleep h.running

  to_return : Goes (started b) (ending (ending cs at 0) at 2400) (host at (power_on gone at))
  to_return = goes_on to_cut (return_goes at cut_in_time gone_dark)

  all_returns : Returns b (ending cs at 0) at 2400
  all_returns = record {
    fractions = all_fit cs _ h.fits (tt, tt);
    start_accepted = w.start_accepted;
    supply_accepted = ap (λ (k : Bma150). accepts k (Call.At at (Timed.Supply 2400))) to_cut.left ∙ return_accepted at cut_in_time gone_dark;
    with_supply = refl;
    from_zero = ap (λ (l : List Call). met_zero false l) to_cut.all ∙ zero_met cs false at;
  }

  -- so the write happens
  pub happens : {Over : List Call → Type 0} → Over cs → Happens Over b a x at
  happens o = record {
    calls = cs;
    over = o;
    begun = ap (λ (k : Bma150). k.sensor.writing) h.goes.left ∙ h.running;
    all_accepted = to_cut.all;
    returns = all_returns;
    stored = ap (λ (k : Bma150). (called k (Call.StoredImage at 19)).adds) to_return.left ∙ image_handed_out at cut_in_time gone_dark;
  }
