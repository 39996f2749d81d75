-- When the stage moves, and when it is left alone (analog.rs as bma150.rs and bma150/control.rs call it): an equation for each.
use Rattle.sensor.specs.Operation.{Operation}
use Rattle.std.specs.Prelude.{ℕ, suc, ◌<◌, ◌≤◌, ◌≡◌, Bool, List, eqb, ℤ, Option, Some, None}
use Rattle.std.proofs.Math.Path.{refl}
use Rattle.std.proofs.Common.{ap, ◌∙◌, le-ltb, lt-ltb}
use Rattle.std.proofs.Math.Bool.{true, false}
use Rattle.std.proofs.lemmas.Bool.{false≢true, cond_both}
use Rattle.time.specs.declared.Time.{Time}
use Rattle.time.specs.declared.Duration.{Duration}
use Rattle.time.specs.Clock as Clock
use Rattle.analog.specs.Axis.{Acceleration, Analog}
use Rattle.analog.specs.Axis as A
use Rattle.sampling.specs.declared.types.Input.{Input}
use Rattle.sampling.specs.declared.types.Acquisition.{Acquisition}
use Rattle.sampling.specs.declared.types.Sampling.{Sampling}
use Rattle.sampling.specs.Phase as Phase
use Rattle.sampling.specs.Stage as Stage
use Rattle.sensor.specs.declared.types.Outage.{Outage}
use Rattle.sensor.specs.declared.types.Sensor.{Sensor}
use Rattle.spi.specs.Frame as F
use Rattle.sensor.specs.Record.{away, cold_of, is_off, is_cold}
use Rattle.sensor.specs.Image.{from_nonvolatile}
use Rattle.sensor.specs.Select.{selected_to, may_select}
use Rattle.sensor.specs.Mode.{start_acquisition, pause, soft_reset}
use Rattle.waits.specs.declared.types.Served.{Served}
use Rattle.effects.specs.Theorems.Phases.{phase_measures, phase_warms, phase_tests}
use Rattle.waits.specs.Supply.{without_report, hold_analog, cut, power_off, zero_while_off, reacquired, returned, supply_low, supply_ok, set_supply, turned, set_input}

-- the stage of a sensor, and of what a phase changes
abbrev pub stage : Sensor → Analog
stage s = s.sampling.analog

abbrev pub stage_of : Acquisition → Analog
stage_of c = c.sampling.analog

-- the acceleration that is set
abbrev x_of : Sensor → ℤ
x_of s = s.kept.input.acceleration.x

abbrev y_of : Sensor → ℤ
y_of s = s.kept.input.acceleration.y

abbrev z_of : Sensor → ℤ
z_of s = s.kept.input.acceleration.z

-- the stage with every axis advanced to a moment with the acceleration that is set
abbrev pub caught_up : Sensor → (now : Time) → Analog
caught_up s now = record { x = A.advanced (stage s).x now (x_of s); y = A.advanced (stage s).y now (y_of s); z = A.advanced (stage s).z now (z_of s) }

pub record Moves : Type 0 where
  -- ---- at rest from that moment: a start, a return from 0 mV, a soft reset
  pub start : (now : Time) (image : List ℕ) → stage (from_nonvolatile now image) ≡ A.rest now
  pub rests_after_zero : (s : Sensor) (rail : ℕ) (now : Time) → 2400 ≤ rail → is_off s ≡ true → is_cold s ≡ true → stage (set_supply s rail now).sensor ≡ A.rest now
  pub reset : (s : Sensor) (now : Time) → stage (soft_reset s now) ≡ A.rest now
  -- ---- a phase of x, y or z advances its axis to the edge's moment, whatever the registers hold (so under self_test_1 too), and no other
  pub phase : (c : Acquisition) (input : Input) (needs : List ℕ) (axis : ℕ) → Phase.phase_of c.sampling.clock.ordinal ≡ suc axis → c.sampling.test ≡ None
      → stage_of (Phase.sample_phase c input needs) ≡ A.with_axis (stage_of c) axis (A.advanced (A.axis_of (stage_of c) axis) (Clock.last c.sampling.clock) (Phase.axis_input input axis))
  -- that of the temperature moves none, and while a self test runs no phase does
  pub temperature : (c : Acquisition) (input : Input) (needs : List ℕ) → Phase.phase_of c.sampling.clock.ordinal ≡ 0 → stage_of (Phase.sample_phase c input needs) ≡ stage_of c
  pub self_test : (c : Acquisition) (input : Input) (needs : List ℕ) (left : ℕ) → c.sampling.test ≡ Some left → stage_of (Phase.sample_phase c input needs) ≡ stage_of c
  -- ---- a setting, with supply and awake: an axis that changes advances with the old acceleration, one that does not stays; else none moves
  pub set : (s : Sensor) (input : Acceleration) (now : Time) → is_off s ≡ false → s.sampling.asleep ≡ false
      → stage (set_input s input now) ≡ record { x = A.turned (stage s).x now (x_of s) input.x; y = A.turned (stage s).y now (y_of s) input.y; z = A.turned (stage s).z now (z_of s) input.z }
  pub set_asleep : (s : Sensor) (input : Acceleration) (now : Time) → s.sampling.asleep ≡ true → stage (set_input s input now) ≡ stage s
  pub set_off : (s : Sensor) (input : Acceleration) (now : Time) → is_off s ≡ true → stage (set_input s input now) ≡ stage s
  -- ---- a pause and the loss of supply: awake, all axes advance first; asleep, or without supply already, none
  pub pauses : (s : Sensor) (now : Time) → s.sampling.asleep ≡ false → stage (pause s now) ≡ caught_up s now
  pub pauses_asleep : (s : Sensor) (now : Time) → s.sampling.asleep ≡ true → stage (pause s now) ≡ stage s
  pub lost : (s : Sensor) (rail : ℕ) (now : Time) → rail < 2400 → is_off s ≡ false → s.sampling.asleep ≡ false → stage (set_supply s rail now).sensor ≡ caught_up s now
  pub lost_asleep : (s : Sensor) (rail : ℕ) (now : Time) → rail < 2400 → is_off s ≡ false → s.sampling.asleep ≡ true → stage (set_supply s rail now).sensor ≡ stage s
  pub low_while_off : (s : Sensor) (rail : ℕ) (now : Time) → rail < 2400 → is_off s ≡ true → stage (set_supply s rail now).sensor ≡ stage s
  -- ---- a wake and a warm return awake: output and velocity stay, and the time between does not count; a warm return asleep moves none
  pub wakes : (s : Sensor) (now : Time) (ready : Duration) → stage (start_acquisition s now ready) ≡ A.all_resumed (stage s) now
  pub returns_warm : (s : Sensor) (rail : ℕ) (now : Time) → 2400 ≤ rail → is_off s ≡ true → is_cold s ≡ false → s.sampling.asleep ≡ false → stage (set_supply s rail now).sensor ≡ A.all_resumed (stage s) now
  pub returns_asleep : (s : Sensor) (rail : ℕ) (now : Time) → 2400 ≤ rail → is_off s ≡ true → is_cold s ≡ false → s.sampling.asleep ≡ true → stage (set_supply s rail now).sensor ≡ stage s
  -- supply that stays moves none
  pub stays_on : (s : Sensor) (rail : ℕ) (now : Time) → 2400 ≤ rail → is_off s ≡ false → stage (set_supply s rail now).sensor ≡ stage s

-- ---- phases

module _ (c : Acquisition) (input : Input) (needs : List ℕ) where
  axis_moves : (axis : ℕ) → Phase.phase_of c.sampling.clock.ordinal ≡ suc axis → c.sampling.test ≡ None → stage_of (Phase.sample_phase c input needs) ≡ stage_of (Phase.measured c input axis)
  axis_moves axis p e = phase_measures stage_of (λ d i. refl) (λ d. refl) input needs c axis p e

  temperature_stays : Phase.phase_of c.sampling.clock.ordinal ≡ 0 → stage_of (Phase.sample_phase c input needs) ≡ stage_of c
  temperature_stays p = phase_warms stage_of (λ d i. refl) (λ d. refl) input needs c p

  test_stays : (left : ℕ) → c.sampling.test ≡ Some left → stage_of (Phase.sample_phase c input needs) ≡ stage_of c
  test_stays left e = phase_tests stage_of (λ d i. refl) (λ d. refl) input needs c left e refl refl refl

-- ---- settings

module _ (s : Sensor) (input : Acceleration) (now : Time) where
  set_moves : is_off s ≡ false → s.sampling.asleep ≡ false → stage (set_input s input now) ≡ A.all_turned (stage s) now s.kept.input.acceleration input
  unfolding turned Stage.turned
  set_moves on awake = rw (on, awake)

  asleep_set : s.sampling.asleep ≡ true → stage (set_input s input now) ≡ stage s
  unfolding turned Stage.turned
  asleep_set asleep = cond_both (is_off s) _ _ (λ (g : Sampling). g.analog ≡ stage s) (λ e. refl) (λ e. rw asleep)

  off_set : is_off s ≡ true → stage (set_input s input now) ≡ stage s
  unfolding turned
  off_set off = rw off

-- ---- pauses and supply

held_awake : (s : Sensor) (now : Time) → s.sampling.asleep ≡ false → (Stage.hold s.sampling now s.kept.input).analog ≡ caught_up s now
unfolding Stage.hold A.hold
held_awake s now e = rw e

held_asleep : (s : Sensor) (now : Time) → s.sampling.asleep ≡ true → (Stage.hold s.sampling now s.kept.input).analog ≡ stage s
unfolding Stage.hold
held_asleep s now e = rw e

-- neither the cut of a write nor deselecting moves it
cut_stays : (o : Operation) (s : Sensor) (now : Time) → stage (cut o s now).sensor ≡ stage s
unfolding cut
cut_stays None s now = refl
cut_stays (Some w) s now = refl

deselected : (s : Sensor) (b : Bool) → stage (selected_to s b) ≡ stage s
unfolding selected_to
deselected s b = cond_both (F.changes s.frame b) _ _ (λ (t : Sensor). stage t ≡ stage s) (λ e. refl) (λ e. refl)

lost_stage : (s : Sensor) (now : Time) (cold : Bool) → stage (power_off s now cold).sensor ≡ stage (hold_analog s now)
lost_stage s now cold =
    let t = (cut s.writing (hold_analog s now) now).sensor in
    deselected t (may_select t false) ∙ cut_stays s.writing (hold_analog s now) now

-- an outage, or none, as the supply is away or not
some_away : (P : Option Outage → Type 0) (o : Option Outage) → away o ≡ true → ((x : Outage) → P (Some x)) → P o
unfolding away
some_away P None e h = absurd (false≢true e)
some_away P (Some x) e h = h x

none_away : (o : Option Outage) → away o ≡ false → o ≡ None
unfolding away
none_away None e = refl
none_away (Some x) e = cc

-- supply below 2400 mV, and not
module _ (s : Sensor) (rail : ℕ) (now : Time) where
  low : rail < 2400 → set_supply s rail now ≡ supply_low s.outage s (eqb rail 0) now
  unfolding set_supply
  low p = rw (lt-ltb rail 2400 p)

  high : 2400 ≤ rail → set_supply s rail now ≡ without_report (supply_ok s.outage s now)
  unfolding set_supply
  high p = rw (le-ltb rail 2400 p)

  lost_on : is_off s ≡ false → stage (supply_low s.outage s (eqb rail 0) now).sensor ≡ stage (hold_analog s now)
  unfolding supply_low
  lost_on on = ap (λ (o : Option Outage). stage (supply_low o s (eqb rail 0) now).sensor) (none_away s.outage on) ∙ lost_stage s now (eqb rail 0)

  low_off : is_off s ≡ true → stage (supply_low s.outage s (eqb rail 0) now).sensor ≡ stage s
  unfolding supply_low zero_while_off
  low_off off = some_away (λ o. stage (supply_low o s (eqb rail 0) now).sensor ≡ stage s) s.outage off (λ o. cond_both (eqb rail 0) _ _ (λ (t : Sensor). stage t ≡ stage s) (λ e. refl) (λ e. refl))

  back_cold : is_off s ≡ true → is_cold s ≡ true → stage (supply_ok s.outage s now) ≡ A.rest now
  unfolding supply_ok returned cold_of
  back_cold off = some_away (λ o. cold_of o ≡ true → stage (supply_ok o s now) ≡ A.rest now) s.outage off (λ o cold. rw cold)

  back_warm : is_off s ≡ true → is_cold s ≡ false → s.sampling.asleep ≡ false → stage (supply_ok s.outage s now) ≡ A.all_resumed (stage s) now
  unfolding supply_ok returned reacquired cold_of
  back_warm off warm awake = some_away (λ o. cold_of o ≡ false → stage (supply_ok o s now) ≡ A.all_resumed (stage s) now) s.outage off (λ o e. rw (e, awake)) warm

  back_asleep : is_off s ≡ true → is_cold s ≡ false → s.sampling.asleep ≡ true → stage (supply_ok s.outage s now) ≡ stage s
  unfolding supply_ok returned reacquired cold_of
  back_asleep off warm asleep = some_away (λ o. cold_of o ≡ false → stage (supply_ok o s now) ≡ stage s) s.outage off (λ o e. rw (e, asleep)) warm

  on_stays : is_off s ≡ false → stage (supply_ok s.outage s now) ≡ stage s
  unfolding supply_ok
  on_stays on = rw (none_away s.outage on)

-- of a served call the sensor's stage
abbrev left : Served → Analog
left r = stage r.sensor

pub moves : Moves
unfolding A.all_turned
moves = record {
  start = λ now image. refl;
  rests_after_zero = λ s rail now p off cold. ap left (high s rail now p) ∙ back_cold s rail now off cold;
  reset = λ s now. refl;
  phase = axis_moves;
  temperature = temperature_stays;
  self_test = test_stays;
  set = set_moves;
  set_asleep = asleep_set;
  set_off = off_set;
  pauses = held_awake;
  pauses_asleep = held_asleep;
  lost = λ s rail now p on awake. ap left (low s rail now p) ∙ lost_on s rail now on ∙ held_awake s now awake;
  lost_asleep = λ s rail now p on asleep. ap left (low s rail now p) ∙ lost_on s rail now on ∙ held_asleep s now asleep;
  low_while_off = λ s rail now p off. ap left (low s rail now p) ∙ low_off s rail now off;
  wakes = λ s now ready. refl;
  returns_warm = λ s rail now p off warm awake. ap left (high s rail now p) ∙ back_warm s rail now off warm awake;
  returns_asleep = λ s rail now p off warm asleep. ap left (high s rail now p) ∙ back_asleep s rail now off warm asleep;
  stays_on = λ s rail now p on. ap left (high s rail now p) ∙ on_stays s rail now on;
}
