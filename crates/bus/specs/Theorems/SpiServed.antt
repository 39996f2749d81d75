-- An accepted call serves its edge, and any other call but select 0, a supply below 2400 mV and a soft reset leaves the frame.
use Rattle.std.specs.Prelude.{ℕ, ◌≡◌, Bool, true, ◌||◌, [], ◌∷◌, ltb, Option, Some, None}
use Rattle.std.proofs.Math.Path.{refl, sym, ap, subst}
use Rattle.std.proofs.Common.{◌∙◌}
use Rattle.std.proofs.Math.Bool.{false}
use Rattle.laws.specs.Bools.{or_left, or_right}
use Rattle.time.specs.declared.Time.{Time}
use Rattle.analog.specs.Axis.{Acceleration}
use Rattle.i2c.specs.declared.types.Levels.{Levels}
use Rattle.spi.specs.declared.types.Frame.{Frame}
use Rattle.spi.specs.Frame as F
use Rattle.spi.specs.Lines.{Event, Rise, Fall, Now, serve, left}
use Rattle.spi.proofs.Theorems.Broken.{left_selected}
use Rattle.calls.specs.declared.types.Timed.{Timed}
use Rattle.calls.specs.declared.types.Call.{Call}
use Rattle.sensor.specs.declared.types.Kept.{Kept}
use Rattle.sensor.specs.declared.types.Sensor.{Sensor}
use Rattle.sensor.specs.Record.{is_off, four_wire}
use Rattle.sensor.specs.Select.{selected_to, may_select, set_selected}
use Rattle.samples.specs.Samples.{sync_local_until}
use Rattle.serial.specs.I2cPins.{i2c_listens}
use Rattle.waits.specs.Supply.{set_supply}
use Rattle.bma150.specs.declared.host.Bma150.{Bma150}
use Rattle.bma150.proofs.Theorems.Acts.{by_acts}
use Rattle.bma150.specs.Called.{Acts, acts, effect, leaves}
use Rattle.book.specs.Does.{at_rise}
use Rattle.book.specs.Lists.{accepts, step}
use Rattle.effects.specs.Theorems.Driver as D
use Rattle.bus.specs.I2c.{sampled}
use Rattle.bus.specs.Spi.{Chosen, timed_edge, edge_of, at_fall, timed_now, now_of, timed_leaves, leaves_frame, sleeps_at}
use Rattle.bus.specs.Theorems.Parts.{absurd_bool, Same, and_then}
use Rattle.bus.specs.Theorems.Between.{supply_on, due_same}
use Rattle.bus.specs.Theorems.Calls.{accepted_leaves}
use Rattle.bus.specs.Theorems.Unheard.{deaf_report}
use Rattle.bus.specs.Theorems.Fading.{Faded, unfaded, and_faded, serve_faded}
use Rattle.bus.specs.Theorems.SpiEdges.{faded_of, chosen, around, around_same, chosen_again}
use Rattle.bus.specs.Theorems.SpiCalls.{caught_same, caught_faded, rise_faded, fall_faded, rise_met, fall_met, rising_faded, rising_around, falling_frame, falling_around}

-- the frame that an edge leaves; a call without one leaves it as it is
unfoldable pub predicted : Now → Frame → Option Event → Frame
predicted n f None = f
predicted n f (Some e) = serve n f e

-- ---- a timed call

module _ (s : Bma150) (now : Time) (t : Timed) (ok : accepts s (Call.At now t) ≡ true) (h : Chosen s.sensor) where
  abbrev c : Call
  c = Call.At now t

  -- the sensor sleeps at no moment of it
  abbrev P : Type 0
  P = sleeps_at s c ≡ false

  abbrev x : Sensor
  x = s.sensor

  abbrev u : Sensor
  u = sync_local_until x now false

  abbrev early : Bool
  early = u.sampling.asleep || (sampled x now).sampling.asleep

  awake : P → u.sampling.asleep ≡ false
  unfolding sleeps_at
  awake p = or_left u.sampling.asleep (sampled x now).sampling.asleep (or_left early (step s c).sensor.sampling.asleep p)

  still : P → (sampled x now).sampling.asleep ≡ false
  unfolding sleeps_at
  still p = or_right u.sampling.asleep (sampled x now).sampling.asleep (or_left early (step s c).sensor.sampling.asleep p)

  is : (step s c).sensor ≡ (effect u now t).sensor
  unfolding leaves
  is = ap (λ (y : Bma150). y.sensor) (accepted_leaves s c ok)

  after : P → (effect u now t).sensor.sampling.asleep ≡ false
  unfolding sleeps_at
  after p = ap (λ (y : Sensor). y.sampling.asleep) (sym is) ∙ or_right early (step s c).sensor.sampling.asleep p

  met : Faded P x.frame u.frame
  met = caught_faded P x now h awake still

  same : Same x u
  same = caught_same P x now h awake still

  -- the effect leaves these of the sensor that the samples before leave
  kept : (y : Sensor) → (effect u now t).sensor ≡ y → Faded P u.frame y.frame → Faded P x.frame (step s c).sensor.frame
  kept y e p = and_faded met (and_faded p (unfaded (ap (λ (z : Sensor). z.frame) (is ∙ e))))

  heard : (y : Sensor) → (effect u now t).sensor ≡ y → around y ≡ around u → y.frame.selected ≡ true → Chosen (step s c).sensor
  heard y e p q = subst Chosen (sym (is ∙ e)) (chosen_again (p ∙ around_same same) q h)

-- an event keeps the select pin
serve_selected : (n : Now) (f : Frame) (e : Event) → (serve n f e).selected ≡ f.selected
unfolding left
serve_selected n f e = left_selected f (e ∷ []) (n ∷ [])

selected_after : {P : Type 0} (n : Now) (f : Frame) (e : Event) {g : Frame} → Faded P (serve n f e) g → f.selected ≡ true → g.selected ≡ true
selected_after n f e p h = ap (λ (k : Frame). k.selected) p.is ∙ serve_selected n f e ∙ h

-- ---- by kind

-- what is left of a sensor that hears SPI: its frame but for its driver, and its hearing
pub record Left (s : Bma150) (c : Call) : Type 0 where
  pub frame : Faded (sleeps_at s c ≡ false) (predicted (now_of s c) s.sensor.frame (edge_of c)) (step s c).sensor.frame
  pub hears : Chosen (step s c).sensor

module _ (s : Bma150) (now : Time) (h : Chosen s.sensor) where
  abbrev y : Sensor
  y = sync_local_until s.sensor now false

  abbrev at_now : Timed → Call
  at_now t = Call.At now t

  -- a call without an edge, whose effect leaves the frame but for its driver, and the parts beside it
  no_edge : (t : Timed) → (ok : accepts s (at_now t) ≡ true) → timed_edge t ≡ None → Same y (effect y now t).sensor
      → Faded (sleeps_at s (at_now t) ≡ false) y.frame (effect y now t).sensor.frame → Left s (at_now t)
  unfolding predicted edge_of now_of
  no_edge t ok e p f =
      record {
        frame = and_faded (unfaded (sym (ap (λ (o : Option Event). predicted (timed_now s now t) s.sensor.frame o) e))) (kept s now t ok h (effect y now t).sensor refl f);
        hears = heard s now t ok h (effect y now t).sensor refl (around_same p) (chosen (and_then (same s now t ok h) p) h).selected;
      }

  input_left : (input : Acceleration) → accepts s (at_now (Timed.Accelerations input)) ≡ true → Left s (at_now (Timed.Accelerations input))
  unfolding effect timed_edge
  input_left input ok = no_edge (Timed.Accelerations input) ok refl (record { same = refl }) (unfaded refl)

  supplied : (rail : ℕ) → ltb rail 2400 ≡ false → is_off y ≡ false → (set_supply y rail now).sensor ≡ y
  supplied rail e f = supply_on y rail now f e

  supply_left : (rail : ℕ) → ltb rail 2400 ≡ false → accepts s (at_now (Timed.Supply rail)) ≡ true → Left s (at_now (Timed.Supply rail))
  unfolding effect timed_edge
  supply_left rail e ok =
      let g = supplied rail e (chosen (same s now (Timed.Supply rail) ok h) h).on in
      no_edge (Timed.Supply rail) ok refl (subst (λ (z : Sensor). Same y z) (sym g) (record { same = refl })) (unfaded (ap (λ (z : Sensor). z.frame) g))

  due_left : accepts s (at_now Timed.Due) ≡ true → Left s (at_now Timed.Due)
  unfolding effect timed_edge
  due_left ok =
      let k = chosen (same s now Timed.Due ok h) h in
      let p = due_same y now k.ready k.loud in
      no_edge Timed.Due ok refl p (faded_of p (D.due_fades y now) (λ q. D.due_driver y now (after s now Timed.Due ok h q)))

  unheard : i2c_listens s.sensor ≡ false
  unfolding i2c_listens
  unheard = rw h.selected

  pins_left : (a b : Levels) → accepts s (at_now (Timed.Pins a b)) ≡ true → Left s (at_now (Timed.Pins a b))
  unfolding effect timed_edge predicted edge_of
  pins_left a b ok =
      let t = Timed.Pins a b in
      let g = sym (is s now t ok h) ∙ deaf_report s now a b ok unheard in
      record {
        frame = and_faded (met s now t ok h) (unfaded (ap (λ (z : Sensor). z.frame) (is s now t ok h ∙ g)));
        hears = subst Chosen (sym (is s now t ok h ∙ g)) (chosen_again (around_same (same s now t ok h)) (chosen (same s now t ok h) h).selected h);
      }

  rise_left : (mosi : Bool) → timed_leaves s.sensor now (Timed.Rising mosi) ≡ false → accepts s (at_now (Timed.Rising mosi)) ≡ true → Left s (at_now (Timed.Rising mosi))
  unfolding effect timed_edge timed_leaves predicted edge_of now_of timed_now
  rise_left mosi gentle ok =
      let t = Timed.Rising mosi in
      let n = now_of s (at_now t) in
      let m = at_rise s.sensor now in
      let P = sleeps_at s (at_now t) ≡ false in
      let p = rise_faded P s.sensor now h (awake s now t ok h) (still s now t ok h) in
      let r = rise_met P s.sensor now h (awake s now t ok h) (still s now t ok h) in
      let k = chosen r h in
      let i = is s now t ok h in
      let mode = ap (λ (z : Sensor). four_wire z) i in
      let f = rising_faded P m k mosi now n refl mode (λ a. refl) gentle (after s now t ok h) in
      let g = and_faded (serve_faded n s.sensor.frame m.frame (Rise mosi) p) (and_faded f (unfaded (ap (λ (z : Sensor). z.frame) i))) in
      record {
        frame = g;
        hears = chosen_again (ap (λ (z : Sensor). around z) i ∙ rising_around P m k mosi now n refl mode (λ a. refl) gentle (after s now t ok h) ∙ around_same r) (selected_after n s.sensor.frame (Rise mosi) g h.selected) h;
      }

  fall_left : accepts s (at_now Timed.Falling) ≡ true → Left s (at_now Timed.Falling)
  unfolding effect timed_edge predicted edge_of now_of timed_now
  fall_left ok =
      let t = Timed.Falling in
      let n = now_of s (at_now t) in
      let m = at_fall s.sensor now in
      let P = sleeps_at s (at_now t) ≡ false in
      let p = fall_faded P s.sensor now h (awake s now t ok h) (still s now t ok h) in
      let r = fall_met P s.sensor now h (awake s now t ok h) (still s now t ok h) in
      let k = chosen r h in
      let i = is s now t ok h in
      let g = and_faded (serve_faded n s.sensor.frame m.frame Fall p) (unfaded (ap (λ (z : Sensor). z.frame) i ∙ falling_frame m k n refl refl)) in
      record { frame = g; hears = chosen_again (ap (λ (z : Sensor). around z) i ∙ falling_around m k ∙ around_same r) (selected_after n s.sensor.frame Fall g h.selected) h }

  timed_left : (t : Timed) → timed_leaves s.sensor now t ≡ false → accepts s (at_now t) ≡ true → Left s (at_now t)
  unfolding timed_leaves
  timed_left (Timed.Accelerations input) e ok = input_left input ok
  timed_left (Timed.Supply rail) e ok = supply_left rail e ok
  timed_left Timed.Due e ok = due_left ok
  timed_left (Timed.Rising mosi) e ok = rise_left mosi e ok
  timed_left Timed.Falling e ok = fall_left ok
  timed_left (Timed.Pins a b) e ok = pins_left a b ok

-- ---- any call

module _ (s : Bma150) (h : Chosen s.sensor) where
  same_sensor : (c : Call) → edge_of c ≡ None → accepts s c ≡ true → (leaves s c).sensor.frame ≡ s.sensor.frame → Chosen (leaves s c).sensor → Left s c
  unfolding predicted
  same_sensor c e ok f k =
      let i = ap (λ (z : Bma150). z.sensor) (accepted_leaves s c ok) in
      record {
        frame = and_faded (unfaded (sym (ap (λ (o : Option Event). predicted (now_of s c) s.sensor.frame o) e))) (unfaded (ap (λ (z : Sensor). z.frame) i ∙ f));
        hears = subst Chosen (sym i) k;
      }

  reselected : set_selected s.sensor true ≡ s.sensor
  unfolding selected_to may_select F.differs
  reselected = rw (h.on, h.selected)

  abbrev CallLeft : Call → Type 0
  CallLeft c = accepts s c ≡ true → leaves_frame s c ≡ false → Left s c

  selected_left : (on : Bool) → CallLeft (Call.Select on)
  unfolding leaves leaves_frame edge_of
  selected_left true ok e = same_sensor (Call.Select true) refl ok (ap (λ (z : Sensor). z.frame) reselected) (subst Chosen (sym reselected) h)
  selected_left false ok e = absurd_bool e

  kept_left : (c : Call) (f : Kept → Kept) → acts c ≡ Acts.keeps f → CallLeft c
  unfolding leaves edge_of
  kept_left c f a ok e = same_sensor c (rw a) ok (rw a) (rw a (record { on = h.on; ready = h.ready; loud = h.loud; selected = h.selected }))

  -- an accepted call leaves the frame as its edge does, or as it is, but for its driver; and the sensor goes on hearing SPI
  pub call_left : (c : Call) → accepts s c ≡ true → leaves_frame s c ≡ false → Left s c
  unfolding leaves_frame
  call_left = by_acts CallLeft (λ now t ok e. timed_left s now h t e ok) selected_left kept_left
