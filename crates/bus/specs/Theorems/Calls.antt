-- Every accepted call of a sensor that hears the bus before and after, as the bus sees it.
use Rattle.std.specs.Prelude.{ℕ, ◌≡◌, Bool, true, false, ltb, if◌then◌else◌, Option, Some, None}
use Rattle.std.proofs.Math.Path.{refl, ap}
use Rattle.std.proofs.Common.{sym, subst, ◌∙◌}
use Rattle.time.specs.declared.Time.{Time}
use Rattle.analog.specs.Axis.{Acceleration}
use Rattle.i2c.specs.declared.types.Edge.{Edge}
use Rattle.i2c.specs.declared.types.Edge.TheVariants.{Still}
use Rattle.i2c.specs.declared.types.Action.{Action}
use Rattle.i2c.specs.declared.types.Action.TheVariants as A
use Rattle.i2c.specs.Bus.{edge}
use Rattle.i2c.specs.Engine as E
use Rattle.i2c.specs.Target.{Target, act, deed, serve, seen_at}
use Rattle.i2c.proofs.Theorems.Uses.{uses}
use Rattle.i2c.proofs.Theorems.Frames.{still_changes_nothing}
use Rattle.calls.specs.declared.types.Timed.{Timed}
use Rattle.calls.specs.declared.types.Call.{Call}
use Rattle.calls.specs.Table.{unless_refused}
use Rattle.sensor.specs.declared.types.Sensor.{Sensor}
use Rattle.sensor.specs.Record.{with_i2c, is_quiet}
use Rattle.samples.specs.Samples.{sync_local_until}
use Rattle.serial.specs.I2cPins.{ones_for, acted, i2c_pins, pins_synced}
use Rattle.bma150.specs.declared.host.Bma150.{Bma150}
use Rattle.bma150.specs.Called.{Acts, acts, left_by, effect, leaves}
use Rattle.book.specs.Lists.{accepts, step, after}
use Rattle.effects.specs.Theorems.Keeps as K
use Rattle.bus.specs.I2c.{Heard, timed_event, event, target_of, sampled, fetch, resets, timed_ends, act_event, act_ends, fetch_at, ends, shows, sees}
use Rattle.bus.specs.Theorems.Parts.{absurd_bool, Same, and_then, of, heard, same_target, not_quiet, holds}
use Rattle.bus.specs.Theorems.Reports.{stepped_to, pins_are, met, acted_target, acted_heard, acted_quiet, act_shows}
use Rattle.bus.specs.Theorems.Between.{supply_same, supply_lost, due_same, rising_same, falling_same, select_same, select_taken, input_same, kept_same}

-- ---- an accepted call leaves what it does, a refused one what came in

pub accepted_leaves : (s : Bma150) (c : Call) → accepts s c ≡ true → step s c ≡ leaves s c
unfolding unless_refused
accepted_leaves s c e = rw e

pub refused_leaves : (s : Bma150) (c : Call) → accepts s c ≡ false → step s c ≡ s
unfolding unless_refused
refused_leaves s c e = rw e

-- ---- a report

-- the sensor with the samples before the report
abbrev caught : Sensor → (now : Time) → Sensor
caught s now = sync_local_until s now false

-- the sensor that meets it: with the sample of its moment, exactly where the event uses a value
abbrev pub meets : Sensor → Edge → (now : Time) → Sensor
meets s e now = if uses (deed (target_of s) e) then sampled s now else caught s now

module _ (s : Sensor) (e : Edge) (now : Time) (h : Heard s) where
  caught_same : Same s (caught s now)
  caught_same = of (K.sync_keeps s now false)

  synced_same : Same (caught s now) (pins_synced (caught s now) e now)
  synced_same = of (K.pins_synced_keeps (caught s now) e now)

  -- it meets the report with its engine as it was
  deed_kept : deed (target_of (pins_synced (caught s now) e now)) e ≡ deed (target_of s) e
  deed_kept = ap (λ (v : Target). deed v e) (same_target (and_then caught_same synced_same))

  pub meets_is : pins_synced (caught s now) e now ≡ meets s e now
  meets_is =
      met (caught s now) e now (heard caught_same h)
      ∙ ap (λ (v : Target). if uses (deed v e) then sampled s now else caught s now) (same_target caught_same)

  pub meets_same : Same s (meets s e now)
  meets_same = subst (λ (u : Sensor). Same s u) meets_is (and_then caught_same synced_same)

  -- what the engine asks for is done to the sensor that meets the report
  pub report_does : i2c_pins (pins_synced (caught s now) e now) e now
      ≡ acted (deed (target_of s) e) (with_i2c (meets s e now) (stepped_to s e)) now
  report_does =
      ap (λ (u : Sensor). i2c_pins u e now) meets_is
      ∙ pins_are (meets s e now) e now (heard meets_same h)
      ∙ ap (λ (v : Target). acted (deed v e) (with_i2c (meets s e now) (E.step v.state e false v.sent).state) now) (same_target meets_same)

  shows_same : uses (deed (target_of s) e) ≡ true → (r : ℕ) → fetch (meets s e now) r ≡ fetch (sampled s now) r
  shows_same u r = ap (λ (b : Bool). fetch (if b then sampled s now else caught s now) r) u

  ending_same : resets (sampled s now) (deed (target_of s) e) ≡ resets (meets s e now) (deed (target_of s) e)
  unfolding uses resets
  ending_same = by_deed (deed (target_of s) e)
    where
      by_deed : (a : Option Action) → resets (sampled s now) a ≡ resets (if uses a then sampled s now else caught s now) a
      by_deed None = refl
      by_deed (Some A.Drop) = refl
      by_deed (Some (A.Write r v)) = refl
      by_deed (Some (A.Launch r)) = refl
      by_deed (Some (A.ReadBegan r)) = refl

  module _ (n : resets (sampled s now) (deed (target_of s) e) ≡ false) where
    pub report_target : target_of (i2c_pins (pins_synced (caught s now) e now) e now) ≡ serve (fetch (sampled s now)) (target_of s) e
    unfolding serve
    report_target =
        let u = meets s e now in
        let a = deed (target_of s) e in
        ap (λ (t : Sensor). target_of t) report_does
        ∙ acted_target a u (stepped_to s e) now (heard meets_same h) (sym ending_same ∙ n)
        ∙ ap (λ (v : Target). act (fetch u) (stepped_to s e) v.sent a) (same_target meets_same)
        ∙ act_shows (fetch u) (fetch (sampled s now)) (stepped_to s e) (ones_for s.frame.tx) a shows_same

    pub report_heard : Heard (i2c_pins (pins_synced (caught s now) e now) e now)
    report_heard = subst Heard (sym report_does) (acted_heard (meets s e now) (stepped_to s e) now (heard meets_same h) (deed (target_of s) e) (sym ending_same ∙ n))

  pub report_quiets : resets (sampled s now) (deed (target_of s) e) ≡ true → is_quiet (i2c_pins (pins_synced (caught s now) e now) e now) ≡ true
  report_quiets n =
      ap (λ (t : Sensor). is_quiet t) report_does
      ∙ acted_quiet (meets s e now) (stepped_to s e) now (heard meets_same h) (deed (target_of s) e) (sym ending_same ∙ n)

-- ---- any timed call, any call

-- a call that is no report
still : {s t : Sensor} (f : ℕ → ℕ) → Same s t → target_of t ≡ serve f (target_of s) Still
still {s} {t} f p = same_target p ∙ sym (still_changes_nothing f (target_of s))

-- what the effect of a timed call but a report leaves
module _ (s : Sensor) (now : Time) (h : Heard s) where
  abbrev caught_up : Same s (caught s now)
  caught_up = of (K.sync_keeps s now false)

  abbrev g : Heard (caught s now)
  g = heard caught_up h

  input_left : (input : Acceleration) → Same s (effect (caught s now) now (Timed.Accelerations input)).sensor
  unfolding effect
  input_left input = and_then caught_up (input_same (caught s now) input now)

  supply_left : (rail : ℕ) → ltb rail 2400 ≡ false → Same s (effect (caught s now) now (Timed.Supply rail)).sensor
  unfolding effect
  supply_left rail e = and_then caught_up (supply_same (caught s now) rail now g e)

  due_left : Same s (effect (caught s now) now Timed.Due).sensor
  unfolding effect
  due_left = and_then caught_up (due_same (caught s now) now g.ready g.loud)

  rising_left : (mosi : Bool) → Same s (effect (caught s now) now (Timed.Rising mosi)).sensor
  unfolding effect
  rising_left mosi = and_then caught_up (rising_same (caught s now) mosi now g)

  falling_left : Same s (effect (caught s now) now Timed.Falling).sensor
  unfolding effect
  falling_left = and_then caught_up (falling_same (caught s now) now g)

  timed_served : (t : Timed) → timed_ends s now t ≡ false → target_of (effect (caught s now) now t).sensor ≡ serve (fetch (sampled s now)) (target_of s) (timed_event t)
  unfolding effect timed_event timed_ends
  timed_served (Timed.Accelerations input) n = still _ (input_left input)
  timed_served (Timed.Supply rail) n = still _ (supply_left rail n)
  timed_served Timed.Due n = still _ due_left
  timed_served (Timed.Rising mosi) n = still _ (rising_left mosi)
  timed_served Timed.Falling n = still _ falling_left
  timed_served (Timed.Pins before after) n = report_target s (edge before after) now h n

  timed_heard : (t : Timed) → timed_ends s now t ≡ false → Heard (effect (caught s now) now t).sensor
  unfolding effect timed_ends
  timed_heard (Timed.Accelerations input) n = heard (input_left input) h
  timed_heard (Timed.Supply rail) n = heard (supply_left rail n) h
  timed_heard Timed.Due n = heard due_left h
  timed_heard (Timed.Rising mosi) n = heard (rising_left mosi) h
  timed_heard Timed.Falling n = heard falling_left h
  timed_heard (Timed.Pins before after) n =
      let k = report_heard s (edge before after) now h n in
      record { on = k.on; ready = k.ready; unselected = k.unselected; at_rest = k.at_rest; loud = k.loud }

  timed_unheard : (t : Timed) → timed_ends s now t ≡ true → Heard (effect (caught s now) now t).sensor → ⊥
  unfolding effect timed_ends
  timed_unheard (Timed.Accelerations input) n k = absurd_bool (sym n)
  timed_unheard (Timed.Supply rail) n k = absurd_bool (sym (supply_lost (caught s now) rail now g n) ∙ k.on)
  timed_unheard Timed.Due n k = absurd_bool (sym n)
  timed_unheard (Timed.Rising mosi) n k = absurd_bool (sym n)
  timed_unheard Timed.Falling n k = absurd_bool (sym n)
  timed_unheard (Timed.Pins before after) n k = absurd_bool (sym (report_quiets s (edge before after) now h n) ∙ not_quiet k)

module _ (s : Bma150) (h : Heard s.sensor) where
  act_served : (o : Acts) → act_ends s.sensor o ≡ false → target_of (left_by s o).sensor ≡ serve (fetch_at s.sensor o) (target_of s.sensor) (act_event o)
  act_served (Acts.timed now t) n = timed_served s.sensor now h t n
  act_served (Acts.select true) n = absurd_bool n
  act_served (Acts.select false) n = still _ (select_same s.sensor h)
  act_served (Acts.keeps f) n = still _ (kept_same s.sensor (f s.sensor.kept))

  act_heard : (o : Acts) → act_ends s.sensor o ≡ false → Heard (left_by s o).sensor
  act_heard (Acts.timed now t) n = timed_heard s.sensor now h t n
  act_heard (Acts.select true) n = absurd_bool n
  act_heard (Acts.select false) n = heard (select_same s.sensor h) h
  act_heard (Acts.keeps f) n = heard (kept_same s.sensor (f s.sensor.kept)) h

  act_unheard : (o : Acts) → act_ends s.sensor o ≡ true → Heard (left_by s o).sensor → ⊥
  act_unheard (Acts.timed now t) n k = timed_unheard s.sensor now h t n k
  act_unheard (Acts.select true) n k = absurd_bool (sym (select_taken s.sensor h) ∙ k.unselected)
  act_unheard (Acts.select false) n k = absurd_bool (sym n)
  act_unheard (Acts.keeps f) n k = absurd_bool (sym n)

  leaves_served : (c : Call) → ends s c ≡ false → target_of (leaves s c).sensor ≡ serve (shows s c) (target_of s.sensor) (event c)
  unfolding leaves event shows ends
  leaves_served c n = act_served (acts c) n

  leaves_heard : (c : Call) → ends s c ≡ false → Heard (leaves s c).sensor
  unfolding leaves ends
  leaves_heard c n = act_heard (acts c) n

  leaves_unheard : (c : Call) → ends s c ≡ true → Heard (leaves s c).sensor → ⊥
  unfolding leaves ends
  leaves_unheard c n k = act_unheard (acts c) n k

  module _ (c : Call) (e : accepts s c ≡ true) where
    -- an accepted call ends hearing exactly if it is select 1, a supply below 2400 mV, or the write of a soft reset
    pub hears_on : ends s c ≡ false → Heard (step s c).sensor
    hears_on n = subst (λ (t : Bma150). Heard t.sensor) (sym (accepted_leaves s c e)) (leaves_heard c n)

    pub hears_no_more : ends s c ≡ true → Heard (step s c).sensor → ⊥
    hears_no_more n k = leaves_unheard c n (subst (λ (t : Bma150). Heard t.sensor) (accepted_leaves s c e) k)

    -- the simulation: any other one serves its event, with what the registers show at its moment
    pub call_served : ends s c ≡ false → target_of (step s c).sensor ≡ serve (shows s c) (target_of s.sensor) (event c)
    call_served n = ap (λ (t : Bma150). target_of t.sensor) (accepted_leaves s c e) ∙ leaves_served c n

    -- what is seen of it
    pub call_seen : ends s c ≡ false → sees s c ≡ seen_at (shows s c) (target_of s.sensor) (event c)
    call_seen n =
        let low = holds (hears_on n) ∙ ap (λ (v : Target). v.state.low) (call_served n) in
        ap (λ (b : Bool). record { low = b; deed = deed (target_of s.sensor) (event c) }) low
