-- What is kept is what the accepted calls say, of every list; so the reports of a list follow on.
use Rattle.std.specs.Prelude.{Option, Some, None}
use Rattle.sensor.specs.Operation.{Operation}
use Prim.Native.Nat.{ℕ}
use mathlib.Core.Path.{◌≡◌, refl, sym, ap, ◌∙◌}
use mathlib.Core.Bool.{Bool, true, false, cond}
use mathlib.Core.List.{List, [], ◌∷◌}
use lib.Dec.{ltb, eqb}
use Rattle.std.proofs.lemmas.Bool.{cond_both}
use Rattle.time.specs.declared.Time.{Time}
use Rattle.time.specs.Time.{same}
use Rattle.nv.specs.Cycle as Cycle
use Rattle.i2c.specs.declared.types.Levels.{Levels}
use Rattle.i2c.specs.declared.types.Edge.{Edge}
use Rattle.i2c.specs.Bus.{data_moves, edge, is_start}
use Rattle.calls.specs.declared.types.Timed.{Timed}
use Rattle.calls.specs.declared.types.Call.{Call}
use Rattle.calls.proofs.Theorems.Found.{never}
use Rattle.calls.proofs.Theorems.Exactly.{follows_on}
use Rattle.sensor.specs.declared.types.Kept.{Kept}
use Rattle.sensor.specs.declared.types.Outage.{Outage}
use Rattle.sensor.specs.declared.types.Sensor.{Sensor}
use Rattle.sensor.specs.Record.{with_acceleration, lines_kept}
use Rattle.sensor.specs.Image.{new_kept}
use Rattle.sensor.specs.Select.{may_select}
use Rattle.samples.specs.Samples.{interaction_deadline, sync_local_until}
use Rattle.bma150.specs.declared.host.Bma150.{Bma150}
use Rattle.bma150.specs.Called.{Acts, acts, left_by, effect, leaves}
use Rattle.book.specs.Does.{at_rise, at_pins, timed_does, act_does, does}
use Rattle.book.specs.Lists.{accepts, step, Start, started, after, accepted, last_kept, kept}
use Rattle.book.specs.Follows.{call_acceleration, call_temperature, call_levels, last_set, both_high, lines, Follows, LastSet}
use Rattle.book.proofs.Call.{after_call, at_start}
use Rattle.book.proofs.Keeps.{Core, core, then, select_core, sync_keeps, rise_synced_keeps, pins_synced_keeps, falling_keeps}
use Rattle.book.proofs.Pins.{rising_keeps, pins_keeps}
use Rattle.book.proofs.Parts.{ended, due_is, cut_to, low_to, ok_to, supply_to, supply_is}

-- ---- what is kept after one call

abbrev kept_of : Core → Kept
kept_of k = k.kept

-- neither the end nor the cut of a write changes it, nor a supply call
ended_kept : (op : Operation) (k : Core) (now : Time) → (ended op k now).kept ≡ k.kept
unfolding ended
ended_kept None k now = refl
ended_kept (Some w) k now = cond_both (same (Cycle.deadline w.cycle) now) _ _ (λ (x : Core). x.kept ≡ k.kept) (λ e. refl) (λ e. refl)

cut_kept : (op : Operation) (k : Core) (now : Time) → (cut_to op k now).kept ≡ k.kept
unfolding cut_to
cut_kept None k now = refl
cut_kept (Some w) k now = refl

low_kept : (o : Option Outage) (k : Core) (zero : Bool) (now : Time) → (low_to o k zero now).kept ≡ k.kept
unfolding low_to
low_kept None k zero now = cut_kept k.writing k now
low_kept (Some o) k zero now = cond_both zero _ _ (λ (x : Core). x.kept ≡ k.kept) (λ e. refl) (λ e. refl)

ok_kept : (o : Option Outage) (k : Core) → (ok_to o k).kept ≡ k.kept
unfolding ok_to
ok_kept None k = refl
ok_kept (Some o) k = cond_both o.cold _ _ (λ (x : Core). x.kept ≡ k.kept) (λ e. refl) (λ e. refl)

supply_kept : (k : Core) (rail : ℕ) (now : Time) → (supply_to k rail now).kept ≡ k.kept
supply_kept k rail now = cond_both (ltb rail 2400) _ _ (λ (x : Core). x.kept ≡ k.kept) (λ e. low_kept k.outage k (eqb rail 0) now) (λ e. ok_kept k.outage k)

timed_kept : (s : Sensor) (now : Time) (t : Timed) → (effect (sync_local_until s now false) now t).sensor.kept ≡ (timed_does now t).keeps s.kept
unfolding effect timed_does
timed_kept s now (Timed.Accelerations input) = ap (λ (k : Core). with_acceleration input k.kept) (sync_keeps s now false).same
timed_kept s now (Timed.Supply rail) =
    let u = sync_local_until s now false in
    ap kept_of (supply_is u rail now) ∙ supply_kept (core u) rail now ∙ ap kept_of (sync_keeps s now false).same
timed_kept s now Timed.Due =
    let u = sync_local_until s now false in
    ap kept_of (due_is u now) ∙ ended_kept u.writing (core u) now ∙ ap kept_of (sync_keeps s now false).same
timed_kept s now (Timed.Rising mosi) =
    let k = then (sync_keeps s now false) (rise_synced_keeps (sync_local_until s now false) now) in
    ap kept_of (rising_keeps (at_rise s now) mosi now).same ∙ ap kept_of k.same
timed_kept s now Timed.Falling = ap kept_of (then (sync_keeps s now false) (falling_keeps _ now)).same
timed_kept s now (Timed.Pins before after) =
    let e = edge before after in
    let k = then (sync_keeps s now false) (pins_synced_keeps (sync_local_until s now false) e now) in
    ap (λ (x : Core). lines_kept x.kept after) (pins_keeps (at_pins s e now) e now).same ∙ ap (λ (x : Core). lines_kept x.kept after) k.same

act_kept : (s : Bma150) (o : Acts) → (left_by s o).sensor.kept ≡ (act_does o).keeps s.sensor.kept
act_kept s (Acts.timed now t) = timed_kept s.sensor now t
act_kept s (Acts.select on) = ap kept_of (select_core s.sensor (may_select s.sensor on))
act_kept s (Acts.keeps f) = refl

leaves_kept : (s : Bma150) (c : Call) → (leaves s c).sensor.kept ≡ (does c).keeps s.sensor.kept
unfolding leaves does
leaves_kept s c = act_kept s (acts c)

pub step_kept : (s : Bma150) (c : Call) → (step s c).sensor.kept ≡ cond (accepts s c) ((does c).keeps s.sensor.kept) s.sensor.kept
step_kept s c =
    after_call (λ t. t.sensor.kept ≡ cond (accepts s c) ((does c).keeps s.sensor.kept) s.sensor.kept) s c (λ p. rw p (leaves_kept s c)) (λ p. rw p)

-- ---- and after a list

after_kept : (s : Bma150) (cs : List Call) → (after s cs).sensor.kept ≡ last_kept s.sensor.kept (accepted s cs)
unfolding after accepted last_kept
after_kept s [] = refl
after_kept s (c ∷ cs) = after_kept (step s c) cs ∙ go (accepts s c) (step_kept s c)
  where
    more : List Call
    more = accepted (step s c) cs

    go : (b : Bool) → (step s c).sensor.kept ≡ cond b ((does c).keeps s.sensor.kept) s.sensor.kept
        → last_kept (step s c).sensor.kept more ≡ last_kept s.sensor.kept (cond b (c ∷ more) more)
    go true e = ap (λ (k : Kept). last_kept k more) e
    go false e = ap (λ (k : Kept). last_kept k more) e

pub started_kept : (b : Start) → (started b).sensor.kept ≡ new_kept
started_kept b = at_start (λ x. x.sensor.kept ≡ new_kept) b (λ e. refl) refl

-- what the sensor of a run keeps is the fold over its accepted calls
pub kept_follows : (b : Start) (cs : List Call) → (after (started b) cs).sensor.kept ≡ kept b cs
kept_follows b cs = after_kept (started b) cs ∙ ap (λ (k : Kept). last_kept k (accepted (started b) cs)) (started_kept b)

-- ---- what was last set, for a part of what is kept that each call sets so

module _ {A : Type 0} (part : Kept → A) (sets : Call → A → A) (same : (c : Call) (k : Kept) → part ((does c).keeps k) ≡ sets c (part k)) where
  list_set : (k : Kept) (cs : List Call) → part (last_kept k cs) ≡ last_set sets (part k) cs
  unfolding last_kept last_set
  list_set k [] = refl
  list_set k (c ∷ cs) = list_set ((does c).keeps k) cs ∙ ap (λ (a : A). last_set sets a cs) (same c k)

  kept_set : (b : Start) (cs : List Call) → part (after (started b) cs).sensor.kept ≡ last_set sets (part new_kept) (accepted (started b) cs)
  kept_set b cs = ap part (kept_follows b cs) ∙ list_set new_kept (accepted (started b) cs)

does_levels : (c : Call) (k : Kept) → ((does c).keeps k).lines ≡ call_levels c k.lines
unfolding does timed_does call_levels
does_levels (Call.At now (Timed.Pins from to)) k = refl
does_levels _ k = refl

does_acceleration : (c : Call) (k : Kept) → ((does c).keeps k).input.acceleration ≡ call_acceleration c k.input.acceleration
unfolding does timed_does call_acceleration
does_acceleration (Call.At now (Timed.Accelerations input)) k = refl
does_acceleration _ k = refl

does_temperature : (c : Call) (k : Kept) → ((does c).keeps k).input.temperature_millicelsius ≡ call_temperature c k.input.temperature_millicelsius
unfolding does timed_does call_temperature
does_temperature (Call.At now Timed.Due) k = refl
does_temperature (Call.Temperature millicelsius) k = refl
does_temperature _ k = refl

pub last_sets : LastSet
last_sets = record {
  acceleration = kept_set (λ (k : Kept). k.input.acceleration) call_acceleration does_acceleration;
  temperature = kept_set (λ (k : Kept). k.input.temperature_millicelsius) call_temperature does_temperature;
}

remembered : (b : Start) (cs : List Call) → (after (started b) cs).sensor.kept.lines ≡ lines b cs
remembered = kept_set (λ (k : Kept). k.lines) call_levels does_levels

begins_there : (b : Start) (cs : List Call) (now : Time) (from to : Levels) → accepts (after (started b) cs) (Call.At now (Timed.Pins from to)) ≡ true → from ≡ lines b cs
begins_there b cs now from to p =
    let s = after (started b) cs in
    follows_on s.last (interaction_deadline s.sensor) s.sensor.kept.lines now from to p ∙ remembered b cs

-- UM10204 3.1.4: at START the clock is high, and the data falls
start_from_high : (from to : Levels) → edge from to ≡ Edge.Start → from ≡ both_high
unfolding edge data_moves is_start
start_from_high from to e = go from.scl from.sda to.scl to.sda refl refl (ap is_start e)
  where
    high : from.scl ≡ true → from.sda ≡ true → from ≡ both_high
    high p q = ap {B = Levels} (λ (x : Bool). record { scl = x; sda = from.sda }) p ∙ ap {B = Levels} (λ (x : Bool). record { scl = true; sda = x }) q

    go : (a b c d : Bool) → from.scl ≡ a → from.sda ≡ b → is_start (edge (record { scl = a; sda = b }) (record { scl = c; sda = d })) ≡ true → from ≡ both_high
    go true true c d p q r = high p q
    go true false true true p q r = never r
    go true false true false p q r = never r
    go true false false d p q r = never r
    go false b true d p q r = never r
    go false b false d p q r = never r

pub follows : Follows
follows = record { lines_kept = remembered; follows = begins_there; start_was = λ b cs now from to p e. sym (begins_there b cs now from to p) ∙ start_from_high from to e }
