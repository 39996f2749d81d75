-- What a due call and a supply call do to the five parts.
use Rattle.std.specs.Prelude.{Option, Some, None}
use Rattle.sensor.specs.Operation.{Operation}
use Prim.Native.Nat.{ℕ}
use mathlib.Core.Path.{◌≡◌, refl, ap, ◌∙◌}
use mathlib.Core.Bool.{Bool, true, false, cond}
use mathlib.Core.List.{List}
use lib.Dec.{ltb, eqb}
use Rattle.time.specs.declared.Time.{Time}
use Rattle.time.specs.Time.{same}
use Rattle.nv.specs.Cycle as Cycle
use Rattle.sensor.specs.declared.types.Outage.{Outage}
use Rattle.sensor.specs.declared.types.Sensor.{Sensor}
use Rattle.sensor.specs.Record.{away}
use Rattle.sensor.specs.Image.{byte_at, with_cell, power_on}
use Rattle.sensor.specs.Mode.{criterion}
use Rattle.sensor.specs.Select.{may_select}
use Rattle.waits.specs.Supply.{without_report, cut, hold_analog, power_off, zero_while_off, warm_return, returned, supply_low, supply_ok, set_supply}
use Rattle.waits.specs.Due.{waits_ended, pause_ended, completed, write_ended, hold_ends_now, at_deadline}
use Rattle.book.proofs.Keeps.{Core, core, with_selected, select_core, waits_keeps, scalars_keeps, waits_served_keeps}

-- ---- parts replaced

abbrev pub supplied_by : Core → Option Outage → Core
supplied_by k x = record k { outage = x }

-- a write is over, with these cells
abbrev pub over : Core → List ℕ → Core
over k cells = record k { cells = cells; writing = None }

abbrev pub off : Core → Bool
off k = away k.outage

-- ---- due

unfoldable pub ended : Operation → Core → Time → Core
ended None k now = k
ended (Some w) k now = cond (same (Cycle.deadline w.cycle) now) (over k (with_cell k.cells w.address w.value)) k

ended_is : (op : Operation) (s : Sensor) (now : Time) → core (write_ended op s now).sensor ≡ ended op (core s) now
unfolding write_ended ended
ended_is None s now = refl
ended_is (Some w) s now = go (same (Cycle.deadline w.cycle) now)
  where
    go : (b : Bool) → core (cond b (completed s w.address w.value) (without_report s)).sensor ≡ cond b (over (core s) (with_cell s.nonvolatile w.address w.value)) (core s)
    go true = refl
    go false = refl

pub due_is : (s : Sensor) (now : Time) → core (at_deadline s now).sensor ≡ ended s.writing (core s) now
due_is s now =
    let p = pause_ended (waits_ended s now) now in
    (scalars_keeps (write_ended p.writing p now).sensor now (criterion s) (hold_ends_now s now)).same
    ∙ ended_is p.writing p now
    ∙ ap (λ (k : Core). ended k.writing k now) (waits_keeps s now).same

-- ---- supply

unfoldable pub cut_to : Operation → Core → Time → Core
cut_to None k now = k
cut_to (Some w) k now = over k (with_cell k.cells w.address (byte_at w k.cells now))

abbrev pub lost : Core → Time → Bool → Core
lost k now cold = supplied_by (with_selected (cut_to k.writing k now) false) (Some (record { since = now; cold = cold }))

abbrev pub emptied : Core → Outage → Core
emptied k o = supplied_by k (Some (record o { cold = true }))

abbrev pub cold_again : Core → Core
cold_again k = record { cells = k.cells; writing = None; outage = None; kept = k.kept; selected = false }

abbrev pub warm_again : Core → Core
warm_again k = supplied_by k None

-- a supply call below 2400 mV, and one of 2400 mV or more
unfoldable pub low_to : Option Outage → Core → (zero : Bool) → Time → Core
low_to None k zero now = lost k now zero
low_to (Some o) k zero now = cond zero (emptied k o) k

unfoldable pub ok_to : Option Outage → Core → Core
ok_to None k = k
ok_to (Some o) k = cond o.cold (cold_again k) (warm_again k)

abbrev pub supply_to : Core → ℕ → Time → Core
supply_to k rail now = cond (ltb rail 2400) (low_to k.outage k (eqb rail 0) now) (ok_to k.outage k)

cut_is : (op : Operation) (s : Sensor) (now : Time) → core (cut op s now).sensor ≡ cut_to op (core s) now
unfolding cut cut_to
cut_is None s now = refl
cut_is (Some w) s now = refl

lost_is : (s : Sensor) (now : Time) (cold : Bool) → core (power_off s now cold).sensor ≡ lost (core s) now cold
unfolding may_select
lost_is s now cold =
    let c = (cut s.writing (hold_analog s now) now).sensor in
    ap (λ (k : Core). supplied_by k (Some (record { since = now; cold = cold })))
    (select_core c false ∙ ap (λ (k : Core). with_selected k false) (cut_is s.writing (hold_analog s now) now))

emptied_is : (s : Sensor) (o : Outage) (zero : Bool) → core (zero_while_off s o zero) ≡ cond zero (emptied (core s) o) (core s)
unfolding zero_while_off
emptied_is s o true = refl
emptied_is s o false = refl

returned_is : (s : Sensor) (o : Outage) (now : Time) → core (returned s o now) ≡ cond o.cold (cold_again (core s)) (warm_again (core s))
unfolding returned
returned_is s o now = go o.cold
  where
    go : (b : Bool) → core (cond b (power_on s now) (warm_return s o.since now)) ≡ cond b (cold_again (core s)) (warm_again (core s))
    go true = refl
    go false = (waits_served_keeps _ now).same

low_is : (o : Option Outage) (s : Sensor) (zero : Bool) (now : Time) → core (supply_low o s zero now).sensor ≡ low_to o (core s) zero now
unfolding supply_low low_to
low_is None s zero now = lost_is s now zero
low_is (Some o) s zero now = emptied_is s o zero

ok_is : (o : Option Outage) (s : Sensor) (now : Time) → core (supply_ok o s now) ≡ ok_to o (core s)
unfolding supply_ok ok_to
ok_is None s now = refl
ok_is (Some o) s now = returned_is s o now

pub supply_is : (s : Sensor) (rail : ℕ) (now : Time) → core (set_supply s rail now).sensor ≡ supply_to (core s) rail now
unfolding set_supply
supply_is s rail now = go (ltb rail 2400)
  where
    go : (low : Bool)
        → core (cond low (supply_low s.outage s (eqb rail 0) now) (without_report (supply_ok s.outage s now))).sensor ≡ cond low (low_to s.outage (core s) (eqb rail 0) now) (ok_to s.outage (core s))
    go true = low_is s.outage s (eqb rail 0) now
    go false = ok_is s.outage s now
