-- What calls other than reports leave of the bus, for a sensor that hears it before and after.
use Rattle.sensor.specs.Operation.{Operation}
use Rattle.std.specs.Prelude.{ℕ, ◌≡◌, refl, Bool, true, false, cond, not, ◌&&◌, ltb, eqb, Option, Some, None}
use Rattle.std.proofs.Math.Path.{ap}
use Rattle.time.specs.declared.Time.{Time}
use Rattle.time.specs.Time.{same}
use Rattle.analog.specs.Axis.{Acceleration}
use Rattle.nv.specs.Cycle as Cycle
use Rattle.spi.specs.declared.types.Clocked.TheVariants as Clocked
use Rattle.spi.specs.declared.types.Serial.TheVariants as Serial
use Rattle.spi.specs.Frame as F
use Rattle.deadlines.specs.Deadlines.{is_at, unless_at}
use Rattle.sensor.specs.declared.types.Outage.{Outage}
use Rattle.sensor.specs.declared.types.Kept.{Kept}
use Rattle.sensor.specs.declared.types.Sensor.{Sensor}
use Rattle.sensor.specs.Record.{with_kept, away, is_off, serial_not_ready, four_wire}
use Rattle.sensor.specs.Mode.{criterion}
use Rattle.sensor.specs.Select.{selected_to, may_select, set_selected}
use Rattle.serial.specs.SpiEdges.{moved, shift_output, spi_listens, rise_synced, fall_synced, rising_effect, falling_effect, rising_at, falling_at}
use Rattle.waits.specs.Supply.{supply_low, supply_ok, set_supply, set_input}
use Rattle.waits.specs.Due.{waits_ended, pause_ended, write_ended, hold_ends_now, at_deadline}
use Rattle.effects.specs.Theorems.Keeps as K
use Rattle.bus.specs.I2c.{Heard}
use Rattle.bus.specs.Theorems.Parts.{Parts, parts, Same, and_then, itself, of, heard}

-- ---- supply: one of 2400 mV or more changes nothing of a sensor that has supply; a lower one ends hearing

-- of a sensor that has supply
pub supply_stays : (o : Option Outage) (s : Sensor) (now : Time) → away o ≡ false → supply_ok o s now ≡ s
unfolding supply_ok away
supply_stays None s now e = refl
supply_stays (Some o) s now e = cc

pub supply_goes : (o : Option Outage) (s : Sensor) (zero : Bool) (now : Time) → away o ≡ false → is_off (supply_low o s zero now).sensor ≡ true
unfolding supply_low away
supply_goes None s zero now e = refl
supply_goes (Some o) s zero now e = cc

pub supply_on : (s : Sensor) (rail : ℕ) (now : Time) → is_off s ≡ false → ltb rail 2400 ≡ false → (set_supply s rail now).sensor ≡ s
unfolding set_supply
supply_on s rail now on e = rw e (supply_stays s.outage s now on)

pub supply_off : (s : Sensor) (rail : ℕ) (now : Time) → is_off s ≡ false → ltb rail 2400 ≡ true → is_off (set_supply s rail now).sensor ≡ true
unfolding set_supply
supply_off s rail now on e = rw e (supply_goes s.outage s (eqb rail 0) now on)

module _ (s : Sensor) (rail : ℕ) (now : Time) (h : Heard s) where
  pub supply_same : ltb rail 2400 ≡ false → Same s (set_supply s rail now).sensor
  supply_same e = record { same = ap (λ (t : Sensor). parts t) (supply_on s rail now h.on e) }

  pub supply_lost : ltb rail 2400 ≡ true → is_off (set_supply s rail now).sensor ≡ true
  supply_lost e = supply_off s rail now h.on e

-- ---- due moments

never_ends : (d : Option Time) (now : Time) → d ≡ None → unless_at d now ≡ d
unfolding unless_at is_at
never_ends d now e = rw e

ended_parts : (s : Sensor) (a b c d : Option Time) → a ≡ b → c ≡ d
    → ◌≡◌ {A = Parts} (record { i2c = s.i2c; frame = F.released s.frame; outage = s.outage; serial_ready = a; quiet = c }) (record { i2c = s.i2c; frame = F.released s.frame; outage = s.outage; serial_ready = b; quiet = d })
ended_parts s a b c d e g = rw (e, g)

waits_same : (s : Sensor) (now : Time) → s.deadlines.serial_ready ≡ None → s.deadlines.quiet ≡ None → Same s (waits_ended s now)
waits_same s now ready loud = record { same = ended_parts s _ _ _ _ (never_ends s.deadlines.serial_ready now ready) (never_ends s.deadlines.quiet now loud) }

write_same : (o : Operation) (s : Sensor) (now : Time) → Same s (write_ended o s now).sensor
unfolding write_ended
write_same None s now = itself s
write_same (Some w) s now = by_test (same (Cycle.deadline w.cycle) now) refl
  where
    by_test : (t : Bool) → same (Cycle.deadline w.cycle) now ≡ t → Same s (write_ended (Some w) s now).sensor
    by_test true e = record { same = rw e }
    by_test false e = record { same = rw e }

pub due_same : (s : Sensor) (now : Time) → s.deadlines.serial_ready ≡ None → s.deadlines.quiet ≡ None → Same s (at_deadline s now).sensor
due_same s now ready loud =
    let p = pause_ended (waits_ended s now) now in
    let w = (write_ended p.writing p now).sensor in
    and_then (waits_same s now ready loud)
    (and_then (of (K.pause_ended_keeps (waits_ended s now) now))
    (and_then (write_same p.writing p now) (of (K.scalars_keeps w now (criterion s) (hold_ends_now s now)))))

-- ---- SPI edges while SPI is not selected

unheard : (s : Sensor) → Heard s → spi_listens s ≡ false
unfolding spi_listens
unheard s h = rw h.unselected

pub rising_same : (s : Sensor) (mosi : Bool) (now : Time) → Heard s → Same s (rising_at s mosi now)
unfolding rising_effect
rising_same s mosi now h =
    let p = of (K.rise_synced_keeps s now) in
    and_then p (record { same = rw (unheard (rise_synced s now) (heard p h)) })

shift_same : (s : Sensor) → s.frame.serial ≡ Serial.Address → Same s (shift_output s Clocked.Fall)
unfolding moved F.shifts F.fetches F.moved
shift_same s e = by_moves (F.moves Clocked.Fall (four_wire s) s.frame.turnaround) refl
  where
    by_moves : (m : Bool) → F.moves Clocked.Fall (four_wire s) s.frame.turnaround ≡ m → Same s (shift_output s Clocked.Fall)
    by_moves true g = record { same = rw (g, e) }
    by_moves false g = record { same = rw g }

pub falling_same : (s : Sensor) (now : Time) → Heard s → Same s (falling_at s now)
unfolding falling_effect
falling_same s now h =
    let t = fall_synced s now in
    let p = of (K.fall_synced_keeps s now) in
    and_then p (by_test t (heard p h) (not (serial_not_ready t) && not (is_off t)))
  where
    by_test : (t : Sensor) → Heard t → (b : Bool) → Same t (cond b (shift_output t Clocked.Fall) t)
    by_test t g true = shift_same t g.at_rest
    by_test t g false = itself t

-- ---- select: as it is; a change ends hearing

module _ (s : Sensor) (h : Heard s) where
  pub select_same : Same s (set_selected s false)
  unfolding selected_to may_select F.differs
  select_same = record { same = rw h.unselected }

  pub select_taken : (set_selected s true).frame.selected ≡ true
  unfolding selected_to may_select F.differs
  select_taken = rw (h.on, h.unselected)

-- ---- an acceleration and what is kept are no part of the bus

pub input_same : (s : Sensor) (input : Acceleration) (now : Time) → Same s (set_input s input now)
input_same s input now = record { same = refl }

pub kept_same : (s : Sensor) (k : Kept) → Same s (with_kept s k)
kept_same s k = record { same = refl }
