-- Every sensor of a run that is not selected has its SPI frame at rest, so that hearing the bus asks for no more than supply, live pins, no select and no quiet.
use Rattle.sensor.specs.Operation.{Operation}
use Rattle.std.specs.Prelude.{ℕ, ◌≡◌, Bool, true, false, cond, not, ◌&&◌, List, [], ◌∷◌, ltb, eqb, Option, Some, None}
use Rattle.std.proofs.Math.Path.{refl}
use Rattle.std.proofs.Common.{sym, ap, subst, ◌∙◌}
use Rattle.laws.specs.Bytes.{shifted_in}
use Rattle.time.specs.Time.{same, time}
use Rattle.sensor.specs.Image.{stock, power_on}
use Rattle.time.specs.declared.Time.{Time}
use Rattle.nv.specs.Cycle as Cycle
use Rattle.i2c.specs.declared.types.Edge.{Edge}
use Rattle.i2c.specs.declared.types.Action.{Action}
use Rattle.i2c.specs.declared.types.Action.TheVariants as A
use Rattle.i2c.specs.Bus.{edge}
use Rattle.i2c.specs.Engine as IE
use Rattle.spi.specs.declared.types.Serial.{Serial}
use Rattle.spi.specs.declared.types.Serial.TheVariants as S
use Rattle.spi.specs.declared.types.Frame.{Frame}
use Rattle.spi.specs.declared.types.Clocked.{Clocked}
use Rattle.spi.specs.declared.types.Shift.{Shift}
use Rattle.spi.specs.declared.types.Shift.TheVariants as H
use Rattle.spi.specs.Frame as F
use Rattle.spi.specs.Lines.{output}
use Rattle.control.specs.declared.types.WriteKind.{WriteKind}
use Rattle.control.specs.declared.types.Effect.{Effect}
use Rattle.calls.specs.declared.types.Timed.{Timed}
use Rattle.calls.specs.declared.types.Call.{Call}
use Rattle.calls.specs.Table.{unless_refused}
use Rattle.sensor.specs.declared.types.Outage.{Outage}
use Rattle.sensor.specs.declared.types.Sensor.{Sensor}
use Rattle.sensor.specs.Record.{with_frame, with_i2c, is_off, serial_not_ready, is_quiet, four_wire}
use Rattle.sensor.specs.Mode.{criterion, soft_reset}
use Rattle.sensor.specs.RegisterReads.{peek, fetched}
use Rattle.sensor.specs.Select.{reselected, selected_to, may_select}
use Rattle.samples.specs.Samples.{sync_local_until}
use Rattle.writes.specs.Write.{register_effect, write_effect, write_kind}
use Rattle.serial.specs.SpiEdges as E
use Rattle.serial.specs.I2cPins.{i2c_listens, ones_for, launched, acted, i2c_pins, pins_synced}
use Rattle.waits.specs.Supply.{without_report, cut, hold_analog, zero_while_off, warm_return, returned, supply_low, supply_ok, set_supply}
use Rattle.waits.specs.Due.{completed, waits_ended, pause_ended, write_ended, hold_ends_now, at_deadline}
use Rattle.bma150.specs.declared.host.Bma150.{Bma150}
use Rattle.bma150.specs.Called.{Acts, acts, left_by, start_number, started, after_start, effect, leaves}
use Rattle.book.specs.Lists as L
use Rattle.book.specs.Lists.{accepts, step, after}
use Rattle.effects.specs.Core as C
use Rattle.effects.specs.Theorems.Keeps as K
use Rattle.bus.specs.I2c.{Heard}
use Rattle.bus.specs.Theorems.Parts.{absurd_bool}
use Rattle.bus.specs.Theorems.Calls.{accepted_leaves, refused_leaves}
use Rattle.bus.specs.Theorems.SpiEdges.{moved_frame, first_frame}

-- ---- a frame at rest where it is not selected

pub record Rested (f : Frame) : Type 0 where
  pub rests : f.selected ≡ false → f.serial ≡ S.Address

-- what a frame is to this: its select pin and what its next byte is
pub record Alike (f g : Frame) : Type 0 where
  pub selected : g.selected ≡ f.selected
  pub serial : g.serial ≡ f.serial

rested : {f g : Frame} → Alike f g → Rested f → Rested g
rested p h = record { rests = λ e. p.serial ∙ h.rests (sym p.selected ∙ e) }

and_alike : {f g h : Frame} → Alike f g → Alike g h → Alike f h
and_alike p q = record { selected = q.selected ∙ p.selected; serial = q.serial ∙ p.serial }

kept : {s t : Sensor} → C.Keeps s t → Alike s.frame t.frame
kept p = record { selected = ap (λ (k : C.Core). k.frame.selected) p.same; serial = ap (λ (k : C.Core). k.frame.serial) p.same }

of_same : {f g : Frame} → g ≡ f → Alike f g
of_same e = record { selected = ap (λ (k : Frame). k.selected) e; serial = ap (λ (k : Frame). k.serial) e }

-- a frame that is selected, or fresh, rests
selected_rests : {f : Frame} → f.selected ≡ true → Rested f
selected_rests e = record { rests = λ n. absurd_bool (sym e ∙ n) }

fresh_rests : (selected : Bool) → Rested (F.fresh selected)
fresh_rests selected = record { rests = λ e. refl }

-- ---- the output moves

shifted_alike : (s : Serial) (f : Frame) (tx : Option ℕ) → Alike f (F.moved s f tx)
unfolding F.moved
shifted_alike S.Address f tx = record { selected = refl; serial = refl }
shifted_alike (S.Read a) f tx = record { selected = refl; serial = refl }
shifted_alike (S.Write a) f tx = record { selected = refl; serial = refl }

output_alike : (shows : ℕ → Option ℕ) (f : Frame) (sh : Shift) → Alike f (output shows f sh)
unfolding output
output_alike shows f H.Stay = record { selected = refl; serial = refl }
output_alike shows f (H.Fetch a) = shifted_alike f.serial f (shows a)
output_alike shows f H.Next = shifted_alike f.serial f f.tx

moved_alike : (sh : Shift) (t : Sensor) → Alike t.frame (E.moved sh t).frame
moved_alike sh t = and_alike (output_alike _ t.frame sh) (of_same (moved_frame t sh))

-- ---- register writes

module _ (s : Sensor) (address value : ℕ) (now : Time) where
  written_alike : (w : WriteKind) → Alike s.frame (write_effect w s address value now).frame
  unfolding write_effect register_effect K.Ordinary
  written_alike WriteKind.Ignored = record { selected = refl; serial = refl }
  written_alike WriteKind.Stored = record { selected = refl; serial = refl }
  written_alike (WriteKind.Taken Effect.Reset) = kept_after (K.automatic_keeps (soft_reset s now) now (criterion s) false)
    where
      kept_after : {t : Sensor} → C.Keeps (soft_reset s now) t → Alike s.frame t.frame
      kept_after p = and_alike {g = (soft_reset s now).frame} (record { selected = refl; serial = refl }) (kept p)
  written_alike (WriteKind.Taken Effect.Control) = kept (K.then_automatic_keeps Effect.Control s address value now tt)
  written_alike (WriteKind.Taken Effect.Measurement) = kept (K.then_automatic_keeps Effect.Measurement s address value now tt)
  written_alike (WriteKind.Taken Effect.Operation) = kept (K.then_automatic_keeps Effect.Operation s address value now tt)
  written_alike (WriteKind.Taken Effect.Durations) = kept (K.then_automatic_keeps Effect.Durations s address value now tt)
  written_alike (WriteKind.Taken Effect.Plain) = kept (K.then_automatic_keeps Effect.Plain s address value now tt)

-- ---- an SPI rise keeps the select pin

addressed_selected : (f : Frame) (byte : ℕ) (w t : Bool) → ltb byte 128 ≡ t → (F.addressed f byte w).selected ≡ f.selected
unfolding F.addressed
addressed_selected f byte w true e = rw e
addressed_selected f byte w false e = rw e

completed_selected : (s : Serial) (f : Frame) (byte : ℕ) (w : Bool) → (F.completed s f byte w).frame.selected ≡ f.selected
unfolding F.completed
completed_selected S.Address f byte w = addressed_selected f byte w (ltb byte 128) refl
completed_selected (S.Read a) f byte w = refl
completed_selected (S.Write a) f byte w = refl

taken_selected : (f : Frame) (mosi w t : Bool) → ltb f.rx_bits 7 ≡ t → (F.take_bit f mosi w).frame.selected ≡ f.selected
unfolding F.take_bit
taken_selected f mosi w true e = rw e
taken_selected f mosi w false e = rw e (completed_selected f.serial f (shifted_in f.rx mosi) w)

done_selected : (w : Option (ℕ × ℕ)) (q : Sensor) (now : Time) → (E.write_done w q now).frame.selected ≡ q.frame.selected
unfolding E.write_done
done_selected None q now = refl
done_selected (Some (r, v)) q now = (written_alike q r v now (write_kind q r v)).selected

bit_selected : (m : Sensor) (mosi : Bool) (now : Time) → (E.bit_taken m mosi now).frame.selected ≡ m.frame.selected
bit_selected m mosi now =
    let t = E.first_bit_taken (F.first_bit m.frame.serial m.frame.rx_bits) m in
    let k = F.take_bit t.frame mosi (four_wire t) in
    let b = E.write_done k.write (with_frame t k.frame) now in
    (moved_alike (F.shifts b.frame Clocked.Rise (four_wire b)) b).selected
    ∙ done_selected k.write (with_frame t k.frame) now
    ∙ taken_selected t.frame mosi (four_wire t) (ltb t.frame.rx_bits 7) refl
    ∙ ap (λ (f : Frame). f.selected) (first_frame m (F.first_bit m.frame.serial m.frame.rx_bits))

rise_selected : (m : Sensor) (mosi : Bool) (now : Time) → (E.rising_effect m mosi now).frame.selected ≡ m.frame.selected
unfolding E.rising_effect
rise_selected m mosi now = by (E.spi_listens m) m.frame.turnaround
  where
    by : (b z : Bool) → (cond b (cond z (E.turned m) (E.bit_taken m mosi now)) m).frame.selected ≡ m.frame.selected
    by false z = refl
    by true true = (moved_alike (F.shifts (F.turned m.frame) Clocked.Turnaround (four_wire m)) (with_frame m (F.turned m.frame))).selected
    by true false = bit_selected m mosi now

not_listening : (m : Sensor) (mosi : Bool) (now : Time) → m.frame.selected ≡ false → E.rising_effect m mosi now ≡ m
unfolding E.rising_effect E.spi_listens
not_listening m mosi now e = rw e

rise_rests : (m : Sensor) (mosi : Bool) (now : Time) → Rested m.frame → Rested (E.rising_effect m mosi now).frame
rise_rests m mosi now h = by m.frame.selected refl
  where
    by : (b : Bool) → m.frame.selected ≡ b → Rested (E.rising_effect m mosi now).frame
    by true e = selected_rests (rise_selected m mosi now ∙ e)
    by false e = subst (λ (x : Sensor). Rested x.frame) (sym (not_listening m mosi now e)) h

fall_alike : (m : Sensor) → Alike m.frame (E.falling_effect m).frame
unfolding E.falling_effect
fall_alike m = by (not (serial_not_ready m) && not (is_off m))
  where
    by : (b : Bool) → Alike m.frame (cond b (E.shift_output m Clocked.Fall) m).frame
    by true = moved_alike (F.shifts m.frame Clocked.Fall (four_wire m)) m
    by false = record { selected = refl; serial = refl }

-- ---- I2C reports

launched_alike : (v : Option ℕ) (s : Sensor) (r : ℕ) → Alike s.frame (launched (fetched v s r)).frame
unfolding fetched
launched_alike None s r = record { selected = refl; serial = refl }
launched_alike (Some b) s r = record { selected = refl; serial = refl }

acted_alike : (a : Option Action) (s : Sensor) (now : Time) → Alike s.frame (acted a s now).frame
unfolding acted
acted_alike None s now = record { selected = refl; serial = refl }
acted_alike (Some A.Drop) s now = record { selected = refl; serial = refl }
acted_alike (Some (A.Write r v)) s now = and_alike (written_alike s r v now (write_kind s r v)) (record { selected = refl; serial = refl })
acted_alike (Some (A.Launch r)) s now = launched_alike (peek s r) s r
acted_alike (Some (A.ReadBegan r)) s now = kept (K.byte_read_keeps s.frame.tx s r)

pins_alike : (s : Sensor) (e : Edge) (now : Time) → Alike s.frame (i2c_pins s e now).frame
unfolding i2c_pins
pins_alike s e now = by (i2c_listens s)
  where
    by : (b : Bool) → let t = IE.step s.i2c e (is_quiet s) (ones_for s.frame.tx) in Alike s.frame (cond b (acted t.action (with_i2c s t.state) now) (with_i2c s (IE.aborted s.i2c))).frame
    by true = let t = IE.step s.i2c e (is_quiet s) (ones_for s.frame.tx) in acted_alike t.action (with_i2c s t.state) now
    by false = record { selected = refl; serial = refl }

-- ---- select, supply and due calls

selected_to_rests : (s : Sensor) (on : Bool) → Rested s.frame → Rested (selected_to s on).frame
unfolding selected_to
selected_to_rests s on h = by (F.changes s.frame on)
  where
    by : (b : Bool) → Rested (cond b (reselected s on) s).frame
    by true = fresh_rests on
    by false = h

cut_alike : (o : Operation) (s : Sensor) (now : Time) → Alike s.frame (cut o s now).sensor.frame
unfolding cut
cut_alike None s now = record { selected = refl; serial = refl }
cut_alike (Some w) s now = record { selected = refl; serial = refl }

low_rests : (o : Option Outage) (s : Sensor) (zero : Bool) (now : Time) → Rested s.frame → Rested (supply_low o s zero now).sensor.frame
unfolding supply_low zero_while_off
low_rests None s zero now h = selected_to_rests (cut s.writing (hold_analog s now) now).sensor _ (rested (cut_alike s.writing (hold_analog s now) now) h)
low_rests (Some o) s true now h = h
low_rests (Some o) s false now h = h

returned_rests : (s : Sensor) (o : Outage) (now : Time) → Rested s.frame → Rested (returned s o now).frame
unfolding returned
returned_rests s o now h = by o.cold
  where
    by : (b : Bool) → Rested (cond b (power_on s now) (warm_return s o.since now)).frame
    by true = fresh_rests false
    by false = rested (kept (K.waits_served_keeps _ now)) h

ok_rests : (o : Option Outage) (s : Sensor) (now : Time) → Rested s.frame → Rested (supply_ok o s now).frame
unfolding supply_ok
ok_rests None s now h = h
ok_rests (Some o) s now h = returned_rests s o now h

supply_rests : (s : Sensor) (rail : ℕ) (now : Time) → Rested s.frame → Rested (set_supply s rail now).sensor.frame
unfolding set_supply
supply_rests s rail now h = by (ltb rail 2400)
  where
    by : (b : Bool) → Rested (cond b (supply_low s.outage s (eqb rail 0) now) (without_report (supply_ok s.outage s now))).sensor.frame
    by true = low_rests s.outage s (eqb rail 0) now h
    by false = ok_rests s.outage s now h

over_alike : (o : Operation) (s : Sensor) (now : Time) → Alike s.frame (write_ended o s now).sensor.frame
unfolding write_ended
over_alike None s now = record { selected = refl; serial = refl }
over_alike (Some w) s now = by (same (Cycle.deadline w.cycle) now)
  where
    by : (b : Bool) → Alike s.frame (cond b (completed s w.address w.value) (without_report s)).sensor.frame
    by true = record { selected = refl; serial = refl }
    by false = record { selected = refl; serial = refl }

due_alike : (s : Sensor) (now : Time) → Alike s.frame (at_deadline s now).sensor.frame
due_alike s now =
    let p = pause_ended (waits_ended s now) now in
    and_alike (kept (K.pause_ended_keeps (waits_ended s now) now))
    (and_alike (over_alike p.writing p now) (kept (K.scalars_keeps (write_ended p.writing p now).sensor now (criterion s) (hold_ends_now s now))))

-- ---- every call, every list

timed_rests : (u : Sensor) (now : Time) (t : Timed) → Rested u.frame → Rested (effect u now t).sensor.frame
unfolding effect
timed_rests u now (Timed.Accelerations input) h = h
timed_rests u now (Timed.Supply rail) h = supply_rests u rail now h
timed_rests u now Timed.Due h = rested (due_alike u now) h
timed_rests u now (Timed.Rising mosi) h = rise_rests (E.rise_synced u now) mosi now (rested (kept (K.rise_synced_keeps u now)) h)
timed_rests u now Timed.Falling h = rested (fall_alike (E.fall_synced u now)) (rested (kept (K.fall_synced_keeps u now)) h)
timed_rests u now (Timed.Pins a b) h = rested (pins_alike (pins_synced u (edge a b) now) (edge a b) now) (rested (kept (K.pins_synced_keeps u (edge a b) now)) h)

act_rests : (s : Bma150) (o : Acts) → Rested s.sensor.frame → Rested (left_by s o).sensor.frame
act_rests s (Acts.timed now t) h = timed_rests (sync_local_until s.sensor now false) now t (rested (kept (K.sync_keeps s.sensor now false)) h)
act_rests s (Acts.select on) h = selected_to_rests s.sensor (may_select s.sensor on) h
act_rests s (Acts.keeps f) h = h

call_rests : (s : Bma150) (c : Call) → Rested s.sensor.frame → Rested (leaves s c).sensor.frame
unfolding leaves
call_rests s c h = act_rests s (acts c) h

step_rests : (s : Bma150) (c : Call) → Rested s.sensor.frame → Rested (step s c).sensor.frame
step_rests s c h = by (accepts s c) refl
  where
    by : (t : Bool) → accepts s c ≡ t → Rested (step s c).sensor.frame
    by true e = subst (λ (t : Bma150). Rested t.sensor.frame) (sym (accepted_leaves s c e)) (call_rests s c h)
    by false e = subst (λ (t : Bma150). Rested t.sensor.frame) (sym (refused_leaves s c e)) h

pub list_rests : (cs : List Call) (s : Bma150) → Rested s.sensor.frame → Rested (after s cs).sensor.frame
unfolding after
list_rests [] s h = h
list_rests (c ∷ cs) s h = list_rests cs (step s c) (step_rests s c h)

start_rests : (b : L.Start) (n : ℕ) → Rested (unless_refused n (started (time 0) stock) (started b.time b.image)).sensor.frame
unfolding unless_refused
start_rests b n = by (eqb n 0)
  where
    by : (z : Bool) → Rested (cond z (started b.time b.image) (started (time 0) stock)).sensor.frame
    by true = fresh_rests false
    by false = fresh_rests false

-- so every sensor of a run hears the I2C bus if it has supply, its pins are not dead, SPI is not selected and it is not quiet
pub hears : (b : L.Start) (cs : List Call) → let s = (after (L.started b) cs).sensor in
    is_off s ≡ false → s.deadlines.serial_ready ≡ None → s.frame.selected ≡ false → s.deadlines.quiet ≡ None → Heard s
unfolding after_start
hears b cs on ready unselected loud =
    record { on = on; ready = ready; unselected = unselected; at_rest = (list_rests cs (L.started b) (start_rests b (start_number b.by b.time b.image))).rests unselected; loud = loud }
