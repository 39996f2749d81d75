-- Select 0, a supply below 2400 mV and the write of a soft reset do end hearing SPI.
use Rattle.std.specs.Prelude.{ℕ, ◌≡◌, refl, Bool, true, false, ltb, Option, Some, None}
use Rattle.std.proofs.Common.{sym, ap, subst, ◌∙◌}
use Rattle.time.specs.declared.Time.{Time}
use Rattle.spi.specs.declared.types.Frame.{Frame}
use Rattle.spi.specs.declared.types.Clocked.TheVariants as Clocked
use Rattle.spi.specs.Frame as F
use Rattle.spi.specs.Lines.{past_end}
use Rattle.deadlines.specs.Deadlines.{is_set}
use Rattle.calls.specs.declared.types.Timed.{Timed}
use Rattle.calls.specs.declared.types.Call.{Call}
use Rattle.sensor.specs.declared.types.Sensor.{Sensor}
use Rattle.sensor.specs.Record.{is_off, is_quiet, four_wire}
use Rattle.sensor.specs.Select.{selected_to, may_select, set_selected}
use Rattle.samples.specs.Samples.{sync_local_until}
use Rattle.writes.specs.Write.{write_kind}
use Rattle.serial.specs.SpiEdges as E
use Rattle.waits.specs.Supply.{set_supply}
use Rattle.bma150.specs.declared.host.Bma150.{Bma150}
use Rattle.bma150.specs.Called.{Acts, acts, left_by, effect, leaves}
use Rattle.book.specs.Does.{at_rise, spi_write}
use Rattle.book.specs.Lists.{accepts, step}
use Rattle.effects.specs.Theorems.Keeps as K
use Rattle.bus.specs.Spi.{Chosen, after_read_began, write_resets, timed_leaves, act_leaves, leaves_frame}
use Rattle.bus.specs.Theorems.Between.{supply_off}
use Rattle.bus.specs.Theorems.Parts.{absurd_bool, and_then, of, is_never}
use Rattle.bus.specs.Theorems.Reports.{reset_quiets}
use Rattle.bus.specs.Theorems.Calls.{accepted_leaves}
use Rattle.bus.specs.Theorems.SpiEdges.{chosen, Around, moved_rest, read_began_clocking, first_frame}
use Rattle.bus.specs.Theorems.SpiRises.{clocks, write_alike, t, taken, q, b}
use Rattle.bus.specs.Theorems.SpiCalls.{rise_write, turn_write, resets_framed}

-- a sensor that hears is not quiet
loud : {s : Sensor} → Chosen s → is_quiet s ≡ false
loud {s} h = is_never s.deadlines.quiet h.loud

-- ---- supply

lost : (s : Sensor) (rail : ℕ) (now : Time) → is_off s ≡ false → ltb rail 2400 ≡ true → is_off (set_supply s rail now).sensor ≡ true
lost s rail now on e = supply_off s rail now on e

-- ---- a soft reset

done_quiet : (w : Option (ℕ × ℕ)) (s : Sensor) (now : Time) → write_resets s w ≡ true → is_quiet (E.write_done w s now) ≡ true
unfolding E.write_done write_resets
done_quiet None s now e = absurd_bool (sym e)
done_quiet (Some (r, v)) s now e = reset_quiets s r v now (write_kind s r v) e

nothing_resets : (s : Sensor) (w : Option (ℕ × ℕ)) → w ≡ None → write_resets s w ≡ false
unfolding write_resets
nothing_resets s w e = ap (λ (x : Option (ℕ × ℕ)). write_resets s x) e

module _ (m : Sensor) (h : Chosen m) (mosi : Bool) (now : Time) (e : write_resets (after_read_began m) (spi_write m mosi) ≡ true) where
  clocking : m.frame.turnaround ≡ false
  clocking = by m.frame.turnaround refl
    where
      by : (z : Bool) → m.frame.turnaround ≡ z → m.frame.turnaround ≡ false
      by true g = absurd_bool (sym e ∙ nothing_resets (after_read_began m) (spi_write m mosi) (turn_write m h mosi g))
      by false g = g

  write_is : (taken m mosi now).write ≡ spi_write m mosi
  write_is =
      ap (λ (x : Frame). (F.take_bit x mosi (four_wire (t m mosi now))).write) (first_frame m (F.first_bit m.frame.serial m.frame.rx_bits))
      ∙ write_alike m.frame mosi (four_wire (t m mosi now)) (four_wire m) (ltb m.frame.rx_bits 7) refl
      ∙ sym (rise_write m h mosi clocking)

  resets : write_resets (q m mosi now) (taken m mosi now).write ≡ true
  resets =
      resets_framed (t m mosi now) (taken m mosi now).frame (taken m mosi now).write
      ∙ ap (λ (w : Option (ℕ × ℕ)). write_resets (t m mosi now) w) write_is
      ∙ ap (λ (x : Sensor). write_resets x (spi_write m mosi)) (sym (read_began_clocking m clocking))
      ∙ e

  rise_quiets : is_quiet (E.rising_effect m mosi now) ≡ true
  rise_quiets =
      ap (λ (x : Sensor). is_quiet x) (clocks m h mosi now past_end clocking)
      ∙ ap (λ (k : Around). is_set k.quiet) (moved_rest (b m mosi now) (F.shifts (b m mosi now).frame Clocked.Rise (four_wire (b m mosi now)))).0
      ∙ done_quiet (taken m mosi now).write (q m mosi now) now resets

-- ---- any call

module _ (s : Bma150) (h : Chosen s.sensor) where
  abbrev caught : Time → Sensor
  caught now = sync_local_until s.sensor now false

  heard : (now : Time) → Chosen (caught now)
  heard now = chosen (of (K.sync_keeps s.sensor now false)) h

  timed_unheard : (now : Time) (t : Timed) → timed_leaves s.sensor now t ≡ true → Chosen (effect (caught now) now t).sensor → ⊥
  unfolding effect timed_leaves
  timed_unheard now (Timed.Accelerations input) e k = absurd_bool (sym e)
  timed_unheard now (Timed.Supply rail) e k = absurd_bool (sym (lost (caught now) rail now (heard now).on e) ∙ k.on)
  timed_unheard now Timed.Due e k = absurd_bool (sym e)
  timed_unheard now (Timed.Rising mosi) e k =
      let m = at_rise s.sensor now in
      let g = chosen (and_then (of (K.sync_keeps s.sensor now false)) (of (K.rise_synced_keeps (caught now) now))) h in
      absurd_bool (sym (rise_quiets m g mosi now e) ∙ loud k)
  timed_unheard now Timed.Falling e k = absurd_bool (sym e)
  timed_unheard now (Timed.Pins x y) e k = absurd_bool (sym e)

  deselected : (set_selected s.sensor false).frame.selected ≡ false
  unfolding selected_to may_select F.differs
  deselected = rw h.selected

  act_unheard : (o : Acts) → act_leaves s.sensor o ≡ true → Chosen (left_by s o).sensor → ⊥
  act_unheard (Acts.timed now t) e k = timed_unheard now t e k
  act_unheard (Acts.select true) e k = absurd_bool (sym e)
  act_unheard (Acts.select false) e k = absurd_bool (sym k.selected ∙ deselected)
  act_unheard (Acts.keeps f) e k = absurd_bool (sym e)

  leaves_unheard : (c : Call) → leaves_frame s c ≡ true → Chosen (leaves s c).sensor → ⊥
  unfolding leaves leaves_frame
  leaves_unheard c e k = act_unheard (acts c) e k

  -- these end hearing, of all accepted calls; the others do not (`call_left`)
  pub chosen_no_more : (c : Call) → accepts s c ≡ true → leaves_frame s c ≡ true → Chosen (step s c).sensor → ⊥
  chosen_no_more c ok e k = leaves_unheard c e (subst (λ (t : Bma150). Chosen t.sensor) (accepted_leaves s c ok) k)
