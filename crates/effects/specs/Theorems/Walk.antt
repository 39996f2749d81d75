-- A relation that each step meets is met by all that a call does: samples, register writes, reads, edges, reports, due moments, supply.
use Rattle.sensor.specs.Operation.{Operation}
use Rattle.std.specs.Prelude.{ℕ, ◌≡◌, refl, Bool, true, false, ◌&&◌, ltb, eqb, Option, Some, None}
use Rattle.std.proofs.Math.Path.{ap}
use Rattle.std.proofs.Math.Bool.{not}
use Rattle.std.proofs.lemmas.Bool.{cond_both}
use Rattle.time.specs.declared.Time.{Time}
use Rattle.time.specs.Time.{same, plus, from_millis, from_micros}
use Rattle.nv.specs.Cycle as Cycle
use Rattle.i2c.specs.declared.types.Levels.{Levels}
use Rattle.i2c.specs.declared.types.Edge.{Edge}
use Rattle.i2c.specs.declared.types.Action.{Action}
use Rattle.i2c.specs.Bus.{edge}
use Rattle.i2c.specs.Engine as E
use Rattle.spi.specs.declared.types.Clocked.{Clocked}
use Rattle.spi.specs.declared.types.Shift.{Shift}
use Rattle.spi.specs.Frame as F
use Rattle.deadlines.specs.Deadlines.{is_set, is_at, with_irq_hold}
use Rattle.control.specs.declared.types.WriteKind.{WriteKind}
use Rattle.control.specs.declared.types.Effect.{Effect}
use Rattle.control.specs.declared.types.SelfTest.{SelfTest}
use Rattle.control.specs.declared.types.Sleep.{Sleep}
use Rattle.control.specs.Automatic.{holds, pauses_again}
use Rattle.control.specs.Kinds as Kinds
use Rattle.registers.specs.Map.{at, operation, latch_INT}
use Rattle.sensor.specs.declared.types.Outage.{Outage}
use Rattle.sensor.specs.declared.types.Sensor.{Sensor}
use Rattle.sensor.specs.Record.{with_frame, with_deadlines, away, is_off, serial_not_ready, is_quiet, automatic, four_wire}
use Rattle.sensor.specs.Mode.{criterion, may_sleep, pause, automatic_off, pause_restarted, interrupt_held, pause_if_idle, automatic_control}
use Rattle.sensor.specs.RegisterReads.{peek, fetched, counts_as_read, byte_read}
use Rattle.sensor.specs.Select.{selected_to, may_select, set_selected}
use Rattle.writes.specs.Write.{recounted, interrupts_written, tested, slept, image_written, control_written, mode_written, operation_written, register_effect, then_automatic, write_effect, write_kind, write_register}
use Rattle.samples.specs.Samples.{after_edges, edges_until, caught_up, samples_on_demand, sync_local_until}
use Rattle.serial.specs.SpiEdges.{moved, shift_output, first_bit_taken, write_done, bit_done, bit_taken, turned, spi_listens, rise_synced, rising_effect, rising_at, fall_synced, falling_effect, falling_at}
use Rattle.serial.specs.I2cPins.{ones_for, acted, i2c_listens, i2c_pins, pins_synced, i2c_pins_at}
use Rattle.waits.specs.declared.types.Served.{Served}
use Rattle.waits.specs.Supply as S
use Rattle.waits.specs.Due.{waits_ended, pause_ended, completed, write_ended, image_ended, wake_ended, sample_due_now, sample_ended, sample_served, hold_ends_now, waits_served, at_deadline}
use Rattle.effects.specs.Walk.{Steps}

-- the steps of automatic mode
pub record Automatic (now : Time) (R : Sensor → Sensor → Type 0) : Type 0 where
  pub itself : (s : Sensor) → R s s
  pub then : {s t u : Sensor} → R s t → R t u → R s u
  pub pauses : (s : Sensor) → R s (pause s now)
  pub holds : (s : Sensor) → R s (with_deadlines s (with_irq_hold s.deadlines (Some (plus now (from_micros 330)))))
  pub manual : (s : Sensor) → R s (automatic_off s)

-- and of the samples that something asks for outside it
pub record OnDemand (now : Time) (R : Sensor → Sensor → Type 0) : Type 0 where
  pub automatic : Automatic now R
  pub edges : (s : Sensor) (inclusive : Bool) → samples_on_demand s ≡ true → R s (after_edges s (edges_until s now inclusive))

-- ---- automatic mode

module _ (now : Time) (R : Sensor → Sensor → Type 0) (p : Automatic now R) where
  restarted_met : (s : Sensor) → R s (pause_restarted s now)
  unfolding pause_restarted
  restarted_met s = cond_both (pauses_again s.sampling.asleep (is_set s.deadlines.pause)) _ _ (R s) (λ e. p.pauses s) (λ e. p.itself s)

  held_met : (s : Sensor) (was : Bool) → R s (interrupt_held s now was)
  unfolding interrupt_held
  held_met s was = cond_both (holds was (latch_INT (at s.registers operation)) (criterion s)) _ _ (R s) (λ e. p.holds s) (λ e. p.itself s)

  idle_met : (s : Sensor) (verify : Bool) → R s (pause_if_idle s now verify)
  unfolding pause_if_idle
  idle_met s verify = cond_both (may_sleep s verify) _ _ (R s) (λ e. p.pauses s) (λ e. p.itself s)

  pub automatic_met : (s : Sensor) (was verify : Bool) → R s (automatic_control s now was verify)
  unfolding automatic_control
  automatic_met s was verify =
      cond_both (automatic s) _ _ (R s) (λ e. p.then (restarted_met s) (p.then (held_met _ was) (idle_met _ verify))) (λ e. p.manual s)

-- ---- samples

module _ (now : Time) (R : Sensor → Sensor → Type 0) (d : OnDemand now R) where
  abbrev p : Automatic now R
  p = d.automatic

  caught_met : (s : Sensor) (inclusive : Bool) → samples_on_demand s ≡ true → R s (caught_up s now (edges_until s now inclusive))
  unfolding caught_up
  caught_met s inclusive o =
      cond_both (eqb (edges_until s now inclusive) 0) _ _ (R s) (λ e. p.itself s) (λ e. p.then (d.edges s inclusive o) (automatic_met now R p _ false false))

  pub sync_met : (s : Sensor) (inclusive : Bool) → R s (sync_local_until s now inclusive)
  unfolding sync_local_until
  sync_met s inclusive = cond_both (samples_on_demand s) _ _ (R s) (λ e. caught_met s inclusive e) (λ e. p.itself s)

  pub rise_synced_met : (s : Sensor) → R s (rise_synced s now)
  unfolding rise_synced
  rise_synced_met s = cond_both (spi_listens s && F.consumes_at_rise s.frame) _ _ (R s) (λ e. sync_met s true) (λ e. p.itself s)

  pub fall_synced_met : (s : Sensor) → R s (fall_synced s now)
  unfolding fall_synced
  fall_synced_met s = cond_both (spi_listens s && F.consumes_at_fall s.frame (four_wire s)) _ _ (R s) (λ e. sync_met s true) (λ e. p.itself s)

  pub pins_synced_met : (s : Sensor) (e : Edge) → R s (pins_synced s e now)
  unfolding pins_synced
  pins_synced_met s e = cond_both (i2c_listens s && (E.consumes_conversion s.i2c e && not (is_quiet s))) _ _ (R s) (λ q. sync_met s true) (λ q. p.itself s)

module _ (now : Time) (R : Sensor → Sensor → Type 0) (p : Steps now R) where
  same_as : (s : Sensor) → R s s
  same_as s = p.itself s

  in_automatic : Automatic now R
  in_automatic = record { itself = p.itself; then = p.then; pauses = p.pauses; holds = p.holds; manual = p.manual }

  on_demand : OnDemand now R
  on_demand = record { automatic = in_automatic; edges = p.edges }

  pub automatic_meets : (s : Sensor) (was verify : Bool) → R s (automatic_control s now was verify)
  automatic_meets s was verify = automatic_met now R in_automatic s was verify

  pub sync_meets : (s : Sensor) (inclusive : Bool) → R s (sync_local_until s now inclusive)
  sync_meets s inclusive = sync_met now R on_demand s inclusive

  -- ---- register writes

  recounted_meets : (s : Sensor) (again : Bool) → R s (recounted s again)
  unfolding recounted
  recounted_meets s again = cond_both again _ _ (R s) (λ e. p.recounts s) (λ e. same_as s)

  interrupts_meets : (s : Sensor) (value : ℕ) → R s (interrupts_written s value)
  unfolding interrupts_written
  interrupts_meets s value = cond_both (Kinds.resets_interrupts value) _ _ (R s) (λ e. p.then (p.resets s) (recounted_meets _ (automatic s))) (λ e. same_as s)

  tested_meets : (t : Option SelfTest) (s : Sensor) → R s (tested t s)
  unfolding tested
  tested_meets (Some SelfTest.Starts) s = p.test_starts s
  tested_meets (Some SelfTest.Stops) s = p.test_stops s
  tested_meets None s = same_as s

  slept_meets : (t : Option Sleep) (s : Sensor) → R s (slept t s now)
  unfolding slept
  slept_meets (Some Sleep.Wakes) s = p.acquires s (from_millis 1)
  slept_meets (Some Sleep.Pauses) s = p.pauses s
  slept_meets None s = same_as s

  image_meets : (s : Sensor) (value : ℕ) → R s (image_written s value now)
  unfolding image_written
  image_meets s value = cond_both (Kinds.copies_image value) _ _ (R s) (λ e. p.copy_begins s) (λ e. same_as s)

  control_meets : (s : Sensor) (value : ℕ) → R s (control_written s value now)
  control_meets s value = p.then (p.controls s value) (p.then (interrupts_meets _ value) (p.then (tested_meets _ _) (p.then (slept_meets _ _) (image_meets _ value))))

  mode_meets : (s : Sensor) (turns : Bool) → R s (mode_written s turns)
  unfolding mode_written recounted
  mode_meets s turns = cond_both turns _ _ (R s) (λ e. p.then (p.recounts s) (p.drops_hold _)) (λ e. same_as s)

  operation_meets : (s : Sensor) (value : ℕ) → R s (operation_written s value)
  operation_meets s value = p.then (p.operates s value) (mode_meets _ _)

  then_automatic_meets : (e : Effect) (s : Sensor) (address value : ℕ) → R s (register_effect e s address value now) → R s (then_automatic e s address value now)
  then_automatic_meets e s address value r = p.then r (automatic_meets _ _ false)

  write_effect_meets : (w : WriteKind) (s : Sensor) (address value : ℕ) → write_kind s address value ≡ w → R s (write_effect w s address value now)
  unfolding write_effect register_effect
  write_effect_meets WriteKind.Ignored s address value k = same_as s
  write_effect_meets WriteKind.Stored s address value k = p.begins s address value k
  write_effect_meets (WriteKind.Taken Effect.Reset) s address value k = then_automatic_meets Effect.Reset s address value (p.soft_resets s)
  write_effect_meets (WriteKind.Taken Effect.Control) s address value k = then_automatic_meets Effect.Control s address value (control_meets s value)
  write_effect_meets (WriteKind.Taken Effect.Measurement) s address value k = then_automatic_meets Effect.Measurement s address value (p.measures s value)
  write_effect_meets (WriteKind.Taken Effect.Operation) s address value k = then_automatic_meets Effect.Operation s address value (operation_meets s value)
  write_effect_meets (WriteKind.Taken Effect.Durations) s address value k = then_automatic_meets Effect.Durations s address value (p.lasts s address value k)
  write_effect_meets (WriteKind.Taken Effect.Plain) s address value k = then_automatic_meets Effect.Plain s address value (p.puts s address value k)

  pub register_meets : (s : Sensor) (address value : ℕ) → R s (write_register s address value now)
  register_meets s address value = write_effect_meets (write_kind s address value) s address value refl

  -- ---- reads, select and the output

  fetched_meets : (v : Option ℕ) (s : Sensor) (address : ℕ) → R s (fetched v s address).sensor
  unfolding fetched
  fetched_meets (Some b) s address = p.fetches s address b
  fetched_meets None s address = p.drops_read s

  byte_read_meets : (t : Option ℕ) (s : Sensor) (address : ℕ) → R s (byte_read t s address)
  unfolding byte_read
  byte_read_meets None s address = same_as s
  byte_read_meets (Some b) s address = cond_both (counts_as_read s address) _ _ (R s) (λ e. p.reads s address b e) (λ e. same_as s)

  pub select_meets : (s : Sensor) (selected : Bool) → R s (set_selected s selected)
  unfolding selected_to
  select_meets s selected = cond_both (F.changes s.frame (may_select s selected)) _ _ (R s) (λ e. p.reselects s (may_select s selected)) (λ e. same_as s)

  moved_meets : (m : Shift) (s : Sensor) → R s (moved m s)
  unfolding moved
  moved_meets Shift.Stay s = same_as s
  moved_meets (Shift.Fetch a) s = p.then (fetched_meets (peek s a) s a) (p.shifts _ _)
  moved_meets Shift.Next s = p.shifts s s.frame.tx

  shift_meets : (s : Sensor) (on : Clocked) → R s (shift_output s on)
  shift_meets s on = moved_meets _ s

  -- ---- the steps of a due call

  pause_ended_meets : (s : Sensor) → R s (pause_ended s now)
  unfolding pause_ended
  pause_ended_meets s = cond_both (is_at s.deadlines.pause now) _ _ (R s) (λ e. p.acquires s (from_millis 1)) (λ e. same_as s)

  write_ended_meets : (op : Operation) (s : Sensor) → s.writing ≡ op → R s (write_ended op s now).sensor
  unfolding write_ended
  write_ended_meets None s o = same_as s
  write_ended_meets (Some w) s o =
      cond_both (same (Cycle.deadline w.cycle) now) (completed s w.address w.value) (S.without_report s) (λ (x : Served). R s x.sensor) (λ e. p.then (p.completes s w o) (p.copies _)) (λ e. same_as s)

  image_ended_meets : (s : Sensor) → R s (image_ended s now)
  unfolding image_ended
  image_ended_meets s = cond_both (is_at s.deadlines.image now) _ _ (R s) (λ e. p.loads s) (λ e. same_as s)

  wake_ended_meets : (s : Sensor) → R s (wake_ended s now)
  unfolding wake_ended
  wake_ended_meets s = cond_both (is_at s.deadlines.wake now) _ _ (R s) (λ e. p.wakes s) (λ e. same_as s)

  sample_ended_meets : (s : Sensor) → R s (sample_ended s now)
  unfolding sample_ended
  sample_ended_meets s = cond_both (sample_due_now s now) _ _ (R s) (λ e. p.due_edge s e) (λ e. same_as s)

  sample_meets : (s : Sensor) (was hold : Bool) → R s (sample_served s now was hold)
  sample_meets s was hold = p.then (sample_ended_meets s) (automatic_meets _ was _)

  pub due_meets : (s : Sensor) → R s (at_deadline s now).sensor
  due_meets s =
      let q = pause_ended (waits_ended s now) now in
      let w = (write_ended q.writing q now).sensor in
      p.then (p.waits_end s)
      (p.then (pause_ended_meets (waits_ended s now))
      (p.then (write_ended_meets q.writing q refl)
      (p.then (image_ended_meets w) (p.then (wake_ended_meets (image_ended w now)) (sample_meets (waits_served s now).sensor (criterion s) (hold_ends_now s now))))))

  -- ---- supply

  cut_meets : (op : Operation) (s : Sensor) → s.writing ≡ op → R s (S.cut op s now).sensor
  unfolding S.cut
  cut_meets None s o = same_as s
  cut_meets (Some w) s o = p.cuts s w o

  off_meets : (s : Sensor) (cold : Bool) → R s (S.off s now cold)
  off_meets s cold = p.then (select_meets s false) (p.then (p.aborts _) (p.goes_off _ cold))

  power_off_meets : (s : Sensor) (cold : Bool) → R s (S.power_off s now cold).sensor
  power_off_meets s cold = p.then (p.stops s) (p.then (cut_meets s.writing (S.hold_analog s now) refl) (off_meets _ cold))

  zero_meets : (s : Sensor) (o : Outage) (zero : Bool) → s.outage ≡ Some o → R s (S.zero_while_off s o zero)
  unfolding S.zero_while_off
  zero_meets s o zero e = cond_both zero _ _ (R s) (λ q. p.meets_zero s o e) (λ q. same_as s)

  reacquired_meets : (s : Sensor) → R s (S.reacquired s now)
  unfolding S.reacquired
  reacquired_meets s = cond_both s.sampling.asleep _ _ (R s) (λ e. same_as s) (λ e. p.acquires s (from_millis 1))

  returned_meets : (s : Sensor) (o : Outage) → s.outage ≡ Some o → R s (S.returned s o now)
  unfolding S.returned away
  returned_meets s o e = cond_both o.cold _ _ (R s) (λ q. p.powers_on s (ap (λ (x : Option Outage). away x) e)) (λ q. p.then (p.comes_back s o e) (reacquired_meets _))

  supply_low_meets : (o : Option Outage) (s : Sensor) (zero : Bool) → s.outage ≡ o → R s (S.supply_low o s zero now).sensor
  unfolding S.supply_low
  supply_low_meets None s zero e = power_off_meets s zero
  supply_low_meets (Some o) s zero e = zero_meets s o zero e

  supply_ok_meets : (o : Option Outage) (s : Sensor) → s.outage ≡ o → R s (S.supply_ok o s now)
  unfolding S.supply_ok
  supply_ok_meets None s e = same_as s
  supply_ok_meets (Some o) s e = returned_meets s o e

  pub supply_meets : (s : Sensor) (rail : ℕ) → R s (S.set_supply s rail now).sensor
  unfolding S.set_supply
  supply_meets s rail =
      cond_both (ltb rail 2400) (S.supply_low s.outage s (eqb rail 0) now) (S.without_report (S.supply_ok s.outage s now)) (λ (x : Served). R s x.sensor)
      (λ e. supply_low_meets s.outage s (eqb rail 0) refl) (λ e. supply_ok_meets s.outage s refl)

  -- ---- SPI edges

  first_bit_meets : (k : Option ℕ) (s : Sensor) → R s (first_bit_taken k s)
  unfolding first_bit_taken
  first_bit_meets None s = same_as s
  first_bit_meets (Some a) s = byte_read_meets s.frame.tx s a

  write_done_meets : (w : Option (ℕ × ℕ)) (s : Sensor) → R s (write_done w s now)
  unfolding write_done
  write_done_meets None s = same_as s
  write_done_meets (Some (a, v)) s = register_meets s a v

  bit_meets : (s : Sensor) (mosi : Bool) → R s (bit_taken s mosi now)
  bit_meets s mosi =
      let t = first_bit_taken (F.first_bit s.frame.serial s.frame.rx_bits) s in
      let b = F.take_bit t.frame mosi (four_wire t) in
      p.then (first_bit_meets (F.first_bit s.frame.serial s.frame.rx_bits) s)
      (p.then (p.takes t mosi) (p.then (write_done_meets b.write (with_frame t b.frame)) (shift_meets (bit_done b t now) Clocked.Rise)))

  turned_meets : (s : Sensor) → R s (turned s)
  turned_meets s = p.then (p.turns s) (shift_meets (with_frame s (F.turned s.frame)) Clocked.Turnaround)

  rising_effect_meets : (s : Sensor) (mosi : Bool) → R s (rising_effect s mosi now)
  unfolding rising_effect
  rising_effect_meets s mosi = cond_both (spi_listens s) _ _ (R s) (λ e. cond_both s.frame.turnaround _ _ (R s) (λ f. turned_meets s) (λ f. bit_meets s mosi)) (λ e. same_as s)

  pub rising_meets : (s : Sensor) (mosi : Bool) → R s (rising_at s mosi now)
  rising_meets s mosi = p.then (rise_synced_met now R on_demand s) (rising_effect_meets (rise_synced s now) mosi)

  falling_effect_meets : (s : Sensor) → R s (falling_effect s)
  unfolding falling_effect
  falling_effect_meets s = cond_both (not (serial_not_ready s) && not (is_off s)) _ _ (R s) (λ e. shift_meets s Clocked.Fall) (λ e. same_as s)

  pub falling_meets : (s : Sensor) → R s (falling_at s now)
  falling_meets s = p.then (fall_synced_met now R on_demand s) (falling_effect_meets (fall_synced s now))

  -- ---- I2C reports

  acted_meets : (a : Option Action) (s : Sensor) → R s (acted a s now)
  unfolding acted
  acted_meets None s = same_as s
  acted_meets (Some Action.Drop) s = p.then (p.sends s None) (p.drops_read _)
  acted_meets (Some (Action.Write r v)) s = p.then (register_meets s r v) (p.acknowledges _)
  acted_meets (Some (Action.Launch r)) s =
      let f = fetched (peek s r) s r in
      p.then (fetched_meets (peek s r) s r) (p.then (p.sends f.sensor f.sent) (p.launches _ (ones_for f.sent)))
  acted_meets (Some (Action.ReadBegan r)) s = byte_read_meets s.frame.tx s r

  i2c_pins_meets : (s : Sensor) (e : Edge) → R s (i2c_pins s e now)
  unfolding i2c_pins
  i2c_pins_meets s e = cond_both (i2c_listens s) _ _ (R s) (λ q. p.then (p.steps s e) (acted_meets _ _)) (λ q. p.aborts s)

  pub pins_meets : (s : Sensor) (before after : Levels) → R s (i2c_pins_at s before after now)
  pins_meets s before after = p.then (pins_synced_met now R on_demand s (edge before after)) (i2c_pins_meets _ (edge before after))
