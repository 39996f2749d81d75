-- The frames are not empty: lists of calls after a start with the stock image, computed.
use Rattle.std.specs.Prelude.{ℕ, ◌/◌, ◌^◌, ◌≡◌, refl, List, [], ◌∷◌, ◌++◌, pos, drop, Some, None}
use mathlib.Core.Bool.{Bool, true, false}
use Rattle.laws.specs.Bytes.{sent_bit}
use Rattle.time.specs.declared.Time.{Time}
use Rattle.time.specs.Time.{time}
use Rattle.i2c.specs.declared.types.Levels.{Levels}
use Rattle.spi.specs.Frame as SF
use Rattle.spi.specs.Lines.{shown}
use Rattle.spi.specs.Courses.{write_frame, Levels8, four_wire_read, three_wire_read}
use Rattle.sensor.specs.Image.{stock}
use Rattle.calls.specs.declared.types.Timed.TheVariants as Timed
use Rattle.calls.specs.declared.types.Call.{Call}
use Rattle.calls.specs.declared.types.Starting.TheVariants as Starting
use Rattle.bma150.specs.declared.host.Bma150.{Bma150}
use Rattle.book.specs.Lists.{started, step, after, accepted}
use Rattle.bus.specs.Spi.{Chosen, edges, left_frame, sleeps, nows}
use Rattle.bus.specs.Writes.{asked}
use Rattle.bus.specs.Theorems.SpiTransfers.{InMode}
use Rattle.laws.specs.Bytes as LB
use Rattle.i2c.specs.Bus as IB
use Rattle.i2c.specs.Engine as IE
use Rattle.registers.specs.Access as Ra
use Rattle.deadlines.specs.Deadlines as DD
use Rattle.control.specs.Kinds as CW
use Rattle.control.specs.Automatic as CA
use Rattle.spi.specs.Lines as SL
use Rattle.spi.specs.Courses as SC
use Rattle.reads.specs.Reads as RR
use Rattle.sensor.specs.Record as BR
use Rattle.sensor.specs.Image as Bi
use Rattle.sensor.specs.Mode as BC
use Rattle.sensor.specs.RegisterReads as BG
use Rattle.writes.specs.Write as BW
use Rattle.samples.specs.Samples as BS
use Rattle.sensor.specs.Select as BL
use Rattle.serial.specs.SpiEdges as BE
use Rattle.serial.specs.I2cPins as BP
use Rattle.sampling.specs.Stage as ST
use Rattle.waits.specs.Supply as BU
use Rattle.waits.specs.Due as BD
use Rattle.calls.specs.Facts as TF
use Rattle.calls.specs.Table as T
use Rattle.bma150.specs.Called as C
use Rattle.book.specs.Does as RD
use Rattle.book.specs.Lists as RL
use Rattle.bus.specs.I2c as BB
use Rattle.bus.specs.Spi as BN
use Rattle.bus.specs.Writes as BX

-- ---- edges

abbrev rise : Time → Bool → Call
rise t d = Call.At t (Timed.Rising d)

abbrev fall : Time → Call
fall t = Call.At t Timed.Falling

-- a byte up to its eighth rise
abbrev byte : Time → ℕ → List Call
byte t b =
    rise t (sent_bit b 0) ∷ fall t ∷ rise t (sent_bit b 1) ∷ fall t ∷ rise t (sent_bit b 2) ∷ fall t ∷ rise t (sent_bit b 3) ∷ fall t
    ∷ rise t (sent_bit b 4) ∷ fall t ∷ rise t (sent_bit b 5) ∷ fall t ∷ rise t (sent_bit b 6) ∷ fall t ∷ rise t (sent_bit b 7) ∷ []

-- eight clocks of a byte that is read, the data line low
abbrev clocks : Time → List Call
clocks t =
    fall t ∷ rise t false ∷ fall t ∷ rise t false ∷ fall t ∷ rise t false ∷ fall t ∷ rise t false
    ∷ fall t ∷ rise t false ∷ fall t ∷ rise t false ∷ fall t ∷ rise t false ∷ fall t ∷ rise t false ∷ []

abbrev lows : Levels8
lows = record { 0 = false; 1 = false; 2 = false; 3 = false; 4 = false; 5 = false; 6 = false; 7 = false }

-- ---- lists

-- the sensor after select 1
abbrev sensor : Bma150
sensor = step (started (record { by = Starting.Checked; time = time 0; image = stock })) (Call.Select true)

abbrev lines : (scl sda : Bool) → Levels
lines scl sda = record { scl = scl; sda = sda }

-- a millisecond after the start
abbrev later : Time
later = time (2 ^ 64 / 1000)

-- registers 0 and 1 are read in four-wire mode; a temperature, an I2C START, a refused call and a view stand between
abbrev chip_id : List Call
chip_id =
    byte (time 0) 0x80
    ++ (Call.Temperature (pos 20000) ∷ Call.At later (Timed.Pins (lines true true) (lines true false)) ∷ Call.At (time 0) Timed.Due ∷ Call.View 0 ∷ [])
    ++ clocks later
    ++ clocks later

-- register 16 hex, which is locked, is read in four-wire mode
abbrev locked : List Call
locked = byte (time 0) 0x96 ++ clocks (time 0)

-- 15 hex gets 0: the wire mode changes at the sixteenth rise
abbrev to_three_wire : List Call
to_three_wire = byte (time 0) 0x15 ++ (fall (time 0) ∷ []) ++ byte (time 0) 0x00

-- the sensor after that, deselected and selected again
abbrev three_wired : Bma150
three_wired = step (step (after sensor to_three_wire) (Call.Select false)) (Call.Select true)

-- register 0 is read in three-wire mode
abbrev chip_id_three : List Call
chip_id_three = byte (time 0) 0x80 ++ (fall (time 0) ∷ rise (time 0) false ∷ []) ++ clocks (time 0)

-- ---- computed: what the theorems ask for, and what they then say

record Computed : Type 0 where
  hears : Chosen sensor.sensor
  begun : sensor.sensor.frame ≡ SF.fresh true
  read_stays : left_frame sensor chip_id ≡ false
  read_awake : sleeps sensor chip_id ≡ false
  read_edges : edges (accepted sensor chip_id) ≡ four_wire_read 0x00 (lows ∷ lows ∷ [])
  read_mode : InMode true (nows sensor chip_id)
  read_shows : shown (drop 15 (nows sensor chip_id)) 0x00 ≡ Some 0x02
  withheld_edges : edges (accepted sensor locked) ≡ four_wire_read 0x16 (lows ∷ [])
  withheld_shows : shown (drop 15 (nows sensor locked)) 0x16 ≡ None
  write_stays : left_frame sensor to_three_wire ≡ false
  write_edges : edges (accepted sensor to_three_wire) ≡ write_frame 0x15 0x00
  written : asked sensor to_three_wire ≡ Some (0x15, 0x00) ∷ []
  three_hears : Chosen three_wired.sensor
  three_begun : three_wired.sensor.frame ≡ SF.fresh true
  three_stays : left_frame three_wired chip_id_three ≡ false
  three_awake : sleeps three_wired chip_id_three ≡ false
  three_edges : edges (accepted three_wired chip_id_three) ≡ three_wire_read 0x00 false (lows ∷ [])
  three_mode : InMode false (nows three_wired chip_id_three)
  three_shows : shown (drop 16 (nows three_wired chip_id_three)) 0x00 ≡ Some 0x02

computed : Computed
unfolding LB.all_shifted_in IB.data_moves IB.edge IB.is_condition IB.is_start IB.is_rise IB.is_fall IB.data_at IE.conditioned IE.acknowledging IE.within_byte IE.pointer_after IE.bit_taken IE.byte_step IE.at_ninth IE.followed IE.acknowledge_step IE.answered IE.answer IE.answer_step IE.ninth_step IE.addressed IE.received IE.completes IE.completed IE.step IE.uses_as IE.uses_at_rise IE.reads_next IE.goes_on IE.uses_at_fall IE.consumes_conversion Ra.unwritable Ra.working Ra.stored Ra.image_blocks Ra.sleep_blocks Ra.locked Ra.ignores Ra.begins Ra.unreadable Ra.withheld DD.is_set DD.is_at DD.is_by DD.sooner DD.unless_at DD.later DD.first DD.earliest CW.written_control CW.written_register CW.kind_of_write CW.self_test CW.sleep CA.holds CA.pauses_again CA.may_pause SF.differs SF.select SF.reads SF.first_bit SF.addressed SF.completed SF.take_bit SF.moves SF.fetches SF.shifts SF.bit_drive SF.level SF.next_bit SF.moved SF.consumes_at_rise SF.consumes_at_fall SL.output SL.serve SL.read_deeds SL.wrote SL.fetched SL.deeds SL.samples SL.left SL.seen SC.clocked SC.write_frames SC.read_bytes RR.is_acceleration RR.is_shadowed RR.pair RR.high_byte RR.prepared RR.began RR.sent_byte_read BR.away BR.cold_of BR.runs BR.tests Bi.cell_byte Bi.with_cell Bi.image_at Bi.shadowing BC.pause_end BC.shows_new_data BC.interrupt BC.pause_restarted BC.interrupt_held BC.pause_if_idle BC.automatic_control BC.reset_time BG.shown BG.peek BG.mark BG.mark_of BG.fetched BG.counts_as_read BG.byte_read BW.recounted BW.interrupts_written BW.tested BW.slept BW.image_written BW.mode_written BW.register_effect BW.write_effect BS.samples_run BS.next_sample BS.write_end BS.sample_due BS.next_deadline BS.limit BS.caught_up BS.samples_on_demand BS.sync_local_until BL.selected_to BL.may_select BE.moved BE.first_bit_taken BE.write_done BE.spi_listens BE.rising_effect BE.rise_synced BE.fall_synced BE.falling_effect BP.i2c_listens BP.ones_for BP.acted BP.i2c_pins BP.pins_synced BU.cut BU.turned ST.hold ST.turned BU.zero_while_off BU.reacquired BU.returned BU.supply_low BU.supply_ok BU.set_supply BD.pause_ended BD.write_ended BD.image_ended BD.wake_ended BD.sample_ended BD.verifies TF.timed_facts TF.facts T.refusal_number T.number T.wrong_length T.beyond T.any_beyond T.out_of_range T.jumps T.late T.too_late T.goes_back T.due_by T.before_due T.due_at T.beside_due T.first_found T.refusal T.reserved T.turned_down T.start_refusal T.unless_refused C.after_start C.reported C.put_in C.effect C.timed_adds C.leaves C.adds RD.spi_write RD.action_write RD.i2c_write RD.timed_does RD.does RL.after RL.answers RL.accepted RL.zeroed RL.met_zero RL.last_kept BB.timed_event BB.event BB.events BB.is_reset BB.resets BB.timed_ends BB.ends BB.some_accepted BB.shows BB.at_event BB.shown BB.seen_of BN.timed_edge BN.edge_of BN.and_some BN.edges BN.after_read_began BN.timed_now BN.now_of BN.write_resets BN.timed_leaves BN.leaves_frame BN.sleeps_at BN.spi_pin BN.seen_edge BN.now_edge BN.seen_edges BN.nows BX.and_write BX.asked BX.seen_writes BX.pair_writes BX.deed_writes BX.edge_writes BX.frame_writes mathlib.Core.Bool.xor
computed = record {
  hears = record { on = refl; ready = refl; loud = refl; selected = refl };
  begun = refl;
  read_stays = refl;
  read_awake = refl;
  read_edges = refl;
  read_mode = (refl, refl, (refl, refl, (refl, refl, (refl, refl, (refl, refl, (refl, refl, (refl, refl, (refl, refl, (refl, refl, (refl, refl, (refl, refl, (refl, refl, (refl, refl, (refl, refl, (refl, refl, (refl, refl, (refl, refl, (refl, refl, (refl, refl, (refl, refl, (refl, refl, (refl, refl, (refl, refl, (refl, refl, (refl, refl, (refl, refl, (refl, refl, (refl, refl, (refl, refl, (refl, refl, (refl, refl, (refl, refl, (refl, refl, (refl, refl, (refl, refl, (refl, refl, (refl, refl, (refl, refl, (refl, refl, (refl, refl, (refl, refl, (refl, refl, (refl, refl, (refl, refl, (refl, refl, (refl, refl, (refl, refl, tt)))))))))))))))))))))))))))))))))))))))))))))));
  read_shows = refl;
  withheld_edges = refl;
  withheld_shows = refl;
  write_stays = refl;
  write_edges = refl;
  written = refl;
  three_hears = record { on = refl; ready = refl; loud = refl; selected = refl };
  three_begun = refl;
  three_stays = refl;
  three_awake = refl;
  three_edges = refl;
  three_mode = (refl, refl, (refl, refl, (refl, refl, (refl, refl, (refl, refl, (refl, refl, (refl, refl, (refl, refl, (refl, refl, (refl, refl, (refl, refl, (refl, refl, (refl, refl, (refl, refl, (refl, refl, (refl, refl, (refl, refl, (refl, refl, (refl, refl, (refl, refl, (refl, refl, (refl, refl, (refl, refl, (refl, refl, (refl, refl, (refl, refl, (refl, refl, (refl, refl, (refl, refl, (refl, refl, (refl, refl, (refl, refl, (refl, refl, tt)))))))))))))))))))))))))))))))));
  three_shows = refl;
}
