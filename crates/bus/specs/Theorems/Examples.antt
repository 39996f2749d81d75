-- The transfers are not empty: lists of calls after a start with the stock image, computed. The levels of each report follow on from those of the one before.
use Rattle.std.specs.Prelude.{ℕ, ◌/◌, ◌^◌, ◌≡◌, refl, List, [], ◌∷◌, ◌++◌, pos, drop, Some}
use mathlib.Core.Bool.{Bool, true, false}
use Rattle.laws.specs.Bytes.{sent_bit}
use Rattle.time.specs.declared.Time.{Time}
use Rattle.time.specs.Time.{time}
use Rattle.i2c.specs.declared.types.Levels.{Levels}
use Rattle.i2c.specs.Transfers.{Pair, Levels8, write_transfer, combined}
use Rattle.i2c.specs.Target.{now_shown}
use Rattle.sensor.specs.Image.{stock}
use Rattle.calls.specs.declared.types.Timed.TheVariants as Timed
use Rattle.calls.specs.declared.types.Call.{Call}
use Rattle.calls.specs.declared.types.Starting.TheVariants as Starting
use Rattle.bma150.specs.declared.host.Bma150.{Bma150}
use Rattle.book.specs.Lists.{started, after, accepted}
use Rattle.bus.specs.I2c.{Heard, events, ended, shown}
use Rattle.bus.specs.Writes.{asked}
use Rattle.laws.specs.Bytes as LB
use Rattle.i2c.specs.Bus as IB
use Rattle.i2c.specs.Engine as IE
use Rattle.i2c.specs.Transfers as IT
use Rattle.registers.specs.Access as Ra
use Rattle.deadlines.specs.Deadlines as DD
use Rattle.control.specs.Kinds as CW
use Rattle.control.specs.Automatic as CA
use Rattle.spi.specs.Frame as SF
use Rattle.reads.specs.Reads as RR
use Rattle.sensor.specs.Record as BR
use Rattle.sensor.specs.Image as Bi
use Rattle.sensor.specs.Mode as BC
use Rattle.sensor.specs.RegisterReads as BG
use Rattle.writes.specs.Write as BW
use Rattle.samples.specs.Samples as BS
use Rattle.sensor.specs.Select as BL
use Rattle.serial.specs.SpiEdges as BE
use Rattle.serial.specs.I2cPins as BP
use Rattle.sampling.specs.Stage as ST
use Rattle.waits.specs.Supply as BU
use Rattle.waits.specs.Due as BD
use Rattle.calls.specs.Facts as TF
use Rattle.calls.specs.Table as T
use Rattle.bma150.specs.Called as C
use Rattle.book.specs.Does as RD
use Rattle.book.specs.Lists as RL
use Rattle.bus.specs.I2c as BB
use Rattle.bus.specs.Writes as BX

-- ---- reports

abbrev lines : (scl sda : Bool) → Levels
lines scl sda = record { scl = scl; sda = sda }

abbrev report : Time → (before after : Levels) → Call
report t before after = Call.At t (Timed.Pins before after)

-- START from both lines high, and the clock falls
abbrev start : Time → List Call
start t = report t (lines true true) (lines true false) ∷ report t (lines true false) (lines false false) ∷ []

-- a bit: the data moves while the clock is low, the clock rises and falls
abbrev clock : Time → (was bit : Bool) → List Call
clock t was bit = report t (lines false was) (lines false bit) ∷ report t (lines false bit) (lines true bit) ∷ report t (lines true bit) (lines false bit) ∷ []

-- a byte and its ninth clock, which the sensor holds low
abbrev byte : Time → (was : Bool) → ℕ → List Call
byte t was b =
    clock t was (sent_bit b 0)
    ++ clock t (sent_bit b 0) (sent_bit b 1)
    ++ clock t (sent_bit b 1) (sent_bit b 2)
    ++ clock t (sent_bit b 2) (sent_bit b 3)
    ++ clock t (sent_bit b 3) (sent_bit b 4)
    ++ clock t (sent_bit b 4) (sent_bit b 5)
    ++ clock t (sent_bit b 5) (sent_bit b 6)
    ++ clock t (sent_bit b 6) (sent_bit b 7)
    ++ clock t (sent_bit b 7) false

-- a repeated START: the data rises while the clock is low, the clock rises, the data falls, the clock falls
abbrev again : Time → List Call
again t = report t (lines false false) (lines false true) ∷ report t (lines false true) (lines true true) ∷ start t

-- ---- lists

abbrev sensor : Bma150
sensor = started (record { by = Starting.Checked; time = time 0; image = stock })

-- a millisecond after the start
abbrev later : Time
later = time (2 ^ 64 / 1000)

-- register 0 is read: 70, 00, repeated START, 71, and one byte that is not acknowledged; a temperature, an acceleration, a refused call, an SPI edge and a view stand between
abbrev chip_id : List Call
chip_id =
    start (time 0)
    ++ byte (time 0) false 0x70
    ++ (Call.Temperature (pos 20000) ∷ Call.At (time 0) (Timed.Accelerations (record { x = pos 1; y = pos 2; z = pos 3 })) ∷ [])
    ++ byte (time 0) false 0x00
    ++ (Call.At later (Timed.Rising true) ∷ Call.At (time 0) Timed.Due ∷ Call.View 0 ∷ [])
    ++ again later
    ++ byte later false 0x71
    ++ (clock later false false
    ++ clock later false false
    ++ clock later false false
    ++ clock later false false
    ++ clock later false false
    ++ clock later false false
    ++ clock later false true
    ++ clock later true false
    ++ clock later false true)

-- 15 hex gets 82 hex and 14 hex 01
abbrev two_pairs : List Call
two_pairs = start (time 0) ++ byte (time 0) false 0x70 ++ byte (time 0) false 0x15 ++ byte (time 0) false 0x82 ++ byte (time 0) false 0x14 ++ byte (time 0) false 0x01

abbrev pair : (register value : ℕ) → Pair
pair register value = record { register = register; value = value; register_level = false; value_level = false }

-- the data line at the bits of the byte read
abbrev chip_id_levels : Levels8
chip_id_levels = record { 0 = false; 1 = false; 2 = false; 3 = false; 4 = false; 5 = false; 6 = true; 7 = false }

-- ---- computed: what the theorems ask for, and what they then say

record Computed : Type 0 where
  hears : Heard sensor.sensor
  read_goes_on : ended sensor chip_id ≡ false
  read_events : events (accepted sensor chip_id) ≡ combined 0x00 false false false [] chip_id_levels
  read_shows : now_shown (drop 19 (drop 1 (drop 18 (drop 20 (shown sensor chip_id))))) 0x00 ≡ 0x02
  write_goes_on : ended sensor two_pairs ≡ false
  write_events : events (accepted sensor two_pairs) ≡ write_transfer false (pair 0x15 0x82 ∷ pair 0x14 0x01 ∷ [])
  written : asked sensor two_pairs ≡ Some (0x15, 0x82) ∷ Some (0x14, 0x01) ∷ []

computed : Computed
unfolding LB.all_shifted_in IB.data_moves IB.edge IB.is_condition IB.is_start IB.is_rise IB.is_fall IB.data_at IE.conditioned IE.acknowledging IE.within_byte IE.pointer_after IE.bit_taken IE.byte_step IE.at_ninth IE.followed IE.acknowledge_step IE.answered IE.answer IE.answer_step IE.ninth_step IE.addressed IE.received IE.completes IE.completed IE.step IE.uses_as IE.uses_at_rise IE.reads_next IE.goes_on IE.uses_at_fall IE.consumes_conversion IT.and_edge IT.clocked IT.starts IT.pairs IT.acknowledged Ra.unwritable Ra.working Ra.stored Ra.image_blocks Ra.sleep_blocks Ra.locked Ra.ignores Ra.begins Ra.unreadable Ra.withheld DD.is_set DD.is_at DD.is_by DD.sooner DD.unless_at DD.later DD.first DD.earliest CW.written_control CW.written_register CW.kind_of_write CW.self_test CW.sleep CA.holds CA.pauses_again CA.may_pause SF.differs SF.select SF.reads SF.first_bit SF.addressed SF.completed SF.take_bit SF.moves SF.fetches SF.shifts SF.bit_drive SF.level SF.next_bit SF.moved SF.consumes_at_rise SF.consumes_at_fall RR.is_acceleration RR.is_shadowed RR.pair RR.high_byte RR.prepared RR.began RR.sent_byte_read BR.away BR.cold_of BR.runs BR.tests Bi.cell_byte Bi.with_cell Bi.image_at Bi.shadowing BC.pause_end BC.shows_new_data BC.interrupt BC.pause_restarted BC.interrupt_held BC.pause_if_idle BC.automatic_control BC.reset_time BG.shown BG.peek BG.mark BG.mark_of BG.fetched BG.counts_as_read BG.byte_read BW.recounted BW.interrupts_written BW.tested BW.slept BW.image_written BW.mode_written BW.register_effect BW.write_effect BS.samples_run BS.next_sample BS.write_end BS.sample_due BS.next_deadline BS.limit BS.caught_up BS.samples_on_demand BS.sync_local_until BL.selected_to BL.may_select BE.moved BE.first_bit_taken BE.write_done BE.spi_listens BE.rising_effect BE.rise_synced BE.fall_synced BE.falling_effect BP.i2c_listens BP.ones_for BP.acted BP.i2c_pins BP.pins_synced BU.cut BU.turned ST.hold ST.turned BU.zero_while_off BU.reacquired BU.returned BU.supply_low BU.supply_ok BU.set_supply BD.pause_ended BD.write_ended BD.image_ended BD.wake_ended BD.sample_ended BD.verifies TF.timed_facts TF.facts T.refusal_number T.number T.wrong_length T.beyond T.any_beyond T.out_of_range T.jumps T.late T.too_late T.goes_back T.due_by T.before_due T.due_at T.beside_due T.first_found T.refusal T.reserved T.turned_down T.start_refusal T.unless_refused C.after_start C.reported C.put_in C.effect C.timed_adds C.leaves C.adds RD.spi_write RD.action_write RD.i2c_write RD.timed_does RD.does RL.after RL.answers RL.accepted RL.zeroed RL.met_zero RL.last_kept BB.timed_event BB.event BB.events BB.is_reset BB.resets BB.timed_ends BB.ends BB.some_accepted BB.shows BB.at_event BB.shown BB.seen_of BX.and_write BX.asked BX.seen_writes BX.pair_writes mathlib.Core.Bool.xor
computed = record {
  hears = record { on = refl; ready = refl; unselected = refl; at_rest = refl; loud = refl };
  read_goes_on = refl;
  read_events = refl;
  read_shows = refl;
  write_goes_on = refl;
  write_events = refl;
  written = refl;
}
