-- Demand 3 over bytes is not empty: two inputs, computed.
use Prim.Native.Nat.{ℕ, ◌/◌, ◌^◌}
use native.Mathlib.Omega.{arith}
use mathlib.Core.Path.{◌≡◌, refl, sym, ap, ◌∙◌}
use mathlib.Core.Bool.{true, false}
use mathlib.Core.List.{List, [], ◌∷◌, ◌++◌}
use Rattle.laws.specs.Notation.{ascii}
use Rattle.laws.specs.Bytes.{sent_bit}
use Rattle.time.specs.declared.Time.{Time}
use Rattle.time.specs.Time.{time}
use Rattle.sensor.specs.Image.{stock}
use Rattle.calls.specs.declared.types.Timed.TheVariants as Timed
use Rattle.calls.specs.declared.types.Call.{Call}
use Rattle.calls.specs.declared.types.Starting.TheVariants as Starting
use Rattle.bma150.specs.declared.host.Bma150.{Bma150}
use Rattle.bma150.specs.Called.{start_number}
use Rattle.commands.specs.Encode.{TimeFits, TimedFits, CallFits}
use Rattle.book.specs.Lists.{Start, started, accepts, after, accepted, met_zero, kept, Returns}
use Rattle.book.specs.Book.{opened, booked}
use Rattle.book.specs.Claim.{ending, left}
use Rattle.bench.specs.Text.{hexes}
use Rattle.bench.specs.Run.{whole}
use Rattle.printed.specs.Inputs.{AllFit, image_bytes, image_line}
use Rattle.printed.specs.Printed.{run_bytes, RunFits, run_text, Follows, Shows}
use Rattle.printed.proofs.Theorems.Fractions.{fractions_fit}
use Rattle.printed.proofs.Printed.{printed}
use Rattle.nv.specs.Cell as NC
use Rattle.registers.specs.Access as Ra
use Rattle.interrupts.specs.Pin as IP
use Rattle.interrupts.specs.State as IS
use Rattle.deadlines.specs.Deadlines as DD
use Rattle.control.specs.Kinds as CW
use Rattle.spi.specs.Frame as SF
use Rattle.sensor.specs.Record as BR
use Rattle.sensor.specs.Image as Bi
use Rattle.sensor.specs.Mode as BC
use Rattle.writes.specs.Write as BW
use Rattle.samples.specs.Samples as BS
use Rattle.sensor.specs.Select as BL
use Rattle.serial.specs.Outputs as BO
use Rattle.serial.specs.SpiEdges as BE
use Rattle.sampling.specs.Stage as ST
use Rattle.waits.specs.Supply as BU
use Rattle.calls.specs.Facts as TF
use Rattle.calls.specs.Table as T
use Rattle.bma150.specs.Values as CV
use Rattle.bma150.specs.Called as C
use Rattle.commands.specs.Encode as E
use Rattle.book.specs.Does as RD
use Rattle.book.specs.Lists as RL
use Rattle.book.specs.Book as RB
use Rattle.bench.specs.Text as X
use Rattle.bench.specs.Line as L
use Rattle.printed.specs.Lines as PL
use Rattle.printed.specs.Inputs as PI

-- ---- a stored write that is cut, and a return from 0 mV

-- SPI: the rises of a register's address and of its value, at one time

abbrev byte_rises : Time → ℕ → List Call
byte_rises t b =
    Call.At t (Timed.Rising (sent_bit b 0)) ∷ Call.At t (Timed.Rising (sent_bit b 1)) ∷ Call.At t (Timed.Rising (sent_bit b 2)) ∷ Call.At t (Timed.Rising (sent_bit b 3))
    ∷ Call.At t (Timed.Rising (sent_bit b 4)) ∷ Call.At t (Timed.Rising (sent_bit b 5)) ∷ Call.At t (Timed.Rising (sent_bit b 6)) ∷ Call.At t (Timed.Rising (sent_bit b 7)) ∷ []

abbrev frame : Time → ℕ → ℕ → List Call → List Call
frame t address value others = byte_rises t address ++ (byte_rises t value ++ others)

-- 1 ms after the start
abbrev now : Time
now = time (2 ^ 64 / 1000)

abbrev stock_start : Start
stock_start = record { by = Starting.Checked; time = time 0; image = stock }

-- ee_w is set, 34 is written, and 0 mV cuts the write
abbrev cut_write : List Call
cut_write = Call.Select true ∷ frame (time 0) 0x0a 0x10 (frame (time 0) 0x34 0x69 (Call.At now (Timed.Supply 0) ∷ []))

-- the stock image with a torn byte at 34
abbrev torn : List ℕ
torn = 3 ∷ 20 ∷ 150 ∷ 160 ∷ 150 ∷ 0 ∷ 0 ∷ 162 ∷ 13 ∷ 4 ∷ 128 ∷ 0 ∷ 0 ∷ 0 ∷ 0 ∷ 128 ∷ 128 ∷ 128 ∷ 0 ∷ []

-- ---- another start, with those bytes, and another list that returns at the same time

abbrev other_start : Start
other_start = record { by = Starting.Checked; time = now; image = torn }

abbrev no_write : List Call
no_write = Call.At now (Timed.Supply 0) ∷ []

-- T of both returns
abbrev T_bytes : List ℕ
T_bytes = 0x00 ∷ 0x00 ∷ 0x00 ∷ 0x00 ∷ 0x00 ∷ 0x41 ∷ 0x89 ∷ 0x37 ∷ 0x4b ∷ 0xc6 ∷ 0xa7 ∷ 0xef ∷ []

-- 01, 04 with 0 mV, 04 with 2400 mV, 0a
abbrev input : List ℕ
input =
    (0x01 ∷ T_bytes) ++ (0x03 ∷ 0x14 ∷ 0x96 ∷ 0xa0 ∷ 0x96 ∷ 0x00 ∷ 0x00 ∷ 0xa2 ∷ 0x0d ∷ 0x04 ∷ 0x80 ∷ 0x00 ∷ 0x00 ∷ 0x00 ∷ 0x00 ∷ 0x80 ∷ 0x80 ∷ 0x80 ∷ 0x00 ∷ [])
    ++ (0x04 ∷ T_bytes) ++ (0x00 ∷ 0x00 ∷ [])
    ++ (0x04 ∷ T_bytes) ++ (0x09 ∷ 0x60 ∷ [])
    ++ (0x0a ∷ T_bytes)

abbrev last_line : List ℕ
last_line = ascii "0a ok 0 F F 031496a0960000a20d04800000000080808000\n"

abbrev text : List ℕ
text = ascii "01 ok 0 F F\n" ++ ascii "04 ok 0 F F -\n" ++ ascii "04 ok 0 F F -\n" ++ last_line

-- ---- computed

record Computed : Type 0 where
  first_accepted : start_number stock_start.by stock_start.time stock_start.image ≡ 0
  first_returns : accepts (after (started stock_start) cut_write) (Call.At now (Timed.Supply 3000)) ≡ true
  first_from_zero : met_zero false (accepted (started stock_start) cut_write) ≡ true
  first_book : (booked (opened stock_start) (ending cut_write now 3000)).cells ≡ torn
  second_accepted : start_number other_start.by other_start.time other_start.image ≡ 0
  second_returns : accepts (after (started other_start) no_write) (Call.At now (Timed.Supply 2400)) ≡ true
  second_from_zero : met_zero false (accepted (started other_start) no_write) ≡ true
  second_book : (booked (opened other_start) (ending no_write now 2400)).cells ≡ torn
  first_line : image_line false (left stock_start cut_write now 3000) (hexes torn) ≡ last_line
  second_input : run_bytes other_start no_write now 2400 ++ image_bytes now ≡ input
  second_text : run_text other_start no_write now 2400 false ++ image_line false (left other_start no_write now 2400) (hexes torn) ≡ text
  same_kept : kept stock_start cut_write ≡ kept other_start no_write

computed : Computed
unfolding NC.mixed NC.low_half NC.threshold NC.crossing NC.bits_where NC.byte Ra.unwritable Ra.working Ra.stored Ra.image_blocks Ra.sleep_blocks Ra.locked Ra.ignores Ra.begins DD.is_set DD.is_at DD.is_by DD.sooner DD.unless_at DD.first DD.earliest CW.written_control CW.written_register CW.kind_of_write CW.self_test CW.sleep SF.differs SF.reads SF.first_bit SF.addressed SF.completed SF.take_bit SF.moves SF.shifts SF.consumes_at_rise BR.away BR.cold_of BR.runs Bi.cell_byte Bi.with_cell BC.pause_end BC.automatic_control BW.interrupts_written BW.tested BW.slept BW.image_written BW.register_effect BW.write_effect BS.samples_run BS.next_sample BS.write_end BS.sample_due BS.next_deadline BS.limit BS.caught_up BS.samples_on_demand BS.sync_local_until BL.selected_to BL.may_select BE.moved BE.first_bit_taken BE.write_done BE.spi_listens BE.rising_effect BE.rise_synced BU.cut BU.turned ST.hold ST.turned BU.zero_while_off BU.returned BU.supply_low BU.supply_ok BU.set_supply TF.timed_facts TF.facts T.wrong_length T.out_of_range T.jumps T.late T.too_late T.goes_back T.due_by T.due_at T.before_due T.beside_due T.first_found T.refusal T.reserved T.turned_down T.start_refusal T.unless_refused C.after_start C.effect C.timed_adds C.leaves C.adds RL.after RL.accepted RL.zeroed RL.met_zero RL.last_kept RD.spi_write RD.timed_does RD.does RB.operation RB.completing RB.cutting RB.supplied RB.runs RB.accepted_write RB.of_write RB.began RB.changed_at RB.entered RB.booked PI.inputs PI.texts PL.text_of L.line L.pins L.added_text X.word X.bit X.report_text X.due_text CV.drive_letter CV.report_values BC.interrupt BC.shows_new_data BO.output BO.data_output BO.spi_drives BO.i2c_holds IP.output IP.threshold_output IP.motion_output IS.configure Bi.shadowing RL.answers E.start_byte E.call_bytes E.timed_bytes E.time_bytes E.bytes
computed = record { first_accepted = refl; first_returns = refl; first_from_zero = refl; first_book = refl; second_accepted = refl; second_returns = refl; second_from_zero = refl; second_book = refl; first_line = refl; second_input = refl; second_text = refl; same_kept = refl }

-- ---- the operands fit

frame_fits : (t : Time) (address value : ℕ) (others : List Call) → TimeFits t → AllFit others → AllFit (frame t address value others)
unfolding AllFit CallFits TimedFits
frame_fits t address value others w g = let v : TimeFits t × Unit {0} = (w, tt) in (v, (v, (v, (v, (v, (v, (v, (v, (v, (v, (v, (v, (v, (v, (v, (v, g))))))))))))))))

first_fits : RunFits stock_start cut_write now 3000
unfolding AllFit CallFits TimedFits
first_fits =
    let z : TimeFits (time 0) = (omega arith, omega arith) in
    let n : TimeFits now = (omega arith, omega arith) in
    let rails : List Call = Call.At now (Timed.Supply 0) ∷ Call.At now (Timed.Supply 3000) ∷ [] in
    ((z, refl), (tt, frame_fits (time 0) 0x0a 0x10 (frame (time 0) 0x34 0x69 rails) z (frame_fits (time 0) 0x34 0x69 rails z ((n, omega arith), ((n, omega arith), tt)))))

second_fits : RunFits other_start no_write now 2400
unfolding AllFit CallFits TimedFits
second_fits = let n : TimeFits now = (omega arith, omega arith) in ((n, refl), ((n, omega arith), ((n, omega arith), tt)))

-- ---- both return

first_return : Returns stock_start cut_write now 3000
first_return = record {
  fractions = fractions_fit cut_write (Call.At now (Timed.Supply 3000) ∷ []) first_fits.1;
  start_accepted = computed.first_accepted;
  supply_accepted = computed.first_returns;
  with_supply = refl;
  from_zero = computed.first_from_zero;
}

second_return : Returns other_start no_write now 2400
second_return = record {
  fractions = (tt, tt);
  start_accepted = computed.second_accepted;
  supply_accepted = computed.second_returns;
  with_supply = refl;
  from_zero = computed.second_from_zero;
}

-- ---- so both halves have something to say, whatever the sensor before

first_shows : (s : Bma150) → Shows stock_start cut_write now 3000 false s (hexes torn)
first_shows s = printed.stored stock_start cut_write now 3000 first_return first_fits false s ∙ ap (λ (l : List ℕ). run_text stock_start cut_write now 3000 false ++ image_line false (left stock_start cut_write now 3000) (hexes l)) computed.first_book

second_shows : (s : Bma150) → Shows other_start no_write now 2400 false s (hexes torn)
second_shows s = printed.stored other_start no_write now 2400 second_return second_fits false s ∙ ap (λ (l : List ℕ). run_text other_start no_write now 2400 false ++ image_line false (left other_start no_write now 2400) (hexes l)) computed.second_book

-- the first input's last line shows the torn byte
pub first_text : (s : Bma150) → Follows stock_start cut_write now 3000 false s (image_bytes now) last_line
first_text s = first_shows s ∙ ap (λ (l : List ℕ). run_text stock_start cut_write now 3000 false ++ l) computed.first_line

-- the second input and its text, byte by byte
pub second_text : (s : Bma150) → (whole false s input).text ≡ text
second_text s = ap (λ (l : List ℕ). (whole false s l).text) (sym computed.second_input) ∙ second_shows s ∙ computed.second_text

-- and whatever follows, one text follows both
pub followed : (s u : Bma150) (further : List ℕ) → (text : List ℕ) × Follows stock_start cut_write now 3000 false s further text × Follows other_start no_write now 2400 false u further text
followed s u =
    printed.same stock_start other_start cut_write no_write now 3000 2400 first_return first_fits second_return second_fits false s u (hexes torn) (first_shows s) (second_shows u) computed.same_kept
