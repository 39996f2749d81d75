-- Demand 3 is of something, up to the edges of every argument: lists of calls, computed, and the code's runs of them.
use Rattle.std.specs.Prelude.{Option, Some}
use Prim.Native.Nat.{ℕ, ◌+◌, ◌*◌, ◌-◌, ◌/◌, ◌^◌, ◌<◌}
use mathlib.Core.Path.{◌≡◌, refl, sym, ap, ◌∙◌}
use mathlib.Core.Bool.{true, false}
use mathlib.Core.List.{List, [], ◌∷◌, ◌++◌}
use lib.Dec.{leb, lit<}
use lib.IntN.{pos, negsuc}
use lib.ListN.{length}
use Rattle.time.specs.declared.Time.{Time}
use Rattle.time.specs.Time.{time}
use Rattle.nv.specs.Cell.{write_length}
use Rattle.sensor.specs.Image.{stock, new_kept}
use Rattle.calls.specs.declared.types.Timed.TheVariants as Timed
use Rattle.calls.specs.declared.types.Call.{Call}
use Rattle.calls.specs.declared.types.Starting.TheVariants as Starting
use Rattle.bma150.specs.declared.host.Bma150.{Bma150}
use Rattle.bma150.specs.Called.{Added, number, start_number}
use Rattle.book.specs.Lists.{Answer, answers, accepts, Start, started, after, accepted, met_zero, last_kept, kept, Fractions, Returns}
use Rattle.book.specs.Book.{Running, opened, booked}
use Rattle.book.specs.Claim.{ending, left, stored_bytes}
use Rattle.book.proofs.Lists.{claim}
use Rattle.runs.specs.Functions.{Serves}
use Rattle.runs.specs.Transfers.{I2cSoFar, SpiSoFar}
use Rattle.runs.specs.Demand3.{functions, Run}
use Rattle.runs.proofs.Functions.{lent_too}
use Rattle.runs.proofs.Demand3.{demand_3, accepted_are, Returned, returned}
use Rattle.runs.proofs.Scripts.{supply, due, rises, frame, lines, start, byte, released, seven_clocks, seven_rises, Good, rises_good, frame_good, start_good, byte_good, released_good, seven_clocks_good, seven_rises_good, stock_start, completion, quarter, writing, writing_good}
use Rattle.laws.specs.Bytes as LB
use Rattle.laws.specs.Iterate as LI
use Rattle.nv.specs.Cell as NC
use Rattle.filter.specs.Filter as FF
use Rattle.filter.specs.Mean as FM
use Rattle.interrupts.specs.Criteria as NR
use Rattle.interrupts.specs.Pin as NP
use Rattle.interrupts.specs.State as NS
use Rattle.i2c.specs.Bus as IB
use Rattle.i2c.specs.Engine as IE
use Rattle.registers.specs.Access as Ra
use Rattle.registers.specs.Codes as RC
use Rattle.deadlines.specs.Deadlines as DD
use Rattle.control.specs.Kinds as CW
use Rattle.control.specs.Automatic as CA
use Rattle.control.specs.Lengths as CL
use Rattle.spi.specs.Frame as SF
use Rattle.reads.specs.Reads as RR
use Rattle.sampling.specs.Phase as SP
use Rattle.sensor.specs.Record as BR
use Rattle.sensor.specs.Image as Bi
use Rattle.sensor.specs.Mode as BC
use Rattle.sensor.specs.RegisterReads as BG
use Rattle.writes.specs.Write as BW
use Rattle.samples.specs.Samples as BS
use Rattle.sensor.specs.Select as BL
use Rattle.serial.specs.SpiEdges as BE
use Rattle.serial.specs.I2cPins as BP
use Rattle.serial.specs.Outputs as BO
use Rattle.sampling.specs.Stage as ST
use Rattle.waits.specs.Supply as BU
use Rattle.waits.specs.Due as BD
use Rattle.calls.specs.Facts as TF
use Rattle.calls.specs.Table as T
use Rattle.bma150.specs.Called as C
use Rattle.bma150.specs.Values as BV
use Rattle.book.specs.Does as RD
use Rattle.book.specs.Lists as RL
use Rattle.book.specs.Book as RB
use Rattle.i2c.specs.Transfers as IT
use Rattle.bus.specs.I2c as BB
use Rattle.bus.specs.Spi as BX
use Rattle.bus.specs.Theorems.SpiFalls as SL

-- ---- lists

-- the latest time there is, and the latest that is accepted
abbrev extreme : Time
extreme = record { 0 = 2 ^ 64 - 1; 1 = 2 ^ 64 - 1 }

abbrev limit : Time
limit = record { 0 = 2 ^ 32 - 1; 1 = 2 ^ 64 - 1 }

-- every kind of call at the edges of its arguments, refused and accepted; then 0 mV
abbrev extremes : List Call
extremes =
    Call.At extreme (Timed.Accelerations (record { x = negsuc (2 ^ 31 - 1); y = pos (2 ^ 31 - 1); z = pos 0 }))
    ∷ Call.At extreme (Timed.Supply 65535)
    ∷ Call.At extreme Timed.Due
    ∷ Call.At extreme (Timed.Rising true)
    ∷ Call.At extreme Timed.Falling
    ∷ Call.At extreme (Timed.Pins (record { scl = true; sda = true }) (record { scl = true; sda = false }))
    ∷ Call.StoredImage extreme 19
    ∷ Call.StoredImage (time 0) 0
    ∷ Call.StoredImage (time 0) (2 ^ 64 - 1)
    ∷ Call.StoredImage (time 0) 19
    ∷ Call.Temperature (pos (2 ^ 31 - 1))
    ∷ Call.Temperature (negsuc (2 ^ 31 - 1))
    ∷ Call.Select true
    ∷ Call.Select false
    ∷ Call.View 255
    ∷ Call.View 0
    ∷ supply (time 0) 0
    ∷ Call.At limit (Timed.Accelerations (record { x = negsuc (1000000000 - 1); y = pos 1000000000; z = pos 0 }))
    ∷ Call.At limit Timed.Due
    ∷ Call.At limit (Timed.Rising true)
    ∷ Call.At limit Timed.Falling
    ∷ Call.At limit (Timed.Pins (record { scl = true; sda = true }) (record { scl = true; sda = false }))
    ∷ []

-- I2C: ee_w is set, ff is written to 2c, the sensor sleeps, and the write completes
abbrev over_i2c : List Call
over_i2c =
    start (time 0)
    (byte (time 0) 0x70
    (byte (time 0) 0x0a (byte (time 0) 0x10 (byte (time 0) 0x2c (byte (time 0) 0xff (byte (time 0) 0x0a (byte (time 0) 0x11 (due completion ∷ supply completion 0 ∷ []))))))))

-- a brown-out of 1 mV cuts the write, and then 0 mV is met
abbrev browned_out : List Call
browned_out = writing (supply quarter 1 ∷ supply quarter 0 ∷ [])

-- two writes of one cell complete
abbrev second_end : Time
second_end = time (2 * write_length)

abbrev again : List Call
again =
    due completion
    ∷ frame completion 0x0a 0x10 (frame completion 0x2c 0x55 (frame completion 0x0a 0x11 (due second_end ∷ supply second_end 0 ∷ [])))

abbrev twice : List Call
twice = writing again

-- ee_w is set, 2c is written, 0 mV is refused as samples begin before it, 2e is ignored while the write runs, the sensor sleeps, and the write ends; it wakes, 2d is written, it sleeps, and 0 mV cuts the write
abbrev refusal : Time
refusal = time (2 ^ 64 / 200)

abbrev cut : Time
cut = time (write_length + 2 ^ 64 / 100)

abbrev return : Time
return = time (write_length + 2 ^ 64 / 100 + 2 ^ 64 / 1000)

abbrev second_write : List Call
second_write = frame completion 0x0a 0x10 (frame completion 0x2d 0x69 (frame completion 0x0a 0x11 (supply cut 0 ∷ [])))

abbrev two_writes : List Call
two_writes =
    Call.Select true
    ∷ frame (time 0) 0x0a 0x10
    (frame (time 0) 0x2c 0xff (supply refusal 0 ∷ frame (time 0) 0x2e 0x55 (frame (time 0) 0x0a 0x11 (due completion ∷ second_write))))

-- the stock image with these bytes in 2c and 2d
abbrev image_with : (first second : ℕ) → List ℕ
image_with a b = 3 ∷ a ∷ b ∷ 160 ∷ 150 ∷ 0 ∷ 0 ∷ 162 ∷ 13 ∷ 14 ∷ 128 ∷ 0 ∷ 0 ∷ 0 ∷ 0 ∷ 128 ∷ 128 ∷ 128 ∷ 0 ∷ []

-- another start, at another time and with the bytes that two writes leave, which only meets 0 mV
abbrev moment : Time
moment = time (2 ^ 64 / 50)

abbrev other_start : Start
other_start = record { by = Starting.Checked; time = moment; image = image_with 255 2 }

abbrev no_write : List Call
no_write = supply moment 0 ∷ []

-- 1f is stored at 34: range code 3 and bandwidth code 7, which command 01's start would refuse; and a start by command 0c with the bytes that this leaves
abbrev storing : List Call
storing = Call.Select true ∷ frame (time 0) 0x0a 0x10 (frame (time 0) 0x34 0x1f (frame (time 0) 0x0a 0x11 (due completion ∷ supply completion 0 ∷ [])))

abbrev reserved_image : List ℕ
reserved_image = 3 ∷ 20 ∷ 150 ∷ 160 ∷ 150 ∷ 0 ∷ 0 ∷ 162 ∷ 13 ∷ 0x1f ∷ 128 ∷ 0 ∷ 0 ∷ 0 ∷ 0 ∷ 128 ∷ 128 ∷ 128 ∷ 0 ∷ []

abbrev stored_start : Start
stored_start = record { by = Starting.Stored; time = completion; image = reserved_image }

abbrev only_zero : List Call
only_zero = supply completion 0 ∷ []

-- ---- transfers that begin a stored write

-- I2C: 70, 0a and 10, which sets ee_w, and the lines are released; then START, 70, 2c and all but the last bit of ff
abbrev i2c_before : List Call
i2c_before = start (time 0) (byte (time 0) 0x70 (byte (time 0) 0x0a (byte (time 0) 0x10 (released (time 0) []))))

abbrev i2c_within : List Call
i2c_within = start (time 0) (byte (time 0) 0x70 (byte (time 0) 0x2c (seven_clocks (time 0) [])))

abbrev last_report : Call
last_report = Call.At (time 0) (Timed.Pins (lines false true) (lines true true))

-- SPI: the same with frames
abbrev spi_before : List Call
spi_before = Call.Select true ∷ frame (time 0) 0x0a 0x10 []

abbrev spi_within : List Call
spi_within = rises (time 0) 0x2c (seven_rises (time 0) [])

abbrev last_rise : Call
last_rise = Call.At (time 0) (Timed.Rising true)

-- what such a list leaves in the book
abbrev begun : Option Running
begun = Some (record { address = 0x2c; wanted = 0xff; began = time 0 })

-- the fractions of their times fit
i2c_fractions : Fractions (i2c_before ++ i2c_within)
i2c_fractions =
    let small : (time 0).1 < 2 ^ 64 = lit< tt in
    let none_left : Good [] = record { good = tt } in
    let within = start_good (time 0) small (byte_good (time 0) small 0x70 (byte_good (time 0) small 0x2c (seven_clocks_good (time 0) small none_left))) in
    (start_good (time 0) small (byte_good (time 0) small 0x70 (byte_good (time 0) small 0x0a (byte_good (time 0) small 0x10 (released_good (time 0) small within))))).good

spi_fractions : Fractions (spi_before ++ spi_within)
spi_fractions =
    let small : (time 0).1 < 2 ^ 64 = lit< tt in
    let none_left : Good [] = record { good = tt } in
    (tt, (frame_good (time 0) small 0x0a 0x10 (rises_good (time 0) small (seven_rises_good (time 0) small none_left) 0x2c)).good)

-- ---- I2C reports and supply: a START while there is supply, while there is none, and none at all; then 0 mV in each

abbrev start_report : Call
start_report = Call.At (time 0) (Timed.Pins (lines true true) (lines true false))

abbrev reported_on : List Call
reported_on = start_report ∷ supply (time 0) 0 ∷ []

abbrev reported_off : List Call
reported_off = supply (time 0) 0 ∷ start_report ∷ []

abbrev unreported : List Call
unreported = supply (time 0) 0 ∷ []

-- ---- computed

record Comes (b : Start) (cs : List Call) (now : Time) (rail : ℕ) (bytes : List ℕ) : Type 0 where
  start_accepted : start_number b.by b.time b.image ≡ 0
  supply_accepted : accepts (after (started b) cs) (supply now rail) ≡ true
  from_zero : met_zero false (accepted (started b) cs) ≡ true
  cells : (booked (opened b) (ending cs now rail)).cells ≡ bytes

-- what is worked out of these runs
record Computed : Type 0 where
  of_extremes : Comes stock_start extremes limit 65535 stock
  accepts_extremes : length (accepted (started stock_start) extremes) ≡ 12
  of_i2c : Comes stock_start over_i2c completion 3000 (image_with 255 150)
  of_brown_out : Comes stock_start browned_out quarter 3000 (image_with 4 150)
  of_twice : Comes stock_start twice second_end 3000 (image_with 0x55 150)
  of_two : Comes stock_start two_writes return 3000 (image_with 255 2)
  of_other : Comes other_start no_write return 2400 (image_with 255 2)
  of_storing : Comes stock_start storing completion 3000 reserved_image
  of_stored : Comes stored_start only_zero completion 2400 reserved_image
  reserved_kept : kept stock_start storing ≡ kept stored_start only_zero
  same_kept : kept stock_start two_writes ≡ kept other_start no_write
  of_reported_on : Comes stock_start reported_on (time 0) 3000 stock
  of_reported_off : Comes stock_start reported_off (time 0) 3000 stock
  of_unreported : Comes stock_start unreported (time 0) 3000 stock
  same_lines : kept stock_start reported_on ≡ kept stock_start reported_off
  -- acceleration and temperature are the same without a report, and yet the next START is answered otherwise
  same_input : (kept stock_start reported_on).input ≡ (kept stock_start unreported).input
  jumps_then : number (left stock_start reported_on (time 0) 3000) start_report ≡ 8
  follows_then : number (left stock_start unreported (time 0) 3000) start_report ≡ 0
  i2c_so_far : I2cSoFar stock_start i2c_before i2c_within 0x2c 0xff
  i2c_begins : (booked (opened stock_start) ((i2c_before ++ i2c_within) ++ (last_report ∷ []))).running ≡ begun
  spi_so_far : SpiSoFar stock_start spi_before spi_within 0x2c 0xff
  spi_begins : (booked (opened stock_start) ((spi_before ++ spi_within) ++ (last_rise ∷ []))).running ≡ begun

computed : Computed
unfolding LB.all_shifted_in LI.iterate NC.mixed NC.low_half NC.threshold NC.crossing NC.bits_where NC.byte FF.pushed FF.full FF.answered FM.tabulate FM.ring FM.sumZ FM.mean NR.sets NR.clears NR.raised NR.active NR.observe NR.fires NR.counted NP.motion_output NP.threshold_output NP.output NP.enables_motion NP.verifying_motion NP.candidate NP.verifying NS.configure NS.restart_acquisition NS.reset NS.axis NS.moved NS.moves NS.count_motion NS.qualifies NS.alerts NS.detects NS.decide NS.observation NS.cycle NS.shorten NS.lapsed NS.ended NS.millisecond IB.data_moves IB.edge IB.is_condition IB.is_start IB.is_rise IB.is_fall IB.data_at IE.conditioned IE.acknowledging IE.within_byte IE.pointer_after IE.bit_taken IE.byte_step IE.at_ninth IE.followed IE.acknowledge_step IE.answered IE.answer IE.answer_step IE.ninth_step IE.addressed IE.received IE.completes IE.completed IE.step IE.uses_as IE.uses_at_rise IE.reads_next IE.goes_on IE.uses_at_fall IE.consumes_conversion Ra.unwritable Ra.working Ra.stored Ra.image_blocks Ra.sleep_blocks Ra.locked Ra.ignores Ra.begins Ra.unreadable Ra.withheld RC.clamped RC.signed_ten RC.range_g RC.code RC.temperature DD.is_set DD.is_at DD.is_by DD.sooner DD.unless_at DD.later DD.first DD.earliest CW.written_control CW.written_register CW.kind_of_write CW.self_test CW.sleep CA.holds CA.pauses_again CA.may_pause CL.acquisition_cycles SF.differs SF.select SF.reads SF.first_bit SF.addressed SF.completed SF.take_bit SF.moves SF.fetches SF.shifts SF.bit_drive SF.level SF.next_bit SF.moved SF.consumes_at_rise SF.consumes_at_fall RR.is_acceleration RR.is_shadowed RR.pair RR.high_byte RR.prepared RR.began RR.sent_byte_read SP.converted SP.all_new SP.ready SP.interval SP.observing SP.observed SP.scanned SP.test_counted SP.axis_phase SP.sample_phase SP.ticks_now SP.ticked SP.sample BR.away BR.cold_of BR.runs BR.tests Bi.cell_byte Bi.with_cell Bi.image_at Bi.shadowing BC.pause_end BC.shows_new_data BC.interrupt BC.pause_restarted BC.interrupt_held BC.pause_if_idle BC.automatic_control BC.reset_time BG.shown BG.peek BG.mark BG.mark_of BG.fetched BG.counts_as_read BG.byte_read BW.recounted BW.interrupts_written BW.tested BW.slept BW.image_written BW.mode_written BW.register_effect BW.write_effect BS.samples_run BS.next_sample BS.write_end BS.sample_due BS.next_deadline BS.limit BS.caught_up BS.samples_on_demand BS.sync_local_until BL.selected_to BL.may_select BE.moved BE.first_bit_taken BE.write_done BE.spi_listens BE.rising_effect BE.rise_synced BE.fall_synced BE.falling_effect BP.i2c_listens BP.ones_for BP.acted BP.i2c_pins BP.pins_synced BO.spi_drives BO.output BO.i2c_holds BO.data_output BU.cut BU.turned ST.hold ST.turned BU.zero_while_off BU.reacquired BU.returned BU.supply_low BU.supply_ok BU.set_supply BD.pause_ended BD.write_ended BD.image_ended BD.wake_ended BD.sample_ended BD.verifies TF.timed_facts TF.facts T.refusal_number T.number T.wrong_length T.beyond T.any_beyond T.out_of_range T.jumps T.late T.too_late T.goes_back T.due_by T.before_due T.due_at T.beside_due T.first_found T.refusal T.reserved T.turned_down T.start_refusal T.unless_refused C.after_start C.reported C.put_in C.effect C.timed_adds C.leaves C.adds BV.drive_letter BV.report_values BV.view_value BV.mark_letter RD.spi_write RD.action_write RD.i2c_write RD.timed_does RD.does RL.after RL.answers RL.accepted RL.zeroed RL.met_zero RL.last_kept RB.operation RB.completing RB.cutting RB.supplied RB.runs RB.accepted_write RB.of_write RB.began RB.changed_at RB.entered RB.booked BB.timed_event BB.event BB.events BB.is_reset BB.resets BB.timed_ends BB.ends BB.some_accepted IT.and_edge IT.clocked BX.timed_edge BX.edge_of BX.and_some BX.edges BX.write_resets BX.timed_leaves BX.leaves_frame SL.levels
computed = record {
  of_extremes = record { start_accepted = refl; supply_accepted = refl; from_zero = refl; cells = refl };
  accepts_extremes = refl;
  of_i2c = record { start_accepted = refl; supply_accepted = refl; from_zero = refl; cells = refl };
  of_brown_out = record { start_accepted = refl; supply_accepted = refl; from_zero = refl; cells = refl };
  of_twice = record { start_accepted = refl; supply_accepted = refl; from_zero = refl; cells = refl };
  of_two = record { start_accepted = refl; supply_accepted = refl; from_zero = refl; cells = refl };
  of_other = record { start_accepted = refl; supply_accepted = refl; from_zero = refl; cells = refl };
  of_storing = record { start_accepted = refl; supply_accepted = refl; from_zero = refl; cells = refl };
  of_stored = record { start_accepted = refl; supply_accepted = refl; from_zero = refl; cells = refl };
  reserved_kept = refl;
  same_kept = refl;
  of_reported_on = record { start_accepted = refl; supply_accepted = refl; from_zero = refl; cells = refl };
  of_reported_off = record { start_accepted = refl; supply_accepted = refl; from_zero = refl; cells = refl };
  of_unreported = record { start_accepted = refl; supply_accepted = refl; from_zero = refl; cells = refl };
  same_lines = refl;
  same_input = refl;
  jumps_then = refl;
  follows_then = refl;
  i2c_so_far = record {
    start_accepted = refl;
    fractions = i2c_fractions;
    heard = record { on = refl; ready = refl; unselected = refl; at_rest = refl; loud = refl };
    still_heard = refl;
    register_byte = lit< tt;
    value_byte = lit< tt;
    address_acknowledged = false;
    register_acknowledged = false;
    brings = refl;
    now = time 0;
    before = lines false true;
    next = lines true true;
    fraction = lit< tt;
    last_bit = refl;
    last_accepted = refl;
  };
  i2c_begins = refl;
  spi_so_far = record {
    start_accepted = refl;
    fractions = spi_fractions;
    chosen = record { on = refl; ready = refl; loud = refl; selected = refl };
    still_chosen = refl;
    frame_begins = refl;
    address_byte = lit< tt;
    value_byte = lit< tt;
    brings = refl;
    now = time 0;
    fraction = lit< tt;
    last_accepted = refl;
  };
  spi_begins = refl;
}

-- ---- the code has such runs

comes : (b : Start) (cs : List Call) (now : Time) (rail : ℕ) (bytes : List ℕ) → Fractions cs → leb 2400 rail ≡ true → Comes b cs now rail bytes → Returns b cs now rail
comes b cs now rail bytes g up h =
    record { fractions = g; start_accepted = h.start_accepted; supply_accepted = h.supply_accepted; with_supply = up; from_zero = h.from_zero }

comes_back : (b : Start) (cs : List Call) (now : Time) (rail : ℕ) (bytes : List ℕ) → Good cs → leb 2400 rail ≡ true → Comes b cs now rail bytes → Returned b cs now bytes
comes_back b cs now rail bytes g up h = returned b cs now rail bytes (comes b cs now rail bytes g.good up h) h.cells

extremes_good : Good extremes
extremes_good =
    record { good = (tt, (tt, (tt, (lit< tt, (tt, (lit< tt, (tt, (tt, (tt, (tt, (tt, (tt, (tt, (tt, (tt, (tt, (tt, (tt, (tt, (lit< tt, (tt, (lit< tt, tt)))))))))))))))))))))) }

pub extremes_return : Returned stock_start extremes limit stock
extremes_return = comes_back stock_start extremes limit 65535 stock extremes_good refl computed.of_extremes

i2c_good : Good over_i2c
i2c_good =
    let small : (time 0).1 < 2 ^ 64 = lit< tt in
    let o : Good (due completion ∷ supply completion 0 ∷ []) = record { good = (tt, (tt, tt)) } in
    start_good (time 0) small
    (byte_good (time 0) small 0x70
    (byte_good (time 0) small 0x0a
    (byte_good (time 0) small 0x10 (byte_good (time 0) small 0x2c (byte_good (time 0) small 0xff (byte_good (time 0) small 0x0a (byte_good (time 0) small 0x11 o)))))))

pub i2c_returns : Returned stock_start over_i2c completion (image_with 255 150)
i2c_returns = comes_back stock_start over_i2c completion 3000 (image_with 255 150) i2c_good refl computed.of_i2c

pub brown_out_returns : Returned stock_start browned_out quarter (image_with 4 150)
brown_out_returns =
    let o : Good (supply quarter 1 ∷ supply quarter 0 ∷ []) = record { good = (tt, (tt, tt)) } in
    comes_back stock_start browned_out quarter 3000 (image_with 4 150) (writing_good o) refl computed.of_brown_out

pub twice_returns : Returned stock_start twice second_end (image_with 0x55 150)
twice_returns =
    let small : completion.1 < 2 ^ 64 = lit< tt in
    let o : Good (due second_end ∷ supply second_end 0 ∷ []) = record { good = (tt, (tt, tt)) } in
    let f = frame_good completion small 0x0a 0x10 (frame_good completion small 0x2c 0x55 (frame_good completion small 0x0a 0x11 o)) in
    let g : Good again = record { good = (tt, f.good) } in
    comes_back stock_start twice second_end 3000 (image_with 0x55 150) (writing_good g) refl computed.of_twice

two_good : Good two_writes
two_good =
    let small : (time 0).1 < 2 ^ 64 = lit< tt in
    let fits : completion.1 < 2 ^ 64 = lit< tt in
    let o : Good (supply cut 0 ∷ []) = record { good = (tt, tt) } in
    let s = frame_good completion fits 0x0a 0x10 (frame_good completion fits 0x2d 0x69 (frame_good completion fits 0x0a 0x11 o)) in
    let d : Good (due completion ∷ second_write) = record { good = (tt, s.good) } in
    let f = frame_good (time 0) small 0x2e 0x55 (frame_good (time 0) small 0x0a 0x11 d) in
    let r : Good (supply refusal 0 ∷ frame (time 0) 0x2e 0x55 (frame (time 0) 0x0a 0x11 (due completion ∷ second_write))) = record { good = (tt, f.good) } in
    let w = frame_good (time 0) small 0x0a 0x10 (frame_good (time 0) small 0x2c 0xff r) in
    record { good = (tt, w.good) }

pub two_return : Returned stock_start two_writes return (image_with 255 2)
two_return = comes_back stock_start two_writes return 3000 (image_with 255 2) two_good refl computed.of_two

pub other_returns : Returned other_start no_write return (image_with 255 2)
other_returns =
    let g : Good no_write = record { good = (tt, tt) } in
    comes_back other_start no_write return 2400 (image_with 255 2) g refl computed.of_other

-- two starts at two times, two lists, two voltages: every further list has the same answers
pub same_answers : (further : List Call) {x y : Bma150} {f g : List Answer} → Run functions two_return.back.back further f x → Run functions other_returns.back.back further g y → f ≡ g
same_answers further =
    demand_3.same two_return.ran other_returns.ran two_return.fits other_returns.fits two_return.back other_returns.back
    (ap (λ (l : List Call). last_kept new_kept l) (accepted_are two_return.ran) ∙ computed.same_kept ∙ sym (ap (λ (l : List Call). last_kept new_kept l) (accepted_are other_returns.ran))) further

-- a start by command 01 that stores both reserved codes, and a start by command 0c with the bytes that it leaves: the same answers
storing_good : Good storing
storing_good =
    let o : Good (due completion ∷ supply completion 0 ∷ []) = record { good = (tt, (tt, tt)) } in
    let h = frame_good (time 0) (lit< tt) 0x0a 0x10 (frame_good (time 0) (lit< tt) 0x34 0x1f (frame_good (time 0) (lit< tt) 0x0a 0x11 o)) in
    record { good = (tt, h.good) }

pub storing_returns : Returned stock_start storing completion reserved_image
storing_returns = comes_back stock_start storing completion 3000 reserved_image storing_good refl computed.of_storing

pub stored_returns : Returned stored_start only_zero completion reserved_image
stored_returns = comes_back stored_start only_zero completion 2400 reserved_image (record { good = (tt, tt) }) refl computed.of_stored

pub same_by_either : (further : List Call) {x y : Bma150} {f g : List Answer} → Run functions storing_returns.back.back further f x → Run functions stored_returns.back.back further g y → f ≡ g
same_by_either further =
    demand_3.same storing_returns.ran stored_returns.ran storing_returns.fits stored_returns.fits storing_returns.back stored_returns.back
    (ap (λ (l : List Call). last_kept new_kept l) (accepted_are storing_returns.ran) ∙ computed.reserved_kept ∙ sym (ap (λ (l : List Call). last_kept new_kept l) (accepted_are stored_returns.ran))) further

-- ---- the levels of the last report

small : (time 0).1 < 2 ^ 64
small = lit< tt

pub reported_on_returns : Returned stock_start reported_on (time 0) stock
reported_on_returns = comes_back stock_start reported_on (time 0) 3000 stock (record { good = (small, (tt, tt)) }) refl computed.of_reported_on

pub reported_off_returns : Returned stock_start reported_off (time 0) stock
reported_off_returns = comes_back stock_start reported_off (time 0) 3000 stock (record { good = (tt, (small, tt)) }) refl computed.of_reported_off

pub unreported_returns : Returned stock_start unreported (time 0) stock
unreported_returns = comes_back stock_start unreported (time 0) 3000 stock (record { good = (tt, tt) }) refl computed.of_unreported

-- reported with or without supply, they come back alike
pub same_reported : (further : List Call) {x y : Bma150} {f g : List Answer} → Run functions reported_on_returns.back.back further f x → Run functions reported_off_returns.back.back further g y → f ≡ g
same_reported further =
    demand_3.same reported_on_returns.ran reported_off_returns.ran reported_on_returns.fits reported_off_returns.fits reported_on_returns.back reported_off_returns.back
    (ap (λ (l : List Call). last_kept new_kept l) (accepted_are reported_on_returns.ran) ∙ computed.same_lines ∙ sym (ap (λ (l : List Call). last_kept new_kept l) (accepted_are reported_off_returns.ran))) further

-- `same` asks for equal levels because it must: these agree in the moment, the bytes, acceleration and temperature, and answer a START with 8 and with 0
pub record LinesNeeded : Type 0 where
  pub same_input : (kept stock_start reported_on).input ≡ (kept stock_start unreported).input
  pub same_bytes : stored_bytes stock_start reported_on (time 0) 3000 ≡ stored_bytes stock_start unreported (time 0) 3000
  pub jumps : number (left stock_start reported_on (time 0) 3000) start_report ≡ 8
  pub follows : number (left stock_start unreported (time 0) 3000) start_report ≡ 0

pub lines_needed : LinesNeeded
lines_needed = record {
  same_input = computed.same_input;
  same_bytes =
      claim.stored stock_start reported_on (time 0) 3000 (comes stock_start reported_on (time 0) 3000 stock (small, (tt, tt)) refl computed.of_reported_on)
      ∙ ap Added.put (computed.of_reported_on.cells ∙ sym computed.of_unreported.cells)
      ∙ sym (claim.stored stock_start unreported (time 0) 3000 (comes stock_start unreported (time 0) 3000 stock (tt, tt) refl computed.of_unreported));
  jumps = computed.jumps_then;
  follows = computed.follows_then;
}

-- ---- both lent calls, in a run

abbrev pin_call : Time → Call
pin_call now = Call.At now (Timed.Pins (record { scl = true; sda = true }) (record { scl = true; sda = false }))

pub lent_run : (s : Bma150) (now : Time) → (out : List Answer) × (t : Bma150) × Run functions s (due now ∷ pin_call now ∷ []) out t
lent_run s now =
    let d = lent_too.due s now in
    let p = lent_too.pins d.0 now (record { scl = true; sda = true }) (record { scl = true; sda = false }) in
    (_, _, Run.next (Serves.due_lent d.0 d.1 d.2 d.3 d.4) (Run.next (Serves.pins_lent p.0 p.1 p.2 p.3 p.4) Run.empty))

-- it answers as a run by value does, and leaves the same sensor
pub lent_alike : (s : Bma150) (now : Time) {f : List Answer} {x : Bma150} → Run functions s (due now ∷ pin_call now ∷ []) f x → ((lent_run s now).0 ≡ f) × ((lent_run s now).1 ≡ x)
lent_alike s now r = demand_3.alike (lent_run s now).2 r
