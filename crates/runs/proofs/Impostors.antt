-- Hosts that are wrong, each in one thing; demand 3 does not hold of them. They try the statement as must-fail edits try the code: one with fewer lists, fewer answers or less to say does not refuse them.
use Rattle.std.specs.Prelude.{Option, Some}
use Rattle.std.specs.Prelude.{None}
use Prim.Native.Nat.{ℕ, ◌+◌, ◌/◌, ◌^◌, ◌<◌}
use native.Mathlib.Omega.{arith}
use mathlib.Core.Path.{◌≡◌, refl, sym, ap, ◌∙◌}
use mathlib.Core.Bool.{true, false}
use mathlib.Core.List.{List, [], ◌∷◌}
use lib.Dec.{lit<, lit≤}
use lib.IntN.{pos}
use lib.ListN.{get_or}
use Rattle.time.specs.declared.Time.{Time}
use Rattle.time.specs.Time.{time}
use Rattle.i2c.specs.declared.types.State.{State}
use Rattle.calls.specs.declared.types.Timed.{Timed}
use Rattle.calls.specs.declared.types.Call.{Call}
use Rattle.sensor.specs.Record.{with_i2c, with_nonvolatile}
use Rattle.sensor.specs.Image.{stock, new_kept}
use Rattle.samples.specs.Samples.{interaction_deadline}
use Rattle.bma150.specs.declared.host.Bma150.{Bma150}
use Rattle.bma150.specs.Values.{drive_letter}
use Rattle.bma150.specs.Called.{Acts, acts, Added, number, leaves, adds, called, start_number, interrupt, output, data_output}
use Rattle.book.specs.Lists.{Answer, step, Start, started, met_zero, last_kept}
use Rattle.book.specs.Book.{opened, booked}
use Rattle.book.specs.Claim.{ending}
use Rattle.runs.specs.Demand3.{Host, Run, Ran, accepted_calls, Back, Demand3}
use Rattle.runs.proofs.Functions.{start_answer}
use Rattle.runs.proofs.Scripts.{supply, due, frame, start, byte, released, Good, frame_good, start_good, byte_good, released_good, stock_start, completion, quarter, too_late, first_due, live, writing, writing_good}
use Rattle.laws.specs.Bytes as LB
use Rattle.laws.specs.Iterate as LI
use Rattle.nv.specs.Cell as NC
use Rattle.filter.specs.Filter as FF
use Rattle.filter.specs.Mean as FM
use Rattle.interrupts.specs.Criteria as NR
use Rattle.interrupts.specs.Pin as NP
use Rattle.interrupts.specs.State as NS
use Rattle.i2c.specs.Bus as IB
use Rattle.i2c.specs.Engine as IE
use Rattle.registers.specs.Access as Ra
use Rattle.registers.specs.Codes as RC
use Rattle.deadlines.specs.Deadlines as DD
use Rattle.control.specs.Kinds as CW
use Rattle.control.specs.Automatic as CA
use Rattle.control.specs.Lengths as CL
use Rattle.spi.specs.Frame as SF
use Rattle.reads.specs.Reads as RR
use Rattle.sampling.specs.Phase as SP
use Rattle.sensor.specs.Record as BR
use Rattle.sensor.specs.Image as Bi
use Rattle.sensor.specs.Mode as BC
use Rattle.sensor.specs.RegisterReads as BG
use Rattle.writes.specs.Write as BW
use Rattle.samples.specs.Samples as BS
use Rattle.sensor.specs.Select as BL
use Rattle.serial.specs.SpiEdges as BE
use Rattle.serial.specs.I2cPins as BP
use Rattle.serial.specs.Outputs as BO
use Rattle.analog.specs.Round as AR
use Rattle.analog.specs.Decay as AD
use Rattle.analog.specs.Axis as AX
use Rattle.sampling.specs.Stage as ST
use Rattle.waits.specs.Supply as BU
use Rattle.waits.specs.Due as BD
use Rattle.calls.specs.Facts as TF
use Rattle.calls.specs.Table as T
use Rattle.bma150.specs.Called as C
use Rattle.bma150.specs.Values as BV
use Rattle.book.specs.Does as RD
use Rattle.book.specs.Lists as RL
use Rattle.book.specs.Book as RB

-- ---- a host that begins as the definitions do and then answers by functions of its own

pub record Wrong : Type 1 where
  pub State : Type 0
  pub first : Start → State
  pub next : State → Call → State
  pub says : State → Call → Answer

abbrev pub host : Wrong → Host
host w = record { Sensor = w.State; begins = λ b s a. (s ≡ w.first b) × (a ≡ start_answer b); serves = λ s c t a. (t ≡ w.next s c) × (a ≡ w.says s c) }

unfoldable ends : (w : Wrong) → w.State → List Call → w.State
ends w s [] = s
ends w s (c ∷ cs) = ends w (w.next s c) cs

unfoldable outs : (w : Wrong) → w.State → List Call → List Answer
outs w s [] = []
outs w s (c ∷ cs) = w.says s c ∷ outs w (w.next s c) cs

goes : (w : Wrong) (s : w.State) (cs : List Call) → Run (host w) s cs (outs w s cs) (ends w s cs)
unfolding ends outs
goes w s [] = Run.empty
goes w s (c ∷ cs) = Run.next (refl, refl) (goes w (w.next s c) cs)

-- what is computed of a list that comes back at `now` with 3000 mV and these bytes
record Comes (w : Wrong) (cs : List Call) (now : Time) (bytes : List ℕ) : Type 0 where
  zero : met_zero false (accepted_calls cs (outs w (w.first stock_start) cs)) ≡ true
  accepted : (w.says (ends w (w.first stock_start) cs) (supply now 3000)).number ≡ 0
  put : (w.says (w.next (ends w (w.first stock_start) cs) (supply now 3000)) (Call.StoredImage now 19)).adds ≡ Added.put bytes

stock_accepted : start_number stock_start.by stock_start.time stock_start.image ≡ 0
unfolding T.reserved T.turned_down T.start_refusal T.first_found T.wrong_length T.too_late T.late
stock_accepted = refl

abbrev ran : (w : Wrong) (cs : List Call) → Ran (host w) stock_start cs
ran w cs = record {
  first = w.first stock_start;
  start = start_answer stock_start;
  begins = (refl, refl);
  accepted = stock_accepted;
  out = outs w (w.first stock_start) cs;
  last = ends w (w.first stock_start) cs;
  runs = goes w (w.first stock_start) cs;
}

abbrev back : (w : Wrong) (cs : List Call) (now : Time) (bytes : List ℕ) → Comes w cs now bytes → Back (ran w cs) now bytes
back w cs now bytes h = record {
  rail = 3000;
  on = lit≤ tt;
  zero = h.zero;
  back = w.next (ends w (w.first stock_start) cs) (supply now 3000);
  reply = w.says (ends w (w.first stock_start) cs) (supply now 3000);
  returns = (refl, refl);
  accepted = h.accepted;
  left = w.next (w.next (ends w (w.first stock_start) cs) (supply now 3000)) (Call.StoredImage now 19);
  image = w.says (w.next (ends w (w.first stock_start) cs) (supply now 3000)) (Call.StoredImage now 19);
  handed = (refl, refl);
  put = h.put;
}

-- ---- the hosts

-- an answer with what is seen of the sensor t
abbrev told : Bma150 → ℕ → Added → Answer
told t n a = record { number = n; interrupt = interrupt t; output = output t; data_output = data_output t; adds = a; next_due = interaction_deadline t.sensor }

-- one that leaves this sensor and answers as the definitions do, with what is seen of it
abbrev leaving : (Bma150 → Call → Bma150) → Wrong
leaving next = record { State = Bma150; first = started; next = next; says = λ s c. told (next s c) (number s c) (called s c).adds }

-- the stored bytes before the call stay
abbrev unstored : Bma150 → Bma150 → Bma150
unstored s t = record { sensor = with_nonvolatile t.sensor s.sensor.nonvolatile; last = t.last }

-- the image that it hands out is always the start's
pub record Remembered : Type 0 where
  pub sensor : Bma150
  pub image : List ℕ

unfoldable pub handing : (image : List ℕ) → Added → Added
handing image Added.nothing = Added.nothing
handing image (Added.report values) = Added.report values
handing image (Added.viewed value mark) = Added.viewed value mark
handing image (Added.put bytes) = Added.put image

abbrev pub image_of_the_start : Wrong
image_of_the_start = record {
  State = Remembered;
  first = λ b. record { sensor = started b; image = b.image };
  next = λ s c. record { sensor = step s.sensor c; image = s.image };
  says = λ s c. told (step s.sensor c) (number s.sensor c) (handing s.image (called s.sensor c).adds);
}

-- a write that completes stores nothing
unfoldable pub at_due : Bma150 → Bma150 → Acts → Bma150
at_due s t (Acts.timed now Timed.Due) = unstored s t
at_due s t _ = t

abbrev pub completes_nothing : Wrong
completes_nothing = leaving (λ s c. at_due s (step s c) (acts c))

-- what a supply call leaves is altered so
unfoldable pub at_supply : (Bma150 → Bma150 → Bma150) → Bma150 → Bma150 → Acts → Bma150
at_supply f s t (Acts.timed now (Timed.Supply rail)) = f s t
at_supply f s t _ = t

-- a write that is cut leaves its cell as it was
abbrev pub drops_cuts : Wrong
drops_cuts = leaving (λ s c. at_supply unstored s (step s c) (acts c))

-- a refused call acts on the sensor
abbrev pub refused_calls_act : Wrong
refused_calls_act = leaving (λ s c. record { sensor = (leaves s c).sensor; last = (step s c).last })

-- nothing is ever due
abbrev undue : Bma150 → Call → ℕ
undue s c = T.refusal s.last None s.sensor.kept.lines c

abbrev pub nothing_due : Wrong
nothing_due = record {
  State = Bma150;
  first = started;
  next = λ s c. T.unless_refused (undue s c) s (leaves s c);
  says = λ s c.
      let t = T.unless_refused (undue s c) s (leaves s c) in
      record { number = undue s c; interrupt = interrupt t; output = output t; data_output = data_output t; adds = T.unless_refused (undue s c) Added.nothing (adds s c); next_due = None };
}

-- the I2C pointer outlives a return
abbrev with_pointer : State → ℕ → State
with_pointer x p = record { phase = x.phase; pointer = p; bits = x.bits; shift = x.shift; low = x.low }

abbrev pub keeps_pointer : Wrong
keeps_pointer =
    leaving (λ s c. at_supply (λ s t. record { sensor = with_i2c t.sensor (with_pointer t.sensor.i2c s.sensor.i2c.pointer); last = t.last }) s (step s c) (acts c))

-- every call is refused
abbrev pub refuses_everything : Wrong
refuses_everything = record { State = Bma150; first = started; next = λ s c. s; says = λ s c. told s 6 Added.nothing }

-- a view shows how many calls there were
pub record Counted : Type 0 where
  pub sensor : Bma150
  pub calls : ℕ

unfoldable pub counting : ℕ → Added → Added
counting n Added.nothing = Added.nothing
counting n (Added.report values) = Added.report values
counting n (Added.viewed value mark) = Added.viewed (Some n) mark
counting n (Added.put bytes) = Added.put bytes

abbrev pub answers_by_a_counter : Wrong
answers_by_a_counter = record {
  State = Counted;
  first = λ b. record { sensor = started b; calls = 0 };
  next = λ s c. record { sensor = step s.sensor c; calls = s.calls + 1 };
  says = λ s c. told (step s.sensor c) (number s.sensor c) (counting s.calls (called s.sensor c).adds);
}

-- ---- the lists

-- the write of 2c completes; it is cut by 0 mV; a supply call that is refused comes before the cut
abbrev completing : List Call
completing = writing (due completion ∷ supply completion 0 ∷ [])

abbrev cutting : List Call
cutting = writing (supply quarter 0 ∷ [])

abbrev cutting_twice : List Call
cutting_twice = writing (supply too_late 0 ∷ supply quarter 0 ∷ [])

-- the sensor stays awake, so that a sample is due before 0 mV
abbrev later : Time
later = time (2 ^ 64 / 100)

abbrev awake : List Call
awake = Call.Select true ∷ frame (time 0) 0x0a 0x10 (frame (time 0) 0x2c 0xff (supply later 0 ∷ []))

-- 0 mV alone; after an acceleration that is refused; after a write of the I2C pointer, the lines high again; after another call
abbrev off : List Call
off = supply (time 0) 0 ∷ []

abbrev accelerated : List Call
accelerated = Call.At too_late (Timed.Accelerations (record { x = pos 1000000000; y = pos 0; z = pos 0 })) ∷ off

abbrev pointed : List Call
pointed = start (time 0) (byte (time 0) 0x70 (byte (time 0) 0x0d (released (time 0) off)))

abbrev selected : List Call
selected = Call.Select false ∷ off

-- and on from a return at 0: the samples and a view of the first axis; the I2C address to read from
abbrev sampling : List Call
sampling = due first_due ∷ due live ∷ Call.View 3 ∷ []

abbrev reading : List Call
reading = due first_due ∷ due live ∷ start live (byte live 0x71 [])

abbrev viewing : List Call
viewing = Call.View 0 ∷ []

-- the stock image with this byte in 2c
abbrev image_with : ℕ → List ℕ
image_with b = 3 ∷ b ∷ 150 ∷ 160 ∷ 150 ∷ 0 ∷ 0 ∷ 162 ∷ 13 ∷ 14 ∷ 128 ∷ 0 ∷ 0 ∷ 0 ∷ 0 ∷ 128 ∷ 128 ∷ 128 ∷ 0 ∷ []

-- ---- computed

-- the byte of 2c in the book, after a list that comes back at `now`
abbrev booked_byte : List Call → Time → ℕ
booked_byte cs now = get_or (booked (opened stock_start) (ending cs now 3000)).cells 1 0

-- what the answers to a further list end in
unfoldable last_answer : List Answer → Option Answer
last_answer [] = None
last_answer (a ∷ []) = Some a
last_answer (a ∷ b ∷ l) = last_answer (b ∷ l)

abbrev shown : Option Answer → Added
shown None = Added.nothing
shown (Some a) = a.adds

abbrev letter : Option Answer → ℕ
letter None = 0
letter (Some a) = drive_letter a.data_output

abbrev viewed : Added → ℕ
viewed Added.nothing = 0
viewed (Added.report values) = 0
viewed (Added.viewed None mark) = 0
viewed (Added.viewed (Some b) mark) = b
viewed (Added.put bytes) = 0

-- the answers of a wrong host to a further list, after the list cs and a return at 0
abbrev further : (w : Wrong) → List Call → List Call → List Answer
further w cs on = outs w (w.next (ends w (w.first stock_start) cs) (supply (time 0) 3000)) on

record Computed : Type 0 where
  remembers : Comes image_of_the_start completing completion stock
  stores_nothing : Comes completes_nothing completing completion stock
  book_completes : booked_byte completing completion ≡ 0xff
  drops : Comes drops_cuts cutting quarter stock
  book_cuts : booked_byte cutting quarter ≡ 0x04
  acts : Comes refused_calls_act cutting_twice quarter (image_with 0xff)
  book_refuses : booked_byte cutting_twice quarter ≡ 0x04
  undue_cuts : Comes nothing_due awake later (image_with 0x04)
  book_waits : booked_byte awake later ≡ 20
  comes_off : Comes refused_calls_act off (time 0) stock
  comes_accelerated : Comes refused_calls_act accelerated (time 0) stock
  same_kept : last_kept new_kept (accepted_calls off (outs refused_calls_act (started stock_start) off)) ≡ last_kept new_kept (accepted_calls accelerated (outs refused_calls_act (started stock_start) accelerated))
  at_rest : viewed (shown (last_answer (further refused_calls_act off sampling))) ≡ 0
  at_a_thousand : viewed (shown (last_answer (further refused_calls_act accelerated sampling))) ≡ 0x7f
  pointer_off : Comes keeps_pointer off (time 0) stock
  pointer_set : Comes keeps_pointer pointed (time 0) stock
  pointer_kept : last_kept new_kept (accepted_calls off (outs keeps_pointer (started stock_start) off)) ≡ last_kept new_kept (accepted_calls pointed (outs keeps_pointer (started stock_start) pointed))
  reads_chip_id : letter (last_answer (further keeps_pointer off reading)) ≡ 76
  reads_elsewhere : letter (last_answer (further keeps_pointer pointed reading)) ≡ 70
  counter_off : Comes answers_by_a_counter off (time 0) stock
  counter_on : Comes answers_by_a_counter selected (time 0) stock
  counter_kept : last_kept new_kept (accepted_calls off (outs answers_by_a_counter (answers_by_a_counter.first stock_start) off)) ≡ last_kept new_kept (accepted_calls selected (outs answers_by_a_counter (answers_by_a_counter.first stock_start) selected))
  counts_two : viewed (shown (last_answer (further answers_by_a_counter off viewing))) ≡ 2
  counts_three : viewed (shown (last_answer (further answers_by_a_counter selected viewing))) ≡ 3
  view_accepted : T.refusal (time 0) (start_answer stock_start).next_due new_kept.lines (Call.View 0) ≡ 0

computed : Computed
unfolding LB.all_shifted_in LI.iterate NC.mixed NC.low_half NC.threshold NC.crossing NC.bits_where NC.byte FF.pushed FF.full FF.answered FM.tabulate FM.ring FM.sumZ FM.mean NR.sets NR.clears NR.raised NR.active NR.observe NR.fires NR.counted NP.motion_output NP.threshold_output NP.output NP.enables_motion NP.verifying_motion NP.candidate NP.verifying NS.configure NS.restart_acquisition NS.reset NS.axis NS.moved NS.moves NS.count_motion NS.qualifies NS.alerts NS.detects NS.decide NS.observation NS.cycle NS.shorten NS.lapsed NS.ended NS.millisecond IB.data_moves IB.edge IB.is_condition IB.is_start IB.is_rise IB.is_fall IB.data_at IE.conditioned IE.acknowledging IE.within_byte IE.pointer_after IE.bit_taken IE.byte_step IE.at_ninth IE.followed IE.acknowledge_step IE.answered IE.answer IE.answer_step IE.ninth_step IE.addressed IE.received IE.completes IE.completed IE.step IE.uses_as IE.uses_at_rise IE.reads_next IE.goes_on IE.uses_at_fall IE.consumes_conversion Ra.unwritable Ra.working Ra.stored Ra.image_blocks Ra.sleep_blocks Ra.locked Ra.ignores Ra.begins Ra.unreadable Ra.withheld RC.clamped RC.signed_ten RC.range_g RC.code RC.temperature DD.is_set DD.is_at DD.is_by DD.sooner DD.unless_at DD.later DD.first DD.earliest CW.written_control CW.written_register CW.kind_of_write CW.self_test CW.sleep CA.holds CA.pauses_again CA.may_pause CL.acquisition_cycles SF.differs SF.select SF.reads SF.first_bit SF.addressed SF.completed SF.take_bit SF.moves SF.fetches SF.shifts SF.bit_drive SF.level SF.next_bit SF.moved SF.consumes_at_rise SF.consumes_at_fall RR.is_acceleration RR.is_shadowed RR.pair RR.high_byte RR.prepared RR.began RR.sent_byte_read SP.converted SP.all_new SP.ready SP.interval SP.observing SP.observed SP.scanned SP.test_counted SP.axis_phase SP.sample_phase SP.ticks_now SP.ticked SP.sample BR.away BR.cold_of BR.runs BR.tests Bi.cell_byte Bi.with_cell Bi.image_at Bi.shadowing BC.pause_end BC.shows_new_data BC.interrupt BC.pause_restarted BC.interrupt_held BC.pause_if_idle BC.automatic_control BC.reset_time BG.shown BG.peek BG.mark BG.mark_of BG.fetched BG.counts_as_read BG.byte_read BW.recounted BW.interrupts_written BW.tested BW.slept BW.image_written BW.mode_written BW.register_effect BW.write_effect BS.samples_run BS.next_sample BS.write_end BS.sample_due BS.next_deadline BS.limit BS.caught_up BS.samples_on_demand BS.sync_local_until BL.selected_to BL.may_select BE.moved BE.first_bit_taken BE.write_done BE.spi_listens BE.rising_effect BE.rise_synced BE.fall_synced BE.falling_effect BP.i2c_listens BP.ones_for BP.acted BP.i2c_pins BP.pins_synced BO.spi_drives BO.output BO.i2c_holds BO.data_output BU.cut BU.turned ST.hold ST.turned AR.round AR.bits_64 AR.signed_64 AD.term AD.terms AD.squared AD.reduced AD.decay AD.factors AX.stepped AX.advanced AX.value AX.hold AX.turned AX.all_turned AX.axis_of AX.with_axis BU.zero_while_off BU.reacquired BU.returned BU.supply_low BU.supply_ok BU.set_supply BD.pause_ended BD.write_ended BD.image_ended BD.wake_ended BD.sample_ended BD.verifies TF.timed_facts TF.facts T.refusal_number T.number T.wrong_length T.beyond T.any_beyond T.out_of_range T.jumps T.late T.too_late T.goes_back T.due_by T.before_due T.due_at T.beside_due T.first_found T.refusal T.reserved T.turned_down T.start_refusal T.unless_refused C.after_start C.reported C.put_in C.effect C.timed_adds C.leaves C.adds BV.drive_letter BV.report_values BV.view_value BV.mark_letter RD.spi_write RD.action_write RD.i2c_write RD.timed_does RD.does RL.after RL.answers RL.accepted RL.zeroed RL.met_zero RL.last_kept RB.operation RB.completing RB.cutting RB.supplied RB.runs RB.accepted_write RB.of_write RB.began RB.changed_at RB.entered RB.booked accepted_calls ends outs handing at_due at_supply counting last_answer
computed = record {
  remembers = record { zero = refl; accepted = refl; put = refl };
  stores_nothing = record { zero = refl; accepted = refl; put = refl };
  book_completes = refl;
  drops = record { zero = refl; accepted = refl; put = refl };
  book_cuts = refl;
  acts = record { zero = refl; accepted = refl; put = refl };
  book_refuses = refl;
  undue_cuts = record { zero = refl; accepted = refl; put = refl };
  book_waits = refl;
  comes_off = record { zero = refl; accepted = refl; put = refl };
  comes_accelerated = record { zero = refl; accepted = refl; put = refl };
  same_kept = refl;
  at_rest = refl;
  at_a_thousand = refl;
  pointer_off = record { zero = refl; accepted = refl; put = refl };
  pointer_set = record { zero = refl; accepted = refl; put = refl };
  pointer_kept = refl;
  reads_chip_id = refl;
  reads_elsewhere = refl;
  counter_off = record { zero = refl; accepted = refl; put = refl };
  counter_on = record { zero = refl; accepted = refl; put = refl };
  counter_kept = refl;
  counts_two = refl;
  counts_three = refl;
  view_accepted = refl;
}

-- ---- none of them meets demand 3

differ : (m n : ℕ) → (m < n) → m ≡ n → ⊥
differ m n l e = omega arith

-- the book's byte is another than the one handed out
not_stored : (w : Wrong) (cs : List Call) (now : Time) (bytes : List ℕ) → Good cs → Comes w cs now bytes → Demand3 (host w) → get_or bytes 1 0 ≡ booked_byte cs now
not_stored w cs now bytes g h d = ap (λ (l : List ℕ). get_or l 1 0) (d.stored (ran w cs) g.good (back w cs now bytes h))

pub image_of_the_start_refused : Demand3 (host image_of_the_start) → ⊥
image_of_the_start_refused d =
    differ 20 0xff (lit< tt)
    (not_stored image_of_the_start completing completion stock (writing_good (record { good = (tt, (tt, tt)) })) computed.remembers d ∙ computed.book_completes)

pub completes_nothing_refused : Demand3 (host completes_nothing) → ⊥
completes_nothing_refused d =
    differ 20 0xff (lit< tt)
    (not_stored completes_nothing completing completion stock (writing_good (record { good = (tt, (tt, tt)) })) computed.stores_nothing d ∙ computed.book_completes)

pub drops_cuts_refused : Demand3 (host drops_cuts) → ⊥
drops_cuts_refused d =
    differ 0x04 20 (lit< tt)
    (sym (not_stored drops_cuts cutting quarter stock (writing_good (record { good = (tt, tt) })) computed.drops d ∙ computed.book_cuts))

pub refused_calls_act_refused : Demand3 (host refused_calls_act) → ⊥
refused_calls_act_refused d =
    differ 0x04 0xff (lit< tt)
    (sym (not_stored refused_calls_act cutting_twice quarter (image_with 0xff) (writing_good (record { good = (tt, (tt, tt)) })) computed.acts d ∙ computed.book_refuses))

pub nothing_due_refused : Demand3 (host nothing_due) → ⊥
nothing_due_refused d =
    let o : Good (supply later 0 ∷ []) = record { good = (tt, tt) } in
    let g = frame_good (time 0) (lit< tt) 0x0a 0x10 (frame_good (time 0) (lit< tt) 0x2c 0xff o) in
    differ 0x04 20 (lit< tt) (not_stored nothing_due awake later (image_with 0x04) (record { good = (tt, g.good) }) computed.undue_cuts d ∙ computed.book_waits)

-- two that come back alike at 0 and answer a further list differently
not_same : (w : Wrong) (cs on : List Call) → Good cs → Comes w off (time 0) stock → Comes w cs (time 0) stock
    → last_kept new_kept (accepted_calls off (outs w (w.first stock_start) off)) ≡ last_kept new_kept (accepted_calls cs (outs w (w.first stock_start) cs))
    → Demand3 (host w) → last_answer (further w off on) ≡ last_answer (further w cs on)
not_same w cs on g h k e d =
    ap last_answer (d.same (ran w off) (ran w cs) (tt, tt) g.good (back w off (time 0) stock h) (back w cs (time 0) stock k) e on (goes w _ on) (goes w _ on))

-- the second way in which a refused call may act: an acceleration that counts
pub refused_acceleration_refused : Demand3 (host refused_calls_act) → ⊥
refused_acceleration_refused d =
    let e = not_same refused_calls_act accelerated sampling (record { good = (tt, (tt, tt)) }) computed.comes_off computed.comes_accelerated computed.same_kept d in
    differ 0 0x7f (lit< tt) (sym computed.at_rest ∙ ap (λ (a : Option Answer). viewed (shown a)) e ∙ computed.at_a_thousand)

pub keeps_pointer_refused : Demand3 (host keeps_pointer) → ⊥
keeps_pointer_refused d =
    let o : Good off = record { good = (tt, tt) } in
    let g = start_good (time 0) (lit< tt) (byte_good (time 0) (lit< tt) 0x70 (byte_good (time 0) (lit< tt) 0x0d (released_good (time 0) (lit< tt) o))) in
    let e = not_same keeps_pointer pointed reading g computed.pointer_off computed.pointer_set computed.pointer_kept d in
    differ 70 76 (lit< tt) (sym (sym computed.reads_chip_id ∙ ap letter e ∙ computed.reads_elsewhere))

pub answers_by_a_counter_refused : Demand3 (host answers_by_a_counter) → ⊥
answers_by_a_counter_refused d =
    let e = not_same answers_by_a_counter selected viewing (record { good = (tt, (tt, tt)) }) computed.counter_off computed.counter_on computed.counter_kept d in
    differ 2 3 (lit< tt) (sym computed.counts_two ∙ ap (λ (a : Option Answer). viewed (shown a)) e ∙ computed.counts_three)

pub refuses_everything_refused : Demand3 (host refuses_everything) → ⊥
unfolding outs
refuses_everything_refused d = differ 0 6 (lit< tt) (sym ((d.refused (ran refuses_everything viewing)).0 ∙ computed.view_accepted))

-- one that does not answer: nothing it serves is a run
abbrev pub answers_nothing : Host
answers_nothing = record { Sensor = Bma150; begins = λ b s a. (s ≡ started b) × (a ≡ start_answer b); serves = λ s c t a. ⊥ }

no_run : {s t : Bma150} {c : Call} {cs : List Call} {out : List Answer} → Run answers_nothing s (c ∷ cs) out t → ⊥
no_run (Run.next p q) = p

pub answers_nothing_refused : Demand3 answers_nothing → ⊥
answers_nothing_refused d = no_run (d.goes_on (started stock_start) viewing).2
