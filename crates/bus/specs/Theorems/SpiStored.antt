-- Stored writes over SPI: fifteen rises, an address byte and seven bits of a value, begin nothing; the sixteenth begins a stored write exactly where 01's rule holds. Any falls may stand between.
use Rattle.std.specs.Prelude.{ℕ, ◌<◌, ◌≡◌, Bool, true, false, List, [], ◌∷◌, ◌++◌, if◌then◌else◌, Option, Some, None}
use Rattle.std.proofs.Math.Path.{refl, ap}
use Rattle.std.proofs.Common.{◌∙◌}
use Rattle.laws.specs.Bytes.{sent_bit, all_shifted_in, seven_bits, bits_make_the_byte}
use Rattle.time.specs.declared.Time.{Time}
use Rattle.registers.specs.Access.{begins}
use Rattle.spi.specs.declared.types.Serial.TheVariants as S
use Rattle.spi.specs.declared.types.Frame.{Frame}
use Rattle.spi.specs.declared.types.Taken.{Taken}
use Rattle.spi.specs.declared.types.Shift.{Shift}
use Rattle.spi.specs.declared.types.Shift.TheVariants as H
use Rattle.spi.specs.Frame as F
use Rattle.spi.specs.Lines.{past_end, seen, Seen}
use Rattle.spi.proofs.Theorems.Frames.{receiving}
use Rattle.calls.specs.declared.types.Timed.TheVariants as Timed
use Rattle.calls.specs.declared.types.Call.{Call}
use Rattle.sensor.specs.declared.types.Sensor.{Sensor}
use Rattle.sensor.specs.RegisterReads as R
use Rattle.sensor.specs.Record.{with_frame, gate, is_writing, four_wire}
use Rattle.samples.specs.Samples.{sync_local_until}
use Rattle.writes.specs.Write.{write_register}
use Rattle.serial.specs.SpiEdges as E
use Rattle.bma150.specs.declared.host.Bma150.{Bma150}
use Rattle.bma150.specs.Called.{effect, leaves}
use Rattle.book.specs.Does.{at_rise, timed_does, does}
use Rattle.book.specs.Lists.{accepts, step, after, accepted}
use Rattle.bus.specs.I2c.{sampled}
use Rattle.bus.specs.Spi.{Chosen, edges, left_frame, seen_edges, nows}
use Rattle.bus.specs.Writes.{asked, edge_writes}
use Rattle.bus.specs.Theorems.Calls.{accepted_leaves}
use Rattle.bus.specs.Theorems.Fading.{floating_exact}
use Rattle.bus.specs.Theorems.Stored.{running, write_begins}
use Rattle.bus.specs.Theorems.SpiEdges.{chosen}
use Rattle.bus.specs.Theorems.SpiRises.{clocks}
use Rattle.bus.specs.Theorems.SpiCalls.{rise_faded, rise_met, rise_write}
use Rattle.bus.specs.Theorems.SpiFrames.{stays_chosen}
use Rattle.bus.specs.Theorems.SpiTransfers.{floating, rise_meets}
use Rattle.bus.specs.Theorems.SpiAsked.{edges_asked}
use Rattle.bus.specs.Theorems.SpiFalls.{levels, Passes, frame_passes}

-- the levels at the rises of an address byte and of seven bits of a value
abbrev pub all_but_the_last_bit : (register value : ℕ) → List Bool
all_but_the_last_bit a x = seven_bits a ++ (sent_bit a 7 ∷ seven_bits x)

showing_writing : (v : Option ℕ) (t : Sensor) (r : ℕ) → (E.showing (R.fetched v t r)).writing ≡ t.writing
unfolding R.fetched
showing_writing None t r = refl
showing_writing (Some b) t r = refl

moved_writing : (sh : Shift) (t : Sensor) → (E.moved sh t).writing ≡ t.writing
unfolding E.moved
moved_writing H.Stay t = refl
moved_writing (H.Fetch r) t = showing_writing (R.peek t r) t r
moved_writing H.Next t = refl

-- the sensor after a rise's bit and its write, before its output moves
abbrev rise_done : Sensor → (mosi : Bool) (at : Time) → Sensor
rise_done m mosi at =
    let t = E.first_bit_taken (F.first_bit m.frame.serial m.frame.rx_bits) m in
    E.bit_done (F.take_bit t.frame mosi (four_wire t)) t at

-- within the value byte of a write no read begins, and the eighth bit writes
written_at : (m : Sensor) (mosi : Bool) (at : Time) (a x y : ℕ) → m.frame ≡ receiving (S.Write a) 7 y
    → ((w : Bool) → F.take_bit (receiving (S.Write a) 7 y) mosi w ≡ record { frame = F.fresh true; write = Some (a, x) })
    → rise_done m mosi at ≡ write_register (with_frame m (F.fresh true)) a x at
unfolding E.first_bit_taken F.first_bit E.write_done
written_at m mosi at a x y f w =
    let same : E.first_bit_taken (F.first_bit m.frame.serial m.frame.rx_bits) m ≡ m = ap (λ (g : Frame). E.first_bit_taken (F.first_bit g.serial g.rx_bits) m) f in
    ap (λ (t : Sensor). E.bit_done (F.take_bit t.frame mosi (four_wire t)) t at) same
    ∙ ap (λ (g : Frame). E.bit_done (F.take_bit g mosi (four_wire m)) m at) f
    ∙ ap (λ (k : Taken). E.bit_done k m at) (w (four_wire m))

module _ (s : Bma150) (cs : List Call) (h : Chosen s.sensor) (n : left_frame s cs ≡ false) (begun : s.sensor.frame ≡ F.fresh true) (a x : ℕ) (la : a < 128) (lx : x < 256)
    (e : levels (edges (accepted s cs)) ≡ all_but_the_last_bit a x) where
  abbrev so_far : ℕ
  so_far = all_shifted_in 0 (seven_bits x)

  passes : Passes (F.fresh true) (edges (accepted s cs)) (nows s cs) (receiving (S.Write a) 7 so_far)
  passes = frame_passes a x la (edges (accepted s cs)) (nows s cs) e

  abbrev course : List Seen
  course = seen (F.fresh true) (edges (accepted s cs)) (nows s cs)

  reached : (seen_edges s cs ≡ course) × ((after s cs).sensor.frame ≡ receiving (S.Write a) 7 so_far)
  reached =
      floating s cs h n begun (edges (accepted s cs)) course (receiving (S.Write a) 7 so_far) refl (record { is_seen = refl; is_left = passes.is_left }) passes.nothing.float

  -- nothing was written on the way
  pub nothing_earlier : asked s cs ≡ []
  nothing_earlier = edges_asked cs s h n ∙ ap edge_writes reached.0 ∙ passes.nothing.none

  module _ (at : Time) where
    abbrev t : Sensor
    t = (after s cs).sensor

    abbrev c : Call
    c = Call.At at (Timed.Rising (sent_bit x 7))

    -- the sensor that meets the rise, with the sample of its moment
    abbrev pub met : Sensor
    met = at_rise t at

    heard : Chosen t
    heard = stays_chosen cs s h n

    pub met_is : met ≡ sampled t at
    unfolding F.consumes_at_rise
    met_is = rise_meets t at heard ∙ ap (λ (f : Frame). if F.consumes_at_rise f then sampled t at else sync_local_until t at false) reached.1

    met_frame : met.frame ≡ receiving (S.Write a) 7 so_far
    met_frame = floating_exact (rise_faded ⊥ t at heard (λ p. absurd p) (λ p. absurd p)) (ap (λ (f : Frame). f.driven) reached.1) ∙ reached.1

    met_heard : Chosen met
    met_heard = chosen (rise_met ⊥ t at heard (λ p. absurd p) (λ p. absurd p)) heard

    -- the bit completes the value
    completes : (w : Bool) → F.take_bit (receiving (S.Write a) 7 so_far) (sent_bit x 7) w ≡ record { frame = F.fresh true; write = Some (a, x) }
    unfolding F.take_bit F.completed
    completes w = rw (bits_make_the_byte x lx)

    -- the write book asks for that write, of that sensor
    pub last_rise_asks : (((does c).asks t).write ≡ Some (a, x)) × (((does c).asks t).meets ≡ met)
    unfolding does timed_does
    last_rise_asks = (
      rise_write met met_heard (sent_bit x 7) (ap (λ (f : Frame). f.turnaround) met_frame)
          ∙ ap (λ (f : Frame). (F.take_bit f (sent_bit x 7) (four_wire met)).write) met_frame
          ∙ ap (λ (k : Taken). k.write) (completes (four_wire met)),
      refl,
    )

    -- and an accepted one begins it at its time, exactly where 01's rule holds
    pub last_rise_begins : accepts (after s cs) c ≡ true
        → (step (after s cs) c).sensor.writing ≡ (if begins a x (gate met) (is_writing met) then running a x at else met.writing)
    unfolding leaves effect
    last_rise_begins ok =
        let bit = sent_bit x 7 in
        ap (λ (k : Bma150). k.sensor.writing) (accepted_leaves (after s cs) c ok)
        ∙ ap (λ (k : Sensor). k.writing) (clocks met met_heard bit at past_end (ap (λ (f : Frame). f.turnaround) met_frame))
        ∙ (moved_writing _ (rise_done met bit at))
        ∙ ap (λ (k : Sensor). k.writing) (written_at met bit at a x so_far met_frame completes)
        ∙ write_begins (with_frame met (F.fresh true)) a x at
