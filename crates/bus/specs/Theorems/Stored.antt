-- Stored writes over I2C: START, 70 hex, a register and seven bits of a value begin nothing; the eighth rise begins a stored write exactly where 01's rule holds.
use Rattle.sensor.specs.Operation.{Operation, stored_write}
use Rattle.std.specs.Prelude.{ℕ, ◌%◌, ◌<◌, ◌≡◌, Bool, true, false, List, [], ◌++◌, if◌then◌else◌, Some, Option}
use Rattle.std.proofs.Math.Path.{refl, ap}
use Rattle.std.proofs.Common.{◌∙◌, leb→le}
use Rattle.laws.specs.Bytes.{sent_bit, all_shifted_in, seven_bits, bits_make_the_byte}
use Rattle.time.specs.declared.Time.{Time}
use Rattle.i2c.specs.declared.types.Levels.{Levels}
use Rattle.i2c.specs.declared.types.Edge.{Edge}
use Rattle.i2c.specs.declared.types.Edge.TheVariants.{Rise}
use Rattle.i2c.specs.declared.types.Receive.TheVariants as R
use Rattle.i2c.specs.declared.types.Phase.TheVariants as P
use Rattle.i2c.specs.declared.types.Action.{Action}
use Rattle.i2c.specs.declared.types.Action.TheVariants as A
use Rattle.i2c.specs.Bus.{edge, is_condition, is_start, is_rise, is_fall, data_at}
use Rattle.i2c.specs.Engine as E
use Rattle.i2c.specs.Transfers.{clocked, ninth_clock, byte_frame, address_frame}
use Rattle.i2c.specs.Target.{Target, deed}
use Rattle.i2c.specs.Answers.{frees, acknowledge, address_answer, register_answer}
use Rattle.i2c.proofs.Theorems.Frames.{and_serves, at, bits_received, write_address_served, register_byte}
use Rattle.i2c.proofs.Theorems.Uses.{uses}
use Rattle.registers.specs.Access.{begins}
use Rattle.control.specs.declared.types.WriteKind.{WriteKind}
use Rattle.control.specs.declared.types.Effect.{Effect}
use Rattle.control.specs.Theorems.Begins.{is_stored, stored_begins}
use Rattle.calls.specs.declared.types.Timed.TheVariants as Timed
use Rattle.calls.specs.declared.types.Call.{Call}
use Rattle.sensor.specs.declared.types.Sensor.{Sensor}
use Rattle.sensor.specs.Record.{with_i2c, gate, is_writing}
use Rattle.sensor.specs.Mode.{soft_reset, criterion}
use Rattle.writes.specs.Write.{register_effect, write_effect, write_kind, write_register}
use Rattle.samples.specs.Samples.{sync_local_until}
use Rattle.serial.specs.I2cPins.{acted}
use Rattle.bma150.specs.declared.host.Bma150.{Bma150}
use Rattle.book.specs.Does.{action_write, timed_does, does}
use Rattle.book.specs.Lists.{accepts, step, after, accepted}
use Rattle.effects.specs.Core as C
use Rattle.effects.specs.Theorems.Keeps as K
use Rattle.bus.specs.I2c.{Heard, timed_event, event, events, target_of, sampled, ended, shown, seen_of}
use Rattle.bus.specs.Writes.{and_write, asked, seen_writes}
use Rattle.bus.specs.Theorems.Lists.{transfer, stays_heard}
use Rattle.bus.specs.Theorems.Reports.{stepped_to}
use Rattle.bus.specs.Theorems.Calls.{meets, meets_is}
use Rattle.bus.specs.Theorems.Transfers.{report_through_call}
use Rattle.bus.specs.Theorems.Asked.{asked_are_seen, call_asks}

-- ---- what a register write leaves of the running write

abbrev pub running : (address value : ℕ) (now : Time) → Operation
running address value now = Some (stored_write now address value)

module _ (s : Sensor) (address value : ℕ) (now : Time) where
  abbrev left : WriteKind → Operation
  left w = (write_effect w s address value now).writing

  kept : (t : Sensor) → C.Keeps s t → t.writing ≡ s.writing
  kept t k = ap (λ (c : C.Core). c.writing) k.same

  by_kind : (w : WriteKind) → left w ≡ (if is_stored w then running address value now else s.writing)
  unfolding write_effect register_effect is_stored K.Ordinary
  by_kind WriteKind.Ignored = refl
  by_kind WriteKind.Stored = refl
  by_kind (WriteKind.Taken Effect.Reset) = ap (λ (c : C.Core). c.writing) (K.automatic_keeps (soft_reset s now) now (criterion s) false).same
  by_kind (WriteKind.Taken Effect.Control) = kept _ (K.then_automatic_keeps Effect.Control s address value now tt)
  by_kind (WriteKind.Taken Effect.Measurement) = kept _ (K.then_automatic_keeps Effect.Measurement s address value now tt)
  by_kind (WriteKind.Taken Effect.Operation) = kept _ (K.then_automatic_keeps Effect.Operation s address value now tt)
  by_kind (WriteKind.Taken Effect.Durations) = kept _ (K.then_automatic_keeps Effect.Durations s address value now tt)
  by_kind (WriteKind.Taken Effect.Plain) = kept _ (K.then_automatic_keeps Effect.Plain s address value now tt)

  -- a stored write begins exactly where 01's rule holds; else what ran runs on
  pub write_begins : (write_register s address value now).writing ≡ (if begins address value (gate s) (is_writing s) then running address value now else s.writing)
  write_begins =
      by_kind (write_kind s address value)
      ∙ ap (λ (b : Bool). if b then running address value now else s.writing) (stored_begins address value (gate s) (is_writing s))

-- ---- through the calls

-- START, 70 hex, a register byte and seven bits of a value
abbrev pub all_but_the_last_bit : (register value : ℕ) (a b : Bool) → List Edge
all_but_the_last_bit register value a b = (address_frame 0x70 ++ ninth_clock a) ++ (byte_frame register b ++ clocked (seven_bits value))

module _ (s : Bma150) (cs : List Call) (h : Heard s.sensor) (n : ended s cs ≡ false) (register value : ℕ) (a b : Bool) (r : register < 256) (x : value < 256)
    (e : events (accepted s cs) ≡ all_but_the_last_bit register value a b) where
  abbrev so_far : ℕ
  so_far = all_shifted_in 0 (seven_bits value)

  reached : (seen_of s cs ≡ (address_answer ++ acknowledge) ++ (register_answer ++ frees (seven_bits value))) × (target_of (after s cs).sensor ≡ at (P.Receive R.Data) (register % 128) 7 so_far false 0xff)
  reached =
      transfer cs s (all_but_the_last_bit register value a b) _ _ h n e
      (and_serves (write_address_served (target_of s.sensor) a (shown s cs))
      (and_serves (register_byte s.sensor.i2c.pointer 0xff register r b _)
      (bits_received R.Data (register % 128) 0xff (seven_bits value) 0 0 _ (leb→le 7 7 tt))))

  -- nothing was written on the way
  pub nothing_earlier : asked s cs ≡ []
  unfolding frees seen_writes and_write action_write
  nothing_earlier = asked_are_seen cs s h n ∙ ap seen_writes reached.0

  module _ (now : Time) (before next : Levels) (last : edge before next ≡ Rise (sent_bit value 7)) where
    abbrev report : Call
    report = Call.At now (Timed.Pins before next)

    -- the sensor that meets the report, with the sample of its moment
    abbrev pub met : Sensor
    met = sampled (after s cs).sensor now

    asks_write : deed (target_of (after s cs).sensor) (edge before next) ≡ Some (A.Write (register % 128) value)
    unfolding E.step is_condition is_start is_rise is_fall data_at E.within_byte E.at_ninth E.completes E.completed E.received
    asks_write =
        ap (λ (f : Edge). deed (target_of (after s cs).sensor) f) last
        ∙ ap (λ (v : Target). deed v (Rise (sent_bit value 7))) reached.1
        ∙ ap (λ (y : ℕ). Some (A.Write (register % 128) y)) (bits_make_the_byte value x)

    deed_met : (d : Option Action) → d ≡ Some (A.Write (register % 128) value) → (if uses d then met else sync_local_until (after s cs).sensor now false) ≡ met
    unfolding uses
    deed_met d q = ap (λ (d : Option Action). if uses d then met else sync_local_until (after s cs).sensor now false) q

    hearing : Heard (after s cs).sensor
    hearing = stays_heard cs s h n

    -- the write book asks for that write, of the sensor with the sample of the moment
    pub last_rise_asks : (((does report).asks (after s cs).sensor).write ≡ Some (register % 128, value)) × (((does report).asks (after s cs).sensor).meets ≡ met)
    unfolding action_write does timed_does event timed_event
    last_rise_asks = (
      call_asks (after s cs).sensor hearing report ∙ ap action_write asks_write,
      meets_is (after s cs).sensor (edge before next) now hearing ∙ deed_met (deed (target_of (after s cs).sensor) (edge before next)) asks_write,
    )

    -- and an accepted last rise begins it at its time, exactly where 01's rule holds
    pub last_rise_begins : accepts (after s cs) report ≡ true
        → (step (after s cs) report).sensor.writing
        ≡ (if begins (register % 128) value (gate met) (is_writing met) then running (register % 128) value now else met.writing)
    unfolding acted
    last_rise_begins ok =
        let t = (after s cs).sensor in
        let f = edge before next in
        let st = stepped_to t f in
        ap (λ (u : Sensor). u.writing) (report_through_call (after s cs) now before next ok hearing)
        ∙ ap (λ (d : Option Action). (acted d (with_i2c (meets t f now) st) now).writing) asks_write
        ∙ ap (λ (u : Sensor). (acted (Some (A.Write (register % 128) value)) (with_i2c u st) now).writing) (deed_met (deed (target_of t) f) asks_write)
        ∙ write_begins (with_i2c met st) (register % 128) value now
