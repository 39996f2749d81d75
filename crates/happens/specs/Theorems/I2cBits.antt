-- I2C reports of a sensor that stands still and is not selected: bytes of a write transfer, each with its ninth clock.
use Rattle.std.specs.Prelude.{ℕ, ◌+◌, ◌%◌, ◌<◌, ◌≤◌, ◌≡◌, Bool, None, Some}
use Rattle.std.proofs.Math.Nat.{add-zero}
use Rattle.std.proofs.Common.{mod-eq_of_lt, sym, subst, ◌∙◌, lt-ltb, leb→le, lit<}
use native.Mathlib.Omega.{arith}
use Rattle.std.proofs.Math.Path.{refl, ap}
use Rattle.std.proofs.Math.Bool.{true, false}
use mathlib.Core.List.{List, [], ◌∷◌, ◌++◌}
use Rattle.std.proofs.Math.ListN.{length}
use Rattle.laws.specs.Bytes.{shifted_in, sent_bit, all_shifted_in, seven_bits, bits_make_the_byte}
use Rattle.time.specs.declared.Time.{Time}
use Rattle.i2c.specs.declared.types.Levels.{Levels}
use Rattle.i2c.specs.declared.types.Edge.{Edge}
use Rattle.i2c.specs.declared.types.Receive.{Receive}
use Rattle.i2c.specs.declared.types.Receive.TheVariants as R
use Rattle.i2c.specs.declared.types.Following.{Following}
use Rattle.i2c.specs.declared.types.Following.TheVariants as Fo
use Rattle.i2c.specs.declared.types.Phase.{Phase}
use Rattle.i2c.specs.declared.types.Phase.TheVariants as P
use Rattle.i2c.specs.declared.types.State.{State}
use Rattle.i2c.specs.declared.types.Step.{Step}
use Rattle.i2c.specs.declared.types.Action.TheVariants as A
use Rattle.i2c.specs.Bus.{data_moves, edge, is_condition, is_start, is_rise, is_fall, data_at}
use Rattle.i2c.specs.Engine as E
use Rattle.spi.specs.Frame as F
use Rattle.reads.specs.Reads as Reads
use Rattle.calls.specs.declared.types.Timed.TheVariants as Timed
use Rattle.calls.specs.declared.types.Call.{Call}
use Rattle.calls.specs.Table as T
use Rattle.sensor.specs.declared.types.Sensor.{Sensor}
use Rattle.sensor.specs.Record.{with_i2c, with_lines, is_quiet}
use Rattle.writes.specs.Write.{write_register}
use Rattle.serial.specs.I2cPins.{i2c_listens, ones_for, byte_dropped, acted, stepped, i2c_pins}
use Rattle.bma150.specs.declared.host.Bma150.{Bma150}
use Rattle.bma150.specs.Called.{effect, leaves}
use Rattle.happens.specs.Courses.{lines}
use Rattle.happens.specs.Theorems.Going.{Goes, goes_nowhere, goes_first, goes_on}
use Rattle.happens.specs.Theorems.Accepting.{pins_plain}
use Rattle.happens.specs.Theorems.Holding.{host, Held, held_pins, held_lines, never_set, pins_met, held_accepts, held_leaves}

-- ---- the calls

-- a report of the two lines
abbrev pub report : (now : Time) (before after : Levels) → Call
report now before after = Call.At now (Timed.Pins before after)

-- for each bit the data line is set while the clock is low, and the clock rises and falls
unfoldable pub clocks : (now : Time) (level : Bool) → List Bool → List Call
clocks now level [] = []
clocks now level (d ∷ ds) = report now (lines false level) (lines false d) ∷ report now (lines false d) (lines true d) ∷ report now (lines true d) (lines false d) ∷ clocks now d ds

-- a byte, most significant bit first, and its ninth clock, in which the sensor holds the data line low
abbrev pub byte_reports : (now : Time) (byte : ℕ) → List Call
byte_reports now b = clocks now false (seven_bits b) ++ clocks now (sent_bit b 6) (sent_bit b 7 ∷ false ∷ [])

-- a register and its value
abbrev pub pair_reports : (now : Time) (register value : ℕ) → List Call
pair_reports now r v = byte_reports now r ++ byte_reports now v

-- START, and the clock falls
abbrev pub start_reports : (now : Time) → List Call
start_reports now = report now (lines true true) (lines true false) ∷ report now (lines true false) (lines false false) ∷ []

-- ---- the engine

-- in a phase, with its register pointer, bits and byte so far, the pin free
abbrev pub engine : Phase → (pointer bits shift : ℕ) → State
engine p n b x = record { phase = p; pointer = n; bits = b; shift = x; low = false }

-- within a byte that it receives
abbrev pub receives : Receive → (pointer bits shift : ℕ) → State
receives k n b x = engine (P.Receive k) n b x

-- in an acknowledge, the pin low
abbrev acknowledges : Following → (n pointer : ℕ) → State
acknowledges f n p = record { phase = P.Acknowledge f n; pointer = p; bits = 0; shift = 0; low = true }

-- ---- one report

-- the level of the last bit
unfoldable pub last_level : (level : Bool) → List Bool → Bool
last_level level [] = level
last_level level (d ∷ ds) = last_level d ds

-- a sensor whose engine is in this state, where these were the levels after the last report
abbrev pub on_bus : Sensor → State → Levels → Sensor
on_bus s st l = with_i2c (with_lines s l) st

module _ (now : Time) (late : T.late now ≡ false) (s : Sensor) (h : Held now s) (unselected : s.frame.selected ≡ false) where
  abbrev sent : ℕ
  sent = ones_for s.frame.tx

  held : (st : State) (l : Levels) → Held now (on_bus s st l)
  held st l = held_pins (held_lines h l) s.frame st s.reads

  listens : (st : State) (l : Levels) → i2c_listens (on_bus s st l) ≡ true
  unfolding i2c_listens
  listens st l = rw (unselected, h.on, never_set h.ready)

  -- what the engine asks for is done
  pins_do : (st : State) (l : Levels) (e : Edge) → i2c_pins (on_bus s st l) e now ≡ stepped (E.step st e false sent) (with_lines s l) now
  unfolding i2c_pins
  pins_do st l e = rw (listens st l, never_set h.loud)

  -- what a report leaves, by what the engine does at it
  abbrev left : Step → (before after : Levels) → Sensor
  left r before after = with_lines (stepped r (with_lines s before) now) after

  report_leaves : (st : State) (before after : Levels) → leaves (host now (on_bus s st before)) (report now before after) ≡ host now (left (E.step st (edge before after) false sent) before after)
  unfolding effect
  report_leaves st before after =
      let t = on_bus s st before in
      held_leaves now late t (held st before) (Timed.Pins before after)
      ∙ ap (λ (u : Sensor). host now (with_lines (i2c_pins u (edge before after) now) after)) (pins_met t now (held st before).unsampled (edge before after))
      ∙ ap (λ (u : Sensor). host now (with_lines u after)) (pins_do st before (edge before after))

  -- a report, by what the engine does at it, and others after it
  report_goes : (st : State) (before after : Levels) (r : Step) {cs : List Call} {u : Bma150} → E.step st (edge before after) false sent ≡ r
      → Goes (host now (left r before after)) cs u → Goes (host now (on_bus s st before)) (report now before after ∷ cs) u
  report_goes st before after r e g =
      goes_first (held_accepts now late (on_bus s st before) (held st before) (Timed.Pins before after) (pins_plain before after))
      (report_leaves st before after ∙ ap (λ (k : Step). host now (left k before after)) e) g

  -- one of the first seven bits of a byte
  bit_goes : (k : Receive) (p n y : ℕ) (level d : Bool) (ds : List Bool) {u : Bma150} → n < 7
      → Goes (host now (on_bus s (receives k p (n + 1) (shifted_in y d)) (lines false d))) (clocks now d ds) u
      → Goes (host now (on_bus s (receives k p n y) (lines false level))) (clocks now level (d ∷ ds)) u
  unfolding clocks edge data_moves E.step is_condition is_rise is_fall data_at E.within_byte E.byte_step E.at_ninth E.completes acted
  bit_goes k p n y level d ds l g =
      report_goes (receives k p n y) (lines false level) (lines false d) (E.and_do (receives k p n y) None) refl
      (report_goes (receives k p n y) (lines false d) (lines true d) (E.and_do (receives k p (n + 1) (shifted_in y d)) None) (rw (lt-ltb n 7 l))
      (report_goes (receives k p (n + 1) (shifted_in y d)) (lines true d) (lines false d) (E.and_do (receives k p (n + 1) (shifted_in y d)) None) refl g))

  bits_go : (k : Receive) (p : ℕ) (ds : List Bool) (n y : ℕ) (level : Bool) → n + length ds ≤ 7
      → Goes (host now (on_bus s (receives k p n y) (lines false level))) (clocks now level ds)
      (host now (on_bus s (receives k p (n + length ds) (all_shifted_in y ds)) (lines false (last_level level ds))))
  unfolding clocks all_shifted_in last_level
  bits_go k p [] n y level l = rw add-zero (goes_nowhere (host now (on_bus s (receives k p n y) (lines false level))))
  bits_go k p (d ∷ ds) n y level l =
      let e : n + 1 + length ds ≡ n + length (d ∷ ds) = omega arith in
      let less : n < 7 = omega arith in
      let rest = bits_go k p ds (n + 1) (shifted_in y d) d (rw e l) in
      bit_goes k p n y level d ds less
      (subst
      (λ (m : ℕ). Goes (host now (on_bus s (receives k p (n + 1) (shifted_in y d)) (lines false d))) (clocks now d ds) (host now (on_bus s (receives k p m (all_shifted_in (shifted_in y d) ds)) (lines false (last_level d ds)))))
      e rest)

  -- the first seven bits of a byte
  seven_go : (k : Receive) (p b : ℕ)
      → Goes (host now (on_bus s (receives k p 0 0) (lines false false))) (clocks now false (seven_bits b))
      (host now (on_bus s (receives k p 7 (all_shifted_in 0 (seven_bits b))) (lines false (sent_bit b 6))))
  unfolding last_level
  seven_go k p b = bits_go k p (seven_bits b) 0 0 false (leb→le 7 7 tt)

  -- from the eighth fall on: the ninth clock, and a register or a value follows
  abbrev ninth : (level : Bool) → List Call
  ninth d = report now (lines true d) (lines false d) ∷ clocks now d (false ∷ [])

  ninth_goes : (f : Following) (k : Receive) (p : ℕ) (d : Bool) → ((st : State) → E.followed st f ≡ E.and_do (E.with_low st (P.Receive k) false) None)
      → Goes (host now (on_bus s (engine (P.Acknowledge f 0) p 0 0) (lines true d))) (ninth d) (host now (on_bus s (receives k p 0 0) (lines false false)))
  unfolding clocks edge data_moves E.step is_condition is_rise is_fall data_at E.within_byte E.at_ninth E.ninth_step E.acknowledge_step E.completes acted
  ninth_goes f k p d follows =
      let pulled = acknowledges f 1 p in
      let read = acknowledges f 2 p in
      report_goes (engine (P.Acknowledge f 0) p 0 0) (lines true d) (lines false d) (E.and_do pulled None) refl
      (report_goes pulled (lines false d) (lines false false) (E.and_do pulled None) refl
      (report_goes pulled (lines false false) (lines true false) (E.and_do read None) refl
      (report_goes read (lines true false) (lines false false) (E.and_do (receives k p 0 0) None) (follows read) (goes_nowhere (host now (on_bus s (receives k p 0 0) (lines false false)))))))

  -- the eighth rise of a byte, and what comes after it
  last_goes : (k : Receive) (p y : ℕ) (level d : Bool) (r : Step) {u : Bma150} → E.received k (receives k p 7 y) (shifted_in y d) ≡ r
      → Goes (host now (left r (lines false d) (lines true d))) (ninth d) u → Goes (host now (on_bus s (receives k p 7 y) (lines false level))) (clocks now level (d ∷ false ∷ [])) u
  unfolding clocks edge data_moves E.step is_condition is_rise is_fall data_at E.within_byte E.at_ninth E.completes E.completed acted
  last_goes k p y level d r e g =
      report_goes (receives k p 7 y) (lines false level) (lines false d) (E.and_do (receives k p 7 y) None) refl
      (report_goes (receives k p 7 y) (lines false d) (lines true d) r e g)

  -- 70 hex: a register follows
  pub address_goes : (p : ℕ) → Goes (host now (on_bus s (receives R.Address p 0 0) (lines false false))) (byte_reports now 0x70) (host now (on_bus s (receives R.Control p 0 0) (lines false false)))
  unfolding E.received E.addressed E.followed acted
  address_goes p =
      goes_on (seven_go R.Address p 0x70)
      (last_goes R.Address p (all_shifted_in 0 (seven_bits 0x70)) (sent_bit 0x70 6) (sent_bit 0x70 7) (E.and_do (engine (P.Acknowledge Fo.Control 0) p 0 0) None) (rw (bits_make_the_byte 0x70 (lit< tt)))
      (ninth_goes Fo.Control R.Control p (sent_bit 0x70 7) (λ st. refl)))

  -- a register byte: its value follows
  register_goes : (p r : ℕ) → r < 256 → Goes (host now (on_bus s (receives R.Control p 0 0) (lines false false))) (byte_reports now r) (host now (on_bus s (receives R.Data (r % 128) 0 0) (lines false false)))
  unfolding E.received E.followed acted
  register_goes p r l =
      goes_on (seven_go R.Control p r)
      (last_goes R.Control p (all_shifted_in 0 (seven_bits r)) (sent_bit r 6) (sent_bit r 7) (E.and_do (engine (P.Acknowledge Fo.Data 0) (r % 128) 0 0) None) (rw (bits_make_the_byte r l))
      (ninth_goes Fo.Data R.Data (r % 128) (sent_bit r 7) (λ st. refl)))

-- the sensor that meets the write of a value: its last bit is on the data line
abbrev pub meets : Sensor → (register value : ℕ) → Sensor
meets s r v = on_bus s (engine P.Idle r 0 0) (lines false (sent_bit v 7))

module _ (now : Time) (late : T.late now ≡ false) (s : Sensor) (h : Held now s) (unselected : s.frame.selected ≡ false) (p v : ℕ) (l : v < 256) where
  -- the sensor that the write leaves
  abbrev written : Sensor
  written = write_register (meets s p v) p v now

  module _ (g : Held now written) (f : written.frame.selected ≡ false) (i : written.i2c ≡ engine P.Idle p 0 0) where
    abbrev risen : Levels
    risen = lines true (sent_bit v 7)

    begun : with_lines (with_i2c written (E.written written.i2c (is_quiet written))) risen ≡ on_bus written (engine (P.Acknowledge Fo.Control 0) p 0 0) risen
    begun =
        ap (λ (b : Bool). on_bus written (E.written written.i2c b) risen) (never_set g.loud)
        ∙ ap (λ (st : State). on_bus written (E.written st false) risen) i

    -- a value byte: it is written at its eighth rise, and a register follows
    value_goes : Goes (host now (on_bus s (receives R.Data p 0 0) (lines false false))) (byte_reports now v) (host now (on_bus written (receives R.Control p 0 0) (lines false false)))
    unfolding E.received E.followed acted
    value_goes =
        goes_on (seven_go now late s h unselected R.Data p v)
        (last_goes now late s h unselected R.Data p (all_shifted_in 0 (seven_bits v)) (sent_bit v 6) (sent_bit v 7) (E.and_do (engine P.Idle p 0 0) (Some (A.Write p v))) (rw (bits_make_the_byte v l))
        (subst (λ (k : Sensor). Goes (host now k) (ninth now late s h unselected (sent_bit v 7)) (host now (on_bus written (receives R.Control p 0 0) (lines false false)))) (sym begun)
        (ninth_goes now late written g f Fo.Control R.Control p (sent_bit v 7) (λ st. refl))))

module _ (now : Time) (late : T.late now ≡ false) (s : Sensor) (h : Held now s) (unselected : s.frame.selected ≡ false) (r v : ℕ) (lr : r < 128) (lv : v < 256) where
  register_taken : (p : ℕ) → Goes (host now (on_bus s (receives R.Control p 0 0) (lines false false))) (byte_reports now r) (host now (on_bus s (receives R.Data r 0 0) (lines false false)))
  register_taken p =
      subst (λ (q : ℕ). Goes (host now (on_bus s (receives R.Control p 0 0) (lines false false))) (byte_reports now r) (host now (on_bus s (receives R.Data q 0 0) (lines false false)))) (mod-eq_of_lt lr)
      (register_goes now late s h unselected p r (omega arith))

  -- the value is written to the register, and a register follows
  pub pair_goes : (p : ℕ) → let u = write_register (meets s r v) r v now in Held now u → u.frame.selected ≡ false → u.i2c ≡ engine P.Idle r 0 0
      → Goes (host now (on_bus s (receives R.Control p 0 0) (lines false false))) (pair_reports now r v) (host now (on_bus u (receives R.Control r 0 0) (lines false false)))
  pair_goes p g f i = goes_on (register_taken p) (value_goes now late s h unselected r v lv g f i)

module _ (now : Time) (late : T.late now ≡ false) (s : Sensor) (h : Held now s) (unselected : s.frame.selected ≡ false) where
  dropped_held : Held now (byte_dropped s)
  dropped_held = held_pins h (F.sending s.frame None) s.i2c (Reads.dropped s.reads)

  abbrev addressing : State
  addressing = receives R.Address s.i2c.pointer 0 0

  -- START from both lines high: an address follows
  pub start_goes : Goes (host now (with_lines s (lines true true))) (start_reports now) (host now (on_bus (byte_dropped s) addressing (lines false false)))
  unfolding edge data_moves E.step is_condition is_start is_rise is_fall E.conditioned E.within_byte E.at_ninth E.completes acted
  start_goes =
      report_goes now late s h unselected s.i2c (lines true true) (lines true false) (E.and_do addressing (Some A.Drop)) refl
      (report_goes now late (byte_dropped s) dropped_held unselected addressing (lines true false) (lines false false) (E.and_do addressing None) refl
      (goes_nowhere (host now (on_bus (byte_dropped s) addressing (lines false false)))))
