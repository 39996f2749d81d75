-- SPI edges of a sensor that stands still and receives: a bit is taken at a rise, and a fall does nothing.
use Rattle.std.specs.Prelude.{ℕ, ◌+◌, ◌<◌, ◌≤◌, ◌≡◌, Bool, cond}
use Rattle.std.proofs.Math.Nat.{add-zero}
use native.Mathlib.Omega.{arith}
use Rattle.std.proofs.Math.Path.{refl, ap}
use Rattle.std.proofs.Common.{sym, subst, ◌∙◌, leb→le}
use Rattle.std.proofs.Math.Bool.{true, false}
use mathlib.Core.List.{List, [], ◌∷◌, ◌++◌}
use borrow.Author.Tests.{lt-ltb}
use Rattle.std.proofs.Math.ListN.{length}
use Rattle.laws.specs.Bytes.{shifted_in, sent_bit, all_shifted_in, seven_bits, bits_make_the_byte}
use Rattle.time.specs.declared.Time.{Time}
use Rattle.spi.specs.declared.types.Serial.{Serial}
use Rattle.spi.specs.declared.types.Serial.TheVariants as S
use Rattle.spi.specs.declared.types.Frame.{Frame}
use Rattle.spi.specs.declared.types.Clocked.{Clocked}
use Rattle.spi.specs.declared.types.Clocked.TheVariants as C
use Rattle.spi.specs.declared.types.Shift.TheVariants as H
use Rattle.spi.specs.Frame as F
use Rattle.spi.proofs.Theorems.Frames.{receiving}
use Rattle.calls.specs.declared.types.Timed.TheVariants as Timed
use Rattle.calls.specs.declared.types.Call.{Call}
use Rattle.calls.specs.Table as T
use Rattle.sensor.specs.declared.types.Sensor.{Sensor}
use Rattle.sensor.specs.Record.{with_frame, four_wire}
use Rattle.writes.specs.Write.{write_register}
use Rattle.serial.specs.SpiEdges as E
use Rattle.bma150.specs.Called.{effect, leaves}
use Rattle.happens.specs.Theorems.Going.{Goes, goes_nowhere, goes_first, goes_on}
use Rattle.happens.specs.Theorems.Accepting.{rising_plain, falling_plain}
use Rattle.happens.specs.Theorems.Holding.{host, Held, held_pins, never_set, rise_met, fall_met, held_accepts, held_leaves}

-- a byte that is received: an address or a value
data Taking : Serial → Type 0 where
  address : Taking S.Address
  value : (a : ℕ) → Taking (S.Write a)

-- the output does not move
module _ (s : Sensor) (n y : ℕ) where
  moved_nowhere : {p : Serial} → Taking p → (b : Bool) → let t = with_frame s (receiving p n y) in E.moved (cond b (F.fetches p 8) H.Stay) t ≡ t
  unfolding F.fetches E.moved F.moved
  moved_nowhere address true = refl
  moved_nowhere address false = refl
  moved_nowhere (value a) true = refl
  moved_nowhere (value a) false = refl

  output_still : {p : Serial} → Taking p → (at : Clocked) (w : Bool) → let t = with_frame s (receiving p n y) in E.moved (F.shifts (receiving p n y) at w) t ≡ t
  unfolding F.shifts
  output_still k at w = moved_nowhere k (F.moves at w false)

-- at the first bit of such a byte no read begins
no_read_begins : {p : Serial} → Taking p → (n : ℕ) (s : Sensor) → E.first_bit_taken (F.first_bit p n) s ≡ s
unfolding E.first_bit_taken F.first_bit
no_read_begins address n s = refl
no_read_begins (value a) n s = refl

module _ (now : Time) (s : Sensor) (h : Held now s) where
  listens : (p : Serial) (n y : ℕ) → E.spi_listens (with_frame s (receiving p n y)) ≡ true
  unfolding E.spi_listens
  listens p n y = rw (never_set h.ready, never_set h.loud)

  -- a rise takes a bit, does its write, and moves the output
  rise_takes : {p : Serial} → Taking p → (n y : ℕ) (d : Bool)
      → let t = with_frame s (receiving p n y) in
      E.rising_effect t d now ≡ E.shift_output (E.bit_done (F.take_bit (receiving p n y) d (four_wire s)) s now) C.Rise
  unfolding E.rising_effect
  rise_takes {p} k n y d =
      let t = with_frame s (receiving p n y) in
      rw (listens p n y)
      (ap (λ (u : Sensor). E.shift_output (E.bit_done (F.take_bit u.frame d (four_wire u)) u now) C.Rise) (no_read_begins k n t))

  -- one of the first seven bits of a byte
  bit_taken : {p : Serial} → Taking p → (n y : ℕ) (d : Bool) → n < 7
      → E.rising_effect (with_frame s (receiving p n y)) d now ≡ with_frame s (receiving p (n + 1) (shifted_in y d))
  unfolding F.take_bit E.write_done
  bit_taken {p} k n y d l =
      rise_takes k n y d
      ∙ rw (lt-ltb n 7 l) (output_still s (n + 1) (shifted_in y d) k C.Rise (four_wire s))

  -- the last bit of an address byte: its value follows
  address_taken : (a y : ℕ) (d : Bool) → shifted_in y d ≡ a → a < 128
      → E.rising_effect (with_frame s (receiving S.Address 7 y)) d now ≡ with_frame s (receiving (S.Write a) 0 0)
  unfolding F.take_bit F.completed F.addressed E.write_done
  address_taken a y d e l =
      rise_takes address 7 y d
      ∙ rw (e, lt-ltb a 128 l) (output_still s 0 0 (value a) C.Rise (four_wire s))

  -- the last bit of a value byte: it is written
  value_taken : (a x y : ℕ) (d : Bool) → shifted_in y d ≡ x
      → E.rising_effect (with_frame s (receiving (S.Write a) 7 y)) d now ≡ E.shift_output (write_register (with_frame s (F.fresh true)) a x now) C.Rise
  unfolding F.take_bit F.completed E.write_done
  value_taken a x y d e =
      rise_takes (value a) 7 y d ∙ ap (λ (v : ℕ). E.shift_output (write_register (with_frame s (F.fresh true)) a v now) C.Rise) e

  -- a fall does nothing
  fall_does_nothing : {p : Serial} → Taking p → (n y : ℕ) → let t = with_frame s (receiving p n y) in E.falling_effect t ≡ t
  unfolding E.falling_effect
  fall_does_nothing k n y = rw (never_set h.ready, h.on) (output_still s n y k C.Fall (four_wire s))

-- between frames the output does not move
between_still : (u : Sensor) → u.frame ≡ F.fresh true → E.shift_output u C.Rise ≡ u
between_still u e =
    ap (λ (f : Frame). E.moved (F.shifts f C.Rise (four_wire u)) (with_frame u f)) e
    ∙ output_still u 0 0 address C.Rise (four_wire u)
    ∙ ap (λ (f : Frame). with_frame u f) (sym e)

-- ---- the calls

-- for each bit a fall and a rise of the clock
unfoldable pub edges : (now : Time) → List Bool → List Call
edges now [] = []
edges now (d ∷ ds) = Call.At now Timed.Falling ∷ Call.At now (Timed.Rising d) ∷ edges now ds

-- a byte, most significant bit first
abbrev pub byte_edges : (now : Time) (byte : ℕ) → List Call
byte_edges now b = edges now (seven_bits b) ++ edges now (sent_bit b 7 ∷ [])

-- a frame that writes a register
abbrev pub frame_edges : (now : Time) (register value : ℕ) → List Call
frame_edges now a x = byte_edges now a ++ byte_edges now x

module _ (now : Time) (late : T.late now ≡ false) (s : Sensor) (h : Held now s) where
  abbrev standing : Serial → ℕ → ℕ → Sensor
  standing p n y = with_frame s (receiving p n y)

  held : (f : Frame) → Held now (with_frame s f)
  held f = held_pins h f s.i2c s.reads

  fall_leaves : {p : Serial} → Taking p → (n y : ℕ) → leaves (host now (standing p n y)) (Call.At now Timed.Falling) ≡ host now (standing p n y)
  unfolding effect
  fall_leaves {p} k n y =
      let t = standing p n y in
      held_leaves now late t (held _) Timed.Falling
      ∙ ap (λ (u : Sensor). host now (E.falling_effect u)) (fall_met t now (held _).unsampled)
      ∙ ap (λ (u : Sensor). host now u) (fall_does_nothing now s h k n y)

  rise_leaves : (p : Serial) (n y : ℕ) (d : Bool) → leaves (host now (standing p n y)) (Call.At now (Timed.Rising d)) ≡ host now (E.rising_effect (standing p n y) d now)
  unfolding effect
  rise_leaves p n y d =
      let t = standing p n y in
      held_leaves now late t (held _) (Timed.Rising d)
      ∙ ap (λ (u : Sensor). host now (E.rising_effect u d now)) (rise_met t now (held _).unsampled)

  -- a clock, with what its rise makes of the sensor
  clock_goes : {p : Serial} → Taking p → (n y : ℕ) (d : Bool) (u : Sensor) → E.rising_effect (standing p n y) d now ≡ u → Goes (host now (standing p n y)) (edges now (d ∷ [])) (host now u)
  unfolding edges
  clock_goes {p} k n y d u e =
      goes_first (held_accepts now late (standing p n y) (held _) Timed.Falling falling_plain) (fall_leaves k n y)
      (goes_first (held_accepts now late (standing p n y) (held _) (Timed.Rising d) (rising_plain d)) (rise_leaves p n y d ∙ ap (λ (u : Sensor). host now u) e) (goes_nowhere (host now u)))

  -- fewer than eight bits
  bits_go : {p : Serial} → Taking p → (ds : List Bool) (n y : ℕ) → n + length ds ≤ 7 → Goes (host now (standing p n y)) (edges now ds) (host now (standing p (n + length ds) (all_shifted_in y ds)))
  unfolding edges all_shifted_in
  bits_go {p} k [] n y l = rw add-zero (goes_nowhere (host now (standing p n y)))
  bits_go {p} k (d ∷ ds) n y l =
      let e : n + 1 + length ds ≡ n + length (d ∷ ds) = omega arith in
      let less : n < 7 = omega arith in
      let first = clock_goes k n y d (standing p (n + 1) (shifted_in y d)) (bit_taken now s h k n y d less) in
      let rest = bits_go k ds (n + 1) (shifted_in y d) (rw e l) in
      goes_on first (subst (λ (m : ℕ). Goes (host now (standing p (n + 1) (shifted_in y d))) (edges now ds) (host now (standing p m (all_shifted_in (shifted_in y d) ds)))) e rest)

  -- a byte, with what its last rise makes of the sensor
  byte_goes : {p : Serial} → Taking p → (b : ℕ) (u : Sensor) → E.rising_effect (standing p 7 (all_shifted_in 0 (seven_bits b))) (sent_bit b 7) now ≡ u
      → Goes (host now (standing p 0 0)) (byte_edges now b) (host now u)
  byte_goes k b u e = goes_on (bits_go k (seven_bits b) 0 0 (leb→le 7 7 tt)) (clock_goes k 7 (all_shifted_in 0 (seven_bits b)) (sent_bit b 7) u e)

  -- a frame writes its value once, at its last rise
  pub frame_goes : (a x : ℕ) → a < 128 → x < 256 → s.frame ≡ F.fresh true → (write_register s a x now).frame ≡ F.fresh true
      → Goes (host now s) (frame_edges now a x) (host now (write_register s a x now))
  frame_goes a x la lx f g =
      let begun : with_frame s (F.fresh true) ≡ s = ap (λ (k : Frame). with_frame s k) (sym f) in
      let u = write_register s a x now in
      let written = value_taken now s h a x _ (sent_bit x 7) (bits_make_the_byte x lx) ∙ ap (λ (k : Sensor). E.shift_output (write_register k a x now) C.Rise) begun ∙ between_still u g in
      let addressed = byte_goes address a _ (address_taken now s h a _ (sent_bit a 7) (bits_make_the_byte a (omega arith)) la) in
      subst (λ (k : Sensor). Goes (host now k) (frame_edges now a x) (host now u)) begun
      (goes_on addressed (byte_goes (value a) x u written))
