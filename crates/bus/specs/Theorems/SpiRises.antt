-- The frame after an SPI edge, by what the edge meets.
use Rattle.std.specs.Prelude.{ℕ, ◌≡◌, Bool, ltb, Option, Some, None}
use Rattle.std.proofs.Math.Path.{refl}
use Rattle.std.proofs.Common.{sym, ap, ◌∙◌}
use Rattle.std.proofs.Math.Bool.{true, false}
use Rattle.laws.specs.Bytes.{shifted_in}
use Rattle.time.specs.declared.Time.{Time}
use Rattle.spi.specs.declared.types.Serial.{Serial}
use Rattle.spi.specs.declared.types.Serial.TheVariants as S
use Rattle.spi.specs.declared.types.Frame.{Frame}
use Rattle.spi.specs.declared.types.Taken.{Taken}
use Rattle.spi.specs.declared.types.Clocked.TheVariants as Clocked
use Rattle.spi.specs.declared.types.Shift.{Shift}
use Rattle.spi.specs.declared.types.Shift.TheVariants as H
use Rattle.spi.specs.Frame as F
use Rattle.spi.specs.Lines.{Rise, Now, output, bit_served, serve}
use Rattle.control.specs.declared.types.WriteKind.{WriteKind}
use Rattle.control.specs.declared.types.Effect.{Effect}
use Rattle.sensor.specs.declared.types.Sensor.{Sensor}
use Rattle.sensor.specs.Record.{with_frame, four_wire}
use Rattle.writes.specs.Write.{write_kind, write_register}
use Rattle.serial.specs.SpiEdges as E
use Rattle.effects.specs.Theorems.Keeps as K
use Rattle.effects.specs.Theorems.Driver as D
use Rattle.bus.specs.I2c.{is_reset}
use Rattle.bus.specs.Spi.{Chosen, sends, write_resets}
use Rattle.bus.specs.Theorems.Parts.{absurd_bool}
use Rattle.bus.specs.Theorems.Reports.{written_same}
use Rattle.bus.specs.Theorems.Fading.{fading, Faded, unfaded, and_faded, output_faded, turning}
use Rattle.bus.specs.Theorems.SpiEdges.{faded_of, listens, around, around_same, moved_frame, moved_rest, sends_framed}

-- only a fetch looks at the registers
shown_alike : (f g : ℕ → Option ℕ) (k : Frame) (sh : Shift) → ((a : ℕ) → f a ≡ g a) → output f k sh ≡ output g k sh
unfolding output
shown_alike f g k H.Stay q = refl
shown_alike f g k (H.Fetch a) q = ap (λ (x : Option ℕ). F.shifted k x) (q a)
shown_alike f g k H.Next q = refl

-- ---- the turnaround's rise

module _ (m : Sensor) (h : Chosen m) (mosi : Bool) (now : Time) (n : Now) where
  turns : m.frame.turnaround ≡ true → E.rising_effect m mosi now ≡ E.turned m
  unfolding E.rising_effect
  turns e = rw (listens h, e)

  pub clocks : m.frame.turnaround ≡ false → E.rising_effect m mosi now ≡ E.bit_taken m mosi now
  unfolding E.rising_effect
  clocks e = rw (listens h, e)

  pub turn_frame : m.frame.turnaround ≡ true → n.four_wire ≡ four_wire m → ((a : ℕ) → n.shows a ≡ sends m a) → (E.rising_effect m mosi now).frame ≡ serve n m.frame (Rise mosi)
  turn_frame e w x =
      let f = F.turned m.frame in
      let q = with_frame m f in
      ap (λ (t : Sensor). t.frame) (turns e)
      ∙ moved_frame q (F.shifts f Clocked.Turnaround (four_wire m))
      ∙ ap (λ (b : Bool). output (sends q) f (F.shifts f Clocked.Turnaround b)) (sym w)
      ∙ shown_alike (sends q) n.shows f (F.shifts f Clocked.Turnaround n.four_wire) (λ a. sends_framed m f a ∙ sym (x a))
      ∙ sym (turning n m.frame mosi e)

  pub turn_around : m.frame.turnaround ≡ true → around (E.rising_effect m mosi now) ≡ around m
  turn_around e =
      let f = F.turned m.frame in
      ap (λ (t : Sensor). around t) (turns e) ∙ (moved_rest (with_frame m f) (F.shifts f Clocked.Turnaround (four_wire m))).0

is_write : Option (ℕ × ℕ) → Bool
is_write None = false
is_write (Some (a, v)) = true

not_none : {A : Type 0} {a v : ℕ} → ◌≡◌ {A = Option (ℕ × ℕ)} None (Some (a, v)) → A
unfolding is_write
not_none e = absurd_bool (sym (ap is_write e))

-- ---- a bit that is taken: a write leaves the frame of an address byte, and fetches nothing

module _ (f : Frame) (mosi w : Bool) where
  -- the frame after a write waits for an address byte
  written_frame : (s : Serial) (byte : ℕ) (a v : ℕ) → (F.completed s f byte w).write ≡ Some (a, v) → (F.completed s f byte w).frame.serial ≡ S.Address
  unfolding F.completed
  written_frame S.Address byte a v e = not_none e
  written_frame (S.Read r) byte a v e = not_none e
  written_frame (S.Write r) byte a v e = refl

  write_ends : (t : Bool) → ltb f.rx_bits 7 ≡ t → (a v : ℕ) → (F.take_bit f mosi w).write ≡ Some (a, v) → (F.take_bit f mosi w).frame.serial ≡ S.Address
  unfolding F.take_bit
  write_ends true e a v = rw e (λ g. not_none g)
  write_ends false e a v = rw e (λ g. written_frame f.serial (shifted_in f.rx mosi) a v g)

  -- the write does not depend on the wire mode
  completed_alike : (z : Bool) (s : Serial) (byte : ℕ) → (F.completed s f byte w).write ≡ (F.completed s f byte z).write
  unfolding F.completed
  completed_alike z S.Address byte = refl
  completed_alike z (S.Read r) byte = refl
  completed_alike z (S.Write r) byte = refl

  pub write_alike : (z t : Bool) → ltb f.rx_bits 7 ≡ t → (F.take_bit f mosi w).write ≡ (F.take_bit f mosi z).write
  unfolding F.take_bit
  write_alike z true e = rw e
  write_alike z false e = rw e (completed_alike z f.serial (shifted_in f.rx mosi))

-- outside a read nothing is fetched
no_fetch : (f : Frame) (w : Bool) (g k : ℕ → Option ℕ) → f.serial ≡ S.Address → output g f (F.shifts f Clocked.Rise w) ≡ output k f (F.shifts f Clocked.Rise w)
unfolding F.shifts F.fetches output
no_fetch f w g k e = by (F.moves Clocked.Rise w f.turnaround) refl
  where
    by : (b : Bool) → F.moves Clocked.Rise w f.turnaround ≡ b → output g f (F.shifts f Clocked.Rise w) ≡ output k f (F.shifts f Clocked.Rise w)
    by true q = rw (q, e)
    by false q = rw q

fading_shifts : (b : Bool) (f : Frame) (y : Bool) → F.shifts (fading b f) Clocked.Rise y ≡ F.shifts f Clocked.Rise y
unfolding F.shifts
fading_shifts b f y = refl

faded_shifts : {P : Type 0} (f g : Frame) → Faded P f g → (y : Bool) → F.shifts g Clocked.Rise y ≡ F.shifts f Clocked.Rise y
faded_shifts f g d y = ap (λ (k : Frame). F.shifts k Clocked.Rise y) d.is ∙ fading_shifts d.stays f y

-- ---- the write of a bit leaves the frame but for its driver

ordinary : (w : WriteKind) → is_reset w ≡ false → K.Ordinary w
unfolding is_reset K.Ordinary
ordinary WriteKind.Ignored e = tt
ordinary WriteKind.Stored e = tt
ordinary (WriteKind.Taken Effect.Reset) e = absurd_bool e
ordinary (WriteKind.Taken Effect.Control) e = tt
ordinary (WriteKind.Taken Effect.Measurement) e = tt
ordinary (WriteKind.Taken Effect.Operation) e = tt
ordinary (WriteKind.Taken Effect.Durations) e = tt
ordinary (WriteKind.Taken Effect.Plain) e = tt

module _ (q : Sensor) (now : Time) where
  done_faded : {P : Type 0} (w : Option (ℕ × ℕ)) → write_resets q w ≡ false → (P → (E.write_done w q now).sampling.asleep ≡ false) → Faded P q.frame (E.write_done w q now).frame
  unfolding E.write_done write_resets
  done_faded None n a = unfaded refl
  done_faded (Some (r, v)) n a =
      let k = write_kind q r v in
      faded_of (written_same q r v now k n) (D.write_fades q r v now k) (λ p. D.write_driver q r v now k (ordinary k n) (a p))

  pub done_around : (w : Option (ℕ × ℕ)) → write_resets q w ≡ false → around (E.write_done w q now) ≡ around q
  unfolding E.write_done write_resets
  done_around None n = refl
  done_around (Some (r, v)) n = around_same (written_same q r v now (write_kind q r v) n)

module _ (m : Sensor) (mosi : Bool) (now : Time) where
  -- after the read began, the bit taken, the sensor with its frame, and after the write
  abbrev pub t : Sensor
  t = E.first_bit_taken (F.first_bit m.frame.serial m.frame.rx_bits) m

  abbrev pub taken : Taken
  taken = F.take_bit t.frame mosi (four_wire t)

  abbrev pub q : Sensor
  q = with_frame t taken.frame

  abbrev pub b : Sensor
  b = E.write_done taken.write q now

  -- what is sent at the same rise
  sends_alike : (w : Option (ℕ × ℕ)) (f : Frame) (z : Bool) → ((a v : ℕ) → w ≡ Some (a, v) → f.serial ≡ S.Address)
      → output (sends (E.write_done w (with_frame t f) now)) f (F.shifts f Clocked.Rise z) ≡ output (sends t) f (F.shifts f Clocked.Rise z)
  unfolding E.write_done
  sends_alike None f z g = shown_alike (sends (with_frame t f)) (sends t) f (F.shifts f Clocked.Rise z) (λ a. sends_framed t f a)
  sends_alike (Some (a, v)) f z g = no_fetch f z (sends (write_register (with_frame t f) a v now)) (sends t) (g a v refl)

  pub bit_faded : {P : Type 0} (n : Now) → write_resets q taken.write ≡ false → (P → b.sampling.asleep ≡ false)
      → n.four_wire ≡ four_wire t → n.four_wire_then ≡ four_wire b → ((a : ℕ) → n.shows a ≡ sends t a)
      → Faded P (bit_served n taken) (E.bit_taken m mosi now).frame
  bit_faded n r a w z x =
      let d = done_faded q now taken.write r a in
      let f = taken.frame in
      let moved = moved_frame b (F.shifts b.frame Clocked.Rise (four_wire b)) in
      let alike : F.shifts b.frame Clocked.Rise (four_wire b) ≡ F.shifts f Clocked.Rise n.four_wire_then = faded_shifts f b.frame d (four_wire b) ∙ ap (λ (y : Bool). F.shifts f Clocked.Rise y) (sym z) in
      let sh = F.shifts f Clocked.Rise n.four_wire_then in
      let shown : output (sends b) f sh ≡ output n.shows f sh = sends_alike taken.write f n.four_wire_then (write_ends t.frame mosi (four_wire t) (ltb t.frame.rx_bits 7) refl) ∙ shown_alike (sends t) n.shows f sh (λ k. sym (x k)) in
      and_faded (unfaded shown)
      (and_faded (output_faded (sends b) f b.frame sh d)
      (unfaded (moved ∙ ap (λ (k : Shift). output (sends b) b.frame k) alike)))
