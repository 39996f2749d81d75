-- Every accepted call of a selected sensor that hears SPI, as its frame meets it.
use Prim.Native.Nat.{ℕ}
use Rattle.std.specs.Prelude.{◌≡◌, Bool, ◌&&◌, List, ltb, Option, Some, None}
use Rattle.std.proofs.Math.Path.{refl, ap}
use Rattle.std.proofs.Common.{sym, ◌∙◌}
use Rattle.std.proofs.Math.Bool.{true, false}
use Rattle.time.specs.declared.Time.{Time}
use Rattle.spi.specs.declared.types.Frame.{Frame}
use Rattle.spi.specs.declared.types.Clocked.TheVariants as Clocked
use Rattle.spi.specs.Frame as F
use Rattle.spi.specs.Lines.{Rise, Fall, Now, output, bit_served, serve}
use Rattle.registers.specs.Map.{at, operation, SPI4}
use Rattle.sampling.specs.declared.types.Sampling.{Sampling}
use Rattle.sensor.specs.declared.types.Sensor.{Sensor}
use Rattle.sensor.specs.Record.{with_frame, four_wire}
use Rattle.samples.specs.Samples.{sync_local_until}
use Rattle.serial.specs.SpiEdges as E
use Rattle.book.specs.Does.{at_rise, spi_write}
use Rattle.effects.specs.Theorems.Keeps as K
use Rattle.effects.specs.Theorems.Driver as D
use Rattle.bus.specs.I2c.{sampled}
use Rattle.bus.specs.Spi.{Chosen, at_fall, after_read_began, sends, write_resets}
use Rattle.bus.specs.Theorems.Parts.{Same, and_then, of}
use Rattle.bus.specs.Theorems.Fading.{Faded, unfaded, and_faded, clocking}
use Rattle.bus.specs.Theorems.SpiEdges.{faded_of, listens, falls_heard, around, around_same, moved_frame, moved_rest, first_frame, first_same, read_began_turning, read_began_clocking}
use Rattle.bus.specs.Theorems.SpiRises.{turn_frame, turn_around, clocks, write_alike, done_around, t, taken, q, b, bit_faded}

-- ---- the sensor that meets an edge

module _ (P : Type 0) (s : Sensor) (now : Time) (h : Chosen s) (awake : P → (sync_local_until s now false).sampling.asleep ≡ false) (still : P → (sampled s now).sampling.asleep ≡ false) where
  abbrev u : Sensor
  u = sync_local_until s now false

  pub caught_same : Same s u
  caught_same = of (K.sync_keeps s now false)

  pub caught_faded : Faded P s.frame u.frame
  caught_faded = faded_of caught_same (D.sync_fades s now false) (λ p. D.sync_driver s now false (awake p))

  sampled_faded : Faded P u.frame (sampled s now).frame
  sampled_faded = faded_of (of (K.sync_keeps u now true)) (D.sync_fades u now true) (λ p. D.sync_driver u now true (still p))

  pub rise_faded : Faded P s.frame (at_rise s now).frame
  unfolding E.rise_synced
  rise_faded = by (E.spi_listens u && F.consumes_at_rise u.frame) refl
    where
      by : (z : Bool) → E.spi_listens u && F.consumes_at_rise u.frame ≡ z → Faded P s.frame (at_rise s now).frame
      by true e = rw e (and_faded caught_faded sampled_faded)
      by false e = rw e caught_faded

  pub fall_faded : Faded P s.frame (at_fall s now).frame
  unfolding E.fall_synced
  fall_faded = by (E.spi_listens u && F.consumes_at_fall u.frame (four_wire u)) refl
    where
      by : (z : Bool) → E.spi_listens u && F.consumes_at_fall u.frame (four_wire u) ≡ z → Faded P s.frame (at_fall s now).frame
      by true e = rw e (and_faded caught_faded sampled_faded)
      by false e = rw e caught_faded

  pub rise_met : Same s (at_rise s now)
  rise_met = and_then caught_same (of (K.rise_synced_keeps u now))

  pub fall_met : Same s (at_fall s now)
  fall_met = and_then caught_same (of (K.fall_synced_keeps u now))

-- ---- what the definitions' write of a rise is

module _ (m : Sensor) (h : Chosen m) (mosi : Bool) where
  pub rise_write : m.frame.turnaround ≡ false → spi_write m mosi ≡ (F.take_bit m.frame mosi (four_wire m)).write
  unfolding spi_write
  rise_write e = rw (listens h, e)

  pub turn_write : m.frame.turnaround ≡ true → spi_write m mosi ≡ None
  unfolding spi_write
  turn_write e = rw (listens h, e)

pub resets_framed : (s : Sensor) (f : Frame) (w : Option (ℕ × ℕ)) → write_resets (with_frame s f) w ≡ write_resets s w
unfolding write_resets
resets_framed s f None = refl
resets_framed s f (Some (r, v)) = refl

mode_of : (s t : Sensor) → t.registers ≡ s.registers → four_wire t ≡ four_wire s
mode_of s t e = ap (λ (l : List ℕ). SPI4 (at l operation)) e

-- ---- a rise

module _ (P : Type 0) (m : Sensor) (h : Chosen m) (mosi : Bool) (now : Time) (n : Now)
    (mode : n.four_wire ≡ four_wire (after_read_began m)) (next : n.four_wire_then ≡ four_wire (E.rising_effect m mosi now)) (shows : (a : ℕ) → n.shows a ≡ sends (after_read_began m) a)
    (gentle : write_resets (after_read_began m) (spi_write m mosi) ≡ false) (awake : P → (E.rising_effect m mosi now).sampling.asleep ≡ false) where
  abbrev f : Frame
  f = m.frame

  turned_faded : f.turnaround ≡ true → Faded P (serve n f (Rise mosi)) (E.rising_effect m mosi now).frame
  turned_faded e =
      let same = read_began_turning m e in
      unfaded (turn_frame m h mosi now n e (mode ∙ ap (λ (x : Sensor). four_wire x) same) (λ a. shows a ∙ ap (λ (x : Sensor). sends x a) same))

  module _ (e : f.turnaround ≡ false) where
    same : after_read_began m ≡ t m mosi now
    same = read_began_clocking m e

    effect_is : E.rising_effect m mosi now ≡ E.bit_taken m mosi now
    effect_is = clocks m h mosi now n e

    framed : (t m mosi now).frame ≡ f
    framed = first_frame m (F.first_bit f.serial f.rx_bits)

    rest : (around (E.bit_taken m mosi now) ≡ around (b m mosi now)) × ((E.bit_taken m mosi now).registers ≡ (b m mosi now).registers) × ((E.bit_taken m mosi now).sampling ≡ (b m mosi now).sampling)
    rest = moved_rest (b m mosi now) (F.shifts (b m mosi now).frame Clocked.Rise (four_wire (b m mosi now)))

    write_is : (taken m mosi now).write ≡ spi_write m mosi
    write_is =
        ap (λ (x : Frame). (F.take_bit x mosi (four_wire (t m mosi now))).write) framed
        ∙ write_alike f mosi (four_wire (t m mosi now)) (four_wire m) (ltb f.rx_bits 7) refl
        ∙ sym (rise_write m h mosi e)

    no_reset : write_resets (q m mosi now) (taken m mosi now).write ≡ false
    no_reset =
        resets_framed (t m mosi now) (taken m mosi now).frame (taken m mosi now).write
        ∙ ap (λ (w : Option (ℕ × ℕ)). write_resets (t m mosi now) w) write_is
        ∙ ap (λ (x : Sensor). write_resets x (spi_write m mosi)) (sym same)
        ∙ gentle

    clocked_faded : Faded P (serve n f (Rise mosi)) (E.rising_effect m mosi now).frame
    clocked_faded =
        let served : serve n f (Rise mosi) ≡ bit_served n (taken m mosi now)
        = clocking n f mosi e ∙ ap (λ (w : Bool). bit_served n (F.take_bit f mosi w)) (mode ∙ ap (λ (x : Sensor). four_wire x) same) ∙ ap (λ (x : Frame). bit_served n (F.take_bit x mosi (four_wire (t m mosi now)))) (sym framed) in
        let asleep : P → (b m mosi now).sampling.asleep ≡ false = λ p. ap (λ (g : Sampling). g.asleep) (sym rest.2) ∙ ap (λ (x : Sensor). x.sampling.asleep) (sym effect_is) ∙ awake p in
        let taken_faded = bit_faded m mosi now n no_reset asleep (mode ∙ ap (λ (x : Sensor). four_wire x) same) (next ∙ ap (λ (x : Sensor). four_wire x) effect_is ∙ mode_of (b m mosi now) (E.bit_taken m mosi now) rest.1) (λ a. shows a ∙ ap (λ (x : Sensor). sends x a) same) in
        and_faded (unfaded (sym served)) (and_faded taken_faded (unfaded (ap (λ (x : Sensor). x.frame) effect_is)))

    clocked_around : around (E.rising_effect m mosi now) ≡ around m
    clocked_around =
        ap (λ (x : Sensor). around x) effect_is
        ∙ rest.0
        ∙ done_around (q m mosi now) now (taken m mosi now).write no_reset
        ∙ around_same (first_same m (F.first_bit f.serial f.rx_bits))

  pub rising_faded : Faded P (serve n f (Rise mosi)) (E.rising_effect m mosi now).frame
  rising_faded = by f.turnaround refl
    where
      by : (z : Bool) → f.turnaround ≡ z → Faded P (serve n f (Rise mosi)) (E.rising_effect m mosi now).frame
      by true e = turned_faded e
      by false e = clocked_faded e

  pub rising_around : around (E.rising_effect m mosi now) ≡ around m
  rising_around = by f.turnaround refl
    where
      by : (z : Bool) → f.turnaround ≡ z → around (E.rising_effect m mosi now) ≡ around m
      by true e = turn_around m h mosi now n e
      by false e = clocked_around e

-- ---- a fall

module _ (m : Sensor) (h : Chosen m) where
  falls : E.falling_effect m ≡ E.shift_output m Clocked.Fall
  unfolding E.falling_effect
  falls = rw (falls_heard h)

  pub falling_frame : (n : Now) → n.four_wire ≡ four_wire m → n.shows ≡ sends m → (E.falling_effect m).frame ≡ serve n m.frame Fall
  unfolding serve
  falling_frame n w x =
      ap (λ (y : Sensor). y.frame) falls
      ∙ moved_frame m (F.shifts m.frame Clocked.Fall (four_wire m))
      ∙ ap (λ (z : Bool). output (sends m) m.frame (F.shifts m.frame Clocked.Fall z)) (sym w)
      ∙ ap (λ (g : ℕ → Option ℕ). output g m.frame (F.shifts m.frame Clocked.Fall n.four_wire)) (sym x)

  pub falling_around : around (E.falling_effect m) ≡ around m
  falling_around = ap (λ (y : Sensor). around y) falls ∙ (moved_rest m (F.shifts m.frame Clocked.Fall (four_wire m))).0
