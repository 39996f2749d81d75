-- What an SPI edge does to the frame of a selected sensor that hears SPI.
use Rattle.time.specs.declared.Time.{Time}
use Rattle.std.specs.Prelude.{ℕ, ◌≡◌, Bool, cond, not, ◌&&◌, Option, Some, None}
use Rattle.std.proofs.Math.Path.{refl}
use Rattle.std.proofs.Common.{ap, ◌∙◌}
use Rattle.std.proofs.Math.Bool.{true, false}
use Rattle.spi.specs.declared.types.Drive.{Drive}
use Rattle.spi.specs.declared.types.Drive.TheVariants as Dr
use Rattle.spi.specs.declared.types.Frame.{Frame}
use Rattle.spi.specs.declared.types.Shift.{Shift}
use Rattle.spi.specs.declared.types.Shift.TheVariants as H
use Rattle.spi.specs.Frame as F
use Rattle.spi.specs.Lines.{output}
use Rattle.sensor.specs.declared.types.Outage.{Outage}
use Rattle.sensor.specs.declared.types.Sensor.{Sensor}
use Rattle.sensor.specs.Record.{away, with_frame, is_off, serial_not_ready}
use Rattle.sensor.specs.RegisterReads.{shown, peek, fetched, counts_as_read, byte_read}
use Rattle.serial.specs.SpiEdges as E
use Rattle.effects.specs.Theorems.Keeps as K
use Rattle.effects.specs.Theorems.Driver as D
use Rattle.bus.specs.Spi.{Chosen, after_read_began, sends}
use Rattle.bus.specs.Theorems.Parts.{Parts, Same, itself, of, is_never}
use Rattle.bus.specs.Theorems.Fading.{driving, Faded}

-- ---- effects that leave the frame but for its driver

pub faded_of : {P : Type 0} {s t : Sensor} → Same s t → D.Fades s t → (P → t.frame.driven ≡ s.frame.driven) → Faded P s.frame t.frame
faded_of {P} {s} {t} p d x =
    let by : (e : Drive) → t.frame.driven ≡ e → t.frame ≡ driving s.frame e = λ e q. ap (λ (y : Drive). driving t.frame y) q ∙ ap (λ (k : Parts). driving k.frame e) p.same in
    record { stays = d.stays; is = by (cond d.stays s.frame.driven Dr.Floating) d.driver; exact = λ q. by s.frame.driven (x q) }

-- ---- a selected sensor that has these parts hears SPI

pub chosen : {s t : Sensor} → Same s t → Chosen s → Chosen t
chosen p h =
    record {
      on = ap (λ (k : Parts). away k.outage) p.same ∙ h.on;
      ready = ap (λ (k : Parts). k.serial_ready) p.same ∙ h.ready;
      loud = ap (λ (k : Parts). k.quiet) p.same ∙ h.loud;
      selected = ap (λ (k : Parts). k.frame.selected) p.same ∙ h.selected;
    }

module _ {s : Sensor} (h : Chosen s) where
  pub listens : E.spi_listens s ≡ true
  unfolding E.spi_listens
  listens = rw (h.selected, is_never s.deadlines.serial_ready h.ready, is_never s.deadlines.quiet h.loud)

  pub falls_heard : not (serial_not_ready s) && not (is_off s) ≡ true
  falls_heard = rw (is_never s.deadlines.serial_ready h.ready, h.on)

-- ---- the parts beside the frame

pub record Around : Type 0 where
  pub outage : Option Outage
  pub serial_ready : Option Time
  pub quiet : Option Time

abbrev pub around : Sensor → Around
around s = record { outage = s.outage; serial_ready = s.deadlines.serial_ready; quiet = s.deadlines.quiet }

pub around_same : {s t : Sensor} → Same s t → around t ≡ around s
around_same p = ap (λ (k : Parts). record { outage = k.outage; serial_ready = k.serial_ready; quiet = k.quiet }) p.same

pub chosen_again : {s t : Sensor} → around t ≡ around s → t.frame.selected ≡ true → Chosen s → Chosen t
chosen_again p e h =
    record {
      on = ap (λ (k : Around). away k.outage) p ∙ h.on;
      ready = ap (λ (k : Around). k.serial_ready) p ∙ h.ready;
      loud = ap (λ (k : Around). k.quiet) p ∙ h.loud;
      selected = e;
    }

-- ---- the output moves

module _ (t : Sensor) where
  showing_frame : (v : Option ℕ) (a : ℕ) → (E.showing (fetched v t a)).frame ≡ F.shifted t.frame (fetched v t a).sent
  unfolding fetched
  showing_frame None a = refl
  showing_frame (Some b) a = refl

  pub moved_frame : (sh : Shift) → (E.moved sh t).frame ≡ output (sends t) t.frame sh
  unfolding E.moved output
  moved_frame H.Stay = refl
  moved_frame (H.Fetch a) = showing_frame (peek t a) a
  moved_frame H.Next = refl

  showing_rest : (v : Option ℕ) (a : ℕ) → (around (E.showing (fetched v t a)) ≡ around t) × ((E.showing (fetched v t a)).registers ≡ t.registers) × ((E.showing (fetched v t a)).sampling ≡ t.sampling)
  unfolding fetched
  showing_rest None a = (refl, refl, refl)
  showing_rest (Some b) a = (refl, refl, refl)

  pub moved_rest : (sh : Shift) → (around (E.moved sh t) ≡ around t) × ((E.moved sh t).registers ≡ t.registers) × ((E.moved sh t).sampling ≡ t.sampling)
  unfolding E.moved
  moved_rest H.Stay = (refl, refl, refl)
  moved_rest (H.Fetch a) = showing_rest (peek t a) a
  moved_rest H.Next = (refl, refl, refl)

  -- a fetch does not look at the frame
  sent_framed : (f : Frame) (v : Option ℕ) (a : ℕ) → (fetched v (with_frame t f) a).sent ≡ (fetched v t a).sent
  unfolding fetched
  sent_framed f None a = refl
  sent_framed f (Some b) a = refl

  pub sends_framed : (f : Frame) (a : ℕ) → sends (with_frame t f) a ≡ sends t a
  unfolding peek shown
  sends_framed f a = sent_framed f (peek t a) a

-- ---- a read begins

module _ (m : Sensor) where
  byte_read_frame : (x : Option ℕ) (a : ℕ) (b : Bool) → counts_as_read m a ≡ b → (byte_read x m a).frame ≡ m.frame
  unfolding byte_read
  byte_read_frame None a b e = refl
  byte_read_frame (Some y) a true e = rw e
  byte_read_frame (Some y) a false e = rw e

  pub first_frame : (k : Option ℕ) → (E.first_bit_taken k m).frame ≡ m.frame
  unfolding E.first_bit_taken
  first_frame None = refl
  first_frame (Some a) = byte_read_frame m.frame.tx a (counts_as_read m a) refl

  pub first_same : (k : Option ℕ) → Same m (E.first_bit_taken k m)
  unfolding E.first_bit_taken
  first_same None = itself m
  first_same (Some a) = of (K.byte_read_keeps m.frame.tx m a)

  pub read_began_turning : m.frame.turnaround ≡ true → after_read_began m ≡ m
  unfolding after_read_began
  read_began_turning e = rw e

  pub read_began_clocking : m.frame.turnaround ≡ false → after_read_began m ≡ E.first_bit_taken (F.first_bit m.frame.serial m.frame.rx_bits) m
  unfolding after_read_began
  read_began_clocking e = rw e
