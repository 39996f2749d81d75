-- A frame whose driver was released on the way: it goes on like the other, and its driver is the same or released.
use Rattle.std.specs.Prelude.{ℕ, ◌≡◌, Bool, cond, ◌&&◌, ltb, Option, None}
use Rattle.std.proofs.Math.Path.{refl, ap}
use Rattle.std.proofs.Common.{sym, ◌∙◌}
use Rattle.std.proofs.Math.Bool.{true, false}
use Rattle.laws.specs.Bytes.{shifted_in}
use Rattle.spi.specs.declared.types.Serial.{Serial}
use Rattle.spi.specs.declared.types.Serial.TheVariants as S
use Rattle.spi.specs.declared.types.Drive.{Drive}
use Rattle.spi.specs.declared.types.Drive.TheVariants as D
use Rattle.spi.specs.declared.types.Frame.{Frame}
use Rattle.spi.specs.declared.types.Taken.{Taken}
use Rattle.spi.specs.declared.types.Shift.{Shift}
use Rattle.spi.specs.declared.types.Shift.TheVariants as H
use Rattle.spi.specs.Frame.{addressed, completed, take_bit, shifts, turned, moved}
use Rattle.spi.specs.Lines.{Event, Rise, Fall, Now, output, turnaround_shift, rise_shift, fall_shift, bit_served, serve}

-- the frame with another driver
abbrev pub driving : Frame → Drive → Frame
driving f d = record f { driven = d }

-- its driver stays or is released
abbrev pub fading : (stays : Bool) → Frame → Frame
fading stays f = driving f (cond stays f.driven D.Floating)

-- g is f, or f with its driver released; it is f if P
pub record Faded (P : Type 0) (f g : Frame) : Type 0 where
  pub stays : Bool
  pub is : g ≡ fading stays f
  pub exact : P → g ≡ f

pub unfaded : {P : Type 0} {f g : Frame} → g ≡ f → Faded P f g
unfaded e = record { stays = true; is = e; exact = λ p. e }

twice : (a b : Bool) (f : Frame) → fading b (fading a f) ≡ fading (a && b) f
twice true true f = refl
twice true false f = refl
twice false true f = refl
twice false false f = refl

pub and_faded : {P : Type 0} {f g h : Frame} → Faded P f g → Faded P g h → Faded P f h
and_faded {P} {f} {g} {h} p q =
    record {
      stays = p.stays && q.stays;
      is = q.is ∙ ap (λ (x : Frame). fading q.stays x) p.is ∙ twice p.stays q.stays f;
      exact = λ x. q.exact x ∙ p.exact x;
    }

-- a frame whose driver floats is as it is
pub floating_exact : {P : Type 0} {f g : Frame} → Faded P f g → f.driven ≡ D.Floating → g ≡ f
floating_exact {P} {f} {g} p e = p.is ∙ by p.stays
  where
    by : (b : Bool) → fading b f ≡ f
    by true = refl
    by false = ap (λ (d : Drive). driving f d) (sym e)

-- ---- the output moves alike

module _ (shows : ℕ → Option ℕ) (f : Frame) (b : Bool) where
  moved_fading : (s : Serial) (tx : Option ℕ) → moved s (fading b f) tx ≡ moved s f tx
  unfolding moved
  moved_fading S.Address tx = refl
  moved_fading (S.Read a) tx = refl
  moved_fading (S.Write a) tx = refl

  output_fading : (sh : Shift) → (z : Bool) × (output shows (fading b f) sh ≡ fading z (output shows f sh))
  unfolding output
  output_fading H.Stay = (b, refl)
  output_fading (H.Fetch a) = (true, moved_fading f.serial (shows a))
  output_fading H.Next = (true, moved_fading f.serial f.tx)

-- ---- a bit is taken alike

module _ (f : Frame) (b : Bool) where
  abbrev pub alike : Taken → Taken
  alike t = record { frame = fading b t.frame; write = t.write }

  addressed_fading : (byte : ℕ) (w t : Bool) → ltb byte 128 ≡ t → addressed (fading b f) byte w ≡ fading b (addressed f byte w)
  unfolding addressed
  addressed_fading byte w true e = rw e
  addressed_fading byte w false e = rw e

  completed_fading : (s : Serial) (byte : ℕ) (w : Bool) → completed s (fading b f) byte w ≡ alike (completed s f byte w)
  unfolding completed
  completed_fading S.Address byte w = ap (λ (g : Frame). record { frame = g; write = None }) (addressed_fading byte w (ltb byte 128) refl)
  completed_fading (S.Read a) byte w = refl
  completed_fading (S.Write a) byte w = refl

  pub taken_fading : (mosi w t : Bool) → ltb f.rx_bits 7 ≡ t → take_bit (fading b f) mosi w ≡ alike (take_bit f mosi w)
  unfolding take_bit
  taken_fading mosi w true e = rw e
  taken_fading mosi w false e = rw e (completed_fading f.serial (shifted_in f.rx mosi) w)

-- ---- so is an event

-- a rise by whether it is the turnaround's
module _ (n : Now) (f : Frame) (mosi : Bool) where
  pub turning : f.turnaround ≡ true → serve n f (Rise mosi) ≡ output n.shows (turned f) (turnaround_shift n f)
  unfolding serve
  turning e = rw e

  pub clocking : f.turnaround ≡ false → serve n f (Rise mosi) ≡ bit_served n (take_bit f mosi n.four_wire)
  unfolding serve
  clocking e = rw e

module _ (n : Now) (f : Frame) (b : Bool) where
  bit_fading : (t : Taken) → (z : Bool) × (bit_served n (record { frame = fading b t.frame; write = t.write }) ≡ fading z (bit_served n t))
  unfolding shifts
  bit_fading t = output_fading n.shows t.frame b (rise_shift n t)

  turn_fading : (z : Bool) × (output n.shows (turned (fading b f)) (turnaround_shift n (fading b f)) ≡ fading z (output n.shows (turned f) (turnaround_shift n f)))
  unfolding shifts
  turn_fading = output_fading n.shows (turned f) b (turnaround_shift n f)

  rise_fading : (mosi t : Bool) → f.turnaround ≡ t → (z : Bool) × (serve n (fading b f) (Rise mosi) ≡ fading z (serve n f (Rise mosi)))
  rise_fading mosi true e =
      (turn_fading.0, turning n (fading b f) mosi e ∙ turn_fading.1 ∙ ap (λ (x : Frame). fading turn_fading.0 x) (sym (turning n f mosi e)))
  rise_fading mosi false e =
      let t = take_bit f mosi n.four_wire in
      let o = bit_fading t in (
        o.0,
        clocking n (fading b f) mosi e
            ∙ ap (λ (x : Taken). bit_served n x) (taken_fading f b mosi n.four_wire (ltb f.rx_bits 7) refl)
            ∙ o.1
            ∙ ap (λ (x : Frame). fading o.0 x) (sym (clocking n f mosi e)),
      )

  event_fading : (e : Event) → (z : Bool) × (serve n (fading b f) e ≡ fading z (serve n f e))
  unfolding serve shifts
  event_fading (Rise mosi) = rise_fading mosi f.turnaround refl
  event_fading Fall = output_fading n.shows f b (fall_shift n f)

pub serve_faded : {P : Type 0} (n : Now) (f g : Frame) (e : Event) → Faded P f g → Faded P (serve n f e) (serve n g e)
serve_faded n f g e p =
    let o = event_fading n f p.stays e in
    record { stays = o.0; is = ap (λ (x : Frame). serve n x e) p.is ∙ o.1; exact = λ x. ap (λ (y : Frame). serve n y e) (p.exact x) }

pub output_faded : {P : Type 0} (shows : ℕ → Option ℕ) (f g : Frame) (sh : Shift) → Faded P f g → Faded P (output shows f sh) (output shows g sh)
output_faded shows f g sh p =
    let o = output_fading shows f p.stays sh in
    record { stays = o.0; is = ap (λ (x : Frame). output shows x sh) p.is ∙ o.1; exact = λ x. ap (λ (y : Frame). output shows y sh) (p.exact x) }
