-- Outside a read nothing is sent, so that a write that pauses or resets the sensor finds nothing of its frame to release.
use Rattle.std.specs.Prelude.{◌≡◌, refl, Bool, true, false, List, [], ◌∷◌, ℕ, ltb, drop, Option, Some, None}
use Rattle.std.proofs.Common.{sym, ap, subst, ◌∙◌, arith}
use Rattle.std.proofs.lemmas.Bool.{true≢false}
use Rattle.laws.specs.Bytes.{shifted_in}
use Rattle.spi.specs.declared.types.Serial.{Serial}
use Rattle.spi.specs.declared.types.Serial.TheVariants as S
use Rattle.spi.specs.declared.types.Drive.{Drive}
use Rattle.spi.specs.declared.types.Drive.TheVariants as D
use Rattle.spi.specs.declared.types.Frame.{Frame}
use Rattle.spi.specs.declared.types.Shift.{Shift}
use Rattle.spi.specs.declared.types.Shift.TheVariants as H
use Rattle.spi.specs.Frame.{fresh, reads, addressed, completed, take_bit, turned, moved, released, sending}
use Rattle.spi.specs.Lines.{Event, Rise, Fall, Now, output, turnaround_shift, rise_shift, fall_shift, serve, now, left}
use Rattle.spi.proofs.Theorems.Broken.{turning_serves, bit_serves}

-- outside a read no byte is being sent and the pin floats
abbrev pub Silent : Frame → Type 0
Silent f = reads f.serial ≡ false → (f.tx ≡ None) × (f.driven ≡ D.Floating)

addressed_silent : (c : Bool) (f : Frame) (x : ℕ) (four_wire : Bool) → ltb x 128 ≡ c → reads f.serial ≡ false → Silent f → Silent (addressed f x four_wire)
unfolding addressed reads
addressed_silent true f x four_wire e r h = rw e (λ q. h r)
addressed_silent false f x four_wire e r h = rw e (λ q. absurd (true≢false q))

completed_silent : (s : Serial) (f : Frame) (x : ℕ) (four_wire : Bool) → f.serial ≡ s → Silent f → Silent (completed s f x four_wire).frame
unfolding completed reads
completed_silent S.Address f x four_wire e h = addressed_silent (ltb x 128) f x four_wire refl (ap (λ (s : Serial). reads s) e) h
completed_silent (S.Read a) f x four_wire e h = λ q. absurd (true≢false q)
completed_silent (S.Write a) f x four_wire e h = λ q. h (ap (λ (s : Serial). reads s) e)

taken_silent : (c : Bool) (f : Frame) (mosi four_wire : Bool) → ltb f.rx_bits 7 ≡ c → Silent f → Silent (take_bit f mosi four_wire).frame
unfolding take_bit
taken_silent true f mosi four_wire e h = rw e h
taken_silent false f mosi four_wire e h = rw e (completed_silent f.serial f (shifted_in f.rx mosi) four_wire refl h)

moved_silent : (s : Serial) (f : Frame) (t : Option ℕ) → f.serial ≡ s → Silent f → Silent (moved s f t)
unfolding moved reads
moved_silent S.Address f t e h = λ q. ((h q).0, refl)
moved_silent (S.Read a) f t e h = λ q. absurd (true≢false (sym (ap (λ (s : Serial). reads s) e) ∙ q))
moved_silent (S.Write a) f t e h = λ q. ((h q).0, refl)

output_silent : (shows : ℕ → Option ℕ) (f : Frame) (k : Shift) → Silent f → Silent (output shows f k)
unfolding output
output_silent shows f H.Stay h = h
output_silent shows f (H.Fetch a) h = moved_silent f.serial f (shows a) refl h
output_silent shows f H.Next h = moved_silent f.serial f f.tx refl h

rise_silent : (turnaround : Bool) (n : Now) (f : Frame) (mosi : Bool) → f.turnaround ≡ turnaround → Silent f → Silent (serve n f (Rise mosi))
rise_silent true n f mosi t h = subst Silent (sym (turning_serves n f mosi t)) (output_silent n.shows (turned f) (turnaround_shift n f) h)
rise_silent false n f mosi t h =
    let u = take_bit f mosi n.four_wire in
    subst Silent (sym (bit_serves n f mosi t)) (output_silent n.shows u.frame (rise_shift n u) (taken_silent (ltb f.rx_bits 7) f mosi n.four_wire refl h))

serve_silent : (n : Now) (f : Frame) (e : Event) → Silent f → Silent (serve n f e)
unfolding serve
serve_silent n f (Rise mosi) h = rise_silent f.turnaround n f mosi refl h
serve_silent n f Fall h = output_silent n.shows f (fall_shift n f) h

pub fresh_silent : (selected : Bool) → Silent (fresh selected)
fresh_silent selected q = (refl, refl)

-- no event, in any wire mode, makes a frame send outside a read
pub left_silent : (f : Frame) (es : List Event) (ns : List Now) → Silent f → Silent (left f es ns)
unfolding left
left_silent f [] ns h = h
left_silent f (e ∷ es) ns h = left_silent (serve (now ns) f e) es (drop 1 ns) (serve_silent (now ns) f e h)

-- released, with its byte dropped or not, such a frame is as it was
abbrev pub Unchanged : Frame → Type 0
Unchanged f = (released f ≡ f) × (released (sending f None) ≡ f)

pub release_changes_nothing : (f : Frame) → Silent f → reads f.serial ≡ false → Unchanged f
release_changes_nothing f h r =
    let floats : released f ≡ f = ap (λ (d : Drive). record { serial = f.serial; selected = f.selected; rx = f.rx; rx_bits = f.rx_bits; tx = f.tx; tx_bit = f.tx_bit; driven = d; turnaround = f.turnaround }) (sym (h r).1) in
    (floats, ap (λ (t : Option ℕ). released (sending f t)) (sym (h r).0) ∙ floats)

completed_writes : (s : Serial) (f : Frame) (x : ℕ) (four_wire : Bool) (a v : ℕ) → (completed s f x four_wire).write ≡ Some (a, v) → reads (completed s f x four_wire).frame.serial ≡ false
unfolding completed reads
completed_writes S.Address f x four_wire a v e = let z : ◌≡◌ {A = ℕ} 0 1 = cc in absurd (omega arith)
completed_writes (S.Read r) f x four_wire a v e = let z : ◌≡◌ {A = ℕ} 0 1 = cc in absurd (omega arith)
completed_writes (S.Write r) f x four_wire a v e = refl

taken_writes : (c : Bool) (f : Frame) (mosi four_wire : Bool) (a v : ℕ) → ltb f.rx_bits 7 ≡ c → (take_bit f mosi four_wire).write ≡ Some (a, v)
    → reads (take_bit f mosi four_wire).frame.serial ≡ false
unfolding take_bit
taken_writes true f mosi four_wire a v e w = let none : None ≡ Some (a, v) = rw e at w in let z : ◌≡◌ {A = ℕ} 0 1 = cc in absurd (omega arith)
taken_writes false f mosi four_wire a v e w = rw e (completed_writes f.serial f (shifted_in f.rx mosi) four_wire a v (rw e at w))

-- a write that pauses or resets the sensor (`pause`, `soft_reset`) leaves the frame as the bit left it
pub write_releases_nothing : (f : Frame) (mosi four_wire : Bool) (a v : ℕ) → Silent f → (take_bit f mosi four_wire).write ≡ Some (a, v) → Unchanged (take_bit f mosi four_wire).frame
write_releases_nothing f mosi four_wire a v h w =
    release_changes_nothing (take_bit f mosi four_wire).frame (taken_silent (ltb f.rx_bits 7) f mosi four_wire refl h) (taken_writes (ltb f.rx_bits 7) f mosi four_wire a v refl w)
