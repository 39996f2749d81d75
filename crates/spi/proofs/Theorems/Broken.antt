-- Frames that are broken off: without its sixteen rises nothing is written.
use Rattle.std.specs.Prelude.{◌≡◌, refl, Bool, true, false, List, [], ◌∷◌, ◌++◌, ℕ, suc, ◌+◌, ◌≤◌, ◌<◌, ltb, drop, Option, Some, None}
use Rattle.std.proofs.Common.{sym, subst, ◌∙◌, zero-add, arith, ltb-false}
use Rattle.std.proofs.Math.Path.{ap}
use Rattle.std.proofs.lemmas.Bool.{true≢false, false≢true}
use Rattle.std.proofs.Math.Bool.{cond}
use Rattle.laws.specs.Bytes.{shifted_in}
use Rattle.spi.specs.declared.types.Serial.{Serial}
use Rattle.spi.specs.declared.types.Serial.TheVariants as S
use Rattle.spi.specs.declared.types.Frame.{Frame}
use Rattle.spi.specs.declared.types.Taken.{Taken}
use Rattle.spi.specs.declared.types.Shift.{Shift}
use Rattle.spi.specs.declared.types.Shift.TheVariants as H
use Rattle.spi.specs.Frame.{fresh, select, reads, first_bit, addressed, completed, take_bit, turned, moved}
use Rattle.spi.specs.Lines.{Event, Rise, Fall, Deed, Wrote, Fetched, ReadBegan, Now, output, turnaround_shift, rise_shift, fall_shift, bit_served, serve, read_deeds, wrote, fetched, bit_deeds, deeds, Seen, now, left, seen}
use Rattle.spi.proofs.Theorems.Frames.{select_drops}

-- ---- the writes of a course

-- the writes among what is done
unfoldable pub writes : List Deed → List Deed
writes [] = []
writes (Wrote a x ∷ ds) = Wrote a x ∷ writes ds
writes (Fetched a ∷ ds) = writes ds
writes (ReadBegan a ∷ ds) = writes ds

-- the writes of all that is seen, in order
unfoldable pub written : List Seen → List Deed
written [] = []
written (s ∷ ss) = writes s.deeds ++ written ss

-- the rises among these events
unfoldable pub rises : List Event → ℕ
rises [] = 0
rises (Rise d ∷ es) = suc (rises es)
rises (Fall ∷ es) = rises es

-- the bits of a write that a frame holds already
unfoldable pub bits_held : Serial → (bits : ℕ) → ℕ
bits_held S.Address b = b
bits_held (S.Read a) b = 0
bits_held (S.Write a) b = 8 + b

abbrev held : Frame → ℕ
held f = bits_held f.serial f.rx_bits

-- ---- an event without a write

fetching_writes_nothing : (h : Shift) → writes (fetched h) ≡ []
unfolding writes fetched
fetching_writes_nothing H.Stay = refl
fetching_writes_nothing (H.Fetch a) = refl
fetching_writes_nothing H.Next = refl

noting_first : (k : Option ℕ) (ds : List Deed) → writes (read_deeds k ++ ds) ≡ writes ds
unfolding writes read_deeds
noting_first None ds = refl
noting_first (Some a) ds = refl

-- a rise that completes no write
bit_writes_nothing : (n : Now) (k : Option ℕ) (t : Taken) → t.write ≡ None → writes (bit_deeds n k t) ≡ []
unfolding wrote
bit_writes_nothing n k t e =
    noting_first k (wrote t.write ++ fetched (rise_shift n t))
    ∙ ap (λ (w : Option (ℕ × ℕ)). writes (wrote w ++ fetched (rise_shift n t))) e
    ∙ fetching_writes_nothing (rise_shift n t)

-- the output changes neither what the byte belongs to, nor its bits, nor whether the sensor is selected
moved_keeps : (s : Serial) (f : Frame) (t : Option ℕ) → ((moved s f t).serial ≡ f.serial) × ((moved s f t).rx_bits ≡ f.rx_bits) × ((moved s f t).selected ≡ f.selected)
unfolding moved
moved_keeps S.Address f t = (refl, refl, refl)
moved_keeps (S.Read a) f t = (refl, refl, refl)
moved_keeps (S.Write a) f t = (refl, refl, refl)

output_keeps : (shows : ℕ → Option ℕ) (f : Frame) (h : Shift)
    → ((output shows f h).serial ≡ f.serial) × ((output shows f h).rx_bits ≡ f.rx_bits) × ((output shows f h).selected ≡ f.selected)
unfolding output
output_keeps shows f H.Stay = (refl, refl, refl)
output_keeps shows f (H.Fetch a) = moved_keeps f.serial f (shows a)
output_keeps shows f H.Next = moved_keeps f.serial f f.tx

output_holds : (shows : ℕ → Option ℕ) (f : Frame) (h : Shift) → held (output shows f h) ≡ held f
output_holds shows f h =
    let k = output_keeps shows f h in
    ap (λ (s : Serial). bits_held s (output shows f h).rx_bits) k.0 ∙ ap (λ (b : ℕ). bits_held f.serial b) k.1

-- a rise, in a turnaround and outside one
module _ (n : Now) (f : Frame) (mosi : Bool) where
  pub turning_serves : f.turnaround ≡ true → serve n f (Rise mosi) ≡ output n.shows (turned f) (turnaround_shift n f)
  unfolding serve
  turning_serves t = ap (λ (b : Bool). cond b (output n.shows (turned f) (turnaround_shift n f)) (bit_served n (take_bit f mosi n.four_wire))) t

  turning_does : f.turnaround ≡ true → deeds n f (Rise mosi) ≡ fetched (turnaround_shift n f)
  unfolding deeds
  turning_does t = ap (λ (b : Bool). cond b (fetched (turnaround_shift n f)) (bit_deeds n (first_bit f.serial f.rx_bits) (take_bit f mosi n.four_wire))) t

  pub bit_serves : f.turnaround ≡ false → serve n f (Rise mosi) ≡ bit_served n (take_bit f mosi n.four_wire)
  unfolding serve
  bit_serves t = ap (λ (b : Bool). cond b (output n.shows (turned f) (turnaround_shift n f)) (bit_served n (take_bit f mosi n.four_wire))) t

  bit_does : f.turnaround ≡ false → deeds n f (Rise mosi) ≡ bit_deeds n (first_bit f.serial f.rx_bits) (take_bit f mosi n.four_wire)
  unfolding deeds
  bit_does t = ap (λ (b : Bool). cond b (fetched (turnaround_shift n f)) (bit_deeds n (first_bit f.serial f.rx_bits) (take_bit f mosi n.four_wire))) t

-- ---- too few rises

one_more_held : (s : Serial) (b m : ℕ) → bits_held s b + suc m < 16 → bits_held s (b + 1) + m < 16
unfolding bits_held
one_more_held S.Address b m h = omega arith
one_more_held (S.Read a) b m h = omega arith
one_more_held (S.Write a) b m h = omega arith

addressed_holds : (c : Bool) (f : Frame) (x m : ℕ) (four_wire : Bool) → ltb x 128 ≡ c → m < 8 → held (addressed f x four_wire) + m < 16
unfolding addressed bits_held
addressed_holds true f x m four_wire e h = rw e (omega arith)
addressed_holds false f x m four_wire e h = rw e (omega arith)

completed_too_early : (s : Serial) (f : Frame) (x b m : ℕ) (four_wire : Bool) → bits_held s b + suc m < 16 → 7 ≤ b
    → ((completed s f x four_wire).write ≡ None) × (held (completed s f x four_wire).frame + m < 16)
unfolding completed bits_held
completed_too_early S.Address f x b m four_wire h full = (refl, addressed_holds (ltb x 128) f x m four_wire refl (omega arith))
completed_too_early (S.Read a) f x b m four_wire h full = (refl, omega arith)
completed_too_early (S.Write a) f x b m four_wire h full = absurd (omega arith)

taken_too_early : (c : Bool) (f : Frame) (mosi four_wire : Bool) (m : ℕ) → ltb f.rx_bits 7 ≡ c → held f + suc m < 16
    → ((take_bit f mosi four_wire).write ≡ None) × (held (take_bit f mosi four_wire).frame + m < 16)
unfolding take_bit
taken_too_early true f mosi four_wire m e h = rw e (refl, one_more_held f.serial f.rx_bits m h)
taken_too_early false f mosi four_wire m e h =
    rw e (completed_too_early f.serial f (shifted_in f.rx mosi) f.rx_bits m four_wire h (omega (arith, ltb-false f.rx_bits 7 e)))

-- an event writes nothing, and leaves too few bits for a write in m rises
abbrev Early : Now → Frame → Event → ℕ → Type 0
Early n f e m = (writes (deeds n f e) ≡ []) × (held (serve n f e) + m < 16)

rise_too_early : (turnaround : Bool) (n : Now) (f : Frame) (mosi : Bool) (m : ℕ) → f.turnaround ≡ turnaround → held f + suc m < 16 → Early n f (Rise mosi) m
rise_too_early true n f mosi m t h =
    let o = output_holds n.shows (turned f) (turnaround_shift n f) in (
      ap writes (turning_does n f mosi t) ∙ fetching_writes_nothing (turnaround_shift n f),
      subst (λ (g : Frame). held g + m < 16) (sym (turning_serves n f mosi t)) (rw o (omega arith)),
    )
rise_too_early false n f mosi m t h =
    let u = take_bit f mosi n.four_wire in
    let e = taken_too_early (ltb f.rx_bits 7) f mosi n.four_wire m refl h in
    let o = output_holds n.shows u.frame (rise_shift n u) in (
      ap writes (bit_does n f mosi t) ∙ bit_writes_nothing n (first_bit f.serial f.rx_bits) u e.0,
      subst (λ (g : Frame). held g + m < 16) (sym (bit_serves n f mosi t)) (rw o e.1),
    )

fall_too_early : (n : Now) (f : Frame) (m : ℕ) → held f + m < 16 → Early n f Fall m
unfolding serve deeds
fall_too_early n f m h = (fetching_writes_nothing (fall_shift n f), rw (output_holds n.shows f (fall_shift n f)) h)

-- a frame that holds b bits of a write writes nothing before its (16 − b)th rise, whatever the wire modes and registers on the way
pub too_few_rises_write_nothing : (f : Frame) (es : List Event) (ns : List Now) → bits_held f.serial f.rx_bits + rises es < 16 → written (seen f es ns) ≡ []
unfolding seen rises written
too_few_rises_write_nothing f [] ns h = refl
too_few_rises_write_nothing f (Rise d ∷ es) ns h =
    let r = rise_too_early f.turnaround (now ns) f d (rises es) refl h in
    ap (λ (l : List Deed). l ++ written (seen (serve (now ns) f (Rise d)) es (drop 1 ns))) r.0
    ∙ too_few_rises_write_nothing (serve (now ns) f (Rise d)) es (drop 1 ns) r.1
too_few_rises_write_nothing f (Fall ∷ es) ns h =
    let r = fall_too_early (now ns) f (rises es) h in
    ap (λ (l : List Deed). l ++ written (seen (serve (now ns) f Fall) es (drop 1 ns))) r.0
    ∙ too_few_rises_write_nothing (serve (now ns) f Fall) es (drop 1 ns) r.1

-- ---- the frame stays selected

addressed_selected : (c : Bool) (f : Frame) (x : ℕ) (four_wire : Bool) → ltb x 128 ≡ c → (addressed f x four_wire).selected ≡ f.selected
unfolding addressed
addressed_selected true f x four_wire e = rw e
addressed_selected false f x four_wire e = rw e

completed_selected : (s : Serial) (f : Frame) (x : ℕ) (four_wire : Bool) → (completed s f x four_wire).frame.selected ≡ f.selected
unfolding completed
completed_selected S.Address f x four_wire = addressed_selected (ltb x 128) f x four_wire refl
completed_selected (S.Read a) f x four_wire = refl
completed_selected (S.Write a) f x four_wire = refl

taken_selected : (c : Bool) (f : Frame) (mosi four_wire : Bool) → ltb f.rx_bits 7 ≡ c → (take_bit f mosi four_wire).frame.selected ≡ f.selected
unfolding take_bit
taken_selected true f mosi four_wire e = rw e
taken_selected false f mosi four_wire e = rw e (completed_selected f.serial f (shifted_in f.rx mosi) four_wire)

rise_selected : (turnaround : Bool) (n : Now) (f : Frame) (mosi : Bool) → f.turnaround ≡ turnaround → (serve n f (Rise mosi)).selected ≡ f.selected
rise_selected true n f mosi t = ap (λ (g : Frame). g.selected) (turning_serves n f mosi t) ∙ (output_keeps n.shows (turned f) (turnaround_shift n f)).2
rise_selected false n f mosi t =
    let u = take_bit f mosi n.four_wire in
    ap (λ (g : Frame). g.selected) (bit_serves n f mosi t) ∙ (output_keeps n.shows u.frame (rise_shift n u)).2 ∙ taken_selected (ltb f.rx_bits 7) f mosi n.four_wire refl

serve_selected : (n : Now) (f : Frame) (e : Event) → (serve n f e).selected ≡ f.selected
unfolding serve
serve_selected n f (Rise mosi) = rise_selected f.turnaround n f mosi refl
serve_selected n f Fall = (output_keeps n.shows f (fall_shift n f)).2

-- no event changes whether the sensor is selected
pub left_selected : (f : Frame) (es : List Event) (ns : List Now) → (left f es ns).selected ≡ f.selected
unfolding left
left_selected f [] ns = refl
left_selected f (e ∷ es) ns = left_selected (serve (now ns) f e) es (drop 1 ns) ∙ serve_selected (now ns) f e

-- a frame broken off by a deselect before its sixteenth rise, whatever its bits, has written nothing, and nothing of it is left
pub broken_frame_writes_nothing : (es : List Event) (ns : List Now) → rises es < 16
    → (written (seen (fresh true) es ns) ≡ []) × (select (left (fresh true) es ns) false ≡ fresh false)
unfolding bits_held
broken_frame_writes_nothing es ns h = (
  too_few_rises_write_nothing (fresh true) es ns (rw zero-add h),
  select_drops (left (fresh true) es ns) false (λ e. true≢false (sym (left_selected (fresh true) es ns) ∙ e)),
)

-- ---- a read writes nothing

completed_reads : (s : Serial) (f : Frame) (x : ℕ) (four_wire : Bool) → reads s ≡ true
    → ((completed s f x four_wire).write ≡ None) × (reads (completed s f x four_wire).frame.serial ≡ true)
unfolding completed reads
completed_reads S.Address f x four_wire r = absurd (false≢true r)
completed_reads (S.Read a) f x four_wire r = (refl, refl)
completed_reads (S.Write a) f x four_wire r = absurd (false≢true r)

taken_reads : (c : Bool) (f : Frame) (mosi four_wire : Bool) → ltb f.rx_bits 7 ≡ c → reads f.serial ≡ true
    → ((take_bit f mosi four_wire).write ≡ None) × (reads (take_bit f mosi four_wire).frame.serial ≡ true)
unfolding take_bit
taken_reads true f mosi four_wire e r = rw e (refl, r)
taken_reads false f mosi four_wire e r = rw e (completed_reads f.serial f (shifted_in f.rx mosi) four_wire r)

output_reads : (shows : ℕ → Option ℕ) (f : Frame) (h : Shift) → reads f.serial ≡ true → reads (output shows f h).serial ≡ true
output_reads shows f h r = ap (λ (s : Serial). reads s) (output_keeps shows f h).0 ∙ r

-- an event writes nothing, and a read goes on
abbrev Reading : Now → Frame → Event → Type 0
Reading n f e = (writes (deeds n f e) ≡ []) × (reads (serve n f e).serial ≡ true)

rise_reading : (turnaround : Bool) (n : Now) (f : Frame) (mosi : Bool) → f.turnaround ≡ turnaround → reads f.serial ≡ true → Reading n f (Rise mosi)
rise_reading true n f mosi t r = (
  ap writes (turning_does n f mosi t) ∙ fetching_writes_nothing (turnaround_shift n f),
  ap (λ (g : Frame). reads g.serial) (turning_serves n f mosi t) ∙ output_reads n.shows (turned f) (turnaround_shift n f) r,
)
rise_reading false n f mosi t r =
    let u = take_bit f mosi n.four_wire in
    let e = taken_reads (ltb f.rx_bits 7) f mosi n.four_wire refl r in (
      ap writes (bit_does n f mosi t) ∙ bit_writes_nothing n (first_bit f.serial f.rx_bits) u e.0,
      ap (λ (g : Frame). reads g.serial) (bit_serves n f mosi t) ∙ output_reads n.shows u.frame (rise_shift n u) e.1,
    )

event_reading : (n : Now) (f : Frame) (e : Event) → reads f.serial ≡ true → Reading n f e
unfolding serve deeds
event_reading n f (Rise mosi) r = rise_reading f.turnaround n f mosi refl r
event_reading n f Fall r = (fetching_writes_nothing (fall_shift n f), output_reads n.shows f (fall_shift n f) r)

-- once the address byte of a read is in, nothing is written until the sensor is deselected, however many edges come
pub a_read_writes_nothing : (f : Frame) (es : List Event) (ns : List Now) → reads f.serial ≡ true → written (seen f es ns) ≡ []
unfolding seen written
a_read_writes_nothing f [] ns r = refl
a_read_writes_nothing f (e ∷ es) ns r =
    let one = event_reading (now ns) f e r in
    ap (λ (l : List Deed). l ++ written (seen (serve (now ns) f e) es (drop 1 ns))) one.0 ∙ a_read_writes_nothing (serve (now ns) f e) es (drop 1 ns) one.1
