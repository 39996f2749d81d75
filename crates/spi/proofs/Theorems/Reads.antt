-- Read frames of any number of bytes, each the byte that its register shows at the event that fetches it.
use Rattle.std.specs.Prelude.{◌≡◌, Bool, true, false, not, List, [], ◌∷◌, ◌++◌, ℕ, ◌+◌, ◌%◌, ◌<◌, length, drop, replicate, Option, Some, None}
use Rattle.std.proofs.Math.Path.{refl, ap}
use Rattle.std.proofs.Common.{sym, subst, ◌∙◌, arith, le-ltb, drop-drop}
use Rattle.laws.specs.Bytes.{sent_bit, all_shifted_in, seven_bits, bits_make_the_byte}
use Rattle.spi.specs.declared.types.Serial.TheVariants as S
use Rattle.spi.specs.declared.types.Drive.{Drive}
use Rattle.spi.specs.declared.types.Drive.TheVariants as D
use Rattle.spi.specs.declared.types.Clocked.TheVariants as C
use Rattle.spi.specs.declared.types.Frame.{Frame}
use Rattle.spi.specs.declared.types.Taken.{Taken}
use Rattle.spi.specs.declared.types.Shift.{Shift}
use Rattle.spi.specs.declared.types.Shift.TheVariants as H
use Rattle.spi.specs.Frame.{fresh, reads, first_bit, addressed, completed, take_bit, moves, fetches, shifts, bit_drive, level, next_bit, moved, consumes_at_rise, consumes_at_fall}
use Rattle.spi.specs.Lines.{Event, Rise, Fall, Fetched, ReadBegan, Now, output, bit_served, serve, read_deeds, wrote, fetched, bit_deeds, deeds, samples, Seen, seen_at, now, shown, left, seen}
use Rattle.spi.specs.Courses.{clocked, eight_rises, Levels8, read_rises, read_byte, read_bytes, four_wire_read, turnaround_clock, three_wire_read, output_mode, Keeps}
use Rattle.spi.specs.Answers.{floats, floats_and, address_answer, drive_for, shows_bit, shows_bit_and, next_register, register_after, four_wire_rises, four_wire_byte, four_wire_bytes, drive_after, four_wire_answer, turnaround_answer, three_wire_bits, three_wire_byte, next_byte_shown, three_wire_bytes, sent_after, three_wire_answer, to_read, first_shown}
use Rattle.spi.proofs.Theorems.Frames.{drop_more, Serves, and_serves, one_event, receiving, each_floats, seven_received}

-- ---- the address byte of a read

read_addressed : (a : ℕ) (four_wire : Bool) → a < 128
    → take_bit (receiving S.Address 7 (all_shifted_in 0 (seven_bits (128 + a)))) (sent_bit (128 + a) 7) four_wire
    ≡ record { frame = to_read a D.Floating (not four_wire); write = None }
unfolding take_bit completed addressed
read_addressed a four_wire h =
    let m : (128 + a) % 128 ≡ a = omega arith in rw (bits_make_the_byte (128 + a) (omega arith), le-ltb (128 + a) 128 (omega arith), m)

-- the eighth rise as it is where the output stays
module _ (a : ℕ) (h : a < 128) (ns : List Now) where
  last_rise : (four_wire : Bool) → (now ns).four_wire ≡ four_wire → shifts (to_read a D.Floating (not four_wire)) C.Rise (now ns).four_wire_then ≡ H.Stay
      → Serves (receiving S.Address 7 (all_shifted_in 0 (seven_bits (128 + a)))) (Rise (sent_bit (128 + a) 7) ∷ []) ns (floats_and [] ∷ []) (to_read a D.Floating (not four_wire))
  unfolding serve deeds samples first_bit consumes_at_rise read_deeds wrote fetched output
  last_rise four_wire e stays =
      let n = now ns in
      let t = ap (λ (w : Bool). take_bit (receiving S.Address 7 (all_shifted_in 0 (seven_bits (128 + a)))) (sent_bit (128 + a) 7) w) e ∙ read_addressed a four_wire h in
      one_event (ap (λ (u : Taken). bit_served n u) t ∙ ap (λ (k : Shift). output n.shows (to_read a D.Floating (not four_wire)) k) stays) refl
      (ap (λ (u : Taken). bit_deeds n None u) t ∙ ap (λ (k : Shift). fetched k) stays)

-- in four-wire mode at the eighth rise the byte of register a is to be fetched next
pub four_wire_address_served : (a : ℕ) (ns : List Now) → a < 128 → (now (drop 14 ns)).four_wire ≡ true → (now (drop 14 ns)).four_wire_then ≡ true
    → Serves (fresh true) (eight_rises (128 + a)) ns address_answer (to_read a D.Floating false)
unfolding clocked each_floats reads shifts moves
four_wire_address_served a ns h met then_too =
    and_serves (seven_received S.Address refl (128 + a) ns) (last_rise a h (drop 14 ns) true met (rw then_too))

stays_turning : (a : ℕ) (four_wire : Bool) → shifts (to_read a D.Floating true) C.Rise four_wire ≡ H.Stay
unfolding shifts moves
stays_turning a true = refl
stays_turning a false = refl

-- in three-wire mode after a turnaround
pub three_wire_address_served : (a : ℕ) (ns : List Now) → a < 128 → (now (drop 14 ns)).four_wire ≡ false
    → Serves (fresh true) (eight_rises (128 + a)) ns address_answer (to_read a D.Floating true)
unfolding clocked each_floats reads shifts moves
three_wire_address_served a ns h met = and_serves (seven_received S.Address refl (128 + a) ns) (last_rise a h (drop 14 ns) false met (stays_turning a (now (drop 14 ns)).four_wire_then))

-- ---- the wire mode on the way

keeps_append : (w : Bool) (es ds : List Event) (ns : List Now) → Keeps w (es ++ ds) ns → Keeps w es ns × Keeps w ds (drop (length es) ns)
keeps_append w [] ds ns k = (tt, k)
keeps_append w (e ∷ es) ds ns k =
    let r = keeps_append w es ds (drop 1 ns) k.1 in ((k.0, r.0), subst (λ (ms : List Now). Keeps w ds ms) (drop_more (length es) ns) r.1)

-- the sensor at an event, with this wire mode where the output goes by it
abbrev in_mode : (four_wire : Bool) → Now → Event → Now
in_mode w n (Rise d) = record { four_wire = n.four_wire; four_wire_then = w; shows = n.shows }
in_mode w n Fall = record { four_wire = w; four_wire_then = n.four_wire_then; shows = n.shows }

is_in_mode : (w : Bool) (n : Now) (e : Event) → output_mode n e ≡ w → in_mode w n e ≡ n
is_in_mode w n (Rise d) h = ap (λ (b : Bool). record { four_wire = n.four_wire; four_wire_then = b; shows = n.shows }) (sym h)
is_in_mode w n Fall h = ap (λ (b : Bool). record { four_wire = b; four_wire_then = n.four_wire_then; shows = n.shows }) (sym h)

abbrev all_in_mode : (four_wire : Bool) → List Event → List Now → List Now
all_in_mode w [] ns = []
all_in_mode w (e ∷ es) ns = in_mode w (now ns) e ∷ all_in_mode w es (drop 1 ns)

seen_in_mode : (w : Bool) (es : List Event) (f : Frame) (ns : List Now) → Keeps w es ns → seen f es ns ≡ seen f es (all_in_mode w es ns)
unfolding seen
seen_in_mode w [] f ns k = refl
seen_in_mode w (e ∷ es) f ns k =
    ap (λ (n : Now). seen_at n f e ∷ seen (serve n f e) es (drop 1 ns)) (sym (is_in_mode w (now ns) e k.0))
    ∙ ap (λ (l : List Seen). seen_at (in_mode w (now ns) e) f e ∷ l) (seen_in_mode w es (serve (in_mode w (now ns) e) f e) (drop 1 ns) k.1)

left_in_mode : (w : Bool) (es : List Event) (f : Frame) (ns : List Now) → Keeps w es ns → left f es ns ≡ left f es (all_in_mode w es ns)
unfolding left
left_in_mode w [] f ns k = refl
left_in_mode w (e ∷ es) f ns k =
    ap (λ (n : Now). left (serve n f e) es (drop 1 ns)) (sym (is_in_mode w (now ns) e k.0))
    ∙ left_in_mode w es (serve (in_mode w (now ns) e) f e) (drop 1 ns) k.1

keeps_serves : (w : Bool) (es : List Event) {f g : Frame} {ns : List Now} {a : List Seen} → Keeps w es ns → Serves f es (all_in_mode w es ns) a g → Serves f es ns a g
keeps_serves w es {f} {g} {ns} {a} k p = record { is_seen = seen_in_mode w es f ns k ∙ p.is_seen; is_left = left_in_mode w es f ns k ∙ p.is_left }

-- ---- four-wire reads

first_level : (t : Option ℕ) → level t true 0 ≡ drive_for t 7
unfolding level bit_drive drive_for
first_level None = refl
first_level (Some b) = refl

-- a fall fetches the byte that its register then shows, and shows its first bit
pub fall_fetches : (a : ℕ) (d : Drive) (ns : List Now) → (now ns).four_wire ≡ true
    → Serves (to_read a d false) (Fall ∷ []) ns (shows_bit_and (shown ns a) 7 (Fetched a ∷ []) ∷ []) (first_shown a (shown ns a))
unfolding serve deeds samples output fetched shifts moves fetches moved next_bit consumes_at_fall reads
fall_fetches a d ns met =
    let f = to_read a d false in
    one_event
    (ap (λ (w : Bool). output (now ns).shows f (shifts f C.Fall w)) met
    ∙ ap (λ (l : Drive). record { serial = S.Read a; selected = true; rx = 0; rx_bits = 0; tx = shown ns a; tx_bit = 1; driven = l; turnaround = false }) (first_level (shown ns a)))
    (ap (λ (w : Bool). consumes_at_fall f w) met) (ap (λ (w : Bool). fetched (shifts f C.Fall w)) met)

-- all bits of a register's byte were on the pin, and none of its rises came
abbrev pub all_shown : (register : ℕ) → Option ℕ → Frame
all_shown a t = record { serial = S.Read a; selected = true; rx = 0; rx_bits = 0; tx = t; tx_bit = 8; driven = D.Floating; turnaround = false }

rises_in_mode : (a : ℕ) (t : Option ℕ) (o : Levels8) (ns : List Now)
    → Serves (first_shown a t) (read_rises o) (all_in_mode true (read_rises o) ns) (four_wire_rises a t) (to_read (next_register a) (drive_for t 0) false)
unfolding seen left serve deeds samples output read_deeds wrote fetched reads first_bit take_bit completed shifts moves fetches moved level bit_drive next_bit drive_for consumes_at_rise consumes_at_fall
rises_in_mode a None o ns = record { is_seen = refl; is_left = refl }
rises_in_mode a (Some b) o ns = record { is_seen = refl; is_left = refl }

-- eight more falls without a rise show the further bits, and the last of them floats
falls_in_mode : (a : ℕ) (t : Option ℕ) (ns : List Now)
    → Serves (first_shown a t) (replicate 8 Fall) (all_in_mode true (replicate 8 Fall) ns)
    (shows_bit t 6 ∷ shows_bit t 5 ∷ shows_bit t 4 ∷ shows_bit t 3 ∷ shows_bit t 2 ∷ shows_bit t 1 ∷ shows_bit t 0 ∷ floats ∷ []) (all_shown a t)
unfolding seen left serve deeds samples output fetched reads shifts moves fetches moved level bit_drive next_bit drive_for consumes_at_fall
falls_in_mode a None ns = record { is_seen = refl; is_left = refl }
falls_in_mode a (Some b) ns = record { is_seen = refl; is_left = refl }

-- nine falls without a rise: the byte is fetched once, and the ninth floats
pub ninth_fall_floats : (a : ℕ) (d : Drive) (ns : List Now) → Keeps true (replicate 9 Fall) ns
    → let t = shown ns a in
    Serves (to_read a d false) (replicate 9 Fall) ns
    (shows_bit_and t 7 (Fetched a ∷ []) ∷ shows_bit t 6 ∷ shows_bit t 5 ∷ shows_bit t 4 ∷ shows_bit t 3 ∷ shows_bit t 2 ∷ shows_bit t 1 ∷ shows_bit t 0 ∷ floats ∷ []) (all_shown a t)
ninth_fall_floats a d ns k = and_serves (fall_fetches a d ns k.0) (keeps_serves true (replicate 8 Fall) k.1 (falls_in_mode a (shown ns a) (drop 1 ns)))

-- a byte: the next register is to be fetched then
pub four_wire_byte_served : (a : ℕ) (d : Drive) (o : Levels8) (ns : List Now) → Keeps true (read_byte o) ns
    → Serves (to_read a d false) (read_byte o) ns (four_wire_byte a (shown ns a)) (to_read (next_register a) (drive_for (shown ns a) 0) false)
four_wire_byte_served a d o ns k = and_serves (fall_fetches a d ns k.0) (keeps_serves true (read_rises o) k.1 (rises_in_mode a (shown ns a) o (drop 1 ns)))

-- any number of bytes
pub four_wire_bytes_served : (a : ℕ) (d : Drive) (os : List Levels8) (ns : List Now) → Keeps true (read_bytes os) ns
    → Serves (to_read a d false) (read_bytes os) ns (four_wire_bytes a os ns) (to_read (register_after a os) (drive_after d a os ns) false)
unfolding read_bytes four_wire_bytes register_after drive_after seen left
four_wire_bytes_served a d [] ns k = record { is_seen = refl; is_left = refl }
four_wire_bytes_served a d (o ∷ os) ns k =
    let both = keeps_append true (read_byte o) (read_bytes os) ns k in
    and_serves (four_wire_byte_served a d o ns both.0) (four_wire_bytes_served (next_register a) (drive_for (shown ns a) 0) os (drop 16 ns) both.1)

-- a whole read frame in four-wire mode, from the eighth rise on; before it the wire mode is of no account
pub four_wire_read_served : (a : ℕ) (os : List Levels8) (ns : List Now) → a < 128
    → (now (drop 14 ns)).four_wire ≡ true → (now (drop 14 ns)).four_wire_then ≡ true → Keeps true (read_bytes os) (drop 15 ns)
    → Serves (fresh true) (four_wire_read a os) ns (four_wire_answer a os ns) (to_read (register_after a os) (drive_after D.Floating a os (drop 15 ns)) false)
unfolding clocked
four_wire_read_served a os ns h met then_too k = and_serves (four_wire_address_served a ns h met then_too) (four_wire_bytes_served a D.Floating os (drop 15 ns) k)

-- ---- three-wire reads

-- the turnaround's fall moves nothing, and its rise fetches in either wire mode
pub turnaround_served : (a : ℕ) (l : Bool) (ns : List Now) → (now ns).four_wire ≡ false
    → Serves (to_read a D.Floating true) (turnaround_clock l) ns (turnaround_answer a (shown (drop 1 ns) a)) (first_shown a (shown (drop 1 ns) a))
unfolding serve deeds samples output fetched shifts moves fetches moved next_bit consumes_at_rise consumes_at_fall reads
turnaround_served a l ns met =
    let f = to_read a D.Floating true in
    let t = shown (drop 1 ns) a in
    and_serves {es = Fall ∷ []}
    (one_event (ap (λ (w : Bool). output (now ns).shows f (shifts f C.Fall w)) met) (ap (λ (w : Bool). consumes_at_fall f w) met) (ap (λ (w : Bool). fetched (shifts f C.Fall w)) met))
    (one_event
    (ap (λ (p : Drive). record { serial = S.Read a; selected = true; rx = 0; rx_bits = 0; tx = t; tx_bit = 1; driven = p; turnaround = false }) (first_level t))
    refl refl)

-- a byte up to its eighth fall
abbrev to_eighth_fall : Levels8 → List Event
to_eighth_fall o = Fall ∷ Rise o.0 ∷ Fall ∷ Rise o.1 ∷ Fall ∷ Rise o.2 ∷ Fall ∷ Rise o.3 ∷ Fall ∷ Rise o.4 ∷ Fall ∷ Rise o.5 ∷ Fall ∷ Rise o.6 ∷ Fall ∷ []

-- the last bit of a byte is on the pin
abbrev last_shown : (register : ℕ) → Option ℕ → (rx : ℕ) → Frame
last_shown a t x = record { serial = S.Read a; selected = true; rx = x; rx_bits = 7; tx = t; tx_bit = 8; driven = drive_for t 0; turnaround = false }

-- its fifth bit is
abbrev fifth_shown : (register : ℕ) → Option ℕ → (rx : ℕ) → Frame
fifth_shown a t x = record { serial = S.Read a; selected = true; rx = x; rx_bits = 4; tx = t; tx_bit = 5; driven = drive_for t 3; turnaround = false }

module _ (a : ℕ) (o : Levels8) where
  abbrev four_levels : ℕ
  four_levels = all_shifted_in 0 (o.0 ∷ o.1 ∷ o.2 ∷ o.3 ∷ [])

  abbrev seven_levels : ℕ
  seven_levels = all_shifted_in four_levels (o.4 ∷ o.5 ∷ o.6 ∷ [])

  abbrev four_clocks : List Event
  four_clocks = Fall ∷ Rise o.0 ∷ Fall ∷ Rise o.1 ∷ Fall ∷ Rise o.2 ∷ Fall ∷ Rise o.3 ∷ []

  abbrev three_clocks : List Event
  three_clocks = Fall ∷ Rise o.4 ∷ Fall ∷ Rise o.5 ∷ Fall ∷ Rise o.6 ∷ Fall ∷ []

  four_in_mode : (t : Option ℕ) (ns : List Now)
      → Serves (first_shown a t) four_clocks (all_in_mode false four_clocks ns)
      (shows_bit t 7 ∷ shows_bit_and t 6 (ReadBegan a ∷ []) ∷ shows_bit t 6 ∷ shows_bit t 5 ∷ shows_bit t 5 ∷ shows_bit t 4 ∷ shows_bit t 4 ∷ shows_bit t 3 ∷ []) (fifth_shown a t four_levels)
  unfolding seen left serve deeds samples output read_deeds wrote fetched reads first_bit take_bit completed shifts moves fetches moved level bit_drive next_bit drive_for consumes_at_rise consumes_at_fall all_shifted_in
  four_in_mode None ns = record { is_seen = refl; is_left = refl }
  four_in_mode (Some b) ns = record { is_seen = refl; is_left = refl }

  three_in_mode : (t : Option ℕ) (x : ℕ) (ns : List Now)
      → Serves (fifth_shown a t x) three_clocks (all_in_mode false three_clocks ns)
      (shows_bit t 3 ∷ shows_bit t 2 ∷ shows_bit t 2 ∷ shows_bit t 1 ∷ shows_bit t 1 ∷ shows_bit t 0 ∷ shows_bit t 0 ∷ []) (last_shown a t (all_shifted_in x (o.4 ∷ o.5 ∷ o.6 ∷ [])))
  unfolding seen left serve deeds samples output read_deeds wrote fetched reads first_bit take_bit completed shifts moves fetches moved level bit_drive next_bit drive_for consumes_at_rise consumes_at_fall all_shifted_in
  three_in_mode None x ns = record { is_seen = refl; is_left = refl }
  three_in_mode (Some b) x ns = record { is_seen = refl; is_left = refl }

  bits_shown : (t : Option ℕ) (ns : List Now) → Keeps false (to_eighth_fall o) ns → Serves (first_shown a t) (to_eighth_fall o) ns (three_wire_bits a t) (last_shown a t seven_levels)
  bits_shown t ns k =
      let both = keeps_append false four_clocks three_clocks ns k in
      and_serves (keeps_serves false four_clocks both.0 (four_in_mode t ns)) (keeps_serves false three_clocks both.1 (three_in_mode t four_levels (drop 8 ns)))

-- the eighth rise fetches the byte that the next register then shows, and shows its first bit
eighth_rise_fetches : (a : ℕ) (t : Option ℕ) (x : ℕ) (l : Bool) (ns : List Now) → (now ns).four_wire_then ≡ false
    → let u = shown ns (next_register a) in
    Serves (last_shown a t x) (Rise l ∷ []) ns (shows_bit_and u 7 (Fetched (next_register a) ∷ []) ∷ []) (first_shown (next_register a) u)
unfolding serve deeds samples output read_deeds wrote fetched reads first_bit take_bit completed shifts moves fetches moved next_bit consumes_at_rise
eighth_rise_fetches a t x l ns keeps =
    let n = now ns in
    let u = shown ns (next_register a) in
    let f = to_read (next_register a) (drive_for t 0) false in
    one_event
    (ap (λ (w : Bool). output n.shows f (shifts f C.Rise w)) keeps
    ∙ ap (λ (p : Drive). record { serial = S.Read (next_register a); selected = true; rx = 0; rx_bits = 0; tx = u; tx_bit = 1; driven = p; turnaround = false }) (first_level u))
    refl (ap (λ (w : Bool). fetched (shifts f C.Rise w)) keeps)

-- a byte whose first bit is on the pin
pub three_wire_byte_served : (a : ℕ) (t : Option ℕ) (o : Levels8) (ns : List Now) → Keeps false (read_byte o) ns
    → Serves (first_shown a t) (read_byte o) ns (three_wire_byte a t (next_byte_shown a ns)) (first_shown (next_register a) (next_byte_shown a ns))
three_wire_byte_served a t o ns k =
    let both = keeps_append false (to_eighth_fall o) (Rise o.7 ∷ []) ns k in
    and_serves (bits_shown a o t ns both.0) (eighth_rise_fetches a t (seven_levels a o) o.7 (drop 15 ns) both.1.0)

-- any number of bytes
pub three_wire_bytes_served : (a : ℕ) (t : Option ℕ) (os : List Levels8) (ns : List Now) → Keeps false (read_bytes os) ns
    → Serves (first_shown a t) (read_bytes os) ns (three_wire_bytes a t os ns) (first_shown (register_after a os) (sent_after a t os ns))
unfolding read_bytes three_wire_bytes register_after sent_after seen left
three_wire_bytes_served a t [] ns k = record { is_seen = refl; is_left = refl }
three_wire_bytes_served a t (o ∷ os) ns k =
    let both = keeps_append false (read_byte o) (read_bytes os) ns k in
    and_serves (three_wire_byte_served a t o ns both.0) (three_wire_bytes_served (next_register a) (next_byte_shown a ns) os (drop 16 ns) both.1)

-- a whole read frame in three-wire mode, from the eighth rise on; before it and at the turnaround's rise the wire mode is of no account
pub three_wire_read_served : (a : ℕ) (l : Bool) (os : List Levels8) (ns : List Now) → a < 128
    → (now (drop 14 ns)).four_wire ≡ false → (now (drop 15 ns)).four_wire ≡ false → Keeps false (read_bytes os) (drop 17 ns)
    → Serves (fresh true) (three_wire_read a l os) ns (three_wire_answer a os ns)
    (first_shown (register_after a os) (sent_after a (shown (drop 16 ns) a) os (drop 17 ns)))
unfolding clocked
three_wire_read_served a l os ns h met at_fall k =
    let t = shown (drop 16 ns) a in
    let turns = subst (λ (ms : List Now). Serves (to_read a D.Floating true) (turnaround_clock l) (drop 15 ns) (turnaround_answer a (shown ms a)) (first_shown a (shown ms a))) (drop-drop 1 15 ns)
    (turnaround_served a l (drop 15 ns) at_fall) in
    let bytes = subst (λ (ms : List Now). Serves (first_shown a t) (read_bytes os) ms (three_wire_bytes a t os (drop 17 ns)) (first_shown (register_after a os) (sent_after a t os (drop 17 ns)))) (sym (drop-drop 2 15 ns))
    (three_wire_bytes_served a t os (drop 17 ns) k) in
    and_serves (three_wire_address_served a ns h met) (and_serves turns bytes)
