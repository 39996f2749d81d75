-- The select pin, and write frames, whatever the wire mode and the registers at each event.
use Rattle.std.specs.Prelude.{◌≡◌, Bool, cond, ℕ, suc, ◌+◌, ◌≤◌, ◌<◌, drop, Option, Some, None}
use Rattle.std.proofs.Math.Path.{refl, ap}
use Rattle.std.proofs.Common.{sym, ◌∙◌, lt-ltb, leb→le, drop-drop}
use Rattle.std.proofs.Math.Bool.{true, false}
use mathlib.Core.List.{List, [], ◌∷◌, ◌++◌}
use Rattle.std.proofs.Math.Nat.{add-zero}
use native.Mathlib.Omega.{arith}
use Rattle.std.proofs.lemmas.Bool.{lt-leb, true≢false, false≢true}
use Rattle.std.proofs.Math.ListN.{length}
use Rattle.laws.specs.Bytes.{sent_bit, shifted_in, all_shifted_in, seven_bits, bits_make_the_byte}
use Rattle.spi.specs.declared.types.Serial.{Serial}
use Rattle.spi.specs.declared.types.Serial.TheVariants as S
use Rattle.spi.specs.declared.types.Drive.TheVariants as D
use Rattle.spi.specs.declared.types.Clocked.{Clocked}
use Rattle.spi.specs.declared.types.Clocked.TheVariants as C
use Rattle.spi.specs.declared.types.Frame.{Frame}
use Rattle.spi.specs.declared.types.Taken.{Taken}
use Rattle.spi.specs.declared.types.Shift.TheVariants as H
use Rattle.spi.specs.Frame.{fresh, differs, select, reads, first_bit, addressed, completed, take_bit, moves, fetches, shifts, moved, consumes_at_rise, consumes_at_fall}
use Rattle.spi.specs.Lines.{Event, Rise, Fall, Deed, Wrote, Now, output, bit_served, serve, read_deeds, wrote, fetched, bit_deeds, deeds, samples, Seen, seen_at, now, left, seen}
use Rattle.spi.specs.Courses.{clocked, eight_rises, write_frame, Pair, Fit, write_frames}
use Rattle.spi.specs.Answers.{floats, taken_answer, address_answer, write_answer, writes_answer}

-- ---- lists of events one after the other

pub drop_more : (k : ℕ) (ns : List Now) → drop k (drop 1 ns) ≡ drop (suc k) ns
drop_more k ns = drop-drop k 1 ns ∙ (let e : 1 + k ≡ suc k = omega arith in ap (λ (m : ℕ). drop m ns) e)

pub left_append : (es ds : List Event) (f : Frame) (ns : List Now) → left f (es ++ ds) ns ≡ left (left f es ns) ds (drop (length es) ns)
unfolding left
left_append [] ds f ns = refl
left_append (e ∷ es) ds f ns =
    left_append es ds (serve (now ns) f e) (drop 1 ns)
    ∙ ap (λ (ms : List Now). left (left (serve (now ns) f e) es (drop 1 ns)) ds ms) (drop_more (length es) ns)

pub seen_append : (es ds : List Event) (f : Frame) (ns : List Now) → seen f (es ++ ds) ns ≡ seen f es ns ++ seen (left f es ns) ds (drop (length es) ns)
unfolding seen left
seen_append [] ds f ns = refl
seen_append (e ∷ es) ds f ns =
    ap (λ (l : List Seen). seen_at (now ns) f e ∷ l)
    (seen_append es ds (serve (now ns) f e) (drop 1 ns)
    ∙ ap (λ (ms : List Now). seen (serve (now ns) f e) es (drop 1 ns) ++ seen (left (serve (now ns) f e) es (drop 1 ns)) ds ms) (drop_more (length es) ns))

-- the sensor serves a list of events: what is seen, and the frame that is left
pub record Serves (f : Frame) (es : List Event) (ns : List Now) (answer : List Seen) (g : Frame) : Type 0 where
  pub is_seen : seen f es ns ≡ answer
  pub is_left : left f es ns ≡ g

-- one list after the other
pub and_serves : {f g h : Frame} {es ds : List Event} {ns : List Now} {a b : List Seen} → Serves f es ns a g → Serves g ds (drop (length es) ns) b h → Serves f (es ++ ds) ns (a ++ b) h
and_serves {f} {g} {h} {es} {ds} {ns} {a} {b} p q =
    record {
      is_seen = seen_append es ds f ns
          ∙ ap (λ (l : List Seen). l ++ seen (left f es ns) ds (drop (length es) ns)) p.is_seen
          ∙ ap (λ (u : Frame). a ++ seen u ds (drop (length es) ns)) p.is_left
          ∙ ap (λ (l : List Seen). a ++ l) q.is_seen;
      is_left = left_append es ds f ns ∙ ap (λ (u : Frame). left u ds (drop (length es) ns)) p.is_left ∙ q.is_left;
    }

-- one event
pub one_event : {f g : Frame} {e : Event} {ns : List Now} {s : Bool} {ds : List Deed} → serve (now ns) f e ≡ g → samples (now ns) f e ≡ s → deeds (now ns) f e ≡ ds
    → Serves f (e ∷ []) ns (record { driven = g.driven; sampled = s; deeds = ds } ∷ []) g
unfolding seen left
one_event {f} {g} {e} {ns} {s} {ds} p q r =
    record {
      is_seen = ap (λ (u : Frame). record { driven = u.driven; sampled = samples (now ns) f e; deeds = deeds (now ns) f e } ∷ []) p
          ∙ ap (λ (b : Bool). record { driven = g.driven; sampled = b; deeds = deeds (now ns) f e } ∷ []) q
          ∙ ap (λ (l : List Deed). record { driven = g.driven; sampled = s; deeds = l } ∷ []) r;
      is_left = p;
    }

-- ---- the select pin

-- two levels differ exactly if they are not the same
pub differs_if : (was l : Bool) → (was ≡ l → ⊥) → differs was l ≡ true
unfolding differs
differs_if true true h = absurd (h refl)
differs_if true false h = refl
differs_if false true h = refl
differs_if false false h = absurd (h refl)

pub differs_only_if : (was l : Bool) → differs was l ≡ true → was ≡ l → ⊥
unfolding differs
differs_only_if true true h e = false≢true h
differs_only_if true false h e = true≢false e
differs_only_if false true h e = false≢true e
differs_only_if false false h e = false≢true h

same_level : (l : Bool) → differs l l ≡ false
unfolding differs
same_level true = refl
same_level false = refl

-- another level drops the frame, whatever it was
pub select_drops : (f : Frame) (l : Bool) → (f.selected ≡ l → ⊥) → select f l ≡ fresh l
unfolding select
select_drops f l h = rw (differs_if f.selected l h)

-- the same level changes nothing
pub select_keeps : (f : Frame) (l : Bool) → f.selected ≡ l → select f l ≡ f
unfolding select
select_keeps f l h = rw (ap (λ (m : Bool). differs f.selected m) (sym h) ∙ same_level f.selected)

anew : (was : Bool) (f : Frame) → f.selected ≡ was → select (select f false) true ≡ fresh true
anew true f h = ap (λ (g : Frame). select g true) (select_drops f false (λ e. true≢false (sym h ∙ e))) ∙ select_drops (fresh false) true false≢true
anew false f h = ap (λ (g : Frame). select g true) (select_keeps f false h) ∙ select_drops f true (λ e. false≢true (sym h ∙ e))

-- deselected and selected again, any frame begins anew
pub selected_anew : (f : Frame) → select (select f false) true ≡ fresh true
selected_anew f = anew f.selected f refl

-- a fall comes through while the sensor is not selected (`falling_at`): it changes nothing, takes no sample and does nothing
unselected_as : (shows : ℕ → Option ℕ) (w : Bool)
    → (output shows (fresh false) (shifts (fresh false) C.Fall w) ≡ fresh false) × (consumes_at_fall (fresh false) w ≡ false) × (fetched (shifts (fresh false) C.Fall w) ≡ [])
unfolding output shifts moves fetches fetched moved consumes_at_fall reads
unselected_as shows true = (refl, refl, refl)
unselected_as shows false = (refl, refl, refl)

pub fall_while_unselected : (n : Now) → (serve n (fresh false) Fall ≡ fresh false) × (samples n (fresh false) Fall ≡ false) × (deeds n (fresh false) Fall ≡ [])
unfolding serve samples deeds
fall_while_unselected n = unselected_as n.shows n.four_wire

-- ---- bits of an address or value byte

-- a selected sensor within a byte that it receives, sending nothing
abbrev pub receiving : Serial → (bits byte : ℕ) → Frame
receiving s b x = record { serial = s; selected = true; rx = x; rx_bits = b; tx = None; tx_bit = 8; driven = D.Floating; turnaround = false }

-- whether its output moves or not, it floats and fetches nothing
still_as : (shows : ℕ → Option ℕ) (moves? : Bool) (s : Serial) (b x : ℕ) → reads s ≡ false
    → let h = cond moves? (fetches s 8) H.Stay in (output shows (receiving s b x) h ≡ receiving s b x) × (fetched h ≡ [])
unfolding reads fetches output fetched moved
still_as shows true S.Address b x r = (refl, refl)
still_as shows true (S.Write a) b x r = (refl, refl)
still_as shows true (S.Read a) b x r = absurd (true≢false r)
still_as shows false s b x r = (refl, refl)

still : (shows : ℕ → Option ℕ) (at : Clocked) (four_wire : Bool) (s : Serial) (b x : ℕ) → reads s ≡ false
    → let h = shifts (receiving s b x) at four_wire in (output shows (receiving s b x) h ≡ receiving s b x) × (fetched h ≡ [])
unfolding shifts
still shows at four_wire s b x r = still_as shows (moves at four_wire false) s b x r

no_note : (s : Serial) (b : ℕ) → reads s ≡ false → first_bit s b ≡ None
unfolding reads first_bit
no_note S.Address b r = refl
no_note (S.Write a) b r = refl
no_note (S.Read a) b r = absurd (true≢false r)

-- a rise that ends in a byte received, with what the bit makes of the frame
module _ (s : Serial) (r : reads s ≡ false) (b x : ℕ) (d : Bool) (to : Serial) (q : reads to ≡ false) (c y : ℕ) where
  rise_received : (ns : List Now) (w : Option (ℕ × ℕ)) (sampled : Bool) → take_bit (receiving s b x) d (now ns).four_wire ≡ record { frame = receiving to c y; write = w }
      → consumes_at_rise (receiving s b x) ≡ sampled
      → Serves (receiving s b x) (Rise d ∷ []) ns (record { driven = D.Floating; sampled = sampled; deeds = wrote w ++ [] } ∷ []) (receiving to c y)
  unfolding serve deeds samples read_deeds
  rise_received ns w sampled e g =
      let n = now ns in
      let stays = still n.shows C.Rise n.four_wire_then to c y q in
      one_event (ap (λ (t : Taken). bit_served n t) e ∙ stays.0) g
      (ap (λ (t : Taken). bit_deeds n (first_bit s b) t) e
      ∙ ap (λ (k : Option ℕ). read_deeds k ++ (wrote w ++ fetched (shifts (receiving to c y) C.Rise n.four_wire_then))) (no_note s b r)
      ∙ ap (λ (l : List Deed). wrote w ++ l) stays.1)

module _ (s : Serial) (r : reads s ≡ false) where
  bit_received : (b x : ℕ) (d four_wire : Bool) → b < 7 → take_bit (receiving s b x) d four_wire ≡ record { frame = receiving s (b + 1) (shifted_in x d); write = None }
  unfolding take_bit
  bit_received b x d four_wire h = rw (lt-ltb b 7 h)

  no_sample : (b x : ℕ) → b < 7 → consumes_at_rise (receiving s b x) ≡ false
  unfolding consumes_at_rise
  no_sample b x h = rw (lt-leb 7 b h, r)

  one_rise : (b x : ℕ) (d : Bool) (ns : List Now) → b < 7 → Serves (receiving s b x) (Rise d ∷ []) ns (floats ∷ []) (receiving s (b + 1) (shifted_in x d))
  unfolding wrote
  one_rise b x d ns h = rise_received s r b x d s r (b + 1) (shifted_in x d) ns None false (bit_received b x d (now ns).four_wire h) (no_sample b x h)

  no_sample_at_fall : (b x : ℕ) (four_wire : Bool) → consumes_at_fall (receiving s b x) four_wire ≡ false
  unfolding consumes_at_fall
  no_sample_at_fall b x true = rw r
  no_sample_at_fall b x false = refl

  one_fall : (b x : ℕ) (ns : List Now) → Serves (receiving s b x) (Fall ∷ []) ns (floats ∷ []) (receiving s b x)
  unfolding serve deeds samples
  one_fall b x ns =
      let n = now ns in
      let stays = still n.shows C.Fall n.four_wire s b x r in one_event stays.0 (no_sample_at_fall b x n.four_wire) stays.1

  -- two events for each bit
  unfoldable pub each_floats : List Bool → List Seen
  each_floats [] = []
  each_floats (d ∷ ds) = floats ∷ floats ∷ each_floats ds

  -- fewer than eight bits: the pin floats and nothing is done
  pub bits_received : (ds : List Bool) (b x : ℕ) (ns : List Now) → b + length ds ≤ 7
      → Serves (receiving s b x) (clocked ds) ns (each_floats ds) (receiving s (b + length ds) (all_shifted_in x ds))
  unfolding seen left clocked all_shifted_in each_floats
  bits_received [] b x ns h = record { is_seen = refl; is_left = rw add-zero }
  bits_received (d ∷ ds) b x ns h =
      let e : b + 1 + length ds ≡ b + length (d ∷ ds) = omega arith in
      let less : b < 7 = omega arith in
      let rest = bits_received ds (b + 1) (shifted_in x d) (drop 1 (drop 1 ns)) (rw e h) in
      let all = and_serves (one_rise b x d ns less) (and_serves (one_fall (b + 1) (shifted_in x d) (drop 1 ns)) rest) in
      record { is_seen = all.is_seen; is_left = all.is_left ∙ ap (λ (m : ℕ). receiving s m (all_shifted_in (shifted_in x d) ds)) e }

  -- the first seven bits of a byte
  pub seven_received : (b : ℕ) (ns : List Now) → Serves (receiving s 0 0) (clocked (seven_bits b)) ns (each_floats (seven_bits b)) (receiving s 7 (all_shifted_in 0 (seven_bits b)))
  seven_received b ns = bits_received (seven_bits b) 0 0 ns (leb→le 7 7 tt)

-- ---- write frames

-- the eighth rise of an address byte below 128: a value byte follows
write_addressed : (a : ℕ) (four_wire : Bool) → a < 128
    → take_bit (receiving S.Address 7 (all_shifted_in 0 (seven_bits a))) (sent_bit a 7) four_wire ≡ record { frame = receiving (S.Write a) 0 0; write = None }
unfolding take_bit completed addressed
write_addressed a four_wire h = rw (bits_make_the_byte a (omega arith), lt-ltb a 128 h)

-- the eighth rise of a value byte: it is written, and an address byte follows
value_completed : (a x : ℕ) (four_wire : Bool) → x < 256
    → take_bit (receiving (S.Write a) 7 (all_shifted_in 0 (seven_bits x))) (sent_bit x 7) four_wire ≡ record { frame = fresh true; write = Some (a, x) }
unfolding take_bit completed
value_completed a x four_wire h = rw (bits_make_the_byte x h)

pub write_address_served : (a : ℕ) (ns : List Now) → a < 128 → Serves (fresh true) (eight_rises a) ns address_answer (receiving (S.Write a) 0 0)
unfolding clocked each_floats reads wrote consumes_at_rise
write_address_served a ns h =
    and_serves (seven_received S.Address refl a ns)
    (rise_received S.Address refl 7 _ (sent_bit a 7) (S.Write a) refl 0 0 (drop 14 ns) None true (write_addressed a (now (drop 14 ns)).four_wire h) refl)

pub value_served : (a x : ℕ) (ns : List Now) → x < 256 → Serves (receiving (S.Write a) 0 0) (eight_rises x) ns (taken_answer (Wrote a x ∷ [])) (fresh true)
unfolding clocked each_floats reads wrote consumes_at_rise
value_served a x ns h =
    and_serves (seven_received (S.Write a) refl x ns)
    (rise_received (S.Write a) refl 7 _ (sent_bit x 7) S.Address refl 0 0 (drop 14 ns) (Some (a, x)) true (value_completed a x (now (drop 14 ns)).four_wire h) refl)

-- a fall before a frame, or after a write frame, does nothing
pub fall_between_frames : (ns : List Now) → Serves (fresh true) (Fall ∷ []) ns (floats ∷ []) (fresh true)
unfolding reads
fall_between_frames ns = one_fall S.Address refl 0 0 ns

-- whatever the wire mode and the registers at each event: the pin floats throughout, the sixteenth rise writes x at a, nothing else is done, and the frame is as before its first bit, so that another can follow
pub write_served : (a x : ℕ) (ns : List Now) → a < 128 → x < 256 → Serves (fresh true) (write_frame a x) ns (write_answer a x) (fresh true)
unfolding clocked reads
write_served a x ns ha hx = and_serves (and_serves (write_address_served a ns ha) (one_fall (S.Write a) refl 0 0 (drop 15 ns))) (value_served a x (drop 16 ns) hx)

-- any number of write frames in a row without a deselect
pub writes_served : (ps : List Pair) (ns : List Now) → Fit ps → Serves (fresh true) (write_frames ps) ns (writes_answer ps) (fresh true)
unfolding write_frames writes_answer seen left clocked
writes_served [] ns h = record { is_seen = refl; is_left = refl }
writes_served (p ∷ ps) ns h =
    and_serves (and_serves (fall_between_frames ns) (write_served p.register p.value (drop 1 ns) h.0 h.1)) (writes_served ps (drop 32 ns) h.2)
