-- Within a write frame falls of the clock are of no account: only its rises count, and any number of falls may stand between them.
use Rattle.std.specs.Prelude.{ℕ, ◌+◌, ◌≤◌, ◌<◌, ◌≡◌, Bool, true, false, cond, drop, Option, Some, None}
use Rattle.std.proofs.Math.Nat.{add-zero}
use native.Mathlib.Omega.{arith}
use Rattle.std.proofs.Math.Path.{refl, subst}
use Rattle.std.proofs.Common.{sym, ap, ◌∙◌, lt-ltb, leb→le}
use mathlib.Core.List.{List, [], ◌∷◌, ◌++◌}
use Rattle.std.proofs.Math.ListN.{length}
use Rattle.laws.specs.Bytes.{sent_bit, shifted_in, all_shifted_in, seven_bits, bits_make_the_byte}
use Rattle.spi.specs.declared.types.Serial.{Serial}
use Rattle.spi.specs.declared.types.Serial.TheVariants as S
use Rattle.spi.specs.declared.types.Drive.TheVariants as D
use Rattle.spi.specs.declared.types.Frame.{Frame}
use Rattle.spi.specs.declared.types.Taken.{Taken}
use Rattle.spi.specs.declared.types.Clocked.{Clocked}
use Rattle.spi.specs.declared.types.Shift.TheVariants as H
use Rattle.spi.specs.Frame as F
use Rattle.spi.specs.Lines.{Event, Rise, Fall, Deed, Wrote, Fetched, ReadBegan, Now, output, bit_served, serve, read_deeds, wrote, fetched, bit_deeds, deeds, Seen, now, left, seen}
use Rattle.spi.proofs.Theorems.Frames.{left_append, seen_append, receiving}
use Rattle.bus.specs.Writes.{deed_writes, edge_writes}
use Rattle.bus.specs.Theorems.Parts.{absurd_bool}
use Rattle.bus.specs.Theorems.SpiFrames.{AllFloat}
use Rattle.bus.specs.Theorems.SpiTransfers.{float_append}

-- the levels of the data line at the rises
unfoldable pub levels : List Event → List Bool
levels [] = []
levels (Rise d ∷ es) = d ∷ levels es
levels (Fall ∷ es) = levels es

-- the pin floats throughout and nothing is written
pub record Nothing (l : List Seen) : Type 0 where
  pub float : AllFloat l
  pub none : edge_writes l ≡ []

-- a list of edges is served so, from a frame to another
pub record Passes (f : Frame) (es : List Event) (ns : List Now) (g : Frame) : Type 0 where
  pub nothing : Nothing (seen f es ns)
  pub is_left : left f es ns ≡ g

deeds_append : (ds : List Deed) (ws vs : List (Option (ℕ × ℕ))) → deed_writes ds (ws ++ vs) ≡ deed_writes ds ws ++ vs
unfolding deed_writes
deeds_append [] ws vs = refl
deeds_append (Wrote a v ∷ ds) ws vs = ap (λ (l : List (Option (ℕ × ℕ))). Some (a, v) ∷ l) (deeds_append ds ws vs)
deeds_append (Fetched a ∷ ds) ws vs = deeds_append ds ws vs
deeds_append (ReadBegan a ∷ ds) ws vs = deeds_append ds ws vs

writes_append : (l m : List Seen) → edge_writes (l ++ m) ≡ edge_writes l ++ edge_writes m
unfolding edge_writes
writes_append [] m = refl
writes_append (a ∷ l) m = ap (λ (ws : List (Option (ℕ × ℕ))). deed_writes a.deeds ws) (writes_append l m) ∙ deeds_append a.deeds (edge_writes l) (edge_writes m)

both_none : (l m : List Seen) → edge_writes l ≡ [] → edge_writes m ≡ [] → edge_writes (l ++ m) ≡ []
both_none l m p q = writes_append l m ∙ ap (λ (ws : List (Option (ℕ × ℕ))). ws ++ edge_writes m) p ∙ q

-- one after the other
and_nothing : (l m : List Seen) → Nothing l → Nothing m → Nothing (l ++ m)
and_nothing l m p q = record { float = float_append l m p.float q.float; none = both_none l m p.none q.none }

pub and_passes : {f g h : Frame} (es ds : List Event) (ns : List Now) → Passes f es ns g → Passes g ds (drop (length es) ns) h → Passes f (es ++ ds) ns h
and_passes {f} {g} {h} es ds ns p q =
    record {
      nothing = subst Nothing (sym (seen_append es ds f ns ∙ ap (λ (k : Frame). seen f es ns ++ seen k ds (drop (length es) ns)) p.is_left))
          (and_nothing (seen f es ns) (seen g ds (drop (length es) ns)) p.nothing q.nothing);
      is_left = left_append es ds f ns ∙ ap (λ (k : Frame). left k ds (drop (length es) ns)) p.is_left ∙ q.is_left;
    }

-- ---- one edge

pub one_passes : {f g : Frame} (e : Event) (ns : List Now) → serve (now ns) f e ≡ g → deeds (now ns) f e ≡ [] → g.driven ≡ D.Floating → Passes f (e ∷ []) ns g
unfolding seen left edge_writes deed_writes
one_passes {f} {g} e ns s d x =
    record {
      nothing = record { float = (ap (λ (k : Frame). k.driven) s ∙ x, tt); none = ap (λ (l : List Deed). deed_writes l []) d };
      is_left = s;
    }

-- whether the output moves or not, a byte being received floats and fetches nothing
moves_as : (shows : ℕ → Option ℕ) (moves : Bool) (s : Serial) (b x : ℕ) → F.reads s ≡ false
    → let h = cond moves (F.fetches s 8) H.Stay in (output shows (receiving s b x) h ≡ receiving s b x) × (fetched h ≡ [])
unfolding F.reads F.fetches output fetched F.moved
moves_as shows true S.Address b x r = (refl, refl)
moves_as shows true (S.Write a) b x r = (refl, refl)
moves_as shows true (S.Read a) b x r = absurd_bool r
moves_as shows false s b x r = (refl, refl)

stays : (shows : ℕ → Option ℕ) (at : Clocked) (w : Bool) (s : Serial) (b x : ℕ) → F.reads s ≡ false
    → let h = F.shifts (receiving s b x) at w in (output shows (receiving s b x) h ≡ receiving s b x) × (fetched h ≡ [])
unfolding F.shifts
stays shows at w s b x r = moves_as shows (F.moves at w false) s b x r

begins_no_read : (s : Serial) (b : ℕ) → F.reads s ≡ false → F.first_bit s b ≡ None
unfolding F.reads F.first_bit
begins_no_read S.Address b r = refl
begins_no_read (S.Write a) b r = refl
begins_no_read (S.Read a) b r = absurd_bool r

-- a rise whose bit leaves a byte being received, and no write
rise_passes : (s : Serial) (r : F.reads s ≡ false) (b x : ℕ) (d : Bool) (ns : List Now) (to : Serial) (q : F.reads to ≡ false) (c y : ℕ)
    → F.take_bit (receiving s b x) d (now ns).four_wire ≡ record { frame = receiving to c y; write = None } → Passes (receiving s b x) (Rise d ∷ []) ns (receiving to c y)
unfolding serve deeds read_deeds wrote
rise_passes s r b x d ns to q c y e =
    let n = now ns in
    let still = stays n.shows Clocked.Rise n.four_wire_then to c y q in
    one_passes (Rise d) ns (ap (λ (t : Taken). bit_served n t) e ∙ still.0)
    (ap (λ (t : Taken). bit_deeds n (F.first_bit s b) t) e
    ∙ ap (λ (k : Option ℕ). read_deeds k ++ fetched (F.shifts (receiving to c y) Clocked.Rise n.four_wire_then)) (begins_no_read s b r)
    ∙ still.1) refl

fall_passes : (s : Serial) (r : F.reads s ≡ false) (b x : ℕ) (ns : List Now) → Passes (receiving s b x) (Fall ∷ []) ns (receiving s b x)
unfolding serve deeds
fall_passes s r b x ns =
    let n = now ns in
    let still = stays n.shows Clocked.Fall n.four_wire s b x r in one_passes Fall ns still.0 still.1 refl

-- ---- fewer than eight rises of a byte, and any falls

module _ (s : Serial) (r : F.reads s ≡ false) where
  taken : (b x : ℕ) (d w : Bool) → b < 7 → F.take_bit (receiving s b x) d w ≡ record { frame = receiving s (b + 1) (shifted_in x d); write = None }
  unfolding F.take_bit
  taken b x d w h = rw (lt-ltb b 7 h)

  none_pass : (b x : ℕ) (ns : List Now) → Passes (receiving s b x) [] ns (receiving s (b + 0) x)
  unfolding seen left edge_writes
  none_pass b x ns = record { nothing = record { float = tt; none = refl }; is_left = rw add-zero }

  pub bits_pass : (es : List Event) (b x : ℕ) (ns : List Now) → b + length (levels es) ≤ 7
      → Passes (receiving s b x) es ns (receiving s (b + length (levels es)) (all_shifted_in x (levels es)))
  unfolding levels all_shifted_in
  bits_pass [] b x ns h = none_pass b x ns
  bits_pass (Rise d ∷ es) b x ns h =
      let e : b + 1 + length (levels es) ≡ b + length (d ∷ levels es) = omega arith in
      let less : b < 7 = omega arith in
      let rest = bits_pass es (b + 1) (shifted_in x d) (drop 1 ns) (rw e h) in
      subst (λ (k : ℕ). Passes (receiving s b x) (Rise d ∷ es) ns (receiving s k (all_shifted_in (shifted_in x d) (levels es)))) e
      (and_passes (Rise d ∷ []) es ns (rise_passes s r b x d ns s r (b + 1) (shifted_in x d) (taken b x d (now ns).four_wire less)) rest)
  bits_pass (Fall ∷ es) b x ns h = and_passes (Fall ∷ []) es ns (fall_passes s r b x ns) (bits_pass es b x (drop 1 ns) h)

-- ---- a list at one of its rises

pub record Split (es : List Event) (ds : List Bool) (d : Bool) (rest : List Bool) : Type 0 where
  pub first : List Event
  pub second : List Event
  pub is : es ≡ first ++ (Rise d ∷ second)
  pub before : levels first ≡ ds
  pub after : levels second ≡ rest

first_of : List Bool → Bool
first_of [] = false
first_of (d ∷ ds) = d

rest_of : List Bool → List Bool
rest_of [] = []
rest_of (d ∷ ds) = ds

is_empty : List Bool → Bool
is_empty [] = true
is_empty (d ∷ ds) = false

never_empty : {A : Type 0} (ds : List Bool) (d : Bool) (rest : List Bool) → [] ≡ ds ++ (d ∷ rest) → A
unfolding is_empty
never_empty [] d rest e = absurd_bool (ap is_empty e)
never_empty (c ∷ ds) d rest e = absurd_bool (ap is_empty e)

pub split : (es : List Event) (ds : List Bool) (d : Bool) (rest : List Bool) → levels es ≡ ds ++ (d ∷ rest) → Split es ds d rest
unfolding levels first_of rest_of
split [] ds d rest e = never_empty ds d rest e
split (Fall ∷ es) ds d rest e =
    let s = split es ds d rest e in
    record { first = Fall ∷ s.first; second = s.second; is = ap (λ (l : List Event). Fall ∷ l) s.is; before = s.before; after = s.after }
split (Rise c ∷ es) [] d rest e = record { first = []; second = es; is = ap (λ (x : Bool). Rise x ∷ es) (ap first_of e); before = refl; after = ap rest_of e }
split (Rise c ∷ es) (b ∷ ds) d rest e =
    let s = split es ds d rest (ap rest_of e) in
    record {
      first = Rise c ∷ s.first;
      second = s.second;
      is = ap (λ (l : List Event). Rise c ∷ l) s.is;
      before = ap (λ (x : Bool). x ∷ levels s.first) (ap first_of e) ∙ ap (λ (l : List Bool). b ∷ l) s.before;
      after = s.after;
    }

-- ---- an address byte and seven bits of a value, and any falls

addressed : (a : ℕ) (w : Bool) → a < 128 → F.take_bit (receiving S.Address 7 (all_shifted_in 0 (seven_bits a))) (sent_bit a 7) w ≡ record { frame = receiving (S.Write a) 0 0; write = None }
unfolding F.take_bit F.completed F.addressed
addressed a w h = rw (bits_make_the_byte a (omega arith), lt-ltb a 128 h)

not_reading : (a : ℕ) → (F.reads (S.Write a) ≡ false) × (F.reads S.Address ≡ false)
unfolding F.reads
not_reading a = (refl, refl)

module _ (a x : ℕ) (la : a < 128) (es : List Event) (ns : List Now) (e : levels es ≡ seven_bits a ++ (sent_bit a 7 ∷ seven_bits x)) where
  abbrev parts : Split es (seven_bits a) (sent_bit a 7) (seven_bits x)
  parts = split es (seven_bits a) (sent_bit a 7) (seven_bits x) e

  first_pass : Passes (F.fresh true) parts.first ns (receiving S.Address 7 (all_shifted_in 0 (seven_bits a)))
  first_pass =
      subst (λ (l : List Bool). Passes (F.fresh true) parts.first ns (receiving S.Address (0 + length l) (all_shifted_in 0 l))) parts.before
      (bits_pass S.Address (not_reading a).1 parts.first 0 0 ns (subst (λ (l : List Bool). 0 + length l ≤ 7) (sym parts.before) (leb→le 7 7 tt)))

  pub frame_passes : Passes (F.fresh true) es ns (receiving (S.Write a) 7 (all_shifted_in 0 (seven_bits x)))
  frame_passes =
      let k = drop (length parts.first) ns in
      let value = subst (λ (l : List Bool). Passes (receiving (S.Write a) 0 0) parts.second (drop 1 k) (receiving (S.Write a) (0 + length l) (all_shifted_in 0 l))) parts.after
      (bits_pass (S.Write a) (not_reading a).0 parts.second 0 0 (drop 1 k) (subst (λ (l : List Bool). 0 + length l ≤ 7) (sym parts.after) (leb→le 7 7 tt))) in
      subst (λ (l : List Event). Passes (F.fresh true) l ns (receiving (S.Write a) 7 (all_shifted_in 0 (seven_bits x)))) (sym parts.is)
      (and_passes parts.first (Rise (sent_bit a 7) ∷ parts.second) ns first_pass
      (and_passes (Rise (sent_bit a 7) ∷ []) parts.second k
      (rise_passes S.Address (not_reading a).1 7 (all_shifted_in 0 (seven_bits a)) (sent_bit a 7) k (S.Write a) (not_reading a).0 0 0 (addressed a (now k).four_wire la)) value))
