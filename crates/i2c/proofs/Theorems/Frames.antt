-- Whole transfers, of any length and every byte, as a sensor that hears the bus serves them.
use Rattle.std.proofs.Math.Path.{◌≡◌, refl, ap}
use Rattle.std.proofs.Common.{sym, subst, ◌∙◌, leb→le, drop-drop}
use Rattle.std.specs.Prelude.{Bool, true, drop, Some, None}
use Rattle.std.proofs.Math.Bool.{false}
use mathlib.Core.List.{List, [], ◌∷◌, ◌++◌}
use Prim.Native.Nat.{ℕ, zero, suc, ◌+◌, ◌%◌, ◌≤◌, ◌<◌}
use Rattle.std.proofs.Math.Nat.{add-zero}
use native.Mathlib.Omega.{arith}
use borrow.Author.Tests.{lt-ltb, ne_eqb}
use Rattle.std.proofs.lemmas.Bool.{true≢false}
use Rattle.std.proofs.Math.ListN.{length}
use Rattle.laws.specs.Bools.{or_left, or_right}
use Rattle.laws.specs.Bytes.{sent_bit, shifted_in, all_shifted_in, seven_bits, bits_make_the_byte}
use Rattle.i2c.specs.declared.types.Edge.{Edge}
use Rattle.i2c.specs.declared.types.Edge.TheVariants.{Still, Start, Stop, Rise, Fall}
use Rattle.i2c.specs.declared.types.Receive.{Receive}
use Rattle.i2c.specs.declared.types.Receive.TheVariants as R
use Rattle.i2c.specs.declared.types.Following.{Following}
use Rattle.i2c.specs.declared.types.Following.TheVariants as F
use Rattle.i2c.specs.declared.types.Answer.TheVariants as M
use Rattle.i2c.specs.declared.types.Phase.{Phase}
use Rattle.i2c.specs.declared.types.Phase.TheVariants as P
use Rattle.i2c.specs.declared.types.Action.TheVariants as A
use Rattle.i2c.specs.declared.types.Step.{Step}
use Rattle.i2c.specs.Bus.{is_condition, is_start, is_rise, is_fall, data_at}
use Rattle.i2c.specs.Engine.{conditioned, acknowledging, within_byte, pointer_after, bit_taken, byte_step, at_ninth, followed, acknowledge_step, answered, answer, answer_step, ninth_step, addressed, received, completes, completed, step, reads_next}
use Rattle.i2c.specs.Transfers.{clocked, ninth_clock, byte_frame, address_frame, again, stop, broken, nine_clocks, starts, Pair, Bytes, pairs, write_transfer, Levels8, read_byte, acknowledged, read_address, read_transfer, combined}
use Rattle.i2c.specs.Target.{Target, target, act, deed, serve, Seen, seen_at, now_shown, left, seen}
use Rattle.i2c.specs.Answers.{free_and, free, acknowledge, silent, silence, frees, broken_answer, address_answer, register_answer, value_answer, pairs_answer, pairs_pointer, write_answer, byte_answer, next_register, bytes_answer, register_after, shown_after, read_answer, read_address_answer}

abbrev Shown : Type 0
Shown = List (ℕ → ℕ)

-- the engine in a phase, with its register pointer, bits and byte so far
abbrev pub at : Phase → (pointer bits shift : ℕ) (low : Bool) (sent : ℕ) → Target
at p n b x l s = target (record { phase = p; pointer = n; bits = b; shift = x; low = l }) s

-- ---- a report without an event changes nothing

still_phase : (shows : ℕ → ℕ) (p : Phase) (n b x : ℕ) (l : Bool) (s : ℕ) → serve shows (at p n b x l s) Still ≡ at p n b x l s
unfolding serve act step is_condition is_rise is_fall within_byte at_ninth completes
still_phase shows P.Idle n b x l s = refl
still_phase shows (P.Receive k) n b x l s = refl
still_phase shows (P.Acknowledge f m) n b x l s = refl
still_phase shows (P.Read m) n b x l s = refl
still_phase shows (P.MasterAcknowledge a) n b x l s = refl

pub still_changes_nothing : (shows : ℕ → ℕ) (v : Target) → serve shows v Still ≡ v
still_changes_nothing shows v = still_phase shows v.state.phase v.state.pointer v.state.bits v.state.shift v.state.low v.sent

-- ---- lists of events one after the other

drop_more : (n : ℕ) (fs : Shown) → drop n (drop 1 fs) ≡ drop (suc n) fs
drop_more n fs = drop-drop n 1 fs ∙ (let e : 1 + n ≡ suc n = omega arith in ap (λ (k : ℕ). drop k fs) e)

pub left_append : (es ds : List Edge) (v : Target) (fs : Shown) → left v (es ++ ds) fs ≡ left (left v es fs) ds (drop (length es) fs)
unfolding left
left_append [] ds v fs = refl
left_append (e ∷ es) ds v fs =
    left_append es ds (serve (now_shown fs) v e) (drop 1 fs)
    ∙ ap (λ (gs : Shown). left (left (serve (now_shown fs) v e) es (drop 1 fs)) ds gs) (drop_more (length es) fs)

pub seen_append : (es ds : List Edge) (v : Target) (fs : Shown) → seen v (es ++ ds) fs ≡ seen v es fs ++ seen (left v es fs) ds (drop (length es) fs)
unfolding seen left
seen_append [] ds v fs = refl
seen_append (e ∷ es) ds v fs =
    ap (λ (l : List Seen). seen_at (now_shown fs) v e ∷ l)
    (seen_append es ds (serve (now_shown fs) v e) (drop 1 fs)
    ∙ ap (λ (gs : Shown). seen (serve (now_shown fs) v e) es (drop 1 fs) ++ seen (left (serve (now_shown fs) v e) es (drop 1 fs)) ds gs) (drop_more (length es) fs))

-- the sensor serves a list of events: what is seen, and how it is left
pub record Serves (v : Target) (es : List Edge) (fs : Shown) (answer : List Seen) (w : Target) : Type 0 where
  pub is_seen : seen v es fs ≡ answer
  pub is_left : left v es fs ≡ w

-- one list after the other
pub and_serves : {v w x : Target} {es ds : List Edge} {fs : Shown} {a b : List Seen} → Serves v es fs a w → Serves w ds (drop (length es) fs) b x → Serves v (es ++ ds) fs (a ++ b) x
and_serves {v} {w} {x} {es} {ds} {fs} {a} {b} p q =
    record {
      is_seen = seen_append es ds v fs
          ∙ ap (λ (l : List Seen). l ++ seen (left v es fs) ds (drop (length es) fs)) p.is_seen
          ∙ ap (λ (u : Target). a ++ seen u ds (drop (length es) fs)) p.is_left
          ∙ ap (λ (l : List Seen). a ++ l) q.is_seen;
      is_left = left_append es ds v fs ∙ ap (λ (u : Target). left u ds (drop (length es) fs)) p.is_left ∙ q.is_left;
    }

-- ---- START and STOP at any point drop what was going on and do nothing else

pub start_drops : (shows : ℕ → ℕ) (v : Target) → (serve shows v Start ≡ at (P.Receive R.Address) v.state.pointer 0 0 false 0xff) × (deed v Start ≡ Some A.Drop)
unfolding serve act step is_condition is_start conditioned
start_drops shows v = (refl, refl)

pub stop_drops : (shows : ℕ → ℕ) (v : Target) → (serve shows v Stop ≡ at P.Idle v.state.pointer 0 0 false 0xff) × (deed v Stop ≡ Some A.Drop)
unfolding serve act step is_condition is_start conditioned
stop_drops shows v = (refl, refl)

-- ---- bits of a byte received

module _ (k : Receive) (p s : ℕ) where
  rise_step : (b x : ℕ) (d : Bool) → b < 7
      → step (at (P.Receive k) p b x false s).state (Rise d) false s ≡ record { state = (at (P.Receive k) p (b + 1) (shifted_in x d) false s).state; action = None }
  unfolding step is_condition is_rise is_fall data_at within_byte byte_step
  rise_step b x d h = rw (lt-ltb b 7 h)

  -- a rise is a bit received
  rise_served : (f : ℕ → ℕ) (b x : ℕ) (d : Bool) → b < 7 → serve f (at (P.Receive k) p b x false s) (Rise d) ≡ at (P.Receive k) p (b + 1) (shifted_in x d) false s
  unfolding serve act
  rise_served f b x d h = ap (λ (r : Step). act f r.state s r.action) (rise_step b x d h)

  rise_seen : (f : ℕ → ℕ) (b x : ℕ) (d : Bool) → b < 7 → seen_at f (at (P.Receive k) p b x false s) (Rise d) ≡ free
  unfolding serve act
  rise_seen f b x d h = ap (λ (r : Step). record { low = (act f r.state s r.action).state.low; deed = r.action }) (rise_step b x d h)

  -- a fall is nothing
  fall_served : (f : ℕ → ℕ) (b x : ℕ) → serve f (at (P.Receive k) p b x false s) Fall ≡ at (P.Receive k) p b x false s
  unfolding serve act step is_condition is_rise is_fall within_byte at_ninth completes
  fall_served f b x = refl

  fall_seen : (f : ℕ → ℕ) (b x : ℕ) → seen_at f (at (P.Receive k) p b x false s) Fall ≡ free
  unfolding serve act step is_condition is_rise is_fall within_byte at_ninth completes
  fall_seen f b x = refl

  one_rise : (b x : ℕ) (d : Bool) (fs : Shown) → b < 7 → Serves (at (P.Receive k) p b x false s) (Rise d ∷ []) fs (free ∷ []) (at (P.Receive k) p (b + 1) (shifted_in x d) false s)
  unfolding seen left
  one_rise b x d fs h = record { is_seen = ap (λ (a : Seen). a ∷ []) (rise_seen (now_shown fs) b x d h); is_left = rise_served (now_shown fs) b x d h }

  one_fall : (b x : ℕ) (fs : Shown) → Serves (at (P.Receive k) p b x false s) (Fall ∷ []) fs (free ∷ []) (at (P.Receive k) p b x false s)
  unfolding seen left
  one_fall b x fs = record { is_seen = ap (λ (a : Seen). a ∷ []) (fall_seen (now_shown fs) b x); is_left = fall_served (now_shown fs) b x }

  -- fewer than eight bits: nothing is seen and nothing is done
  pub bits_received : (ds : List Bool) (b x : ℕ) (fs : Shown) → b + length ds ≤ 7
      → Serves (at (P.Receive k) p b x false s) (clocked ds) fs (frees ds) (at (P.Receive k) p (b + length ds) (all_shifted_in x ds) false s)
  unfolding seen left clocked all_shifted_in frees
  bits_received [] b x fs h = record { is_seen = refl; is_left = rw add-zero }
  bits_received (d ∷ ds) b x fs h =
      let e : b + 1 + length ds ≡ b + length (d ∷ ds) = omega arith in
      let less : b < 7 = omega arith in
      let rest = bits_received ds (b + 1) (shifted_in x d) (drop 1 (drop 1 fs)) (rw e h) in
      let all = and_serves (one_rise b x d fs less) (and_serves (one_fall (b + 1) (shifted_in x d) (drop 1 fs)) rest) in
      record { is_seen = all.is_seen; is_left = all.is_left ∙ ap (λ (n : ℕ). at (P.Receive k) p n (all_shifted_in (shifted_in x d) ds) false s) e }

-- ---- the eighth rise, and the ninth clock

module _ (p s : ℕ) (b : ℕ) (small : b < 256) (level : Bool) (fs : Shown) where
  abbrev so_far : ℕ
  so_far = all_shifted_in 0 (seven_bits b)

  -- a register byte sets the pointer, modulo 128, and is acknowledged
  register_last : (gs : Shown)
      → Serves (at (P.Receive R.Control) p 7 so_far false s) (Rise (sent_bit b 7) ∷ ninth_clock level) gs (free ∷ acknowledge) (at (P.Receive R.Data) (b % 128) 0 0 false s)
  unfolding seen left serve act step is_condition is_start is_rise is_fall data_at within_byte byte_step at_ninth ninth_step acknowledge_step followed completes completed received
  register_last gs = record { is_seen = refl; is_left = rw (bits_make_the_byte b small) }

  -- a value byte is written at the pointer, and is acknowledged
  value_last : (gs : Shown)
      → Serves (at (P.Receive R.Data) p 7 so_far false s) (Rise (sent_bit b 7) ∷ ninth_clock level) gs (free_and (Some (A.Write p b)) ∷ acknowledge) (at (P.Receive R.Control) p 0 0 false s)
  unfolding seen left serve act step is_condition is_start is_rise is_fall data_at within_byte byte_step at_ninth ninth_step acknowledge_step followed completes completed received
  value_last gs = record { is_seen = rw (bits_make_the_byte b small); is_left = refl }

  seven : (k : Receive) → Serves (at (P.Receive k) p 0 0 false s) (clocked (seven_bits b)) fs (frees (seven_bits b)) (at (P.Receive k) p 7 so_far false s)
  seven k = bits_received k p s (seven_bits b) 0 0 fs (leb→le 7 7 tt)

  pub register_byte : Serves (at (P.Receive R.Control) p 0 0 false s) (byte_frame b level) fs register_answer (at (P.Receive R.Data) (b % 128) 0 0 false s)
  unfolding clocked frees
  register_byte = and_serves (seven R.Control) (register_last (drop 14 fs))

  pub value_byte : Serves (at (P.Receive R.Data) p 0 0 false s) (byte_frame b level) fs (value_answer p b) (at (P.Receive R.Control) p 0 0 false s)
  unfolding clocked frees
  value_byte = and_serves (seven R.Data) (value_last (drop 14 fs))

-- ---- write transfers

pub pairs_served : (ps : List Pair) (p s : ℕ) (fs : Shown) → Bytes ps
    → Serves (at (P.Receive R.Control) p 0 0 false s) (pairs ps) fs (pairs_answer ps) (at (P.Receive R.Control) (pairs_pointer ps p) 0 0 false s)
unfolding pairs pairs_answer pairs_pointer seen left clocked
pairs_served [] p s fs h = record { is_seen = refl; is_left = refl }
pairs_served (q ∷ ps) p s fs h =
    and_serves (register_byte p s q.register h.0 q.register_level fs)
    (and_serves (value_byte (q.register % 128) s q.value h.1 q.value_level _)
    (pairs_served ps (q.register % 128) s _ h.2))

-- after START and 70 hex the pin is held low from the eighth fall to the ninth, and a register byte follows
pub write_address_served : (v : Target) (level : Bool) (fs : Shown)
    → Serves v (address_frame 0x70 ++ ninth_clock level) fs (address_answer ++ acknowledge) (at (P.Receive R.Control) v.state.pointer 0 0 false 0xff)
unfolding seen left clocked serve act step is_condition is_start is_rise is_fall data_at conditioned acknowledging within_byte byte_step at_ninth ninth_step acknowledge_step followed completes completed received addressed
write_address_served v level fs = record { is_seen = refl; is_left = refl }

-- START, 70 hex and any number of pairs, from any state: each byte is acknowledged, and each pair writes its value once, at the eighth rise of its value byte
pub write_served : (v : Target) (level : Bool) (ps : List Pair) (fs : Shown) → Bytes ps
    → Serves v (write_transfer level ps) fs (write_answer ps) (at (P.Receive R.Control) (pairs_pointer ps v.state.pointer) 0 0 false 0xff)
write_served v level ps fs h = and_serves (write_address_served v level fs) (pairs_served ps v.state.pointer 0xff _ h)

-- ---- read transfers

-- after START and 71 hex the pin is held low from the eighth fall on; the ninth fall fetches the first byte
pub read_address_served : (v : Target) (level : Bool) (fs : Shown)
    → Serves v (read_address level) fs read_address_answer (at (P.Acknowledge F.Read 2) v.state.pointer 0 0 true 0xff)
unfolding seen left clocked serve act step is_condition is_start is_rise is_fall data_at conditioned acknowledging within_byte byte_step at_ninth ninth_step acknowledge_step followed completes completed received addressed
read_address_served v level fs = record { is_seen = refl; is_left = refl }

-- a byte can be fetched at the next fall: after the address, or after an acknowledge of the master's
pub data Fetches : Target → (pointer : ℕ) → Type 0 where
  after_address : (p s : ℕ) → Fetches (at (P.Acknowledge F.Read 2) p 0 0 true s) p
  after_byte : (p s : ℕ) → Fetches (at (P.MasterAcknowledge M.Acknowledge) p 0 0 false s) p

-- the byte is the one that its register shows at that fall, and the next register follows
pub byte_served : {v : Target} {p : ℕ} → Fetches v p → (o : Levels8) (level : Bool) (fs : Shown)
    → Serves v (read_byte o level) fs (byte_answer p (now_shown fs p)) (at (P.MasterAcknowledge (answer level)) (next_register p) 0 0 false (now_shown fs p))
unfolding seen left serve act step is_condition is_start is_rise is_fall data_at within_byte byte_step bit_taken pointer_after at_ninth ninth_step acknowledge_step followed answer_step answered completes
byte_served (after_address p s) o level fs = record { is_seen = refl; is_left = refl }
byte_served (after_byte p s) o level fs = record { is_seen = refl; is_left = refl }

acknowledged_fetches : (p s : ℕ) → Fetches (at (P.MasterAcknowledge (answer false)) p 0 0 false s) p
unfolding answer
acknowledged_fetches p s = after_byte p s

-- after bytes that were acknowledged the next one can be fetched
pub record Read (v : Target) (es : List Edge) (fs : Shown) (a : List Seen) (p : ℕ) : Type 0 where
  pub to : Target
  pub serves : Serves v es fs a to
  pub fetches : Fetches to p

pub bytes_served : {v : Target} {p : ℕ} → Fetches v p → (os : List Levels8) (fs : Shown) → Read v (acknowledged os) fs (bytes_answer p os fs) (register_after p os)
unfolding acknowledged bytes_answer register_after seen left
bytes_served {v} {p} h [] fs = record { to = v; serves = record { is_seen = refl; is_left = refl }; fetches = h }
bytes_served {v} {p} h (o ∷ os) fs =
    let one = byte_served h o false fs in
    let rest = bytes_served {v = at (P.MasterAcknowledge (answer false)) (next_register p) 0 0 false (now_shown fs p)} (acknowledged_fetches (next_register p) (now_shown fs p)) os (drop 18 fs) in
    record { to = rest.to; serves = and_serves one rest.serves; fetches = rest.fetches }

drop_over : (n : ℕ) (fs : Shown) → drop (18 + n) fs ≡ drop n (drop 18 fs)
drop_over n fs = sym (drop-drop n 18 fs)

acknowledged_shown : (os : List Levels8) (fs : Shown) → drop (length (acknowledged os)) fs ≡ shown_after os fs
unfolding acknowledged shown_after
acknowledged_shown [] fs = refl
acknowledged_shown (o ∷ os) fs =
    let e : length (read_byte o false ++ acknowledged os) ≡ 18 + length (acknowledged os) = omega arith in
    ap (λ (n : ℕ). drop n fs) e ∙ drop_over (length (acknowledged os)) fs ∙ acknowledged_shown os (drop 18 fs)

-- a not-acknowledge frees the pin until START
pub not_acknowledged : (p s : ℕ) (fs : Shown) → Serves (at (P.MasterAcknowledge (answer true)) p 0 0 false s) (Fall ∷ []) fs (free ∷ []) (at P.Idle p 0 0 false s)
unfolding seen left serve act step is_condition is_rise is_fall within_byte at_ninth ninth_step answer_step answer answered completes
not_acknowledged p s fs = record { is_seen = refl; is_left = refl }

-- from the ninth rise of the address on: any number of bytes that are acknowledged, and a last one that is not
pub reads_served : {v : Target} {p : ℕ} → Fetches v p → (os : List Levels8) (last : Levels8) (fs : Shown)
    → Serves v (acknowledged os ++ (read_byte last true ++ (Fall ∷ []))) fs (read_answer p os fs)
    (at P.Idle (next_register (register_after p os)) 0 0 false (now_shown (shown_after os fs) (register_after p os)))
reads_served {v} {p} h os last fs =
    let some = bytes_served h os fs in
    let end = byte_served some.fetches last true (shown_after os fs) in
    and_serves some.serves
    (subst (λ (gs : Shown). Serves some.to (read_byte last true ++ (Fall ∷ [])) gs (byte_answer (register_after p os) (now_shown (shown_after os fs) (register_after p os)) ++ (free ∷ []))
    (at P.Idle (next_register (register_after p os)) 0 0 false (now_shown (shown_after os fs) (register_after p os))))
    (sym (acknowledged_shown os fs))
    (and_serves end (not_acknowledged _ _ _)))

-- START, 71 hex and bytes, from any state: the first is of the register that the pointer is at
pub read_served : (v : Target) (level : Bool) (os : List Levels8) (last : Levels8) (fs : Shown)
    → let p = v.state.pointer in let gs = drop 19 fs in
    Serves v (read_transfer level os last) fs (read_address_answer ++ read_answer p os gs)
    (at P.Idle (next_register (register_after p os)) 0 0 false (now_shown (shown_after os gs) (register_after p os)))
unfolding clocked
read_served v level os last fs = and_serves (read_address_served v level fs) (reads_served (after_address v.state.pointer 0xff) os last (drop 19 fs))

-- ---- combined: a register byte, a repeated START, and bytes from that register on

again_served : (p s : ℕ) (fs : Shown) → Serves (at (P.Receive R.Data) p 0 0 false s) again fs (free ∷ []) (at (P.Receive R.Data) p 1 (shifted_in 0 true) false s)
unfolding seen left serve act step is_condition is_rise is_fall data_at within_byte byte_step
again_served p s fs = record { is_seen = refl; is_left = refl }

pub combined_served : (v : Target) (register : ℕ) (a b c : Bool) (os : List Levels8) (last : Levels8) (fs : Shown) → register < 256
    → let p = register % 128 in let gs = drop 19 (drop 1 (drop 18 (drop 20 fs))) in
    Serves v (combined register a b c os last) fs ((address_answer ++ acknowledge) ++ (register_answer ++ ((free ∷ []) ++ (read_address_answer ++ read_answer p os gs))))
    (at P.Idle (next_register (register_after p os)) 0 0 false (now_shown (shown_after os gs) (register_after p os)))
unfolding clocked
combined_served v register a b c os last fs small =
    and_serves (write_address_served v a fs)
    (and_serves (register_byte v.state.pointer 0xff register small b (drop 20 fs))
    (and_serves (again_served (register % 128) 0xff (drop 18 (drop 20 fs)))
    (read_served (at (P.Receive R.Data) (register % 128) 1 (shifted_in 0 true) false 0xff) c os last (drop 1 (drop 18 (drop 20 fs))))))

-- ---- broken bytes: fewer than eight rises, then STOP or START: no write

module _ (k : Receive) (p s : ℕ) (ds : List Bool) (few : length ds ≤ 6) (fs : Shown) where
  abbrev reached : Target
  reached = at (P.Receive k) p (length ds) (all_shifted_in 0 ds) false s

  bits : Serves (at (P.Receive k) p 0 0 false s) (clocked ds) fs (frees ds) (at (P.Receive k) p (0 + length ds) (all_shifted_in 0 ds) false s)
  bits = bits_received k p s ds 0 0 fs (omega arith)

  ended : (b x : ℕ) (gs : Shown) → Serves (at (P.Receive k) p b x false s) (Stop ∷ []) gs (free_and (Some A.Drop) ∷ []) (at P.Idle p 0 0 false 0xff)
  unfolding seen left serve act step is_condition is_start conditioned
  ended b x gs = record { is_seen = refl; is_left = refl }

  anew : (b x : ℕ) (gs : Shown) → Serves (at (P.Receive k) p b x false s) (Start ∷ []) gs (free_and (Some A.Drop) ∷ []) (at (P.Receive R.Address) p 0 0 false 0xff)
  unfolding seen left serve act step is_condition is_start conditioned
  anew b x gs = record { is_seen = refl; is_left = refl }

  broken_end : (b x : ℕ) (gs : Shown) → b < 7 → Serves (at (P.Receive k) p b x false s) stop gs (free ∷ free_and (Some A.Drop) ∷ []) (at P.Idle p 0 0 false 0xff)
  broken_end b x gs h = and_serves (one_rise k p s b x false gs h) (ended (b + 1) (shifted_in x false) (drop 1 gs))

  broken_anew : (b x : ℕ) (gs : Shown) → b < 7 → Serves (at (P.Receive k) p b x false s) (again ++ (Start ∷ [])) gs (free ∷ free_and (Some A.Drop) ∷ []) (at (P.Receive R.Address) p 0 0 false 0xff)
  broken_anew b x gs h = and_serves (one_rise k p s b x true gs h) (anew (b + 1) (shifted_in x true) (drop 1 gs))

  pub broken_by_stop : Serves (at (P.Receive k) p 0 0 false s) (broken ds) fs (broken_answer ds) (at P.Idle p 0 0 false 0xff)
  broken_by_stop = and_serves bits (broken_end (0 + length ds) (all_shifted_in 0 ds) _ (omega arith))

  pub broken_by_start : Serves (at (P.Receive k) p 0 0 false s) (clocked ds ++ (again ++ (Start ∷ []))) fs (broken_answer ds) (at (P.Receive R.Address) p 0 0 false 0xff)
  broken_by_start = and_serves bits (broken_anew (0 + length ds) (all_shifted_in 0 ds) _ (omega arith))

module _ (v : Target) (level : Bool) (ps : List Pair) (small : Bytes ps) (ds : List Bool) (few : length ds ≤ 6) (fs : Shown) where
  -- after n pairs a register byte is broken off: no more is written
  pub broken_register_served : Serves v (write_transfer level ps ++ broken ds) fs (write_answer ps ++ broken_answer ds) (at P.Idle (pairs_pointer ps v.state.pointer) 0 0 false 0xff)
  broken_register_served = and_serves (write_served v level ps fs small) (broken_by_stop R.Control _ 0xff ds few _)

  -- after n pairs and a register byte its value byte is broken off: no more is written
  pub broken_value_served : (register : ℕ) (b : Bool) → register < 256
      → Serves v (write_transfer level ps ++ (byte_frame register b ++ broken ds)) fs (write_answer ps ++ (register_answer ++ broken_answer ds)) (at P.Idle (register % 128) 0 0 false 0xff)
  broken_value_served register b r =
      and_serves (write_served v level ps fs small)
      (and_serves (register_byte _ 0xff register r b _) (broken_by_stop R.Data _ 0xff ds few _))

-- ---- another address: silence until START

begun : (v : Target) (fs : Shown) → Serves v (Start ∷ Fall ∷ []) fs (free_and (Some A.Drop) ∷ free ∷ []) (at (P.Receive R.Address) v.state.pointer 0 0 false 0xff)
unfolding seen left serve act step is_condition is_start is_rise is_fall conditioned within_byte at_ninth completes acknowledging
begun v fs = record { is_seen = refl; is_left = refl }

module _ (b : ℕ) (small : b < 256) (not_70 : b ≡ 0x70 → ⊥) (not_71 : b ≡ 0x71 → ⊥) where
  other_last : (p : ℕ) (fs : Shown) → Serves (at (P.Receive R.Address) p 7 (all_shifted_in 0 (seven_bits b)) false 0xff) (Rise (sent_bit b 7) ∷ []) fs (free ∷ []) (at P.Idle p 0 0 false 0xff)
  unfolding seen left serve act step is_condition is_start is_rise is_fall data_at within_byte at_ninth completes completed received addressed
  other_last p fs =
      record {
        is_seen = rw (bits_make_the_byte b small, ne_eqb b 0x70 not_70, ne_eqb b 0x71 not_71);
        is_left = rw (bits_make_the_byte b small, ne_eqb b 0x70 not_70, ne_eqb b 0x71 not_71);
      }

  pub not_addressed : (v : Target) (fs : Shown) → Serves v (address_frame b) fs address_answer (at P.Idle v.state.pointer 0 0 false 0xff)
  unfolding clocked frees
  not_addressed v fs =
      and_serves (begun v fs)
      (and_serves (bits_received R.Address v.state.pointer 0xff (seven_bits b) 0 0 (drop 2 fs) (leb→le 7 7 tt)) (other_last v.state.pointer (drop 14 (drop 2 fs))))

module _ (p : ℕ) where
  -- the byte being sent, which STOP drops
  kept : Edge → ℕ → ℕ
  kept Still s = s
  kept Start s = s
  kept Stop s = 0xff
  kept (Rise d) s = s
  kept Fall s = s

  idle_step : (f : ℕ → ℕ) (e : Edge) (s : ℕ) → is_start e ≡ false → (seen_at f (at P.Idle p 0 0 false s) e ≡ silent e) × (serve f (at P.Idle p 0 0 false s) e ≡ at P.Idle p 0 0 false (kept e s))
  unfolding kept silent serve act step is_condition is_start is_rise is_fall conditioned acknowledging within_byte at_ninth completes
  idle_step f Still s h = (refl, refl)
  idle_step f Start s h = absurd (true≢false h)
  idle_step f Stop s h = (refl, refl)
  idle_step f (Rise d) s h = (refl, refl)
  idle_step f Fall s h = (refl, refl)

  -- a sensor that waits for START holds the pin at no event before one, goes on waiting, and does nothing
  pub silent_until_start : (es : List Edge) (s : ℕ) (fs : Shown) → starts es ≡ false
      → (seen (at P.Idle p 0 0 false s) es fs ≡ silence es) × ((left (at P.Idle p 0 0 false s) es fs).state ≡ (at P.Idle p 0 0 false s).state)
  unfolding seen left starts silence
  silent_until_start [] s fs h = (refl, refl)
  silent_until_start (e ∷ es) s fs h =
      let f = now_shown fs in
      let i = idle_step f e s (or_left (is_start e) (starts es) h) in
      let r = silent_until_start es (kept e s) (drop 1 fs) (or_right (is_start e) (starts es) h) in (
        ap (λ (a : Seen). a ∷ seen (serve f (at P.Idle p 0 0 false s) e) es (drop 1 fs)) i.0
            ∙ ap (λ (v : Target). silent e ∷ seen v es (drop 1 fs)) i.1
            ∙ ap (λ (l : List Seen). silent e ∷ l) r.0,
        ap (λ (v : Target). (left v es (drop 1 fs)).state) i.1 ∙ r.1,
      )

-- START and another address, and whatever comes before the next START: the pin is free, and nothing is done
pub other_address_silent : (b : ℕ) → b < 256 → (b ≡ 0x70 → ⊥) → (b ≡ 0x71 → ⊥) → (v : Target) (es : List Edge) (fs : Shown) → starts es ≡ false
    → seen v (address_frame b ++ es) fs ≡ address_answer ++ silence es
other_address_silent b small m n v es fs h =
    let a = not_addressed b small m n v fs in
    let gs = drop (length (address_frame b)) fs in
    seen_append (address_frame b) es v fs
    ∙ ap (λ (l : List Seen). l ++ seen (left v (address_frame b) fs) es gs) a.is_seen
    ∙ ap (λ (u : Target). address_answer ++ seen u es gs) a.is_left
    ∙ ap (λ (l : List Seen). address_answer ++ l) (silent_until_start v.state.pointer es 0xff gs h).0

-- ---- bus clear (UM10204 3.1.16): nine clocks free the data line of a sensor that is sending

module _ (p b x : ℕ) (l : Bool) (s : ℕ) (fs : Shown) where
  abbrev Cleared : ℕ → Type 0
  Cleared n = ((left (at (P.Read n) p b x l s) nine_clocks fs).state.phase ≡ P.Idle) × ((left (at (P.Read n) p b x l s) nine_clocks fs).state.low ≡ false)

  clear_sending : (n : ℕ) → n ≤ 8 → Cleared n
  unfolding left clocked serve act step is_condition is_start is_rise is_fall data_at within_byte byte_step bit_taken pointer_after at_ninth ninth_step answer_step answer answered completes
  clear_sending zero h = (refl, refl)
  clear_sending (suc zero) h = (refl, refl)
  clear_sending (suc (suc zero)) h = (refl, refl)
  clear_sending (suc (suc (suc zero))) h = (refl, refl)
  clear_sending (suc (suc (suc (suc zero)))) h = (refl, refl)
  clear_sending (suc (suc (suc (suc (suc zero))))) h = (refl, refl)
  clear_sending (suc (suc (suc (suc (suc (suc zero)))))) h = (refl, refl)
  clear_sending (suc (suc (suc (suc (suc (suc (suc zero))))))) h = (refl, refl)
  clear_sending (suc (suc (suc (suc (suc (suc (suc (suc zero)))))))) h = (refl, refl)
  clear_sending (suc (suc (suc (suc (suc (suc (suc (suc (suc n))))))))) h = absurd (omega arith)

-- a sensor that is sending, at whichever bit, then waits for START and holds the line no more
pub nine_clocks_clear : (v : Target) (n : ℕ) (fs : Shown) → v.state.phase ≡ P.Read n → n ≤ 8 → ((left v nine_clocks fs).state.phase ≡ P.Idle) × ((left v nine_clocks fs).state.low ≡ false)
nine_clocks_clear v n fs e h =
    let t = v.state in
    subst (λ (f : Phase). let u = left (at f t.pointer t.bits t.shift t.low v.sent) nine_clocks fs in (u.state.phase ≡ P.Idle) × (u.state.low ≡ false))
    (sym e) (clear_sending t.pointer t.bits t.shift t.low v.sent fs n h)

-- one that acknowledges frees the line at the first fall after a rise, unless it was addressed to read
module _ (p b x : ℕ) (l : Bool) (s : ℕ) (f g : ℕ → ℕ) (n : ℕ) where
  abbrev after_clock : Following → Target
  after_clock k = serve g (serve f (at (P.Acknowledge k n) p b x l s) (Rise true)) Fall

  pub acknowledge_cleared : (k : Following) → reads_next k ≡ false → (after_clock k).state.low ≡ false
  unfolding serve act step is_condition is_rise is_fall within_byte at_ninth ninth_step acknowledge_step followed reads_next
  acknowledge_cleared F.Control h = refl
  acknowledge_cleared F.Data h = refl
  acknowledge_cleared F.Read h = absurd (true≢false h)
  acknowledge_cleared F.Idle h = refl

-- then it has sent a byte after nine clocks, and frees the line for the master's answer
pub read_acknowledge_cleared : (n p b x : ℕ) (l : Bool) (s : ℕ) (fs : Shown) → (left (at (P.Acknowledge F.Read n) p b x l s) nine_clocks fs).state.low ≡ false
unfolding left clocked serve act step is_condition is_start is_rise is_fall data_at within_byte byte_step bit_taken pointer_after at_ninth ninth_step acknowledge_step followed answer_step completes
read_acknowledge_cleared n p b x l s fs = refl
