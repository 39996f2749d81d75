-- The writes that a list of calls makes are those seen on the bus: of a write transfer each pair once, of the others none.
use Rattle.std.specs.Prelude.{ℕ, ◌%◌, ◌<◌, ◌≤◌, ◌≡◌, Bool, length, drop, Option, Some, None}
use Rattle.std.proofs.Math.Path.{refl, sym, ap}
use Rattle.std.proofs.Common.{◌∙◌}
use Rattle.std.proofs.Math.Bool.{true, false}
use mathlib.Core.List.{List, [], ◌∷◌, ◌++◌, append-nil}
use Rattle.time.specs.declared.Time.{Time}
use Rattle.i2c.specs.declared.types.Edge.{Edge}
use Rattle.i2c.specs.declared.types.Edge.TheVariants.{Still, Start, Stop, Rise, Fall}
use Rattle.i2c.specs.declared.types.Phase.{Phase}
use Rattle.i2c.specs.declared.types.Phase.TheVariants as P
use Rattle.i2c.specs.Bus.{edge, is_condition, is_rise, is_fall}
use Rattle.i2c.specs.Engine as E
use Rattle.i2c.specs.Transfers.{byte_frame, address_frame, broken, starts, Pair, Bytes, write_transfer, Levels8, read_transfer, combined}
use Rattle.i2c.specs.Target.{Target, target, deed, Seen}
use Rattle.i2c.specs.Answers.{silence, silent, frees, broken_answer, register_answer, pairs_answer, write_answer, next_register, bytes_answer}
use Rattle.calls.specs.declared.types.Timed.{Timed}
use Rattle.calls.specs.declared.types.Call.{Call}
use Rattle.sensor.specs.declared.types.Sensor.{Sensor}
use Rattle.samples.specs.Samples.{sync_local_until}
use Rattle.serial.specs.SpiEdges.{spi_listens}
use Rattle.bma150.specs.declared.host.Bma150.{Bma150}
use Rattle.bma150.specs.Called.{Acts, acts}
use Rattle.book.specs.Does.{at_rise, at_pins, spi_write, action_write, i2c_write, timed_does, act_does, does}
use Rattle.book.specs.Lists.{accepts, step, after, accepted}
use Rattle.effects.specs.Theorems.Keeps as K
use Rattle.bus.specs.I2c.{Heard, timed_event, act_event, event, events, target_of, ended, at_event, shown, sees, seen_of}
use Rattle.bus.specs.Writes.{and_write, asked, seen_writes, pair_writes}
use Rattle.bus.specs.Theorems.Parts.{and_then, of, heard, same_target, listens, not_quiet}
use Rattle.bus.specs.Theorems.Lists.{next_heard, rest_goes_on}
use Rattle.bus.specs.Theorems.Transfers.{write_through_calls, read_through_calls, combined_through_calls, broken_register_through_calls, broken_value_through_calls, other_address_through_calls}

-- ---- one call

-- a call that is no report asks the engine for nothing
still_phase : (p : Phase) (n b x : ℕ) (l : Bool) (s : ℕ) → deed (target (record { phase = p; pointer = n; bits = b; shift = x; low = l }) s) Still ≡ None
unfolding E.step is_condition is_rise is_fall E.within_byte E.at_ninth E.completes
still_phase P.Idle n b x l s = refl
still_phase (P.Receive k) n b x l s = refl
still_phase (P.Acknowledge f m) n b x l s = refl
still_phase (P.Read m) n b x l s = refl
still_phase (P.MasterAcknowledge a) n b x l s = refl

still_deed : (v : Target) → deed v Still ≡ None
still_deed v = still_phase v.state.phase v.state.pointer v.state.bits v.state.shift v.state.low v.sent

module _ (s : Sensor) (h : Heard s) where
  pins_write : (e : Edge) (now : Time) → i2c_write (at_pins s e now) e ≡ action_write (deed (target_of s) e)
  unfolding i2c_write
  pins_write e now =
      let m = at_pins s e now in
      let same = and_then (of (K.sync_keeps s now false)) (of (K.pins_synced_keeps (sync_local_until s now false) e now)) in
      let g = heard same h in
      let heard_write : i2c_write m e ≡ action_write (deed (target_of m) e) = rw (listens g, not_quiet g) in
      heard_write ∙ ap (λ (v : Target). action_write (deed v e)) (same_target same)

  rise_write : (mosi : Bool) (now : Time) → spi_write (at_rise s now) mosi ≡ None
  unfolding spi_write spi_listens
  rise_write mosi now =
      let g = heard (and_then (of (K.sync_keeps s now false)) (of (K.rise_synced_keeps (sync_local_until s now false) now))) h in rw g.unselected

  none : None ≡ action_write (deed (target_of s) Still)
  unfolding action_write
  none = ap action_write (sym (still_deed (target_of s)))

  timed_asks : (now : Time) (t : Timed) → ((timed_does now t).asks s).write ≡ action_write (deed (target_of s) (timed_event t))
  unfolding timed_does timed_event
  timed_asks now (Timed.Accelerations input) = none
  timed_asks now (Timed.Supply rail) = none
  timed_asks now Timed.Due = none
  timed_asks now (Timed.Rising mosi) = rise_write mosi now ∙ none
  timed_asks now Timed.Falling = none
  timed_asks now (Timed.Pins before after) = pins_write (edge before after) now

  act_asks : (o : Acts) → ((act_does o).asks s).write ≡ action_write (deed (target_of s) (act_event o))
  act_asks (Acts.timed now t) = timed_asks now t
  act_asks (Acts.select on) = none
  act_asks (Acts.keeps f) = none

  -- the book asks for the write that the engine asks for
  pub call_asks : (c : Call) → ((does c).asks s).write ≡ action_write (deed (target_of s) (event c))
  unfolding does event
  call_asks c = act_asks (acts c)

-- ---- lists

at_event_writes : (e : Edge) (a : Seen) (l : List Seen) → (e ≡ Still → action_write a.deed ≡ None) → seen_writes (at_event e a l) ≡ and_write (action_write a.deed) (seen_writes l)
unfolding at_event seen_writes and_write
at_event_writes Still a l h = ap (λ (w : Option (ℕ × ℕ)). and_write w (seen_writes l)) (sym (h refl))
at_event_writes Start a l h = refl
at_event_writes Stop a l h = refl
at_event_writes (Rise d) a l h = refl
at_event_writes Fall a l h = refl

still_write : (s : Sensor) (e : Edge) → e ≡ Still → action_write (deed (target_of s) e) ≡ None
unfolding action_write
still_write s e q = ap (λ (x : Edge). action_write (deed (target_of s) x)) q ∙ ap action_write (still_deed (target_of s))

module _ (s : Bma150) (c : Call) (cs : List Call) (h : Heard s.sensor) (rest : asked (step s c) cs ≡ seen_writes (seen_of (step s c) cs)) where
  either_way : (t : Bool) → accepts s c ≡ t → asked s (c ∷ cs) ≡ seen_writes (seen_of s (c ∷ cs))
  unfolding asked seen_of
  either_way true e =
      rw e
      (ap (λ (w : Option (ℕ × ℕ)). and_write w (asked (step s c) cs)) (call_asks s.sensor h c)
      ∙ ap (λ (l : List (Option (ℕ × ℕ))). and_write (action_write (deed (target_of s.sensor) (event c))) l) rest
      ∙ sym (at_event_writes (event c) (sees s c) (seen_of (step s c) cs) (still_write s.sensor (event c))))
  either_way false e = rw e rest

pub asked_are_seen : (cs : List Call) (s : Bma150) → Heard s.sensor → ended s cs ≡ false → asked s cs ≡ seen_writes (seen_of s cs)
unfolding asked seen_of seen_writes
asked_are_seen [] s h n = refl
asked_are_seen (c ∷ cs) s h n = either_way s c cs h (asked_are_seen cs (step s c) (next_heard s c cs h n) (rest_goes_on s c cs h n)) (accepts s c) refl

-- ---- the writes of each answer

pairs_written : (ps : List Pair) (m : List Seen) → seen_writes m ≡ [] → seen_writes (pairs_answer ps ++ m) ≡ pair_writes ps
unfolding pairs_answer seen_writes and_write action_write pair_writes
pairs_written [] m h = h
pairs_written (p ∷ ps) m h = ap (λ (ws : List (Option (ℕ × ℕ))). Some (p.register % 128, p.value) ∷ ws) (pairs_written ps m h)

bytes_silent : (os : List Levels8) (p : ℕ) (fs : List (ℕ → ℕ)) (m : List Seen) → seen_writes (bytes_answer p os fs ++ m) ≡ seen_writes m
unfolding bytes_answer seen_writes and_write action_write
bytes_silent [] p fs m = refl
bytes_silent (o ∷ os) p fs m = bytes_silent os (next_register p) (drop 18 fs) m

broken_silent : (ds : List Bool) → seen_writes (broken_answer ds) ≡ []
unfolding frees seen_writes and_write action_write
broken_silent [] = refl
broken_silent (d ∷ ds) = broken_silent ds

silence_silent : (es : List Edge) → seen_writes (silence es) ≡ []
unfolding silence silent seen_writes and_write action_write
silence_silent [] = refl
silence_silent (Still ∷ es) = silence_silent es
silence_silent (Start ∷ es) = silence_silent es
silence_silent (Stop ∷ es) = silence_silent es
silence_silent (Rise d ∷ es) = silence_silent es
silence_silent (Fall ∷ es) = silence_silent es

-- ---- the writes of each transfer, from any sensor that hears the bus, in any list in which no accepted call ends that

module _ (s : Bma150) (cs : List Call) (h : Heard s.sensor) (n : ended s cs ≡ false) where
  -- n pairs: each writes its value once, in order, at its register modulo 128, and nothing else is written
  pub write_transfer_writes : (level : Bool) (ps : List Pair) → Bytes ps → events (accepted s cs) ≡ write_transfer level ps → asked s cs ≡ pair_writes ps
  unfolding seen_writes and_write action_write
  write_transfer_writes level ps small e =
      asked_are_seen cs s h n ∙ ap seen_writes (write_through_calls s cs h n level ps small e) ∙ ap seen_writes (sym (append-nil (write_answer ps))) ∙ pairs_written ps [] refl

  -- a read writes nothing
  pub read_writes_nothing : (level : Bool) (os : List Levels8) (last : Levels8) → events (accepted s cs) ≡ read_transfer level os last → asked s cs ≡ []
  unfolding seen_writes and_write action_write
  read_writes_nothing level os last e =
      asked_are_seen cs s h n
      ∙ ap seen_writes (read_through_calls s cs h n level os last e)
      ∙ bytes_silent os s.sensor.i2c.pointer (drop 19 (shown s cs)) _

  -- nor does a combined transfer
  pub combined_writes_nothing : (register : ℕ) (a b c : Bool) (os : List Levels8) (last : Levels8) → register < 256 → events (accepted s cs) ≡ combined register a b c os last → asked s cs ≡ []
  unfolding seen_writes and_write action_write
  combined_writes_nothing register a b c os last small e =
      asked_are_seen cs s h n
      ∙ ap seen_writes (combined_through_calls s cs h n register a b c os last small e)
      ∙ bytes_silent os (register % 128) (drop 19 (drop 1 (drop 18 (drop 20 (shown s cs))))) _

  -- a byte that is broken off writes nothing
  module _ (level : Bool) (ps : List Pair) (small : Bytes ps) (ds : List Bool) (few : length ds ≤ 6) where
    pub broken_register_writes_nothing : events (accepted s cs) ≡ write_transfer level ps ++ broken ds → asked s cs ≡ pair_writes ps
    unfolding seen_writes and_write action_write
    broken_register_writes_nothing e =
        asked_are_seen cs s h n ∙ ap seen_writes (broken_register_through_calls s cs h n level ps small ds few e) ∙ pairs_written ps (broken_answer ds) (broken_silent ds)

    pub broken_value_writes_nothing : (register : ℕ) (b : Bool) → register < 256 → events (accepted s cs) ≡ write_transfer level ps ++ (byte_frame register b ++ broken ds)
        → asked s cs ≡ pair_writes ps
    unfolding seen_writes and_write action_write
    broken_value_writes_nothing register b r e =
        asked_are_seen cs s h n
        ∙ ap seen_writes (broken_value_through_calls s cs h n level ps small ds few register b r e)
        ∙ pairs_written ps (register_answer ++ broken_answer ds) (broken_silent ds)

  -- nor does a transfer to another address, up to the next START
  pub other_address_writes_nothing : (b : ℕ) (es : List Edge) → b < 256 → (b ≡ 0x70 → ⊥) → (b ≡ 0x71 → ⊥) → starts es ≡ false
      → events (accepted s cs) ≡ address_frame b ++ es → asked s cs ≡ []
  unfolding seen_writes and_write action_write
  other_address_writes_nothing b es small not_70 not_71 quiet e =
      asked_are_seen cs s h n ∙ ap seen_writes (other_address_through_calls s cs h n b es small not_70 not_71 quiet e) ∙ silence_silent es
