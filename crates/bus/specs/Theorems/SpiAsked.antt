-- The writes that a list of calls makes on a selected sensor are those seen at its edges.
use Rattle.std.specs.Prelude.{◌≡◌, Bool, ltb, Option, Some, None, ℕ}
use Rattle.std.proofs.Math.Path.{refl, sym, ap}
use Rattle.std.proofs.Common.{◌∙◌}
use Rattle.std.proofs.Math.Bool.{true, false}
use mathlib.Core.List.{List, [], ◌∷◌, ◌++◌}
use Rattle.time.specs.declared.Time.{Time}
use Rattle.i2c.specs.declared.types.Edge.{Edge}
use Rattle.i2c.specs.Bus.{edge}
use Rattle.spi.specs.declared.types.Frame.{Frame}
use Rattle.spi.specs.declared.types.Taken.{Taken}
use Rattle.spi.specs.declared.types.Shift.{Shift}
use Rattle.spi.specs.declared.types.Shift.TheVariants as H
use Rattle.spi.specs.Frame as F
use Rattle.spi.specs.Lines.{Event, Rise, Deed, Now, turnaround_shift, rise_shift, fall_shift, read_deeds, wrote, fetched, bit_deeds, deeds, Seen}
use Rattle.spi.specs.Courses.{Pair, Fit, write_frames}
use Rattle.spi.specs.Answers.{writes_answer}
use Rattle.calls.specs.declared.types.Timed.{Timed}
use Rattle.calls.specs.declared.types.Call.{Call}
use Rattle.sensor.specs.declared.types.Sensor.{Sensor}
use Rattle.sensor.specs.Record.{four_wire}
use Rattle.samples.specs.Samples.{sync_local_until}
use Rattle.serial.specs.I2cPins.{i2c_listens}
use Rattle.bma150.specs.declared.host.Bma150.{Bma150}
use Rattle.bma150.proofs.Theorems.Acts.{by_acts}
use Rattle.book.specs.Does.{at_rise, at_pins, spi_write, i2c_write, timed_does, does}
use Rattle.book.specs.Lists.{accepts, step, accepted}
use Rattle.effects.specs.Theorems.Keeps as KK
use Rattle.bus.specs.Spi.{Chosen, timed_edge, edge_of, and_some, edges, timed_now, now_of, left_frame, seen_edge, seen_edges}
use Rattle.bus.specs.Writes.{and_write, asked, deed_writes, edge_writes, frame_writes}
use Rattle.bus.specs.Theorems.Parts.{Parts, Same, and_then, of}
use Rattle.bus.specs.Theorems.Fading.{Faded, taken_fading}
use Rattle.bus.specs.Theorems.SpiEdges.{chosen}
use Rattle.bus.specs.Theorems.SpiCalls.{rise_faded, rise_write, turn_write}
use Rattle.bus.specs.Theorems.SpiRises.{write_alike}
use Rattle.bus.specs.Theorems.SpiFrames.{next_chosen, rest_stays}
use Rattle.bus.specs.Theorems.SpiTransfers.{write_frames_through_calls}

-- ---- the write among what an edge does

fetch_writes : (sh : Shift) (ws : List (Option (ℕ × ℕ))) → deed_writes (fetched sh) ws ≡ ws
unfolding deed_writes fetched
fetch_writes H.Stay ws = refl
fetch_writes (H.Fetch a) ws = refl
fetch_writes H.Next ws = refl

wrote_writes : (w : Option (ℕ × ℕ)) (sh : Shift) (ws : List (Option (ℕ × ℕ))) → deed_writes (wrote w ++ fetched sh) ws ≡ and_write w ws
unfolding deed_writes wrote and_write
wrote_writes None sh ws = fetch_writes sh ws
wrote_writes (Some (a, v)) sh ws = ap (λ (l : List (Option (ℕ × ℕ))). Some (a, v) ∷ l) (fetch_writes sh ws)

bit_writes : (k : Option ℕ) (w : Option (ℕ × ℕ)) (sh : Shift) (ws : List (Option (ℕ × ℕ))) → deed_writes (read_deeds k ++ (wrote w ++ fetched sh)) ws ≡ and_write w ws
unfolding deed_writes read_deeds
bit_writes None w sh ws = wrote_writes w sh ws
bit_writes (Some a) w sh ws = wrote_writes w sh ws

module _ (n : Now) (f : Frame) (mosi : Bool) (ws : List (Option (ℕ × ℕ))) where
  turn_deeds : f.turnaround ≡ true → deed_writes (deeds n f (Rise mosi)) ws ≡ ws
  unfolding deeds
  turn_deeds e = rw e (fetch_writes (turnaround_shift n f) ws)

  bit_deeds_write : f.turnaround ≡ false → deed_writes (deeds n f (Rise mosi)) ws ≡ and_write (F.take_bit f mosi n.four_wire).write ws
  unfolding deeds
  bit_deeds_write e =
      let t = F.take_bit f mosi n.four_wire in
      let is : deeds n f (Rise mosi) ≡ bit_deeds n (F.first_bit f.serial f.rx_bits) t = rw e in
      ap (λ (d : List Deed). deed_writes d ws) is ∙ bit_writes (F.first_bit f.serial f.rx_bits) t.write (rise_shift n t) ws

-- ---- one call

module _ (s : Sensor) (h : Chosen s) (now : Time) (n : Now) (mosi : Bool) (ws : List (Option (ℕ × ℕ))) where
  abbrev m : Sensor
  m = at_rise s now

  met : Same s m
  met = and_then (of (KK.sync_keeps s now false)) (of (KK.rise_synced_keeps (sync_local_until s now false) now))

  turns : m.frame.turnaround ≡ s.frame.turnaround
  turns = ap (λ (k : Parts). k.frame.turnaround) met.same

  -- the frame but for its driver
  framed : Faded ⊥ s.frame m.frame
  framed = rise_faded ⊥ s now h (λ p. absurd p) (λ p. absurd p)

  alike : (F.take_bit m.frame mosi (four_wire m)).write ≡ (F.take_bit s.frame mosi n.four_wire).write
  alike =
      ap (λ (f : Frame). (F.take_bit f mosi (four_wire m)).write) framed.is
      ∙ ap (λ (t : Taken). t.write) (taken_fading s.frame framed.stays mosi (four_wire m) (ltb s.frame.rx_bits 7) refl)
      ∙ write_alike s.frame mosi (four_wire m) n.four_wire (ltb s.frame.rx_bits 7) refl

  turned : s.frame.turnaround ≡ true → and_write (spi_write m mosi) ws ≡ deed_writes (deeds n s.frame (Rise mosi)) ws
  unfolding and_write
  turned e = ap (λ (w : Option (ℕ × ℕ)). and_write w ws) (turn_write m (chosen met h) mosi (turns ∙ e)) ∙ sym (turn_deeds n s.frame mosi ws e)

  rise_asks : and_write (spi_write m mosi) ws ≡ deed_writes (deeds n s.frame (Rise mosi)) ws
  rise_asks = by s.frame.turnaround refl
    where
      by : (b : Bool) → s.frame.turnaround ≡ b → and_write (spi_write m mosi) ws ≡ deed_writes (deeds n s.frame (Rise mosi)) ws
      by true e = turned e
      by false e =
          ap (λ (w : Option (ℕ × ℕ)). and_write w ws) (rise_write m (chosen met h) mosi (turns ∙ e) ∙ alike) ∙ sym (bit_deeds_write n s.frame mosi ws e)

-- the writes of what is seen at an edge, if there is one
unfoldable pub some_writes : Bma150 → Call → Option Event → List (Option (ℕ × ℕ)) → List (Option (ℕ × ℕ))
some_writes s c None ws = ws
some_writes s c (Some e) ws = deed_writes (deeds (now_of s c) s.sensor.frame e) ws

module _ (s : Bma150) (h : Chosen s.sensor) (ws : List (Option (ℕ × ℕ))) where
  pins_write : (e : Edge) (now : Time) → i2c_write (at_pins s.sensor e now) e ≡ None
  unfolding i2c_write i2c_listens
  pins_write e now =
      let g = chosen (and_then (of (KK.sync_keeps s.sensor now false)) (of (KK.pins_synced_keeps (sync_local_until s.sensor now false) e now))) h in rw g.selected

  timed_asks : (now : Time) (t : Timed) → and_write ((timed_does now t).asks s.sensor).write ws ≡ some_writes s (Call.At now t) (timed_edge t) ws
  unfolding timed_does timed_edge some_writes and_write now_of timed_now deeds
  timed_asks now (Timed.Accelerations input) = refl
  timed_asks now (Timed.Supply rail) = refl
  timed_asks now Timed.Due = refl
  timed_asks now (Timed.Rising mosi) = rise_asks s.sensor h now (now_of s (Call.At now (Timed.Rising mosi))) mosi ws
  timed_asks now Timed.Falling = sym (fetch_writes (fall_shift (now_of s (Call.At now Timed.Falling)) s.sensor.frame) ws)
  timed_asks now (Timed.Pins a b) = ap (λ (w : Option (ℕ × ℕ)). and_write w ws) (pins_write (edge a b) now)

  -- the book asks for the write that is seen
  pub call_asks : (c : Call) → and_write ((does c).asks s.sensor).write ws ≡ some_writes s c (edge_of c) ws
  unfolding does edge_of some_writes and_write
  call_asks =
      by_acts (λ c. and_write ((does c).asks s.sensor).write ws ≡ some_writes s c (edge_of c) ws) timed_asks (λ on. refl) (λ c f e. rw e refl)

-- ---- lists

some_seen : (s : Bma150) (c : Call) (o : Option Event) (l : List Seen) → edge_writes (and_some (seen_edge s c o) l) ≡ some_writes s c o (edge_writes l)
unfolding edge_writes and_some seen_edge some_writes
some_seen s c None l = refl
some_seen s c (Some e) l = refl

module _ (s : Bma150) (c : Call) (cs : List Call) (h : Chosen s.sensor) (rest : asked (step s c) cs ≡ edge_writes (seen_edges (step s c) cs)) where
  either_way : (t : Bool) → accepts s c ≡ t → asked s (c ∷ cs) ≡ edge_writes (seen_edges s (c ∷ cs))
  unfolding asked seen_edges
  either_way true e =
      rw e
      (call_asks s h (asked (step s c) cs) c
      ∙ ap (λ (ws : List (Option (ℕ × ℕ))). some_writes s c (edge_of c) ws) rest
      ∙ sym (some_seen s c (edge_of c) (seen_edges (step s c) cs)))
  either_way false e = rw e rest

pub edges_asked : (cs : List Call) (s : Bma150) → Chosen s.sensor → left_frame s cs ≡ false → asked s cs ≡ edge_writes (seen_edges s cs)
unfolding asked seen_edges edge_writes
edges_asked [] s h n = refl
edges_asked (c ∷ cs) s h n = either_way s c cs h (edges_asked cs (step s c) (next_chosen s c cs h n) (rest_stays s c cs h n)) (accepts s c) refl

-- ---- the writes of frames

frames_written : (ps : List Pair) → edge_writes (writes_answer ps) ≡ frame_writes ps
unfolding writes_answer edge_writes deed_writes frame_writes
frames_written [] = refl
frames_written (p ∷ ps) = ap (λ (ws : List (Option (ℕ × ℕ))). Some (p.register, p.value) ∷ ws) (frames_written ps)

module _ (s : Bma150) (cs : List Call) (h : Chosen s.sensor) (n : left_frame s cs ≡ false) (begun : s.sensor.frame ≡ F.fresh true) where
  -- each write frame writes its value once, in order, and nothing else is written
  pub write_frames_write : (ps : List Pair) → Fit ps → edges (accepted s cs) ≡ write_frames ps → asked s cs ≡ frame_writes ps
  write_frames_write ps small e = edges_asked cs s h n ∙ ap edge_writes (write_frames_through_calls s cs h n begun ps small e).0 ∙ frames_written ps
