-- Whole SPI frames of a selected sensor through the calls, in both wire modes.
use Rattle.std.specs.Prelude.{ℕ, zero, suc, ◌+◌, ◌≤◌, ◌<◌, ◌≡◌, Bool, eqb, drop, replicate, if◌then◌else◌, Option, Some, None}
use native.Mathlib.Omega.{arith}
use Rattle.std.proofs.Math.Path.{refl, ap}
use Rattle.std.proofs.Common.{sym, subst, ◌∙◌, length-drop}
use Rattle.std.proofs.Math.Bool.{true, false}
use mathlib.Core.List.{List, [], ◌∷◌, ◌++◌}
use Rattle.std.proofs.Math.ListN.{length}
use Rattle.time.specs.declared.Time.{Time}
use Rattle.spi.specs.declared.types.Frame.{Frame}
use Rattle.spi.specs.Frame as F
use Rattle.spi.specs.Lines.{Event, Rise, Fall, Deed, Wrote, Now, Seen, now, left, seen}
use Rattle.spi.specs.Courses.{clocked, write_frame, Pair, Fit, write_frames, Levels8, read_bytes, four_wire_read, three_wire_read, Keeps}
use Rattle.spi.specs.Answers.{floats, floats_and, taken_answer, address_answer, write_answer, writes_answer, four_wire_answer, three_wire_answer}
use Rattle.spi.proofs.Theorems.Frames.{Serves, write_served, writes_served}
use Rattle.spi.proofs.Theorems.Reads.{four_wire_read_served, three_wire_read_served}
use Rattle.registers.specs.Map.{SPI4}
use Rattle.registers.specs.Access.{withheld}
use Rattle.calls.proofs.Theorems.Left as Left
use Rattle.calls.specs.declared.types.Call.{Call}
use Rattle.sensor.specs.declared.types.Sensor.{Sensor}
use Rattle.sensor.specs.Record.{is_off, four_wire, gate}
use Rattle.sensor.specs.RegisterReads.{peek, fetched}
use Rattle.sensor.specs.Select.{selected_to, may_select, set_selected}
use Rattle.samples.specs.Samples.{interaction_deadline, sync_local_until}
use Rattle.serial.specs.SpiEdges as E
use Rattle.bma150.specs.declared.host.Bma150.{Bma150}
use Rattle.bma150.specs.Called.{leaves}
use Rattle.book.specs.Does.{at_rise}
use Rattle.book.specs.Lists.{accepts, step, after, accepted}
use Rattle.effects.specs.Theorems.Keeps as K
use Rattle.effects.specs.Theorems.Driver as Driver
use Rattle.bus.specs.I2c.{sampled}
use Rattle.bus.specs.Spi.{Chosen, edge_of, and_some, edges, at_fall, sends, left_frame, sleeps, now_edge, seen_edges, nows}
use Rattle.bus.specs.Theorems.Parts.{Parts, Same, of}
use Rattle.bus.specs.Theorems.Calls.{accepted_leaves}
use Rattle.bus.specs.Theorems.SpiEdges.{chosen, listens}
use Rattle.bus.specs.Theorems.SpiLists.{Exact, through_edges}
use Rattle.bus.specs.Theorems.SpiFrames.{awake_exact, AllFloat, floating_exact}

-- ---- one entry for each edge

and_some_length : (s : Bma150) (c : Call) (o : Option Event) (es : List Event) (ns : List Now) → length ns ≡ length es → length (and_some (now_edge s c o) ns) ≡ length (and_some o es)
unfolding and_some now_edge
and_some_length s c None es ns e = e
and_some_length s c (Some d) es ns e = ap suc e

pub nows_length : (cs : List Call) (s : Bma150) → length (nows s cs) ≡ length (edges (accepted s cs))
unfolding nows accepted edges
nows_length [] s = refl
nows_length (c ∷ cs) s = by (accepts s c) refl (nows_length cs (step s c))
  where
    by : (t : Bool) → accepts s c ≡ t → length (nows (step s c) cs) ≡ length (edges (accepted (step s c) cs)) → length (nows s (c ∷ cs)) ≡ length (edges (accepted s (c ∷ cs)))
    by true e r = rw e (and_some_length s c (edge_of c) (edges (accepted (step s c) cs)) (nows (step s c) cs) r)
    by false e r = rw e r

-- ---- the wire mode is the same at each of them

abbrev pub InMode : (four_wire : Bool) → List Now → Type 0
InMode w [] = Unit {0}
InMode w (n ∷ ns) = (n.four_wire ≡ w) × (n.four_wire_then ≡ w) × InMode w ns

in_mode_drop : (w : Bool) (k : ℕ) (ns : List Now) → InMode w ns → InMode w (drop k ns)
in_mode_drop w zero ns x = x
in_mode_drop w (suc k) [] x = tt
in_mode_drop w (suc k) (n ∷ ns) x = in_mode_drop w k ns x.2

in_mode_now : (w : Bool) (ns : List Now) → 1 ≤ length ns → InMode w ns → ((now ns).four_wire ≡ w) × ((now ns).four_wire_then ≡ w)
in_mode_now w [] l x = absurd (omega (arith, l))
in_mode_now w (n ∷ ns) l x = (x.0, x.1)

in_mode_keeps : (w : Bool) (es : List Event) (ns : List Now) → length es ≤ length ns → InMode w ns → Keeps w es ns
in_mode_keeps w [] ns l x = tt
in_mode_keeps w (e ∷ es) [] l x = absurd (omega (arith, l))
in_mode_keeps w (Rise d ∷ es) (n ∷ ns) l x = (x.1, in_mode_keeps w es ns (omega (arith, l)) x.2)
in_mode_keeps w (Fall ∷ es) (n ∷ ns) l x = (x.0, in_mode_keeps w es ns (omega (arith, l)) x.2)

-- ---- the pin floats in these answers

pub float_append : (l m : List Seen) → AllFloat l → AllFloat m → AllFloat (l ++ m)
float_append [] m p q = q
float_append (a ∷ l) m p q = (p.0, float_append l m p.1 q)

replicate_floats : (k : ℕ) → AllFloat (replicate k floats)
replicate_floats zero = tt
replicate_floats (suc k) = (refl, replicate_floats k)

pub taken_floats : (ds : List Deed) → AllFloat (taken_answer ds)
taken_floats ds = float_append (replicate 14 floats) (floats_and ds ∷ []) (replicate_floats 14) (refl, tt)

write_floats : (a x : ℕ) → AllFloat (write_answer a x)
write_floats a x = float_append (address_answer ++ (floats ∷ [])) (taken_answer (Wrote a x ∷ [])) (float_append address_answer (floats ∷ []) (taken_floats []) (refl, tt)) (taken_floats (Wrote a x ∷ []))

writes_float : (ps : List Pair) → AllFloat (writes_answer ps)
unfolding writes_answer
writes_float [] = tt
writes_float (p ∷ ps) = float_append (floats ∷ write_answer p.register p.value) (writes_answer ps) (refl, write_floats p.register p.value) (writes_float ps)

-- ---- frames, from a selected sensor whose frame has not begun, in any list in which no accepted call deselects it, cuts its supply or resets it

module _ (s : Bma150) (cs : List Call) (h : Chosen s.sensor) (n : left_frame s cs ≡ false) (begun : s.sensor.frame ≡ F.fresh true) where
  served : (es : List Event) (a : List Seen) (g : Frame) → edges (accepted s cs) ≡ es → Serves (F.fresh true) es (nows s cs) a g → Exact s cs → (seen_edges s cs ≡ a) × ((after s cs).sensor.frame ≡ g)
  served es a g e v x =
      let t = through_edges cs s x in (
        t.1 ∙ ap (λ (f : Frame). seen f (edges (accepted s cs)) (nows s cs)) begun ∙ ap (λ (l : List Event). seen (F.fresh true) l (nows s cs)) e ∙ v.is_seen,
        t.0 ∙ ap (λ (f : Frame). left f (edges (accepted s cs)) (nows s cs)) begun ∙ ap (λ (l : List Event). left (F.fresh true) l (nows s cs)) e ∙ v.is_left,
      )

  pub floating : (es : List Event) (a : List Seen) (g : Frame) → edges (accepted s cs) ≡ es → Serves (F.fresh true) es (nows s cs) a g → AllFloat a → (seen_edges s cs ≡ a) × ((after s cs).sensor.frame ≡ g)
  floating es a g e v x =
      let same = ap (λ (f : Frame). seen f (edges (accepted s cs)) (nows s cs)) begun ∙ ap (λ (l : List Event). seen (F.fresh true) l (nows s cs)) e ∙ v.is_seen in
      served es a g e v (floating_exact cs s h n (ap (λ (f : Frame). f.driven) begun) (subst AllFloat (sym same) x))

  -- a write frame, asleep or awake, whatever the wire mode and whether it changes on the way: the pin floats, and the sixteenth rise writes once
  pub write_frame_through_calls : (a x : ℕ) → a < 128 → x < 256 → edges (accepted s cs) ≡ write_frame a x → (seen_edges s cs ≡ write_answer a x) × ((after s cs).sensor.frame ≡ F.fresh true)
  write_frame_through_calls a x la lx e = floating (write_frame a x) (write_answer a x) (F.fresh true) e (write_served a x (nows s cs) la lx) (write_floats a x)

  -- any number of them in a row
  pub write_frames_through_calls : (ps : List Pair) → Fit ps → edges (accepted s cs) ≡ write_frames ps → (seen_edges s cs ≡ writes_answer ps) × ((after s cs).sensor.frame ≡ F.fresh true)
  write_frames_through_calls ps small e = floating (write_frames ps) (writes_answer ps) (F.fresh true) e (writes_served ps (nows s cs) small) (writes_float ps)

  module _ (a : ℕ) (os : List Levels8) (small : a < 128) (awake : sleeps s cs ≡ false) where
    -- a read frame in four-wire mode: each byte is what its register shows at the fall that fetches it, bit by bit; a withheld one floats; the next register follows
    pub four_wire_read_through_calls : edges (accepted s cs) ≡ four_wire_read a os → InMode true (nows s cs) → seen_edges s cs ≡ four_wire_answer a os (nows s cs)
    unfolding clocked
    four_wire_read_through_calls e m =
        let k : length (four_wire_read a os) ≡ 15 + length (read_bytes os) = omega arith in
        let l : length (nows s cs) ≡ 15 + length (read_bytes os) = nows_length cs s ∙ ap (λ (es : List Event). length es) e ∙ k in
        let ns = nows s cs in
        let met = in_mode_now true (drop 14 ns) (rw (length-drop 14 ns, l) (omega arith)) (in_mode_drop true 14 ns m) in
        let kept = in_mode_keeps true (read_bytes os) (drop 15 ns) (rw (length-drop 15 ns, l) (omega arith)) (in_mode_drop true 15 ns m) in
        (served (four_wire_read a os) (four_wire_answer a os ns) _ e (four_wire_read_served a os ns small met.0 met.1 kept) (awake_exact cs s h n awake)).0

    -- one in three-wire mode, after the turnaround's clock
    pub three_wire_read_through_calls : (level : Bool) → edges (accepted s cs) ≡ three_wire_read a level os → InMode false (nows s cs) → seen_edges s cs ≡ three_wire_answer a os (nows s cs)
    unfolding clocked
    three_wire_read_through_calls level e m =
        let k : length (three_wire_read a level os) ≡ 17 + length (read_bytes os) = omega arith in
        let l : length (nows s cs) ≡ 17 + length (read_bytes os) = nows_length cs s ∙ ap (λ (es : List Event). length es) e ∙ k in
        let ns = nows s cs in
        let met = in_mode_now false (drop 14 ns) (rw (length-drop 14 ns, l) (omega arith)) (in_mode_drop false 14 ns m) in
        let fall = in_mode_now false (drop 15 ns) (rw (length-drop 15 ns, l) (omega arith)) (in_mode_drop false 15 ns m) in
        let kept = in_mode_keeps false (read_bytes os) (drop 17 ns) (rw (length-drop 17 ns, l) (omega arith)) (in_mode_drop false 17 ns m) in
        (served (three_wire_read a level os) (three_wire_answer a os ns) _ e (three_wire_read_served a level os ns small met.0 fall.0 kept) (awake_exact cs s h n awake)).0

-- ---- the sensor that meets an edge has the sample of its moment exactly where the answers say so

module _ (s : Sensor) (at : Time) (h : Chosen s) where
  abbrev u : Sensor
  u = sync_local_until s at false

  same : Same s u
  same = of (K.sync_keeps s at false)

  rise_uses : F.consumes_at_rise u.frame ≡ F.consumes_at_rise s.frame
  unfolding F.consumes_at_rise
  rise_uses = ap (λ (k : Parts). F.consumes_at_rise k.frame) same.same

  pub rise_meets : at_rise s at ≡ (if F.consumes_at_rise s.frame then sampled s at else u)
  unfolding E.rise_synced
  rise_meets = rw (listens (chosen same h), rise_uses)

  fall_uses : (w : Bool) → F.consumes_at_fall u.frame w ≡ F.consumes_at_fall s.frame w
  unfolding F.consumes_at_fall
  fall_uses w = ap (λ (k : Parts). F.consumes_at_fall k.frame w) same.same

  -- a sample does not change the wire mode
  mode_sampled : four_wire (sampled s at) ≡ four_wire u
  mode_sampled = ap (λ (r : ℕ). SPI4 r) (Driver.sync_mode u at true)

  pub fall_meets : at_fall s at ≡ (if F.consumes_at_fall s.frame (four_wire (at_fall s at)) then sampled s at else u)
  unfolding E.fall_synced
  fall_meets = by (F.consumes_at_fall s.frame (four_wire u)) refl
    where
      fell : (b : Bool) → F.consumes_at_fall s.frame (four_wire u) ≡ b → at_fall s at ≡ (if b then sampled s at else u)
      fell b e = rw (listens (chosen same h), fall_uses (four_wire u), e)

      by : (b : Bool) → F.consumes_at_fall s.frame (four_wire u) ≡ b → at_fall s at ≡ (if F.consumes_at_fall s.frame (four_wire (at_fall s at)) then sampled s at else u)
      by true e =
          fell true e
          ∙ ap (λ (b : Bool). if b then sampled s at else u)
          (sym (ap (λ (x : Sensor). F.consumes_at_fall s.frame (four_wire x)) (fell true e) ∙ ap (λ (w : Bool). F.consumes_at_fall s.frame w) mode_sampled ∙ e))
      by false e =
          fell false e ∙ ap (λ (b : Bool). if b then sampled s at else u) (sym (ap (λ (x : Sensor). F.consumes_at_fall s.frame (four_wire x)) (fell false e) ∙ e))

-- ---- what `peek` withholds floats

pub withheld_floats : (s : Sensor) (r : ℕ) → withheld r (gate s) ≡ true → sends s r ≡ None
unfolding peek fetched
withheld_floats s r e = rw (e, sends)

-- ---- select: it is never refused; a change drops the frame, select 1 while off is forgotten

pub select_accepted : (s : Bma150) (on : Bool) → accepts s (Call.Select on) ≡ true
select_accepted s on = ap (λ (n : ℕ). eqb n 0) (Left.select_accepted s.last (interaction_deadline s.sensor) s.sensor.kept.lines on)

module _ (s : Bma150) where
  selects : (on : Bool) → (step s (Call.Select on)).sensor ≡ set_selected s.sensor on
  unfolding leaves
  selects on = ap (λ (t : Bma150). t.sensor) (accepted_leaves s (Call.Select on) (select_accepted s on))

  pub select_begins : is_off s.sensor ≡ false → s.sensor.frame.selected ≡ false → (step s (Call.Select true)).sensor.frame ≡ F.fresh true
  unfolding selected_to may_select F.differs
  select_begins on e = let begun : (set_selected s.sensor true).frame ≡ F.fresh true = rw (on, e) in ap (λ (t : Sensor). t.frame) (selects true) ∙ begun

  pub deselect_drops : s.sensor.frame.selected ≡ true → (step s (Call.Select false)).sensor.frame ≡ F.fresh false
  unfolding selected_to may_select F.differs
  deselect_drops e = let dropped : (set_selected s.sensor false).frame ≡ F.fresh false = rw e in ap (λ (t : Sensor). t.frame) (selects false) ∙ dropped

  pub select_again : (on : Bool) → is_off s.sensor ≡ false → s.sensor.frame.selected ≡ on → (step s (Call.Select on)).sensor ≡ s.sensor
  unfolding selected_to may_select F.differs
  select_again true off e = let same : set_selected s.sensor true ≡ s.sensor = rw (off, e) in selects true ∙ same
  select_again false off e = let same : set_selected s.sensor false ≡ s.sensor = rw e in selects false ∙ same

  pub select_while_off : is_off s.sensor ≡ true → s.sensor.frame.selected ≡ false → (step s (Call.Select true)).sensor ≡ s.sensor
  unfolding selected_to may_select F.differs
  select_while_off off e = let same : set_selected s.sensor true ≡ s.sensor = rw (off, e) in selects true ∙ same
