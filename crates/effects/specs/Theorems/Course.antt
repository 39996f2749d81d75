-- All that a call does is a course of edges, resets, returns and steps without a sample; so every mark says what the value beside it is.
use Prim.Native.Nat.{ℕ, zero, suc, ◌/◌, ◌<◌}
use Rattle.std.proofs.Common.{arith, sym, subst, ◌∙◌, length-append, get_or-set_same, get_or-set_other, get_or-take, length-take-le, leb-false, eqb-true}
use Rattle.std.proofs.Math.Path.{◌≡◌, refl, ap}
use Rattle.std.specs.Prelude.{Bool, true, false, ◌⊎◌, leb, eqb, ℤ, set, take, replicate, Option, Some, None}
use Rattle.std.proofs.Math.Logic.{inl, inr}
use mathlib.Core.List.{List, [], ◌∷◌, ◌++◌}
use Rattle.std.proofs.Math.ListN.{length, get_or, length-set, get_or-append}
use Rattle.std.proofs.lemmas.Bool.{eqb-false, false_from_ne_true, cond_both}
use Rattle.laws.specs.Iterate.{iterate}
use Rattle.time.specs.declared.Time.{Time}
use Rattle.analog.specs.Axis.{Acceleration}
use Rattle.filter.proofs.Answers.{mean_where_full, code_where_not}
use Rattle.control.specs.declared.types.WriteKind.{WriteKind}
use Rattle.control.specs.declared.types.Effect.{Effect}
use Rattle.control.specs.Lengths.{needs}
use Rattle.filter.specs.Filter.{selected, full, answered}
use Rattle.reads.specs.Reads.{axis_of, without_new_data}
use Rattle.registers.specs.Map.{at, acc_lsb, acc_msb, status, measurement, control, operation, bandwidth}
use Rattle.registers.specs.Codes.{code_low, code_high}
use Rattle.registers.specs.Access.{unwritable, ignores}
use Rattle.sampling.specs.declared.types.Input.{Input}
use Rattle.sampling.specs.declared.types.Acquisition.{Acquisition}
use Rattle.sampling.specs.declared.types.Sampling.{Sampling}
use Rattle.sampling.specs.Phase as Phase
use Rattle.sampling.specs.Stage as Stage
use Rattle.sensor.specs.declared.types.Sensor.{Sensor}
use Rattle.sensor.specs.Record.{is_off}
use Rattle.sensor.specs.Image.{reset_registers, image_copied, copy_image}
use Rattle.sensor.specs.RegisterReads.{low_address, acceleration_read}
use Rattle.samples.specs.Samples.{acquisition, after_edges}
use Rattle.writes.specs.Write.{tested, measurement_written, write_kind}
use Rattle.control.specs.Kinds as Kinds
use Rattle.waits.specs.Supply as S
use Rattle.effects.specs.Walk.{Steps}
use Rattle.effects.specs.Marks.{Sized, value_in, value, value_of, is_mean, next_phase, converts, Sampled, Passed, Filtered, Emptied, Course, Samples, code_of, Shows}
use Rattle.effects.specs.Theorems.Phases.{sample_same}
use Rattle.effects.specs.Theorems.Sizes.{stored_length, cell_length, copied_length}
use Rattle.effects.specs.Theorems.Marks.{each, value_apart, marks}

-- sizes are kept, and there is a course. A record, so that s and t are inferred from it
pub record Marked (s t : Sensor) : Type 0 where
  pub marked : Sized s → Sized t × Course s t

pub joined : {r s t : Sensor} → Course r s → Course s t → Course r t
joined c Course.here = c
joined c (Course.edge h d) = Course.edge h (joined c d)
joined c (Course.reset d now) = Course.reset (joined c d) now
joined c (Course.returned d now) = Course.returned (joined c d) now
joined c (Course.unsampled d u) = Course.unsampled (joined c d) u

-- ---- steps without a sample

-- neither registers nor marks nor filter
stays : {s t : Sensor} → t.registers ≡ s.registers → t.nonvolatile ≡ s.nonvolatile → t.sampling.means ≡ s.sampling.means → t.sampling.filter ≡ s.sampling.filter → Marked s t
stays {s} {t} r n m f = record {
  marked = λ h. (
    record { registers = ap (λ (l : List ℕ). length l) r ∙ h.registers; stored = ap (λ (l : List ℕ). length l) n ∙ h.stored; marks = ap (λ (l : List Bool). length l) m ∙ h.marks },
    Course.unsampled Course.here (record { values = λ axis p. ap (λ (l : List ℕ). value_in l axis) r; means = m; filter = Filtered.same f }),
  );
}

-- a register that is no acceleration's
puts_at : {s t : Sensor} (a v : ℕ) → 8 < a → t.registers ≡ set s.registers a v → t.nonvolatile ≡ s.nonvolatile → t.sampling.means ≡ s.sampling.means → t.sampling.filter ≡ s.sampling.filter → Marked s t
puts_at {s} {t} a v far r n m f = record {
  marked = λ h. (
    record { registers = ap (λ (l : List ℕ). length l) r ∙ stored_length s.registers a v h.registers; stored = ap (λ (l : List ℕ). length l) n ∙ h.stored; marks = ap (λ (l : List Bool). length l) m ∙ h.marks },
    Course.unsampled Course.here (record { values = λ axis p. ap (λ (l : List ℕ). value_in l axis) r ∙ value_apart s.registers a v (omega arith) axis p; means = m; filter = Filtered.same f }),
  );
}

-- the sampling has the marks and the filter of another
abbrev Alike : Sampling → Sampling → Type 0
Alike g h = (h.means ≡ g.means) × (h.filter ≡ g.filter)

held_keeps : (g : Sampling) (now : Time) (input : Input) → Alike g (Stage.hold g now input)
unfolding Stage.hold
held_keeps g now input = cond_both g.asleep _ _ (Alike g) (λ e. (refl, refl)) (λ e. (refl, refl))

turned_keeps : (g : Sampling) (now : Time) (old new : Acceleration) → Alike g (Stage.turned g now old new)
unfolding Stage.turned
turned_keeps g now old new = cond_both g.asleep _ _ (Alike g) (λ e. (refl, refl)) (λ e. (refl, refl))

set_keeps : (s : Sensor) (input : Acceleration) (now : Time) → Alike s.sampling (S.turned s input now)
unfolding S.turned
set_keeps s input now = cond_both (is_off s) _ _ (Alike s.sampling) (λ e. (refl, refl)) (λ e. turned_keeps s.sampling now s.kept.input.acceleration input)

-- a low byte without its new-data bit shows the same value
low_same : (l : List ℕ) (i j : ℕ) → get_or (set l i (without_new_data (get_or l i 0))) j 0 / 2 ≡ get_or l j 0 / 2
low_same [] i j = refl
low_same (b ∷ l) zero zero = omega arith
low_same (b ∷ l) zero (suc j) = refl
low_same (b ∷ l) (suc i) zero = refl
low_same (b ∷ l) (suc i) (suc j) = low_same l i j

read_apart : (registers : List ℕ) (b axis : ℕ) → value_in (set registers (acc_lsb b) (without_new_data (at registers (acc_lsb b)))) axis ≡ value_in registers axis
read_apart registers b axis =
    let low = low_same registers (acc_lsb b) (acc_lsb axis) in
    let high = get_or-set_other registers (acc_lsb b) (acc_msb axis) (without_new_data (at registers (acc_lsb b))) 0 (λ e. omega (arith, e)) in
    rw (low, high)

-- the copy of an image begins behind the accelerations
copied_apart : (registers image : List ℕ) → length registers ≡ 62 → (axis : ℕ) → axis < 3 → value_in (image_copied registers image) axis ≡ value_in registers axis
copied_apart registers image h axis p =
    let head = take 0x0b registers in
    let first : length head ≡ 0x0b = length-take-le 0x0b registers (omega (arith, h)) in
    let same : (i : ℕ) → i < 0x0b → at (image_copied registers image) i ≡ at registers i = λ i q.
    get_or-append (head ++ take 19 image) _ 0 i (rw (length-append head (take 19 image)) (omega (arith, first)))
    ∙ get_or-append head (take 19 image) 0 i (omega (arith, first))
    ∙ get_or-take 0x0b registers i 0 q
    in
    rw (same (acc_lsb axis) (omega arith), same (acc_msb axis) (omega arith))

copies : (s : Sensor) → Marked s (copy_image s)
copies s = record {
  marked = λ h. (
    record { registers = copied_length s.registers s.nonvolatile h.registers h.stored; stored = h.stored; marks = h.marks },
    Course.unsampled Course.here (record { values = copied_apart s.registers s.nonvolatile h.registers; means = refl; filter = Filtered.selects refl }),
  );
}

-- a write that is not ignored goes to an address from 0a on
ignored_below : (s : Sensor) (address value : ℕ) → leb address 0x09 ≡ true → write_kind s address value ≡ WriteKind.Ignored
unfolding Kinds.kind_of_write ignores unwritable
ignored_below s address value e = rw e

above : (s : Sensor) (address value : ℕ) (w : WriteKind) → write_kind s address value ≡ w → (WriteKind.Ignored ≡ w → ⊥) → 8 < address
above s address value w e n =
    let h = leb-false address 0x09 (false_from_ne_true (leb address 0x09) (λ q. n (sym (ignored_below s address value q) ∙ e))) in
    omega (arith, h)

-- ---- edges of the sample clock

abbrev size_of : Acquisition → ℕ
size_of c = length c.registers

module _ (c : Acquisition) (input : Input) (needs : List ℕ) where
  abbrev after : Acquisition
  after = Phase.sample input needs c

  -- an edge samples one axis or none
  pub Edge : Type 0
  Edge = Passed c after ⊎ (axis : ℕ) × (next_phase c ≡ suc axis) × (c.sampling.test ≡ None) × Sampled c after axis (converts c input axis)

  by_phase : (n : ℕ) → next_phase c ≡ n → c.sampling.test ≡ None → Edge
  unfolding Edge
  by_phase zero p e = inl (marks.temperature c input needs p)
  by_phase (suc axis) p e = inr (axis, p, e, marks.phase c input needs axis p e)

  by_test : (t : Option ℕ) → c.sampling.test ≡ t → Edge
  unfolding Edge
  by_test None e = by_phase (next_phase c) refl e
  by_test (Some left) e = inl (marks.self_test c input needs left e)

  pub an_edge : Edge
  an_edge = by_test c.sampling.test refl

  -- the registers keep their number
  size_same : size_of after ≡ size_of c
  size_same =
      sample_same size_of (λ k i. refl) (λ k. refl) input needs (λ k. refl) (λ k. refl) (λ k. length-set k.registers _ _)
      (λ k axis p. length-set (set k.registers _ _) _ _ ∙ length-set k.registers _ _) (λ k. length-set (set k.registers _ _) _ _ ∙ length-set k.registers _ _) c

  marks_size : Edge → length after.sampling.means ≡ length c.sampling.means
  unfolding Edge
  marks_size (inl p) = ap (λ (l : List Bool). length l) p.means
  marks_size (inr (axis, q, e, p)) = ap (λ (l : List Bool). length l) p.means ∙ length-set c.sampling.means axis _

one_edge : (s : Sensor) → Sized s → Sized (after_edges s 1)
unfolding iterate
one_edge s h = record {
  registers = size_same (acquisition s) s.kept.input needs ∙ h.registers;
  stored = h.stored;
  marks = marks_size (acquisition s) s.kept.input needs (an_edge (acquisition s) s.kept.input needs) ∙ h.marks;
}

edges_course : (n : ℕ) (s : Sensor) → Marked s (after_edges s n)
unfolding iterate
edges_course zero s = record { marked = λ h. (h, Course.here) }
edges_course (suc n) s = record { marked = λ h. let a = (edges_course n s).marked h in (one_edge (after_edges s n) a.0, Course.edge a.0 a.1) }

-- ---- the steps of a call

followed : {s t u : Sensor} → Marked s t → Marked t u → Marked s u
followed p q = record { marked = λ h. let a = p.marked h in let b = q.marked a.0 in (b.0, joined a.1 b.1) }

module _ (now : Time) where
  cuts_cell : (s : Sensor) (address value : ℕ) → Marked s (S.write_over s address value)
  cuts_cell s address value = record {
    marked = λ h. (
      record { registers = h.registers; stored = cell_length s.nonvolatile address value h.stored; marks = h.marks },
      Course.unsampled Course.here (record { values = λ axis p. refl; means = refl; filter = Filtered.same refl }),
    );
  }

  -- registers as at a start, and the image copied
  fresh : {s t : Sensor} → t.registers ≡ image_copied reset_registers s.nonvolatile → t.nonvolatile ≡ s.nonvolatile → t.sampling.means ≡ replicate 3 false → Course s t → Marked s t
  fresh {s} {t} r n m c = record {
    marked = λ h. (
      record { registers = ap (λ (l : List ℕ). length l) r ∙ copied_length reset_registers s.nonvolatile refl h.stored; stored = ap (λ (l : List ℕ). length l) n ∙ h.stored; marks = ap (λ (l : List Bool). length l) m },
      c,
    );
  }

  measures : (s : Sensor) (value : ℕ) → Marked s (measurement_written s value)
  measures s value = record {
    marked = λ h. (
      record { registers = stored_length s.registers measurement value h.registers; stored = h.stored; marks = h.marks },
      Course.unsampled Course.here (record {
        values = value_apart s.registers measurement value (omega arith);
        means = refl;
        filter = Filtered.selects (ap (λ (b : ℕ). selected s.sampling.filter (bandwidth b)) (sym (get_or-set_same s.registers measurement value 0 (omega (arith, h.registers)))));
      }),
    );
  }

  reads : (s : Sensor) (address sent : ℕ) → Marked s (acceleration_read s address sent)
  reads s address sent = record {
    marked = λ h. (
      record { registers = stored_length s.registers (low_address address) _ h.registers; stored = h.stored; marks = h.marks },
      Course.unsampled Course.here (record { values = λ axis p. read_apart s.registers (axis_of address) axis; means = refl; filter = Filtered.same refl }),
    );
  }

  pub course : Steps now Marked
  unfolding tested
  course = record {
    itself = λ s. record { marked = λ h. (h, Course.here) };
    then = followed;
    edges = λ s inclusive d. edges_course _ s;
    due_edge = λ s e. edges_course 1 s;
    acquires = λ s ready. record { marked = λ h. (record { registers = h.registers; stored = h.stored; marks = h.marks }, Course.unsampled Course.here (marks.wake_keeps s now ready)) };
    pauses = λ s. let k = held_keeps s.sampling now s.kept.input in stays refl refl k.0 k.1;
    holds = λ s. stays refl refl refl refl;
    manual = λ s. stays refl refl refl refl;
    recounts = λ s. stays refl refl refl refl;
    drops_hold = λ s. stays refl refl refl refl;
    resets = λ s. stays refl refl refl refl;
    test_starts = λ s. puts_at status _ (omega arith) refl refl refl refl;
    test_stops = λ s. stays refl refl refl refl;
    copy_begins = λ s. stays refl refl refl refl;
    controls = λ s value. puts_at control (Kinds.kept value) (omega arith) refl refl refl refl;
    operates = λ s value. puts_at operation value (omega arith) refl refl refl refl;
    measures = measures;
    soft_resets = λ s. fresh refl refl refl (Course.reset Course.here now);
    lasts = λ s address value k. puts_at address value (above s address value (WriteKind.Taken Effect.Durations) k (λ e. let z : ◌≡◌ {A = ℕ} 0 1 = cc in omega arith)) refl refl refl refl;
    puts = λ s address value k. puts_at address value (above s address value (WriteKind.Taken Effect.Plain) k (λ e. let z : ◌≡◌ {A = ℕ} 0 1 = cc in omega arith)) refl refl refl refl;
    begins = λ s address value k. stays refl refl refl refl;
    fetches = λ s address b. stays refl refl refl refl;
    drops_read = λ s. stays refl refl refl refl;
    reads = λ s address sent k. reads s address sent;
    reselects = λ s selected. stays refl refl refl refl;
    shifts = λ s sent. stays refl refl refl refl;
    turns = λ s. stays refl refl refl refl;
    takes = λ s mosi. stays refl refl refl refl;
    sends = λ s sent. stays refl refl refl refl;
    steps = λ s e. stays refl refl refl refl;
    aborts = λ s. stays refl refl refl refl;
    acknowledges = λ s. stays refl refl refl refl;
    launches = λ s byte. stays refl refl refl refl;
    waits_end = λ s. stays refl refl refl refl;
    completes = λ s w o. cuts_cell s w.address w.value;
    copies = copies;
    loads = λ s. followed (copies s) (puts_at control _ (omega arith) refl refl refl refl);
    wakes = λ s. stays refl refl refl refl;
    stops = λ s. let k = held_keeps s.sampling now s.kept.input in stays refl refl k.0 k.1;
    cuts = λ s w o. cuts_cell s w.address _;
    goes_off = λ s cold. stays refl refl refl refl;
    meets_zero = λ s o e. stays refl refl refl refl;
    comes_back = λ s o e. stays refl refl refl refl;
    powers_on = λ s o. fresh refl refl refl (Course.returned Course.here now);
    sets = λ s input. let k = set_keeps s input now in stays refl refl k.0 k.1;
    keeps = λ s k e. stays refl refl refl refl;
  }

-- ---- what an axis shows

-- the registers of an axis after a code are its own; those of another stay
module _ (registers : List ℕ) (h : length registers ≡ 62) (k : ℤ) where
  shown_there : (axis : ℕ) → axis < 3 → value_in (Phase.with_code registers axis k) axis ≡ value_of k
  shown_there axis p =
      let first = set registers (acc_lsb axis) (code_low k) in
      let low : at (Phase.with_code registers axis k) (acc_lsb axis) ≡ code_low k =
      get_or-set_other first (acc_msb axis) (acc_lsb axis) (code_high k) 0 (λ e. omega (arith, e)) ∙ get_or-set_same registers (acc_lsb axis) (code_low k) 0 (omega (arith, h)) in
      let high : at (Phase.with_code registers axis k) (acc_msb axis) ≡ code_high k =
      get_or-set_same first (acc_msb axis) (code_high k) 0 (omega (arith, h, length-set registers (acc_lsb axis) (code_low k))) in
      rw (low, high)

  shown_elsewhere : (a axis : ℕ) → (a ≡ axis → ⊥) → value_in (Phase.with_code registers a k) axis ≡ value_in registers axis
  shown_elsewhere a axis n =
      let first = set registers (acc_lsb a) (code_low k) in
      let low : at (Phase.with_code registers a k) (acc_lsb axis) ≡ at registers (acc_lsb axis) =
      get_or-set_other first (acc_msb a) (acc_lsb axis) (code_high k) 0 (λ e. omega (arith, e)) ∙ get_or-set_other registers (acc_lsb a) (acc_lsb axis) (code_low k) 0 (λ e. n (omega (arith, e))) in
      let high : at (Phase.with_code registers a k) (acc_msb axis) ≡ at registers (acc_msb axis) =
      get_or-set_other first (acc_msb a) (acc_msb axis) (code_high k) 0 (λ e. n (omega (arith, e))) ∙ get_or-set_other registers (acc_lsb a) (acc_msb axis) (code_low k) 0 (λ e. omega (arith, e)) in
      rw (low, high)

module _ (r : Sensor) (empty : Emptied r) (axis : ℕ) (p : axis < 3) where
  -- 0 and single
  nothing_shown : (s : Sensor) → Emptied s → Shows axis r s
  nothing_shown s e = Shows.nothing (e.values axis p) (ap (λ (l : List Bool). get_or l axis false) e.means ∙ each (λ a. get_or (replicate 3 false) a false ≡ false) refl refl refl axis p)

  -- the same value and mark as before
  as_before : (s t : Sensor) → value t axis ≡ value s axis → is_mean t axis ≡ is_mean s axis → Shows axis r s → Shows axis r t
  as_before s t v m (Shows.nothing a b) = Shows.nothing (v ∙ a) (m ∙ b)
  as_before s t v m (Shows.a_mean u c n a f b) = Shows.a_mean u c n (m ∙ a) f (v ∙ b)
  as_before s t v m (Shows.a_single u c n a f b) = Shows.a_single u c n (m ∙ a) f (v ∙ b)

  -- a sample of the axis
  answer_shown : (s t : Sensor) → Course r s → Samples s axis → value t axis ≡ value_of (answered s.sampling.filter axis (code_of s axis)) → is_mean t axis ≡ full s.sampling.filter axis → Shows axis r t
  answer_shown s t c n v m = go (full s.sampling.filter axis) refl
    where
      go : (b : Bool) → full s.sampling.filter axis ≡ b → Shows axis r t
      go true e = Shows.a_mean s c n (m ∙ e) e (v ∙ ap value_of (mean_where_full s.sampling.filter axis (code_of s axis) e))
      go false e = Shows.a_single s c n (m ∙ e) e (v ∙ ap value_of (code_where_not s.sampling.filter axis (code_of s axis) e))

  -- an edge
  module _ (s : Sensor) (h : Sized s) (c : Course r s) (b : Shows axis r s) where
    this_shows : Samples s axis → Sampled (acquisition s) (acquisition (after_edges s 1)) axis (code_of s axis) → Shows axis r (after_edges s 1)
    this_shows n d =
        let answer = answered s.sampling.filter axis (code_of s axis) in
        let v : value (after_edges s 1) axis ≡ value_of answer = ap (λ (l : List ℕ). value_in l axis) d.registers ∙ shown_there s.registers h.registers answer axis p in
        let m : is_mean (after_edges s 1) axis ≡ full s.sampling.filter axis =
        ap (λ (l : List Bool). get_or l axis false) d.means ∙ get_or-set_same s.sampling.means axis (full s.sampling.filter axis) false (omega (arith, h.marks)) in
        answer_shown s (after_edges s 1) c n v m

    sampled_shows : (a : ℕ) → Samples s a → Sampled (acquisition s) (acquisition (after_edges s 1)) a (code_of s a) → (t : Bool) → eqb a axis ≡ t → Shows axis r (after_edges s 1)
    sampled_shows a n d true e = let q : a ≡ axis = eqb-true a axis e in this_shows (subst (Samples s) q n) (subst (λ (i : ℕ). Sampled (acquisition s) (acquisition (after_edges s 1)) i (code_of s i)) q d)
    sampled_shows a n d false e =
        let q : a ≡ axis → ⊥ = eqb-false a axis e in
        as_before s (after_edges s 1)
        (ap (λ (l : List ℕ). value_in l axis) d.registers ∙ shown_elsewhere s.registers h.registers (answered s.sampling.filter a (code_of s a)) a axis q)
        (ap (λ (l : List Bool). get_or l axis false) d.means ∙ get_or-set_other s.sampling.means a axis (full s.sampling.filter a) false (λ z. q (sym z)))
        b

    edge_shows : Edge (acquisition s) s.kept.input needs → Shows axis r (after_edges s 1)
    unfolding iterate Edge
    edge_shows (inl d) = as_before s (after_edges s 1) (d.values axis p) (ap (λ (l : List Bool). get_or l axis false) d.means) b
    edge_shows (inr (a, n, o, d)) = sampled_shows a (record { phase = n; no_test = o }) d (eqb a axis) refl

  -- of every sensor on the way
  pub shows : (s : Sensor) → Course r s → Shows axis r s
  shows s Course.here = nothing_shown r empty
  shows s (Course.edge {s = t} h c) = edge_shows t h c (shows t c) (an_edge (acquisition t) t.kept.input needs)
  shows s (Course.reset {s = t} c now) = nothing_shown s (marks.reset_single t now)
  shows s (Course.returned {s = t} c now) = nothing_shown s (marks.return_single t now)
  shows s (Course.unsampled {s = t} c u) = as_before t s (u.values axis p) (ap (λ (l : List Bool). get_or l axis false) u.means) (shows t c)
