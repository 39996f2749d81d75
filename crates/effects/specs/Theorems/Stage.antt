-- The moments of the stage's axes: what moves one brings it to a moment that is not ahead.
use Prim.Native.Nat.{ℕ, zero, suc, ◌+◌, ◌-◌, ◌*◌, ◌/◌, ◌%◌, ◌^◌, ◌≤◌, ◌<◌, min}
use Rattle.std.proofs.Common.{add-zero, le_trans, mod-eq_of_lt, arith, sym, ◌∙◌, lit<}
use Rattle.std.proofs.Math.Nat.{le_refl, le-add_right, min-le_left, mod-le}
use Rattle.std.specs.Prelude.{◌≡◌, Bool, List, ℤ}
use Rattle.std.proofs.Math.Path.{ap, subst}
use Rattle.std.proofs.Math.Dec.{eqb}
use Rattle.std.proofs.lemmas.Bool.{cond_both}
use Rattle.laws.specs.Iterate.{iterate}
use Rattle.time.specs.declared.Time.{Time}
use Rattle.time.specs.declared.Clock.{Clock}
use Rattle.time.specs.Time.{ticks, time}
use Rattle.time.specs.Clock as C
use Rattle.time.specs.Theorems.Laws.{ticks_time}
use Rattle.time.specs.Theorems.Edges.{within}
use Rattle.analog.specs.Axis.{Acceleration}
use Rattle.analog.specs.declared.types.Axis.{Axis}
use Rattle.analog.specs.Axis.{Analog}
use Rattle.analog.specs.Axis as A
use Rattle.analog.proofs.Theorems.Settles.{advanced_at}
use Rattle.sampling.specs.declared.types.Input.{Input}
use Rattle.sampling.specs.declared.types.Sampling.{Sampling}
use Rattle.sampling.specs.declared.types.Acquisition.{Acquisition}
use Rattle.sampling.specs.Phase as Phase
use Rattle.sampling.specs.Stage as Stage
use Rattle.samples.specs.Samples.{limit}
use Rattle.effects.specs.Onward.{Upto}
use Rattle.effects.specs.Theorems.Phases.{sample_kept}

-- orders of naturals
not_after : (a l n : ℕ) → a < l → l ≤ n + 1 → a ≤ n
not_after a l n p q = omega arith

-- a number that is counted is within both bounds of the count
counted_both : (m x o j : ℕ) → 0 < j → j ≤ min m x - o → (0 < o + j) × (o + j ≤ m) × (o + j ≤ x)
counted_both m x o j z p = (omega arith, omega arith, omega arith)

le_lt : {n : ℕ} → n ≤ 2 ^ 64 - 1 → n < 2 ^ 64
le_lt p = omega arith

module _ (now : Time) where
  -- ---- one axis

  -- it stands at this moment or before it
  abbrev By : Axis → Type 0
  By a = ticks a.at ≤ ticks now

  -- one that advances to such a moment does
  advanced_by : (a : Axis) (t : Time) (input : ℤ) → ticks t ≤ ticks now → By (A.advanced a t input)
  advanced_by a t input p = subst (λ (u : Time). ticks u ≤ ticks now) (sym (advanced_at a t input)) p

  turned_by : (a : Axis) (old new : ℤ) → By a → By (A.turned a now old new)
  unfolding A.turned
  turned_by a old new p = cond_both (A.same old new) _ _ By (λ e. p) (λ e. advanced_by a now old (le_refl (ticks now)))

  -- ---- three axes

  pub rest_upto : Upto now (A.rest now)
  rest_upto = record { x = le_refl (ticks now); y = le_refl (ticks now); z = le_refl (ticks now) }

  pub resumed_upto : (g : Analog) → Upto now (A.all_resumed g now)
  resumed_upto g = record { x = le_refl (ticks now); y = le_refl (ticks now); z = le_refl (ticks now) }

  all_held_upto : (g : Analog) (input : Acceleration) → Upto now (A.hold g now input)
  unfolding A.hold
  all_held_upto g input =
      let l = le_refl (ticks now) in
      record { x = advanced_by g.x now input.x l; y = advanced_by g.y now input.y l; z = advanced_by g.z now input.z l }

  all_turned_upto : (g : Analog) (old new : Acceleration) → Upto now g → Upto now (A.all_turned g now old new)
  unfolding A.all_turned
  all_turned_upto g old new h =
      record { x = turned_by g.x old.x new.x h.x; y = turned_by g.y old.y new.y h.y; z = turned_by g.z old.z new.z h.z }

  with_axis_upto : (g : Analog) (axis : ℕ) (a : Axis) → Upto now g → By a → Upto now (A.with_axis g axis a)
  unfolding A.with_axis
  with_axis_upto g axis a h p =
      cond_both (eqb axis 0) _ _ (Upto now) (λ e. record { x = p; y = h.y; z = h.z })
      (λ e. cond_both (eqb axis 1) _ _ (Upto now) (λ f. record { x = h.x; y = p; z = h.z }) (λ f. record { x = h.x; y = h.y; z = p }))

  -- ---- a sampling that is held or whose input is turned

  pub held_upto : (g : Sampling) (input : Input) → Upto now g.analog → Upto now (Stage.hold g now input).analog
  unfolding Stage.hold
  held_upto g input h = cond_both g.asleep _ _ (λ (k : Sampling). Upto now k.analog) (λ e. h) (λ e. all_held_upto g.analog input.acceleration)

  pub turned_upto : (g : Sampling) (old new : Acceleration) → Upto now g.analog → Upto now (Stage.turned g now old new).analog
  unfolding Stage.turned
  turned_upto g old new h = cond_both g.asleep _ _ (λ (k : Sampling). Upto now k.analog) (λ e. h) (λ e. all_turned_upto g.analog old new h)

  -- ---- sample phases

  -- the clock is k, and no axis is ahead
  pub record Stands (k : Clock) (c : Acquisition) : Type 0 where
    pub clock : c.sampling.clock ≡ k
    pub upto : Upto now c.sampling.analog

  -- edge j after the clock's last one fits 64 bits and is not ahead
  abbrev pub Counted : Clock → ℕ → Type 0
  Counted k j = (k.ordinal + j < 2 ^ 64) × (ticks (C.edge k.start (k.ordinal + j)) ≤ ticks now)

  -- the clock n edges further
  abbrev pub further : Clock → ℕ → Clock
  further k n = record { start = k.start; ordinal = k.ordinal + n }

  module _ (input : Input) (needs : List ℕ) where
    -- the sampled axis advances to the clock's last edge
    measured_stands : {k : Clock} (c : Acquisition) (axis : ℕ) → ticks (C.last k) ≤ ticks now → Stands k c → Stands k (Phase.measured c input axis)
    measured_stands c axis p h =
        let l = subst (λ (x : Clock). ticks (C.last x) ≤ ticks now) (sym h.clock) p in
        record {
          clock = h.clock;
          upto = with_axis_upto c.sampling.analog axis (Phase.lagged c input axis) h.upto (advanced_by (A.axis_of c.sampling.analog axis) (C.last c.sampling.clock) (Phase.axis_input input axis) l);
        }

    -- one edge that is not ahead
    pub sample_stands : {k : Clock} (c : Acquisition) → ticks (C.next k) ≤ ticks now → Stands k c → Stands (C.advanced k 1) (Phase.sample input needs c)
    sample_stands {k} c p h =
        sample_kept (Stands (C.advanced k 1))
        (λ d i e. record { clock = e.clock; upto = e.upto }) (λ d e. record { clock = e.clock; upto = e.upto }) input needs
        (λ d e. record { clock = e.clock; upto = e.upto }) (λ d e. record { clock = e.clock; upto = e.upto })
        (λ d axis small e. measured_stands d axis p e) (λ d e. record { clock = e.clock; upto = e.upto })
        c (record { clock = ap (λ (x : Clock). C.advanced x 1) h.clock; upto = h.upto })

    -- the clock one edge further, where the number of that edge fits 64 bits
    next_edge : (k : Clock) (n : ℕ) → k.ordinal + suc n < 2 ^ 64 → C.advanced (further k n) 1 ≡ further k (suc n)
    next_edge k n p =
        let a : k.ordinal + n + 1 ≡ k.ordinal + suc n = omega arith in
        let e : (k.ordinal + n + 1) % 2 ^ 64 ≡ k.ordinal + suc n = ap (λ (o : ℕ). o % 2 ^ 64) a ∙ mod-eq_of_lt p in
        ap {B = Clock} (λ (o : ℕ). record { start = k.start; ordinal = o }) e

    -- n edges that are not ahead
    pub samples_stand : (n : ℕ) (c : Acquisition) → ((j : ℕ) → 0 < j → j ≤ n → Counted c.sampling.clock j) → Upto now c.sampling.analog
        → Stands (further c.sampling.clock n) (Phase.samples n c input needs)
    unfolding iterate
    samples_stand zero c q h = record { clock = ap {B = Clock} (λ (o : ℕ). record { start = c.sampling.clock.start; ordinal = o }) (sym (add-zero c.sampling.clock.ordinal)); upto = h }
    samples_stand (suc n) c q h =
        let k = c.sampling.clock in
        let m = q (suc n) (omega arith) (le_refl (suc n)) in
        let e = next_edge k n m.0 in
        let r = samples_stand n c (λ j a b. q j a (omega arith)) h in
        let l = subst (λ (x : Clock). ticks (C.last x) ≤ ticks now) (sym e) m.1 in
        subst (λ (x : Clock). Stands x (Phase.samples (suc n) c input needs)) e (sample_stands (Phase.samples n c input needs) l r)

-- ---- every edge that is counted up to now, with or without the one at now, is not ahead

-- the moment of n units is at n or before it
moment_by : (n : ℕ) → ticks (time n) ≤ n
moment_by n = subst (λ (x : ℕ). x ≤ n) (sym (ticks_time n)) (mod-le n (2 ^ 128))

-- the limit is at most one unit after now
limit_by : (now : Time) (inclusive : Bool) → ticks (limit now inclusive) ≤ ticks now + 1
unfolding limit
limit_by now inclusive =
    let n = min (ticks now + 1) (2 ^ 128 - 1) in
    cond_both inclusive _ _ (λ (t : Time). ticks t ≤ ticks now + 1) (λ e. le_trans (moment_by n) (min-le_left (ticks now + 1) (2 ^ 128 - 1))) (λ e. le-add_right (ticks now) 1)

-- so the bounds of the words of now play no part
pub edges_counted : (now : Time) (k : Clock) (inclusive : Bool) (j : ℕ) → 0 < j → j ≤ C.edges_before k (limit now inclusive) → Counted now k j
edges_counted now k inclusive j z p =
    let l = ticks (limit now inclusive) in
    let s = ticks k.start in
    let m = counted_both (2 ^ 64 - 1) ((12000 * (l - s) - 1) / 2 ^ 64) k.ordinal j z p in
    let q = within (2 ^ 64) 12000 s l (lit< tt) (lit< tt) (k.ordinal + j) m.0 m.2 in
    (le_lt m.1, le_trans (moment_by (s + C.edge_ticks (k.ordinal + j))) (not_after _ l (ticks now) q (limit_by now inclusive)))
