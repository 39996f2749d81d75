-- The clock's edges: no drift, and an exact count before a limit.
use Rattle.std.specs.Prelude.{◌≡◌, ℕ, zero, suc, ◌+◌, ◌-◌, ◌*◌, ◌/◌, ◌%◌, ◌^◌, ◌<◌, ◌≤◌, List, [], ◌∷◌, refl}
use Rattle.std.proofs.Common.{ap, ◌∙◌, zero-le, add-zero, add_assoc, mul-le-mul_left, mul-le-mul_right, div-lt_iff_lt-mul, le-div_iff_mul-le, div-mul-le_self, mod-eq_of_lt, lt_of_lt_of_le, lt_of_le_of_lt, lt_trans, one-mul, mul_comm, mul-add, mul-one, sub-le, le_of_lt, lt_of_not-le, le_antisymm, lt_irrefl, le_trans, le_refl, add-one, arith, lit<}
use Rattle.std.proofs.Math.Nat.{min-eq_right, add-div_right}
use Rattle.std.proofs.Math.Arith.{digits_lt}
use Rattle.laws.specs.Iterate.{iterate}
use Rattle.time.specs.declared.Time.{Time}
use Rattle.time.specs.declared.Clock.{Clock}
use Rattle.time.specs.Time.{ticks}
use Rattle.time.specs.Clock.{edge_ticks, edge, started, advanced, last, edges_before}
use Rattle.time.specs.Theorems.Laws.{ticks_time_below, ticks_fits}

-- ---- no drift

-- advances by these numbers of edges, one after the other
unfoldable pub advanced_by : List ℕ → Clock → Clock
advanced_by [] c = c
advanced_by (n ∷ ns) c = advanced_by ns (advanced c n)

unfoldable pub sum : List ℕ → ℕ
sum [] = 0
sum (n ∷ ns) = n + sum ns

-- however an advance is split, the clock then stands at the edge of the sum
pub no_drift : (ns : List ℕ) (c : Clock) → c.ordinal + sum ns < 2 ^ 64 → last (advanced_by ns c) ≡ edge c.start (c.ordinal + sum ns)
unfolding advanced_by sum
no_drift [] c p = rw add-zero
no_drift (n ∷ ns) c p =
    let e : (c.ordinal + n) % 2 ^ 64 ≡ c.ordinal + n = mod-eq_of_lt (omega arith) in
    let q : (c.ordinal + n) % 2 ^ 64 + sum ns ≡ c.ordinal + (n + sum ns) = rw e (omega arith) in
    no_drift ns (advanced c n) (rw q p) ∙ ap (λ (k : ℕ). edge c.start k) q

-- a clock advanced n times from its start stands at edge n
single : (n : ℕ) (s : Time) → n < 2 ^ 64 → iterate n (λ c. advanced c 1) (started s) ≡ record { start = s; ordinal = n }
unfolding iterate
single zero s p = refl
single (suc n) s p =
    let e : (n + 1) % 2 ^ 64 ≡ suc n = rw add-one (mod-eq_of_lt p) in
    rw (single n s (omega arith), e)

pub stands_at_edge : (n : ℕ) (s : Time) → n < 2 ^ 64 → last (iterate n (λ c. advanced c 1) (started s)) ≡ edge s n
stands_at_edge n s p = ap last (single n s p)

-- two orders of naturals
add_le : (k n o : ℕ) → 0 < k → k ≤ n - o → o + k ≤ n
add_le k n o z p = omega arith

le_sub : (k n o : ℕ) → o + k ≤ n → k ≤ n - o
le_sub k n o p = omega arith

one_more : (k : ℕ) → 0 < k + 1
one_more k = omega arith

more : {x y : ℕ} → x + 1 ≤ y → x < y
more p = omega arith

later : (s : ℕ) {a b : ℕ} → a ≤ b → s + a ≤ s + b
later s p = omega arith

later_lt : (s : ℕ) {a b : ℕ} → a < b → s + a < s + b
later_lt s p = omega arith

not_more : (n k : ℕ) → (k + 1 ≤ n → ⊥) → n ≤ k
not_more n k h = omega (arith, lt_of_not-le h)

div_mono : (a b d : ℕ) → 0 < d → a ≤ b → a / d ≤ b / d
div_mono a b d z p = (le-div_iff_mul-le z).1 (le_trans (div-mul-le_self a d) p)

-- edges come in order, at least a unit apart
edge_step : (a : ℕ) → edge_ticks a < edge_ticks (a + 1)
edge_step a =
    let h : a * 2 ^ 64 + 12000 ≤ (a + 1) * 2 ^ 64 = omega arith in
    let e : (a * 2 ^ 64 + 12000) / 12000 ≡ a * 2 ^ 64 / 12000 + 1 = add-div_right (a * 2 ^ 64) (lit< tt) in
    more (rw e at (div_mono (a * 2 ^ 64 + 12000) ((a + 1) * 2 ^ 64) 12000 (lit< tt) h))

edge_mono : (a b : ℕ) → a ≤ b → edge_ticks a ≤ edge_ticks b
edge_mono a b p = div_mono (a * 2 ^ 64) (b * 2 ^ 64) 12000 (lit< tt) (mul-le-mul_right (2 ^ 64) p)

-- ---- edges before a limit, over any second of m units, any frequency f, a start s and a limit l
module _ (m f s l : ℕ) (m_pos : 0 < m) (f_pos : 0 < f) where
  -- every number that is counted has its edge before the limit
  pub within : (n : ℕ) → 0 < n → n ≤ (f * (l - s) - 1) / m → s + n * m / f < l
  within n z p =
      let h : n * m ≤ f * (l - s) - 1 = (le-div_iff_mul-le m_pos).0 p in
      let k : 1 * m ≤ n * m = mul-le-mul_right m z in
      let q : n * m / f < l - s = (div-lt_iff_lt-mul f_pos).1 (omega (arith, one-mul m, mul_comm f (l - s))) in
      omega arith

  all_within : (n : ℕ) → s + n * m / f < l → n ≤ (f * (l - s) - 1) / m
  all_within n p =
      let h : n * m < (l - s) * f = (div-lt_iff_lt-mul f_pos).0 (omega arith) in
      (le-div_iff_mul-le m_pos).1 (omega (arith, mul_comm f (l - s)))

-- f times a number, less 1, is below f times a greater one
times_lt : (f x y : ℕ) → x < y → 0 < f → f * x - 1 < f * y
times_lt f x y p z =
    let h : f * (x + 1) ≤ f * y = mul-le-mul_left f (omega arith) in
    omega (arith, mul-add f x 1, mul-one f)

-- a limit of fewer than 2^50 seconds has a count that fits 64 bits
count_fits : (h l s : ℕ) → h < 2 ^ 50 → l < 2 ^ 64 → (12000 * (h * 2 ^ 64 + l - s) - 1) / 2 ^ 64 ≤ 2 ^ 64 - 1
count_fits h l s p q =
    let r : h * 2 ^ 64 + l - s < 2 ^ 50 * 2 ^ 64 = lt_of_le_of_lt (sub-le (h * 2 ^ 64 + l) s) (digits_lt p q) in
    let d : (12000 * (h * 2 ^ 64 + l - s) - 1) / 2 ^ 64 < 12000 * 2 ^ 50 =
    (div-lt_iff_lt-mul (lit< tt)).1 (times_lt 12000 (h * 2 ^ 64 + l - s) (2 ^ 50 * 2 ^ 64) r (lit< tt)) in
    le_of_lt (lt_trans d (lit< tt))

module _ (c : Clock) (limit : Time) (near : limit.0 < 2 ^ 50) (low : limit.1 < 2 ^ 64) where
  -- the units from the start of time to edge k after the clock's last one, not reduced modulo 2^128
  abbrev instant : ℕ → ℕ
  instant k = ticks c.start + edge_ticks (c.ordinal + k)

  held : edges_before c limit ≡ (12000 * (ticks limit - ticks c.start) - 1) / 2 ^ 64 - c.ordinal
  held = let p = count_fits limit.0 limit.1 (ticks c.start) near low in ap (λ (n : ℕ). n - c.ordinal) (min-eq_right p)

  limit_fits : ticks limit < 2 ^ 128
  limit_fits = ticks_fits limit.0 limit.1 (lt_trans near (lit< tt)) low

  counted_instant : (k : ℕ) → 0 < k → k ≤ edges_before c limit → instant k < ticks limit
  counted_instant k z p =
      let q : k ≤ (12000 * (ticks limit - ticks c.start) - 1) / 2 ^ 64 - c.ordinal = rw held at p in
      within (2 ^ 64) 12000 (ticks c.start) (ticks limit) (lit< tt) (lit< tt) (c.ordinal + k) (omega arith) (add_le k _ c.ordinal z q)

  -- every edge that is counted lies strictly before the limit
  pub counted_before : (k : ℕ) → 0 < k → k ≤ edges_before c limit → ticks (edge c.start (c.ordinal + k)) < ticks limit
  counted_before k z p =
      let q = counted_instant k z p in
      rw (ticks_time_below (instant k) (lt_trans q limit_fits)) q

  -- every edge after the last one that lies strictly before the limit is counted, if its moment does not wrap
  pub before_counted : (k : ℕ) → ticks c.start + edge_ticks (c.ordinal + k) < 2 ^ 128 → ticks (edge c.start (c.ordinal + k)) < ticks limit
      → k ≤ edges_before c limit
  before_counted k w p =
      let q : instant k < ticks limit = rw (ticks_time_below (instant k) w) at p in
      rw held (le_sub k _ c.ordinal (all_within (2 ^ 64) 12000 (ticks c.start) (ticks limit) (lit< tt) (lit< tt) (c.ordinal + k) q))

  -- a limit after edge k and at or before the next one: the count is k
  pub between_edges : (k : ℕ) → ticks c.start + edge_ticks (c.ordinal + (k + 1)) < 2 ^ 128
      → ticks (edge c.start (c.ordinal + k)) < ticks limit → ticks limit ≤ ticks (edge c.start (c.ordinal + (k + 1)))
      → edges_before c limit ≡ k
  between_edges k w p q =
      let h : edge_ticks (c.ordinal + k) ≤ edge_ticks (c.ordinal + (k + 1)) = edge_mono (c.ordinal + k) (c.ordinal + (k + 1)) (omega arith) in
      let v : instant k < 2 ^ 128 = lt_of_le_of_lt (later (ticks c.start) h) w in
      le_antisymm
      (not_more _ k (λ g. lt_irrefl _ (lt_of_lt_of_le (counted_before (k + 1) (one_more k) g) q)))
      (before_counted k v p)

  -- a limit on an edge: that edge is not counted
  pub on_edge : (k : ℕ) → ticks c.start + edge_ticks (c.ordinal + (k + 1)) < 2 ^ 128 → ticks limit ≡ ticks (edge c.start (c.ordinal + (k + 1)))
      → edges_before c limit ≡ k
  on_edge k w e =
      let h : edge_ticks (c.ordinal + k) < edge_ticks (c.ordinal + (k + 1)) = rw add_assoc at (edge_step (c.ordinal + k)) in
      let d : instant k < instant (k + 1) = later_lt (ticks c.start) h in
      let f : ticks limit ≡ instant (k + 1) = e ∙ ticks_time_below (instant (k + 1)) w in
      between_edges k w (rw (ticks_time_below (instant k) (lt_trans d w), f) d) (rw e (le_refl _))

  -- a limit at or before the last edge: nothing is counted
  pub at_or_before_last : ticks c.start + edge_ticks c.ordinal < 2 ^ 128 → ticks limit ≤ ticks (last c) → edges_before c limit ≡ 0
  at_or_before_last w p =
      let h : instant 0 ≤ instant 1 = later (ticks c.start) (edge_mono (c.ordinal + 0) (c.ordinal + 1) (omega arith)) in
      let q : ticks limit ≤ instant 0 = rw (add-zero, ← ticks_time_below (ticks c.start + edge_ticks c.ordinal) w) p in
      let n : edges_before c limit ≤ 0 =
      not_more (edges_before c limit) 0 (λ g. lt_irrefl _ (lt_of_lt_of_le (counted_instant 1 (lit< tt) g) (le_trans q h))) in
      le_antisymm n zero-le
