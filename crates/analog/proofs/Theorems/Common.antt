-- The lengths between samples: there are two, and both have the factors of `COMMON`.
use Rattle.std.specs.Prelude.{◌≡◌, ℕ, zero, suc, ◌+◌, ◌-◌, ◌*◌, ◌/◌, ◌^◌, ◌<◌, ◌≤◌, Bool, true, false, ◌&&◌, ◌⊎◌, pos, ◌==◌, nat_le, refl, if◌then◌else◌}
use Rattle.std.proofs.Common.{sym, ap, ◌∙◌, inl, inr, le_of_eq, lt_of_le_of_lt, arith, lit<, leb-true, eqb-true}
use Rattle.std.proofs.lemmas.Bool.{eqb-false}
use Rattle.time.specs.declared.Time.{Time}
use Rattle.time.specs.Time.{ticks, lasts, time, since}
use Rattle.time.specs.Clock.{edge_ticks, edge}
use Rattle.time.specs.Theorems.Laws.{ticks_time_below, lasts_since}
use Rattle.analog.specs.declared.types.Axis.{Axis}
use Rattle.analog.specs.Round.{round, bits_64, signed_64}
use Rattle.analog.specs.Decay.{period, term, terms, squared, reduced, decay, factors}
use Rattle.analog.specs.Theorems.Common.{common_pair, common}
use Rattle.analog.proofs.Theorems.Sizes.{both_true}
use Rattle.analog.specs.Axis.{at_rest, stepped, advanced, value}

-- the longer length has the same factors
pub common_both : decay (period + 1) ≡ decay period
unfolding round bits_64 signed_64 term terms squared reduced decay
common_both = refl

-- 4.9 ms leave a little, and 5.1 ms nothing, as the lengths from 8 ms on that are not computed
pub little_left : decay (49 * 2 ^ 64 / 10000) ≡ record { re = pos 1; im = pos 2 }
unfolding round bits_64 signed_64 term terms squared reduced decay
little_left = refl

pub nothing_left : decay (51 * 2 ^ 64 / 10000) ≡ record { re = pos 0; im = pos 0 }
unfolding round bits_64 signed_64 term terms squared reduced decay
nothing_left = refl

-- a length of period or one unit more, from its bounds
pub one_of_two : (dt : ℕ) → period ≤ dt → dt ≤ period + 1 → (dt ≡ period) ⊎ (dt ≡ period + 1)
one_of_two dt p q = go (dt == period) refl
  where
    go : (b : Bool) → (dt == period) ≡ b → (dt ≡ period) ⊎ (dt ≡ period + 1)
    go true e = inl (eqb-true dt period e)
    go false e = inr (omega (arith, eqb-false dt period e))

-- both lengths have the decay of the shorter
in_common : (dt : ℕ) → (dt ≡ period) ⊎ (dt ≡ period + 1) → decay period ≡ decay dt
in_common dt (inl e) = ap decay (sym e)
in_common dt (inr e) = sym common_both ∙ ap decay (sym e)

-- `factors` is `decay`, for every length
pub factors_are_decay : (dt : ℕ) → factors dt ≡ decay dt
unfolding factors
factors_are_decay dt = go (nat_le period dt && nat_le dt (period + 1)) refl
  where
    go : (b : Bool) → nat_le period dt && nat_le dt (period + 1) ≡ b → (if b then decay period else decay dt) ≡ decay dt
    go true e =
        let h = both_true (nat_le period dt) (nat_le dt (period + 1)) e in
        in_common dt (one_of_two dt (leb-true period dt h.0) (leb-true dt (period + 1) h.1))
    go false e = refl

-- the factors of both lengths are the two numbers
pub factors_common : (dt : ℕ) → (dt ≡ period) ⊎ (dt ≡ period + 1) → factors dt ≡ common_pair
factors_common dt e = factors_are_decay dt ∙ sym (in_common dt e) ∙ common

-- ---- the length from a sample of an axis to its next, four edges later

-- at least a period
shortest : (n : ℕ) → edge_ticks n + period ≤ edge_ticks (n + 4)
shortest n = omega arith

-- and at most a period and one unit
longest : (n : ℕ) → edge_ticks (n + 4) ≤ edge_ticks n + (period + 1)
longest n = omega arith

-- a difference between two bounds
differ : (a b lo hi : ℕ) → a + lo ≤ b → b ≤ a + hi → (lo ≤ b - a) × (b - a ≤ hi)
differ a b lo hi p q = (omega arith, omega arith)

-- so it is one of the two lengths
pub between_samples : (n : ℕ) → (edge_ticks (n + 4) - edge_ticks n ≡ period) ⊎ (edge_ticks (n + 4) - edge_ticks n ≡ period + 1)
between_samples n =
    let d = differ (edge_ticks n) (edge_ticks (n + 4)) period (period + 1) (shortest n) (longest n) in
    one_of_two (edge_ticks (n + 4) - edge_ticks n) d.0 d.1

-- ---- the same of the moments, where none wraps

-- a start falls out of a difference
same_start : (s a b : ℕ) → s + b - (s + a) ≡ b - a
same_start s a b = omega arith

-- a length between moments is that between their edges
moments_apart : (s : Time) (n : ℕ) → ticks s + edge_ticks (n + 4) < 2 ^ 128
    → lasts (since (edge s (n + 4)) (edge s n)) ≡ edge_ticks (n + 4) - edge_ticks n
moments_apart s n p =
    let q : ticks s + edge_ticks n < 2 ^ 128 = lt_of_le_of_lt (sooner (ticks s) (edge_ticks n) (edge_ticks (n + 4)) period (shortest n)) p in
    let e : ticks (edge s (n + 4)) ≡ ticks s + edge_ticks (n + 4) = ticks_time_below (ticks s + edge_ticks (n + 4)) p in
    let f : ticks (edge s n) ≡ ticks s + edge_ticks n = ticks_time_below (ticks s + edge_ticks n) q in
    lasts_since (ticks (edge s (n + 4))) (ticks (edge s n)) (lt_of_le_of_lt (le_of_eq e) p)
    ∙ ap (λ (k : ℕ). k - ticks (edge s n)) e ∙ ap (λ (k : ℕ). ticks s + edge_ticks (n + 4) - k) f
    ∙ same_start (ticks s) (edge_ticks n) (edge_ticks (n + 4))
  where
    sooner : (s a b k : ℕ) → a + k ≤ b → s + a ≤ s + b
    sooner s a b k p = omega arith

-- so it is one of the two lengths too
pub samples_apart : (s : Time) (n : ℕ) → ticks s + edge_ticks (n + 4) < 2 ^ 128
    → (lasts (since (edge s (n + 4)) (edge s n)) ≡ period) ⊎ (lasts (since (edge s (n + 4)) (edge s n)) ≡ period + 1)
samples_apart s n p = rw (moments_apart s n p) (between_samples n)

-- such moments: the first samples after time 0
such_moments : ticks (time 0) + edge_ticks (0 + 4) < 2 ^ 128
such_moments = lit< tt

-- both lengths occur: the shorter from edge 0 to edge 4
pub shorter_occurs : edge_ticks 4 - edge_ticks 0 ≡ period
shorter_occurs = refl

-- and the longer from edge 3 to edge 7
pub longer_occurs : edge_ticks 7 - edge_ticks 3 ≡ period + 1
longer_occurs = refl

-- ---- an axis at rest at time 0, then an input of 1 g, period by period
unfoldable pub periods : (n : ℕ) → Axis
periods zero = at_rest (time 0)
periods (suc n) = advanced (periods n) (time (suc n * period)) (pos 1000000)

pub row_1 : value (periods 1) ≡ pos 979395
unfolding round bits_64 signed_64 term terms squared reduced decay factors stepped advanced value periods
row_1 = refl

pub row_2 : value (periods 2) ≡ pos 1014469
unfolding round bits_64 signed_64 term terms squared reduced decay factors stepped advanced value periods
row_2 = refl

pub row_3 : value (periods 3) ≡ pos 998341
unfolding round bits_64 signed_64 term terms squared reduced decay factors stepped advanced value periods
row_3 = refl
