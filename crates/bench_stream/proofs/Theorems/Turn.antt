-- What a turn says of itself.
use Rattle.std.specs.Prelude.{◌≡◌, refl, Bool, true, false, not, ◌&&◌, ◌||◌, ◌⊎◌, List, ℕ, ◌+◌, ◌≤◌, ltb, length, Option, None, Some, is_none}
use Rattle.std.proofs.Common.{sym, ap, ◌∙◌, inl, inr, ⊎_elim, arith, ltb-true, ltb-false}
use Rattle.std.proofs.lemmas.Bool.{false≢true}
use Rattle.machine.specs.Pieces.{Between, between, AtEnd}
use Rattle.bma150.specs.declared.host.Bma150.{Bma150}
use Rattle.bench.specs.declared.Ran.{Ran}
use Rattle.bench_stream.specs.declared.Failed.{Failed}
use Rattle.bench_stream.specs.declared.Turn.{Turn}
use Rattle.bench_stream.specs.Loop.{goes_on, cut_off, served_by}

-- ---- a turn is a step of an input that is brought in pieces

-- the loop's state, as what stands between two steps
abbrev pub between_of : Turn → (kept : List ℕ) → Between Bma150
between_of t kept = between t.sensor kept t.over t.stop

pub same_between : {a b : Bma150} {k j : List ℕ} {o x y z : Bool} → a ≡ b → k ≡ j → o ≡ x → y ≡ z → between a k o y ≡ between b j x z
same_between e f g h = cc

-- ---- what a turn says of itself

pub contrary : {A : Type 0} → ◌≡◌ {A = Bool} false true → A
contrary e = absurd (false≢true e)

-- where something is left to do, the loop has not stopped, nothing has failed, and bytes are kept if the input is over
pub record Going (t : Turn) (kept : List ℕ) : Type 0 where
  pub not_stopped : t.stop ≡ false
  pub not_failed : t.failed ≡ None
  pub some_kept : t.over ≡ true → 1 ≤ length kept

by_parts : (t : Turn) (kept : List ℕ) (z : Bool) (f : Option Failed) (o : Bool) → t.stop ≡ z → t.failed ≡ f → t.over ≡ o → (not z && is_none f && (not o || ltb 0 (length kept))) ≡ true → Going t kept
by_parts t kept true f o p q x e = contrary e
by_parts t kept false (Some what) o p q x e = contrary e
by_parts t kept false None true p q x e = record { not_stopped = p; not_failed = q; some_kept = λ y. ltb-true 0 (length kept) e }
by_parts t kept false None false p q x e = record { not_stopped = p; not_failed = q; some_kept = λ y. contrary (sym x ∙ y) }

pub going : (t : Turn) (kept : List ℕ) → goes_on t kept ≡ true → Going t kept
unfolding goes_on
going t kept e = by_parts t kept t.stop t.failed t.over refl refl refl e

pub not_stopped : (t : Turn) (kept : List ℕ) → goes_on t kept ≡ true → t.stop ≡ false
not_stopped t kept e = (going t kept e).not_stopped

-- why a loop may end: refusal 7 was met, a read or a write failed, or the input is over and no byte is kept
abbrev pub Because : Turn → (kept : List ℕ) → Type 0
Because t kept = (t.stop ≡ true) ⊎ ((t.failed ≡ Some Failed.Read) ⊎ ((t.failed ≡ Some Failed.Write) ⊎ ((t.over ≡ true) × (length kept ≡ 0))))

by_fields : (t : Turn) (kept : List ℕ) (z : Bool) (f : Option Failed) (o : Bool) → t.stop ≡ z → t.failed ≡ f → t.over ≡ o → (not z && is_none f && (not o || ltb 0 (length kept))) ≡ false → Because t kept
by_fields t kept true f o p q x e = inl p
by_fields t kept false (Some Failed.Read) o p q x e = inr (inl q)
by_fields t kept false (Some Failed.Write) o p q x e = inr (inr (inl q))
by_fields t kept false None true p q x e = inr (inr (inr (x, omega (arith, ltb-false 0 (length kept) e))))
by_fields t kept false None false p q x e = contrary (sym e)

-- nothing is left to do only for one of these
pub ends_because : (t : Turn) (kept : List ℕ) → goes_on t kept ≡ false → Because t kept
unfolding goes_on
ends_because t kept e = by_fields t kept t.stop t.failed t.over refl refl refl e

-- a read that failed ends the loop
pub failed_read_ends : (k : ℕ) (s : Bma150) (kept : List ℕ) → goes_on (cut_off k s) kept ≡ false
unfolding goes_on
failed_read_ends k s kept = refl

either_way : (z o : Bool) → (not z && false && o) ≡ false
either_way true o = refl
either_way false o = refl

-- so does a text that `write` did not take
pub failed_write_ends : (t : Turn) (r : Ran) (k written : ℕ) (kept : List ℕ) → goes_on (served_by t r false k written) kept ≡ false
unfolding goes_on
failed_write_ends t r k written kept = either_way r.stop _

-- so where nothing has failed it has stopped, or no byte is kept
pub at_end : (t : Turn) (kept : List ℕ) → goes_on t kept ≡ false → t.failed ≡ None → AtEnd (between_of t kept)
at_end t kept e f =
    ⊎_elim (λ (z : t.stop ≡ true). inl z)
    (λ (h : (t.failed ≡ Some Failed.Read) ⊎ ((t.failed ≡ Some Failed.Write) ⊎ ((t.over ≡ true) × (length kept ≡ 0)))).
    ⊎_elim (λ (z : t.failed ≡ Some Failed.Read). contrary (sym (ap is_none (sym f ∙ z))))
    (λ (g : (t.failed ≡ Some Failed.Write) ⊎ ((t.over ≡ true) × (length kept ≡ 0))).
    ⊎_elim (λ (z : t.failed ≡ Some Failed.Write). contrary (sym (ap is_none (sym f ∙ z)))) (λ (z : (t.over ≡ true) × (length kept ≡ 0)). inr z.1) g)
    h)
    (ends_because t kept e)

pub add_one_over : (k l r : ℕ) → l ≡ r + 1 → k + 1 + r ≡ k + l
add_one_over k l r e = omega arith
