-- The earliest deadline is one of the list, at or before each, and none only where no one is set.
use Rattle.std.specs.Prelude.{◌≡◌, refl, Bool, cond, not, ◌⊎◌, ℕ, fold, leb, ltb, Option, Some, None}
use Rattle.std.proofs.Common.{sym, ◌∙◌, inl, inr, ⊎_elim, arith}
use Rattle.std.proofs.Math.Bool.{true, false}
use mathlib.Core.List.Memᴰ
use mathlib.Core.List.{List, [], ◌∷◌, Memᴰ}
use borrow.Author.Tests.{ltb-true, ltb-false, le-leb, lt-leb, leb-true}
use Rattle.std.proofs.lemmas.Bool.{false≢true}
use Rattle.time.specs.declared.Time.{Time}
use Rattle.time.specs.Time.{ticks, precedes}
use Rattle.deadlines.specs.declared.Deadlines.{Deadlines}
use Rattle.deadlines.specs.Deadlines.{moment, is_by, sooner, waits, first, earliest}

-- the values of a deadline fix it
pub moment_injective : (d e : Option Time) → moment d ≡ moment e → d ≡ e
moment_injective d e p = p

-- what is not after a number is at or before it
pub not_ltb : (a b : ℕ) → not (ltb a b) ≡ leb b a
not_ltb a b = go (ltb a b) refl
  where
    go : (t : Bool) → ltb a b ≡ t → not t ≡ leb b a
    go true e = sym (lt-leb b a (ltb-true a b e))
    go false e = sym (le-leb b a (ltb-false a b e))

-- ---- the sooner of two

-- none is never sooner
pub sooner_never : (d : Option Time) → sooner d None ≡ d
unfolding sooner
sooner_never (Some t) = refl
sooner_never None = refl

-- it is the one or the other
sooner_one : (d e : Option Time) → (sooner d e ≡ d) ⊎ (sooner d e ≡ e)
unfolding sooner
sooner_one None e = inr refl
sooner_one (Some t) None = inl refl
sooner_one (Some t) (Some u) = chosen (precedes u t)
  where
    chosen : (b : Bool) → (cond b (Some u) (Some t) ≡ Some t) ⊎ (cond b (Some u) (Some t) ≡ Some u)
    chosen true = inr refl
    chosen false = inl refl

-- it is at or before each that is set
module _ (t u : Time) where
  by_both : (b : Bool) → precedes u t ≡ b → (is_by (cond b (Some u) (Some t)) t ≡ true) × (is_by (cond b (Some u) (Some t)) u ≡ true)
  unfolding is_by
  by_both true e = (le-leb (ticks u) (ticks t) (omega (arith, ltb-true (ticks u) (ticks t) e)), le-leb (ticks u) (ticks u) (omega arith))
  by_both false e = (le-leb (ticks t) (ticks t) (omega arith), le-leb (ticks t) (ticks u) (ltb-false (ticks u) (ticks t) e))

never_by : (d : Option Time) (t : Time) → d ≡ None → is_by d t ≡ true → ⊥
unfolding is_by
never_by (Some u) t p q = let z : ◌≡◌ {A = ℕ} 0 1 = cc in omega arith
never_by None t p q = false≢true q

by_itself : (t : Time) → is_by (Some t) t ≡ true
unfolding is_by
by_itself t = le-leb (ticks t) (ticks t) (omega arith)

by_later : (d : Option Time) (u v : Time) → is_by d u ≡ true → is_by (Some u) v ≡ true → is_by d v ≡ true
unfolding is_by
by_later None u v p q = p
by_later (Some t) u v p q =
    le-leb (ticks t) (ticks v) (omega (arith, leb-true (ticks t) (ticks u) p, leb-true (ticks u) (ticks v) q))

sooner_by_left : (t : Time) (e : Option Time) → is_by (sooner (Some t) e) t ≡ true
unfolding sooner
sooner_by_left t None = by_itself t
sooner_by_left t (Some u) = (by_both t u (precedes u t) refl).0

sooner_by_right : (d e : Option Time) (v : Time) → is_by e v ≡ true → is_by (sooner d e) v ≡ true
unfolding sooner
sooner_by_right None e v p = p
sooner_by_right (Some t) None v p = absurd (never_by None v refl p)
sooner_by_right (Some t) (Some u) v p = by_later _ u v (by_both t u (precedes u t) refl).1 p

-- of three it does not matter which two are compared first
module _ (t u v : Time) where
  three : (p q r : Bool) → precedes u t ≡ p → precedes v u ≡ q → precedes v t ≡ r → sooner (cond p (Some u) (Some t)) (Some v) ≡ sooner (Some t) (cond q (Some v) (Some u))
  unfolding sooner
  three true true true e f g = rw (f, g) refl
  three true true false e f g =
      absurd (omega (arith, ltb-true (ticks u) (ticks t) e, ltb-true (ticks v) (ticks u) f, ltb-false (ticks v) (ticks t) g))
  three true false r e f g = rw (f, e) refl
  three false true r e f g = refl
  three false false true e f g =
      absurd (omega (arith, ltb-false (ticks u) (ticks t) e, ltb-false (ticks v) (ticks u) f, ltb-true (ticks v) (ticks t) g))
  three false false false e f g = rw (g, e) refl

pub sooner_of_three : (c d e : Option Time) → sooner (sooner c d) e ≡ sooner c (sooner d e)
unfolding sooner
sooner_of_three None d e = refl
sooner_of_three (Some t) None e = refl
sooner_of_three (Some t) (Some u) None = sooner_never (cond (precedes u t) (Some u) (Some t))
sooner_of_three (Some t) (Some u) (Some v) = three t u v (precedes u t) (precedes v u) (precedes v t) refl refl refl

-- ---- the first of a list

-- it is what is left where each is compared in turn with the sooner of those before it
pub first_in_turn : (d : Option Time) (ds : List (Option Time)) → fold sooner d ds ≡ sooner d (first ds)
unfolding first
first_in_turn d [] = sym (sooner_never d)
first_in_turn d (e ∷ ds) = first_in_turn (sooner d e) ds ∙ sooner_of_three d e (first ds)

-- it is one of it
pub first_is_one : (d : Option Time) (ds : List (Option Time)) → Memᴰ (first (d ∷ ds)) (d ∷ ds)
unfolding first
first_is_one d [] = Memᴰ.head (sooner_never d)
first_is_one d (e ∷ ds) =
    ⊎_elim (λ p. Memᴰ.head p) (λ p. Memᴰ.tail (Memᴰ.cast p (first_is_one e ds))) (sooner_one d (first (e ∷ ds)))

-- it is at or before each that is set
pub first_by_each : (ds : List (Option Time)) (t : Time) → Memᴰ (Some t) ds → is_by (first ds) t ≡ true
unfolding first
first_by_each [] t m = absurd (Memᴰ.not-nil m)
first_by_each (d ∷ ds) t m =
    ⊎_elim (λ p. rw (← p) (sooner_by_left t (first ds))) (λ n. sooner_by_right d (first ds) t (first_by_each ds t n)) (Memᴰ.cases_cons m)

-- it is none where each is none
pub first_never : (ds : List (Option Time)) → ((d : Option Time) → Memᴰ d ds → d ≡ None) → first ds ≡ None
unfolding first
first_never [] h = refl
first_never (d ∷ ds) h =
    rw (h d (Memᴰ.head refl), first_never ds (λ e m. h e (Memᴰ.tail m))) (sooner_never None)

-- each is none where it is none
pub never_first : (ds : List (Option Time)) → first ds ≡ None → (d : Option Time) → Memᴰ d ds → d ≡ None
never_first ds p None m = refl
never_first ds p (Some t) m = absurd (never_by (first ds) t p (first_by_each ds t m))

-- ---- the earliest
module _ (s : Deadlines) (sample write : Option Time) where
  -- it is one of the eight
  pub earliest_is_one : Memᴰ (earliest s sample write) (waits s sample write)
  unfolding earliest
  earliest_is_one = first_is_one _ _

  -- it is at or before each of them that is set
  pub earliest_by_each : (t : Time) → Memᴰ (Some t) (waits s sample write) → is_by (earliest s sample write) t ≡ true
  unfolding earliest
  earliest_by_each t m = first_by_each _ t m

  -- it is none if and only if each of them is none
  pub earliest_never : (earliest s sample write ≡ None → (d : Option Time) → Memᴰ d (waits s sample write) → d ≡ None)
      × (((d : Option Time) → Memᴰ d (waits s sample write) → d ≡ None) → earliest s sample write ≡ None)
  unfolding earliest
  earliest_never = (never_first _, first_never _)
