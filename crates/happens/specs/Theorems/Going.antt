-- Lists of calls that are all accepted, one after the other.
use Rattle.std.specs.Prelude.{◌≡◌, refl, Bool, true, false, List, [], ◌∷◌, ◌++◌, Option}
use Rattle.std.proofs.Common.{ap, ◌∙◌}
use Rattle.calls.specs.declared.types.Call.{Call}
use Rattle.bma150.specs.declared.host.Bma150.{Bma150}
use Rattle.bma150.specs.Called.{leaves}
use Rattle.happens.specs.Courses.{moved, course}
use Rattle.book.specs.Lists.{Fractions, accepts, step, after, accepted}
use Rattle.book.proofs.Lists.{after_more}
use Rattle.bus.specs.Theorems.Calls.{accepted_leaves}

-- every call of cs is accepted from s on, and t is left
pub record Goes (s : Bma150) (cs : List Call) (t : Bma150) : Type 0 where
  pub all : accepted s cs ≡ cs
  pub left : after s cs ≡ t

-- no call leaves the sensor as it is
pub goes_nowhere : (s : Bma150) → Goes s [] s
unfolding accepted after
goes_nowhere s = record { all = refl; left = refl }

-- one call, and others after it
pub goes_first : {s t u : Bma150} {c : Call} {cs : List Call} → accepts s c ≡ true → leaves s c ≡ t → Goes t cs u → Goes s (c ∷ cs) u
unfolding accepted after
goes_first {s} {t} {u} {c} {cs} e l g =
    let next : step s c ≡ t = accepted_leaves s c e ∙ l in
    record { all = rw (e, next) (ap (λ (ds : List Call). c ∷ ds) g.all); left = ap (λ (k : Bma150). after k cs) next ∙ g.left }

accepted_append : (cs ds : List Call) (s : Bma150) → accepted s (cs ++ ds) ≡ accepted s cs ++ accepted (after s cs) ds
unfolding accepted after
accepted_append [] ds s = refl
accepted_append (c ∷ cs) ds s = by (accepts s c) refl (accepted_append cs ds (step s c))
  where
    by : (t : Bool) → accepts s c ≡ t → accepted (step s c) (cs ++ ds) ≡ accepted (step s c) cs ++ accepted (after (step s c) cs) ds
        → accepted s (c ∷ (cs ++ ds)) ≡ accepted s (c ∷ cs) ++ accepted (after s (c ∷ cs)) ds
    by true e r = rw e (ap (λ (l : List Call). c ∷ l) r)
    by false e r = rw e r

-- a list, and another after it
pub goes_on : {s t u : Bma150} {cs ds : List Call} → Goes s cs t → Goes t ds u → Goes s (cs ++ ds) u
goes_on {s} {t} {u} {cs} {ds} p q =
    record {
      all = accepted_append cs ds s
          ∙ ap (λ (l : List Call). l ++ accepted (after s cs) ds) p.all
          ∙ ap (λ (k : Bma150). cs ++ accepted k ds) p.left
          ∙ ap (λ (l : List Call). cs ++ l) q.all;
      left = after_more s cs ds ∙ ap (λ (k : Bma150). after k ds) p.left ∙ q.left;
    }

-- two lists whose pin calls' fractions fit
pub all_fit : (cs ds : List Call) → Fractions cs → Fractions ds → Fractions (cs ++ ds)
all_fit [] ds p q = q
all_fit (c ∷ cs) ds p q = (p.0, all_fit cs ds p.1 q)

-- two lists of calls that are the course of one bus
pub course_append : {A : Type 0} (next : A → Call → Option A) (cs ds : List Call) (p q r : Option A) → course next cs p ≡ q → course next ds q ≡ r → course next (cs ++ ds) p ≡ r
unfolding course
course_append next [] ds p q r e f = ap (course next ds) e ∙ f
course_append next (c ∷ cs) ds p q r e f = course_append next cs ds (moved next p c) q r e f
