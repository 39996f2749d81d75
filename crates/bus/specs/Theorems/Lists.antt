-- Lists of calls as the bus sees them: what the accepted reports make, whatever calls come between.
use Rattle.std.specs.Prelude.{ℕ, ◌≡◌, refl, Bool, true, false, ◌&&◌}
use Rattle.std.proofs.Math.Path.{sym, ap}
use Rattle.std.proofs.Common.{subst, ◌∙◌}
use mathlib.Core.List.{List, [], ◌∷◌}
use Rattle.laws.specs.Bools.{or_left, or_right}
use Rattle.i2c.specs.declared.types.Edge.{Edge}
use Rattle.i2c.specs.declared.types.Edge.TheVariants.{Still, Start, Stop, Rise, Fall}
use Rattle.i2c.specs.Target.{Target, serve, Seen, seen_at, left, seen}
use Rattle.i2c.specs.Transfers.{and_edge}
use Rattle.i2c.proofs.Theorems.Frames.{still_changes_nothing, Serves}
use Rattle.calls.specs.declared.types.Call.{Call}
use Rattle.bma150.specs.declared.host.Bma150.{Bma150}
use Rattle.book.specs.Lists.{accepts, step, after, accepted}
use Rattle.bus.specs.I2c.{Heard, event, events, target_of, ends, some_accepted, ended, shows, at_event, shown, sees, seen_of}
use Rattle.bus.specs.Theorems.Calls.{refused_leaves, hears_on, call_served, call_seen}

left_event : (e : Edge) (es : List Edge) (f : ℕ → ℕ) (fs : List (ℕ → ℕ)) (v : Target) → left v (and_edge e es) (at_event e f fs) ≡ left (serve f v e) es fs
unfolding left and_edge at_event
left_event Still es f fs v = rw (still_changes_nothing f v)
left_event Start es f fs v = refl
left_event Stop es f fs v = refl
left_event (Rise d) es f fs v = refl
left_event Fall es f fs v = refl

seen_event : (e : Edge) (es : List Edge) (f : ℕ → ℕ) (fs : List (ℕ → ℕ)) (v : Target)
    → seen v (and_edge e es) (at_event e f fs) ≡ at_event e (seen_at f v e) (seen (serve f v e) es fs)
unfolding seen and_edge at_event
seen_event Still es f fs v = rw (still_changes_nothing f v)
seen_event Start es f fs v = refl
seen_event Stop es f fs v = refl
seen_event (Rise d) es f fs v = refl
seen_event Fall es f fs v = refl

-- what is left and what is seen
abbrev Through : Bma150 → List Call → Type 0
Through s cs =
    (target_of (after s cs).sensor ≡ left (target_of s.sensor) (events (accepted s cs)) (shown s cs))
    × (seen_of s cs ≡ seen (target_of s.sensor) (events (accepted s cs)) (shown s cs))

-- whichever way the first call goes
module _ (s : Bma150) (c : Call) (cs : List Call) (h : Heard s.sensor) (rest : Through (step s c) cs) where
  after_accepted : accepts s c ≡ true → ends s c ≡ false → Through s (c ∷ cs)
  unfolding after accepted shown seen_of events
  after_accepted e n =
      let next = call_served s h c e n in
      let es = events (accepted (step s c) cs) in
      let fs = shown (step s c) cs in (
        rw e
            (rest.0 ∙ ap (λ (v : Target). left v es fs) next ∙ sym (left_event (event c) es (shows s c) fs (target_of s.sensor))),
        rw e
            (ap (λ (l : List Seen). at_event (event c) (sees s c) l) rest.1
            ∙ ap (λ (a : Seen). at_event (event c) a (seen (target_of (step s c).sensor) es fs)) (call_seen s h c e n)
            ∙ ap (λ (v : Target). at_event (event c) (seen_at (shows s c) (target_of s.sensor) (event c)) (seen v es fs)) next
            ∙ sym (seen_event (event c) es (shows s c) fs (target_of s.sensor))),
      )

  after_refused : accepts s c ≡ false → Through s (c ∷ cs)
  unfolding after accepted shown seen_of events
  after_refused e =
      let same = ap (λ (t : Bma150). target_of t.sensor) (refused_leaves s c e) in
      let es = events (accepted (step s c) cs) in
      let fs = shown (step s c) cs in (
        rw e (rest.0 ∙ ap (λ (v : Target). left v es fs) same),
        rw e (rest.1 ∙ ap (λ (v : Target). seen v es fs) same),
      )

-- what is so of no accepted call of a list is not so of its first, and of none of the rest
module _ (so : Bma150 → Call → Bool) (s : Bma150) (c : Call) (cs : List Call) (n : some_accepted so s (c ∷ cs) ≡ false) where
  pub not_first : accepts s c ≡ true → so s c ≡ false
  unfolding some_accepted
  not_first e = rw e at (or_left (accepts s c && so s c) (some_accepted so (step s c) cs) n)

  pub not_rest : some_accepted so (step s c) cs ≡ false
  unfolding some_accepted
  not_rest = or_right (accepts s c && so s c) (some_accepted so (step s c) cs) n

module _ (s : Bma150) (c : Call) (cs : List Call) (h : Heard s.sensor) (n : ended s (c ∷ cs) ≡ false) where
  pub goes_on : accepts s c ≡ true → ends s c ≡ false
  goes_on = not_first ends s c cs n

  pub rest_goes_on : ended (step s c) cs ≡ false
  rest_goes_on = not_rest ends s c cs n

  pub next_heard : Heard (step s c).sensor
  next_heard = by_acceptance (accepts s c) refl
    where
      by_acceptance : (t : Bool) → accepts s c ≡ t → Heard (step s c).sensor
      by_acceptance true e = hears_on s h c e (goes_on e)
      by_acceptance false e = subst (λ (t : Bma150). Heard t.sensor) (sym (refused_leaves s c e)) h

  either_way : Through (step s c) cs → (t : Bool) → accepts s c ≡ t → Through s (c ∷ cs)
  either_way rest true e = after_accepted s c cs h rest e (goes_on e)
  either_way rest false e = after_refused s c cs h rest e

-- for every list that begins with a sensor that hears the bus and in which no accepted call ends that
pub through_calls : (cs : List Call) (s : Bma150) → Heard s.sensor → ended s cs ≡ false → Through s cs
unfolding after accepted shown seen_of events left seen
through_calls [] s h n = (refl, refl)
through_calls (c ∷ cs) s h n = either_way s c cs h n (through_calls cs (step s c) (next_heard s c cs h n) (rest_goes_on s c cs h n)) (accepts s c) refl

-- so if the accepted reports of a list make these events, the sensor is seen and left as the target is
pub transfer : (cs : List Call) (s : Bma150) (es : List Edge) (a : List Seen) (w : Target) → Heard s.sensor → ended s cs ≡ false → events (accepted s cs) ≡ es
    → Serves (target_of s.sensor) es (shown s cs) a w → (seen_of s cs ≡ a) × (target_of (after s cs).sensor ≡ w)
transfer cs s es a w h n e v =
    let t = through_calls cs s h n in (
      t.1 ∙ ap (λ (es : List Edge). seen (target_of s.sensor) es (shown s cs)) e ∙ v.is_seen,
      t.0 ∙ ap (λ (es : List Edge). left (target_of s.sensor) es (shown s cs)) e ∙ v.is_left,
    )

-- and it hears the bus after them
pub stays_heard : (cs : List Call) (s : Bma150) → Heard s.sensor → ended s cs ≡ false → Heard (after s cs).sensor
unfolding after
stays_heard [] s h n = h
stays_heard (c ∷ cs) s h n = stays_heard cs (step s c) (next_heard s c cs h n) (rest_goes_on s c cs h n)
