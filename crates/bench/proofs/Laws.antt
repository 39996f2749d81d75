-- Replies as what a call leaves and answers.
use Prim.Native.Nat.{ℕ}
use mathlib.Core.Path.{◌≡◌, refl, sym, ap, ◌∙◌}
use mathlib.Core.Bool.{Bool, true, false, cond}
use mathlib.Core.List.{List}
use lib.Dec.{eqb}
use lib.IntN.{ℤ}
use borrow.Author.Tests.{ne_eqb}
use Rattle.time.specs.declared.Time.{Time}
use Rattle.i2c.specs.declared.types.Levels.{Levels}
use Rattle.calls.specs.declared.types.Refusal.{Refusal}
use Rattle.calls.specs.declared.types.Timed.TheVariants as Timed
use Rattle.calls.specs.declared.types.Call.TheVariants as Call
use Rattle.calls.specs.declared.types.Starting.{Starting}
use Rattle.calls.specs.Facts.{facts}
use Rattle.calls.specs.Table as R
use Rattle.calls.specs.Table.{Outcome, wrong_length, first_found, refusal, refusal_number, unless_refused}
use Rattle.calls.proofs.Theorems.Left.{temperature_accepted, select_accepted}
use Rattle.samples.specs.Samples.{interaction_deadline}
use Rattle.bma150.specs.declared.host.Bma150.{Bma150}
use Rattle.commands.specs.declared.Command.TheVariants as Command
use Rattle.bma150.specs.Called.{Added, Called, timed_adds, adds, number, called, start_number, after_start}
use Rattle.bma150.specs.Lent.{PinsLent}
use Rattle.bench.specs.Line.{silent, started, commanded}

pub called_is : {n m : ℕ} {s t : Bma150} {a b : Added} → n ≡ m → s ≡ t → a ≡ b → ◌≡◌ {A = Called} (record { number = n; sensor = s; adds = a }) (record { number = m; sensor = t; adds = b })
called_is p q r = cc (p, q, r)

-- a refused call adds nothing
pub refused_adds : (why : Refusal) (a : Added) → Added.nothing ≡ unless_refused (R.refusal_number why) Added.nothing a
unfolding unless_refused refusal_number
refused_adds Refusal.ImageLength a = refl
refused_adds _ a = refl

-- nor does an accepted one that adds nothing
pub nothing_unless : (n : ℕ) → unless_refused n Added.nothing Added.nothing ≡ Added.nothing
unfolding unless_refused
nothing_unless n = go (eqb n 0)
  where
    go : (b : Bool) → cond b Added.nothing Added.nothing ≡ Added.nothing
    go true = refl
    go false = refl

-- a start: its own sensor where it is accepted, else the one before it
module _ (sensor s : Bma150) (by : Starting) (now : Time) (image : List ℕ) (n : ℕ) (p : n ≡ start_number by now image) where
  pub start_accepted : s ≡ after_start by now image → eqb n 0 ≡ true → silent s n ≡ commanded sensor (Command.Start by now) image
  unfolding commanded started
  start_accepted q e = called_is p (q ∙ sym (ap (λ (b : Bool). cond b (after_start by now image) sensor) (sym (ap (λ (k : ℕ). eqb k 0) p) ∙ e))) refl

  pub start_refused : eqb n 0 ≡ false → silent sensor n ≡ commanded sensor (Command.Start by now) image
  unfolding commanded started
  start_refused e = called_is p (sym (ap (λ (b : Bool). cond b (after_start by now image) sensor) (sym (ap (λ (k : ℕ). eqb k 0) p) ∙ e))) refl

-- another length than 19
pub wrong_buffer : (s : Bma150) (now : Time) (n : ℕ) → (n ≡ 19 → ⊥) → silent s 1 ≡ called s (Call.StoredImage now n)
unfolding refusal first_found facts wrong_length unless_refused
wrong_buffer s now n p = rw (ne_eqb n 19 p)

-- calls without a refusal that add nothing
module _ (s : Bma150) where
  pub temperature_called : (x : ℤ) → silent (called s (Call.Temperature x)).sensor 0 ≡ called s (Call.Temperature x)
  unfolding unless_refused adds
  temperature_called x =
      let e = temperature_accepted s.last (interaction_deadline s.sensor) s.sensor.kept.lines x in
      called_is (sym e) refl (sym (ap (λ (n : ℕ). unless_refused n Added.nothing Added.nothing) e))

  pub select_called : (on : Bool) → silent (called s (Call.Select on)).sensor 0 ≡ called s (Call.Select on)
  unfolding unless_refused adds
  select_called on =
      let e = select_accepted s.last (interaction_deadline s.sensor) s.sensor.kept.lines on in
      called_is (sym e) refl (sym (ap (λ (n : ℕ). unless_refused n Added.nothing Added.nothing) e))

-- what a lent pin call left and answered
pub pins_called : (s : Bma150) (now : Time) (before after : Levels) (t : Bma150) (o : Outcome) → PinsLent s now before after t o → silent t (R.number o) ≡ called s (Call.At now (Timed.Pins before after))
unfolding adds timed_adds
pins_called s now before after t o e = called_is e.answers e.leaves (sym (nothing_unless (number s (Call.At now (Timed.Pins before after)))))
