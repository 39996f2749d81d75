-- What a reply adds, read off its values, is what the call adds.
use Rattle.std.specs.Prelude.{ℕ, ◌≡◌, Bool, List, eqb, Option, None}
use Rattle.std.proofs.Math.Path.{refl, ap}
use Rattle.std.proofs.Common.{◌∙◌}
use Rattle.std.proofs.Math.Bool.{true, false, cond}
use Rattle.time.specs.declared.Time.{Time}
use Rattle.calls.specs.declared.types.Timed.{Timed}
use Rattle.calls.specs.declared.types.Call.TheVariants as Call
use Rattle.calls.specs.Table.{unless_refused}
use Rattle.calls.proofs.Theorems.Left.{accepted_is, view_accepted}
use Rattle.sensor.specs.RegisterReads.{peek, viewed}
use Rattle.samples.specs.Samples.{interaction_deadline}
use Rattle.waits.specs.declared.types.Report.{Report}
use Rattle.bma150.specs.declared.host.Bma150.{Bma150}
use Rattle.bma150.proofs.Laws.{view_added}
use Rattle.bma150.specs.Values.{report_values}
use Rattle.bma150.specs.Called.{Added, reported, of_view, put_in, timed_adds, served, leaves, adds, number, called}

-- a timed call's report fixes what it adds
report_is : (t : Timed) (r q : Option Report) → report_values r ≡ reported (timed_adds t q) → timed_adds t r ≡ timed_adds t q
unfolding timed_adds reported
report_is (Timed.Accelerations input) r q e = refl
report_is (Timed.Supply rail) r q e = ap Added.report e
report_is Timed.Due r q e = ap Added.report e
report_is (Timed.Rising mosi) r q e = refl
report_is Timed.Falling r q e = refl
report_is (Timed.Pins before after) r q e = refl

-- where it is accepted
if_accepted : {A : Type 0} (n m : ℕ) (z x y : A) → n ≡ m → (eqb m 0 ≡ true → x ≡ y) → unless_refused n z x ≡ unless_refused m z y
unfolding unless_refused
if_accepted n m z x y e f = ap (λ (k : ℕ). cond (eqb k 0) x z) e ∙ go (eqb m 0) refl
  where
    go : (b : Bool) → eqb m 0 ≡ b → cond b x z ≡ cond b y z
    go true p = f p
    go false p = refl

module _ (s : Bma150) (now : Time) where
  -- with a report
  pub reported_is : (t : Timed) (n : ℕ) (r : Option Report) → n ≡ number s (Call.At now t) → report_values r ≡ reported (called s (Call.At now t)).adds
      → unless_refused n Added.nothing (timed_adds t r) ≡ (called s (Call.At now t)).adds
  unfolding adds
  reported_is t n r p e =
      if_accepted n (number s (Call.At now t)) Added.nothing (timed_adds t r) (adds s (Call.At now t)) p
      (λ q. report_is t r (served s now t).report (e ∙ ap reported (accepted_is (number s (Call.At now t)) Added.nothing (adds s (Call.At now t)) q)))

  -- without one
  pub silent_is : (t : Timed) (n : ℕ) → n ≡ number s (Call.At now t) → timed_adds t None ≡ timed_adds t (served s now t).report
      → unless_refused n Added.nothing (timed_adds t None) ≡ (called s (Call.At now t)).adds
  unfolding adds
  silent_is t n p e = if_accepted n (number s (Call.At now t)) Added.nothing (timed_adds t None) (adds s (Call.At now t)) p (λ q. e)

  -- the buffer of a stored-image call
  pub buffer_is : (k n : ℕ) (lent left : List ℕ) → n ≡ number s (Call.StoredImage now k) → left ≡ put_in (called s (Call.StoredImage now k)).adds lent
      → unless_refused n Added.nothing (Added.put left) ≡ (called s (Call.StoredImage now k)).adds
  unfolding adds put_in
  buffer_is k n lent left p e =
      if_accepted n (number s (Call.StoredImage now k)) Added.nothing (Added.put left) (adds s (Call.StoredImage now k)) p
      (λ q. ap Added.put (e ∙ ap (λ (a : Added). put_in a lent) (accepted_is (number s (Call.StoredImage now k)) Added.nothing (adds s (Call.StoredImage now k)) q)))

  -- a stored-image call leaves the sensor
  pub image_leaves : (n : ℕ) → s ≡ (called s (Call.StoredImage now n)).sensor
  unfolding leaves unless_refused
  image_leaves n = go (eqb (number s (Call.StoredImage now n)) 0)
    where
      go : (b : Bool) → s ≡ cond b s s
      go true = refl
      go false = refl

-- and so does a view
module _ (s : Bma150) (address : ℕ) where
  pub view_leaves : s ≡ (called s (Call.View address)).sensor
  unfolding leaves unless_refused
  view_leaves = rw (view_accepted s.last (interaction_deadline s.sensor) s.sensor.kept.lines address)

  pub view_adds : of_view (viewed s.sensor address) ≡ (called s (Call.View address)).adds
  unfolding adds unless_refused
  view_adds = rw (view_accepted s.last (interaction_deadline s.sensor) s.sensor.kept.lines address) (view_added (peek s.sensor address) s.sensor address)
