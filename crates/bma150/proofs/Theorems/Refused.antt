-- Demand 1 over the sensor and its calls: refused exactly if, and a refusal changes nothing.
use Rattle.std.specs.Prelude.{ℕ, suc, ◌≡◌, false, List, eqb, length}
use Rattle.std.proofs.Common.{ap, subst, arith, ne_eqb}
use Rattle.time.specs.declared.Time.{Time}
use Rattle.calls.specs.declared.types.Call.{Call}
use Rattle.calls.specs.declared.types.Starting.{Starting}
use Rattle.calls.proofs.Theorems.Found.{Fault, First}
use Rattle.calls.proofs.Theorems.Exactly.{faults, start_faults, refused_only, refused_whole, start_refused_only, start_refused_whole}
use Rattle.calls.proofs.Theorems.Left.{refused_is}
use Rattle.samples.specs.Samples.{interaction_deadline}
use Rattle.bma150.specs.declared.host.Bma150.{Bma150}
use Rattle.bma150.specs.Called.{Added, put_in, leaves, adds, number, called, measurement_of, start_number}

-- a statement and its converse
pub record Exactly (P Q : Type 0) : Type 0 where
  pub only : P → Q
  pub whole : Q → P

-- the faults of 01's table that a call of this sensor can have, in 01's order
abbrev pub faults_of : Bma150 → Call → List Fault
faults_of s c = faults s.last (interaction_deadline s.sensor) s.sensor.kept.lines c

-- a call answers n exactly if n is the number of the first fault that is there, or 0 where there is none
pub refused_exactly_if : (s : Bma150) (c : Call) (n : ℕ) → Exactly ((called s c).number ≡ n) (First (faults_of s c) n)
refused_exactly_if s c n = record {
  only = λ e. subst (λ (k : ℕ). First (faults_of s c) k) e (refused_only s.last (interaction_deadline s.sensor) s.sensor.kept.lines c);
  whole = refused_whole s.last (interaction_deadline s.sensor) s.sensor.kept.lines c n;
}

-- the faults that a start can have, in order
abbrev pub start_faults_of : Starting → Time → (image : List ℕ) → List Fault
start_faults_of by now image = start_faults by now (length image) (measurement_of image)

pub start_refused_exactly_if : (by : Starting) (now : Time) (image : List ℕ) (n : ℕ) → Exactly (start_number by now image ≡ n) (First (start_faults_of by now image) n)
start_refused_exactly_if by now image n = record {
  only = λ e. subst (λ (k : ℕ). First (start_faults_of by now image) k) e (start_refused_only by now (length image) (measurement_of image));
  whole = start_refused_whole by now (length image) (measurement_of image) n;
}

-- a refused call leaves the sensor and the lent buffer as they came, and answers only its number
pub record Unchanged (s : Bma150) (c : Call) (buffer : List ℕ) : Type 0 where
  pub sensor : (called s c).sensor ≡ s
  pub lent : put_in (called s c).adds buffer ≡ buffer
  pub adds : (called s c).adds ≡ Added.nothing

pub refusal_changes_nothing : (s : Bma150) (c : Call) (buffer : List ℕ) (n : ℕ) → (called s c).number ≡ suc n → Unchanged s c buffer
unfolding put_in
refusal_changes_nothing s c buffer n e =
    let q : eqb (number s c) 0 ≡ false = ne_eqb (number s c) 0 (λ z. omega arith) in
    let a : (called s c).adds ≡ Added.nothing = refused_is (number s c) Added.nothing (adds s c) q in
    record { sensor = refused_is (number s c) s (leaves s c) q; lent = ap (λ (x : Added). put_in x buffer) a; adds = a }
