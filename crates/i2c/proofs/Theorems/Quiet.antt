-- Quiet after a soft reset: an acknowledge that was begun is finished, and nothing else is heard, START included.
use Rattle.std.specs.Prelude.{◌≡◌, Bool, true, false, ℕ, if◌then◌else◌, Some, None}
use Rattle.std.proofs.Math.Path.{refl}
use Rattle.std.proofs.lemmas.Bool.{false≢true}
use Rattle.i2c.specs.declared.types.Edge.{Edge}
use Rattle.i2c.specs.declared.types.Edge.TheVariants.{Still, Start, Stop, Rise, Fall}
use Rattle.i2c.specs.declared.types.State.{State}
use Rattle.i2c.specs.declared.types.Action.TheVariants as A
use Rattle.i2c.specs.Bus.{is_condition, is_start, is_rise, is_fall}
use Rattle.i2c.specs.Engine.{aborted, and_do, conditioned, acknowledging, within_byte, at_ninth, followed, acknowledge_step, ninth_step, step, written}

-- an engine that does not acknowledge waits for START after any report; START and STOP drop the byte being sent
pub quiet_aborts : (s : State) (e : Edge) (sent : ℕ) → acknowledging s.phase ≡ false → step s e true sent ≡ and_do (aborted s) (if is_condition e then Some A.Drop else None)
unfolding step is_condition is_start conditioned
quiet_aborts s Still sent h = rw h
quiet_aborts s Start sent h = refl
quiet_aborts s Stop sent h = refl
quiet_aborts s (Rise d) sent h = rw h
quiet_aborts s Fall sent h = rw h

-- so does one that does at START or STOP
pub quiet_conditions : (s : State) (e : Edge) (sent : ℕ) → is_condition e ≡ true → step s e true sent ≡ and_do (aborted s) (Some A.Drop)
unfolding step conditioned is_start is_condition
quiet_conditions s Still sent h = absurd (false≢true h)
quiet_conditions s Start sent h = refl
quiet_conditions s Stop sent h = refl
quiet_conditions s (Rise d) sent h = absurd (false≢true h)
quiet_conditions s Fall sent h = absurd (false≢true h)

-- an acknowledge goes on as it does when not quiet
pub quiet_finishes : (s : State) (e : Edge) (sent : ℕ) → acknowledging s.phase ≡ true → is_condition e ≡ false → step s e true sent ≡ step s e false sent
unfolding step
quiet_finishes s e sent h c = rw (c, h)

-- the write of a soft reset is acknowledged: low from the eighth fall to the ninth, and then the engine waits for START
module _ (s : State) (sent : ℕ) (level : Bool) where
  abbrev eighth_fall : State
  eighth_fall = (step (written (aborted s) true) Fall true sent).state

  abbrev ninth_rise : State
  ninth_rise = (step eighth_fall (Rise level) true sent).state

  abbrev ninth_fall : State
  ninth_fall = (step ninth_rise Fall true sent).state

  pub reset_acknowledged : (eighth_fall.low ≡ true) × (ninth_rise.low ≡ true) × (ninth_fall ≡ aborted s)
  unfolding step is_condition is_rise is_fall acknowledging within_byte at_ninth ninth_step acknowledge_step followed
  reset_acknowledged = (refl, refl, refl)
