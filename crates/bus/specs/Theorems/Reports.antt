-- What an I2C report does to a sensor that hears the bus.
use Rattle.std.specs.Prelude.{ℕ, ◌≡◌, Bool, true, false, cond, not, ◌&&◌, if◌then◌else◌, Option, Some, None}
use Rattle.std.proofs.Math.Path.{refl, ap}
use Rattle.std.proofs.Common.{sym, ◌∙◌}
use Rattle.time.specs.declared.Time.{Time}
use Rattle.i2c.specs.declared.types.Edge.{Edge}
use Rattle.i2c.specs.declared.types.State.{State}
use Rattle.i2c.specs.declared.types.Action.{Action}
use Rattle.i2c.specs.declared.types.Action.TheVariants as A
use Rattle.i2c.specs.Engine as E
use Rattle.i2c.specs.Target.{target, act, deed}
use Rattle.i2c.proofs.Theorems.Uses.{uses, uses_exactly}
use Rattle.deadlines.specs.Deadlines.{is_set}
use Rattle.control.specs.declared.types.WriteKind.{WriteKind}
use Rattle.control.specs.declared.types.Effect.{Effect}
use Rattle.sensor.specs.declared.types.Sensor.{Sensor}
use Rattle.sensor.specs.Record.{with_i2c, is_quiet}
use Rattle.sensor.specs.Mode.{soft_reset, criterion}
use Rattle.sensor.specs.RegisterReads.{shown, peek, fetched}
use Rattle.samples.specs.Samples.{sync_local_until}
use Rattle.writes.specs.Write.{register_effect, write_effect, write_kind}
use Rattle.serial.specs.I2cPins.{ones_for, launched, acted, i2c_pins, pins_synced}
use Rattle.effects.specs.Core as C
use Rattle.effects.specs.Theorems.Keeps as K
use Rattle.bus.specs.I2c.{Heard, target_of, fetch, is_reset, resets}
use Rattle.bus.specs.Theorems.Parts.{Parts, Same, of, itself, heard, heard_engine, same_target, listens, not_quiet, absurd_bool}

-- ---- the report asks the engine, and what that asks for is done

-- the engine after the event
abbrev pub stepped_to : Sensor → Edge → State
stepped_to s e = (E.step s.i2c e false (ones_for s.frame.tx)).state

pub pins_are : (s : Sensor) (e : Edge) (now : Time) → Heard s → i2c_pins s e now ≡ acted (deed (target_of s) e) (with_i2c s (stepped_to s e)) now
unfolding i2c_pins
pins_are s e now h = rw (listens h, not_quiet h)

-- ---- the sensor that meets it: with the sample of the moment, exactly where the event uses a value

pub met : (s : Sensor) (e : Edge) (now : Time) → Heard s → pins_synced s e now ≡ (if uses (deed (target_of s) e) then sync_local_until s now true else s)
unfolding pins_synced
met s e now h = rw (listens h, not_quiet h, uses_exactly s.i2c e (ones_for s.frame.tx)) (and_loud (uses (deed (target_of s) e)))
  where
    and_loud : (b : Bool) → ◌≡◌ {A = Sensor} (cond (b && not false) (sync_local_until s now true) s) (cond b (sync_local_until s now true) s)
    and_loud true = refl
    and_loud false = refl

-- ---- what is left of the bus

-- a write but a soft reset leaves the bus as it is
module _ (q : Sensor) (r v : ℕ) (now : Time) where
  pub written_same : (w : WriteKind) → is_reset w ≡ false → Same q (write_effect w q r v now)
  unfolding write_effect register_effect K.Ordinary is_reset
  written_same WriteKind.Ignored h = itself q
  written_same WriteKind.Stored h = record { same = refl }
  written_same (WriteKind.Taken Effect.Reset) h = absurd_bool h
  written_same (WriteKind.Taken Effect.Control) h = of (K.then_automatic_keeps Effect.Control q r v now tt)
  written_same (WriteKind.Taken Effect.Measurement) h = of (K.then_automatic_keeps Effect.Measurement q r v now tt)
  written_same (WriteKind.Taken Effect.Operation) h = of (K.then_automatic_keeps Effect.Operation q r v now tt)
  written_same (WriteKind.Taken Effect.Durations) h = of (K.then_automatic_keeps Effect.Durations q r v now tt)
  written_same (WriteKind.Taken Effect.Plain) h = of (K.then_automatic_keeps Effect.Plain q r v now tt)

  -- a soft reset makes the sensor quiet
  pub reset_quiets : (w : WriteKind) → is_reset w ≡ true → is_quiet (write_effect w q r v now) ≡ true
  unfolding write_effect register_effect is_reset is_set
  reset_quiets WriteKind.Ignored h = absurd_bool (sym h)
  reset_quiets WriteKind.Stored h = absurd_bool (sym h)
  reset_quiets (WriteKind.Taken Effect.Reset) h = ap (λ (k : C.Core). is_set k.quiet) (K.automatic_keeps (soft_reset q now) now (criterion q) false).same
  reset_quiets (WriteKind.Taken Effect.Control) h = absurd_bool (sym h)
  reset_quiets (WriteKind.Taken Effect.Measurement) h = absurd_bool (sym h)
  reset_quiets (WriteKind.Taken Effect.Operation) h = absurd_bool (sym h)
  reset_quiets (WriteKind.Taken Effect.Durations) h = absurd_bool (sym h)
  reset_quiets (WriteKind.Taken Effect.Plain) h = absurd_bool (sym h)

module _ (s : Sensor) (st : State) where
  -- the engine's state changes nothing that a fetch looks at
  same_sent : (v : Option ℕ) (r : ℕ) → (fetched v (with_i2c s st) r).sent ≡ (fetched v s r).sent
  unfolding fetched
  same_sent None r = refl
  same_sent (Some b) r = refl

  launched_target : (v : Option ℕ) (r : ℕ) → target_of (launched (fetched v (with_i2c s st) r)) ≡ target (E.launched st (ones_for (fetched v s r).sent)) (ones_for (fetched v s r).sent)
  unfolding fetched
  launched_target None r = refl
  launched_target (Some b) r = refl

  same_view : (r : ℕ) → peek (with_i2c s st) r ≡ peek s r
  unfolding peek shown
  same_view r = refl

-- what is done, but a soft reset, leaves the engine and the byte being sent as UM10204's target has them
pub acted_target : (a : Option Action) (s : Sensor) (st : State) (now : Time) → Heard s → resets s a ≡ false
    → target_of (acted a (with_i2c s st) now) ≡ act (fetch s) st (ones_for s.frame.tx) a
unfolding acted act ones_for resets
acted_target None s st now h g = refl
acted_target (Some A.Drop) s st now h g = refl
acted_target (Some (A.Write r v)) s st now h g =
    let q = with_i2c s st in
    let same = written_same q r v now (write_kind q r v) g in
    ap (λ (k : Parts). target (E.written k.i2c (is_set k.quiet)) (ones_for k.frame.tx)) same.same
    ∙ ap (λ (z : Bool). target (E.written st z) (ones_for s.frame.tx)) (not_quiet h)
acted_target (Some (A.Launch r)) s st now h g =
    ap (λ (v : Option ℕ). target_of (launched (fetched v (with_i2c s st) r))) (same_view s st r) ∙ launched_target s st (peek s r) r
acted_target (Some (A.ReadBegan r)) s st now h g = same_target (of (K.byte_read_keeps s.frame.tx (with_i2c s st) r))

-- and the sensor goes on hearing
module _ (s : Sensor) (st : State) (now : Time) (h : Heard s) where
  abbrev q : Sensor
  q = with_i2c s st

  launched_heard : (v : Option ℕ) (r : ℕ) → Heard (launched (fetched v q r))
  unfolding fetched
  launched_heard None r = record { on = h.on; ready = h.ready; unselected = h.unselected; at_rest = h.at_rest; loud = h.loud }
  launched_heard (Some b) r = record { on = h.on; ready = h.ready; unselected = h.unselected; at_rest = h.at_rest; loud = h.loud }

  pub acted_heard : (a : Option Action) → resets s a ≡ false → Heard (acted a q now)
  unfolding acted resets
  acted_heard None g = heard_engine s st h
  acted_heard (Some A.Drop) g = record { on = h.on; ready = h.ready; unselected = h.unselected; at_rest = h.at_rest; loud = h.loud }
  acted_heard (Some (A.Write r v)) g = heard_engine _ _ (heard (written_same q r v now (write_kind q r v) g) (heard_engine s st h))
  acted_heard (Some (A.Launch r)) g = launched_heard (peek q r) r
  acted_heard (Some (A.ReadBegan r)) g = heard (of (K.byte_read_keeps s.frame.tx q r)) (heard_engine s st h)

  -- after a soft reset it is quiet
  pub acted_quiet : (a : Option Action) → resets s a ≡ true → is_quiet (acted a q now) ≡ true
  unfolding acted resets
  acted_quiet None g = absurd_bool (sym g)
  acted_quiet (Some A.Drop) g = absurd_bool (sym g)
  acted_quiet (Some (A.Write r v)) g = reset_quiets q r v now (write_kind q r v) g
  acted_quiet (Some (A.Launch r)) g = absurd_bool (sym g)
  acted_quiet (Some (A.ReadBegan r)) g = absurd_bool (sym g)

-- only a fetch looks at the registers
pub act_shows : (f g : ℕ → ℕ) (st : State) (sent : ℕ) (a : Option Action) → (uses a ≡ true → (r : ℕ) → f r ≡ g r) → act f st sent a ≡ act g st sent a
unfolding act uses
act_shows f g st sent None h = refl
act_shows f g st sent (Some A.Drop) h = refl
act_shows f g st sent (Some (A.Write r x)) h = refl
act_shows f g st sent (Some (A.Launch r)) h = ap (λ (b : ℕ). target (E.launched st b) b) (h refl r)
act_shows f g st sent (Some (A.ReadBegan r)) h = refl
