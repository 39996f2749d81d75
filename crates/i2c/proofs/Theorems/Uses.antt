-- Which events use converted values: exactly those that write, fetch or note a read.
use Rattle.std.specs.Prelude.{◌≡◌, Bool, leb, ltb, eqb, Option, Some, None}
use Rattle.std.proofs.Math.Path.{refl}
use Rattle.std.proofs.Math.Bool.{true, false}
use Prim.Native.Nat.{ℕ, zero, suc, ◌≤◌}
use Rattle.std.proofs.Common.{arith}
use borrow.Author.Tests.{ltb-true, ltb-false, eqb-true, ne_eqb, lt-leb, le-leb}
use Rattle.i2c.specs.declared.types.Edge.{Edge}
use Rattle.i2c.specs.declared.types.Edge.TheVariants.{Still, Start, Stop, Rise, Fall}
use Rattle.i2c.specs.declared.types.Receive.{Receive}
use Rattle.i2c.specs.declared.types.Receive.TheVariants as R
use Rattle.i2c.specs.declared.types.Following.{Following}
use Rattle.i2c.specs.declared.types.Following.TheVariants as F
use Rattle.i2c.specs.declared.types.Answer.{Answer}
use Rattle.i2c.specs.declared.types.Answer.TheVariants as M
use Rattle.i2c.specs.declared.types.Phase.{Phase}
use Rattle.i2c.specs.declared.types.Phase.TheVariants as P
use Rattle.i2c.specs.declared.types.State.{State}
use Rattle.i2c.specs.declared.types.Action.{Action}
use Rattle.i2c.specs.declared.types.Action.TheVariants as A
use Rattle.i2c.specs.Bus.{is_condition, is_start, is_rise, is_fall, data_at}
use Rattle.i2c.specs.Engine.{conditioned, within_byte, bit_taken, byte_step, at_ninth, followed, acknowledge_step, answered, answer_step, ninth_step, addressed, received, completes, completed, step, uses_as, uses_at_rise, reads_next, goes_on, uses_at_fall, consumes_conversion}

-- what the sensor does needs a value
unfoldable pub uses : Option Action → Bool
uses None = false
uses (Some A.Drop) = false
uses (Some (A.Write r x)) = true
uses (Some (A.Launch r)) = true
uses (Some (A.ReadBegan r)) = true

module _ (p b x : ℕ) (l : Bool) (sent : ℕ) where
  abbrev in_phase : Phase → State
  in_phase f = record { phase = f; pointer = p; bits = b; shift = x; low = l }

  abbrev Exactly : Phase → Edge → Type 0
  Exactly f e = consumes_conversion (in_phase f) e ≡ uses (step (in_phase f) e false sent).action

  receives : (k : Receive) (d : Bool) (t : Bool) → ltb b 7 ≡ t → Exactly (P.Receive k) (Rise d)
  unfolding consumes_conversion uses step is_condition is_rise is_fall data_at within_byte byte_step at_ninth completes completed received addressed uses_at_rise uses_as
  receives R.Address d true e = rw e
  receives R.Address d false e = rw e
  receives R.Control d true e = rw e
  receives R.Control d false e = rw e
  receives R.Data d true e = rw (e, lt-leb 7 b (ltb-true b 7 e))
  receives R.Data d false e = rw (e, le-leb 7 b (ltb-false b 7 e))

  takes : (n : ℕ) (d : Bool) (t z : Bool) → ltb n 8 ≡ t → eqb n 0 ≡ z → Exactly (P.Read n) (Rise d)
  unfolding consumes_conversion uses step is_condition is_rise is_fall data_at within_byte byte_step bit_taken at_ninth completes uses_at_rise
  takes n d true true e g = rw (e, g)
  takes n d true false e g = rw (e, g)
  takes n d false true e g = let m : 8 ≤ n = ltb-false n 8 e in let z : n ≡ 0 = eqb-true n 0 g in absurd (omega (arith, m, z))
  takes n d false false e g = rw (e, g)

  shows : (n : ℕ) (t z : Bool) → ltb n 8 ≡ t → leb 8 n ≡ z → Exactly (P.Read n) Fall
  unfolding consumes_conversion uses step is_condition is_rise is_fall data_at within_byte byte_step at_ninth ninth_step completes uses_at_fall
  shows n true z e g = rw e
  shows n false true e g = rw (e, g)
  shows n false false e g = rw (e, g)

  acknowledges : (f : Following) (n : ℕ) → Exactly (P.Acknowledge f n) Fall
  unfolding consumes_conversion uses step is_condition is_rise is_fall data_at within_byte at_ninth ninth_step acknowledge_step followed completes uses_at_fall reads_next
  acknowledges f zero = refl
  acknowledges f (suc zero) = refl
  acknowledges F.Control (suc (suc zero)) = refl
  acknowledges F.Data (suc (suc zero)) = refl
  acknowledges F.Read (suc (suc zero)) = refl
  acknowledges F.Idle (suc (suc zero)) = refl
  acknowledges f (suc (suc (suc n))) =
      let not_0 = ne_eqb (suc (suc (suc n))) 0 (λ h. absurd (omega (arith, h))) in
      let not_2 = ne_eqb (suc (suc (suc n))) 2 (λ h. absurd (omega (arith, h))) in rw (not_0, not_2)

  answers : (a : Answer) → Exactly (P.MasterAcknowledge a) Fall
  unfolding consumes_conversion uses step is_condition is_rise is_fall data_at within_byte at_ninth ninth_step answer_step answered completes uses_at_fall goes_on
  answers M.Unseen = refl
  answers M.Acknowledge = refl
  answers M.NotAcknowledge = refl

  in_any : (f : Phase) (e : Edge) → Exactly f e
  unfolding consumes_conversion uses step is_condition is_start is_rise is_fall data_at conditioned within_byte byte_step at_ninth ninth_step acknowledge_step answer_step completes uses_at_rise uses_at_fall
  in_any f Start = refl
  in_any f Stop = refl
  in_any P.Idle Still = refl
  in_any P.Idle (Rise d) = refl
  in_any P.Idle Fall = refl
  in_any (P.Receive k) Still = refl
  in_any (P.Receive k) (Rise d) = receives k d (ltb b 7) refl
  in_any (P.Receive k) Fall = refl
  in_any (P.Acknowledge f n) Still = refl
  in_any (P.Acknowledge f n) (Rise d) = refl
  in_any (P.Acknowledge f n) Fall = acknowledges f n
  in_any (P.Read n) Still = refl
  in_any (P.Read n) (Rise d) = takes n d (ltb n 8) (eqb n 0) refl refl
  in_any (P.Read n) Fall = shows n (ltb n 8) (leb 8 n) refl refl
  in_any (P.MasterAcknowledge a) Still = refl
  in_any (P.MasterAcknowledge a) (Rise d) = refl
  in_any (P.MasterAcknowledge a) Fall = answers a

-- a sample of the same moment comes first exactly where the event writes a register, fetches a byte or begins a read
pub uses_exactly : (s : State) (e : Edge) (sent : ℕ) → consumes_conversion s e ≡ uses (step s e false sent).action
uses_exactly s e sent = in_any s.pointer s.bits s.shift s.low sent s.phase e
