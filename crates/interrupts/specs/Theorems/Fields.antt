-- The interrupts' bits of the status register are the data sheet's fields.
use Rattle.std.specs.Prelude.{◌≡◌, Bool, true, false, ℕ, ◌+◌, ◌*◌, ◌/◌, ◌%◌, ◌≤◌, eqb}
use Rattle.std.proofs.Common.{arith}
use Rattle.registers.specs.Map.{alert_phase, LG_latched, HG_latched, status_LG, status_HG}
use Rattle.interrupts.specs.declared.Interrupts.{Interrupts}
use Rattle.interrupts.specs.Pin.{weigh, status}

-- a field counts its weight, or 0
scaled : (b : Bool) (n : ℕ) → weigh b n ≡ weigh b 1 * n
scaled true n = omega arith
scaled false n = omega arith

small : (b : Bool) → weigh b 1 ≤ 1
small true = omega arith
small false = omega arith

is : (b : Bool) (n : ℕ) → n ≡ weigh b 1 → eqb n 1 ≡ b
is true n e = rw e
is false n e = rw e

-- each field of a status byte
pub record Shows (alert LG HG low high : Bool) (byte : ℕ) : Type 0 where
  pub alert_phase_is : alert_phase byte ≡ alert
  pub LG_latched_is : LG_latched byte ≡ LG
  pub HG_latched_is : HG_latched byte ≡ HG
  pub status_LG_is : status_LG byte ≡ low
  pub status_HG_is : status_HG byte ≡ high

module _ (a b c d e : Bool) where
  abbrev sum : ℕ
  sum = weigh a 16 + weigh b 8 + weigh c 4 + weigh d 2 + weigh e 1

  abbrev digits : ℕ
  digits = weigh a 1 * 16 + weigh b 1 * 8 + weigh c 1 * 4 + weigh d 1 * 2 + weigh e 1

  sums : sum ≡ digits
  sums = rw (scaled a 16, scaled b 8, scaled c 4, scaled d 2)

  fields : Shows a b c d e digits
  fields =
      let p = small a in let q = small b in let r = small c in let s = small d in let t = small e in
      record {
        alert_phase_is = is a (digits / 16 % 2) (omega arith);
        LG_latched_is = is b (digits / 8 % 2) (omega arith);
        HG_latched_is = is c (digits / 4 % 2) (omega arith);
        status_LG_is = is d (digits / 2 % 2) (omega arith);
        status_HG_is = is e (digits / 1 % 2) (omega arith);
      }

-- the status byte shows the alert, the latches and the levels
pub shows : (s : Interrupts) → Shows s.alert s.low_g.latched s.high_g.latched s.low_g.level s.high_g.level (status s)
shows s =
    rw (sums s.alert s.low_g.latched s.high_g.latched s.low_g.level s.high_g.level)
    (fields s.alert s.low_g.latched s.high_g.latched s.low_g.level s.high_g.level)
