-- Commands 01 and 0c: an accepted start hands over its sensor; a refused one changes nothing, and the bench goes on.
use Rattle.std.specs.Prelude.{ℕ, suc, ◌^◌, ◌<◌, ◌≡◌, Bool, false, List, length, get_or}
use Rattle.std.proofs.Common.{arith}
use borrow.Author.Tests.{ne_eqb}
use Rattle.time.specs.declared.Time.{Time}
use Rattle.calls.specs.declared.types.Starting.{Starting}
use Rattle.calls.specs.Theorems.Exactly.{Reserved}
use Rattle.commands.specs.declared.Command.{Command}
use Rattle.commands.specs.Decode.{decoded, image, size, is_bad}
use Rattle.bma150.specs.declared.host.Bma150.{Bma150}
use Rattle.bma150.specs.Called.{measurement_of, start_number, after_start}
use Rattle.bma150.proofs.Theorems.Starts as S
use Rattle.bench.specs.Line.{silent, started, commanded, line}
use Rattle.bench.specs.Run.{bench}

module _ (s : Bma150) (by : Starting) (t : Time) (given : List ℕ) where
  pub taken : start_number by t given ≡ 0 → commanded s (Command.Start by t) given ≡ silent (after_start by t given) 0
  unfolding commanded started
  taken e = rw e

  pub refused : (n : ℕ) → start_number by t given ≡ suc n → commanded s (Command.Start by t) given ≡ silent s (suc n)
  unfolding commanded started
  refused n e = rw (e, ne_eqb (suc n) 0 (λ z. omega arith))

-- 01 with either reserved code: its line has refusal 9 and the pins of the sensor that was there, which stays, and the bench does not stop
pub record Refused (trace : Bool) (s : Bma150) (l : List ℕ) : Type 0 where
  pub said : ((bench trace).takes s l).said ≡ line trace (get_or l 0 0) (silent s 9)
  pub sensor : ((bench trace).takes s l).state ≡ s
  pub takes : ((bench trace).takes s l).size ≡ 32
  pub goes_on : ((bench trace).takes s l).stop ≡ false

pub reserved_refused : (trace : Bool) (s : Bma150) (l : List ℕ) (t : Time) → decoded l ≡ Command.Start Starting.Checked t → length (image l) ≡ 19 → Reserved (measurement_of (image l)) → Refused trace s l
unfolding size is_bad
reserved_refused trace s l t e h r =
    let k = refused s Starting.Checked t (image l) 8 (S.reserved_refused t (image l) h r) in
    record { said = rw (e, k); sensor = rw (e, k); takes = rw e; goes_on = rw e }

-- 0c with any image of 19 bytes at a time below the limit: accepted
pub stored_taken : (s : Bma150) (t : Time) (given : List ℕ) → length given ≡ 19 → t.0 < 2 ^ 32 → commanded s (Command.Start Starting.Stored t) given ≡ silent (after_start Starting.Stored t given) 0
stored_taken s t given h p = taken s Starting.Stored t given (S.stored_accepted t given h p)
