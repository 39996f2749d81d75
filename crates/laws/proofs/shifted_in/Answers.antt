use Rattle.std.proofs.Common.{◌≡◌, ℕ, ◌*◌, ◌%◌, Bool, true, false, bit_or, arith}
use Rattle.std.proofs.lemmas.Nat.{or_shifted}
use mir.Val.{bool_byte}
use Rattle.laws.specs.Bytes.{shifted_in}
use Rattle.laws.proofs.shifted_in.Goals as goal

joined : (x : ℕ) (b : Bool) → bit_or (x * 2 % 256) (bool_byte b) ≡ shifted_in x b
joined x true = let e : x * 2 % 256 ≡ x % 128 * 2 = omega arith in rw e (or_shifted (x % 128) 1 1 (omega arith))
joined x false = let e : x * 2 % 256 ≡ x % 128 * 2 = omega arith in rw e (or_shifted (x % 128) 1 0 (omega arith))

pub returns : goal.returns
returns c = rw c.from.ensures (joined c.args.byte c.args.bit)
