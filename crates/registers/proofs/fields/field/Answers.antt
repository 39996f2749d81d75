use Rattle.std.proofs.Common.{◌≡◌, ◌*◌, ◌%◌, ◌^◌, arith}
use Rattle.std.proofs.lemmas.Nat.{pow_below}
use lib.Bits.{and_mask}
use Rattle.registers.proofs.fields.field.Goals as goal

pub returns : goal.returns
returns g c =
    let l = pow_below g.row.WIDTH 8 c.requires.width in
    let e : 1 * 2 ^ g.row.WIDTH % 256 ≡ 2 ^ g.row.WIDTH = omega arith in
    rw e (and_mask _ g.row.WIDTH)
