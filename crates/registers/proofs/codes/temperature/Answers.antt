use Rattle.std.proofs.Common.{◌∙◌, ap, arith, pos, nat_abs, w32, w64}
use mir.ValLaws.{to_z-of_z}
use Rattle.laws.specs.Signed.{back, of_fits, reach_add, reach_pos, reach_quot}
use Rattle.registers.specs.Codes.{temperature}
use Rattle.registers.proofs.Laws.{clamp_is}
use Rattle.registers.proofs.codes.temperature.Goals as goal

pub returns : goal.returns
unfolding temperature
returns c =
    let m = of_fits c.ranges.millicelsius in
    let r = reach_add m (reach_pos 30000 30001 (omega arith)) in
    let h = rw (c.from.ensures, back w32 m tt, back w64 m tt, back w64 r tt, back w64 (reach_quot 500 r) tt) at c.clamp.ensures.value in
    ap nat_abs (to_z-of_z w64 c.clamp.result (record { sfits = c.clamp.type_inv }) ∙ h ∙ clamp_is (pos 0) (pos 255) _ (record { le = tt }))
