use Rattle.std.proofs.Common.{◌≡◌, ◌∙◌, ap, arith, pos, negsuc, w16, w64, ◌^◌, ◌<◌, ◌*◌, ℤ}
use mir.ValLaws.{to_z-of_z}
use Rattle.laws.specs.Signed.{back, holds, of_fits, reach_quot, reach_pos}
use Rattle.registers.specs.Codes.{clamped, range_g, code}
use Rattle.registers.proofs.Laws.{clamp_is, within, within_code, code_near, range_within, r1, r2, r3, r4}
use Rattle.registers.proofs.codes.code.Goals as goal

pub nonzero_div-scaled : goal.nonzero_div-scaled
nonzero_div-scaled c = let o = c.args.offset in let k = c.args.range in
    let ro : o < 2 ^ 16 = c.ranges.offset.fits in
    let near = c.clamp-near.result in
    let ra = within near c.clamp-near.ensures.lower_bound c.clamp-near.ensures.upper_bound in
    let d : c.divisor.result ≡ pos (range_g k * 1000000) = c.divisor.ensures in
    let rd = reach_pos (range_g k * 1000000) 8000001 (omega (arith, (range_within k).1)) in
    rw (back w64 ra tt, c.from.ensures, back w64 (reach_pos o 65536 ro) tt, back w64 (r1 o ro) tt, back w64 (r2 o ro) tt, back w64 (r3 o ro near ra) tt, back w64 (r4 o ro near ra) tt, d, back w64 rd tt)
    (omega (arith, (range_within k).0), holds (reach_quot (range_g k * 1000000) (r4 o ro near ra)) tt)

pub returns : goal.returns
unfolding code
returns c = let o = c.args.offset in let k = c.args.range in
    let ro : o < 2 ^ 16 = c.ranges.offset.fits in
    let near = c.clamp-near.result in
    let ra = within near c.clamp-near.ensures.lower_bound c.clamp-near.ensures.upper_bound in
    let d : c.divisor.result ≡ pos (range_g k * 1000000) = c.divisor.ensures in
    let rd = reach_pos (range_g k * 1000000) 8000001 (omega (arith, (range_within k).1)) in
    let rq = reach_quot (range_g k * 1000000) (r4 o ro near ra) in
    let h = rw (back w64 ra tt, c.from.ensures, back w64 (reach_pos o 65536 ro) tt, back w64 (r1 o ro) tt, back w64 (r2 o ro) tt, back w64 (r3 o ro near ra) tt, back w64 (r4 o ro near ra) tt, d, back w64 rd tt, back w64 rq tt) at c.clamp.ensures.value in
    let n = rw (back w64 (of_fits c.ranges.acceleration) tt) at c.clamp-near.ensures.value in
    let e : near ≡ clamped (negsuc 999999999999) (pos 1000000000000) c.args.acceleration = n ∙ clamp_is _ _ _ (record { le = tt }) in
    let t = c.clamp.result in
    rw (to_z-of_z w64 t (record { sfits = c.clamp.type_inv }), back w16 (within_code t c.clamp.ensures.lower_bound c.clamp.ensures.upper_bound) tt)
    (h ∙ clamp_is (negsuc 511) (pos 511) _ (record { le = tt }) ∙ ap (λ (z : ℤ). code z o k) e ∙ code_near o ro k c.args.acceleration)
