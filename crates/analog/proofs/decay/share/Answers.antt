use Rattle.std.proofs.Common.{◌≡◌, ◌+◌, ◌*◌, ◌/◌, ◌^◌, ◌<◌, ◌≤◌, ℕ, ℤ, true, false, pos, ◌-ℤ◌, ◌*ℤ◌, nat_abs, sym, ap, ◌∙◌, le_trans, mul-le-mul, arith, w64, to_z}
use lib.Signed.{lt_z}
use Rattle.std.proofs.Math.Nat.{div-le_self}
use Rattle.std.proofs.lemmas.Int.{to_z-of_z}
use Rattle.analog.specs.Round.{round}
use Rattle.analog.specs.Decay.{unit}
use Rattle.analog.proofs.Held.{Is, natural_64, opposite, read_64, word}
use Rattle.analog.proofs.Words.{by_both, round_size, product_below, product_above}
use Rattle.analog.proofs.decay.share.Goals as goal

-- the size is small
size_le : (m angle n : ℕ) (z : 0 < n) → m ≤ 2 ^ 50 → angle ≤ 2 ^ 44 → n ≤ 12 → by_both (m * angle) n z ≤ 2 ^ 47
size_le m angle n z p q l =
    let h : m * angle ≤ 2 ^ 50 * 2 ^ 44 = mul-le-mul p q in
    let k : (m * angle + n * 2 ^ 47) / 2 ^ 48 ≤ 2 ^ 47 = omega arith in
    le_trans (div-le_self ((m * angle + n * 2 ^ 47) / 2 ^ 48) n) k

-- the size that the code works out from u, the size of x, and holds as y
held : (y : ℤ) (u s angle n : ℕ) (z : 0 < n) → y ≡ to_z w64 (by_both (u * angle) n z) → u ≡ s → s ≤ 2 ^ 50 → angle ≤ 2 ^ 44 → n ≤ 12 → Is (word y) (pos (by_both (s * angle) n z)) (2 ^ 47)
held y u s angle n z e m p q l =
    let k : Is (to_z w64 (by_both (u * angle) n z)) (pos (by_both (s * angle) n z)) (2 ^ 47) = rw m (natural_64 (by_both (s * angle) n z) (2 ^ 47) (size_le s angle n z p q l) tt) in
    read_64 (record { is = e ∙ k.is; le = k.le }) tt

-- what the code returns, of a size that it holds as y
module _ (x y : ℤ) (angle n : ℕ) (z : 0 < n) (h : Is y (pos (by_both (nat_abs x * angle) n z)) (2 ^ 47)) where
  below : lt_z x (pos 0) ≡ true → Is (pos 0 -ℤ y) (round (x *ℤ pos angle) (unit * n)) (2 ^ 47)
  below t =
      let o = opposite h in
      let e = ap (λ (y : ℤ). round y (unit * n)) (product_below x angle t) ∙ round_size (nat_abs x * angle) n z true in
      record { is = o.is ∙ sym e; le = rw e o.le }

  above : lt_z x (pos 0) ≡ false → Is y (round (x *ℤ pos angle) (unit * n)) (2 ^ 47)
  above t =
      let e = ap (λ (y : ℤ). round y (unit * n)) (product_above x angle t) ∙ round_size (nat_abs x * angle) n z false in
      record { is = h.is ∙ sym e; le = rw e h.le }

pub returns-then-x-lt0 : goal.returns-then-x-lt0
returns-then-x-lt0 c =
    let x = c.args in let p = c.requires in
    let e = to_z-of_z w64 x.x c.ranges.x in
    let m : c.unsigned_abs.result ≡ nat_abs x.x = rw e at c.unsigned_abs.ensures.value in
    let s : c.cast_signed-size.result ≡ to_z w64 (by_both (c.unsigned_abs.result * x.angle.size) x.n p.1) = rw (c.from.ensures, c.from-2.ensures, c.from-3.ensures) at c.cast_signed-size.ensures in
    let h = held c.cast_signed-size.result c.unsigned_abs.result (nat_abs x.x) x.angle.size x.n p.1 s m p.0 x.angle.small p.2 in
    let r = read_64 (below x.x (word c.cast_signed-size.result) x.angle.size x.n p.1 h (rw e at c.if-x-lt0.true)) tt in
    (r.is, rw r.is r.le)

pub returns-else-x-lt0 : goal.returns-else-x-lt0
returns-else-x-lt0 c =
    let x = c.args in let p = c.requires in
    let e = to_z-of_z w64 x.x c.ranges.x in
    let m : c.unsigned_abs.result ≡ nat_abs x.x = rw e at c.unsigned_abs.ensures.value in
    let s : c.cast_signed-size.result ≡ to_z w64 (by_both (c.unsigned_abs.result * x.angle.size) x.n p.1) = rw (c.from.ensures, c.from-2.ensures, c.from-3.ensures) at c.cast_signed-size.ensures in
    let h = held c.cast_signed-size.result c.unsigned_abs.result (nat_abs x.x) x.angle.size x.n p.1 s m p.0 x.angle.small p.2 in
    let r = above x.x (word c.cast_signed-size.result) x.angle.size x.n p.1 h (rw e at c.if-x-lt0.false) in
    (r.is, rw r.is r.le)
