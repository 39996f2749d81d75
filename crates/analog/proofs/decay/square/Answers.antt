use Rattle.std.proofs.Common.{◌≡◌, ◌^◌, ℤ, pos, ◌-ℤ◌, ◌*ℤ◌, le_of_lt, lit<, lit≤}
use Rattle.analog.specs.declared.types.Factors.{Factors}
use Rattle.analog.specs.Round.{round}
use Rattle.analog.specs.Decay.{unit, squared}
use Rattle.analog.specs.Theorems.Bounds.{Below}
use Rattle.analog.proofs.Held.{wide, word, Is, itself, minus, times, fits, read, read_64, fits_64, within, rounded, part}
use Rattle.analog.proofs.decay.square.Goals as goal

module _ (f : Factors) (p : Below f) where
  -- the two dividends
  difference : Is (wide (wide (word f.re) *ℤ wide (word f.re)) -ℤ wide (wide (word f.im) *ℤ wide (word f.im))) (f.re *ℤ f.re -ℤ f.im *ℤ f.im) (2 ^ 113)
  difference = let re = part f.re p.0 in let im = part f.im p.1 in minus (read (times re re) tt) (read (times im im) tt)

  two : Is (pos 2 *ℤ wide (word f.re)) (pos 2 *ℤ f.re) (2 ^ 57)
  two = times (itself (pos 2) 2 (lit≤ tt)) (part f.re p.0)

  twice : Is (wide (pos 2 *ℤ wide (word f.re)) *ℤ wide (word f.im)) (pos 2 *ℤ f.re *ℤ f.im) (2 ^ 113)
  twice = times (read two tt) (part f.im p.1)

  -- what `round` returns of them
  module _ (q : Below (squared f)) (r : ℤ) where
    first : r ≡ round (wide (wide (wide (word f.re) *ℤ wide (word f.re)) -ℤ wide (wide (word f.im) *ℤ wide (word f.im)))) unit → Is r (squared f).re (2 ^ 56)
    unfolding squared
    first e = let h = rounded unit r e (lit< tt) (read difference tt) in record { is = h.is; le = le_of_lt q.0 }

    second : r ≡ round (wide (wide (pos 2 *ℤ wide (word f.re)) *ℤ wide (word f.im))) unit → Is r (squared f).im (2 ^ 56)
    unfolding squared
    second e = let h = rounded unit r e (lit< tt) (read twice tt) in record { is = h.is; le = le_of_lt q.1 }

pub overflow_sub-re : goal.overflow_sub-re
overflow_sub-re c = rw (c.from-re.ensures, c.from-im.ensures) (fits (difference c.args.f c.requires.0) tt)

pub round-requires : goal.round-requires
round-requires c = rw (c.from-re.ensures, c.from-im.ensures) (within (2 ^ 126) (read (difference c.args.f c.requires.0) tt) tt, lit< tt)

pub overflow_cast-result : goal.overflow_cast-result
overflow_cast-result c = fits_64 (read (first c.args.f c.requires.0 c.requires.1 c.round.result (rw (c.from-re.ensures, c.from-im.ensures) at c.round.ensures.0)) tt) tt

pub overflow_mul-re-2 : goal.overflow_mul-re-2
overflow_mul-re-2 c = rw c.from-re.ensures (fits (two c.args.f c.requires.0) tt)

pub overflow_mul-re-3 : goal.overflow_mul-re-3
overflow_mul-re-3 c = rw (c.from-re.ensures, c.from-im.ensures) (fits (twice c.args.f c.requires.0) tt)

pub round-requires-2 : goal.round-requires-2
round-requires-2 c = rw (c.from-re.ensures, c.from-im.ensures) (within (2 ^ 126) (read (twice c.args.f c.requires.0) tt) tt, lit< tt)

pub overflow_cast-result-2 : goal.overflow_cast-result-2
overflow_cast-result-2 c = fits_64 (read (second c.args.f c.requires.0 c.requires.1 c.round-2.result (rw (c.from-re.ensures, c.from-im.ensures) at c.round-2.ensures.0)) tt) tt

pub returns : goal.returns
returns c =
    let f = c.args.f in let p = c.requires in
    let a = read_64 (read (first f p.0 p.1 c.round.result (rw (c.from-re.ensures, c.from-im.ensures) at c.round.ensures.0)) tt) tt in
    let b = read_64 (read (second f p.0 p.1 c.round-2.result (rw (c.from-re.ensures, c.from-im.ensures) at c.round-2.ensures.0)) tt) tt in
    λ i. record { re = a.is i; im = b.is i }
