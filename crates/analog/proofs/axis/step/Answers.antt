use Rattle.std.proofs.Common.{◌≡◌, ◌+◌, ◌*◌, ◌/◌, ◌^◌, ℤ, pos, ◌+ℤ◌, ◌-ℤ◌, ◌*ℤ◌, ap, ◌∙◌, arith, lit<, lit≤, w64}
use Rattle.std.proofs.lemmas.Int.{to_z-of_z}
use Rattle.analog.specs.declared.types.Axis.{Axis}
use Rattle.analog.specs.declared.types.Factors.{Factors}
use Rattle.analog.specs.Round.{round, low_64}
use Rattle.analog.specs.Decay.{unit}
use Rattle.analog.specs.Axis.{target, stepped}
use Rattle.analog.proofs.Held.{wide, Is, itself, plus, minus, times, fits, read, read_64, within, rounded, stored, aimed, part}
use Rattle.analog.proofs.axis.step.Goals as goal
use Rattle.analog.proofs.axis.step.Goals.{After-from-velocity}

-- the code's numbers: r and i for the factors, y for the target t, o and v for output and velocity
record Numbers (f : Factors) (a : Axis) (t r i y o v : ℤ) : Type 0 where
  re : Is (wide r) f.re (2 ^ 56)
  im : Is (wide i) f.im (2 ^ 56)
  aim : Is (wide y) t (2 ^ 55)
  output : Is (wide o) a.output (2 ^ 63)
  velocity : Is (wide v) a.velocity (2 ^ 63)

module _ {f : Factors} {a : Axis} {t r i y o v : ℤ} (s : Numbers f a t r i y o v) where
  distance : Is (wide (wide o -ℤ wide y)) (a.output -ℤ t) (2 ^ 63 + 2 ^ 55)
  distance = read (minus s.output s.aim) tt

  -- what is rounded for the output
  sum_1 : Is (wide (wide r +ℤ wide i) *ℤ wide (wide o -ℤ wide y)) ((f.re +ℤ f.im) *ℤ (a.output -ℤ t)) (2 ^ 57 * (2 ^ 63 + 2 ^ 55))
  sum_1 = times (read (plus s.re s.im) tt) distance

  sum : Is (wide (wide (wide r +ℤ wide i) *ℤ wide (wide o -ℤ wide y)) +ℤ wide (wide i *ℤ wide v))
      ((f.re +ℤ f.im) *ℤ (a.output -ℤ t) +ℤ f.im *ℤ a.velocity) (2 ^ 57 * (2 ^ 63 + 2 ^ 55) + 2 ^ 119)
  sum = plus (read sum_1 tt) (read (times s.im s.velocity) tt)

  -- what is rounded for the velocity
  rest_1 : Is (wide (wide r -ℤ wide i) *ℤ wide v) ((f.re -ℤ f.im) *ℤ a.velocity) (2 ^ 120)
  rest_1 = times (read (minus s.re s.im) tt) s.velocity

  two : Is (pos 2 *ℤ wide i) (pos 2 *ℤ f.im) (2 ^ 57)
  two = times (itself (pos 2) 2 (lit≤ tt)) s.im

  rest_2 : Is (wide (pos 2 *ℤ wide i) *ℤ wide (wide o -ℤ wide y)) (pos 2 *ℤ f.im *ℤ (a.output -ℤ t)) (2 ^ 57 * (2 ^ 63 + 2 ^ 55))
  rest_2 = times (read two tt) distance

  rest : Is (wide (wide (wide r -ℤ wide i) *ℤ wide v) -ℤ wide (wide (pos 2 *ℤ wide i) *ℤ wide (wide o -ℤ wide y)))
      ((f.re -ℤ f.im) *ℤ a.velocity -ℤ pos 2 *ℤ f.im *ℤ (a.output -ℤ t)) (2 ^ 120 + 2 ^ 57 * (2 ^ 63 + 2 ^ 55))
  rest = minus (read rest_1 tt) (read rest_2 tt)

  -- the output, of a rounded sum q
  landed : (q : ℤ) → q ≡ round (wide (wide (wide (wide r +ℤ wide i) *ℤ wide (wide o -ℤ wide y)) +ℤ wide (wide i *ℤ wide v))) unit
      → Is (wide y +ℤ wide q) (t +ℤ round ((f.re +ℤ f.im) *ℤ (a.output -ℤ t) +ℤ f.im *ℤ a.velocity) unit) (2 ^ 55 + (2 ^ 57 * (2 ^ 63 + 2 ^ 55) + 2 ^ 119 + unit / 2) / unit)
  landed q e = plus s.aim (read (rounded unit q e (lit< tt) (read sum tt)) tt)

-- the numbers, once the last of them is read
held : (c : After-from-velocity) → Numbers c.args.f c.args.a (target c.args.input) c.from-r.result c.from-i.result c.from-target.result c.from.result c.from-velocity.result
held c =
    let x = c.args in
    record {
      re = rw c.from-r.ensures (part x.f.re c.requires.0);
      im = rw c.from-i.ensures (part x.f.im c.requires.1);
      aim = rw c.from-target.ensures (read (read_64 (aimed x.input c.target_of.result c.ranges.input c.target_of.ensures) tt) tt);
      output = rw c.from.ensures (stored x.a.output (record { sfits = omega arith }));
      velocity = rw c.from-velocity.ensures (stored x.a.velocity (record { sfits = omega arith }));
    }

pub overflow_mul-r : goal.overflow_mul-r
overflow_mul-r c = fits (sum_1 (held c)) tt

pub overflow_add-r-2 : goal.overflow_add-r-2
overflow_add-r-2 c = fits (sum (held c)) tt

pub round-requires : goal.round-requires
round-requires c = (within (2 ^ 126) (read (sum (held c)) tt) tt, lit< tt)

pub overflow_add-target : goal.overflow_add-target
overflow_add-target c = fits (landed (held c.before) c.round.result c.round.ensures.0) tt

pub overflow_mul-r-2 : goal.overflow_mul-r-2
overflow_mul-r-2 c = fits (rest_1 (held c.before.before)) tt

pub overflow_mul-i-2 : goal.overflow_mul-i-2
overflow_mul-i-2 c = fits (two (held c.before.before)) tt

pub overflow_mul-i-3 : goal.overflow_mul-i-3
overflow_mul-i-3 c = fits (rest_2 (held c.before.before)) tt

pub overflow_sub-r-2 : goal.overflow_sub-r-2
overflow_sub-r-2 c = fits (rest (held c.before.before)) tt

pub round-requires-2 : goal.round-requires-2
round-requires-2 c = (within (2 ^ 126) (read (rest (held c.before.before)) tt) tt, lit< tt)

pub returns : goal.returns
unfolding stepped
returns c =
    let s = held c.before.before.before.before in
    let l = to_z-of_z w64 c.low_64.result (record { sfits = c.low_64.type_inv }) in
    let m = to_z-of_z w64 c.low_64-2.result (record { sfits = c.low_64-2.type_inv }) in
    let a = read (landed s c.round.result c.round.ensures.0) tt in
    let b = read (rounded unit c.round-2.result c.round-2.ensures.0 (lit< tt) (read (rest s) tt)) tt in
    let o = l ∙ c.low_64.ensures ∙ ap low_64 a.is in
    let v = m ∙ c.low_64-2.ensures ∙ ap low_64 b.is in
    λ i. record { at = c.args.now; output = o i; velocity = v i }
