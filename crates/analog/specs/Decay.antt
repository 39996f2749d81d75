-- `decay` of analog.rs: exp((−1 + i) · k · dt) with 48 bits after the point, in integers. k is √2 · π · 1500 per second.
use Rattle.std.specs.Prelude.{ℕ, zero, suc, ◌+◌, ◌*◌, ◌/◌, ◌^◌, ◌&&◌, pos, ◌+ℤ◌, ◌-ℤ◌, ◌*ℤ◌, neg_ℤ, nat_le, nat_lt, if◌then◌else◌}
use Rattle.analog.specs.declared.types.Factors.{Factors}
use Rattle.analog.specs.declared.types.Series.{Series}
use Rattle.analog.specs.Round.{round, low_64}

-- `Q`: one
abbrev pub unit : ℕ
unit = 2 ^ 48

-- `K`: k with 32 bits after the point
abbrev pub rate : ℕ
rate = 28623055379020

-- 8 ms in units of 2^-64 s: a step at least so long leaves nothing of what was
abbrev pub settling : ℕ
settling = 8 * 2 ^ 64 / 1000

-- `PERIOD`: the shorter of the two lengths from one sample of an axis to its next
abbrev pub period : ℕ
period = 2 ^ 64 / 3000

-- the series before its first term: a sum of 1, and a term of 1
abbrev pub first : Series
first = record { sum = record { re = pos unit; im = pos 0 }; last = record { re = pos unit; im = pos 0 } }

-- term n: the term before times (−1 + i) · angle / n, added to the sum
unfoldable pub term : (angle n : ℕ) → Series → Series
term angle n s =
    let re = round ((neg_ℤ s.last.re -ℤ s.last.im) *ℤ pos angle) (unit * n) in
    let im = round ((s.last.re -ℤ s.last.im) *ℤ pos angle) (unit * n) in
    record { sum = record { re = s.sum.re +ℤ re; im = s.sum.im +ℤ im }; last = record { re = re; im = im } }

-- the first n terms
unfoldable pub terms : (angle n : ℕ) → Series
terms angle zero = first
terms angle (suc n) = term angle (suc n) (terms angle n)

-- the sum of the twelve terms that the Rust takes
abbrev pub series : (angle : ℕ) → Factors
series angle = (terms angle 12).sum

-- the square of a complex number
unfoldable pub squared : Factors → Factors
squared f = record { re = round (f.re *ℤ f.re -ℤ f.im *ℤ f.im) unit; im = round (pos 2 *ℤ f.re *ℤ f.im) unit }

-- an angle above a sixteenth is halved, and the result squared; at most this many times
unfoldable pub reduced : (most angle : ℕ) → Factors
reduced zero angle = series angle
reduced (suc most) angle = if nat_lt (unit / 16) angle then squared (reduced most (angle / 2)) else series angle

-- no angle of a length below 8 ms is halved more than ten times (`halved_enough`)
abbrev pub most_halvings : ℕ
most_halvings = 10

-- nothing remains
abbrev pub nothing : Factors
nothing = record { re = pos 0; im = pos 0 }

-- `decay` of a length of dt units
unfoldable pub decay : (dt : ℕ) → Factors
decay dt =
    if nat_le settling dt then nothing
    else
    let f = reduced most_halvings (dt * rate / unit) in
    record { re = low_64 f.re; im = low_64 f.im }

-- `COMMON` is for the two lengths between samples; others are computed
unfoldable pub factors : (dt : ℕ) → Factors
factors dt = if nat_le period dt && nat_le dt (period + 1) then decay period else decay dt
