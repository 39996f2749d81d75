-- How large the factors of a step may be: far below 64 bits.
use Rattle.std.specs.Prelude.{◌^◌, ◌<◌, unsigned_abs}
use Rattle.analog.specs.declared.types.Factors.{Factors}

-- both parts are below 2^56
abbrev pub Below : Factors → Type 0
Below f = (unsigned_abs f.re < 2 ^ 56) × (unsigned_abs f.im < 2 ^ 56)
