-- The two numbers of `COMMON` are the factors of the shorter length between samples.
use Rattle.std.specs.Prelude.{◌≡◌, pos, negsuc, refl}
use Rattle.analog.specs.declared.types.Factors.{Factors}
use Rattle.analog.specs.Round.{round, bits_64, signed_64}
use Rattle.analog.specs.Decay.{period, term, terms, squared, reduced, decay}

-- the two numbers of `COMMON`
abbrev pub common_pair : Factors
common_pair = record { re = negsuc 18490024998951; im = pos 24289896676780 }

-- they are the factors of the shorter length
pub common : decay period ≡ record { re = negsuc 18490024998951; im = pos 24289896676780 }
unfolding round bits_64 signed_64 term terms squared reduced decay
common = refl
