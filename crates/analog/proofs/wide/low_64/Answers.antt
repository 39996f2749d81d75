use Rattle.std.proofs.Common.{◌≡◌, ap, ◌∙◌, w64, of_z}
use Rattle.std.proofs.lemmas.Int.{to_z-of_z}
use mir.Syntax.{w128}
use Rattle.analog.specs.Round.{signed_64}
use Rattle.analog.proofs.Words.{low_bits}
use Rattle.analog.proofs.wide.low_64.Goals as goal

pub returns : goal.returns
returns c =
    let z = c.args.z in
    let e : c.cast_unsigned.result ≡ of_z w128 z = c.cast_unsigned.ensures ∙ ap (of_z w128) (to_z-of_z w128 z c.ranges.z) in
    to_z-of_z w64 c.from_bits.result (record { sfits = c.from_bits.type_inv }) ∙ c.from_bits.ensures ∙ ap signed_64 (low_bits z c.cast_unsigned.result c.ranges.z e)
