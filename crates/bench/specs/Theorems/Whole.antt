-- After refusal 7 nothing more is written.
use Rattle.std.specs.Prelude.{◌≡◌, Bool, true, false, List, [], ◌∷◌, ◌++◌, ℕ, ◌<◌, length, get_or}
use Rattle.std.proofs.Common.{sym, ap, ◌∙◌, arith}
use Rattle.machine.proofs.Theorems.Whole.{after_stop}
use Rattle.commands.specs.declared.Command.{Command}
use Rattle.commands.specs.Decode.{decoded, image, is_bad}
use Rattle.commands.proofs.Theorems.More.{unknown}
use Rattle.bma150.specs.declared.host.Bma150.{Bma150}
use Rattle.bench.specs.Line.{said}
use Rattle.bench.specs.Run.{whole}
use Rattle.bench.specs.Theorems.Lawful.{known, lawful}

bad_stops : (c : Command) → c ≡ Command.Bad → is_bad c ≡ true
unfolding is_bad
bad_stops c e = rw e

-- the commands of l are done, and p is a bad command, alone and with m after it: what follows p alters nothing
pub after_refusal : (trace : Bool) (s : Bma150) (l p m : List ℕ) → (whole trace s l).stop ≡ false → (whole trace s l).left ≡ []
    → 0 < length p → decoded p ≡ Command.Bad → decoded (p ++ m) ≡ Command.Bad
    → (whole trace s (l ++ (p ++ m))).text ≡ (whole trace s l).text ++ said trace (get_or p 0 0) (whole trace s l).state Command.Bad (image p)
after_refusal trace s l p m run none some bad bad_more =
    let n : Bma150 = (whole trace s l).state in
    after_stop (lawful trace) s l p m run none some (bad_stops (decoded p) bad) (known trace n p m some (bad_more ∙ sym bad))
    ∙ ap (λ (c : Command). (whole trace s l).text ++ said trace (get_or p 0 0) n c (image p)) bad

-- so an unknown byte ends the text, whatever follows
pub after_unknown : (trace : Bool) (s : Bma150) (l m : List ℕ) (b : ℕ) → (whole trace s l).stop ≡ false → (whole trace s l).left ≡ [] → 12 < b
    → (whole trace s (l ++ (b ∷ m))).text ≡ (whole trace s l).text ++ said trace b (whole trace s l).state Command.Bad (image (b ∷ []))
after_unknown trace s l m b run none h = after_refusal trace s l (b ∷ []) m run none (omega arith) (unknown b [] h) (unknown b m h)
