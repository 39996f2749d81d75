-- The bench is a machine that can be run in pieces.
use Rattle.std.specs.Prelude.{◌≡◌, refl, Bool, List, ◌++◌, ℕ, ◌<◌, length, get_or}
use Rattle.std.proofs.Common.{ap, ◌∙◌, arith}
use Rattle.std.proofs.Math.ListN.{get_or-append}
use Rattle.machine.specs.Machine.{Lawful}
use Rattle.commands.specs.declared.Command.{Command}
use Rattle.commands.specs.Decode.{decoded, image}
use Rattle.commands.proofs.Theorems.More.{wants_some, decoded_whole, decoded_good, image_there, image_more, size_pos, size_fits}
use Rattle.bma150.specs.declared.host.Bma150.{Bma150}
use Rattle.bma150.specs.Called.{Called}
use Rattle.bench.specs.Line.{commanded}
use Rattle.bench.specs.Run.{took, bench}

-- of a start the image is there; no other command looks at it
seen : (s : Bma150) (l m : List ℕ) (c : Command) → decoded l ≡ c → commanded s c (image (l ++ m)) ≡ commanded s c (image l)
unfolding commanded
seen s l m (Command.Start by t) e = rw (image_more l m (image_there l by t e))
seen s l m (Command.Host c) e = refl
seen s l m Command.Bad e = refl

-- what follows a command that it does not alter is not looked at
pub known : (trace : Bool) (s : Bma150) (l m : List ℕ) → 0 < length l → decoded (l ++ m) ≡ decoded l → (bench trace).takes s (l ++ m) ≡ (bench trace).takes s l
known trace s l m h e =
    ap (λ (b : ℕ). took trace b (decoded (l ++ m)) (commanded s (decoded (l ++ m)) (image (l ++ m)))) (get_or-append l m 0 0 h)
    ∙ ap (λ (c : Command). took trace (get_or l 0 0) c (commanded s c (image (l ++ m)))) e
    ∙ ap (λ (k : Called). took trace (get_or l 0 0) (decoded l) k) (seen s l m (decoded l) refl)

pub lawful : (trace : Bool) → Lawful (bench trace)
lawful trace = record {
  wants_some = wants_some;
  takes_some = λ s l. size_pos (decoded l);
  takes_there = λ s l h. size_fits l h;
  whole_is_known = λ s l m h. known trace s l m (omega (arith, wants_some (get_or l 0 0))) (decoded_whole l m h);
  going_is_known = λ s l m h e. known trace s l m h (decoded_good l m h e);
}
