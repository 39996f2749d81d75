-- The commands that an input has, and their lines, whatever its bytes (01, "Bench program").
use Rattle.std.specs.Prelude.{Bool, List, [], ◌∷◌, ◌++◌, map, ℕ, zero, suc, ◌<◌, length, drop, get_or, if◌then◌else◌}
use Rattle.bma150.specs.declared.host.Bma150.{Bma150}
use Rattle.commands.specs.declared.Command.{Command}
use Rattle.commands.specs.Decode.{decoded, image, size, is_bad}
use Rattle.bench.specs.Line.{step, said}

-- a command as it stands in an input: its first byte, what it asks, and the bytes where a start has its image
pub record Given : Type 0 where
  pub byte : ℕ
  pub command : Command
  pub image : List ℕ

-- the first n commands: each begins where the one before it ends, and a bad one is the last
unfoldable pub first_commands : (n : ℕ) → List ℕ → List Given
first_commands zero l = []
first_commands (suc n) [] = []
first_commands (suc n) (b ∷ l) =
    record { byte = b; command = decoded (b ∷ l); image = image (b ∷ l) }
    ∷ (if is_bad (decoded (b ∷ l)) then [] else first_commands n (drop (size (decoded (b ∷ l))) (b ∷ l)))

-- all of them, since each has a byte at least
abbrev pub commands : List ℕ → List Given
commands l = first_commands (length l) l

-- their lines in order, each command done by the sensor that the one before it left
unfoldable pub lines : (trace : Bool) → Bma150 → List Given → List ℕ
lines trace s [] = []
lines trace s (g ∷ gs) = said trace g.byte s g.command g.image ++ lines trace (step s g.command g.image) gs

-- every number of the input is a byte
abbrev pub Bytes : List ℕ → Type 0
Bytes l = (i : ℕ) → get_or l i 0 < 256

-- what the commands of an input ask, in order
abbrev pub asked : List ℕ → List Command
asked l = map (λ (g : Given). g.command) (commands l)
