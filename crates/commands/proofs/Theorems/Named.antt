-- How long the commands are that the opcodes name.
use Rattle.std.specs.Prelude.{◌≡◌, refl, Bool, true, false, cond, List, ℕ, ◌≤◌, ◌<◌, ltb, length}
use Rattle.std.proofs.Common.{arith}
use borrow.Author.Tests.{ltb-false}
use Rattle.std.proofs.lemmas.Bool.{true≢false}
use Rattle.commands.specs.declared.Command.{Command}
use Rattle.commands.specs.declared.Opcode.{Opcode}
use Rattle.commands.specs.Decode.{operands, named, opcode_size, size, is_bad}

-- every opcode has a byte at least, and the longest command 32
pub opcode_size_bounds : (o : Opcode) → (0 < opcode_size o) × (opcode_size o ≤ 32)
opcode_size_bounds o = grind arith

-- unless it is bad, the command takes n bytes
abbrev pub Sized : ℕ → Command → Type 0
Sized n c = is_bad c ≡ false → size c ≡ n

pub operands_sized : (o : Opcode) (l : List ℕ) → Sized (opcode_size o) (operands o l)
unfolding operands size is_bad
operands_sized o l = grind arith

-- unless it is bad, its n bytes are there too
abbrev pub Whole : List ℕ → ℕ → Command → Type 0
Whole l n c = is_bad c ≡ false → (size c ≡ n) × (n ≤ length l)

pub bad_whole : (l : List ℕ) (n : ℕ) → Whole l n Command.Bad
unfolding is_bad
bad_whole l n e = absurd (true≢false e)

pub named_whole : (o : Opcode) (l : List ℕ) → Whole l (opcode_size o) (named o l)
unfolding named
named_whole o l = go (ltb (length l) (opcode_size o)) refl
  where
    go : (t : Bool) → ltb (length l) (opcode_size o) ≡ t → Whole l (opcode_size o) (cond t Command.Bad (operands o l))
    go true h = bad_whole l (opcode_size o)
    go false h = λ e. (operands_sized o l e, ltb-false (length l) (opcode_size o) h)
