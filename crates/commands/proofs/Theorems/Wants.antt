-- The first byte of a command says how long it is.
use Rattle.std.specs.Prelude.{◌≡◌, false, List, ℕ, ◌≤◌, ◌<◌, length, Result, Ok, Err}
use Rattle.std.proofs.Common.{lt-ltb}
use Rattle.commands.specs.declared.Opcode.{Opcode}
use Rattle.commands.specs.declared.UnknownByte.{UnknownByte}
use Rattle.commands.proofs.Theorems.Named.{Whole, bad_whole, named_whole}
use Rattle.commands.specs.Decode.{byte_at, opcode, named_by, decoded, size_by, wants, size, is_bad}

module _ (l : List ℕ) (some : 0 < length l) where
  named_by_whole : (r : Result Opcode UnknownByte) → Whole l (size_by r) (named_by r l)
  named_by_whole (Ok o) = named_whole o l
  named_by_whole (Err e) = bad_whole l 1

  -- a command that is not bad takes as many bytes as its first byte says, and they are there
  decoded_is_whole : Whole l (wants (byte_at 0 l)) (decoded l)
  unfolding decoded wants
  decoded_is_whole = rw (lt-ltb 0 (length l) some) (named_by_whole (opcode (byte_at 0 l)))

  pub size_wanted : is_bad (decoded l) ≡ false → size (decoded l) ≡ wants (byte_at 0 l)
  size_wanted e = (decoded_is_whole e).0

  pub whole_there : is_bad (decoded l) ≡ false → wants (byte_at 0 l) ≤ length l
  whole_there e = (decoded_is_whole e).1
