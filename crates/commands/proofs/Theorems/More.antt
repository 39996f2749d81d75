-- What follows a command does not alter it, and no command is longer than what is there.
use Rattle.std.specs.Prelude.{◌≡◌, refl, Bool, true, false, List, [], ◌∷◌, ◌++◌, ℕ, ◌+◌, ◌≤◌, ◌<◌, take, drop, Result, Ok, Err}
use Rattle.std.proofs.Common.{ap, ◌∙◌, arith, length-drop}
use borrow.Author.Tests.{lt-ltb, le-ltb}
use Rattle.std.proofs.Math.ListN.{length, length-append, get_or-append}
use Rattle.std.proofs.lemmas.List.{drop-append-le, take-append-le}
use Rattle.std.proofs.lemmas.Bool.{true≢false}
use Rattle.time.specs.declared.Time.{Time}
use Rattle.calls.specs.declared.types.Starting.{Starting}
use Rattle.commands.specs.declared.Command.{Command}
use Rattle.commands.specs.declared.Opcode.{Opcode}
use Rattle.commands.specs.declared.UnknownByte.{UnknownByte}
use Rattle.commands.proofs.Theorems.Named.{opcode_size_bounds}
use Rattle.commands.proofs.Theorems.Wants.{size_wanted, whole_there}
use Rattle.commands.specs.Decode.{part, big, number_at, moment_at, signed_at, byte_at, image, opcode, operands, named, named_by, decoded, opcode_size, size_by, wants, size, is_bad}

-- ---- what follows does not alter the command at the head

pub part_before : (a n : ℕ) (l m : List ℕ) → a + n ≤ length l → part a n (l ++ m) ≡ part a n l
part_before a n l m h =
    let p : a ≤ length l = omega arith in
    let q : n ≤ length (drop a l) = simp length-drop (omega arith) in
    ap (take n) (drop-append-le a l m p) ∙ take-append-le n (drop a l) m q

number_before : (a n : ℕ) (l m : List ℕ) → a + n ≤ length l → number_at a n (l ++ m) ≡ number_at a n l
unfolding number_at
number_before a n l m h = ap big (part_before a n l m h)

moment_before : (a : ℕ) (l m : List ℕ) → a + 12 ≤ length l → moment_at a (l ++ m) ≡ moment_at a l
unfolding moment_at
moment_before a l m h =
    let p : a + 4 ≤ length l = omega arith in
    let q : a + 4 + 8 ≤ length l = omega arith in
    rw (number_before a 4 l m p, number_before (a + 4) 8 l m q)

-- ---- how many bytes a first byte wants

-- a byte at least, and at most the 32 of the longest command
size_by_bounds : (r : Result Opcode UnknownByte) → (0 < size_by r) × (size_by r ≤ 32)
size_by_bounds (Ok o) = opcode_size_bounds o
size_by_bounds (Err e) = (omega arith, omega arith)

pub wants_some : (c : ℕ) → 0 < wants c
unfolding wants
wants_some c = (size_by_bounds (opcode c)).0

pub wants_few : (c : ℕ) → wants c ≤ 32
unfolding wants
wants_few c = (size_by_bounds (opcode c)).1

-- ---- a command whose bytes are there

module _ (l m : List ℕ) where
  t_same : 13 ≤ length l → moment_at 1 (l ++ m) ≡ moment_at 1 l
  t_same h = moment_before 1 l m (omega arith)

  z_same : (a : ℕ) → a + 4 ≤ length l → signed_at a (l ++ m) ≡ signed_at a l
  z_same a h = rw (number_before a 4 l m h)

  n_same : (a n : ℕ) → a + n ≤ length l → number_at a n (l ++ m) ≡ number_at a n l
  n_same a n h = number_before a n l m h

  b_same : (a : ℕ) → a < length l → byte_at a (l ++ m) ≡ byte_at a l
  b_same a h = get_or-append l m 0 a h

  operands_same : (o : Opcode) → opcode_size o ≤ length l → operands o (l ++ m) ≡ operands o l
  unfolding operands
  operands_same o p = grind (arith, t_same, z_same, n_same, b_same)

  -- with its bytes there, what follows is not looked at
  named_same : (o : Opcode) → opcode_size o ≤ length l → named o (l ++ m) ≡ named o l
  unfolding named
  named_same o p =
      let q : opcode_size o ≤ length (l ++ m) = simp length-append (omega arith) in
      rw (le-ltb (length (l ++ m)) (opcode_size o) q, le-ltb (length l) (opcode_size o) p) (operands_same o p)

  named_by_same : (r : Result Opcode UnknownByte) → size_by r ≤ length l → named_by r (l ++ m) ≡ named_by r l
  named_by_same (Ok o) p = named_same o p
  named_by_same (Err e) p = refl

  -- a command with all its bytes there stays the same, whatever follows
  pub decoded_whole : wants (byte_at 0 l) ≤ length l → decoded (l ++ m) ≡ decoded l
  unfolding decoded wants
  decoded_whole p =
      let h : 0 < length l = omega (arith, wants_some (byte_at 0 l)) in
      let q : 0 < length (l ++ m) = simp length-append (omega arith) in
      rw (lt-ltb 0 (length (l ++ m)) q, lt-ltb 0 (length l) h, b_same 0 h) (named_by_same (opcode (byte_at 0 l)) p)

  -- a command that is not bad stays the same, whatever follows
  pub decoded_good : 0 < length l → is_bad (decoded l) ≡ false → decoded (l ++ m) ≡ decoded l
  decoded_good h e = decoded_whole (whole_there l h e)

  pub image_more : 32 ≤ length l → image (l ++ m) ≡ image l
  image_more h = part_before 13 19 l m (omega arith)

-- ---- every command takes a byte at least

pub size_pos : (c : Command) → 1 ≤ size c
unfolding size
size_pos c = grind (arith, opcode_size_bounds)

-- ---- a command is no longer than what is there

bad_size : (c : Command) → is_bad c ≡ true → size c ≡ 1
unfolding is_bad size
bad_size c = grind arith

pub size_fits : (l : List ℕ) → 0 < length l → size (decoded l) ≤ length l
size_fits l some = go (is_bad (decoded l)) refl
  where
    go : (t : Bool) → is_bad (decoded l) ≡ t → size (decoded l) ≤ length l
    go true e = omega (arith, bad_size (decoded l) e)
    go false e = omega (arith, size_wanted l some e, whole_there l some e)

-- a start has its image
pub start_size : (by : Starting) (t : Time) → size (Command.Start by t) ≡ 32
unfolding size
start_size Starting.Checked t = refl
start_size Starting.Stored t = refl

bad_start : (by : Starting) (t : Time) → Command.Bad ≡ Command.Start by t → ⊥
unfolding is_bad
bad_start by t e = true≢false (ap is_bad e)

pub image_there : (l : List ℕ) (by : Starting) (t : Time) → decoded l ≡ Command.Start by t → 32 ≤ length l
unfolding decoded
image_there [] by t e = absurd (bad_start by t e)
image_there (b ∷ m) by t e =
    let p : size (decoded (b ∷ m)) ≤ length (b ∷ m) = size_fits (b ∷ m) (omega arith) in
    let q : size (decoded (b ∷ m)) ≡ 32 = ap size e ∙ start_size by t in
    omega arith

-- ---- an unknown byte is a bad command, whatever follows

pub unknown : (b : ℕ) (m : List ℕ) → 12 < b → decoded (b ∷ m) ≡ Command.Bad
unfolding decoded opcode
unknown b m h = grind arith
