-- What the loop of `run` does, command by command.
use Rattle.std.specs.Prelude.{◌≡◌, refl, Bool, true, false, List, ◌++◌, ℕ, ◌-◌, ◌≤◌, ◌<◌, length, drop, get_or}
use Rattle.std.proofs.Common.{ap, subst, ◌∙◌, arith, leb-true, leb-false, le-leb}
use Rattle.machine.specs.Machine.{Running, running}
use Rattle.machine.specs.Block as M
use Rattle.machine.proofs.Theorems.Blocks as T
use Rattle.machine.proofs.Theorems.Blocks.{Upto}
use Rattle.commands.specs.declared.Command.{Command}
use Rattle.commands.specs.Decode.{decoded, image, size, is_bad}
use Rattle.commands.proofs.Theorems.More.{size_pos, size_fits}
use Rattle.bma150.specs.declared.host.Bma150.{Bma150}
use Rattle.bma150.specs.Called.{Called}
use Rattle.bench.specs.Line.{commanded, line, Answer, left}
use Rattle.bench.specs.Run.{took, room, bench}
use Rattle.bench.specs.Block.{is_whole, block, answer}
use Rattle.bench.specs.Theorems.Lawful.{lawful}

-- ---- a whole command is one that the block takes

pub enough : (trace over : Bool) (l : List ℕ) → is_whole over l ≡ true → M.needed_bytes (bench trace) over l ≤ length l
unfolding is_whole M.needed_bytes
enough trace over l e = leb-true _ (length l) e

pub short : (trace over : Bool) (l : List ℕ) → is_whole over l ≡ false → length l < M.needed_bytes (bench trace) over l
unfolding is_whole M.needed_bytes
short trace over l e = leb-false _ (length l) e

pub some : (over : Bool) (l : List ℕ) → is_whole over l ≡ true → 0 < length l
some over l e = omega (arith, enough false over l e, T.least_some (lawful false) over l)

-- once the input is over any byte is one
pub any_whole : (l : List ℕ) → 0 < length l → is_whole true l ≡ true
unfolding is_whole
any_whole l h = le-leb 1 (length l) h

-- no byte is none
pub none_left : (over : Bool) (l : List ℕ) → length l < 1 → is_whole over l ≡ false
none_left over l h = by_test (is_whole over l) refl
  where
    by_test : (t : Bool) → is_whole over l ≡ t → is_whole over l ≡ false
    by_test true e = let z : ⊥ = omega (arith, h, some over l e) in absurd z
    by_test false e = e

-- it takes a byte at least, and no more than what is there
pub advance : (over : Bool) (l : List ℕ) {k : ℕ} {c : Command} → is_whole over l ≡ true → c ≡ decoded l → k ≡ size c → (k ≤ length l) × (1 ≤ k)
advance over l {k} {c} h ec ek =
    let j : size c ≤ length l = rw ec (size_fits l (some over l h)) in
    (omega (arith, ek, j), omega (arith, ek, size_pos c))

-- ---- a command is served and its line written

took_is : (trace : Bool) (n : Bma150) (l : List ℕ) (c : Command) (k : Called) → c ≡ decoded l → k ≡ commanded n c (image l)
    → took trace (get_or l 0 0) c k ≡ (bench trace).takes n l
took_is trace n l c k ec ek =
    ap (took trace (get_or l 0 0) c) ek ∙ ap (λ (x : Command). took trace (get_or l 0 0) x (commanded n x (image l))) ec

module _ (trace : Bool) {over : Bool} {s : Bma150} {input : List ℕ} {n : Bma150} {l text : List ℕ} where
  pub went : {c : Command} (t : Bma150) (a : Answer) {k : ℕ} {z : Bool} → Upto (bench trace) over s input n l text false → is_whole over l ≡ true → length text ≤ room
      → c ≡ decoded l → left t a ≡ commanded n c (image l) → k ≡ size c → z ≡ is_bad c
      → Upto (bench trace) over s input t (drop k l) (text ++ line trace (get_or l 0 0) (left t a)) z
  went {c} t a {k} {z} b h fits ec er ek ez =
      rw (ek, ez) (T.went (lawful trace) (took trace (get_or l 0 0) c (left t a)) b (enough trace over l h) fits (took_is trace n l c (left t a) ec er))

  -- it has not stopped
  pub going : {z : Bool} → z ≡ false → Upto (bench trace) over s input n l text z → Upto (bench trace) over s input n l text false
  going h b = subst (λ (z : Bool). Upto (bench trace) over s input n l text z) h b

  -- the loop is left: the block is done
  pub finished : {z : Bool} (b : Upto (bench trace) over s input n l text z) → M.bounded_turn (bench trace) over (running n l text z) ≡ running n l text z
      → (record { sensor = n; read = length input - length l; stop = z } ≡ answer (length input) (block trace over s input))
      × (text ≡ (block trace over s input).text)
      × ((block trace over s input).left ≡ drop (length input - length l) input)
  finished {z} b r =
      let is = T.block_is (lawful trace) b r in
      (rw is, rw is, ap (λ (x : Running Bma150). x.left) is ∙ (T.left_is b).1)
