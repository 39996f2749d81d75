-- A machine that reads bytes and writes text, a command at a time, and its run over a whole input.
use Rattle.std.specs.Prelude.{◌≡◌, Bool, false, List, [], ◌++◌, ℕ, ◌≤◌, ◌<◌, ltb, length, drop, get_or, if◌then◌else◌}
use Rattle.laws.specs.Iterate.{iterate}

-- what a command does: the state that it leaves, the bytes that it takes, the text that it writes, and whether the machine stops at it
pub record Took (S : Type 0) : Type 0 where
  pub state : S
  pub size : ℕ
  pub said : List ℕ
  pub stop : Bool

-- how many bytes a command has that begins with this byte; what the command at the head of the bytes does; and the last place in the buffer for text at which the text of a command surely fits
pub record Machine (S : Type 0) : Type 0 where
  pub wants : ℕ → ℕ
  pub takes : S → (bytes : List ℕ) → Took S
  pub room : ℕ

-- between two commands: the state, the input that is left, the text so far, and whether it has stopped
pub record Running (S : Type 0) : Type 0 where
  pub state : S
  pub left : List ℕ
  pub text : List ℕ
  pub stop : Bool

abbrev pub running : {S : Type 0} → S → (left text : List ℕ) (stop : Bool) → Running S
running s left text stop = record { state = s; left = left; text = text; stop = stop }

-- a command is done that does this
abbrev pub after : {S : Type 0} → (left text : List ℕ) → Took S → Running S
after left text k = running k.state (drop k.size left) (text ++ k.said) k.stop

-- a turn: nothing where the machine has stopped or no input is left, else the next command
unfoldable pub turn : {S : Type 0} → Machine S → Running S → Running S
turn m b = if b.stop then b else if ltb 0 (length b.left) then after b.left b.text (m.takes b.state b.left) else b

-- the whole run: a turn for each byte is enough, since each takes one at least
unfoldable pub whole : {S : Type 0} → Machine S → S → (l : List ℕ) → Running S
whole m s l = iterate (length l) (turn m) (running s l [] false)

-- what makes it one that can be run in pieces: a command has a byte at least, takes one at least and no more than is there; with all its bytes there, or if it does not stop the machine, what follows does not alter it
pub record Lawful {S : Type 0} (m : Machine S) : Type 0 where
  pub wants_some : (b : ℕ) → 0 < m.wants b
  pub takes_some : (s : S) (l : List ℕ) → 0 < (m.takes s l).size
  pub takes_there : (s : S) (l : List ℕ) → 0 < length l → (m.takes s l).size ≤ length l
  pub whole_is_known : (s : S) (l k : List ℕ) → m.wants (get_or l 0 0) ≤ length l → m.takes s (l ++ k) ≡ m.takes s l
  pub going_is_known : (s : S) (l k : List ℕ) → 0 < length l → (m.takes s l).stop ≡ false → m.takes s (l ++ k) ≡ m.takes s l
