-- What the bench program's loop does: turns, each of which reads, or serves a block and hands its text to `write`.
use Rattle.std.specs.Prelude.{◌≡◌, Bool, true, false, not, ◌&&◌, ◌||◌, ◌⊎◌, List, [], ◌++◌, ℕ, ◌+◌, ◌-◌, ◌^◌, ◌≤◌, ltb, eqb, length, drop, Option, None, Some, is_none, if◌then◌else◌}
use Rattle.std.specs.Io.KnownBytes.{Appends, Consumes, IsAtEnd}
use Rattle.sensor.specs.Image.{stock}
use Rattle.calls.specs.declared.types.Starting.TheVariants as Starting
use Rattle.bma150.specs.declared.host.Bma150.{Bma150}
use Rattle.bma150.specs.Called.{after_start}
use Rattle.bench.specs.declared.Ran.{Ran}
use Rattle.bench.specs.Block.{is_whole, block, answer}
use Rattle.bench_stream.specs.declared.Failed.{Failed}
use Rattle.bench_stream.specs.declared.Turn.{Turn}

-- 01: it begins with the stock image at time 0
abbrev pub beginning : Bma150
beginning = after_start Starting.Checked (record { 0 = 0; 1 = 0 }) stock

-- with no byte kept
abbrev pub first : Turn
first = record { over = false; stop = false; failed = None; left = 0; written = 0; sensor = beginning }

-- something is left to do: not stopped, no read and no write has failed, and more may come or bytes are kept
unfoldable pub goes_on : Turn → (kept : List ℕ) → Bool
goes_on t kept = not t.stop && is_none t.failed && (not t.over || ltb 0 (length kept))

-- a block is due: a whole command is kept, or no more comes
abbrev pub Enough : Turn → (kept : List ℕ) → Type 0
Enough t kept = (t.over ≡ true) ⊎ (is_whole false kept ≡ true)

-- after a read of `got` bytes behind the k that were kept; none are the input's end
abbrev pub arrived : (k got : ℕ) → Bma150 → Turn
arrived k got s = record { over = eqb got 0; stop = false; failed = None; left = k + got; written = 0; sensor = s }

-- after a read that failed, with k bytes kept: that is not the input's end
abbrev pub cut_off : (k : ℕ) → Bma150 → Turn
cut_off k s = record { over = false; stop = false; failed = Some Failed.Read; left = k; written = 0; sensor = s }

-- after a block on k bytes, whose text of so many bytes was handed to `write`, which took it or not
abbrev pub served_by : Turn → Ran → (taken : Bool) → (k written : ℕ) → Turn
served_by t r taken k written = record { over = t.over; stop = r.stop; failed = if taken then None else Some Failed.Write; left = k - r.read; written = written; sensor = r.sensor }

-- the bytes that a block leaves of those kept
abbrev pub left_by : Ran → (kept : List ℕ) → List ℕ
left_by r k = drop r.read k

-- a turn, from t with the bytes k kept to another with the bytes l: it brings a piece of input, only where no whole command is kept and the input is not over, or it writes the text of a block, only where one is kept or the input is over
pub data Did (trace : Bool) (t : Turn) (k : List ℕ) : Turn → (l piece text : List ℕ) → Type 0 where
  read : (piece : List ℕ) → t.over ≡ false → is_whole false k ≡ false → Did trace t k (arrived (length k) (length piece) t.sensor) (k ++ piece) piece []
  failed : t.over ≡ false → is_whole false k ≡ false → Did trace t k (cut_off (length k) t.sensor) k [] []
  served : (r : Ran) (taken : Bool) → Enough t k → r.read ≤ length k → r ≡ answer (length k) (block trace t.over t.sensor k)
      → (block trace t.over t.sensor k).left ≡ drop r.read k → Did trace t k (served_by t r taken (length k) (length (block trace t.over t.sensor k).text)) (left_by r k) [] (block trace t.over t.sensor k).text

-- the output grew by this text, if no write failed; what a write that failed left there is not known
abbrev pub Wrote : Option Failed → (old new : Option (List ℕ)) → (text : List ℕ) → Type 0
Wrote None old new text = Appends old new text
Wrote (Some Failed.Read) old new text = Appends old new text
Wrote (Some Failed.Write) old new text = Unit {0}

-- a turn's piece is what the input lost, from a to b, and nothing is left where it is over with this turn; its text is what the output got, from v to w, and, where there is any, what stands in the buffer o for text
pub record Stepped (trace : Bool) (t : Turn) (k : List ℕ) (u : Turn) (l o : List ℕ) (a b v w : Option (List ℕ)) : Type 0 where
  pub piece : List ℕ
  pub text : List ℕ
  pub did : Did trace t k u l piece text
  pub shown : (text ≡ []) ⊎ (o ≡ text)
  pub took : Consumes a b piece
  pub all : u.over ≡ true → (t.over ≡ true → IsAtEnd a) → IsAtEnd b
  pub wrote : Wrote u.failed v w text

-- n turns from the first on, each where something was left to do: they read l, handed w to `write`, and led to t with these bytes kept
pub data Turns (trace : Bool) : ℕ → (l w : List ℕ) → Turn → (kept : List ℕ) → Type 0 where
  none : Turns trace 0 [] [] first []
  more : {n : ℕ} {l w : List ℕ} {t u : Turn} {k m piece text : List ℕ} → Turns trace n l w t k → goes_on t k ≡ true → Did trace t k u m piece text → Turns trace (n + 1) (l ++ piece) (w ++ text) u m

-- the loop ended where nothing was left to do, or after 2^64 - 1 turns
pub record Ended (trace : Bool) (t : Turn) : Type 0 where
  pub count : ℕ
  pub read : List ℕ
  pub handed : List ℕ
  pub kept : List ℕ
  pub turns : Turns trace count read handed t kept
  pub end : (goes_on t kept ≡ false) ⊎ (count ≡ 2 ^ 64 - 1)

-- and what it read is what the input lost, all of it where the input is over; what it handed to `write` is what the output got
pub record Streamed (trace : Bool) (t : Turn) (a b v w : Option (List ℕ)) : Type 0 where
  pub ended : Ended trace t
  pub took : Consumes a b ended.read
  pub all : t.over ≡ true → IsAtEnd b
  pub wrote : Wrote t.failed v w ended.handed
