-- Bytes in and bytes out of a list of calls: its commands, and the lines of its answers (01, "Bench program").
use Rattle.std.specs.Prelude.{◌≡◌, Bool, List, [], ◌∷◌, ◌++◌, ℕ, length, get_or}
use Rattle.laws.specs.Notation.{ascii}
use Rattle.time.specs.declared.Time.{Time}
use Rattle.calls.specs.declared.types.Call.{Call}
use Rattle.bma150.specs.declared.host.Bma150.{Bma150}
use Rattle.bma150.specs.Called.{next_due}
use Rattle.commands.specs.Encode.{start_byte, bytes, time_bytes, call_bytes, TimeFits, CallFits}
use Rattle.book.specs.Lists.{Answer, Start, started}
use Rattle.bench.specs.Text.{space, line_feed, due_text}
use Rattle.bench.specs.Line.{pins, silent, line}
use Rattle.printed.specs.Lines.{text_of}

-- ---- bytes in

-- the commands of the calls, one after the other
unfoldable pub inputs : List Call → List ℕ
inputs [] = []
inputs (c ∷ cs) = call_bytes c ++ inputs cs

-- the operands of every call fit the fields of its command
unfoldable pub AllFit : List Call → Type 0
AllFit [] = Unit {0}
AllFit (c ∷ cs) = CallFits c × AllFit cs

-- 01 or 0c start T, 19 bytes
abbrev pub start_bytes : Start → List ℕ
start_bytes b = start_byte b.by ∷ (time_bytes b.time ++ b.image)

-- T fits its fields, and the image has 19 bytes
abbrev pub StartFits : Start → Type 0
StartFits b = TimeFits b.time × (length b.image ≡ 19)

-- 04 supply T, 2 bytes
abbrev pub supply_bytes : (now : Time) (rail : ℕ) → List ℕ
supply_bytes now rail = 0x04 ∷ (time_bytes now ++ bytes 2 rail)

-- 0a stored image T
abbrev pub image_bytes : (now : Time) → List ℕ
image_bytes now = 0x0a ∷ time_bytes now

-- ---- bytes out

-- the line of each answer, in the order of the calls; a line's command is the first byte of its call's bytes
unfoldable pub texts : (trace : Bool) → List Call → List Answer → List ℕ
texts trace [] out = []
texts trace (c ∷ cs) [] = []
texts trace (c ∷ cs) (a ∷ out) = text_of trace (get_or (call_bytes c) 0 0) a ++ texts trace cs out

-- the line of an accepted start: its sensor's pins, and nothing added
abbrev pub start_line : (trace : Bool) → Start → List ℕ
start_line trace b = line trace (start_byte b.by) (silent (started b) 0)

-- the line of an accepted 0a that leaves this sensor and shows these digits
abbrev pub image_line : (trace : Bool) → Bma150 → (digits : List ℕ) → List ℕ
image_line trace s digits = ascii "0a ok" ++ pins s ++ (space ∷ digits) ++ due_text trace (next_due s) ++ (line_feed ∷ [])
