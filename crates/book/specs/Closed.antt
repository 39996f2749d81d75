-- The closed form of the write book's cells: each holds the starting byte if no write to it began, else what the latest one left: the wanted byte if it completed, or the cut rule's.
use Rattle.std.specs.Prelude.{ℕ, zero, suc, ◌+◌, ◌-◌, Bool, true, false, ◌&&◌, List, [], ◌∷◌, map, leb, ltb, eqb, if◌then◌else◌, Option, Some, None}
use Rattle.laws.specs.Notation.{Byte, Address, Image}
use Rattle.time.specs.declared.Time.{Time}
use Rattle.time.specs.Time.{ticks}
use Rattle.nv.specs.Cell.{write_length, cell_number, byte}
use Rattle.calls.specs.declared.types.Call.{Call}
use Rattle.sensor.specs.declared.types.Sensor.{Sensor}
use Rattle.sensor.specs.Image.{cell_byte}
use Rattle.bma150.specs.declared.host.Bma150.{Bma150}
use Rattle.book.specs.Does.{Asked, Does, does}
use Rattle.book.specs.Lists.{Start, accepts, step}
use Rattle.book.specs.Book.{Running, Book, opened, filled, runs, accepted_write, entered}

-- ---- the accepted timed calls of a run

-- such a call: its time, the supply voltage that it brings, and the register write that it makes
pub record Entry : Type 0 where
  pub time : Time
  pub rail : Option ℕ
  pub asked : Asked

-- an untimed call is left out
unfoldable pub with_entry : Option Time → Does → Sensor → List Entry → List Entry
with_entry None d s later = later
with_entry (Some now) d s later = record { time = now; rail = d.rail; asked = d.asks s } ∷ later

-- a refused one is left out; the definitions are asked as the book asks them
unfoldable pub entries : Book → List Call → List Entry
entries k [] = []
entries k (c ∷ cs) =
    if accepts (filled k) c then with_entry (does c).time (does c) (filled k).sensor (entries (entered k c) cs)
    else entries (entered k c) cs

-- the same over the definitions' own sensors, with no book (`writes_are` says that they make the same writes)
unfoldable pub seen : Bma150 → List Call → List Entry
seen s [] = []
seen s (c ∷ cs) =
    if accepts s c then with_entry (does c).time (does c) s.sensor (seen (step s c) cs)
    else seen (step s c) cs

-- ---- the stored writes that begin, told from those calls alone

-- how a write stands: it runs, it completed, or it was cut so long after it began
pub data Fate : Type 0 where
  running : Fate
  completed : Fate
  cut : (elapsed : ℕ) → Fate

-- it is not over
unfoldable pub is_running : Fate → Bool
is_running Fate.running = true
is_running Fate.completed = false
is_running (Fate.cut elapsed) = false

-- a stored write that began
pub record Wrote : Type 0 where
  pub address : Address
  pub wanted : Byte
  pub began : Time
  pub fate : Fate

-- the write with this fate
abbrev pub with_fate : Wrote → Fate → Wrote
with_fate w fate = record w { fate = fate }

-- a running write, as the book has it
abbrev pub as_running : Wrote → Running
as_running w = record { address = w.address; wanted = w.wanted; began = w.began }

-- the write that runs, if one does
unfoldable pub that_runs : List Wrote → Option Running
that_runs [] = None
that_runs (w ∷ earlier) = if is_running w.fate then Some (as_running w) else that_runs earlier

-- a running write that is over has this fate; any other write stays as it is
unfoldable pub ended : Fate → (over : Bool) → Wrote → Wrote
ended fate over w = if is_running w.fate && over then with_fate w fate else w

-- an accepted timed call at t + D or later: it has completed
abbrev pub completed_at : (now : Time) → Wrote → Wrote
completed_at now w = ended Fate.completed (leb (ticks w.began + write_length) (ticks now)) w

-- a supply call below 2400 mV
unfoldable pub is_low : Option ℕ → Bool
is_low None = false
is_low (Some rail) = ltb rail 2400

-- it cuts a running write, e = the call's time less t
abbrev pub cut_at : Option ℕ → (now : Time) → Wrote → Wrote
cut_at rail now w = ended (Fate.cut (ticks now - ticks w.began)) (is_low rail) w

-- a write begins, t being the call's time: the latest is put first
unfoldable pub with_write : Option (ℕ × ℕ) → (now : Time) → List Wrote → List Wrote
with_write None now l = l
with_write (Some (address, value)) now l = record { address = address; wanted = value; began = now; fate = Fate.running } ∷ l

-- a pin call from which the definitions accept a stored write begins it; never while one runs
unfoldable pub begun : Asked → (now : Time) → List Wrote → List Wrote
begun a now l = if accepted_write a.write a.meets (runs (that_runs l)) then with_write a.write now l else l

-- an accepted timed call first completes; then, by kind, it cuts or begins
abbrev pub after_entry : List Wrote → Entry → List Wrote
after_entry l e = begun e.asked e.time (map (cut_at e.rail e.time) (map (completed_at e.time) l))

-- the writes after these calls, l being those before
unfoldable pub written : List Wrote → List Entry → List Wrote
written l [] = l
written l (e ∷ es) = written (after_entry l e) es

-- the stored writes that began in a run, the latest first; at first none
abbrev pub writes : Start → List Call → List Wrote
writes b cs = written [] (entries (opened b) cs)

-- ---- what a cell holds

-- what a write leaves of the byte before it: the wanted one if it completed, the cut rule's if it was cut; while it runs the byte stays
unfoldable pub left_by : Fate → (old wanted : Byte) (address : Address) → Byte
left_by Fate.running old wanted address = old
left_by Fate.completed old wanted address = wanted
left_by (Fate.cut elapsed) old wanted address = byte old wanted (cell_number address) elapsed

-- the starting byte, and on it what each write to the address left
unfoldable pub cell_holds : (image : Image) → List Wrote → (address : Address) → Byte
cell_holds image [] address = cell_byte image address
cell_holds image (w ∷ earlier) address =
    if eqb w.address address then left_by w.fate (cell_holds image earlier address) w.wanted address
    else cell_holds image earlier address

-- the latest write to an address, and the writes before it
pub record Last : Type 0 where
  pub write : Wrote
  pub earlier : List Wrote

unfoldable pub latest : Address → List Wrote → Option Last
latest address [] = None
latest address (w ∷ earlier) = if eqb w.address address then Some (record { write = w; earlier = earlier }) else latest address earlier

-- the starting byte if no write to the address began, else what the latest one left
unfoldable pub told : (image : Image) (address : Address) → Option Last → Byte
told image address None = cell_byte image address
told image address (Some l) = left_by l.write.fate (cell_holds image l.earlier address) l.write.wanted address

-- ---- all cells

-- n addresses in order
unfoldable pub addresses : (first n : ℕ) → List Address
addresses first zero = []
addresses first (suc n) = first ∷ addresses (first + 1) n

-- the cells of addresses 2b..3d in order, after a run
abbrev pub cells_after : Start → List Call → Image
cells_after b cs = map (cell_holds b.image (writes b cs)) (addresses 0x2b 19)
