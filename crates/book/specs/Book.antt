-- The write book (01, "Write book"). It never reads the stored bytes or the running write of the definitions' record.
use Rattle.sensor.specs.Operation.{Operation, stored_write}
use Rattle.std.specs.Prelude.{ℕ, ◌+◌, ◌-◌, Bool, true, false, List, [], ◌∷◌, leb, ltb, replicate, if◌then◌else◌, Option, Some, None}
use Rattle.laws.specs.Notation.{Byte}
use Rattle.time.specs.declared.Time.{Time}
use Rattle.time.specs.Time.{ticks}
use Rattle.nv.specs.Cell.{write_length, cell_number, byte}
use Rattle.registers.specs.Access.{begins}
use Rattle.calls.specs.declared.types.Call.{Call}
use Rattle.sensor.specs.declared.types.Sensor.{Sensor}
use Rattle.sensor.specs.Record.{with_nonvolatile, with_writing, gate}
use Rattle.sensor.specs.Image.{cell_byte, with_cell}
use Rattle.bma150.specs.declared.host.Bma150.{Bma150}
use Rattle.book.specs.Does.{Does, Asked, does}
use Rattle.book.specs.Lists.{Start, started, accepts, step}

-- ---- state: 19 cells, at most one running write, and the definitions' record with both struck out

pub record Running : Type 0 where
  pub address : ℕ
  pub wanted : ℕ
  pub began : Time

pub record Book : Type 0 where
  pub cells : List ℕ
  pub running : Option Running
  pub rest : Bma150

abbrev pub book : (cells : List ℕ) (running : Option Running) (rest : Bma150) → Book
book cells running rest = record { cells = cells; running = running; rest = rest }

abbrev pub with_rest : Book → (rest : Bma150) → Book
with_rest k rest = book k.cells k.running rest

abbrev pub struck : Bma150 → Bma150
struck s = record { sensor = with_writing (with_nonvolatile s.sensor (replicate 19 0)) (None); last = s.last }

-- at first the start image and no running write
abbrev pub opened : Start → Book
opened b = book b.image None (struck (started b))

-- ---- the book's own cells and running write are put into the rest, to ask the definitions for the refusal, next due and the write that the pins make

unfoldable pub operation : Option Running → Operation
operation None = None
operation (Some w) = Some (stored_write w.began w.address w.wanted)

abbrev pub filled : Book → Bma150
filled k = record { sensor = with_writing (with_nonvolatile k.rest.sensor k.cells) (operation k.running); last = k.rest.last }

-- ---- 01's sentences

-- a write is over: its cell holds this byte, and none runs
abbrev pub closed : Book → Running → (value : Byte) → Book
closed k w value = book (with_cell k.cells w.address value) None k.rest

-- an accepted timed call at t + D or later first puts the wanted byte in the running write's cell
unfoldable pub completing : Option Running → Book → (now : Time) → Book
completing None k now = k
completing (Some w) k now = if leb (ticks w.began + write_length) (ticks now) then closed k w w.wanted else k

abbrev pub completed : Book → (now : Time) → Book
completed k now = completing k.running k now

-- a supply call below 2400 mV cuts a running write: its address, its byte as old, the wanted byte, e = the call's time less t
unfoldable pub cutting : Option Running → Book → (now : Time) → Book
cutting None k now = k
cutting (Some w) k now = closed k w (byte (cell_byte k.cells w.address) w.wanted (cell_number w.address) (ticks now - ticks w.began))

unfoldable pub supplied : Option ℕ → Book → (now : Time) → Book
supplied None k now = k
supplied (Some rail) k now = if ltb rail 2400 then cutting k.running k now else k

-- a pin call from which the definitions accept a stored write begins it, t being the call's time; never while one runs in the book
unfoldable pub runs : Option Running → Bool
runs None = false
runs (Some w) = true

unfoldable pub accepted_write : Option (ℕ × ℕ) → Sensor → (running : Bool) → Bool
accepted_write None s running = false
accepted_write (Some (address, value)) s running =
    begins address value (gate s) running

unfoldable pub of_write : Option (ℕ × ℕ) → (now : Time) → Option Running
of_write None now = None
of_write (Some (address, value)) now = Some (record { address = address; wanted = value; began = now })

unfoldable pub began : Book → Asked → (now : Time) → Book
began k a now = if accepted_write a.write a.meets (runs k.running) then book k.cells (of_write a.write now) k.rest else k

-- what an accepted call changes, by what it does; s is the filled record before it. Only a timed call changes the book
unfoldable pub changed_at : Option Time → Does → Book → Sensor → Book
changed_at None d k s = k
changed_at (Some now) d k s = began (supplied d.rail (completed k now) now) (d.asks s) now

abbrev pub changed : Book → Sensor → Call → Book
changed k s c = changed_at (does c).time (does c) k s

-- a refused call changes nothing
unfoldable pub entered : Book → Call → Book
entered k c = if accepts (filled k) c then with_rest (changed k (filled k).sensor c) (struck (step (filled k) c)) else k

unfoldable pub booked : Book → List Call → Book
booked k [] = k
booked k (c ∷ cs) = booked (entered k c) cs
