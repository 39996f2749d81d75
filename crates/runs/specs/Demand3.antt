-- Demand 3 of 01, and what is delivered. docs/PROOF.md reads this file line by line.
use Rattle.std.specs.Prelude.{ℕ, ◌%◌, ◌^◌, ◌≤◌, ◌<◌, ◌≡◌, true, false, List, [], ◌∷◌, ◌++◌, eqb, length, if◌then◌else◌, Option, Some, None}
use seplogic.Ra.Ura.{Ura}
use base.Logic.{SProp}
use prog.Memory.{Memory}
use prog.Routine.{Routine}
use types.Logic.{Logic}
use contract.Monad.{Fun}
use Rattle.laws.specs.Bytes.{sent_bit}
use Rattle.time.specs.declared.Time.{Time}
use Rattle.calls.specs.declared.types.Timed.TheVariants as Timed
use Rattle.calls.specs.declared.types.Call.{Call}
use Rattle.calls.specs.Table.{refusal}
use Rattle.sensor.specs.declared.types.Kept.{Kept}
use Rattle.sensor.specs.Image.{cell_byte, new_kept}
use Rattle.bma150.specs.declared.host.Bma150.{Bma150}
use Rattle.calls.specs.Theorems.Exactly.{TurnedDown}
use Rattle.bma150.specs.Called.{Added, measurement_of, start_number}
use Rattle.book.specs.Does.{does}
use Rattle.book.specs.Lists.{Answer, Start, Fractions, met_zero, last_kept}
use Rattle.book.specs.Book.{opened, booked}
use Rattle.book.specs.Claim.{ending}
use Rattle.book.specs.Closed.{writes, that_runs, latest, told}
use Rattle.happens.specs.Courses.{OverI2c, OverSpi}
use Rattle.happens.specs.Happens.{Wanted, Happens}
use Rattle.runs.specs.Functions.{Begins, Serves, Contracts, AskNothing, LentToo}
use Rattle.runs.specs.Transfers.{I2cSoFar, SpiSoFar, BeginsExactly}

-- ---- runs

-- a host: the sensor and the answer that a start may have, and those that a call of a sensor may have
pub record Host : Type 1 where
  pub Sensor : Type 0
  pub begins : Start → Sensor → Answer → Type 0
  pub serves : Sensor → Call → Sensor → Answer → Type 0

-- the code: the replies that the contracts of its functions allow, the due and the pin call by value or lent
abbrev pub functions : Host
functions = record { Sensor = Bma150; begins = Begins; serves = Serves }

-- 01: the first call gets the start's sensor, each other the one that the call before it returned or left
pub data Run (m : Host) : m.Sensor → List Call → List Answer → m.Sensor → Type 0 where
  empty : {s : m.Sensor} → Run m s [] [] s
  next : {s t u : m.Sensor} {c : Call} {a : Answer} {cs : List Call} {out : List Answer} → m.serves s c t a → Run m t cs out u → Run m s (c ∷ cs) (a ∷ out) u

-- an accepted start and then these calls, accepted or refused
pub record Ran (m : Host) (b : Start) (cs : List Call) : Type 0 where
  pub first : m.Sensor
  pub start : Answer
  pub begins : m.begins b first start
  pub accepted : start.number ≡ 0
  pub out : List Answer
  pub last : m.Sensor
  pub runs : Run m first cs out last

-- the calls that the run itself answered with 0: those that were accepted
unfoldable pub accepted_calls : List Call → List Answer → List Call
accepted_calls [] out = []
accepted_calls (c ∷ cs) [] = []
accepted_calls (c ∷ cs) (a ∷ out) = if eqb a.number 0 then c ∷ accepted_calls cs out else accepted_calls cs out

-- 01: supply comes back from 0 mV with an accepted supply call of 2400 or more, 0 mV accepted since the last such or since the start; and the stored-image call right after it, at its time, hands out these bytes
pub record Back {m : Host} {b : Start} {cs : List Call} (r : Ran m b cs) (now : Time) (bytes : List ℕ) : Type 0 where
  pub rail : ℕ
  pub on : 2400 ≤ rail
  pub zero : met_zero false (accepted_calls cs r.out) ≡ true
  pub back : m.Sensor
  pub reply : Answer
  pub returns : m.serves r.last (Call.At now (Timed.Supply rail)) back reply
  pub accepted : reply.number ≡ 0
  pub left : m.Sensor
  pub image : Answer
  pub handed : m.serves back (Call.StoredImage now 19) left image
  pub put : image.adds ≡ Added.put bytes

-- an accepted timed call's time is then the last accepted one
unfoldable pub moved : (last : Time) → Option Time → Time
moved last None = last
moved last (Some now) = now

-- each number is that of 01's table, asked with the last accepted time, the next due that the run itself answered before, and the levels after the last accepted pin report
abbrev pub Numbered : (last : Time) (due : Option Time) → Kept → List Call → List Answer → Type 0
Numbered last due k [] out = Unit {0}
Numbered last due k (c ∷ cs) [] = Unit {0}
Numbered last due k (c ∷ cs) (a ∷ out) =
    (a.number ≡ refusal last due k.lines c)
    × Numbered (if eqb a.number 0 then moved last (does c).time else last) a.next_due (if eqb a.number 0 then (does c).keeps k else k) cs out

-- ---- the demand

pub record Demand3 (m : Host) : Type 1 where
  -- after supply comes back from 0 mV the stored bytes are the write book's
  pub stored : {b : Start} {cs : List Call} {now : Time} {bytes : List ℕ} (r : Ran m b cs) → Fractions cs → (k : Back r now bytes)
      → bytes ≡ (booked (opened b) (ending cs now k.rail)).cells
  -- two that come back so at one moment with equal bytes, acceleration, temperature and levels of the last report give the same answers to every further list
  pub same : {b d : Start} {cs ds : List Call} {now : Time} {bytes : List ℕ} (r : Ran m b cs) (q : Ran m d ds) → Fractions cs → Fractions ds → (k : Back r now bytes) (j : Back q now bytes)
      → last_kept new_kept (accepted_calls cs r.out) ≡ last_kept new_kept (accepted_calls ds q.out)
      → (further : List Call) {x y : m.Sensor} {f g : List Answer} → Run m k.back further f x → Run m j.back further g y → f ≡ g
  -- two runs of one list from one sensor, each call by value or lent, answer alike and leave the same sensor
  pub alike : {s x y : m.Sensor} {cs : List Call} {f g : List Answer} → Run m s cs f x → Run m s cs g y → (f ≡ g) × (x ≡ y)
  -- every accepted start and every list of calls has a run, and from every sensor every further list
  pub exists : (b : Start) → length b.image ≡ 19 → (TurnedDown b.by (measurement_of b.image) → ⊥) → b.time.0 < 2 ^ 32 → (cs : List Call) → Ran m b cs
  pub goes_on : (s : m.Sensor) (further : List Call) → (f : List Answer) × (x : m.Sensor) × Run m s further f x
  -- refusals follow 01's table: of a start, and of every call of a run
  pub start_refused : {b : Start} {s : m.Sensor} {a : Answer} → m.begins b s a → a.number ≡ start_number b.by b.time b.image
  pub refused : {b : Start} {cs : List Call} (r : Ran m b cs) → Numbered b.time r.start.next_due new_kept cs r.out

-- ---- what is delivered

pub record Delivered : Type 2 where
  -- demand 3 of the code, with the due and the pin call lent too
  pub demand_3 : Demand3 functions
  pub lent_too : LentToo
  -- the stored bytes by the latest write: the starting byte if no write to the cell began, else what the latest one left; and none runs any more
  pub closed : {b : Start} {cs : List Call} {now : Time} {bytes : List ℕ} (r : Ran functions b cs) → Fractions cs → (k : Back r now bytes)
      → let ws = writes b (ending cs now k.rail) in ((address : ℕ) → cell_byte bytes address ≡ told b.image address (latest address ws)) × (that_runs ws ≡ None)
  -- every public function meets its contract on the machine, and no contract asks anything of its arguments
  pub contracts : Contracts
  pub ask_nothing : {M : Type 1} {𝓤 : Ura M} (𝓛 : Logic 𝓤) (memory : Memory → SProp 𝓤) (run : Routine → Fun 𝓤) → AskNothing 𝓤 𝓛 memory run
  -- the book's writes are the bus's: the last bit of a value begins a stored write exactly where 01's rule lets one begin
  pub over_i2c : {b : Start} {cs ds : List Call} {register value : ℕ} (w : I2cSoFar b cs ds register value)
      → BeginsExactly b (cs ++ ds) w.now (Timed.Pins w.before w.next) (register % 128) value
  pub over_spi : {b : Start} {cs ds : List Call} {address value : ℕ} (w : SpiSoFar b cs ds address value)
      → BeginsExactly b (cs ++ ds) w.now (Timed.Rising (sent_bit value 7)) address value
  -- and every stored write and every cut of it happens, over either bus
  pub happens_i2c : (b : Start) (address value : ℕ) (at : Time) → Wanted b address value at → Happens OverI2c b address value at
  pub happens_spi : (b : Start) (address value : ℕ) (at : Time) → Wanted b address value at → Happens OverSpi b address value at
