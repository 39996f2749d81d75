-- The code as a host: the replies that the contracts of its public functions allow; that each contract is met on the machine; and that none asks anything.
use Rattle.std.specs.Prelude.{ℕ, ◌≡◌, Bool, List, ℤ, length, Option, None, Result}
use seplogic.Ra.Ura.{Ura}
use base.Logic.{SProp, emp}
use prog.Memory.{Memory}
use prog.Routine.{Routine}
use types.Logic.{Logic}
use contract.Monad.{Fun, fact}
use contract.Lifetimes.{Lfts}
use Rattle.std.specs.Borrow.{Bor, MutBor}
use denote.Signature.{Signature}
use denote.Triple.Entry.{Args}
use denote.Triple.Spec.{Spec}
use Rattle.time.specs.declared.Time.{Time}
use Rattle.analog.specs.Axis.{Acceleration}
use Rattle.i2c.specs.declared.types.Levels.{Levels}
use Rattle.spi.specs.declared.types.Drive.{Drive}
use Rattle.calls.specs.declared.types.Timed.{Timed}
use Rattle.calls.specs.declared.types.Call.{Call}
use Rattle.calls.specs.declared.types.Starting.TheVariants as Starting
use Rattle.calls.specs.declared.types.Refusal.{Refusal}
use Rattle.calls.specs.Table.{Outcome}
use Rattle.calls.specs.Table as T
use Rattle.sensor.specs.declared.types.Viewed.{Viewed}
use Rattle.waits.specs.declared.types.Report.{Report}
use Rattle.bma150.specs.declared.types.Replied.{Replied}
use Rattle.bma150.specs.declared.host.Bma150.{Bma150}
use Rattle.bma150.specs.Values as Vals
use Rattle.bma150.specs.Called.{Added, of_view, timed_adds}
use Rattle.bma150.specs.Lent.{DueLent, PinsLent}
use Rattle.book.specs.Lists.{Answer, Start}
use Rattle.bma150.proofs.host.Bma150.start.Reads as start_reads
use Rattle.bma150.proofs.host.Bma150.start_stored.Reads as start_stored_reads
use Rattle.bma150.proofs.host.Bma150.timed.Reads as timed_reads
use Rattle.bma150.proofs.host.Bma150.accelerations.Reads as accelerations_reads
use Rattle.bma150.proofs.host.Bma150.temperature.Reads as temperature_reads
use Rattle.bma150.proofs.host.Bma150.supply.Reads as supply_reads
use Rattle.bma150.proofs.host.Bma150.due.Reads as due_reads
use Rattle.bma150.proofs.host.Bma150.select.Reads as select_reads
use Rattle.bma150.proofs.host.Bma150.rising.Reads as rising_reads
use Rattle.bma150.proofs.host.Bma150.falling.Reads as falling_reads
use Rattle.bma150.proofs.host.Bma150.pins.Reads as pins_reads
use Rattle.bma150.proofs.host.Bma150.view.Reads as view_reads
use Rattle.bma150.proofs.host.Bma150.stored_image.Reads as stored_image_reads
use Rattle.bma150.proofs.host.Bma150.interrupt.Reads as interrupt_reads
use Rattle.bma150.proofs.host.Bma150.output.Reads as output_reads
use Rattle.bma150.proofs.host.Bma150.data_output.Reads as data_output_reads
use Rattle.bma150.proofs.host.Bma150.next_due.Reads as next_due_reads
use Rattle.bma150.proofs.host.Bma150.start.Statement as start_stated
use Rattle.bma150.proofs.host.Bma150.start_stored.Statement as start_stored_stated
use Rattle.bma150.proofs.host.Bma150.timed.Statement as timed_stated
use Rattle.bma150.proofs.host.Bma150.accelerations.Statement as accelerations_stated
use Rattle.bma150.proofs.host.Bma150.temperature.Statement as temperature_stated
use Rattle.bma150.proofs.host.Bma150.supply.Statement as supply_stated
use Rattle.bma150.proofs.host.Bma150.due.Statement as due_stated
use Rattle.bma150.proofs.host.Bma150.select.Statement as select_stated
use Rattle.bma150.proofs.host.Bma150.rising.Statement as rising_stated
use Rattle.bma150.proofs.host.Bma150.falling.Statement as falling_stated
use Rattle.bma150.proofs.host.Bma150.pins.Statement as pins_stated
use Rattle.bma150.proofs.host.Bma150.view.Statement as view_stated
use Rattle.bma150.proofs.host.Bma150.stored_image.Statement as stored_image_stated
use Rattle.bma150.proofs.host.Bma150.interrupt.Statement as interrupt_stated
use Rattle.bma150.proofs.host.Bma150.output.Statement as output_stated
use Rattle.bma150.proofs.host.Bma150.data_output.Statement as data_output_stated
use Rattle.bma150.proofs.host.Bma150.next_due.Statement as next_due_stated
use Rattle.bma150.specs.contracts.lent.due_lent as due_lent_function
use Rattle.bma150.proofs.lent.due_lent.Statement as due_lent_stated
use Rattle.bma150.specs.contracts.lent.pins_lent as pins_lent_function
use Rattle.bma150.proofs.lent.pins_lent.Statement as pins_lent_stated
use Rattle.bma150.specs.contracts.host.Bma150.start as start_function
use Rattle.bma150.specs.contracts.host.Bma150.start_stored as start_stored_function
use Rattle.bma150.specs.contracts.host.Bma150.timed as timed_function
use Rattle.bma150.specs.contracts.host.Bma150.accelerations as accelerations_function
use Rattle.bma150.specs.contracts.host.Bma150.temperature as temperature_function
use Rattle.bma150.specs.contracts.host.Bma150.supply as supply_function
use Rattle.bma150.specs.contracts.host.Bma150.due as due_function
use Rattle.bma150.specs.contracts.host.Bma150.select as select_function
use Rattle.bma150.specs.contracts.host.Bma150.rising as rising_function
use Rattle.bma150.specs.contracts.host.Bma150.falling as falling_function
use Rattle.bma150.specs.contracts.host.Bma150.pins as pins_function
use Rattle.bma150.specs.contracts.host.Bma150.view as view_function
use Rattle.bma150.specs.contracts.host.Bma150.stored_image as stored_image_function
use Rattle.bma150.specs.contracts.host.Bma150.interrupt as interrupt_function
use Rattle.bma150.specs.contracts.host.Bma150.output as output_function
use Rattle.bma150.specs.contracts.host.Bma150.data_output as data_output_function
use Rattle.bma150.specs.contracts.host.Bma150.next_due as next_due_function

-- ---- what the functions reply

-- the observers' replies after a call
pub record Pins : Type 0 where
  pub interrupt : Bool
  pub output : Drive
  pub data_output : Drive
  pub next_due : Option Time

-- each is one that the observer's contract allows of the sensor t
pub record Observed (t : Bma150) (o : Pins) : Type 0 where
  pub interrupt : interrupt_reads.Post tt (t, tt) o.interrupt (t, tt)
  pub output : output_reads.Post tt (t, tt) o.output (t, tt)
  pub data_output : data_output_reads.Post tt (t, tt) o.data_output (t, tt)
  pub next_due : next_due_reads.Post tt (t, tt) o.next_due (t, tt)

-- the answer of a reply: its number, what it adds, and the observers' replies
abbrev pub answered : ℕ → Added → Pins → Answer
answered n a o = record { number = n; interrupt = o.interrupt; output = o.output; data_output = o.data_output; adds = a; next_due = o.next_due }

-- of a timed call: supply and due calls add their report, if they are accepted
abbrev pub replied : {A : Type 0} → Result A Refusal → Timed → Option Report → Pins → Answer
replied u t r o = answered (T.number u) (T.unless_refused (T.number u) Added.nothing (timed_adds t r)) o

-- of a call without a refusal
abbrev pub accepted : Added → Pins → Answer
accepted a o = answered T.no_refusal a o

-- of a stored-image call: the buffer counts only if it is accepted
abbrev pub handed : Outcome → List ℕ → Pins → Answer
handed u b o = answered (T.number u) (T.unless_refused (T.number u) Added.nothing (Added.put b)) o

-- the replies of each call: those that the contracts allow of the functions that serve it. The due and the pin call are served by value and lent, every timed call by its own function and by `timed`
pub data Serves : Bma150 → Call → Bma150 → Answer → Type 0 where
  timed : {s : Bma150} {now : Time} {t : Timed} (r : Replied (Option Report)) (o : Pins) → timed_reads.Post tt (s, (now, (t, tt))) r (s, (now, (t, tt))) → Observed r.sensor o
      → Serves s (Call.At now t) r.sensor (replied r.answer t (Vals.report_of r.answer) o)
  accelerations : {s : Bma150} {now : Time} {input : Acceleration} (r : Replied (Unit {0})) (o : Pins)
      → accelerations_reads.Post tt (s, (now, (input, tt))) r (s, (now, (input, tt))) → Observed r.sensor o
      → Serves s (Call.At now (Timed.Accelerations input)) r.sensor (replied r.answer (Timed.Accelerations input) None o)
  temperature : {s : Bma150} {m : ℤ} (t : Bma150) (o : Pins) → temperature_reads.Post tt (s, (m, tt)) t (s, (m, tt)) → Observed t o
      → Serves s (Call.Temperature m) t (accepted Added.nothing o)
  supply : {s : Bma150} {now : Time} {rail : ℕ} (r : Replied (Option Report)) (o : Pins) → supply_reads.Post tt (s, (now, (rail, tt))) r (s, (now, (rail, tt))) → Observed r.sensor o
      → Serves s (Call.At now (Timed.Supply rail)) r.sensor (replied r.answer (Timed.Supply rail) (Vals.report_of r.answer) o)
  due : {s : Bma150} {now : Time} (r : Replied (Option Report)) (o : Pins) → due_reads.Post tt (s, (now, tt)) r (s, (now, tt)) → Observed r.sensor o
      → Serves s (Call.At now Timed.Due) r.sensor (replied r.answer Timed.Due (Vals.report_of r.answer) o)
  due_lent : {s : Bma150} {now : Time} (t : Bma150) (r : Vals.Answer) (o : Pins) → DueLent s now t r → Observed t o
      → Serves s (Call.At now Timed.Due) t (replied r Timed.Due (Vals.report_of r) o)
  select : {s : Bma150} {on : Bool} (t : Bma150) (o : Pins) → select_reads.Post tt (s, (on, tt)) t (s, (on, tt)) → Observed t o
      → Serves s (Call.Select on) t (accepted Added.nothing o)
  rising : {s : Bma150} {now : Time} {mosi : Bool} (r : Replied (Unit {0})) (o : Pins) → rising_reads.Post tt (s, (now, (mosi, tt))) r (s, (now, (mosi, tt))) → Observed r.sensor o
      → Serves s (Call.At now (Timed.Rising mosi)) r.sensor (replied r.answer (Timed.Rising mosi) None o)
  falling : {s : Bma150} {now : Time} (r : Replied (Unit {0})) (o : Pins) → falling_reads.Post tt (s, (now, tt)) r (s, (now, tt)) → Observed r.sensor o
      → Serves s (Call.At now Timed.Falling) r.sensor (replied r.answer Timed.Falling None o)
  pins : {s : Bma150} {now : Time} {before after : Levels} (r : Replied (Unit {0})) (o : Pins)
      → pins_reads.Post tt (s, (now, (before, (after, tt)))) r (s, (now, (before, (after, tt)))) → Observed r.sensor o
      → Serves s (Call.At now (Timed.Pins before after)) r.sensor (replied r.answer (Timed.Pins before after) None o)
  pins_lent : {s : Bma150} {now : Time} {before after : Levels} (t : Bma150) (r : Outcome) (o : Pins) → PinsLent s now before after t r → Observed t o
      → Serves s (Call.At now (Timed.Pins before after)) t (replied r (Timed.Pins before after) None o)
  view : {s : Bma150} {address : ℕ} (r : Option Viewed) (o : Pins) → view_reads.Post tt (s, (address, tt)) r (s, (address, tt)) → Observed s o
      → Serves s (Call.View address) s (accepted (of_view r) o)
  stored_image : {s : Bma150} {now : Time} {n : ℕ} (κs : Lfts 1) (lent left : MutBor (List ℕ)) (r : Outcome) (o : Pins) → length lent.now ≡ n
      → stored_image_reads.Post κs (s, (now, (lent, tt))) r (s, (now, (left, tt))) → Observed s o
      → Serves s (Call.StoredImage now n) s (handed r left.now o)

-- the replies of a start, by either call
pub data Begins : Start → Bma150 → Answer → Type 0 where
  checked : {now : Time} {image : List ℕ} (κs : Lfts 1) (lent : Bor (List ℕ)) (r : Replied (Unit {0})) (o : Pins) → lent.now ≡ image
      → start_reads.Post κs (now, (lent, tt)) r (now, (lent, tt)) → Observed r.sensor o
      → Begins (record { by = Starting.Checked; time = now; image = image }) r.sensor (answered (T.number r.answer) Added.nothing o)
  stored : {now : Time} {image : List ℕ} (κs : Lfts 1) (lent : Bor (List ℕ)) (r : Replied (Unit {0})) (o : Pins) → lent.now ≡ image
      → start_stored_reads.Post κs (now, (lent, tt)) r (now, (lent, tt)) → Observed r.sensor o
      → Begins (record { by = Starting.Stored; time = now; image = image }) r.sensor (answered (T.number r.answer) Added.nothing o)

-- what the contracts of the lent calls say is `DueLent` and `PinsLent`, and there is such a reply whatever the sensor and the arguments
pub record LentToo : Type 2 where
  pub due_says : {M : Type 1} {𝓤 : Ura M} (𝓛 : Logic 𝓤) (memory : Memory → SProp 𝓤) (run : Routine → Fun 𝓤) (κs : Lfts 1) (s t : MutBor Bma150) (now : Time) (r : Vals.Answer)
      → (due_lent_function.clauses 𝓛 memory run κs (s, (now, tt))).ensures tt r (t, (now, tt)) ≡ fact 𝓤 (DueLent s.now now t.now r)
  pub pins_says : {M : Type 1} {𝓤 : Ura M} (𝓛 : Logic 𝓤) (memory : Memory → SProp 𝓤) (run : Routine → Fun 𝓤) (κs : Lfts 1) (s t : MutBor Bma150) (now : Time) (before after : Levels) (r : Outcome)
      → (pins_lent_function.clauses 𝓛 memory run κs (s, (now, (before, (after, tt))))).ensures tt r (t, (now, (before, (after, tt)))) ≡ fact 𝓤 (PinsLent s.now now before after t.now r)
  pub due : (s : Bma150) (now : Time) → (t : Bma150) × (r : Vals.Answer) × (o : Pins) × DueLent s now t r × Observed t o
  pub pins : (s : Bma150) (now : Time) (before after : Levels) → (t : Bma150) × (r : Outcome) × (o : Pins) × PinsLent s now before after t r × Observed t o

-- ---- every public function's own statement on the machine

pub record Contracts : Type 2 where
  pub start : {M : Type 1} → start_stated.statement M
  pub start_stored : {M : Type 1} → start_stored_stated.statement M
  pub timed : {M : Type 1} → timed_stated.statement M
  pub accelerations : {M : Type 1} → accelerations_stated.statement M
  pub temperature : {M : Type 1} → temperature_stated.statement M
  pub supply : {M : Type 1} → supply_stated.statement M
  pub due : {M : Type 1} → due_stated.statement M
  pub due_lent : {M : Type 1} → due_lent_stated.statement M
  pub select : {M : Type 1} → select_stated.statement M
  pub rising : {M : Type 1} → rising_stated.statement M
  pub falling : {M : Type 1} → falling_stated.statement M
  pub pins : {M : Type 1} → pins_stated.statement M
  pub pins_lent : {M : Type 1} → pins_lent_stated.statement M
  pub view : {M : Type 1} → view_stated.statement M
  pub stored_image : {M : Type 1} → stored_image_stated.statement M
  pub interrupt : {M : Type 1} → interrupt_stated.statement M
  pub output : {M : Type 1} → output_stated.statement M
  pub data_output : {M : Type 1} → data_output_stated.statement M
  pub next_due : {M : Type 1} → next_due_stated.statement M

-- ---- no contract asks anything: whatever the arguments and whatever else the machine holds, its precondition is the empty one

module _ {M : Type 1} (𝓤 : Ura M) where
  abbrev pub Free : (f : Signature) → Spec 𝓤 f → Type 2
  Free f contract = (κs : Lfts f.lifetimes) (arguments : Args f κs) (g : (contract κs arguments).ghost) → (contract κs arguments).requires g ≡ emp 𝓤

  pub record AskNothing (𝓛 : Logic 𝓤) (memory : Memory → SProp 𝓤) (run : Routine → Fun 𝓤) : Type 2 where
    pub start : Free start_function.signature (start_function.spec 𝓛 memory run)
    pub start_stored : Free start_stored_function.signature (start_stored_function.spec 𝓛 memory run)
    pub timed : Free timed_function.signature (timed_function.spec 𝓛 memory run)
    pub accelerations : Free accelerations_function.signature (accelerations_function.spec 𝓛 memory run)
    pub temperature : Free temperature_function.signature (temperature_function.spec 𝓛 memory run)
    pub supply : Free supply_function.signature (supply_function.spec 𝓛 memory run)
    pub due : Free due_function.signature (due_function.spec 𝓛 memory run)
    pub due_lent : Free due_lent_function.signature (due_lent_function.spec 𝓛 memory run)
    pub select : Free select_function.signature (select_function.spec 𝓛 memory run)
    pub rising : Free rising_function.signature (rising_function.spec 𝓛 memory run)
    pub falling : Free falling_function.signature (falling_function.spec 𝓛 memory run)
    pub pins : Free pins_function.signature (pins_function.spec 𝓛 memory run)
    pub pins_lent : Free pins_lent_function.signature (pins_lent_function.spec 𝓛 memory run)
    pub view : Free view_function.signature (view_function.spec 𝓛 memory run)
    pub stored_image : Free stored_image_function.signature (stored_image_function.spec 𝓛 memory run)
    pub interrupt : Free interrupt_function.signature (interrupt_function.spec 𝓛 memory run)
    pub output : Free output_function.signature (output_function.spec 𝓛 memory run)
    pub data_output : Free data_output_function.signature (data_output_function.spec 𝓛 memory run)
    pub next_due : Free next_due_function.signature (next_due_function.spec 𝓛 memory run)
