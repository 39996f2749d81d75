-- The code's replies are the definitions', there is one to every call, and no contract asks anything.
use Rattle.std.specs.Prelude.{Option, Some, None, Err, Ok}
use Prim.Native.Nat.{ℕ}
use mathlib.Core.Path.{◌≡◌, refl, sym, ap, subst, ◌∙◌}
use mathlib.Core.Bool.{Bool, true, false, cond}
use mathlib.Core.List.{List, []}
use lib.ListN.{length, replicate, length-replicate}
use seplogic.Ra.Ura.{Ura}
use base.Logic.{SProp}
use prog.Memory.{Memory}
use prog.Routine.{Routine}
use types.Logic.{Logic}
use contract.Monad.{Fun}
use Rattle.std.specs.Borrow.{Bor, MutBor}
use Rattle.time.specs.declared.Time.{Time}
use Rattle.i2c.specs.declared.types.Levels.{Levels}
use Rattle.deadlines.proofs.Theorems.Earliest.{moment_injective}
use Rattle.calls.specs.declared.types.Timed.{Timed}
use Rattle.calls.specs.declared.types.Call.{Call}
use Rattle.calls.specs.declared.types.Starting.{Starting}
use Rattle.calls.specs.declared.types.Refusal.{Refusal}
use Rattle.calls.specs.Table.{Outcome}
use Rattle.calls.specs.Facts.{facts}
use Rattle.calls.specs.Table as T
use Rattle.calls.proofs.Theorems.Values.{refused_number}
use Rattle.calls.proofs.Theorems.Left.{temperature_accepted, select_accepted, view_accepted}
use Rattle.sensor.specs.RegisterReads.{viewed}
use Rattle.samples.specs.Samples.{interaction_deadline}
use Rattle.waits.specs.declared.types.Report.{Report}
use Rattle.bma150.specs.declared.types.Replied.{Replied}
use Rattle.bma150.specs.declared.host.Bma150.{Bma150}
use Rattle.bma150.specs.Values as Vals
use Rattle.bma150.specs.Values.{report_values, report_of}
use Rattle.bma150.specs.Called.{Added, reported, of_view, put_in, timed_adds, served, leaves, adds, number, called, measurement_of, start_number, after_start, interrupt, output, data_output}
use Rattle.bma150.proofs.Theorems.Values.{drive_letter_injective}
use Rattle.bma150.proofs.Theorems.Added.{reported_is, silent_is, buffer_is, image_leaves, view_leaves, view_adds}
use Rattle.bma150.proofs.host.Bma150.start.Met as start_theorem
use Rattle.bma150.proofs.host.Bma150.start_stored.Met as start_stored_theorem
use Rattle.bma150.proofs.host.Bma150.timed.Met as timed_theorem
use Rattle.bma150.proofs.host.Bma150.accelerations.Met as accelerations_theorem
use Rattle.bma150.proofs.host.Bma150.temperature.Met as temperature_theorem
use Rattle.bma150.proofs.host.Bma150.supply.Met as supply_theorem
use Rattle.bma150.proofs.host.Bma150.due.Met as due_theorem
use Rattle.bma150.proofs.host.Bma150.select.Met as select_theorem
use Rattle.bma150.proofs.host.Bma150.rising.Met as rising_theorem
use Rattle.bma150.proofs.host.Bma150.falling.Met as falling_theorem
use Rattle.bma150.proofs.host.Bma150.pins.Met as pins_theorem
use Rattle.bma150.proofs.host.Bma150.view.Met as view_theorem
use Rattle.bma150.proofs.host.Bma150.stored_image.Met as stored_image_theorem
use Rattle.bma150.proofs.host.Bma150.interrupt.Met as interrupt_theorem
use Rattle.bma150.proofs.host.Bma150.output.Met as output_theorem
use Rattle.bma150.proofs.host.Bma150.data_output.Met as data_output_theorem
use Rattle.bma150.proofs.host.Bma150.next_due.Met as next_due_theorem
use Rattle.bma150.proofs.lent.due_lent.Met as due_lent_theorem
use Rattle.bma150.proofs.lent.pins_lent.Met as pins_lent_theorem
use Rattle.book.specs.Lists.{step, Answer, answer, Start, started}
use Rattle.runs.specs.Functions.{Pins, Observed, answered, replied, accepted, handed, Serves, Begins, LentToo, Contracts, AskNothing}

-- ---- they are the definitions'

-- the observers of a sensor that is the definitions'
answer_is : (s : Bma150) (c : Call) (t : Bma150) (n : ℕ) (a : Added) (o : Pins) → Observed t o → t ≡ step s c → n ≡ number s c → a ≡ (called s c).adds → answered n a o ≡ answer s c
answer_is s c t n a o p e en ea =
    rw (
      p.interrupt,
      drive_letter_injective _ _ p.output,
      drive_letter_injective _ _ p.data_output,
      moment_injective _ _ p.next_due,
      e,
      en,
      ea,
    )

pub served_is : {s t : Bma150} {c : Call} {a : Answer} → Serves s c t a → (t ≡ step s c) × (a ≡ answer s c)
unfolding timed_adds adds leaves T.unless_refused
served_is {s} (Serves.timed {now = now} {t = t} r o p q) =
    (p.1.0, answer_is s (Call.At now t) r.sensor _ _ o q p.1.0 p.0 (reported_is s now t _ (report_of r.answer) p.0 p.1.1))
served_is {s} (Serves.accelerations {now = now} {input = input} r o p q) =
    (p.1, answer_is s (Call.At now (Timed.Accelerations input)) r.sensor _ _ o q p.1 p.0 (silent_is s now (Timed.Accelerations input) _ p.0 refl))
served_is {s} (Serves.temperature {m = m} t o p q) =
    let e = temperature_accepted s.last (interaction_deadline s.sensor) s.sensor.kept.lines m in
    (p, answer_is s (Call.Temperature m) t _ _ o q p (sym e) (sym (ap (λ (n : ℕ). T.unless_refused n Added.nothing Added.nothing) e)))
served_is {s} (Serves.supply {now = now} {rail = rail} r o p q) =
    (p.1.0, answer_is s (Call.At now (Timed.Supply rail)) r.sensor _ _ o q p.1.0 p.0 (reported_is s now (Timed.Supply rail) _ (report_of r.answer) p.0 p.1.1))
served_is {s} (Serves.due {now = now} r o p q) =
    (p.1.0, answer_is s (Call.At now Timed.Due) r.sensor _ _ o q p.1.0 p.0 (reported_is s now Timed.Due _ (report_of r.answer) p.0 p.1.1))
served_is {s} (Serves.due_lent {now = now} t r o p q) =
    (p.leaves, answer_is s (Call.At now Timed.Due) t _ _ o q p.leaves p.answers (reported_is s now Timed.Due _ (report_of r) p.answers p.reports))
served_is {s} (Serves.select {on = on} t o p q) =
    let e = select_accepted s.last (interaction_deadline s.sensor) s.sensor.kept.lines on in
    (p, answer_is s (Call.Select on) t _ _ o q p (sym e) (sym (ap (λ (n : ℕ). T.unless_refused n Added.nothing Added.nothing) e)))
served_is {s} (Serves.rising {now = now} {mosi = mosi} r o p q) =
    (p.1, answer_is s (Call.At now (Timed.Rising mosi)) r.sensor _ _ o q p.1 p.0 (silent_is s now (Timed.Rising mosi) _ p.0 refl))
served_is {s} (Serves.falling {now = now} r o p q) =
    (p.1, answer_is s (Call.At now Timed.Falling) r.sensor _ _ o q p.1 p.0 (silent_is s now Timed.Falling _ p.0 refl))
served_is {s} (Serves.pins {now = now} {before = before} {after = after} r o p q) =
    (p.1, answer_is s (Call.At now (Timed.Pins before after)) r.sensor _ _ o q p.1 p.0 (silent_is s now (Timed.Pins before after) _ p.0 refl))
served_is {s} (Serves.pins_lent {now = now} {before = before} {after = after} t r o p q) =
    (p.leaves, answer_is s (Call.At now (Timed.Pins before after)) t _ _ o q p.leaves p.answers (silent_is s now (Timed.Pins before after) _ p.answers refl))
served_is {s} (Serves.view {address = address} r o p q) =
    (view_leaves s address, answer_is s (Call.View address) s _ _ o q (view_leaves s address) (sym (view_accepted s.last (interaction_deadline s.sensor) s.sensor.kept.lines address)) p)
served_is {s} (Serves.stored_image {now = now} {n = n} κs lent left r o h p q) =
    let e : T.number r ≡ number s (Call.StoredImage now n) = p.0 ∙ ap (λ (k : ℕ). number s (Call.StoredImage now k)) h in
    let b : left.now ≡ put_in (called s (Call.StoredImage now n)).adds lent.now = p.1 ∙ ap (λ (k : ℕ). put_in (called s (Call.StoredImage now k)).adds lent.now) h in
    (image_leaves s now n, answer_is s (Call.StoredImage now n) s _ _ o q (image_leaves s now n) e (buffer_is s now n _ lent.now left.now e b))

-- ---- there is a reply to every call

-- for each number that the table gives there is an answer
row_answer : {n : ℕ} (found : Bool) (why : Refusal) → (o : Outcome) × (T.number o ≡ n) → (o : Outcome) × (T.number o ≡ cond found (T.refusal_number why) n)
unfolding T.number
row_answer true why r = (Err why, refl)
row_answer false why r = r

accepted_answer : (o : Outcome) × (T.number o ≡ 0)
unfolding T.number
accepted_answer = ((Ok tt), refl)

outcome_of : (last : Time) (d : Option Time) (l : Levels) (c : Call) → (o : Outcome) × (T.number o ≡ T.refusal last d l c)
unfolding T.refusal T.first_found T.refusal_number
outcome_of last d l c =
    row_answer (T.wrong_length (facts c).bytes) Refusal.ImageLength
    (row_answer (T.too_late (facts c).time) Refusal.TimeLimit
    (row_answer (T.goes_back last (facts c).time) Refusal.TimeBack
    (row_answer (T.out_of_range (facts c).axes) Refusal.AxisRange
    (row_answer (T.jumps l (facts c).lines) Refusal.PinJump
    (row_answer (T.before_due d (facts c).kind (facts c).time) Refusal.DueFirst
    (row_answer (T.beside_due d (facts c).kind (facts c).time) Refusal.NotDue accepted_answer))))))

start_outcome : (by : Starting) (now : Time) (n m : ℕ) → (o : Outcome) × (T.number o ≡ T.start_refusal by now n m)
unfolding T.start_refusal T.first_found T.refusal_number
start_outcome by now n m =
    row_answer (T.wrong_length (Some n)) Refusal.ImageLength
    (row_answer (T.turned_down by m) Refusal.ReservedCode
    (row_answer (T.late now) Refusal.TimeLimit accepted_answer))

-- the observers' replies that the definitions give
abbrev seen : Bma150 → Pins
seen t = record { interrupt = interrupt t; output = output t; data_output = data_output t; next_due = interaction_deadline t.sensor }

observed : (t : Bma150) → Observed t (seen t)
observed t = record { interrupt = refl; output = refl; data_output = refl; next_due = refl }

-- a lent list, wherever it stands
abbrev at_address : List ℕ → Bor (List ℕ)
at_address l = record { ref_ptr = (0, 0); now = l }

-- a list lent to be altered, wherever it stands
abbrev altered_at : List ℕ → MutBor (List ℕ)
altered_at l = record { ref_ptr = (0, 0); ghost_name = 0; now = l }

-- a report with these values
timed_report : (t : Timed) (q : Option Report) → (r : Option Report) × (report_values r ≡ reported (timed_adds t q))
unfolding timed_adds reported report_values
timed_report (Timed.Accelerations input) q = (None, refl)
timed_report (Timed.Supply rail) q = (q, refl)
timed_report Timed.Due q = (q, refl)
timed_report (Timed.Rising mosi) q = (None, refl)
timed_report Timed.Falling q = (None, refl)
timed_report (Timed.Pins before after) q = (None, refl)

-- an answer with the number and the values of the definitions
abbrev Says : Bma150 → Time → Timed → Vals.Answer → Type 0
Says s now t a = (T.number a ≡ number s (Call.At now t)) × (report_values (report_of a) ≡ reported (called s (Call.At now t)).adds)

answer_of : (s : Bma150) (now : Time) (t : Timed) → (a : Vals.Answer) × Says s now t a
unfolding T.number T.unless_refused adds reported report_values report_of
answer_of s now t = go (outcome_of s.last (interaction_deadline s.sensor) s.sensor.kept.lines (Call.At now t))
  where
    go : (o : Outcome) × (T.number o ≡ number s (Call.At now t)) → (a : Vals.Answer) × Says s now t a
    go (Ok _, e) = let w = timed_report t (served s now t).report in (Ok w.0, (e, rw (← e) w.1))
    go (Err why, e) = (Err why, (e, rw (← e, refused_number why) refl))

pub replies : (s : Bma150) (c : Call) → (t : Bma150) × (a : Answer) × Serves s c t a
replies s (Call.At now t) =
    let w = answer_of s now t in
    let r : Replied (Option Report) = record { sensor = step s (Call.At now t); answer = w.0 } in
    (r.sensor, replied w.0 t (report_of w.0) (seen r.sensor), Serves.timed r (seen r.sensor) (w.1.0, (refl, w.1.1)) (observed r.sensor))
replies s (Call.Temperature m) =
    let t = step s (Call.Temperature m) in
    (t, accepted Added.nothing (seen t), Serves.temperature t (seen t) refl (observed t))
replies s (Call.Select on) =
    let t = step s (Call.Select on) in
    (t, accepted Added.nothing (seen t), Serves.select t (seen t) refl (observed t))
replies s (Call.View address) =
    let v = viewed s.sensor address in
    (s, accepted (of_view v) (seen s), Serves.view v (seen s) (view_adds s address) (observed s))
replies s (Call.StoredImage now n) =
    let u = outcome_of s.last (interaction_deadline s.sensor) s.sensor.kept.lines (Call.StoredImage now n) in
    let zeros : List ℕ = replicate n 0 in
    let e : length zeros ≡ n = length-replicate n 0 in
    let left = altered_at (put_in (called s (Call.StoredImage now (length zeros))).adds zeros) in (
      s,
      handed u.0 left.now (seen s),
      Serves.stored_image ([], tt) (altered_at zeros) left u.0 (seen s) e (u.1 ∙ ap (λ (k : ℕ). number s (Call.StoredImage now k)) (sym e), refl) (observed s),
    )

-- ---- starts

-- the answer of a start: its number, and the observers' replies of the sensor that it hands out
abbrev pub start_answer : Start → Answer
start_answer b = record {
  number = start_number b.by b.time b.image;
  interrupt = interrupt (started b);
  output = output (started b);
  data_output = data_output (started b);
  adds = Added.nothing;
  next_due = interaction_deadline (started b).sensor;
}

-- a reply with the number and the sensor of the definitions, and the observers' replies
begun_is : (b : Start) (l : List ℕ) (r : Replied (Unit {0})) (o : Pins) → l ≡ b.image → T.number r.answer ≡ start_number b.by b.time l → r.sensor ≡ after_start b.by b.time l → Observed r.sensor o
    → (r.sensor ≡ started b) × (answered (T.number r.answer) Added.nothing o ≡ start_answer b)
begun_is b l r o h number sensor q =
    let e : r.sensor ≡ started b = sensor ∙ ap (λ (k : List ℕ). after_start b.by b.time k) h in
    let n : T.number r.answer ≡ start_number b.by b.time b.image = number ∙ ap (λ (k : List ℕ). start_number b.by b.time k) h in
    (e, rw (q.interrupt, drive_letter_injective _ _ q.output, drive_letter_injective _ _ q.data_output, moment_injective _ _ q.next_due, e, n))

pub begun : {b : Start} {s : Bma150} {a : Answer} → Begins b s a → (s ≡ started b) × (a ≡ start_answer b)
begun (Begins.checked {now} {image} κs lent r o h p q) = begun_is (record { by = Starting.Checked; time = now; image = image }) lent.now r o h p.0 p.1 q
begun (Begins.stored {now} {image} κs lent r o h p q) = begun_is (record { by = Starting.Stored; time = now; image = image }) lent.now r o h p.0 p.1 q

starts : (by : Starting) (now : Time) (image : List ℕ) → let b : Start = record { by = by; time = now; image = image } in Begins b (started b) (start_answer b)
starts Starting.Checked now image =
    let b : Start = record { by = Starting.Checked; time = now; image = image } in
    let u = start_outcome Starting.Checked now (length image) (measurement_of image) in
    let r : Replied (Unit {0}) = record { sensor = started b; answer = u.0 } in
    subst (λ (n : ℕ). Begins b (started b) (answered n Added.nothing (seen (started b)))) u.1
    (Begins.checked ([], tt) (at_address image) r (seen (started b)) refl (u.1, refl) (observed (started b)))
starts Starting.Stored now image =
    let b : Start = record { by = Starting.Stored; time = now; image = image } in
    let u = start_outcome Starting.Stored now (length image) (measurement_of image) in
    let r : Replied (Unit {0}) = record { sensor = started b; answer = u.0 } in
    subst (λ (n : ℕ). Begins b (started b) (answered n Added.nothing (seen (started b)))) u.1
    (Begins.stored ([], tt) (at_address image) r (seen (started b)) refl (u.1, refl) (observed (started b)))

pub starting : (b : Start) → Begins b (started b) (start_answer b)
starting b = starts b.by b.time b.image

-- ---- lent calls

pub lent_too : LentToo
lent_too = record {
  due_says = λ 𝓛 memory run κs s t now r. refl;
  pins_says = λ 𝓛 memory run κs s t now before after r. refl;
  due = λ s now.
      let w = answer_of s now Timed.Due in
      let t = step s (Call.At now Timed.Due) in
      (t, w.0, seen t, record { answers = w.1.0; leaves = refl; reports = w.1.1 }, observed t);
  pins = λ s now before after.
      let u = outcome_of s.last (interaction_deadline s.sensor) s.sensor.kept.lines (Call.At now (Timed.Pins before after)) in
      let t = step s (Call.At now (Timed.Pins before after)) in
      (t, u.0, seen t, record { answers = u.1; leaves = refl }, observed t);
}

pub contracts : Contracts
contracts = record {
  start = start_theorem.met;
  start_stored = start_stored_theorem.met;
  timed = timed_theorem.met;
  accelerations = accelerations_theorem.met;
  temperature = temperature_theorem.met;
  supply = supply_theorem.met;
  due = due_theorem.met;
  due_lent = due_lent_theorem.met;
  select = select_theorem.met;
  rising = rising_theorem.met;
  falling = falling_theorem.met;
  pins = pins_theorem.met;
  pins_lent = pins_lent_theorem.met;
  view = view_theorem.met;
  stored_image = stored_image_theorem.met;
  interrupt = interrupt_theorem.met;
  output = output_theorem.met;
  data_output = data_output_theorem.met;
  next_due = next_due_theorem.met;
}

pub ask_nothing : {M : Type 1} {𝓤 : Ura M} (𝓛 : Logic 𝓤) (memory : Memory → SProp 𝓤) (run : Routine → Fun 𝓤) → AskNothing 𝓤 𝓛 memory run
ask_nothing 𝓛 memory run = record {
  start = λ κs arguments g. refl;
  start_stored = λ κs arguments g. refl;
  timed = λ κs arguments g. refl;
  accelerations = λ κs arguments g. refl;
  temperature = λ κs arguments g. refl;
  supply = λ κs arguments g. refl;
  due = λ κs arguments g. refl;
  due_lent = λ κs arguments g. refl;
  select = λ κs arguments g. refl;
  rising = λ κs arguments g. refl;
  falling = λ κs arguments g. refl;
  pins = λ κs arguments g. refl;
  pins_lent = λ κs arguments g. refl;
  view = λ κs arguments g. refl;
  stored_image = λ κs arguments g. refl;
  interrupt = λ κs arguments g. refl;
  output = λ κs arguments g. refl;
  data_output = λ κs arguments g. refl;
  next_due = λ κs arguments g. refl;
}
