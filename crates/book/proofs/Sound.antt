-- What holds of every sensor of a list, and what acceptance says of a running write's end.
use Rattle.std.specs.Prelude.{Option}
use Rattle.std.specs.Prelude.{Some, None}
use Rattle.sensor.specs.Operation.{Operation}
use Rattle.i2c.specs.declared.types.Levels.{Levels}
use Prim.Native.Nat.{ℕ, ◌+◌, ◌*◌, ◌^◌, ◌≤◌, ◌<◌}
use native.Mathlib.Omega.{arith}
use native.Mathlib.Nat.{le_antisymm}
use mathlib.Core.Path.{◌≡◌, refl, sym, ap, subst, ◌∙◌}
use mathlib.Core.Bool.{Bool, true, false, cond}
use mathlib.Core.List.{[], ◌∷◌, Memᴰ}
use lib.Dec.{leb, eqb, lit≤}
use lib.Arith.{digits_lt}
use borrow.Author.Tests.{leb-true, leb-false, lt-leb, le-leb, eqb-true}
use Rattle.std.proofs.lemmas.Bool.{eqb-false, not-false, false_from_ne_true}
use Rattle.time.specs.declared.Time.{Time}
use Rattle.analog.specs.Axis.{Acceleration}
use Rattle.time.specs.Time.{ticks, same}
use Rattle.time.specs.Theorems.Laws.{ticks_time_below}
use Rattle.nv.specs.Cell.{write_length}
use Rattle.nv.specs.Cycle as Cycle
use Rattle.deadlines.specs.Deadlines.{is_at, is_by, earliest}
use Rattle.deadlines.proofs.Theorems.Earliest.{earliest_by_each}
use Rattle.sensor.specs.declared.types.StoredWrite.{StoredWrite}
use Rattle.sensor.specs.declared.types.Sensor.{Sensor}
use Rattle.sensor.specs.Record.{with_writing, is_off, automatic}
use Rattle.sensor.specs.Record as Record
use Rattle.samples.specs.Samples.{write_end, sample_due, next_deadline, interaction_deadline}
use Rattle.calls.specs.Table as T
use Rattle.calls.specs.declared.types.Call.{Call}
use Rattle.calls.specs.declared.types.Kind.TheVariants as Kind
use Rattle.calls.specs.declared.types.Facts.{Facts}
use Rattle.calls.specs.Facts.{at, facts}
use Rattle.calls.proofs.Theorems.Left.{clear}
use Rattle.bma150.specs.declared.host.Bma150.{Bma150}
use Rattle.book.specs.Book.{Running, Book, book, struck, operation, filled, completing, completed, closed}
use Rattle.book.specs.Book as B
use Rattle.book.proofs.Keeps.{Core, core}
use Rattle.book.proofs.Parts.{off}

-- ---- a sensor as a book

unfoldable pub running_of : Operation → Option Running
running_of None = None
running_of (Some w) = Some (record { address = w.address; wanted = w.value; began = w.cycle.started })

abbrev pub read : Bma150 → Book
read s = book s.sensor.nonvolatile (running_of s.sensor.writing) (struck s)

operation_running : (op : Operation) → operation (running_of op) ≡ op
unfolding operation running_of
operation_running None = refl
operation_running (Some w) = refl

pub running_operation : (r : Option Running) → running_of (operation r) ≡ r
unfolding operation running_of
running_operation None = refl
running_operation (Some w) = refl

pub runs_running : (op : Operation) → B.runs (running_of op) ≡ Record.runs op
unfolding B.runs Record.runs running_of
runs_running None = refl
runs_running (Some w) = refl

pub filled_read : (s : Bma150) → filled (read s) ≡ s
filled_read s = ap (λ (o : Operation). record { sensor = with_writing s.sensor (o); last = s.last }) (operation_running s.sensor.writing)

-- ---- what holds of every sensor of a list: a write runs only with supply and its end does not wrap; without it SPI is deselected

abbrev end_of : StoredWrite → ℕ
end_of w = ticks w.cycle.started + write_length

abbrev pub Fine : Operation → Bool → Type 0
Fine None out = Unit {0}
Fine (Some w) out = (out ≡ false) × (end_of w < 2 ^ 128)

pub record Sound (k : Core) : Type 0 where
  pub fine : Fine k.writing (off k)
  pub deaf : off k ≡ true → k.selected ≡ false

-- ---- next due is at or before the end of a running write

ends_by : (s : Sensor) (w : StoredWrite) → s.writing ≡ Some w → is_off s ≡ false
    → is_by (interaction_deadline s) (Cycle.deadline w.cycle) ≡ true
unfolding next_deadline write_end
ends_by s w e o = rw o p
  where
    m : Memᴰ (Some (Cycle.deadline w.cycle)) (s.deadlines.serial_ready ∷ sample_due s (automatic s) ∷ s.deadlines.wake ∷ s.deadlines.pause ∷ s.deadlines.quiet ∷ s.deadlines.irq_hold ∷ Some (Cycle.deadline w.cycle) ∷ s.deadlines.image ∷ [])
    m = Memᴰ.tail (Memᴰ.tail (Memᴰ.tail (Memᴰ.tail (Memᴰ.tail (Memᴰ.tail (Memᴰ.head refl))))))

    p : is_by (earliest s.deadlines (sample_due s (automatic s)) (write_end s.writing)) (Cycle.deadline w.cycle) ≡ true
    p = ap (λ (o : Operation). is_by (earliest s.deadlines (sample_due s (automatic s)) (write_end o)) (Cycle.deadline w.cycle)) e
        ∙ earliest_by_each s.deadlines (sample_due s (automatic s)) (Some (Cycle.deadline w.cycle)) (Cycle.deadline w.cycle) m

lt_le : (n d t e : ℕ) → d ≤ t → n < d → t ≡ e → n < e
lt_le n d t e p q r = omega arith

eq_le : (n d t e : ℕ) → d ≤ t → d ≡ n → t ≡ e → n ≤ e
eq_le n d t e p q r = omega arith

-- not by now, but by t: now is before t
before : (d : Option Time) (t now : Time) (e : ℕ) → is_by d t ≡ true → is_by d now ≡ false → ticks t ≡ e → ticks now < e
unfolding is_by
before None t now e p q r = absurd (let z : ◌≡◌ {A = ℕ} 0 1 = cc in omega arith)
before (Some u) t now e p q r = lt_le (ticks now) (ticks u) (ticks t) e (leb-true (ticks u) (ticks t) p) (leb-false (ticks u) (ticks now) q) r

-- at now, and by t: now is at t or before it
until : (d : Option Time) (t now : Time) (e : ℕ) → is_by d t ≡ true → is_at d now ≡ true → ticks t ≡ e → ticks now ≤ e
unfolding is_by is_at
until None t now e p q r = absurd (let z : ◌≡◌ {A = ℕ} 0 1 = cc in omega arith)
until (Some u) t now e p q r = eq_le (ticks now) (ticks u) (ticks t) e (leb-true (ticks u) (ticks t) p) (eqb-true (ticks u) (ticks now) q) r

-- ---- an accepted call other than the due call completes no write in the book
pub not_over : (s : Bma150) → Sound (core s.sensor) → (now : Time) → is_by (interaction_deadline s.sensor) now ≡ false → completed (read s) now ≡ read s
unfolding completing running_of
not_over s h now d = go s.sensor.writing refl
  where
    go : (op : Operation) → s.sensor.writing ≡ op → completing (running_of op) (read s) now ≡ read s
    go None e = refl
    go (Some w) e =
        let f : (is_off s.sensor ≡ false) × (end_of w < 2 ^ 128) = subst (λ (o : Operation). Fine o (is_off s.sensor)) e h.fine in
        let l : ticks now < end_of w = before (interaction_deadline s.sensor) (Cycle.deadline w.cycle) now (end_of w) (ends_by s.sensor w e f.0) d (ticks_time_below (end_of w) f.1) in
        ap (λ (b : Bool). cond b (closed (read s) (record { address = w.address; wanted = w.value; began = w.cycle.started }) w.value) (read s)) (lt-leb (end_of w) (ticks now) l)

-- a due call completes it in the book exactly where it ends at this moment
last_moment : (e n : ℕ) → n ≤ e → leb e n ≡ eqb e n
last_moment e n p = go (eqb e n) refl
  where
    go : (b : Bool) → eqb e n ≡ b → leb e n ≡ b
    go true q = le-leb e n (omega (arith, eqb-true e n q))
    go false q = false_from_ne_true (leb e n) (λ r. eqb-false e n q (le_antisymm (leb-true e n r) p))

pub over_now : (s : Sensor) → Sound (core s) → (now : Time) → is_at (interaction_deadline s) now ≡ true
    → (w : StoredWrite) → s.writing ≡ Some w
    → leb (ticks w.cycle.started + write_length) (ticks now) ≡ same (Cycle.deadline w.cycle) now
over_now s h now d w e =
    let f : (is_off s ≡ false) × (end_of w < 2 ^ 128) = subst (λ (o : Operation). Fine o (is_off s)) e h.fine in
    let t : ticks (Cycle.deadline w.cycle) ≡ end_of w = ticks_time_below (end_of w) f.1 in
    let l : ticks now ≤ end_of w = until (interaction_deadline s) (Cycle.deadline w.cycle) now (end_of w) (ends_by s w e f.0) d t in
    last_moment (end_of w) (ticks now) l ∙ ap (λ (n : ℕ). eqb n (ticks now)) (sym t)

-- a write that begins at an accepted time ends without a wrap
plus_lt : (a b d m : ℕ) → a < b → b + d ≤ m → a + d < m
plus_lt a b d m p q = omega arith

pub end_fits : (now : Time) → T.late now ≡ false → now.1 < 2 ^ 64 → ticks now + write_length < 2 ^ 128
unfolding T.late
end_fits now p q = plus_lt (ticks now) (2 ^ 32 * 2 ^ 64) write_length (2 ^ 128) (digits_lt (leb-false (2 ^ 32) now.0 p) q) (lit≤ tt)

-- ---- acceptance

pub record Timely (s : Sensor) (now : Time) : Type 0 where
  pub early : T.late now ≡ false
  pub free : is_by (interaction_deadline s) now ≡ false

-- what the table finds not to be so of an accepted timed call
module _ (last : Time) (s : Sensor) (now : Time) (c : Call) (p : eqb (T.refusal last (interaction_deadline s) s.kept.lines c) 0 ≡ true) where
  pub timely : (axes : Option Acceleration) (from : Option Levels) → facts c ≡ record { kind = Kind.Timed; time = Some now; bytes = None; axes = axes; lines = from } → Timely s now
  unfolding T.too_late T.before_due T.due_by
  timely axes from e =
      let q = clear last (interaction_deadline s) s.kept.lines c p in
      record {
        early = sym (ap (λ (f : Facts). T.too_late f.time) e) ∙ q.1.0;
        free = sym (ap (λ (f : Facts). T.before_due (interaction_deadline s) f.kind f.time) e) ∙ q.1.1.1.1.1.0;
      }

  pub due_now : facts c ≡ at Kind.Due now → is_at (interaction_deadline s) now ≡ true
  unfolding T.beside_due T.due_at
  due_now e =
      let q = clear last (interaction_deadline s) s.kept.lines c p in
      not-false (is_at (interaction_deadline s) now) (sym (ap (λ (f : Facts). T.beside_due (interaction_deadline s) f.kind f.time) e) ∙ q.1.1.1.1.1.1.0)
