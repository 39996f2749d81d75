-- Demand 3 over the definitions: by induction over the list of calls.
use Prim.Native.Nat.{ℕ}
use native.Mathlib.Nat.{le_refl}
use mathlib.Core.Path.{◌≡◌, refl, sym, ap, subst, ◌∙◌}
use mathlib.Core.Bool.{Bool, true, false, cond}
use mathlib.Core.List.{List, [], ◌∷◌, ◌++◌}
use lib.Dec.{ltb, eqb}
use borrow.Author.Tests.{leb-true, le-ltb}
use Rattle.time.specs.declared.Time.{Time}
use Rattle.time.specs.Time.{ticks}
use Rattle.sensor.specs.declared.types.Kept.{Kept}
use Rattle.calls.specs.declared.types.Timed.TheVariants as Timed
use Rattle.calls.specs.declared.types.Call.{Call}
use Rattle.bma150.specs.declared.host.Bma150.{Bma150}
use Rattle.std.specs.Prelude.{Option, Some, None}
use Rattle.sensor.specs.declared.types.Outage.{Outage}
use Rattle.sensor.specs.declared.types.Sensor.{Sensor}
use Rattle.sensor.specs.Record.{away, cold_of, is_cold}
use Rattle.samples.specs.Samples.{sync_local_until}
use Rattle.sensor.specs.Image.{image_at, powered}
use Rattle.waits.specs.Supply.{supply_ok, returned, set_supply}
use Rattle.calls.specs.Facts.{timed_facts, facts}
use Rattle.calls.specs.Table as T
use Rattle.calls.proofs.Theorems.Left.{accepted_is, refused_is}
use Rattle.bma150.specs.Called.{Added, started, called, leaves, adds, effect, start_number, after_start}
use Rattle.book.specs.Does.{does}
use Rattle.book.specs.Lists.{Fits, accepts, step, Start, after, answers, accepted, Fractions, met_zero, last_kept, kept, Returns}
use Rattle.book.specs.Lists as L
use Rattle.book.specs.Book.{Book, book, with_rest, struck, opened, changed, entered, booked}
use Rattle.book.specs.Claim.{ending, left, stored_bytes, Claim}
use Rattle.book.proofs.Keeps.{Core, core, sync_keeps}
use Rattle.book.proofs.Sound.{running_of, read, filled_read, Sound, timely}
use Rattle.book.proofs.Steps.{Moved, moved}

-- ---- one call

-- accepted or refused
pub record Stepped (s : Bma150) (c : Call) : Type 0 where
  pub sound : Sound (core (step s c).sensor)
  pub entered : entered (read s) c ≡ read (step s c)
  pub zero : (cs : List Call) → met_zero (is_cold s.sensor) (cond (accepts s c) (c ∷ cs) cs) ≡ met_zero (is_cold (step s c).sensor) cs
  pub kept : (cs : List Call) → last_kept s.sensor.kept (cond (accepts s c) (c ∷ cs) cs) ≡ last_kept (step s c).sensor.kept cs

pub stepped : (s : Bma150) → Sound (core s.sensor) → (c : Call) → Fits c → Stepped s c
unfolding entered met_zero last_kept
stepped s h c d = go (accepts s c) refl
  where
    asked : entered (read s) c ≡ cond (accepts s c) (with_rest (changed (read s) s.sensor c) (struck (step s c))) (read s)
    asked = ap (λ (x : Bma150). cond (accepts x c) (with_rest (changed (read s) x.sensor c) (struck (step x c))) (read s)) (filled_read s)

    go : (b : Bool) → accepts s c ≡ b → Stepped s c
    go true p =
        let m : Moved (core s.sensor) (core (step s c).sensor) (does c) (changed (read s) s.sensor c) = subst (λ (t : Bma150). Moved (core s.sensor) (core t.sensor) (does c) (changed (read s) s.sensor c)) (sym (accepted_is _ s (leaves s c) p)) (moved s h c d p) in
        record {
          sound = m.sound;
          entered = asked ∙ ap (λ (b : Bool). cond b (with_rest (changed (read s) s.sensor c) (struck (step s c))) (read s)) p ∙ cc (m.cells, m.running);
          zero = λ cs. rw p (ap (λ (b : Bool). met_zero b cs) m.zero);
          kept = λ cs. rw p (ap (λ (k : Kept). last_kept k cs) m.kept);
        }
    go false p =
        let e : step s c ≡ s = refused_is _ s (leaves s c) p in
        record {
          sound = subst (λ (x : Bma150). Sound (core x.sensor)) (sym e) h;
          entered = asked ∙ ap (λ (b : Bool). cond b (with_rest (changed (read s) s.sensor c) (struck (step s c))) (read s)) p ∙ ap read (sym e);
          zero = λ cs. rw p (ap (λ (x : Bma150). met_zero (is_cold x.sensor) cs) (sym e));
          kept = λ cs. rw p (ap (λ (x : Bma150). last_kept x.sensor.kept cs) (sym e));
        }

-- ---- lists

pub record Ran (s : Bma150) (cs : List Call) : Type 0 where
  pub sound : Sound (core (after s cs).sensor)
  pub booked : booked (read s) cs ≡ read (after s cs)
  pub zero : met_zero (is_cold s.sensor) (accepted s cs) ≡ is_cold (after s cs).sensor
  pub kept : last_kept s.sensor.kept (accepted s cs) ≡ (after s cs).sensor.kept

ran : (s : Bma150) → Sound (core s.sensor) → (cs : List Call) → Fractions cs → Ran s cs
unfolding after accepted booked met_zero last_kept
ran s h [] d = record { sound = h; booked = refl; zero = refl; kept = refl }
ran s h (c ∷ cs) d =
    let p = stepped s h c d.0 in
    let r = ran (step s c) p.sound cs d.1 in
    record {
      sound = r.sound;
      booked = ap (λ (k : Book). booked k cs) p.entered ∙ r.booked;
      zero = p.zero (accepted (step s c) cs) ∙ r.zero;
      kept = p.kept (accepted (step s c) cs) ∙ r.kept;
    }

pub after_more : (s : Bma150) (cs ds : List Call) → after s (cs ++ ds) ≡ after (after s cs) ds
unfolding after
after_more s [] ds = refl
after_more s (c ∷ cs) ds = after_more (step s c) cs ds

pub booked_more : (k : Book) (cs ds : List Call) → booked k (cs ++ ds) ≡ booked (booked k cs) ds
unfolding booked
booked_more k [] ds = refl
booked_more k (c ∷ cs) ds = booked_more (entered k c) cs ds

-- ---- an accepted start

pub start_is : (b : Start) → start_number b.by b.time b.image ≡ 0 → L.started b ≡ started b.time b.image
unfolding after_start
start_is b p = accepted_is _ _ _ (ap (λ (n : ℕ). eqb n 0) p)

pub start_sound : (b : Start) → start_number b.by b.time b.image ≡ 0 → Sound (core (L.started b).sensor)
unfolding away
start_sound b p = subst (λ (x : Bma150). Sound (core x.sensor)) (sym (start_is b p)) (record { fine = tt; deaf = λ e. refl })

pub start_book : (b : Start) → start_number b.by b.time b.image ≡ 0 → opened b ≡ read (L.started b)
unfolding running_of
start_book b p =
    let e = start_is b p in
    ap (λ (x : Core). book x.cells (running_of x.writing) (struck (L.started b))) (sym (ap (λ (x : Bma150). core x.sensor) e))

-- after every list, not only one that ends in a return, the book's cells and running write are the sensor's
pub book_follows : (b : Start) → start_number b.by b.time b.image ≡ 0 → (cs : List Call) → Fractions cs → booked (opened b) cs ≡ read (after (L.started b) cs)
book_follows b p cs d = ap (λ (k : Book). booked k cs) (start_book b p) ∙ (ran (L.started b) (start_sound b p) cs d).booked

-- ---- a list that ends in a return from 0 mV

-- what the moment, the stored bytes and what is kept decide
abbrev fresh : Time → List ℕ → Kept → Bma150
fresh now cells k = record { sensor = powered now cells k; last = now }

returns_cold : (u : Sensor) (rail : ℕ) (now : Time) → ltb rail 2400 ≡ false → is_cold u ≡ true
    → (set_supply u rail now).sensor ≡ powered now u.nonvolatile u.kept
unfolding set_supply supply_ok returned cold_of
returns_cold u rail now high cold = rw high (go u.outage cold)
  where
    go : (o : Option Outage) → cold_of o ≡ true → supply_ok o u now ≡ powered now u.nonvolatile u.kept
    go None e = cc
    go (Some o) e = rw e

-- the stored-image call at that time hands out the bytes
hands_out : (now : Time) (cells : List ℕ) (k : Kept) → T.late now ≡ false → (called (fresh now cells k) (Call.StoredImage now 19)).adds ≡ Added.put cells
unfolding adds T.unless_refused T.refusal T.first_found facts T.wrong_length T.too_late T.goes_back T.out_of_range T.jumps T.before_due T.beside_due image_at
hands_out now cells k p = go (T.late now) (ltb (ticks now) (ticks now)) p (le-ltb (ticks now) (ticks now) (le_refl (ticks now)))
  where
    go : (a b : Bool) → a ≡ false → b ≡ false → cond (eqb (cond a 3 (cond b 4 0)) 0) (Added.put cells) Added.nothing ≡ Added.put cells
    go true b x y = cc
    go false true x y = cc
    go false false x y = refl

module _ (b : Start) (cs : List Call) (now : Time) (rail : ℕ) (h : Returns b cs now rail) where
  -- the sensor before the return
  abbrev before : Bma150
  before = after (L.started b) cs

  abbrev supply : Call
  supply = Call.At now (Timed.Supply rail)

  run : Ran (L.started b) cs
  run = ran (L.started b) (start_sound b h.start_accepted) cs h.fractions

  -- it met 0 mV while the supply is away
  met : is_cold before.sensor ≡ true
  unfolding cold_of
  met = sym run.zero ∙ ap (λ (x : Bma150). met_zero (is_cold x.sensor) (accepted (L.started b) cs)) (start_is b h.start_accepted) ∙ h.from_zero

  before_keeps : core (sync_local_until before.sensor now false) ≡ core before.sensor
  before_keeps = (sync_keeps before.sensor now false).same

  pub left_fresh : left b cs now rail ≡ fresh now before.sensor.nonvolatile before.sensor.kept
  unfolding after leaves effect
  left_fresh =
      after_more (L.started b) cs (supply ∷ [])
      ∙ accepted_is _ before (leaves before supply) h.supply_accepted
      ∙ ap {B = Bma150} (λ (x : Sensor). record { sensor = x; last = now })
      (returns_cold (sync_local_until before.sensor now false) rail now
      (le-ltb rail 2400 (leb-true 2400 rail h.with_supply))
      (ap (λ (k : Core). cold_of k.outage) before_keeps ∙ met)
      ∙ ap (λ (k : Core). powered now k.cells k.kept) before_keeps)

  early : T.late now ≡ false
  unfolding facts timed_facts
  early = (timely before.last before.sensor now supply h.supply_accepted _ _ refl).early

  bytes_are : stored_bytes b cs now rail ≡ Added.put before.sensor.nonvolatile
  bytes_are = ap (λ (x : Bma150). (called x (Call.StoredImage now 19)).adds) left_fresh ∙ hands_out now before.sensor.nonvolatile before.sensor.kept early

  pub book_is : booked (opened b) (ending cs now rail) ≡ read (left b cs now rail)
  unfolding booked after
  book_is =
      booked_more (opened b) cs (supply ∷ [])
      ∙ ap (λ (k : Book). entered (booked k cs) supply) (start_book b h.start_accepted)
      ∙ ap (λ (k : Book). entered k supply) run.booked
      ∙ (stepped before run.sound supply tt).entered
      ∙ ap read (sym (after_more (L.started b) cs (supply ∷ [])))

  stored_half : stored_bytes b cs now rail ≡ Added.put (booked (opened b) (ending cs now rail)).cells
  stored_half = bytes_are ∙ ap Added.put (sym (ap (λ (k : Book). k.cells) book_is ∙ ap (λ (x : Bma150). x.sensor.nonvolatile) left_fresh))

  kept_is : kept b cs ≡ before.sensor.kept
  kept_is = sym (ap (λ (x : Bma150). last_kept x.sensor.kept (accepted (L.started b) cs)) (start_is b h.start_accepted)) ∙ run.kept

-- the bytes put
unfoldable pub bytes_of : Added → List ℕ
bytes_of Added.nothing = []
bytes_of (Added.report values) = []
bytes_of (Added.viewed value mark) = []
bytes_of (Added.put bytes) = bytes

same_half : (b d : Start) (cs ds : List Call) (now : Time) (rail power : ℕ) → Returns b cs now rail → Returns d ds now power
    → stored_bytes b cs now rail ≡ stored_bytes d ds now power → kept b cs ≡ kept d ds
    → (further : List Call) → answers (left b cs now rail) further ≡ answers (left d ds now power) further
unfolding bytes_of
same_half b d cs ds now rail power h g bytes same further =
    let s = (before b cs now rail h).sensor in
    let u = (before d ds now power g).sensor in
    let c : s.nonvolatile ≡ u.nonvolatile = ap bytes_of (sym (bytes_are b cs now rail h) ∙ bytes ∙ bytes_are d ds now power g) in
    let k : s.kept ≡ u.kept = sym (kept_is b cs now rail h) ∙ same ∙ kept_is d ds now power g in
    let e : fresh now s.nonvolatile s.kept ≡ fresh now u.nonvolatile u.kept = ap (λ (x : List ℕ). fresh now x s.kept) c ∙ ap (λ (x : Kept). fresh now u.nonvolatile x) k in
    ap (λ (x : Bma150). answers x further) (left_fresh b cs now rail h ∙ e ∙ sym (left_fresh d ds now power g))

pub claim : Claim
claim = record { stored = λ b cs now rail h. stored_half b cs now rail h; same = same_half }
