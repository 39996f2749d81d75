-- The book's cells are their closed form, for every accepted start and every list of calls.
use Rattle.std.specs.Prelude.{ℕ, zero, suc, ◌+◌, ◌-◌, ◌≤◌, ◌<◌, ◌≡◌, refl, Bool, true, false, not, ◌&&◌, leb, ltb, length, get_or, set, Option, Some, None}
use Rattle.std.proofs.Common.{arith, le_of_suc-le-suc, add-zero, not-suc-le-zero, sym, subst, ◌∙◌, get_or-set_same, get_or-set_other, ext_get_or, leb-true, le-leb, eqb-true}
use Rattle.std.proofs.Math.Path.{ap}
use Rattle.std.proofs.Math.Bool.{cond, and-false}
use mathlib.Core.List.{List, [], ◌∷◌, map}
use Rattle.std.proofs.Math.Dec.{eqb}
use Rattle.std.proofs.lemmas.List.{length-map}
use Rattle.std.proofs.lemmas.Bool.{eqb-false, not-true, and_parts, cond_both}
use Rattle.time.specs.declared.Time.{Time}
use Rattle.time.specs.Time.{ticks}
use Rattle.nv.specs.Cell.{write_length}
use Rattle.registers.specs.declared.access.Gate.{Gate}
use Rattle.registers.specs.Access.{stored, ignores, begins}
use Rattle.calls.specs.declared.types.Call.{Call}
use Rattle.calls.proofs.Theorems.Left.{start_length}
use Rattle.sensor.specs.declared.types.Sensor.{Sensor}
use Rattle.sensor.specs.Record.{gate}
use Rattle.sensor.specs.Image.{cell_byte, with_cell}
use Rattle.bma150.specs.declared.host.Bma150.{Bma150}
use Rattle.bma150.specs.Called.{start_number}
use Rattle.effects.specs.Theorems.Sizes.{cell_length}
use Rattle.book.specs.Does.{Asked, does}
use Rattle.book.specs.Lists.{Start, accepts, step}
use Rattle.book.specs.Book.{Running, Book, book, with_rest, struck, opened, filled, closed, completing, completed, cutting, supplied, runs, accepted_write, of_write, began, changed_at, changed, entered, booked}
use Rattle.book.specs.Closed.{Entry, with_entry, entries, Fate, Wrote, with_fate, is_running, as_running, that_runs, ended, completed_at, is_low, cut_at, with_write, begun, after_entry, written, writes, left_by, cell_holds, latest, told, addresses, cells_after}

-- ---- one cell is set

first_cell : (a : ℕ) → stored a ≡ true → 0x2b ≤ a
unfolding stored
first_cell a e = leb-true 0x2b a (and_parts (leb 0x2b a) (leb a 0x3d) e).0

last_cell : (a : ℕ) → stored a ≡ true → a ≤ 0x3d
unfolding stored
last_cell a e = leb-true a 0x3d (and_parts (leb 0x2b a) (leb a 0x3d) e).1

cell_set : (image : List ℕ) (a v : ℕ) → stored a ≡ true → length image ≡ 19 → cell_byte (with_cell image a v) a ≡ v
unfolding cell_byte with_cell
cell_set image a v e n = rw e (get_or-set_same image (a - 0x2b) v 0 (omega (arith, first_cell a e, last_cell a e)))

cell_other : (image : List ℕ) (a v x : ℕ) → stored a ≡ true → (a ≡ x → ⊥) → cell_byte (with_cell image a v) x ≡ cell_byte image x
unfolding cell_byte with_cell
cell_other image a v x e other = rw e (go (stored x) refl)
  where
    go : (b : Bool) → stored x ≡ b → cond b (get_or (set image (a - 0x2b) v) (x - 0x2b) 0) 0 ≡ cond b (get_or image (x - 0x2b) 0) 0
    go true p = get_or-set_other image (a - 0x2b) (x - 0x2b) v 0 (λ q. other (omega (arith, first_cell a e, first_cell x p)))
    go false p = refl

-- ---- the writes that began

-- every address is one of 2b..3d, and none but the latest runs
abbrev Proper : List Wrote → Type 0
Proper [] = Unit {0}
Proper (w ∷ earlier) = (stored w.address ≡ true) × (that_runs earlier ≡ None) × Proper earlier

-- a write that is over, or has time left, stays as it is
stays : (f : Fate) (over : Bool) (w : Wrote) → is_running w.fate ≡ false → ended f over w ≡ w
unfolding ended
stays f over w e = rw e

goes_on : (f : Fate) (w : Wrote) → ended f false w ≡ w
unfolding ended
goes_on f w = rw (and-false (is_running w.fate))

ends : (f : Fate) (w : Wrote) → is_running w.fate ≡ true → ended f true w ≡ with_fate w f
unfolding ended
ends f w e = rw e

-- each write that runs and is over has its fate
abbrev all_ended : (Wrote → Fate) → (Wrote → Bool) → List Wrote → List Wrote
all_ended f t l = map (λ (w : Wrote). ended (f w) (t w) w) l

-- where none runs all stay
none_ends : (f : Wrote → Fate) (t : Wrote → Bool) (l : List Wrote) → that_runs l ≡ None → all_ended f t l ≡ l
unfolding that_runs
none_ends f t [] e = refl
none_ends f t (w ∷ l) e = go (is_running w.fate) refl e (none_ends f t l)
  where
    go : (b : Bool) → is_running w.fate ≡ b → cond b (Some (as_running w)) (that_runs l) ≡ None
        → (that_runs l ≡ None → all_ended f t l ≡ l)
        → all_ended f t (w ∷ l) ≡ w ∷ l
    go true p q r = cc
    go false p q r = cc (stays (f w) (t w) w p, r q)

-- the write that runs
runs_first : (w : Wrote) (l : List Wrote) → is_running w.fate ≡ true → that_runs (w ∷ l) ≡ Some (as_running w)
unfolding that_runs
runs_first w l e = rw e

runs_later : (w : Wrote) (l : List Wrote) → is_running w.fate ≡ false → that_runs (w ∷ l) ≡ that_runs l
unfolding that_runs
runs_later w l e = rw e

-- a running write leaves its cell as it was
leaves_old : (f : Fate) (old wanted address : ℕ) → is_running f ≡ true → left_by f old wanted address ≡ old
unfolding left_by is_running
leaves_old Fate.running old wanted address e = refl
leaves_old Fate.completed old wanted address e = cc
leaves_old (Fate.cut elapsed) old wanted address e = cc

unseen : (image : List ℕ) (w : Wrote) (l : List Wrote) (address : ℕ) → is_running w.fate ≡ true → cell_holds image (w ∷ l) address ≡ cell_holds image l address
unfolding cell_holds
unseen image w l address e = cond_both (eqb w.address address) _ _ (λ (x : ℕ). x ≡ cell_holds image l address) (λ p. leaves_old w.fate (cell_holds image l address) w.wanted address e) (λ p. refl)

-- ---- book and list agree: the cells and the running write of the one are those of the other

record Agrees (image : List ℕ) (k : Book) (l : List Wrote) : Type 0 where
  pub size : length k.cells ≡ 19
  pub running : k.running ≡ that_runs l
  pub cells : (address : ℕ) → cell_byte k.cells address ≡ cell_holds image l address
  pub proper : Proper l

same_agrees : {image : List ℕ} {k n : Book} {l m : List Wrote} → Agrees image k l → n ≡ k → m ≡ l → Agrees image n m
same_agrees {image = image} {k = k} {n = n} {l = l} {m = m} h p q = subst (λ (x : Book). Agrees image x m) (sym p) (subst (λ (x : List Wrote). Agrees image k x) (sym q) h)

-- a write is over with this fate: its cell holds what that leaves
abbrev left_closed : Book → Wrote → Fate → Book
left_closed k w f = closed k (as_running w) (left_by f (cell_byte k.cells w.address) w.wanted w.address)

closing : (image : List ℕ) (k : Book) (w : Wrote) (l : List Wrote) (f : Fate) → is_running w.fate ≡ true → is_running f ≡ false → Agrees image k (w ∷ l)
    → Agrees image (left_closed k w f) (with_fate w f ∷ l)
unfolding cell_holds
closing image k w l f e n h =
    record {
      size = cell_length _ _ _ h.size;
      running = sym (runs_later (with_fate w f) l n ∙ h.proper.1);
      cells = λ a. go a (eqb w.address a) refl;
      proper = h.proper;
    }
  where
    value : ℕ
    value = left_by f (cell_byte k.cells w.address) w.wanted w.address

    before : (a : ℕ) → cell_byte k.cells a ≡ cell_holds image l a
    before a = h.cells a ∙ unseen image w l a e

    own : (a : ℕ) → w.address ≡ a → cell_byte (with_cell k.cells w.address value) a ≡ left_by f (cell_holds image l a) w.wanted a
    own a p =
        subst (λ (x : ℕ). cell_byte (with_cell k.cells w.address value) x ≡ left_by f (cell_holds image l x) w.wanted x) p
        (cell_set k.cells w.address value h.proper.0 h.size ∙ ap (λ (x : ℕ). left_by f x w.wanted w.address) (before w.address))

    go : (a : ℕ) (b : Bool) → eqb w.address a ≡ b
        → cell_byte (with_cell k.cells w.address value) a ≡ cond b (left_by f (cell_holds image l a) w.wanted a) (cell_holds image l a)
    go a true p = own a (eqb-true w.address a p)
    go a false p = cell_other k.cells w.address value a h.proper.0 (eqb-false w.address a p) ∙ before a

-- a step of the book that closes its running write where a test of it holds, and the same of the list
over : (image : List ℕ) (k : Book) (f : Wrote → Fate) (t : Wrote → Bool) (next : Option Running → Book)
    → next None ≡ k
    → ((w : Wrote) → next (Some (as_running w)) ≡ cond (t w) (left_closed k w (f w)) k)
    → ((w : Wrote) → is_running (f w) ≡ false)
    → (l : List Wrote) → Agrees image k l
    → Agrees image (next k.running) (all_ended f t l)
unfolding that_runs
over image k f t next idle one last l h = same_agrees (by_list l h) (ap next h.running) refl
  where
    rest_stays : (w : Wrote) (l : List Wrote) → Agrees image k (w ∷ l) → all_ended f t (w ∷ l) ≡ ended (f w) (t w) w ∷ l
    rest_stays w l h = ap (λ (x : List Wrote). ended (f w) (t w) w ∷ x) (none_ends f t l h.proper.1)

    by_test : (w : Wrote) (l : List Wrote) → Agrees image k (w ∷ l) → is_running w.fate ≡ true → (b : Bool) → t w ≡ b
        → Agrees image (next (Some (as_running w))) (ended (f w) (t w) w ∷ l)
    by_test w l h e true p =
        same_agrees (closing image k w l (f w) e (last w) h)
        (one w ∙ ap (λ (b : Bool). cond b (left_closed k w (f w)) k) p)
        (ap (λ (b : Bool). ended (f w) b w ∷ l) p ∙ ap (λ (x : Wrote). x ∷ l) (ends (f w) w e))
    by_test w l h e false p =
        same_agrees h
        (one w ∙ ap (λ (b : Bool). cond b (left_closed k w (f w)) k) p)
        (ap (λ (b : Bool). ended (f w) b w ∷ l) p ∙ ap (λ (x : Wrote). x ∷ l) (goes_on (f w) w))

    by_fate : (w : Wrote) (l : List Wrote) → Agrees image k (w ∷ l) → (b : Bool) → is_running w.fate ≡ b
        → Agrees image (next (that_runs (w ∷ l))) (ended (f w) (t w) w ∷ l)
    by_fate w l h true e = same_agrees (by_test w l h e (t w) refl) (ap next (runs_first w l e)) refl
    by_fate w l h false e =
        same_agrees h (ap next (runs_later w l e ∙ h.proper.1) ∙ idle) (ap (λ (x : Wrote). x ∷ l) (stays (f w) (t w) w e))

    by_list : (l : List Wrote) → Agrees image k l → Agrees image (next (that_runs l)) (all_ended f t l)
    by_list [] h = same_agrees h idle refl
    by_list (w ∷ l) h = same_agrees (by_fate w l h (is_running w.fate) refl) refl (rest_stays w l h)

-- ---- 01's three steps

completed_agrees : (image : List ℕ) (k : Book) (l : List Wrote) (now : Time) → Agrees image k l → Agrees image (completed k now) (map (completed_at now) l)
unfolding completing left_by is_running
completed_agrees image k l now h =
    over image k (λ w. Fate.completed) (λ w. leb (ticks w.began + write_length) (ticks now)) (λ r. completing r k now) refl (λ w. refl) (λ w. refl) l h

supplied_agrees : (image : List ℕ) (k : Book) (l : List Wrote) (rail : Option ℕ) (now : Time) → Agrees image k l → Agrees image (supplied rail k now) (map (cut_at rail now) l)
unfolding supplied cutting is_low left_by is_running
supplied_agrees image k l None now h =
    over image k (λ w. Fate.cut (ticks now - ticks w.began)) (λ w. false) (λ r. k) refl (λ w. refl) (λ w. refl) l h
supplied_agrees image k l (Some rail) now h =
    over image k (λ w. Fate.cut (ticks now - ticks w.began)) (λ w. ltb rail 2400) (λ r. cond (ltb rail 2400) (cutting r k now) k)
    (cond_both (ltb rail 2400) _ _ (λ (x : Book). x ≡ k) (λ e. refl) (λ e. refl)) (λ w. refl) (λ w. refl) l h

none_runs : (r : Option Running) → runs r ≡ false → r ≡ None
unfolding runs
none_runs None e = refl
none_runs (Some w) e = cc

-- a write begins only at an address of 2b..3d and where none runs
begins_where : (address value : ℕ) (g : Gate) (running : Bool) → begins address value g running ≡ true → (stored address ≡ true) × (running ≡ false)
unfolding begins
begins_where address value g running e =
    let p = and_parts (stored address && not running) (not (ignores address value g)) e in
    let q = and_parts (stored address) (not running) p.0 in
    (q.0, not-true running q.1)

-- it is put in front and leaves every cell
write_agrees : (image : List ℕ) (k : Book) (l : List Wrote) (address value : ℕ) (now : Time) → Agrees image k l → stored address ≡ true → that_runs l ≡ None
    → Agrees image (book k.cells (of_write (Some (address, value)) now) k.rest) (with_write (Some (address, value)) now l)
unfolding of_write with_write that_runs is_running
write_agrees image k l address value now h p q =
    record {
      size = h.size;
      running = refl;
      cells = λ a. h.cells a ∙ sym (unseen image (record { address = address; wanted = value; began = now; fate = Fate.running }) l a refl);
      proper = (p, q, h.proper);
    }

begun_agrees : (image : List ℕ) (k : Book) (l : List Wrote) (a : Asked) (now : Time) → Agrees image k l → Agrees image (began k a now) (begun a now l)
unfolding began begun accepted_write
begun_agrees image k l a now h =
    same_agrees (by_write a.write) (ap (λ (r : Option Running). cond (accepted_write a.write a.meets (runs r)) (book k.cells (of_write a.write now) k.rest) k) h.running) refl
  where
    by_test : (address value : ℕ) (b : Bool) → begins address value (gate a.meets) (runs (that_runs l)) ≡ b
        → Agrees image (cond b (book k.cells (of_write (Some (address, value)) now) k.rest) k) (cond b (with_write (Some (address, value)) now l) l)
    by_test address value true p =
        let q = begins_where address value (gate a.meets) (runs (that_runs l)) p in
        write_agrees image k l address value now h q.0 (none_runs (that_runs l) q.1)
    by_test address value false p = h

    by_write : (w : Option (ℕ × ℕ))
        → Agrees image (cond (accepted_write w a.meets (runs (that_runs l))) (book k.cells (of_write w now) k.rest) k)
        (cond (accepted_write w a.meets (runs (that_runs l))) (with_write w now l) l)
    by_write None = h
    by_write (Some (address, value)) = by_test address value (begins address value (gate a.meets) (runs (that_runs l))) refl

-- ---- one call, and every list of calls

entry_agrees : (image : List ℕ) (k : Book) (l : List Wrote) (e : Entry) → Agrees image k l
    → Agrees image (began (supplied e.rail (completed k e.time) e.time) e.asked e.time) (after_entry l e)
entry_agrees image k l e h =
    begun_agrees image _ _ e.asked e.time (supplied_agrees image _ _ e.rail e.time (completed_agrees image k l e.time h))

-- the record that the definitions keep is not part of it
rest_agrees : {image : List ℕ} {k : Book} {l : List Wrote} (rest : Bma150) → Agrees image k l → Agrees image (with_rest k rest) l
rest_agrees rest h = record { size = h.size; running = h.running; cells = h.cells; proper = h.proper }

-- what holds of the list after this call holds of it before the call's entry comes
entered_agrees : (image : List ℕ) (k : Book) (c : Call) (l : List Wrote) (later : List Entry) (P : List Wrote → Type 0) → Agrees image k l
    → ((m : List Wrote) → Agrees image (entered k c) m → P (written m later))
    → P (written l (cond (accepts (filled k) c) (with_entry (does c).time (does c) (filled k).sensor later) later))
unfolding entered changed_at with_entry written
entered_agrees image k c l later P h next = go (accepts (filled k) c) next
  where
    rest : Bma150
    rest = struck (step (filled k) c)

    s : Sensor
    s = (filled k).sensor

    by_time : (time : Option Time) → ((m : List Wrote) → Agrees image (with_rest (changed_at time (does c) k s) rest) m → P (written m later))
        → P (written l (with_entry time (does c) s later))
    by_time None next = next l (rest_agrees rest h)
    by_time (Some now) next = next _ (rest_agrees rest (entry_agrees image k l (record { time = now; rail = (does c).rail; asked = (does c).asks s }) h))

    go : (b : Bool) → ((m : List Wrote) → Agrees image (cond b (with_rest (changed k s c) rest) k) m → P (written m later))
        → P (written l (cond b (with_entry (does c).time (does c) s later) later))
    go true next = by_time (does c).time next
    go false next = next l h

booked_agrees : (image : List ℕ) (k : Book) (cs : List Call) (l : List Wrote) → Agrees image k l → Agrees image (booked k cs) (written l (entries k cs))
unfolding booked entries written
booked_agrees image k [] l h = h
booked_agrees image k (c ∷ cs) l h =
    entered_agrees image k c l (entries (entered k c) cs) (λ m. Agrees image (booked (entered k c) cs) m) h
    (λ m p. booked_agrees image (entered k c) cs m p)

-- ---- the sentence

-- a cell's byte by the latest write to it
pub holds_told : (image : List ℕ) (l : List Wrote) (address : ℕ) → cell_holds image l address ≡ told image address (latest address l)
unfolding cell_holds latest told
holds_told image [] address = refl
holds_told image (w ∷ l) address = go (eqb w.address address) (holds_told image l address)
  where
    go : (b : Bool) → cell_holds image l address ≡ told image address (latest address l)
        → cond b (left_by w.fate (cell_holds image l address) w.wanted address) (cell_holds image l address)
        ≡ told image address (cond b (Some (record { write = w; earlier = l })) (latest address l))
    go true e = refl
    go false e = e

-- ---- the addresses in order

length_addresses : (first n : ℕ) → length (addresses first n) ≡ n
unfolding addresses
length_addresses first zero = refl
length_addresses first (suc n) = ap suc (length_addresses (first + 1) n)

mapped_address : (f : ℕ → ℕ) (first n i : ℕ) → i < n → get_or (map f (addresses first n)) i 0 ≡ f (first + i)
unfolding addresses
mapped_address f first zero i h = absurd (not-suc-le-zero h)
mapped_address f first (suc n) zero h = ap f (sym (add-zero first))
mapped_address f first (suc n) (suc i) h = mapped_address f (first + 1) n i (le_of_suc-le-suc h) ∙ ap f (omega arith)

cell_at : (image : List ℕ) (i : ℕ) → i < 19 → cell_byte image (0x2b + i) ≡ get_or image i 0
unfolding cell_byte stored
cell_at image i h = rw (le-leb 0x2b (0x2b + i) (omega arith), le-leb (0x2b + i) 0x3d (omega arith)) (ap (λ (n : ℕ). get_or image n 0) (omega arith))

-- 19 cells are their bytes in order
image_is : (image : List ℕ) (f : ℕ → ℕ) → length image ≡ 19 → ((address : ℕ) → cell_byte image address ≡ f address) → image ≡ map f (addresses 0x2b 19)
image_is image f size same =
    ext_get_or 0 image (map f (addresses 0x2b 19)) (size ∙ sym (length-map (addresses 0x2b 19) f ∙ length_addresses 0x2b 19))
    (λ i h. let small : i < 19 = subst (λ (n : ℕ). i < n) size h in sym (cell_at image i small) ∙ same (0x2b + i) ∙ sym (mapped_address f 0x2b 19 i small))

-- ---- for every accepted start and every list of calls

module _ (b : Start) (accepted : start_number b.by b.time b.image ≡ 0) (cs : List Call) where
  agrees : Agrees b.image (booked (opened b) cs) (writes b cs)
  unfolding that_runs cell_holds
  agrees =
      booked_agrees b.image (opened b) cs []
      (record { size = start_length b.by b.time (length b.image) _ (ap (λ (n : ℕ). eqb n 0) accepted); running = refl; cells = λ a. refl; proper = tt })

  -- there are 19 cells
  pub nineteen : length (booked (opened b) cs).cells ≡ 19
  nineteen = agrees.size

  -- each holds what the writes that began in the run left of the starting byte
  pub closed_form : (address : ℕ) → cell_byte (booked (opened b) cs).cells address ≡ cell_holds b.image (writes b cs) address
  closed_form address = agrees.cells address

  -- that is the starting byte if no write to it began, else what the latest one left
  pub by_latest : (address : ℕ) → cell_byte (booked (opened b) cs).cells address ≡ told b.image address (latest address (writes b cs))
  by_latest address = closed_form address ∙ holds_told b.image (writes b cs) address

  -- all cells in order
  pub cells_are : (booked (opened b) cs).cells ≡ cells_after b cs
  cells_are = image_is (booked (opened b) cs).cells (cell_holds b.image (writes b cs)) nineteen closed_form

  -- the book's running write is the one that runs, with its address, wanted byte and time
  pub running_is : (booked (opened b) cs).running ≡ that_runs (writes b cs)
  running_is = agrees.running

  -- none but the latest runs
  pub latest_alone : (w : Wrote) (earlier : List Wrote) → writes b cs ≡ w ∷ earlier → that_runs earlier ≡ None
  latest_alone w earlier e = (subst Proper e agrees.proper).1

  -- so the book has a running write exactly if the latest one runs
  pub latest_runs : (w : Wrote) (earlier : List Wrote) → writes b cs ≡ w ∷ earlier → (booked (opened b) cs).running ≡ cond (is_running w.fate) (Some (as_running w)) None
  unfolding that_runs
  latest_runs w earlier e = running_is ∙ ap that_runs e ∙ ap (λ (r : Option Running). cond (is_running w.fate) (Some (as_running w)) r) (latest_alone w earlier e)
