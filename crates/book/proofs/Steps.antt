-- One call: the book changes as the sensor does, and what holds of every sensor of a list goes on holding.
use Rattle.std.specs.Prelude.{Option}
use Rattle.std.specs.Prelude.{Some, None}
use Rattle.sensor.specs.Operation.{Operation}
use Prim.Native.Nat.{ℕ, ◌^◌, ◌<◌}
use mathlib.Core.Path.{◌≡◌, refl, sym, ap, subst, ◌∙◌}
use mathlib.Core.Bool.{Bool, true, false, cond, not, ◌&&◌, ◌||◌}
use lib.Dec.{leb, ltb, eqb}
use Rattle.samples.specs.Samples.{sync_local_until}
use Rattle.sensor.specs.declared.types.Sensor.{Sensor}
use borrow.Author.Tests.{ltb-true, ltb-false, le-leb, lt-leb}
use Rattle.std.proofs.lemmas.Bool.{false_from_ne_true, both_ways, and_right, not_from_true}
use Rattle.time.specs.declared.Time.{Time}
use Rattle.time.specs.Time.{same}
use Rattle.analog.specs.Axis.{Acceleration}
use Rattle.nv.specs.Cycle as Cycle
use Rattle.i2c.specs.declared.types.Levels.{Levels}
use Rattle.i2c.specs.declared.types.Edge.{Edge}
use Rattle.i2c.specs.Bus.{edge}
use Rattle.i2c.specs.Engine as E
use Rattle.spi.specs.Frame as F
use Rattle.deadlines.specs.Deadlines.{is_at}
use Rattle.sensor.specs.declared.types.Kept.{Kept}
use Rattle.calls.specs.declared.types.Timed.{Timed}
use Rattle.calls.specs.declared.types.Call.{Call}
use Rattle.bma150.specs.declared.host.Bma150.{Bma150}
use Rattle.sensor.specs.declared.types.Sensor.{Sensor}
use Rattle.sensor.specs.declared.types.Outage.{Outage}
use Rattle.sensor.specs.Record.{with_acceleration, lines_kept, away, cold_of, is_off, is_cold, serial_not_ready, is_quiet, is_writing, four_wire}
use Rattle.sensor.specs.Record as Record
use Rattle.sensor.specs.Image.{with_cell}
use Rattle.samples.specs.Samples.{interaction_deadline}
use Rattle.sensor.specs.Select.{may_select}
use Rattle.serial.specs.SpiEdges.{spi_listens}
use Rattle.serial.specs.I2cPins.{i2c_listens, ones_for}
use Rattle.calls.specs.Table as T
use Rattle.calls.specs.Facts.{timed_facts, facts}
use Rattle.bma150.specs.Called.{Acts, acts, effect, served, leaves}
use Rattle.bma150.proofs.Theorems.Acts.{by_acts}
use Rattle.book.specs.Lists.{FitsTimed, Fits, zeroed, accepts}
use Rattle.book.specs.Does.{at_rise, at_pins, spi_write, action_write, i2c_write, supplying, timed, Does, timed_does, does}
use Rattle.book.specs.Book.{Book, book, struck, operation, closed, completing, completed, cutting, supplied, accepted_write, of_write, began, changed_at, changed}
use Rattle.book.specs.Book as B
use Rattle.book.proofs.Keeps.{Core, core, Keeps, then, select_core, sync_keeps, rise_synced_keeps, pins_synced_keeps, falling_keeps}
use Rattle.book.proofs.Pins.{begun_writing, rising_keeps, pins_keeps}
use Rattle.book.proofs.Parts.{over, off, ended, due_is, cut_to, low_to, ok_to, cold_again, warm_again, supply_to, supply_is}
use Rattle.book.proofs.Sound.{running_of, read, running_operation, runs_running, Fine, Sound, not_over, over_now, end_fits, Timely, timely, due_now}

-- a call that does d takes the five parts from k to l, and the book to m
pub record Moved (k l : Core) (d : Does) (m : Book) : Type 0 where
  pub cells : m.cells ≡ l.cells
  pub running : m.running ≡ running_of l.writing
  pub sound : Sound l
  pub zero : zeroed (cold_of k.outage) d.rail ≡ cold_of l.outage
  pub kept : d.keeps k.kept ≡ l.kept

abbrev with_running : Core → Operation → Core
with_running k w = record k { writing = w }

abbrev keeping : Core → Kept → Core
keeping k x = record k { kept = x }

module _ (b : Bma150) (h : Sound (core b.sensor)) where
  abbrev s : Sensor
  s = b.sensor

  -- what an accepted timed call is to show
  abbrev Goes : Time → Timed → Type 0
  Goes now t = Moved (core s) (core (served b now t).sensor) (timed_does now t) (changed_at (timed_does now t).time (timed_does now t) (read b) s)

  -- ---- timed calls that neither begin nor end a write

  -- of a call that leaves the parts but for what is kept
  same_parts : (now : Time) (x : Kept) (l : Core) (d : Does) → Timely s now → l ≡ keeping (core s) x → d.rail ≡ None → d.keeps s.kept ≡ x → Moved (core s) l d (completed (read b) now)
  unfolding zeroed
  same_parts now x l d a e r q =
      let p : completed (read b) now ≡ read b = not_over b h now a.free in
      subst (λ (y : Core). Moved (core s) y d (completed (read b) now)) (sym e)
      (record {
        cells = ap (λ (k : Book). k.cells) p;
        running = ap (λ (k : Book). k.running) p;
        sound = record { fine = h.fine; deaf = h.deaf };
        zero = ap (λ (o : Option ℕ). zeroed (is_cold s) o) r;
        kept = q;
      })

  moved_accelerations : (now : Time) (input : Acceleration) → Timely s now → Goes now (Timed.Accelerations input)
  unfolding effect timed_does changed_at supplied began accepted_write
  moved_accelerations now input a =
      same_parts now (with_acceleration input s.kept) _ _ a
      (ap (λ (k : Core). keeping k (with_acceleration input k.kept)) (sync_keeps s now false).same) refl refl

  moved_falling : (now : Time) → Timely s now → Goes now Timed.Falling
  unfolding effect timed_does changed_at supplied began accepted_write
  moved_falling now a = same_parts now s.kept _ _ a (then (sync_keeps s now false) (falling_keeps _ now)).same refl refl

  -- ---- due

  -- the parts that a due or pin call leaves, and the book's
  record Ended (l : Core) (m : Book) : Type 0 where
    cells : m.cells ≡ l.cells
    running : m.running ≡ running_of l.writing
    sound : Sound l
    outage : l.outage ≡ s.outage
    kept : l.kept ≡ s.kept

  ended_moved : (now : Time) → is_at (interaction_deadline s) now ≡ true → Ended (ended s.writing (core s) now) (completed (read b) now)
  unfolding completing running_of ended
  ended_moved now d = go s.writing refl
    where
      go : (op : Operation) → s.writing ≡ op → Ended (ended op (core s) now) (completing (running_of op) (read b) now)
      go None e = record { cells = refl; running = refl; sound = h; outage = refl; kept = refl }
      go (Some w) e =
          subst (λ (x : Bool). Ended (ended (Some w) (core s) now) (cond x (closed (read b) (record { address = w.address; wanted = w.value; began = w.cycle.started }) w.value) (read b)))
          (sym (over_now s h now d w e)) (chosen (same (Cycle.deadline w.cycle) now))
        where
          chosen : (x : Bool) → Ended (cond x (over (core s) (with_cell s.nonvolatile w.address w.value)) (core s)) (cond x (closed (read b) (record { address = w.address; wanted = w.value; began = w.cycle.started }) w.value) (read b))
          chosen true = record { cells = refl; running = refl; sound = record { fine = tt; deaf = h.deaf }; outage = refl; kept = refl }
          chosen false = record { cells = refl; running = refl; sound = h; outage = refl; kept = refl }

  -- such parts, but for what is kept, of a call that brings no supply
  keeping_moved : (l : Core) (d : Does) (m : Book) (x : Kept) → Ended l m → d.rail ≡ None → d.keeps s.kept ≡ x → Moved (core s) (keeping l x) d m
  unfolding zeroed
  keeping_moved l d m x r e f = record {
    cells = r.cells;
    running = r.running;
    sound = record { fine = r.sound.fine; deaf = r.sound.deaf };
    zero = ap (λ (o : Option ℕ). zeroed (is_cold s) o) e ∙ ap (λ (x : Option Outage). cold_of x) (sym r.outage);
    kept = f;
  }

  -- and of one that sets nothing
  ended_is_moved : (l : Core) (d : Does) (m : Book) → Ended l m → d.rail ≡ None → ((k : Kept) → d.keeps k ≡ k) → Moved (core s) l d m
  ended_is_moved l d m r e f = keeping_moved l d m l.kept r e (f s.kept ∙ sym r.kept)

  moved_due : (now : Time) → is_at (interaction_deadline s) now ≡ true → Goes now Timed.Due
  unfolding effect timed_does changed_at supplied began accepted_write
  moved_due now d =
      subst (λ (l : Core). Moved (core s) l (timed now) (completed (read b) now))
      (sym (due_is (sync_local_until s now false) now ∙ ap (λ (k : Core). ended k.writing k now) (sync_keeps s now false).same))
      (ended_is_moved _ (timed now) _ (ended_moved now d) refl (λ k. refl))

  -- ---- supply

  -- no write runs without supply
  idle : is_off s ≡ true → s.writing ≡ None
  idle out = go s.writing h.fine
    where
      go : (op : Operation) → Fine op (is_off s) → op ≡ None
      go None f = refl
      go (Some w) f = let g : is_off s ≡ false = f.0 in cc

  -- a write that is cut
  pub record Cut (l : Core) (m : Book) : Type 0 where
    pub cells : m.cells ≡ l.cells
    pub running : m.running ≡ running_of l.writing
    pub none_runs : l.writing ≡ None
    pub kept : l.kept ≡ s.kept

  cut_moved : (now : Time) → Cut (cut_to s.writing (core s) now) (cutting (running_of s.writing) (read b) now)
  unfolding cutting running_of cut_to
  cut_moved now = go s.writing refl
    where
      go : (op : Operation) → s.writing ≡ op → Cut (cut_to op (core s) now) (cutting (running_of op) (read b) now)
      go None e = record { cells = refl; running = refl; none_runs = e; kept = refl }
      go (Some w) e = record { cells = refl; running = refl; none_runs = refl; kept = refl }

  uncut : (now : Time) → is_off s ≡ true → cutting (running_of s.writing) (read b) now ≡ read b
  unfolding cutting running_of
  uncut now o = ap (λ (x : Operation). cutting (running_of x) (read b) now) (idle o)

  supply_moved : (now : Time) (rail : ℕ) → Moved (core s) (supply_to (core s) rail now) (supplying now rail) (supplied (Some rail) (read b) now)
  unfolding supplied zeroed away cold_of running_of low_to ok_to
  supply_moved now rail = go (ltb rail 2400) (high (ltb rail 2400) refl) (eqb rail 0) refl s.outage refl
    where
      high : (b : Bool) → ltb rail 2400 ≡ b → leb 2400 rail ≡ not b
      high true e = lt-leb 2400 rail (ltb-true rail 2400 e)
      high false e = le-leb 2400 rail (ltb-false rail 2400 e)

      out : (o : Outage) → s.outage ≡ Some o → is_off s ≡ true
      out o e = ap (λ (x : Option Outage). away x) e

      met : (up zero : Bool) (o : Option Outage) → leb 2400 rail ≡ up → eqb rail 0 ≡ zero → s.outage ≡ o → cond (leb 2400 rail) false (eqb rail 0 || is_cold s) ≡ cond up false (zero || cold_of o)
      met up zero o p q r = rw (p, q, r) refl

      go : (low : Bool) → leb 2400 rail ≡ not low → (zero : Bool) → eqb rail 0 ≡ zero → (o : Option Outage) → s.outage ≡ o
          → Moved (core s) (cond low (low_to o (core s) zero now) (ok_to o (core s))) (supplying now rail) (cond low (cutting (running_of s.writing) (read b) now) (read b))
      go true u true z (Some o) e =
          let p = uncut now (out o e) in
          record { cells = ap (λ (k : Book). k.cells) p; running = ap (λ (k : Book). k.running) p; sound = record { fine = subst (λ (x : Operation). Fine x true) (sym (idle (out o e))) tt; deaf = λ f. h.deaf (out o e) }; zero = met false true (Some o) u z e; kept = refl }
      go true u false z (Some o) e =
          let p = uncut now (out o e) in
          record { cells = ap (λ (k : Book). k.cells) p; running = ap (λ (k : Book). k.running) p; sound = h; zero = met false false (Some o) u z e ∙ ap (λ (x : Option Outage). cold_of x) (sym e); kept = refl }
      go true u true z None e =
          let r = cut_moved now in
          record { cells = r.cells; running = r.running; sound = record { fine = subst (λ (x : Operation). Fine x true) (sym r.none_runs) tt; deaf = λ f. refl }; zero = met false true None u z e; kept = sym r.kept }
      go true u false z None e =
          let r = cut_moved now in
          record { cells = r.cells; running = r.running; sound = record { fine = subst (λ (x : Operation). Fine x true) (sym r.none_runs) tt; deaf = λ f. refl }; zero = met false false None u z e; kept = sym r.kept }
      go false u zero z (Some o) e = back o.cold
        where
          back : (cold : Bool) → Moved (core s) (cond cold (cold_again (core s)) (warm_again (core s))) (supplying now rail) (read b)
          back true = record { cells = refl; running = ap running_of (idle (out o e)); sound = record { fine = tt; deaf = λ f. refl }; zero = met true zero (Some o) u z e; kept = refl }
          back false = record { cells = refl; running = refl; sound = record { fine = subst (λ (x : Operation). Fine x false) (sym (idle (out o e))) tt; deaf = λ f. (cc) }; zero = met true zero (Some o) u z e; kept = refl }
      go false u zero z None e = record { cells = refl; running = refl; sound = h; zero = met true zero None u z e ∙ ap (λ (x : Option Outage). cold_of x) (sym e); kept = refl }

  moved_supply : (now : Time) (rail : ℕ) → Timely s now → Goes now (Timed.Supply rail)
  unfolding effect timed_does changed_at began accepted_write
  moved_supply now rail a =
      subst (λ (k : Book). Moved (core s) (core (served b now (Timed.Supply rail)).sensor) (supplying now rail) (supplied (Some rail) k now)) (sym (not_over b h now a.free))
      (subst (λ (l : Core). Moved (core s) l (supplying now rail) (supplied (Some rail) (read b) now))
      (sym (supply_is (sync_local_until s now false) rail now ∙ ap (λ (k : Core). supply_to k rail now) (sync_keeps s now false).same))
      (supply_moved now rail))

  -- ---- pin calls

  write_moved : (u : Sensor) → Keeps s u → (w : Option (ℕ × ℕ)) (now : Time) → T.late now ≡ false → now.1 < 2 ^ 64
      → ((a v : ℕ) → w ≡ Some (a, v) → is_off s ≡ false)
      → Ended (with_running (core s) (begun_writing w u now)) (began (read b) (record { write = w; meets = u }) now)
  unfolding began of_write operation
  write_moved u k w now early small live =
      subst (λ (x : Bool). Ended (with_running (core s) (begun_writing w u now)) (cond x (book s.nonvolatile (of_write w now) (struck b)) (read b))) (sym same_test) (chosen (accepted_write w u (is_writing u)))
    where
      q : u.writing ≡ s.writing
      q = ap (λ (x : Core). x.writing) k.same

      same_test : accepted_write w u (B.runs (running_of s.writing)) ≡ accepted_write w u (is_writing u)
      same_test = ap (λ (x : Bool). accepted_write w u x) (runs_running s.writing ∙ ap (λ (x : Operation). Record.runs x) (sym q))

      fine_of : (x : Option (ℕ × ℕ)) → w ≡ x → Fine (operation (of_write x now)) (is_off s)
      fine_of None e = tt
      fine_of (Some (a, v)) e = (live a v e, end_fits now early small)

      chosen : (x : Bool) → Ended (with_running (core s) (cond x (operation (of_write w now)) u.writing)) (cond x (book s.nonvolatile (of_write w now) (struck b)) (read b))
      chosen true = record { cells = refl; running = sym (running_operation (of_write w now)); sound = record { fine = fine_of w refl; deaf = h.deaf }; outage = refl; kept = refl }
      chosen false = record { cells = refl; running = ap (λ (x : Operation). running_of x) (sym q); sound = record { fine = subst (λ (x : Operation). Fine x (is_off s)) (sym q) h.fine; deaf = h.deaf }; outage = refl; kept = refl }

  -- SPI writes only with supply, since it is deselected without
  spi_selected : (u : Sensor) (mosi : Bool) (a v : ℕ) → spi_write u mosi ≡ Some (a, v) → u.frame.selected ≡ true
  unfolding spi_write spi_listens
  spi_selected u mosi a v e = go u.frame.selected e
    where
      go : (b : Bool) → cond ((b && (not (serial_not_ready u) && not (is_quiet u))) && not u.frame.turnaround) (F.take_bit u.frame mosi (four_wire u)).write None ≡ Some (a, v) → b ≡ true
      go true f = refl
      go false f = cc

  spi_live : (u : Sensor) → Keeps s u → (mosi : Bool) (a v : ℕ) → spi_write u mosi ≡ Some (a, v) → is_off s ≡ false
  spi_live u k mosi a v e =
      false_from_ne_true (is_off s) (λ o. both_ways s.frame.selected (h.deaf o) (sym (ap (λ (x : Core). x.selected) k.same) ∙ spi_selected u mosi a v e))

  i2c_live : (u : Sensor) → Keeps s u → (x : Edge) (a v : ℕ) → i2c_write u x ≡ Some (a, v) → is_off s ≡ false
  unfolding i2c_write i2c_listens
  i2c_live u k x a v e = sym (ap (λ (y : Core). off y) k.same) ∙ go u.frame.selected (is_off u) e
    where
      go : (b o : Bool) → cond (not b && (not o && not (serial_not_ready u))) (action_write (E.step u.i2c x (is_quiet u) (ones_for u.frame.tx)).action) None ≡ Some (a, v) → o ≡ false
      go true o f = cc
      go false true f = cc
      go false false f = refl

  -- a pin call whose edge makes the write w on u
  module _ (now : Time) (small : now.1 < 2 ^ 64) (a : Timely s now) (u : Sensor) (k : Keeps s u) (w : Option (ℕ × ℕ)) (live : (x v : ℕ) → w ≡ Some (x, v) → is_off s ≡ false) where
    edge_moved : (t : Sensor) (d : Does) (x : Kept) → core t ≡ keeping (with_running (core u) (begun_writing w u now)) x → d.rail ≡ None → d.keeps s.kept ≡ x
        → Moved (core s) (core t) d (began (completed (read b) now) (record { write = w; meets = u }) now)
    edge_moved t d x p e f =
        let c : core t ≡ keeping (with_running (core s) (begun_writing w u now)) x = p ∙ ap (λ (y : Core). keeping (with_running y (begun_writing w u now)) x) k.same in
        subst (λ (x : Book). Moved (core s) (core t) d (began x (record { write = w; meets = u }) now)) (sym (not_over b h now a.free))
        (subst (λ (l : Core). Moved (core s) l d (began (read b) (record { write = w; meets = u }) now)) (sym c)
        (keeping_moved _ d _ x (write_moved u k w now a.early small live) e f))

  moved_rising : (now : Time) (mosi : Bool) → now.1 < 2 ^ 64 → Timely s now → Goes now (Timed.Rising mosi)
  unfolding effect timed_does changed_at supplied
  moved_rising now mosi small a =
      let u = at_rise s now in
      let k : Keeps s u = then (sync_keeps s now false) (rise_synced_keeps (sync_local_until s now false) now) in
      edge_moved now small a u k (spi_write u mosi) (spi_live u k mosi) (served b now (Timed.Rising mosi)).sensor _ u.kept (rising_keeps u mosi now).same refl (sym (ap (λ (y : Core). y.kept) k.same))

  moved_pins : (now : Time) (before after : Levels) → now.1 < 2 ^ 64 → Timely s now → Goes now (Timed.Pins before after)
  unfolding effect timed_does changed_at supplied
  moved_pins now before after small a =
      let e = edge before after in
      let u = at_pins s e now in
      let k : Keeps s u = then (sync_keeps s now false) (pins_synced_keeps (sync_local_until s now false) e now) in
      edge_moved now small a u k (i2c_write u e) (i2c_live u k e) (served b now (Timed.Pins before after)).sensor _ (lines_kept u.kept after)
      (ap (λ (y : Core). keeping y (lines_kept y.kept after)) (pins_keeps u e now).same) refl (sym (ap (λ (y : Core). lines_kept y.kept after) k.same))

  -- ---- every timed call, and every call

  moved_timed : (now : Time) (t : Timed) → FitsTimed now t → accepts b (Call.At now t) ≡ true → Goes now t
  unfolding facts timed_facts
  moved_timed now (Timed.Accelerations input) small p = moved_accelerations now input (timely b.last s now (Call.At now (Timed.Accelerations input)) p _ _ refl)
  moved_timed now (Timed.Supply rail) small p = moved_supply now rail (timely b.last s now (Call.At now (Timed.Supply rail)) p _ _ refl)
  moved_timed now Timed.Due small p = moved_due now (due_now b.last s now (Call.At now Timed.Due) p refl)
  moved_timed now (Timed.Rising mosi) small p = moved_rising now mosi small (timely b.last s now (Call.At now (Timed.Rising mosi)) p _ _ refl)
  moved_timed now Timed.Falling small p = moved_falling now (timely b.last s now (Call.At now Timed.Falling) p _ _ refl)
  moved_timed now (Timed.Pins before after) small p = moved_pins now before after small (timely b.last s now (Call.At now (Timed.Pins before after)) p _ _ refl)

  -- an accepted call moves sensor and book alike
  abbrev CallMoved : Call → Type 0
  CallMoved c = Fits c → accepts b c ≡ true → Moved (core s) (core (leaves b c).sensor) (does c) (changed (read b) s c)

  moved_select : (on : Bool) → CallMoved (Call.Select on)
  unfolding leaves does changed_at zeroed may_select
  moved_select on d p =
      subst (λ (l : Core). Moved (core s) l (does (Call.Select on)) (read b)) (sym (select_core s (may_select s on)))
      (record { cells = refl; running = refl; sound = record { fine = h.fine; deaf = λ e. and_right on (not (is_off s)) (not_from_true (is_off s) e) }; zero = refl; kept = refl })

  moved_kept : (c : Call) (f : Kept → Kept) → acts c ≡ Acts.keeps f → CallMoved c
  unfolding leaves does changed_at zeroed
  moved_kept c f e d p = rw e (record { cells = refl; running = refl; sound = record { fine = h.fine; deaf = h.deaf }; zero = refl; kept = refl })

  pub moved : (c : Call) → CallMoved c
  unfolding leaves does
  moved = by_acts CallMoved moved_timed moved_select moved_kept
