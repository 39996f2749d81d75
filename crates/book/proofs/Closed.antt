-- After a return from 0 mV the stored bytes are the closed form and every write is over; and the writes are those of the definitions' own run.
use Rattle.std.specs.Prelude.{None}
use Prim.Native.Nat.{ℕ}
use mathlib.Core.Path.{◌≡◌, refl, sym, ap, ◌∙◌}
use mathlib.Core.Bool.{cond}
use mathlib.Core.List.{List, [], ◌∷◌}
use Rattle.time.specs.declared.Time.{Time}
use Rattle.calls.specs.declared.types.Call.{Call}
use Rattle.bma150.specs.declared.host.Bma150.{Bma150}
use Rattle.bma150.specs.Called.{Added, start_number}
use Rattle.book.specs.Does.{does}
use Rattle.book.specs.Lists.{Fractions, accepts, step, Start, Returns}
use Rattle.book.specs.Lists as L
use Rattle.book.specs.Book.{Book, entered}
use Rattle.book.specs.Claim.{ending, stored_bytes}
use Rattle.book.specs.Closed.{Entry, with_entry, entries, seen, that_runs, written, writes, cells_after}
use Rattle.book.proofs.Theorems.Closed.{cells_are, running_is}
use Rattle.book.proofs.Keeps.{core}
use Rattle.book.proofs.Sound.{running_of, read, filled_read, Sound}
use Rattle.book.proofs.Lists.{stepped, start_sound, start_book, left_fresh, book_is, claim}

module _ (b : Start) (cs : List Call) (now : Time) (rail : ℕ) (h : Returns b cs now rail) where
  -- the stored bytes are the closed form
  pub stored_closed : stored_bytes b cs now rail ≡ Added.put (cells_after b (ending cs now rail))
  stored_closed = claim.stored b cs now rail h ∙ ap Added.put (cells_are b h.start_accepted (ending cs now rail))

  -- and no write runs: each has completed or was cut
  pub all_over : that_runs (writes b (ending cs now rail)) ≡ None
  unfolding running_of
  all_over =
      sym (running_is b h.start_accepted (ending cs now rail))
      ∙ ap (λ (k : Book). k.running) (book_is b cs now rail h)
      ∙ ap (λ (x : Bma150). running_of x.sensor.writing) (left_fresh b cs now rail h)

seen_is : (s : Bma150) → Sound (core s.sensor) → (cs : List Call) → Fractions cs → entries (read s) cs ≡ seen s cs
unfolding entries seen
seen_is s h [] d = refl
seen_is s h (c ∷ cs) d =
    let p = stepped s h c d.0 in
    ap (λ (x : Bma150). cond (accepts x c) (with_entry (does c).time (does c) x.sensor (entries (entered (read s) c) cs)) (entries (entered (read s) c) cs)) (filled_read s)
    ∙ ap (λ (es : List Entry). cond (accepts s c) (with_entry (does c).time (does c) s.sensor es) es)
    (ap (λ (k : Book). entries k cs) p.entered ∙ seen_is (step s c) p.sound cs d.1)

-- the writes are those that the definitions' own sensors make in the run
pub writes_are : (b : Start) → start_number b.by b.time b.image ≡ 0 → (cs : List Call) → Fractions cs → writes b cs ≡ written [] (seen (L.started b) cs)
writes_are b p cs d =
    ap (λ (es : List Entry). written [] es) (ap (λ (k : Book). entries k cs) (start_book b p) ∙ seen_is (L.started b) (start_sound b p) cs d)
