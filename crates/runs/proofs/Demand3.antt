-- Demand 3 of the code.
use Rattle.std.specs.Prelude.{None}
use Rattle.std.specs.Prelude.{Option}
use Prim.Native.Nat.{ℕ, ◌^◌, ◌<◌}
use mathlib.Core.Path.{◌≡◌, refl, sym, ap, subst, ◌∙◌}
use mathlib.Core.Bool.{Bool, true, false, cond}
use mathlib.Core.Logic.{inr}
use mathlib.Core.List.{List, [], ◌∷◌}
use native.Mathlib.Omega.{arith}
use lib.ListN.{length}
use borrow.Author.Tests.{leb-true, le-leb, eqb-true, eq-eqb}
use Rattle.time.specs.declared.Time.{Time}
use Rattle.calls.specs.declared.types.Timed.TheVariants as Timed
use Rattle.calls.specs.declared.types.Call.{Call}
use Rattle.calls.proofs.Theorems.Left.{accepted_is, refused_is}
use Rattle.calls.specs.Theorems.Exactly.{TurnedDown}
use Rattle.calls.proofs.Theorems.Exactly.{start_refused_whole}
use Rattle.sensor.specs.declared.types.Kept.{Kept}
use Rattle.sensor.specs.Image.{cell_byte, new_kept}
use Rattle.samples.specs.Samples.{interaction_deadline}
use Rattle.bma150.specs.declared.host.Bma150.{Bma150}
use Rattle.bma150.specs.Called.{Acts, acts, left_by, Added, measurement_of, start_number, leaves, called}
use Rattle.book.specs.Does.{act_does, timed_does, does}
use Rattle.book.specs.Lists.{Answer, answer, accepts, step, Start, after, answers, accepted, Fractions, met_zero, last_kept, Returns}
use Rattle.book.specs.Lists as L
use Rattle.book.specs.Book.{opened, booked}
use Rattle.book.specs.Claim.{ending, left, stored_bytes}
use Rattle.book.specs.Closed.{writes, that_runs, latest, told}
use Rattle.book.proofs.Theorems.Closed.{by_latest}
use Rattle.book.proofs.Lists.{after_more, start_is, bytes_of, claim}
use Rattle.book.proofs.Closed.{all_over}
use Rattle.book.proofs.Follows.{step_kept, started_kept}
use Rattle.runs.specs.Demand3.{functions, Run, Ran, accepted_calls, Back, moved, Numbered, Demand3}
use Rattle.runs.proofs.Functions.{served_is, replies, start_answer, begun, starting}

-- ---- a run is the definitions'

pub run_is : {s t : Bma150} {cs : List Call} {out : List Answer} → Run functions s cs out t → (out ≡ answers s cs) × (t ≡ after s cs)
unfolding answers after
run_is Run.empty = (refl, refl)
run_is {s} (Run.next {t = t} {u = u} {c = c} {a = a} {cs = cs} {out = out} p q) =
    let e = served_is p in
    let r : (out ≡ answers t cs) × (u ≡ after t cs) = run_is q in
    (cc (e.0, e.1, r.0), r.1 ∙ ap (λ (x : Bma150). after x cs) e.0)

-- the calls answered with 0 are those that the definitions accept
pub accepted_calls_are : (s : Bma150) (cs : List Call) → accepted_calls cs (answers s cs) ≡ accepted s cs
unfolding accepted_calls answers accepted
accepted_calls_are s [] = refl
accepted_calls_are s (c ∷ cs) = rw (accepted_calls_are (step s c) cs)

module _ {b : Start} {cs : List Call} (r : Ran functions b cs) where
  first_is : r.first ≡ L.started b
  first_is = (begun r.begins).0

  pub out_is : r.out ≡ answers (L.started b) cs
  out_is = (run_is r.runs).0 ∙ ap (λ (x : Bma150). answers x cs) first_is

  pub last_is : r.last ≡ after (L.started b) cs
  last_is = (run_is r.runs).1 ∙ ap (λ (x : Bma150). after x cs) first_is

  pub accepted_are : accepted_calls cs r.out ≡ accepted (L.started b) cs
  accepted_are = ap (λ (l : List Answer). accepted_calls cs l) out_is ∙ accepted_calls_are (L.started b) cs

  start_taken : start_number b.by b.time b.image ≡ 0
  start_taken = sym (ap (λ (a : Answer). a.number) (begun r.begins).1) ∙ r.accepted

  -- ---- a return from 0 mV is one of the definitions

  module _ (fits : Fractions cs) {now : Time} {bytes : List ℕ} (k : Back r now bytes) where
    abbrev before : Bma150
    before = after (L.started b) cs

    abbrev supply : Call
    supply = Call.At now (Timed.Supply k.rail)

    reply_is : (k.back ≡ step before supply) × (k.reply ≡ answer before supply)
    reply_is = subst (λ (x : Bma150). (k.back ≡ step x supply) × (k.reply ≡ answer x supply)) last_is (served_is k.returns)

    pub returns : Returns b cs now k.rail
    returns = record {
      fractions = fits;
      start_accepted = start_taken;
      supply_accepted = eq-eqb _ 0 (sym (ap (λ (a : Answer). a.number) reply_is.1) ∙ k.accepted);
      with_supply = le-leb 2400 k.rail k.on;
      from_zero = sym (ap (λ (l : List Call). met_zero false l) accepted_are) ∙ k.zero;
    }

    back_is : k.back ≡ left b cs now k.rail
    unfolding after
    back_is = reply_is.0 ∙ sym (after_more (L.started b) cs (supply ∷ []))

    put_is : Added.put bytes ≡ stored_bytes b cs now k.rail
    put_is =
        sym k.put
        ∙ ap (λ (a : Answer). a.adds) (served_is k.handed).1
        ∙ ap (λ (x : Bma150). (called x (Call.StoredImage now 19)).adds) back_is

    kept_is : last_kept new_kept (accepted_calls cs r.out) ≡ L.kept b cs
    kept_is = ap (λ (l : List Call). last_kept new_kept l) accepted_are

stored : {b : Start} {cs : List Call} {now : Time} {bytes : List ℕ} (r : Ran functions b cs) → Fractions cs → (k : Back r now bytes) → bytes ≡ (booked (opened b) (ending cs now k.rail)).cells
unfolding bytes_of
stored {b} {cs} {now} r fits k = ap bytes_of (put_is r fits k ∙ claim.stored b cs now k.rail (returns r fits k))

same : {b d : Start} {cs ds : List Call} {now : Time} {bytes : List ℕ} (r : Ran functions b cs) (q : Ran functions d ds) → Fractions cs → Fractions ds → (k : Back r now bytes) (j : Back q now bytes)
    → last_kept new_kept (accepted_calls cs r.out) ≡ last_kept new_kept (accepted_calls ds q.out)
    → (further : List Call) {x y : Bma150} {f g : List Answer} → Run functions k.back further f x → Run functions j.back further g y → f ≡ g
same {b} {d} {cs} {ds} {now} r q fits ok k j kept further p o =
    (run_is p).0
    ∙ ap (λ (s : Bma150). answers s further) (back_is r fits k)
    ∙ claim.same b d cs ds now k.rail j.rail (returns r fits k) (returns q ok j) (sym (put_is r fits k) ∙ put_is q ok j) (sym (kept_is r fits k) ∙ kept ∙ kept_is q ok j) further
    ∙ sym ((run_is o).0 ∙ ap (λ (s : Bma150). answers s further) (back_is q ok j))

-- the stored bytes by the latest write to each cell
pub closed : {b : Start} {cs : List Call} {now : Time} {bytes : List ℕ} (r : Ran functions b cs) → Fractions cs → (k : Back r now bytes)
    → let ws = writes b (ending cs now k.rail) in ((address : ℕ) → cell_byte bytes address ≡ told b.image address (latest address ws)) × (that_runs ws ≡ None)
closed {b} {cs} {now} r fits k = (
  λ address. ap (λ (l : List ℕ). cell_byte l address) (stored r fits k) ∙ by_latest b (start_taken r) (ending cs now k.rail) address,
  all_over b cs now k.rail (returns r fits k),
)

-- ---- there are runs

pub goes_on : (s : Bma150) (cs : List Call) → (f : List Answer) × (x : Bma150) × Run functions s cs f x
goes_on s [] = ([], s, Run.empty)
goes_on s (c ∷ cs) =
    let r = replies s c in
    let q = goes_on r.0 cs in
    (r.1 ∷ q.0, q.1, Run.next r.2 q.2)

start_accepts : (b : Start) → length b.image ≡ 19 → (TurnedDown b.by (measurement_of b.image) → ⊥) → b.time.0 < 2 ^ 32 → start_number b.by b.time b.image ≡ 0
start_accepts b p t q = start_refused_whole b.by b.time (length b.image) (measurement_of b.image) 0 (inr (λ f. f p, inr (t, inr (λ l. omega arith, refl))))

pub exists : (b : Start) → length b.image ≡ 19 → (TurnedDown b.by (measurement_of b.image) → ⊥) → b.time.0 < 2 ^ 32 → (cs : List Call) → Ran functions b cs
exists b p t q cs =
    let g = goes_on (L.started b) cs in
    record { first = L.started b; start = start_answer b; begins = starting b; accepted = start_accepts b p t q; out = g.0; last = g.1; runs = g.2 }

-- ---- refusals

act_last : (s : Bma150) (o : Acts) → (left_by s o).last ≡ moved s.last (act_does o).time
unfolding moved timed_does
act_last s (Acts.timed now (Timed.Accelerations input)) = refl
act_last s _ = refl

last_of : (s : Bma150) (c : Call) → (leaves s c).last ≡ moved s.last (does c).time
unfolding leaves does
last_of s c = act_last s (acts c)

-- the last accepted time after a call
time_after : (s : Bma150) (c : Call) → (step s c).last ≡ cond (accepts s c) (moved s.last (does c).time) s.last
time_after s c = go (accepts s c) refl
  where
    go : (b : Bool) → accepts s c ≡ b → (step s c).last ≡ cond b (moved s.last (does c).time) s.last
    go true p = ap (λ (x : Bma150). x.last) (accepted_is _ s (leaves s c) p) ∙ last_of s c
    go false p = ap (λ (x : Bma150). x.last) (refused_is _ s (leaves s c) p)

numbered : (s : Bma150) (cs : List Call) → Numbered s.last (interaction_deadline s.sensor) s.sensor.kept cs (answers s cs)
unfolding answers
numbered s [] = tt
numbered s (c ∷ cs) =
    let due = interaction_deadline (step s c).sensor in
    let t : Time = cond (accepts s c) (moved s.last (does c).time) s.last in (
      refl,
      subst (λ (k : Kept). Numbered t due k cs (answers (step s c) cs)) (step_kept s c)
          (subst (λ (x : Time). Numbered x due (step s c).sensor.kept cs (answers (step s c) cs)) (time_after s c) (numbered (step s c) cs)),
    )

refused : {b : Start} {cs : List Call} (r : Ran functions b cs) → Numbered b.time r.start.next_due new_kept cs r.out
refused {b} {cs} r =
    let t : (L.started b).last ≡ b.time = ap (λ (x : Bma150). x.last) (start_is b (start_taken r)) in
    let d : r.start.next_due ≡ interaction_deadline (L.started b).sensor = ap (λ (a : Answer). a.next_due) (begun r.begins).1 in
    let s = L.started b in
    subst (λ (k : Kept). Numbered b.time r.start.next_due k cs r.out) (started_kept b)
    (subst (λ (x : Time). Numbered x r.start.next_due s.sensor.kept cs r.out) t
    (subst (λ (x : Option Time). Numbered s.last x s.sensor.kept cs r.out) (sym d)
    (subst (λ (l : List Answer). Numbered s.last (interaction_deadline s.sensor) s.sensor.kept cs l) (sym (out_is r)) (numbered s cs))))

pub demand_3 : Demand3 functions
demand_3 = record {
  stored = stored;
  same = same;
  alike = λ p q. ((run_is p).0 ∙ sym (run_is q).0, (run_is p).1 ∙ sym (run_is q).1);
  exists = exists;
  goes_on = goes_on;
  start_refused = λ p. ap (λ (a : Answer). a.number) (begun p).1;
  refused = refused;
}

-- ---- every return of the definitions is one of the code

-- a run of the list that comes back at `now` with these bytes
pub record Returned (b : Start) (cs : List Call) (now : Time) (bytes : List ℕ) : Type 0 where
  pub ran : Ran functions b cs
  pub fits : Fractions cs
  pub back : Back ran now bytes

pub returned : (b : Start) (cs : List Call) (now : Time) (rail : ℕ) (bytes : List ℕ) → Returns b cs now rail → (booked (opened b) (ending cs now rail)).cells ≡ bytes → Returned b cs now bytes
unfolding after
returned b cs now rail bytes h e =
    let g = goes_on (L.started b) cs in
    let r : Ran functions b cs = record { first = L.started b; start = start_answer b; begins = starting b; accepted = h.start_accepted; out = g.0; last = g.1; runs = g.2 } in
    let c = Call.At now (Timed.Supply rail) in
    let p = replies r.last c in
    let q = replies p.0 (Call.StoredImage now 19) in
    let l : p.0 ≡ left b cs now rail = (served_is p.2).0 ∙ ap (λ (x : Bma150). step x c) (last_is r) ∙ sym (after_more (L.started b) cs (c ∷ [])) in
    record {
      ran = r;
      fits = h.fractions;
      back = record {
        rail = rail;
        on = leb-true 2400 rail h.with_supply;
        zero = ap (λ (x : List Call). met_zero false x) (accepted_are r) ∙ h.from_zero;
        back = p.0;
        reply = p.1;
        returns = p.2;
        accepted = ap (λ (a : Answer). a.number) (served_is p.2).1 ∙ ap (λ (x : Bma150). (called x c).number) (last_is r) ∙ eqb-true _ 0 h.supply_accepted;
        left = q.0;
        image = q.1;
        handed = q.2;
        put = ap (λ (a : Answer). a.adds) (served_is q.2).1 ∙ ap (λ (x : Bma150). (called x (Call.StoredImage now 19)).adds) l ∙ claim.stored b cs now rail h ∙ ap Added.put e;
      };
    }
