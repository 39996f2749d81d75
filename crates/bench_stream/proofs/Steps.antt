-- What the functions of a turn do, as turns.
use Rattle.std.specs.Prelude.{◌≡◌, refl, Bool, true, false, cond, List, [], ◌++◌, ℕ, ◌+◌, ◌-◌, ◌≤◌, eqb, length, drop, Option, None, Some, Result, Ok, Err, OnOk, is_ok, get_or, ◌<◌}
use Rattle.std.proofs.Common.{sym, ap, subst, ◌∙◌, inl, inr, arith, eqb-true, length-append, length-drop}
use Rattle.std.specs.Io.KnownBytes.{Appends, Consumes, Keeps, IsAtEnd}
use Rattle.std.proofs.KnownBytes.{Appends-nil, Consumes-nil, Consumes-kept}
use Rattle.machine.specs.Block as M
use Rattle.commands.proofs.Theorems.More.{wants_few}
use Rattle.bench.specs.declared.Ran.{Ran}
use Rattle.bench.specs.Block.{is_whole, block, answer}
use Rattle.bench.specs.Theorems.Loop as L
use Rattle.bench_stream.specs.declared.Failed.{Failed}
use Rattle.bench_stream.specs.declared.Turn.{Turn}
use Rattle.bench_stream.specs.Loop.{goes_on, Enough, arrived, cut_off, Did, Wrote, Stepped}
use Rattle.bench_stream.proofs.Theorems.Turn.{contrary, going}

-- what a result says that is known to be `Ok`
pub on_ok : {T E P : Type 0} (r : Result T E) → is_ok r ≡ true → OnOk r P → P
on_ok (Ok x) e p = p
on_ok (Err d) e p = contrary e

module _ (trace : Bool) (t : Turn) (k : List ℕ) where
  turned : (u : Turn) {w : Turn} {l o : List ℕ} {a b c d : Option (List ℕ)} → w ≡ u → Stepped trace t k u l o a b c d → Stepped trace t k w l o a b c d
  turned u {w} {l} {o} {a} {b} {c} {d} e s = subst (λ (x : Turn). Stepped trace t k x l o a b c d) (sym e) s

  -- a command that is not whole has few bytes
  room : is_whole false k ≡ false → length k < 65536
  unfolding M.needed_bytes
  room few = omega (arith, L.short trace false k few, wants_few (get_or k 0 0))

  module _ (p : goes_on t k ≡ true) (more : t.over ≡ false) (few : is_whole false k ≡ false) {a b : Option (List ℕ)} {l : List ℕ} (o : List ℕ) (v : Option (List ℕ)) where
    -- a read brought a piece
    pub read : {n m : ℕ} (piece : List ℕ) → l ≡ k ++ piece → length piece ≡ n → Consumes a b piece → (n ≡ 0 → length k < 65536 → IsAtEnd b) → m ≡ length l
        → Stepped trace t k (record { over = eqb n 0; stop = t.stop; failed = t.failed; left = m; written = 0; sensor = t.sensor }) l o a b v v
    read {n} {m} piece e f h z q =
        let behind : m ≡ length k + length piece = q ∙ ap (λ (x : List ℕ). length x) e ∙ length-append k piece in
        let is : ◌≡◌ {A = Turn} (record { over = eqb n 0; stop = t.stop; failed = t.failed; left = m; written = 0; sensor = t.sensor }) (arrived (length k) (length piece) t.sensor) =
        rw (behind, f, (going t k p).not_stopped, (going t k p).not_failed) refl in
        turned (arrived (length k) (length piece) t.sensor) is
        (rw e (record { piece = piece; text = []; did = Did.read piece more few; shown = inl refl; took = h; all = λ y s. z (sym f ∙ eqb-true (length piece) 0 y) (room few); wrote = Appends-nil v }))

    -- or failed
    pub cut : {m : ℕ} → l ≡ k → Keeps a b → m ≡ length l
        → Stepped trace t k (record { over = t.over; stop = t.stop; failed = Some Failed.Read; left = m; written = 0; sensor = t.sensor }) l o a b v v
    cut {m} e h q =
        let kept : m ≡ length k = q ∙ ap (λ (x : List ℕ). length x) e in
        let is : ◌≡◌ {A = Turn} (record { over = t.over; stop = t.stop; failed = Some Failed.Read; left = m; written = 0; sensor = t.sensor }) (cut_off (length k) t.sensor) =
        rw (kept, more, (going t k p).not_stopped) refl in
        turned (cut_off (length k) t.sensor) is
        (rw e (record { piece = []; text = []; did = Did.failed more few; shown = inl refl; took = Consumes-kept a a b [] (Consumes-nil a) h; all = λ y s. contrary y; wrote = Appends-nil v }))

  -- a block was served
  wrote : (taken : Bool) (v w : Option (List ℕ)) (text : List ℕ) → (taken ≡ true → Appends v w text) → Wrote (cond taken None (Some Failed.Write)) v w text
  wrote true v w text h = h refl
  wrote false v w text h = tt

  pub served : (r : Ran) {e l : List ℕ} (f : Option Failed) (taken : Bool) (v w : Option (List ℕ)) → Enough t k
      → r ≡ answer (length k) (block trace t.over t.sensor k) → e ≡ (block trace t.over t.sensor k).text → (block trace t.over t.sensor k).left ≡ drop r.read k
      → r.read ≤ length k → l ≡ drop r.read k → f ≡ cond taken None (Some Failed.Write) → (taken ≡ true → Appends v w e) → {m n : ℕ} → m ≡ length l → n ≡ length e
      → (a : Option (List ℕ)) → Stepped trace t k (record { over = t.over; stop = r.stop; failed = f; left = m; written = n; sensor = r.sensor }) l e a a v w
  served r {e} {l} f taken v w enough is out left within lis fis h {m} {n} ml ne a =
      let text : List ℕ = (block trace t.over t.sensor k).text in
      let rest : m ≡ length k - r.read = ml ∙ ap (λ (x : List ℕ). length x) lis ∙ length-drop r.read k in
      let made : n ≡ length text = ne ∙ ap (λ (x : List ℕ). length x) out in
      rw (rest, made, lis, fis)
      (record {
        piece = [];
        text = text;
        did = Did.served r taken enough within is left;
        shown = inr out;
        took = Consumes-nil a;
        all = λ y s. s y;
        wrote = wrote taken v w text (λ (y : taken ≡ true). subst (Appends v w) out (h y));
      })
