-- What the loop has read and handed to `write`.
use Rattle.std.specs.Prelude.{◌≡◌, refl, Bool, true, false, List, [], ◌++◌, ℕ, ◌+◌, ◌-◌, ◌^◌, length, drop, Option, None, Some}
use Rattle.std.proofs.Common.{◌∙◌, sym, ap, subst, inl, inr, append-nil, length-append, length-drop}
use Rattle.std.proofs.KnownBytes.{Consumes-nil, Consumes-trans, Appends-nil, Appends-trans}
use Rattle.std.specs.Io.KnownBytes.{Appends, Consumes, IsAtEnd}
use Rattle.machine.specs.Pieces.{Between, between, Steps, begun, brought, ended, ran}
use Rattle.machine.proofs.Theorems.Turns.{Goes}
use Rattle.machine.proofs.Theorems.Whole as M
use Rattle.bma150.specs.declared.host.Bma150.{Bma150}
use Rattle.bench.specs.declared.Ran.{Ran}
use Rattle.bench.specs.Run.{bench, whole}
use Rattle.bench.specs.Block.{block, answer}
use Rattle.bench.specs.Theorems.Lawful.{lawful}
use Rattle.bench_stream.specs.declared.Failed.{Failed}
use Rattle.bench_stream.specs.declared.Turn.{Turn}
use Rattle.bench_stream.specs.Loop.{beginning, first, goes_on, arrived, cut_off, served_by, left_by, Did, Wrote, Stepped, Turns, Streamed}
use Rattle.bench_stream.proofs.Theorems.Turn.{between_of, same_between, contrary, going, not_stopped, at_end}

module _ (trace : Bool) where
  abbrev Led : (l w : List ℕ) → Turn → (kept : List ℕ) → Type 0
  Led l w t k = Steps (bench trace) beginning l w (between_of t k)

  -- nothing brought, nothing written
  abbrev Adds : (l w piece text : List ℕ) → Between Bma150 → Type 0
  Adds l w piece text d = Steps (bench trace) beginning (l ++ piece) (w ++ text) d

  renamed : {l w : List ℕ} (d e : Between Bma150) → d ≡ e → Steps (bench trace) beginning l w d → Steps (bench trace) beginning l w e
  renamed {l} {w} d e p h = subst (λ (x : Between Bma150). Steps (bench trace) beginning l w x) p h

  silent : {l w : List ℕ} {d : Between Bma150} → Steps (bench trace) beginning l w d → Steps (bench trace) beginning l (w ++ []) d
  silent {l} {w} {d} h = subst (λ (x : List ℕ). Steps (bench trace) beginning l x d) (sym (append-nil w)) h

  still : {l w : List ℕ} {d : Between Bma150} → Steps (bench trace) beginning l w d → Steps (bench trace) beginning (l ++ []) w d
  still {l} {w} {d} h = subst (λ (x : List ℕ). Steps (bench trace) beginning x w d) (sym (append-nil l)) h

  by_read : {l w k : List ℕ} {n : Bma150} (piece : List ℕ) (z : Bool) → Steps (bench trace) beginning l w (between n k false false)
      → Steps (bench trace) beginning (l ++ piece) w (between n (k ++ piece) z false)
  by_read piece true h = ended (brought piece h)
  by_read piece false h = brought piece h

  module _ {l w : List ℕ} (t : Turn) (k : List ℕ) (going : t.stop ≡ false) (h : Led l w t k) where
    read_steps : (piece : List ℕ) → t.over ≡ false → Adds l w piece [] (between_of (arrived (length k) (length piece) t.sensor) (k ++ piece))
    read_steps piece more = silent (by_read piece (arrived (length k) (length piece) t.sensor).over (renamed _ _ (same_between refl refl more going) h))

    failed_steps : t.over ≡ false → Adds l w [] [] (between_of (cut_off (length k) t.sensor) k)
    failed_steps more = silent (still (renamed _ _ (same_between refl refl more going) h))

    served_steps : (r : Ran) (taken : Bool) → r ≡ answer (length k) (block trace t.over t.sensor k)
        → (block trace t.over t.sensor k).left ≡ drop r.read k
        → Adds l w [] (block trace t.over t.sensor k).text (between_of (served_by t r taken (length k) (length (block trace t.over t.sensor k).text)) (left_by r k))
    served_steps r taken is left =
        still (renamed _ _ (same_between (sym (ap (λ (q : Ran). q.sensor) is)) left refl (sym (ap (λ (q : Ran). q.stop) is)))
        (ran (renamed _ _ (same_between refl refl refl going) h)))

  did : {l w : List ℕ} {t : Turn} {k : List ℕ} {u : Turn} {m piece text : List ℕ} → t.stop ≡ false → Led l w t k → Did trace t k u m piece text → Led (l ++ piece) (w ++ text) u m
  did {l} {w} {t} {k} {u} going h (Did.read piece more few) = read_steps t k going h piece more
  did {l} {w} {t} {k} {u} going h (Did.failed more few) = failed_steps t k going h more
  did {l} {w} {t} {k} {u} going h (Did.served r taken enough z is left) = served_steps t k going h r taken is left

  -- a turn tells how many bytes it keeps, and how many bytes of text it made
  pub told : {t : Turn} {k : List ℕ} {u : Turn} {m piece text : List ℕ} → Did trace t k u m piece text → (u.left ≡ length m) × (u.written ≡ length text)
  told {t} {k} (Did.read piece more few) = (sym (length-append k piece), refl)
  told (Did.failed more few) = (refl, refl)
  told {t} {k} (Did.served r taken enough z is left) = (sym (length-drop r.read k), refl)

  -- so the loop's answer tells how many bytes were read and not served
  pub left_told : {n : ℕ} {l w : List ℕ} {t : Turn} {k : List ℕ} → Turns trace n l w t k → t.left ≡ length k
  left_told Turns.none = refl
  left_told (Turns.more h p d) = (told d).0

  -- what the turns read and handed to `write` are pieces brought and texts of blocks
  pub led : {n : ℕ} {l w : List ℕ} {t : Turn} {k : List ℕ} → Turns trace n l w t k → Led l w t k
  led Turns.none = begun
  led (Turns.more {n} {l} {w} {t} {u} {k} {m} {piece} {text} h p d) = did (not_stopped t k p) (led h) d

  -- ---- the end

  -- where nothing was left to do, and no read and no write had failed, all that was handed to `write` is the text of the whole run on what was read
  pub all_written : {n : ℕ} {l w : List ℕ} {t : Turn} {k : List ℕ} → Turns trace n l w t k → goes_on t k ≡ false → t.failed ≡ None
      → (whole trace beginning l).text ≡ w
  all_written {n} {l} {w} {t} {k} h e f = M.put_together (lawful trace) (between_of t k) (led h) (at_end t k e f)

  -- before the input is over, what was handed to `write` is what turns of the whole run write, whatever follows what was read
  pub so_far : {n : ℕ} {l w : List ℕ} {t : Turn} {k : List ℕ} → Turns trace n l w t k → t.over ≡ false → (later : List ℕ)
      → Goes (bench trace) beginning (l ++ later) w t.sensor (k ++ later) t.stop
  so_far {n} {l} {w} {t} {k} h e later = M.so_far (lawful trace) (renamed _ _ (same_between refl refl e refl) (led h)) later

  -- ---- within the loop: some number of turns done, from a reader with the bytes a and a writer with the bytes v

  pub record Upto (a b v w : Option (List ℕ)) (count : ℕ) (t : Turn) (k : List ℕ) : Type 0 where
    pub read : List ℕ
    pub handed : List ℕ
    pub turns : Turns trace count read handed t k
    pub took : Consumes a b read
    pub all : t.over ≡ true → IsAtEnd b
    pub wrote : Wrote t.failed v w handed

  pub upto_first : (a v : Option (List ℕ)) (t : Turn) (k : List ℕ) → t ≡ first → k ≡ [] → Upto a a v v 0 t k
  upto_first a v t k e f = rw (e, f) (record { read = []; handed = []; turns = Turns.none; took = Consumes-nil a; all = λ z. contrary z; wrote = Appends-nil v })

  -- a turn writes only where none has failed
  wrote_more : (f g : Option Failed) (u v w : Option (List ℕ)) (l m : List ℕ) → f ≡ None → Wrote f u v l → Wrote g v w m → Wrote g u w (l ++ m)
  wrote_more f None u v w l m e p q = Appends-trans u v w l m (rw e at p) q
  wrote_more f (Some Failed.Read) u v w l m e p q = Appends-trans u v w l m (rw e at p) q
  wrote_more f (Some Failed.Write) u v w l m e p q = tt

  pub upto_next : {a b c v w x : Option (List ℕ)} {n : ℕ} {t u : Turn} {k m o : List ℕ} → Upto a b v w n t k → goes_on t k ≡ true
      → Stepped trace t k u m o b c w x → Upto a c v x (n + 1) u m
  upto_next {a} {b} {c} {v} {w} {x} {n} {t} {u} {k} {m} h p s =
      record {
        read = h.read ++ s.piece;
        handed = h.handed ++ s.text;
        turns = Turns.more h.turns p s.did;
        took = Consumes-trans a b c h.read s.piece h.took s.took;
        all = λ o. s.all o h.all;
        wrote = wrote_more t.failed u.failed v w x h.handed s.text (going t k p).not_failed h.wrote s.wrote;
      }

  pub ended_now : {a b v w : Option (List ℕ)} {n : ℕ} {t : Turn} {k : List ℕ} → Upto a b v w n t k → goes_on t k ≡ false → Streamed trace t a b v w
  ended_now {a} {b} {v} {w} {n} {t} {k} h p =
      record { ended = record { count = n; read = h.read; handed = h.handed; kept = k; turns = h.turns; end = inl p }; took = h.took; all = h.all; wrote = h.wrote }

  pub used_up : {a b v w : Option (List ℕ)} {n : ℕ} {t : Turn} {k : List ℕ} → Upto a b v w n t k → n ≡ 2 ^ 64 - 1 → Streamed trace t a b v w
  used_up {a} {b} {v} {w} {n} {t} {k} h p =
      record { ended = record { count = n; read = h.read; handed = h.handed; kept = k; turns = h.turns; end = inr p }; took = h.took; all = h.all; wrote = h.wrote }

  -- ---- the whole run

  -- where the input was xs, the output has got the text of the whole run on xs, unless refusal 7 was met, a read or a write failed, or a run has more turns than any
  pub whole_text : {b w : Option (List ℕ)} {t : Turn} (xs ys : List ℕ) (h : Streamed trace t (Some xs) b (Some ys) w) → goes_on t h.ended.kept ≡ false → t.failed ≡ None → t.over ≡ true
      → w ≡ Some (ys ++ (whole trace beginning xs).text)
  whole_text {b} {w} {t} xs ys h e f o =
      got w (subst (λ (x : Option Failed). Wrote x (Some ys) w h.ended.handed) f h.wrote)
      ∙ ap (λ (l : List ℕ). Some (ys ++ l)) (sym (all_written h.ended.turns e f) ∙ ap (λ (l : List ℕ). (whole trace beginning l).text) (read_all b (h.all o) h.took))
    where
      got : (v : Option (List ℕ)) → Appends (Some ys) v h.ended.handed → v ≡ Some (ys ++ h.ended.handed)
      got None p = absurd p
      got (Some zs) p = ap (λ (l : List ℕ). Some l) p

      read_all : (c : Option (List ℕ)) → IsAtEnd c → Consumes (Some xs) c h.ended.read → h.ended.read ≡ xs
      read_all None p q = absurd q
      read_all (Some zs) p q = sym (q ∙ ap (λ (l : List ℕ). h.ended.read ++ l) p ∙ append-nil h.ended.read)
