-- No command is left waiting, no short read is the input's end, and no turn is idle.
use Rattle.std.specs.Prelude.{◌≡◌, refl, Bool, ◌⊎◌, List, [], ℕ, ◌+◌, ◌≤◌, length, drop}
use Rattle.std.proofs.Common.{sym, ◌∙◌, inl, inr, append-nil, eqb-true}
use Rattle.std.proofs.Math.Bool.{true, false}
use Rattle.std.proofs.Math.Logic.{⊎_elim}
use Rattle.machine.proofs.Theorems.Turns.{Goes}
use Rattle.machine.specs.Block as B
use Rattle.machine.proofs.Theorems.Blocks.{block_takes}
use Rattle.bma150.specs.declared.host.Bma150.{Bma150}
use Rattle.bench.specs.declared.Ran.{Ran}
use Rattle.bench.specs.Run.{bench}
use Rattle.bench.specs.Block.{is_whole, block}
use Rattle.bench.specs.Theorems.Lawful.{lawful}
use Rattle.bench.specs.Theorems.Loop as L
use Rattle.bench_stream.specs.declared.Turn.{Turn}
use Rattle.bench_stream.specs.Loop.{beginning, goes_on, Enough, Did, Turns}
use Rattle.bench_stream.proofs.Theorems.Turn.{contrary, going, not_stopped}
use Rattle.bench_stream.proofs.Theorems.Loop.{so_far}

module _ (trace : Bool) where
  -- a turn that reads, whether or not the read fails
  abbrev pub Reads : {t : Turn} {k : List ℕ} {u : Turn} {m piece text : List ℕ} → Did trace t k u m piece text → Type 0
  Reads (Did.read piece more few) = Unit {0}
  Reads (Did.failed more few) = Unit {0}
  Reads (Did.served r taken enough z is left) = ⊥

  -- what was read is answered up to a command that is not whole
  pub record Answered (l w : List ℕ) : Type 0 where
    pub sensor : Bma150
    pub rest : List ℕ
    pub turned : Goes (bench trace) beginning l w sensor rest false
    pub short : is_whole false rest ≡ false

  answered_of : {n : ℕ} {l w : List ℕ} {t : Turn} {k : List ℕ} → Turns trace n l w t k → goes_on t k ≡ true → t.over ≡ false → is_whole false k ≡ false
      → Answered l w
  answered_of {n} {l} {w} {t} {k} h p e few =
      record {
        sensor = t.sensor;
        rest = k;
        turned = rw (append-nil l, append-nil k, not_stopped t k p) at (so_far trace h e []);
        short = few;
      }

  -- where the loop reads, it has answered every whole command that it had read
  pub answered : {n : ℕ} {l w : List ℕ} {t : Turn} {k : List ℕ} {u : Turn} {m piece text : List ℕ} → Turns trace n l w t k → goes_on t k ≡ true
      → (d : Did trace t k u m piece text) → Reads d → Answered l w
  answered h p (Did.read piece more few) r = answered_of h p more few
  answered h p (Did.failed more few) r = answered_of h p more few
  answered h p (Did.served r taken enough z is left) q = absurd q

  -- a read that brought nothing
  abbrev pub Nothing : {t : Turn} {k : List ℕ} {u : Turn} {m piece text : List ℕ} → Did trace t k u m piece text → Type 0
  Nothing (Did.read piece more few) = length piece ≡ 0
  Nothing (Did.failed more few) = ⊥
  Nothing (Did.served r taken enough z is left) = ⊥

  -- one of the turns was such a read
  unfoldable pub Seen : {n : ℕ} {l w : List ℕ} {t : Turn} {k : List ℕ} → Turns trace n l w t k → Type 0
  Seen Turns.none = ⊥
  Seen (Turns.more h p d) = Nothing d ⊎ Seen h

  over_did : {n : ℕ} {l w : List ℕ} {t : Turn} {k : List ℕ} {u : Turn} {m piece text : List ℕ} (h : Turns trace n l w t k) → (t.over ≡ true → Seen h)
      → (d : Did trace t k u m piece text) → u.over ≡ true → Nothing d ⊎ Seen h
  over_did h before (Did.read piece more few) e = inl (eqb-true (length piece) 0 e)
  over_did h before (Did.failed more few) e = contrary e
  over_did h before (Did.served r taken enough z is left) e = inr (before e)

  -- the input is over only after a read of nothing
  pub over_by_nothing : {n : ℕ} {l w : List ℕ} {t : Turn} {k : List ℕ} (h : Turns trace n l w t k) → t.over ≡ true → Seen h
  unfolding Seen
  over_by_nothing Turns.none e = contrary e
  over_by_nothing (Turns.more {n} {l} {w} {t} {u} {k} {m} {piece} {text} h p d) e = over_did h (λ o. over_by_nothing h o) d e

  module _ (t : Turn) (k : List ℕ) (p : goes_on t k ≡ true) where
    taking : (o : Bool) → t.over ≡ o → Enough t k → B.needed_bytes (bench trace) o k ≤ length k
    unfolding B.needed_bytes
    taking true e enough = (going t k p).some_kept e
    taking false e enough =
        ⊎_elim
        (λ (o : t.over ≡ true). contrary (sym e ∙ o))
        (λ (o : is_whole false k ≡ true). L.enough trace false k o)
        enough

    shrinks : (r : Ran) → Enough t k → (block trace t.over t.sensor k).left ≡ drop r.read k → length (drop r.read k) + 1 ≤ length k
    shrinks r enough left = rw left at (block_takes (lawful trace) t.over t.sensor k (taking t.over refl enough))

  -- a turn that does not read takes a byte at least of those kept
  pub no_idle_turn : {t : Turn} {k : List ℕ} {u : Turn} {m piece text : List ℕ} → goes_on t k ≡ true → (d : Did trace t k u m piece text)
      → Reads d ⊎ (length m + 1 ≤ length k)
  no_idle_turn p (Did.read piece more few) = inl tt
  no_idle_turn p (Did.failed more few) = inl tt
  no_idle_turn {t} {k} p (Did.served r taken enough z is left) = inr (shrinks t k p r enough left)
