-- Sensors that answer alike print the same text.
use Prim.Native.Nat.{ℕ, zero, suc}
use mathlib.Core.Path.{◌≡◌, refl, ap}
use mathlib.Core.Bool.{Bool, true, false, cond}
use mathlib.Core.List.{List, [], ◌∷◌, ◌++◌}
use lib.Dec.{eqb, ltb}
use lib.ListN.{length, get_or}
use Rattle.time.specs.declared.Time.{Time}
use Rattle.calls.specs.declared.types.Call.{Call}
use Rattle.calls.specs.declared.types.Starting.{Starting}
use Rattle.samples.specs.Samples.{interaction_deadline}
use Rattle.bma150.specs.declared.host.Bma150.{Bma150}
use Rattle.bma150.specs.Called.{Called, called, start_number, after_start, interrupt, output, data_output}
use Rattle.bma150.proofs.Theorems.Added.{view_leaves}
use Rattle.book.specs.Lists as C
use Rattle.book.specs.Lists.{Answer, answer, answers}
use Rattle.commands.specs.declared.Command.{Command}
use Rattle.commands.specs.Decode.{decoded, image}
use Rattle.bench.specs.Line as L
use Rattle.laws.specs.Iterate.{iterate}
use Rattle.machine.specs.Machine as M
use Rattle.machine.specs.Machine.{Running, running, turn}
use Rattle.bench.specs.Run.{bench, whole}
use Rattle.printed.specs.Printed.{Alike}

-- ---- what a line shows of a sensor

pub record Shows (s t : Bma150) : Type 0 where
  pub interrupt : interrupt s ≡ interrupt t
  pub output : output s ≡ output t
  pub data_output : data_output s ≡ data_output t
  pub next_due : interaction_deadline s.sensor ≡ interaction_deadline t.sensor

itself : (s : Bma150) → Shows s s
itself s = record { interrupt = refl; output = refl; data_output = refl; next_due = refl }

answer_shows : (s t : Bma150) (k : Call) → answer s k ≡ answer t k → Shows (C.step s k) (C.step t k)
answer_shows s t k e = record {
  interrupt = ap (λ (a : Answer). a.interrupt) e;
  output = ap (λ (a : Answer). a.output) e;
  data_output = ap (λ (a : Answer). a.data_output) e;
  next_due = ap (λ (a : Answer). a.next_due) e;
}

line_alike : (trace : Bool) (b : ℕ) (k l : Called) → k.number ≡ l.number → k.adds ≡ l.adds → Shows k.sensor l.sensor → L.line trace b k ≡ L.line trace b l
unfolding L.line L.pins
line_alike trace b k l e f h = rw (e, f, h.interrupt, h.output, h.data_output, h.next_due)

-- ---- the head and the tail of equal answers

first : Answer → List Answer → Answer
first d [] = d
first d (a ∷ l) = a

rest : List Answer → List Answer
rest [] = []
rest (a ∷ l) = l

module _ (s t : Bma150) (alike : Alike s t) where
  answered : (k : Call) → answer s k ≡ answer t k
  unfolding answers first
  answered k = ap (first (answer s k)) (alike (k ∷ []))

  stepped : (k : Call) → Alike (C.step s k) (C.step t k)
  unfolding answers rest
  stepped k cs = ap rest (alike (k ∷ cs))

  -- a view leaves the sensor, so its answer shows it
  shown : Shows s t
  shown =
      let h : Shows (C.step s (Call.View 0)) (C.step t (Call.View 0)) = answer_shows s t (Call.View 0) (answered (Call.View 0)) in
      rw (view_leaves s 0, view_leaves t 0) h

  -- ---- a command

  -- a start: the same new sensor, or the old ones
  module _ (by : Starting) (now : Time) (bytes : List ℕ) where
    started_shows : (x : Bool) → Shows (cond x (after_start by now bytes) s) (cond x (after_start by now bytes) t)
    started_shows true = itself (after_start by now bytes)
    started_shows false = shown

    started_alike : (x : Bool) → Alike (cond x (after_start by now bytes) s) (cond x (after_start by now bytes) t)
    started_alike true cs = refl
    started_alike false cs = alike cs

  step_alike : (c : Command) (bytes : List ℕ) → Alike (L.step s c bytes) (L.step t c bytes)
  unfolding L.commanded L.started
  step_alike (Command.Start by now) bytes = started_alike by now bytes (eqb (start_number by now bytes) 0)
  step_alike (Command.Host c) bytes = stepped c
  step_alike Command.Bad bytes = alike

  said_alike : (trace : Bool) (b : ℕ) (c : Command) (bytes : List ℕ) → L.said trace b s c bytes ≡ L.said trace b t c bytes
  unfolding L.commanded L.started
  said_alike trace b (Command.Start by now) bytes = line_alike trace b _ _ refl refl (started_shows by now bytes (eqb (start_number by now bytes) 0))
  said_alike trace b (Command.Host c) bytes =
      line_alike trace b (called s c) (called t c)
      (ap (λ (a : Answer). a.number) (answered c))
      (ap (λ (a : Answer). a.adds) (answered c))
      (answer_shows s t c (answered c))
  said_alike trace b Command.Bad bytes = line_alike trace b _ _ refl refl shown

-- ---- a run

-- two benches that differ in the sensor alone, and not in what it answers
record Beside (b d : Running Bma150) : Type 0 where
  sensors : Alike b.state d.state
  left : b.left ≡ d.left
  text : b.text ≡ d.text
  stop : b.stop ≡ d.stop

module _ (trace : Bool) where
  turned : (s t : Bma150) (l u : List ℕ) (z x : Bool) → ltb 0 (length l) ≡ x → Alike s t → Beside (turn (bench trace) (running s l u z)) (turn (bench trace) (running t l u z))
  unfolding turn
  turned s t l u true x e a = record { sensors = a; left = refl; text = refl; stop = refl }
  turned s t l u false false e a = rw e (record { sensors = a; left = refl; text = refl; stop = refl })
  turned s t l u false true e a =
      rw e
      (record {
        sensors = step_alike s t a (decoded l) (image l);
        left = refl;
        text = ap (λ (y : List ℕ). u ++ y) (said_alike s t a trace (get_or l 0 0) (decoded l) (image l));
        stop = refl;
      })

  turn_beside : (b d : Running Bma150) → Beside b d → Beside (turn (bench trace) b) (turn (bench trace) d)
  turn_beside b d h =
      rw (h.left, h.text, h.stop) (turned b.state d.state d.left d.text d.stop (ltb 0 (length d.left)) refl h.sensors)

  iter_beside : (n : ℕ) (b d : Running Bma150) → Beside b d → Beside (iterate n (turn (bench trace)) b) (iterate n (turn (bench trace)) d)
  unfolding iterate
  iter_beside zero b d h = h
  iter_beside (suc n) b d h = turn_beside (iterate n (turn (bench trace)) b) (iterate n (turn (bench trace)) d) (iter_beside n b d h)

pub alike_prints : (s t : Bma150) → Alike s t → (trace : Bool) (input : List ℕ) → (whole trace s input).text ≡ (whole trace t input).text
unfolding M.whole
alike_prints s t a trace input =
    (iter_beside trace (length input) (running s input [] false) (running t input [] false) (record { sensors = a; left = refl; text = refl; stop = refl })).text
