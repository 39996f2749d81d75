-- Lists of calls as a selected sensor that hears SPI meets them: what their edges make, whatever calls come between.
use Rattle.std.specs.Prelude.{◌≡◌, Bool, Option, Some, None}
use Rattle.std.proofs.Math.Path.{refl, sym, ap}
use Rattle.std.proofs.Common.{◌∙◌}
use Rattle.std.proofs.Math.Bool.{true, false}
use mathlib.Core.List.{List, [], ◌∷◌}
use Rattle.laws.specs.Bools.{or_right}
use Rattle.spi.specs.declared.types.Drive.{Drive}
use Rattle.spi.specs.declared.types.Drive.TheVariants as D
use Rattle.spi.specs.declared.types.Frame.{Frame}
use Rattle.spi.specs.Lines.{Event, Now, serve, samples, deeds, Seen, left, seen}
use Rattle.calls.specs.declared.types.Call.{Call}
use Rattle.sensor.specs.declared.types.Sensor.{Sensor}
use Rattle.sensor.specs.Record.{four_wire}
use Rattle.serial.specs.Outputs.{spi_drives, output, i2c_holds, data_output}
use Rattle.bma150.specs.declared.host.Bma150.{Bma150}
use Rattle.bma150.specs.Called.{acts}
use Rattle.book.specs.Lists.{accepts, step, after, accepted}
use Rattle.bus.specs.Spi.{Chosen, edge_of, and_some, edges, now_of, leaves_frame, act_sleeps, sleeps_at, spi_pin, seen_edge, now_edge, seen_edges, nows}
use Rattle.bus.specs.Theorems.Parts.{is_never}
use Rattle.bus.specs.Theorems.Calls.{refused_leaves}
use Rattle.bus.specs.Theorems.Fading.{floating_exact}
use Rattle.bus.specs.Theorems.SpiServed.{predicted, call_left}

-- ---- the pin

module _ (s : Sensor) (h : Chosen s) where
  not_held : i2c_holds s ≡ false
  unfolding i2c_holds
  not_held = rw h.selected

  -- awake it shows what the frame drives
  pub awake_pin : s.sampling.asleep ≡ false → spi_pin s ≡ s.frame.driven
  unfolding spi_pin output data_output spi_drives
  awake_pin a = by (four_wire s) refl
    where
      by : (w : Bool) → four_wire s ≡ w → spi_pin s ≡ s.frame.driven
      by true e = rw (e, is_never s.deadlines.serial_ready h.ready, h.selected, a, is_never s.deadlines.quiet h.loud)
      by false e = rw (e, not_held, is_never s.deadlines.serial_ready h.ready, h.selected, a, is_never s.deadlines.quiet h.loud)

  -- and it floats where the frame does
  pub floating_pin : s.frame.driven ≡ D.Floating → spi_pin s ≡ D.Floating
  unfolding spi_pin output data_output
  floating_pin f = by (four_wire s) (spi_drives s) refl refl
    where
      by : (w z : Bool) → four_wire s ≡ w → spi_drives s ≡ z → spi_pin s ≡ D.Floating
      by true true e g = rw (e, g, f)
      by true false e g = rw (e, g)
      by false true e g = rw (e, not_held, g, f)
      by false false e g = rw (e, not_held, g)

-- ---- a call whose frame is exactly the predicted one, driver and pin included

pub record One (s : Bma150) (c : Call) : Type 0 where
  pub frame : (step s c).sensor.frame ≡ predicted (now_of s c) s.sensor.frame (edge_of c)
  pub pin : spi_pin (step s c).sensor ≡ (predicted (now_of s c) s.sensor.frame (edge_of c)).driven

-- a sensor that does not sleep is awake after the call
last_awake : (s : Bma150) (c : Call) → sleeps_at s c ≡ false → (step s c).sensor.sampling.asleep ≡ false
unfolding sleeps_at
last_awake s c p = or_right (act_sleeps s.sensor (acts c)) (step s c).sensor.sampling.asleep p

module _ (s : Bma150) (c : Call) (h : Chosen s.sensor) (ok : accepts s c ≡ true) (stays : leaves_frame s c ≡ false) where
  -- if the sensor does not sleep
  pub one_awake : sleeps_at s c ≡ false → One s c
  one_awake p =
      let l = call_left s h c ok stays in
      let f = l.frame.exact p in
      record { frame = f; pin = awake_pin (step s c).sensor l.hears (last_awake s c p) ∙ ap (λ (k : Frame). k.driven) f }

  -- or if the predicted driver floats
  pub one_floating : (predicted (now_of s c) s.sensor.frame (edge_of c)).driven ≡ D.Floating → One s c
  one_floating p =
      let l = call_left s h c ok stays in
      let f = floating_exact l.frame p in
      record { frame = f; pin = floating_pin (step s c).sensor l.hears (ap (λ (k : Frame). k.driven) f ∙ p) ∙ sym p }

-- ---- lists

-- each accepted call is so
abbrev pub Exact : Bma150 → List Call → Type 0
Exact s [] = Unit {0}
Exact s (c ∷ cs) = (accepts s c ≡ true → One s c) × Exact (step s c) cs

-- what is left and what is seen
abbrev pub Through : Bma150 → List Call → Type 0
Through s cs =
    ((after s cs).sensor.frame ≡ left s.sensor.frame (edges (accepted s cs)) (nows s cs))
    × (seen_edges s cs ≡ seen s.sensor.frame (edges (accepted s cs)) (nows s cs))

left_some : (s : Bma150) (c : Call) (o : Option Event) (es : List Event) (ns : List Now) (f : Frame)
    → left f (and_some o es) (and_some (now_edge s c o) ns) ≡ left (predicted (now_of s c) f o) es ns
unfolding left and_some now_edge predicted
left_some s c None es ns f = refl
left_some s c (Some e) es ns f = refl

seen_some : (s : Bma150) (c : Call) (o : Option Event) (es : List Event) (ns : List Now) → let f = s.sensor.frame in
    spi_pin (step s c).sensor ≡ (predicted (now_of s c) f o).driven
    → seen f (and_some o es) (and_some (now_edge s c o) ns) ≡ and_some (seen_edge s c o) (seen (predicted (now_of s c) f o) es ns)
unfolding seen and_some now_edge seen_edge predicted
seen_some s c None es ns p = refl
seen_some s c (Some e) es ns p =
    let n = now_of s c in
    let f = s.sensor.frame in
    ap (λ (d : Drive). record { driven = d; sampled = samples n f e; deeds = deeds n f e } ∷ seen (serve n f e) es ns) (sym p)

module _ (s : Bma150) (c : Call) (cs : List Call) (rest : Through (step s c) cs) where
  after_accepted : accepts s c ≡ true → One s c → Through s (c ∷ cs)
  unfolding after accepted nows seen_edges edges
  after_accepted e one =
      let es = edges (accepted (step s c) cs) in
      let ns = nows (step s c) cs in
      let n = now_of s c in
      let f = s.sensor.frame in (
        rw e (rest.0 ∙ ap (λ (k : Frame). left k es ns) one.frame ∙ sym (left_some s c (edge_of c) es ns f)),
        rw e
            (ap (λ (l : List Seen). and_some (seen_edge s c (edge_of c)) l) (rest.1 ∙ ap (λ (k : Frame). seen k es ns) one.frame)
            ∙ sym (seen_some s c (edge_of c) es ns one.pin)),
      )

  after_refused : accepts s c ≡ false → Through s (c ∷ cs)
  unfolding after accepted nows seen_edges edges
  after_refused e =
      let es = edges (accepted (step s c) cs) in
      let ns = nows (step s c) cs in
      let same = ap (λ (t : Bma150). t.sensor.frame) (refused_leaves s c e) in
      (rw e (rest.0 ∙ ap (λ (k : Frame). left k es ns) same), rw e (rest.1 ∙ ap (λ (k : Frame). seen k es ns) same))

  either_way : (t : Bool) → accepts s c ≡ t → (accepts s c ≡ true → One s c) → Through s (c ∷ cs)
  either_way true e one = after_accepted e (one e)
  either_way false e one = after_refused e

pub through_edges : (cs : List Call) (s : Bma150) → Exact s cs → Through s cs
unfolding after accepted nows seen_edges edges left seen
through_edges [] s x = (refl, refl)
through_edges (c ∷ cs) s x = either_way s c cs (through_edges cs (step s c) x.1) (accepts s c) refl x.0
