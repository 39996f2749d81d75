-- SPI frames through the calls: any accepted moments, with other calls anywhere between.
use Rattle.std.specs.Prelude.{◌≡◌, refl, Bool, true, false, List, [], ◌∷◌, Option, Some, None}
use Rattle.std.proofs.Common.{sym, ◌∙◌}
use Rattle.std.proofs.Math.Path.{ap, subst}
use Rattle.spi.specs.declared.types.Drive.TheVariants as D
use Rattle.spi.specs.declared.types.Frame.{Frame}
use Rattle.spi.specs.Lines.{Event, Now, Seen, seen}
use Rattle.calls.specs.declared.types.Call.{Call}
use Rattle.bma150.specs.declared.host.Bma150.{Bma150}
use Rattle.book.specs.Lists.{accepts, step, after, accepted}
use Rattle.bus.specs.Spi.{Chosen, edge_of, and_some, edges, now_of, leaves_frame, left_frame, sleeps_at, sleeps, now_edge, nows}
use Rattle.bus.specs.Theorems.Calls.{refused_leaves}
use Rattle.bus.specs.Theorems.Lists.{not_first, not_rest}
use Rattle.bus.specs.Theorems.SpiServed.{predicted, call_left}
use Rattle.bus.specs.Theorems.SpiLists.{One, one_awake, one_floating, Exact}

-- ---- a sensor that hears SPI goes on hearing it

module _ (s : Bma150) (c : Call) (cs : List Call) (h : Chosen s.sensor) (n : left_frame s (c ∷ cs) ≡ false) where
  pub stays : accepts s c ≡ true → leaves_frame s c ≡ false
  stays = not_first leaves_frame s c cs n

  pub rest_stays : left_frame (step s c) cs ≡ false
  rest_stays = not_rest leaves_frame s c cs n

  pub next_chosen : Chosen (step s c).sensor
  next_chosen = by (accepts s c) refl
    where
      by : (t : Bool) → accepts s c ≡ t → Chosen (step s c).sensor
      by true e = (call_left s h c e (stays e)).hears
      by false e = subst (λ (t : Bma150). Chosen t.sensor) (sym (refused_leaves s c e)) h

pub stays_chosen : (cs : List Call) (s : Bma150) → Chosen s.sensor → left_frame s cs ≡ false → Chosen (after s cs).sensor
unfolding after
stays_chosen [] s h n = h
stays_chosen (c ∷ cs) s h n = stays_chosen cs (step s c) (next_chosen s c cs h n) (rest_stays s c cs h n)

-- ---- a list in which the sensor does not sleep is served exactly

module _ (s : Bma150) (c : Call) (cs : List Call) (n : sleeps s (c ∷ cs) ≡ false) where
  awake_at : accepts s c ≡ true → sleeps_at s c ≡ false
  awake_at = not_first sleeps_at s c cs n

  rest_awake : sleeps (step s c) cs ≡ false
  rest_awake = not_rest sleeps_at s c cs n

pub awake_exact : (cs : List Call) (s : Bma150) → Chosen s.sensor → left_frame s cs ≡ false → sleeps s cs ≡ false → Exact s cs
awake_exact [] s h n a = tt
awake_exact (c ∷ cs) s h n a =
    (λ e. one_awake s c h e (stays s c cs h n e) (awake_at s c cs a e), awake_exact cs (step s c) (next_chosen s c cs h n) (rest_stays s c cs h n) (rest_awake s c cs a))

-- ---- so is one in which the pin floats throughout, asleep or not

abbrev pub AllFloat : List Seen → Type 0
AllFloat [] = Unit {0}
AllFloat (a ∷ l) = (a.driven ≡ D.Floating) × AllFloat l

-- the first edge, and the rest
floating_first : (s : Bma150) (c : Call) (o : Option Event) (es : List Event) (ns : List Now) (f : Frame) → f.driven ≡ D.Floating
    → AllFloat (seen f (and_some o es) (and_some (now_edge s c o) ns)) → ((predicted (now_of s c) f o).driven ≡ D.Floating) × AllFloat (seen (predicted (now_of s c) f o) es ns)
unfolding seen and_some now_edge predicted
floating_first s c None es ns f d x = (d, x)
floating_first s c (Some e) es ns f d x = (x.0, x.1)

abbrev Course : Bma150 → List Call → List Seen
Course s cs = seen s.sensor.frame (edges (accepted s cs)) (nows s cs)

module _ (s : Bma150) (c : Call) (cs : List Call) (h : Chosen s.sensor) (n : left_frame s (c ∷ cs) ≡ false) (d : s.sensor.frame.driven ≡ D.Floating) where
  -- after an accepted call
  accepted_floats : (e : accepts s c ≡ true) → AllFloat (Course s (c ∷ cs)) → One s c × ((step s c).sensor.frame.driven ≡ D.Floating) × AllFloat (Course (step s c) cs)
  unfolding accepted nows edges
  accepted_floats e x =
      let first = floating_first s c (edge_of c) (edges (accepted (step s c) cs)) (nows (step s c) cs) s.sensor.frame d (rw e at x) in
      let one = one_floating s c h e (stays s c cs h n e) first.0 in (
        one,
        ap (λ (f : Frame). f.driven) one.frame ∙ first.0,
        subst (λ (f : Frame). AllFloat (seen f (edges (accepted (step s c) cs)) (nows (step s c) cs))) (sym one.frame) first.1,
      )

  refused_floats : accepts s c ≡ false → AllFloat (Course s (c ∷ cs)) → ((step s c).sensor.frame.driven ≡ D.Floating) × AllFloat (Course (step s c) cs)
  unfolding accepted nows edges
  refused_floats e x =
      let same = ap (λ (t : Bma150). t.sensor.frame) (refused_leaves s c e) in
      (ap (λ (f : Frame). f.driven) same ∙ d, subst (λ (f : Frame). AllFloat (seen f (edges (accepted (step s c) cs)) (nows (step s c) cs))) (sym same) (rw e at x))

  one_floats : AllFloat (Course s (c ∷ cs)) → accepts s c ≡ true → One s c
  one_floats x e = (accepted_floats e x).0

  rest_floats : AllFloat (Course s (c ∷ cs)) → (t : Bool) → accepts s c ≡ t → ((step s c).sensor.frame.driven ≡ D.Floating) × AllFloat (Course (step s c) cs)
  rest_floats x true e = let y = accepted_floats e x in (y.1, y.2)
  rest_floats x false e = refused_floats e x

pub floating_exact : (cs : List Call) (s : Bma150) → Chosen s.sensor → left_frame s cs ≡ false → s.sensor.frame.driven ≡ D.Floating → AllFloat (Course s cs) → Exact s cs
floating_exact [] s h n d x = tt
floating_exact (c ∷ cs) s h n d x =
    let r = rest_floats s c cs h n d x (accepts s c) refl in
    (one_floats s c cs h n d x, floating_exact cs (step s c) (next_chosen s c cs h n) (rest_stays s c cs h n) r.0 r.1)
