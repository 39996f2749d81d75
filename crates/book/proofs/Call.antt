-- What holds of the sensor that an accepted call leaves, and of the one before a refused call, holds of the sensor after the call; and so of a start.
use mathlib.Core.Path.{◌≡◌}
use mathlib.Core.Bool.{true, false}
use Rattle.std.proofs.lemmas.Bool.{cond_both}
use lib.Dec.{eqb}
use Rattle.time.specs.Time.{time}
use Rattle.calls.specs.Table as T
use Rattle.calls.specs.declared.types.Call.{Call}
use Rattle.sensor.specs.Image.{stock}
use Rattle.bma150.specs.declared.host.Bma150.{Bma150}
use Rattle.bma150.specs.Called.{leaves, after_start, start_number}
use Rattle.bma150.specs.Called as Called
use Rattle.book.specs.Lists.{accepts, step, Start, started}

pub after_call : (P : Bma150 → Type 0) (s : Bma150) (c : Call) → (accepts s c ≡ true → P (leaves s c)) → (accepts s c ≡ false → P s) → P (step s c)
unfolding T.unless_refused
after_call P s c p q = cond_both (accepts s c) _ _ P p q

-- of the sensor that an accepted start makes, and of the one that a refused start leaves
pub at_start : (P : Bma150 → Type 0) (b : Start) → (eqb (start_number b.by b.time b.image) 0 ≡ true → P (Called.started b.time b.image)) → P (Called.started (time 0) stock) → P (started b)
unfolding after_start T.unless_refused
at_start P b p q = cond_both (eqb (start_number b.by b.time b.image) 0) _ _ P p (λ e. q)
