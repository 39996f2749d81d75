-- The cut of a running write by 0 mV, the return, and the stored bytes right after it.
use Rattle.sensor.specs.Operation.{Operation, stored_write}
use Rattle.std.specs.Prelude.{ℕ, ◌+◌, ◌-◌, ◌^◌, ◌<◌, ◌≤◌, ◌≡◌, refl, Bool, true, cond, List, [], ◌∷◌, Option, Some, None}
use Rattle.std.proofs.Common.{le_refl, ◌∙◌, le-ltb}
use Rattle.std.proofs.Math.Path.{ap}
use Rattle.std.proofs.Math.Bool.{false}
use Rattle.time.specs.declared.Time.{Time}
use Rattle.time.specs.Time.{ticks, precedes}
use Rattle.nv.specs.Cell.{write_length, cell_number, byte}
use Rattle.deadlines.specs.Deadlines.{is_by}
use Rattle.spi.specs.Frame as F
use Rattle.calls.specs.declared.types.Timed.TheVariants as Timed
use Rattle.calls.specs.declared.types.Call.{Call}
use Rattle.calls.specs.Table as T
use Rattle.calls.specs.Facts as TF
use Rattle.sensor.specs.declared.types.Outage.{Outage}
use Rattle.sensor.specs.declared.types.Sensor.{Sensor}
use Rattle.sensor.specs.Record.{away, cold_of, is_off, is_cold}
use Rattle.sensor.specs.Image.{cell_byte, with_cell, image_at, power_on}
use Rattle.sensor.specs.Select.{reselected, selected_to, may_select}
use Rattle.samples.specs.Samples.{samples_run, write_end, next_deadline, interaction_deadline}
use Rattle.waits.specs.Supply as Supply
use Rattle.waits.specs.Supply.{cut, off, returned, supply_low, supply_ok, set_supply}
use Rattle.bma150.specs.Called.{Added, adds, called, effect, leaves}
use Rattle.book.specs.Lists.{accepts}
use Rattle.happens.specs.Theorems.Going.{Goes, goes_nowhere, goes_first}
use Rattle.happens.specs.Theorems.Accepting.{supply_plain, plain_accepted}
use Rattle.happens.specs.Theorems.Holding.{host, Held, no_samples}
use Rattle.happens.specs.Theorems.Writes.{Asleep}
use Rattle.happens.specs.Theorems.Waiting.{ends_later, asleep_held}

-- without supply after 0 mV, with these stored bytes
pub record Dark (image : List ℕ) (s : Sensor) : Type 0 where
  pub off : is_off s ≡ true
  pub cold : is_cold s ≡ true
  pub cells : s.nonvolatile ≡ image

-- ---- a supply call of 0 mV

-- deselecting leaves the stored bytes
deselected : (s : Sensor) → (selected_to s (may_select s false)).nonvolatile ≡ s.nonvolatile
unfolding selected_to may_select
deselected s = by (F.changes s.frame false)
  where
    by : (b : Bool) → (cond b (reselected s false) s).nonvolatile ≡ s.nonvolatile
    by true = refl
    by false = refl

off_dark : (s : Sensor) (now : Time) → Dark s.nonvolatile (off s now true)
unfolding away cold_of
off_dark s now = record { off = refl; cold = refl; cells = deselected s }

zero_cuts : (s : Sensor) (now : Time) → is_off s ≡ false → (set_supply s 0 now).sensor ≡ off (cut s.writing (Supply.hold_analog s now) now).sensor now true
unfolding set_supply supply_low away
zero_cuts s now = by s.outage
  where
    by : (o : Option Outage) → away o ≡ false → (supply_low o s true now).sensor ≡ off (cut s.writing (Supply.hold_analog s now) now).sensor now true
    by None e = refl
    by (Some o) e = cc

dark_as : {image cells : List ℕ} {s : Sensor} → image ≡ cells → Dark image s → Dark cells s
dark_as e h = record { off = h.off; cold = h.cold; cells = h.cells ∙ e }

-- ---- the cut of a write that runs since t

-- the cut rule's byte in its cell
abbrev pub torn_cells : (t now : Time) (image : List ℕ) (a x : ℕ) → List ℕ
torn_cells t now image a x = with_cell image a (byte (cell_byte image a) x (cell_number a) (ticks now - ticks t))

module _ (t now : Time) {image : List ℕ} {selected : Bool} {a x : ℕ} {s : Sensor} (high : t.0 < 2 ^ 32) (low : t.1 < 2 ^ 64) (late : T.late now ≡ false)
    (since : ticks t ≤ ticks now) (within : ticks now < ticks t + write_length)
    (h : Asleep image selected s) (running : s.writing ≡ Some (stored_write t a x)) where
  cells_torn : (cut s.writing (Supply.hold_analog s now) now).sensor.nonvolatile ≡ torn_cells t now image a x
  unfolding cut
  cells_torn = rw (running, h.cells)

  held : Held now s
  held = asleep_held h now (ap (λ (o : Operation). is_by (write_end o) now) running ∙ ends_later high low now a x within)

  -- the sensor that 0 mV leaves
  abbrev pub dark : Sensor
  dark = off (cut s.writing (Supply.hold_analog s now) now).sensor now true

  -- its cell is torn
  pub is_dark : Dark (torn_cells t now image a x) dark
  is_dark = dark_as cells_torn (off_dark (cut s.writing (Supply.hold_analog s now) now).sensor now)

  -- the supply call of 0 mV is accepted
  pub cut_goes : Goes (host t s) (Call.At now (Timed.Supply 0) ∷ []) (host now dark)
  unfolding leaves effect
  cut_goes =
      goes_first (plain_accepted (host t s) now (Timed.Supply 0) (supply_plain 0) late (le-ltb (ticks now) (ticks t) since) held.undue)
      (ap (λ (u : Sensor). host now (set_supply u 0 now).sensor) (no_samples s now false held.unsampled) ∙ ap (λ (u : Sensor). host now u) (zero_cuts s now held.on))
      (goes_nowhere (host now dark))

-- ---- the return, at the same moment
module _ (now : Time) {image : List ℕ} {s : Sensor} (late : T.late now ≡ false) (h : Dark image s) where
  undue : interaction_deadline s ≡ None
  unfolding next_deadline
  undue = rw h.off

  unsampled : samples_run s ≡ false
  unfolding samples_run
  unsampled = rw h.off

  not_back : precedes now now ≡ false
  not_back = le-ltb (ticks now) (ticks now) (le_refl (ticks now))

  -- that of 2400 mV is accepted
  pub return_accepted : accepts (host now s) (Call.At now (Timed.Supply 2400)) ≡ true
  unfolding is_by
  return_accepted = plain_accepted (host now s) now (Timed.Supply 2400) (supply_plain 2400) late not_back (ap (λ (d : Option Time). is_by d now) undue)

  returns_cold : (set_supply s 2400 now).sensor ≡ power_on s now
  unfolding set_supply supply_ok returned cold_of
  returns_cold = by s.outage h.cold
    where
      by : (o : Option Outage) → cold_of o ≡ true → supply_ok o s now ≡ power_on s now
      by None e = cc
      by (Some o) e = rw e

  -- and returns the sensor as after a start from its stored bytes
  pub return_goes : Goes (host now s) (Call.At now (Timed.Supply 2400) ∷ []) (host now (power_on s now))
  unfolding leaves effect
  return_goes =
      goes_first return_accepted
      (ap (λ (u : Sensor). host now (set_supply u 2400 now).sensor) (no_samples s now false unsampled) ∙ ap (λ (u : Sensor). host now u) returns_cold)
      (goes_nowhere (host now (power_on s now)))

  image_accepted : accepts (host now (power_on s now)) (Call.StoredImage now 19) ≡ true
  unfolding T.refusal T.first_found T.wrong_length TF.facts T.too_late T.goes_back T.out_of_range T.jumps T.before_due T.beside_due
  image_accepted = rw (late, not_back)

  -- the bytes handed out are those that the cut left
  pub image_handed_out : (called (host now (power_on s now)) (Call.StoredImage now 19)).adds ≡ Added.put image
  unfolding T.unless_refused adds image_at
  image_handed_out = rw image_accepted (ap Added.put h.cells)
