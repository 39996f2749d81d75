-- Calls that are accepted: not past the time limit, not before the last accepted one, before next due, and, if reports, from the levels of the last one.
use Rattle.std.specs.Prelude.{ℕ, ◌≡◌, refl, Bool, true, false, not, eqb, Option, Some, None}
use Rattle.std.proofs.Common.{ap, ◌∙◌}
use Rattle.time.specs.declared.Time.{Time}
use Rattle.time.specs.Time.{precedes}
use Rattle.deadlines.specs.Deadlines.{is_by}
use Rattle.i2c.specs.declared.types.Levels.{Levels}
use Rattle.calls.specs.declared.types.Timed.{Timed}
use Rattle.calls.specs.declared.types.Call.{Call}
use Rattle.calls.specs.declared.types.Kind.TheVariants as Kind
use Rattle.calls.specs.declared.types.Facts.{Facts}
use Rattle.calls.specs.Table as T
use Rattle.calls.specs.Facts as TF
use Rattle.calls.proofs.Theorems.Exactly.{same_whole}
use Rattle.samples.specs.Samples.{interaction_deadline}
use Rattle.bma150.specs.declared.host.Bma150.{Bma150}
use Rattle.book.specs.Lists.{accepts}

-- what the table asks of such a call, by the levels that it begins with
abbrev asked : (now : Time) → Option Levels → Facts
asked now from = record { kind = Kind.Timed; time = Some now; bytes = None; axes = None; lines = from }

-- a timed call that sets no accelerations and is no due call, and follows on where these were the levels after the last report
pub record Plain (lines : Levels) (t : Timed) : Type 0 where
  pub from : Option Levels
  pub facts : (now : Time) → TF.timed_facts now t ≡ asked now from
  pub follows : T.jumps lines from ≡ false

-- such are supply, the edges of SPI and I2C reports
pub supply_plain : {lines : Levels} (rail : ℕ) → Plain lines (Timed.Supply rail)
unfolding TF.timed_facts T.jumps
supply_plain rail = record { from = None; facts = λ now. refl; follows = refl }

-- a rise of the SPI clock
pub rising_plain : {lines : Levels} (mosi : Bool) → Plain lines (Timed.Rising mosi)
unfolding TF.timed_facts T.jumps
rising_plain mosi = record { from = None; facts = λ now. refl; follows = refl }

-- a fall of it
pub falling_plain : {lines : Levels} → Plain lines Timed.Falling
unfolding TF.timed_facts T.jumps
falling_plain = record { from = None; facts = λ now. refl; follows = refl }

-- an I2C report, from those levels
pub pins_plain : (before after : Levels) → Plain before (Timed.Pins before after)
unfolding TF.timed_facts T.jumps
pins_plain before after = record { from = Some before; facts = λ now. refl; follows = ap not (same_whole before before refl) }

not_refused : (last : Time) (due : Option Time) (lines : Levels) (now : Time) (from : Option Levels) → T.late now ≡ false → precedes now last ≡ false → T.jumps lines from ≡ false → is_by due now ≡ false
    → T.first_found T.rows (record { last = last; due = due; lines = lines; call = asked now from }) ≡ 0
unfolding T.first_found T.wrong_length T.too_late T.goes_back T.out_of_range T.before_due T.due_by T.beside_due
not_refused last due lines now from l p j d = rw (l, p, j, d)

-- such a call is accepted below the time limit, not before the last accepted one and before next due
pub plain_accepted : (s : Bma150) (now : Time) (t : Timed) → Plain s.sensor.kept.lines t → T.late now ≡ false → precedes now s.last ≡ false → is_by (interaction_deadline s.sensor) now ≡ false
    → accepts s (Call.At now t) ≡ true
unfolding T.refusal TF.facts
plain_accepted s now t f l p d =
    let due = interaction_deadline s.sensor in
    let lines = s.sensor.kept.lines in
    ap (λ (k : Facts). eqb (T.first_found T.rows (record { last = s.last; due = due; lines = lines; call = k })) 0) (f.facts now)
    ∙ ap (λ (n : ℕ). eqb n 0) (not_refused s.last due lines now f.from l p f.follows d)
