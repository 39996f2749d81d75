-- Lists of calls for the examples and for the hosts that are wrong.
use Prim.Native.Nat.{ℕ, ◌/◌, ◌^◌, ◌<◌}
use mathlib.Core.Bool.{Bool, true, false}
use mathlib.Core.List.{List, ◌∷◌}
use lib.Dec.{lit<}
use Rattle.laws.specs.Bytes.{sent_bit}
use Rattle.time.specs.declared.Time.{Time}
use Rattle.time.specs.Time.{time}
use Rattle.nv.specs.Cell.{write_length}
use Rattle.i2c.specs.declared.types.Levels.{Levels}
use Rattle.sensor.specs.Image.{stock}
use Rattle.calls.specs.declared.types.Timed.TheVariants as Timed
use Rattle.calls.specs.declared.types.Call.{Call}
use Rattle.calls.specs.declared.types.Starting.TheVariants as Starting
use Rattle.book.specs.Lists.{Start, Fractions}

-- ---- calls

abbrev pub supply : Time → (rail : ℕ) → Call
supply t rail = Call.At t (Timed.Supply rail)

abbrev pub due : Time → Call
due t = Call.At t Timed.Due

-- SPI: the rises of a register's address and of its value, before other calls
abbrev pub rises : Time → ℕ → List Call → List Call
rises t b others =
    Call.At t (Timed.Rising (sent_bit b 0)) ∷ Call.At t (Timed.Rising (sent_bit b 1)) ∷ Call.At t (Timed.Rising (sent_bit b 2)) ∷ Call.At t (Timed.Rising (sent_bit b 3))
    ∷ Call.At t (Timed.Rising (sent_bit b 4)) ∷ Call.At t (Timed.Rising (sent_bit b 5)) ∷ Call.At t (Timed.Rising (sent_bit b 6)) ∷ Call.At t (Timed.Rising (sent_bit b 7)) ∷ others

abbrev pub frame : Time → (address value : ℕ) → List Call → List Call
frame t address value others = rises t address (rises t value others)

-- I2C: reports whose levels follow on
abbrev pub lines : (scl sda : Bool) → Levels
lines scl sda = record { scl = scl; sda = sda }

abbrev report : Time → (before after : Levels) → Call
report t before after = Call.At t (Timed.Pins before after)

-- START from both lines high, and the clock falls
abbrev pub start : Time → List Call → List Call
start t others = report t (lines true true) (lines true false) ∷ report t (lines true false) (lines false false) ∷ others

-- a bit: the data moves while the clock is low, the clock rises and falls
abbrev clock : Time → (was bit : Bool) → List Call → List Call
clock t was bit others = report t (lines false was) (lines false bit) ∷ report t (lines false bit) (lines true bit) ∷ report t (lines true bit) (lines false bit) ∷ others

-- a byte and its ninth clock, with the data low before and after
abbrev pub byte : Time → ℕ → List Call → List Call
byte t b others =
    clock t false (sent_bit b 0)
    (clock t (sent_bit b 0) (sent_bit b 1)
    (clock t (sent_bit b 1) (sent_bit b 2)
    (clock t (sent_bit b 2) (sent_bit b 3)
    (clock t (sent_bit b 3) (sent_bit b 4)
    (clock t (sent_bit b 4) (sent_bit b 5)
    (clock t (sent_bit b 5) (sent_bit b 6)
    (clock t (sent_bit b 6) (sent_bit b 7)
    (clock t (sent_bit b 7) false others))))))))

-- before a repeated START: the data rises while the clock is low, then the clock rises
abbrev pub released : Time → List Call → List Call
released t others = report t (lines false false) (lines false true) ∷ report t (lines false true) (lines true true) ∷ others

-- all but the last bit of ff, over I2C and over SPI
abbrev pub seven_clocks : Time → List Call → List Call
seven_clocks t others =
    clock t false true (clock t true true (clock t true true (clock t true true (clock t true true (clock t true true (clock t true true others))))))

abbrev pub seven_rises : Time → List Call → List Call
seven_rises t others =
    Call.At t (Timed.Rising true) ∷ Call.At t (Timed.Rising true) ∷ Call.At t (Timed.Rising true) ∷ Call.At t (Timed.Rising true)
    ∷ Call.At t (Timed.Rising true) ∷ Call.At t (Timed.Rising true) ∷ Call.At t (Timed.Rising true) ∷ others

-- ---- their fractions fit

-- a list that does
pub record Good (cs : List Call) : Type 0 where
  pub good : Fractions cs

module _ (t : Time) (small : t.1 < 2 ^ 64) {others : List Call} (g : Good others) where
  pub rises_good : (b : ℕ) → Good (rises t b others)
  rises_good b = record { good = (small, (small, (small, (small, (small, (small, (small, (small, g.good)))))))) }

  pub start_good : Good (start t others)
  start_good = record { good = (small, (small, g.good)) }

  pub released_good : Good (released t others)
  released_good = record { good = (small, (small, g.good)) }

  pub seven_rises_good : Good (seven_rises t others)
  seven_rises_good = record { good = (small, (small, (small, (small, (small, (small, (small, g.good))))))) }

  clock_good : (was bit : Bool) → Good (clock t was bit others)
  clock_good was bit = record { good = (small, (small, (small, g.good))) }

pub frame_good : (t : Time) → t.1 < 2 ^ 64 → (address value : ℕ) {others : List Call} → Good others → Good (frame t address value others)
frame_good t small address value g = rises_good t small (rises_good t small g value) address

pub byte_good : (t : Time) → t.1 < 2 ^ 64 → (b : ℕ) {others : List Call} → Good others → Good (byte t b others)
byte_good t small b g =
    clock_good t small
    (clock_good t small
    (clock_good t small
    (clock_good t small
    (clock_good t small
    (clock_good t small
    (clock_good t small
    (clock_good t small
    (clock_good t small g _ _)
    _ _)
    _ _)
    _ _)
    _ _)
    _ _)
    _ _)
    _ _)
    _ _

pub seven_clocks_good : (t : Time) → t.1 < 2 ^ 64 → {others : List Call} → Good others → Good (seven_clocks t others)
seven_clocks_good t small g =
    clock_good t small
    (clock_good t small (clock_good t small (clock_good t small (clock_good t small (clock_good t small (clock_good t small g _ _) _ _) _ _) _ _) _ _) _ _)
    _ _

-- ---- starts and moments

abbrev pub stock_start : Start
stock_start = record { by = Starting.Checked; time = time 0; image = stock }

-- where a stored write that began at 0 ends, and a quarter of the way to it
abbrev pub completion : Time
completion = time write_length

abbrev pub quarter : Time
quarter = time (write_length / 4)

-- the first second that is refused
abbrev pub too_late : Time
too_late = record { 0 = 2 ^ 32; 1 = 0 }

-- after a return at 0: the first conversion, and the moment from which the serial pins live
abbrev pub first_due : Time
first_due = time 49191317529892137

abbrev pub live : Time
live = time 55340232221128654

-- ---- lists

-- SPI: ee_w is set, ff is written to 2c, and the sensor sleeps; then others
abbrev pub writing : List Call → List Call
writing others = Call.Select true ∷ frame (time 0) 0x0a 0x10 (frame (time 0) 0x2c 0xff (frame (time 0) 0x0a 0x11 others))

pub writing_good : {others : List Call} → Good others → Good (writing others)
writing_good g =
    let h = frame_good (time 0) (lit< tt) 0x0a 0x10 (frame_good (time 0) (lit< tt) 0x2c 0xff (frame_good (time 0) (lit< tt) 0x0a 0x11 g)) in
    record { good = (tt, h.good) }
