-- Every stored write happens over I2C: START, 70 hex and four pairs of register and value at the start's time.
use Rattle.sensor.specs.Operation.{stored_write}
use Rattle.std.specs.Prelude.{ℕ, ◌^◌, ◌<◌, ◌≡◌, refl, Bool, true, false, Option, Some, None}
use Rattle.std.proofs.Common.{arith, sym, ap, subst, ◌∙◌, lit<}
use mathlib.Core.List.{List, [], ◌∷◌, ◌++◌}
use Rattle.laws.specs.Bytes.{sent_bit, seven_bits}
use Rattle.time.specs.declared.Time.{Time}
use Rattle.i2c.specs.declared.types.Levels.{Levels}
use Rattle.i2c.specs.declared.types.Receive.TheVariants as R
use Rattle.i2c.specs.declared.types.Phase.TheVariants as P
use Rattle.i2c.specs.declared.types.State.{State}
use Rattle.deadlines.specs.Deadlines.{is_by}
use Rattle.spi.specs.declared.types.Frame.{Frame}
use Rattle.spi.specs.Frame as F
use Rattle.calls.specs.declared.types.Call.{Call}
use Rattle.calls.proofs.Theorems.Exactly.{same_whole}
use Rattle.registers.specs.Map.{at, control, ee_w}
use Rattle.sensor.specs.declared.types.Sensor.{Sensor}
use Rattle.sensor.specs.Image.{from_nonvolatile}
use Rattle.samples.specs.Samples.{write_end}
use Rattle.writes.specs.Write.{write_register}
use Rattle.serial.specs.I2cPins.{byte_dropped}
use Rattle.bma150.specs.declared.host.Bma150.{Bma150}
use Rattle.book.specs.Lists.{Fractions, Start, started}
use Rattle.happens.specs.Courses.{moved, course, lines, i2c_call, OverI2c}
use Rattle.happens.specs.Happens.{Wanted, Happens}
use Rattle.happens.specs.Theorems.Going.{Goes, goes_on, course_append, all_fit}
use Rattle.happens.specs.Theorems.Holding.{host, Held}
use Rattle.happens.specs.Theorems.Writes.{Awake, Asleep, Manual, automatic_off_written, ee_w_written, stored_written, sleep_written}
use Rattle.happens.specs.Theorems.Waiting.{idle_undue, running_undue, awake_held, asleep_held}
use Rattle.happens.specs.Theorems.Starting.{in_time, few_seconds, a_fraction, started_is, started_awake}
use Rattle.happens.specs.Theorems.Ending.{Begins, happens}
use Rattle.happens.specs.Theorems.I2cBits.{report, clocks, byte_reports, pair_reports, start_reports, engine, receives, last_level, on_bus, meets, address_goes, pair_goes, start_goes}

-- ---- the calls

-- automatic mode off, ee_w set, the stored write, sleep
abbrev pairs : (now : Time) (a x : ℕ) → List Call
pairs now a x = pair_reports now 0x15 0x00 ++ (pair_reports now 0x0a 0x10 ++ (pair_reports now a x ++ pair_reports now 0x0a 0x11))

-- START, 70 hex, and these pairs
abbrev pub i2c_writes : (now : Time) (a x : ℕ) → List Call
i2c_writes now a x = start_reports now ++ (byte_reports now 0x70 ++ pairs now a x)

-- ---- they are a course of I2C, and their fractions fit

-- the clock low, the data line at a level
abbrev resting : (level : Bool) → Option Levels
resting level = Some (lines false level)

-- a report from the levels that the lines have
reported : (now : Time) (c d : Bool) (m : Levels) → moved i2c_call (Some (lines c d)) (report now (lines c d) m) ≡ Some m
unfolding moved i2c_call
reported now c d m = rw (same_whole (lines c d) (lines c d) refl)

clocks_course : (now : Time) (ds : List Bool) (level : Bool) → course i2c_call (clocks now level ds) (resting level) ≡ resting (last_level level ds)
unfolding course clocks last_level
clocks_course now [] level = refl
clocks_course now (d ∷ ds) level =
    let rise = report now (lines false d) (lines true d) in
    let fall = report now (lines true d) (lines false d) in
    ap (λ (l : Option Levels). course i2c_call (clocks now d ds) (moved i2c_call (moved i2c_call l rise) fall)) (reported now false level (lines false d))
    ∙ ap (λ (l : Option Levels). course i2c_call (clocks now d ds) (moved i2c_call l fall)) (reported now false d (lines true d))
    ∙ ap (λ (l : Option Levels). course i2c_call (clocks now d ds) l) (reported now true d (lines false d))
    ∙ clocks_course now ds d

byte_course : (now : Time) (b : ℕ) → course i2c_call (byte_reports now b) (resting false) ≡ resting false
unfolding last_level
byte_course now b =
    course_append i2c_call (clocks now false (seven_bits b)) (clocks now (sent_bit b 6) (sent_bit b 7 ∷ false ∷ [])) (resting false) (resting (sent_bit b 6)) (resting false)
    (clocks_course now (seven_bits b) false) (clocks_course now (sent_bit b 7 ∷ false ∷ []) (sent_bit b 6))

pair_course : (now : Time) (r v : ℕ) → course i2c_call (pair_reports now r v) (resting false) ≡ resting false
pair_course now r v = course_append i2c_call (byte_reports now r) (byte_reports now v) (resting false) (resting false) (resting false) (byte_course now r) (byte_course now v)

start_course : (now : Time) → course i2c_call (start_reports now) (Some (lines true true)) ≡ resting false
unfolding course moved i2c_call
start_course now = refl

over_i2c : (now : Time) (a x : ℕ) → OverI2c (i2c_writes now a x)
over_i2c now a x =
    course_append i2c_call (start_reports now) _ _ (resting false) (resting false) (start_course now)
    (course_append i2c_call (byte_reports now 0x70) _ (resting false) (resting false) (resting false) (byte_course now 0x70)
    (course_append i2c_call (pair_reports now 0x15 0x00) _ (resting false) (resting false) (resting false) (pair_course now 0x15 0x00)
    (course_append i2c_call (pair_reports now 0x0a 0x10) _ (resting false) (resting false) (resting false) (pair_course now 0x0a 0x10)
    (course_append i2c_call (pair_reports now a x) _ (resting false) (resting false) (resting false) (pair_course now a x) (pair_course now 0x0a 0x11)))))

module _ (now : Time) (small : now.1 < 2 ^ 64) where
  clocks_fit : (ds : List Bool) (level : Bool) → Fractions (clocks now level ds)
  unfolding clocks
  clocks_fit [] level = tt
  clocks_fit (d ∷ ds) level = (small, (small, (small, clocks_fit ds d)))

  byte_fits : (b : ℕ) → Fractions (byte_reports now b)
  byte_fits b = all_fit (clocks now false (seven_bits b)) _ (clocks_fit _ false) (clocks_fit _ (sent_bit b 6))

  pair_fits : (r v : ℕ) → Fractions (pair_reports now r v)
  pair_fits r v = all_fit (byte_reports now r) (byte_reports now v) (byte_fits r) (byte_fits v)

  fits : (a x : ℕ) → Fractions (i2c_writes now a x)
  fits a x = (
    small,
    (
      small,
      all_fit (byte_reports now 0x70) _ (byte_fits 0x70)
          (all_fit (pair_reports now 0x15 0x00) _ (pair_fits 0x15 0x00)
          (all_fit (pair_reports now 0x0a 0x10) _ (pair_fits 0x0a 0x10) (all_fit (pair_reports now a x) _ (pair_fits a x) (pair_fits 0x0a 0x11)))),
    ),
  )

-- ---- they begin the write

-- the I2C engine and the levels of the last report are no part of being awake or asleep
awake_engine : {t : Time} {image : List ℕ} {selected : Bool} {s : Sensor} → Awake t image selected s → (st : State) (l : Levels) → Awake t image selected (on_bus s st l)
awake_engine h st l = record { on = h.on; waits = h.waits; awake = h.awake; cells = h.cells; sized = h.sized; frame = h.frame }

asleep_engine : {image : List ℕ} {selected : Bool} {s : Sensor} → Asleep image selected s → (st : State) (l : Levels) → Asleep image selected (on_bus s st l)
asleep_engine h st l = record { on = h.on; waits = h.waits; asleep = h.asleep; cells = h.cells; frame = h.frame }

module _ {b : Start} {a x : ℕ} {cut : Time} (w : Wanted b a x cut) where
  abbrev t : Time
  t = b.time

  abbrev image : List ℕ
  image = b.image

  held : {s : Sensor} → Awake t image false s → is_by (write_end s.writing) t ≡ false → Held t s
  held h e = awake_held (few_seconds w) (a_fraction w) h e

  pair_left : {s : Sensor} → Awake t image false s → is_by (write_end s.writing) t ≡ false → (p r v : ℕ) → r < 128 → v < 256
      → let u = write_register (meets s r v) r v t in Held t u → u.frame ≡ F.fresh false → u.i2c ≡ engine P.Idle r 0 0
      → Goes (host t (on_bus s (receives R.Control p 0 0) (lines false false))) (pair_reports t r v) (host t (on_bus u (receives R.Control r 0 0) (lines false false)))
  pair_left {s} h e p r v lr lv g f i =
      pair_goes t (in_time w) s (held h e) (ap (λ (k : Frame). k.selected) h.frame) r v lr lv p g (ap (λ (k : Frame). k.selected) f) i

  -- the start's sensor, after START, and after each pair
  abbrev started_as : Sensor
  started_as = from_nonvolatile t image

  abbrev s0 : Sensor
  s0 = byte_dropped started_as

  abbrev s1 : Sensor
  s1 = write_register (meets s0 0x15 0x00) 0x15 0x00 t

  abbrev s2 : Sensor
  s2 = write_register (meets s1 0x0a 0x10) 0x0a 0x10 t

  abbrev s3 : Sensor
  s3 = write_register (meets s2 a x) a x t

  abbrev s4 : Sensor
  s4 = write_register (meets s3 0x0a 0x11) 0x0a 0x11 t

  h0 : Awake t image false s0
  h0 = let h = started_awake w in record { on = h.on; waits = h.waits; awake = h.awake; cells = h.cells; sized = h.sized; frame = refl }

  h1 : Manual t image false (meets s0 0x15 0x00) s1 × (s1.writing ≡ s0.writing)
  h1 = automatic_off_written (awake_engine h0 _ _)

  h2 : Manual t image false (meets s1 0x0a 0x10) s2 × (s2.writing ≡ s1.writing) × (ee_w (at s2.registers control) ≡ true)
  h2 = ee_w_written (awake_engine h1.0.awake _ _) h1.0.manual

  idle1 : s1.writing ≡ None
  idle1 = h1.1

  idle2 : s2.writing ≡ None
  idle2 = h2.1 ∙ idle1

  h3 : Manual t image false (meets s2 a x) s3 × (s3.writing ≡ Some (stored_write t a x))
  h3 = stored_written (awake_engine h2.0.awake _ _) h2.0.manual h2.2 idle2 a x w.first_cell w.last_cell

  h4 : Asleep image false s4 × (s4.writing ≡ s3.writing) × (s4.i2c ≡ engine P.Idle 0x0a 0 0)
  h4 = sleep_written (awake_engine h3.0.awake _ _) h3.0.manual

  running4 : s4.writing ≡ Some (stored_write t a x)
  running4 = h4.1 ∙ h3.1

  pairs_go : Goes (host t (on_bus s0 (receives R.Control 0 0 0) (lines false false))) (pairs t a x) (host t (on_bus s4 (receives R.Control 0x0a 0 0) (lines false false)))
  pairs_go =
      let e1 = idle_undue idle1 t in
      let e2 = idle_undue idle2 t in
      let e3 = running_undue (few_seconds w) (a_fraction w) h3.1 in
      goes_on (pair_left h0 (idle_undue refl t) 0 0x15 0x00 (lit< tt) (lit< tt) (held h1.0.awake e1) h1.0.awake.frame h1.0.i2c)
      (goes_on (pair_left h1.0.awake e1 0x15 0x0a 0x10 (lit< tt) (lit< tt) (held h2.0.awake e2) h2.0.awake.frame h2.0.i2c)
      (goes_on (pair_left h2.0.awake e2 0x0a a x (omega (arith, w.last_cell)) w.is_byte (held h3.0.awake e3) h3.0.awake.frame h3.0.i2c)
      (pair_left h3.0.awake e3 a 0x0a 0x11 (lit< tt) (lit< tt) (asleep_held h4.0 t (running_undue (few_seconds w) (a_fraction w) running4)) h4.0.frame h4.2)))

  all_go : Goes (started b) (i2c_writes t a x) (host t (on_bus s4 (receives R.Control 0x0a 0 0) (lines false false)))
  all_go =
      subst (λ (k : Bma150). Goes k (i2c_writes t a x) (host t (on_bus s4 (receives R.Control 0x0a 0 0) (lines false false)))) (sym (started_is w))
      (goes_on (start_goes t (in_time w) started_as (held (started_awake w) (idle_undue refl t)) refl)
      (goes_on (address_goes t (in_time w) s0 (held h0 (idle_undue refl t)) refl 0) pairs_go))

  begins : Begins b a x (i2c_writes t a x)
  begins = record {
    selected = false;
    sensor = on_bus s4 (receives R.Control 0x0a 0 0) (lines false false);
    goes = all_go;
    asleep = asleep_engine h4.0 _ _;
    running = running4;
    fits = fits t w.start_fraction a x;
  }

-- for every accepted start, every cell and byte and every moment of the cut there are I2C reports that make this write and this cut: right after the return the cell holds the cut rule's byte, and every other cell the start's
pub every_write_happens_over_i2c : (b : Start) (a x : ℕ) (cut : Time) → Wanted b a x cut → Happens OverI2c b a x cut
every_write_happens_over_i2c b a x cut w = happens w (begins w) (over_i2c b.time a x)
