-- Every stored write happens over SPI: select, and four write frames at the start's time.
use Rattle.sensor.specs.Operation.{stored_write}
use Rattle.std.specs.Prelude.{ℕ, ◌^◌, ◌<◌, ◌≡◌, Bool, true, false, Option, Some, None}
use Rattle.std.proofs.Common.{arith, sym, subst, ◌∙◌, lit<}
use Rattle.std.proofs.Math.Path.{refl}
use mathlib.Core.List.{List, [], ◌∷◌, ◌++◌}
use Rattle.laws.specs.Bytes.{sent_bit, seven_bits}
use Rattle.time.specs.declared.Time.{Time}
use Rattle.deadlines.specs.Deadlines.{is_set, is_by}
use Rattle.spi.specs.Frame as F
use Rattle.calls.specs.declared.types.Call.{Call}
use Rattle.registers.specs.Map.{at, control, ee_w}
use Rattle.sensor.specs.declared.types.Sensor.{Sensor}
use Rattle.sensor.specs.Record.{away}
use Rattle.sensor.specs.Image.{from_nonvolatile}
use Rattle.sensor.specs.Select.{reselected, selected_to, may_select}
use Rattle.samples.specs.Samples.{write_end}
use Rattle.writes.specs.Write.{write_register}
use Rattle.bma150.specs.declared.host.Bma150.{Bma150}
use Rattle.bma150.specs.Called.{leaves}
use Rattle.book.specs.Lists.{Fractions, Start, started}
use Rattle.bus.specs.Theorems.SpiTransfers.{select_accepted}
use Rattle.happens.specs.Courses.{moved, course, SpiPins, spi, spi_edge, spi_call, OverSpi}
use Rattle.happens.specs.Happens.{Wanted, Happens}
use Rattle.happens.specs.Theorems.Going.{Goes, goes_first, goes_on, course_append, all_fit}
use Rattle.happens.specs.Theorems.Holding.{host}
use Rattle.happens.specs.Theorems.Writes.{Awake, Asleep, Manual, automatic_off_written, ee_w_written, stored_written, sleep_written}
use Rattle.happens.specs.Theorems.Waiting.{idle_undue, running_undue, awake_held}
use Rattle.happens.specs.Theorems.Starting.{in_time, few_seconds, a_fraction, started_is, started_awake}
use Rattle.happens.specs.Theorems.Ending.{Begins, happens}
use Rattle.happens.specs.Theorems.SpiBits.{edges, byte_edges, frame_edges, frame_goes}

-- ---- the calls

-- automatic mode off, ee_w set, the stored write, sleep
abbrev frames : (now : Time) (a x : ℕ) → List Call
frames now a x = frame_edges now 0x15 0x00 ++ (frame_edges now 0x0a 0x10 ++ (frame_edges now a x ++ frame_edges now 0x0a 0x11))

-- select, and these frames
abbrev pub spi_writes : (now : Time) (a x : ℕ) → List Call
spi_writes now a x = Call.Select true ∷ frames now a x

-- ---- they are a course of SPI, and their fractions fit

abbrev chosen : Option SpiPins
chosen = Some (spi true true)

edges_course : (now : Time) (ds : List Bool) → course spi_call (edges now ds) chosen ≡ chosen
unfolding course moved edges spi_call spi_edge
edges_course now [] = refl
edges_course now (d ∷ ds) = edges_course now ds

byte_course : (now : Time) (b : ℕ) → course spi_call (byte_edges now b) chosen ≡ chosen
byte_course now b = course_append spi_call (edges now (seven_bits b)) (edges now (sent_bit b 7 ∷ [])) chosen chosen chosen (edges_course now _) (edges_course now _)

frame_course : (now : Time) (a x : ℕ) → course spi_call (frame_edges now a x) chosen ≡ chosen
frame_course now a x = course_append spi_call (byte_edges now a) (byte_edges now x) chosen chosen chosen (byte_course now a) (byte_course now x)

over_spi : (now : Time) (a x : ℕ) → OverSpi (spi_writes now a x)
unfolding course moved spi_call
over_spi now a x =
    course_append spi_call (frame_edges now 0x15 0x00) _ chosen chosen chosen (frame_course now 0x15 0x00)
    (course_append spi_call (frame_edges now 0x0a 0x10) _ chosen chosen chosen (frame_course now 0x0a 0x10)
    (course_append spi_call (frame_edges now a x) _ chosen chosen chosen (frame_course now a x) (frame_course now 0x0a 0x11)))

module _ (now : Time) (small : now.1 < 2 ^ 64) where
  edges_fit : (ds : List Bool) → Fractions (edges now ds)
  unfolding edges
  edges_fit [] = tt
  edges_fit (d ∷ ds) = (tt, (small, edges_fit ds))

  frame_fits : (a x : ℕ) → Fractions (frame_edges now a x)
  frame_fits a x =
      all_fit (byte_edges now a) (byte_edges now x)
      (all_fit (edges now (seven_bits a)) _ (edges_fit _) (edges_fit _))
      (all_fit (edges now (seven_bits x)) _ (edges_fit _) (edges_fit _))

  fits : (a x : ℕ) → Fractions (spi_writes now a x)
  fits a x = (
    tt,
    all_fit (frame_edges now 0x15 0x00) _ (frame_fits 0x15 0x00)
        (all_fit (frame_edges now 0x0a 0x10) _ (frame_fits 0x0a 0x10) (all_fit (frame_edges now a x) _ (frame_fits a x) (frame_fits 0x0a 0x11))),
  )

-- ---- they begin the write

module _ {b : Start} {a x : ℕ} {cut : Time} (w : Wanted b a x cut) where
  abbrev t : Time
  t = b.time

  frame_left : {s : Sensor} → Awake t b.image true s → is_by (write_end s.writing) t ≡ false → (r v : ℕ) → r < 128 → v < 256 → (write_register s r v t).frame ≡ F.fresh true
      → Goes (host t s) (frame_edges t r v) (host t (write_register s r v t))
  frame_left {s} h e r v lr lv f = frame_goes t (in_time w) s (awake_held (few_seconds w) (a_fraction w) h e) r v lr lv h.frame f

  -- the start's sensor, and after each call or frame
  abbrev s0 : Sensor
  s0 = from_nonvolatile t b.image

  abbrev s1 : Sensor
  s1 = reselected s0 true

  abbrev s2 : Sensor
  s2 = write_register s1 0x15 0x00 t

  abbrev s3 : Sensor
  s3 = write_register s2 0x0a 0x10 t

  abbrev s4 : Sensor
  s4 = write_register s3 a x t

  abbrev s5 : Sensor
  s5 = write_register s4 0x0a 0x11 t

  h1 : Awake t b.image true s1
  h1 = let h = started_awake w in record { on = h.on; waits = h.waits; awake = h.awake; cells = h.cells; sized = h.sized; frame = refl }

  h2 : Manual t b.image true s1 s2 × (s2.writing ≡ s1.writing)
  h2 = automatic_off_written h1

  h3 : Manual t b.image true s2 s3 × (s3.writing ≡ s2.writing) × (ee_w (at s3.registers control) ≡ true)
  h3 = ee_w_written h2.0.awake h2.0.manual

  idle2 : s2.writing ≡ None
  idle2 = h2.1

  idle3 : s3.writing ≡ None
  idle3 = h3.1 ∙ idle2

  h4 : Manual t b.image true s3 s4 × (s4.writing ≡ Some (stored_write t a x))
  h4 = stored_written h3.0.awake h3.0.manual h3.2 idle3 a x w.first_cell w.last_cell

  h5 : Asleep b.image true s5 × (s5.writing ≡ s4.writing) × (s5.i2c ≡ s4.i2c)
  h5 = sleep_written h4.0.awake h4.0.manual

  selects : leaves (host t s0) (Call.Select true) ≡ host t s1
  unfolding leaves selected_to may_select F.differs is_set away
  selects = refl

  all_go : Goes (started b) (spi_writes t a x) (host t s5)
  all_go =
      subst (λ (k : Bma150). Goes k (spi_writes t a x) (host t s5)) (sym (started_is w))
      (goes_first (select_accepted (host t s0) true) selects
      (goes_on (frame_left h1 (idle_undue refl t) 0x15 0x00 (lit< tt) (lit< tt) h2.0.awake.frame)
      (goes_on (frame_left h2.0.awake (idle_undue idle2 t) 0x0a 0x10 (lit< tt) (lit< tt) h3.0.awake.frame)
      (goes_on (frame_left h3.0.awake (idle_undue idle3 t) a x (omega (arith, w.last_cell)) w.is_byte h4.0.awake.frame)
      (frame_left h4.0.awake (running_undue (few_seconds w) (a_fraction w) h4.1) 0x0a 0x11 (lit< tt) (lit< tt) h5.0.frame)))))

  begins : Begins b a x (spi_writes t a x)
  begins = record { selected = true; sensor = s5; goes = all_go; asleep = h5.0; running = h5.1 ∙ h4.1; fits = fits t w.start_fraction a x }

-- for every accepted start, every cell and byte and every moment of the cut there are SPI calls that make this write and this cut: right after the return the cell holds the cut rule's byte, and every other cell the start's
pub every_write_happens_over_spi : (b : Start) (a x : ℕ) (cut : Time) → Wanted b a x cut → Happens OverSpi b a x cut
every_write_happens_over_spi b a x cut w = happens w (begins w) (over_spi b.time a x)
