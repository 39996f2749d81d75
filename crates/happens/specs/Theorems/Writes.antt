-- The four register writes: automatic mode off, ee_w set, a stored write begun, and sleep.
use Rattle.sensor.specs.Operation.{stored_write}
use Rattle.std.specs.Prelude.{ℕ, ◌<◌, ◌≤◌, ◌≡◌, Bool, List, length, set, Some, None}
use Rattle.std.proofs.Common.{arith, sym, ◌∙◌, lit<, length-set, get_or-set_same, get_or-set_other}
use Rattle.std.proofs.Math.Path.{refl, ap, subst}
use Rattle.std.proofs.Math.Bool.{true, false}
use borrow.Author.Tests.{le-leb, lt-leb}
use Rattle.time.specs.declared.Time.{Time}
use Rattle.spi.specs.declared.types.Frame.{Frame}
use Rattle.spi.specs.Frame as F
use Rattle.deadlines.specs.declared.Deadlines.{Deadlines}
use Rattle.deadlines.specs.Deadlines.{is_set, never, with_irq_hold, with_pause, with_wake}
use Rattle.registers.specs.declared.access.Gate.{Gate}
use Rattle.registers.specs.Map.{at, control, operation, ee_w, wake_up}
use Rattle.registers.specs.Access.{unwritable, stored, image_blocks, sleep_blocks, locked, ignores}
use Rattle.control.specs.declared.types.WriteKind.{WriteKind}
use Rattle.control.specs.declared.types.Effect.{Effect}
use Rattle.control.specs.Kinds as Kinds
use Rattle.sampling.specs.Phase.{with_test}
use Rattle.sensor.specs.declared.types.Sensor.{Sensor}
use Rattle.sensor.specs.Record.{put, with_reads, with_sampling, gate, automatic, is_writing, runs}
use Rattle.sensor.specs.Image.{acquiring, shadowing}
use Rattle.sensor.specs.Mode.{automatic_off, automatic_control, criterion, pause}
use Rattle.writes.specs.Write.{recounted, interrupts_written, tested, slept, image_written, control_written, mode_written, register_effect, begun, write_effect, write_register}

-- a sensor as it is from its start on: awake, with supply, its first scan to come, its stored bytes and its frame these
pub record Awake (t : Time) (image : List ℕ) (selected : Bool) (s : Sensor) : Type 0 where
  pub on : s.outage ≡ None
  pub waits : s.deadlines ≡ acquiring t
  pub awake : s.sampling.asleep ≡ false
  pub cells : s.nonvolatile ≡ image
  pub sized : length s.registers ≡ 62
  pub frame : s.frame ≡ F.fresh selected

-- asleep outside automatic mode: nothing is due but the end of a write
pub record Asleep (image : List ℕ) (selected : Bool) (s : Sensor) : Type 0 where
  pub on : s.outage ≡ None
  pub waits : s.deadlines ≡ never
  pub asleep : s.sampling.asleep ≡ true
  pub cells : s.nonvolatile ≡ image
  pub frame : s.frame ≡ F.fresh selected

-- what a write leaves of an awake sensor: awake outside automatic mode, its I2C engine as it was
pub record Manual (t : Time) (image : List ℕ) (selected : Bool) (s u : Sensor) : Type 0 where
  pub awake : Awake t image selected u
  pub manual : automatic u ≡ false
  pub i2c : u.i2c ≡ s.i2c

-- what a write meets of an awake sensor
abbrev unbarred : (control : ℕ) → Gate
unbarred c = record { control = c; quiet = false; copying = false; asleep = false }

module _ {t : Time} {image : List ℕ} {selected : Bool} {s : Sensor} (h : Awake t image selected s) where
  gate_unbarred : gate s ≡ unbarred (at s.registers control)
  unfolding is_set
  gate_unbarred = rw (h.waits, h.awake)

  within : (address : ℕ) → address < 62 → address < length s.registers
  within address l = omega (arith, h.sized)

  still_sized : (address value : ℕ) → length (set s.registers address value) ≡ 62
  still_sized address value = length-set s.registers address value ∙ h.sized

-- ---- 15 hex, 00: automatic mode off
module _ {t : Time} {image : List ℕ} {selected : Bool} {s : Sensor} (h : Awake t image selected s) where
  operation_kind : (running : Bool) → Kinds.kind_of_write 0x15 0 (gate s) running ≡ WriteKind.Taken Effect.Operation
  unfolding Kinds.kind_of_write ignores unwritable image_blocks sleep_blocks locked stored Kinds.written_register
  operation_kind running = ap (λ (g : Gate). Kinds.kind_of_write 0x15 0 g running) (gate_unbarred h)

  abbrev put_operation : Sensor
  put_operation = with_reads (put s operation 0) (shadowing s.reads 0)

  abbrev turned : Bool → Sensor
  turned b = automatic_off (mode_written put_operation b)

  now_manual : wake_up (at (set s.registers operation 0) operation) ≡ false
  now_manual = ap (λ (n : ℕ). wake_up n) (get_or-set_same s.registers operation 0 0 (within h operation (lit< tt)))

  controls : (b : Bool) → automatic_control (mode_written put_operation b) t (criterion s) false ≡ turned b
  unfolding automatic_control mode_written recounted
  controls true = rw now_manual
  controls false = rw now_manual

  without_hold : with_pause (with_irq_hold s.deadlines None) None ≡ acquiring t
  without_hold = ap (λ (d : Deadlines). with_pause (with_irq_hold d None) None) h.waits

  turned_awake : (b : Bool) → Awake t image selected (turned b)
  unfolding mode_written recounted
  turned_awake true = record { on = h.on; waits = without_hold; awake = h.awake; cells = h.cells; sized = still_sized h operation 0; frame = h.frame }
  turned_awake false = record { on = h.on; waits = without_hold; awake = h.awake; cells = h.cells; sized = still_sized h operation 0; frame = h.frame }

  turned_left : (b : Bool) → Manual t image selected s (turned b) × ((turned b).writing ≡ s.writing)
  unfolding mode_written recounted
  turned_left true = (record { awake = turned_awake true; manual = now_manual; i2c = refl }, refl)
  turned_left false = (record { awake = turned_awake false; manual = now_manual; i2c = refl }, refl)

  -- it leaves automatic mode, and the running write as it was
  pub automatic_off_written : let u = write_register s 0x15 0 t in Manual t image selected s u × (u.writing ≡ s.writing)
  unfolding write_effect register_effect
  automatic_off_written =
      let b = Kinds.turns_automatic (at s.registers operation) 0 in
      let e : write_register s 0x15 0 t ≡ turned b = ap (λ (k : WriteKind). write_effect k s 0x15 0 t) (operation_kind (is_writing s)) ∙ controls b in
      subst (λ (u : Sensor). Manual t image selected s u × (u.writing ≡ s.writing)) (sym e) (turned_left b)

-- ---- 0a hex, 10 or 11: ee_w set, and sleep

-- its fields but sleep
abbrev put_control : Sensor → (value : ℕ) → Sensor
put_control s value = with_sampling (put s control value) (with_test s.sampling None)

module _ {t : Time} {image : List ℕ} {selected : Bool} {s : Sensor} (h : Awake t image selected s) (manual : automatic s ≡ false) where
  control_kind : (running : Bool) → (Kinds.kind_of_write 0x0a 0x10 (gate s) running ≡ WriteKind.Taken Effect.Control) × (Kinds.kind_of_write 0x0a 0x11 (gate s) running ≡ WriteKind.Taken Effect.Control)
  unfolding Kinds.kind_of_write ignores unwritable image_blocks sleep_blocks locked stored Kinds.written_register Kinds.written_control
  control_kind running = (
    ap (λ (g : Gate). Kinds.kind_of_write 0x0a 0x10 g running) (gate_unbarred h),
    ap (λ (g : Gate). Kinds.kind_of_write 0x0a 0x11 g running) (gate_unbarred h),
  )

  -- 10 hex keeps it awake, 11 hex sends it to sleep
  opened_is : control_written s 0x10 t ≡ put_control s 0x10
  unfolding interrupts_written Kinds.self_test tested Kinds.sleep slept image_written
  opened_is = rw h.awake

  slept_is : control_written s 0x11 t ≡ pause (put_control s 0x11) t
  unfolding interrupts_written Kinds.self_test tested Kinds.sleep slept image_written
  slept_is = rw h.awake

  still_manual : (value : ℕ) → wake_up (at (set s.registers control value) operation) ≡ false
  still_manual value = ap (λ (n : ℕ). wake_up n) (get_or-set_other s.registers control operation value 0 (λ e. omega (arith, e))) ∙ manual

  abbrev opened : Sensor
  opened = automatic_off (put_control s 0x10)

  abbrev sent_to_sleep : Sensor
  sent_to_sleep = automatic_off (pause (put_control s 0x11) t)

  opens : write_register s 0x0a 0x10 t ≡ opened
  unfolding write_effect register_effect automatic_control
  opens =
      ap (λ (k : WriteKind). write_effect k s 0x0a 0x10 t) (control_kind (is_writing s)).0
      ∙ ap (λ (u : Sensor). automatic_control u t (criterion s) false) opened_is
      ∙ rw (still_manual 0x10)

  sends_to_sleep : write_register s 0x0a 0x11 t ≡ sent_to_sleep
  unfolding write_effect register_effect automatic_control
  sends_to_sleep =
      ap (λ (k : WriteKind). write_effect k s 0x0a 0x11 t) (control_kind (is_writing s)).1
      ∙ ap (λ (u : Sensor). automatic_control u t (criterion s) false) slept_is
      ∙ rw (still_manual 0x11)

  opened_awake : Awake t image selected opened
  opened_awake = record { on = h.on; waits = without_hold h; awake = h.awake; cells = h.cells; sized = still_sized h control 0x10; frame = h.frame }

  unlocked : ee_w (at opened.registers control) ≡ true
  unlocked = ap (λ (n : ℕ). ee_w n) (get_or-set_same s.registers control 0x10 0 (within h control (lit< tt)))

  -- 10 hex sets ee_w
  pub ee_w_written : let u = write_register s 0x0a 0x10 t in Manual t image selected s u × (u.writing ≡ s.writing) × (ee_w (at u.registers control) ≡ true)
  ee_w_written =
      subst (λ (u : Sensor). Manual t image selected s u × (u.writing ≡ s.writing) × (ee_w (at u.registers control) ≡ true)) (sym opens)
      (record { awake = opened_awake; manual = still_manual 0x10; i2c = refl }, refl, unlocked)

  slept_asleep : Asleep image selected sent_to_sleep
  slept_asleep = record {
    on = h.on;
    waits = ap (λ (d : Deadlines). with_pause (with_irq_hold (with_wake d None) None) None) h.waits;
    asleep = refl;
    cells = h.cells;
    frame = ap (λ (f : Frame). F.released f) h.frame;
  }

  -- 11 hex sends the sensor to sleep, and the running write goes on
  pub sleep_written : let u = write_register s 0x0a 0x11 t in Asleep image selected u × (u.writing ≡ s.writing) × (u.i2c ≡ s.i2c)
  sleep_written =
      subst (λ (u : Sensor). Asleep image selected u × (u.writing ≡ s.writing) × (u.i2c ≡ s.i2c)) (sym sends_to_sleep)
      (slept_asleep, refl, refl)

-- ---- 2b..3d: a stored write begins
module _ {t : Time} {image : List ℕ} {selected : Bool} {s : Sensor} (h : Awake t image selected s) (manual : automatic s ≡ false) (ee : ee_w (at s.registers control) ≡ true)
    (idle : s.writing ≡ None) (a x : ℕ) (low : 0x2b ≤ a) (high : a ≤ 0x3d) where
  stored_here : stored a ≡ true
  unfolding stored
  stored_here = rw (le-leb 0x2b a low, le-leb a 0x3d high)

  not_ignored : ignores a x (unbarred (at s.registers control)) ≡ false
  unfolding ignores unwritable image_blocks sleep_blocks locked
  not_ignored = rw (lt-leb a 0x09 (omega arith), lt-leb 0x3e a (omega arith), le-leb 0x16 a (omega arith), ee)

  stored_kind : Kinds.kind_of_write a x (gate s) (is_writing s) ≡ WriteKind.Stored
  unfolding Kinds.kind_of_write runs
  stored_kind = rw (gate_unbarred h, not_ignored, stored_here, idle)

  -- it runs from then on
  pub stored_written : let u = write_register s a x t in Manual t image selected s u × (u.writing ≡ Some (stored_write t a x))
  unfolding write_effect
  stored_written =
      let e : write_register s a x t ≡ begun s a x t = ap (λ (k : WriteKind). write_effect k s a x t) stored_kind in
      let left : Awake t image selected (begun s a x t) = record { on = h.on; waits = h.waits; awake = h.awake; cells = h.cells; sized = h.sized; frame = h.frame } in
      subst (λ (u : Sensor). Manual t image selected s u × (u.writing ≡ Some (stored_write t a x))) (sym e)
      (record { awake = left; manual = manual; i2c = refl }, refl)
