-- Sample phases: temperature, x, y, z, in turn at the clock's edges.
use Rattle.std.specs.Prelude.{ℕ, ◌+◌, ◌-◌, ◌%◌, min, Bool, true, not, ◌&&◌, ◌||◌, List, leb, eqb, set, ℤ, pos, if◌then◌else◌, Option, Some, None}
use Rattle.laws.specs.Notation.{Registers}
use Rattle.laws.specs.Iterate.{iterate}
use Rattle.time.specs.declared.Clock.{Clock}
use Rattle.time.specs.Clock as C
use Rattle.analog.specs.declared.types.Axis.{Axis}
use Rattle.analog.specs.Axis.{Analog}
use Rattle.analog.specs.Axis as A
use Rattle.filter.specs.declared.Filter.{Filter}
use Rattle.filter.specs.Filter.{window, pushed, full, answered}
use Rattle.registers.specs.Map.{at, acc_lsb, acc_msb, temp, status, control, measurement, operation, offset_lsb, offset_msb, new_data, self_test_1, range, new_data_INT, wake_up, with_st_result, without_self_test_0}
use Rattle.registers.specs.Codes.{offset, code, code_low, code_high, temperature}
use Rattle.control.specs.Lengths.{acquisition_cycles}
use Rattle.interrupts.specs.declared.Interrupts.{Interrupts}
use Rattle.interrupts.specs.State as I
use Rattle.sampling.specs.declared.types.Input.{Input}
use Rattle.sampling.specs.declared.types.Sampling.{Sampling}
use Rattle.sampling.specs.declared.types.Acquisition.{Acquisition}

-- ---- parts of the record

abbrev pub with_registers : Acquisition → List ℕ → Acquisition
with_registers c r = record c { registers = r }

abbrev pub with_sampling : Acquisition → Sampling → Acquisition
with_sampling c s = record c { sampling = s }

abbrev pub with_interrupts : Acquisition → Interrupts → Acquisition
with_interrupts c i = record c { interrupts = i }

abbrev pub with_clock : Sampling → Clock → Sampling
with_clock s k = record s { clock = k }

abbrev pub with_analog : Sampling → Analog → Sampling
with_analog s a = record s { analog = a }

abbrev pub with_test : Sampling → Option ℕ → Sampling
with_test s t = record s { test = t }

abbrev pub with_filtered : Sampling → Filter → (codes : List ℤ) (means : List Bool) → Sampling
with_filtered s f codes means = record s { filter = f; filtered = codes; means = means }

abbrev pub with_scan : Sampling → (n : ℕ) (ready : Bool) → Sampling
with_scan s n ready = record s { auto_cycles = n; data_ready = ready }

-- ---- acquisition

-- bit 0 of 15, wake_up: the sensor wakes and pauses by itself
abbrev pub automatic : (registers : Registers) → Bool
automatic registers = wake_up (at registers operation)

-- the sensor has been awake for that many scans
abbrev pub acquired : Sampling → Bool
acquired s = leb (acquisition_cycles (window s.filter)) s.auto_cycles

-- ---- one phase

-- 01: four phases, 0 to 3; that they come in turn and the first edge has phase 0 is the Rust's rule
abbrev pub phase_of : (ordinal : ℕ) → ℕ
phase_of ordinal = (ordinal % 4 + 3) % 4

-- an axis of the acceleration last set
abbrev pub axis_input : (input : Input) (axis : ℕ) → ℤ
axis_input input axis = A.axis_of input.acceleration axis

-- 01: the code of an axis's sampled acceleration; bit 3 of 0a, self_test_1, makes it 0 (the Rust's rule)
unfoldable pub converted : (registers : Registers) (acceleration : ℤ) (axis : ℕ) → ℤ
converted registers acceleration axis =
    if self_test_1 (at registers control) then pos 0
    else code acceleration (offset (at registers (offset_lsb axis)) (at registers (offset_msb axis))) (range (at registers measurement))

-- 01: phase 0 sets temperature
abbrev pub warmed : Acquisition → (input : Input) → Acquisition
warmed c input = with_registers c (set c.registers temp (temperature input.temperature_millicelsius))

-- the registers of an axis after a filtered code
abbrev pub with_code : (registers : Registers) (axis : ℕ) (k : ℤ) → Registers
with_code registers axis k = set (set registers (acc_lsb axis) (code_low k)) (acc_msb axis) (code_high k)

-- a filtered code of an axis goes to its registers, with its mark, whether it is the mean of a full window, and to the criteria
abbrev pub shown : Acquisition → (axis : ℕ) → Filter → (k : ℤ) (mean : Bool) → Acquisition
shown c axis f k mean =
    record {
      registers = with_code c.registers axis k;
      sampling = with_filtered c.sampling f (set c.sampling.filtered axis k) (set c.sampling.means axis mean);
      interrupts = I.axis c.interrupts axis k (with_code c.registers axis k);
    }

-- a code of an axis is filtered
abbrev pub filtered_code : Acquisition → (axis : ℕ) (k : ℤ) → Acquisition
filtered_code c axis k = shown c axis (pushed c.sampling.filter axis k) (answered c.sampling.filter axis k) (full c.sampling.filter axis)

-- the stage of an axis, advanced to the moment of the clock's last edge
abbrev pub lagged : Acquisition → (input : Input) (axis : ℕ) → Axis
lagged c input axis = A.advanced (A.axis_of c.sampling.analog axis) (C.last c.sampling.clock) (axis_input input axis)

abbrev pub with_lagged : Acquisition → (axis : ℕ) → Axis → Acquisition
with_lagged c axis a = with_sampling c (with_analog c.sampling (A.with_axis c.sampling.analog axis a))

-- phases 1 to 3 set the axes: the sampled acceleration is the stage's; under self_test_1 too the stage advances
abbrev pub measured : Acquisition → (input : Input) (axis : ℕ) → Acquisition
measured c input axis =
    let a = lagged c input axis in
    filtered_code (with_lagged c axis a) axis (converted c.registers (A.value a) axis)

-- all three axes have new data
unfoldable pub all_new : (registers : Registers) → Bool
all_new registers = new_data (at registers (acc_lsb 0)) && (new_data (at registers (acc_lsb 1)) && new_data (at registers (acc_lsb 2)))

-- bit 5 of 15, new_data_INT, makes a scan of new data an interrupt
unfoldable pub ready : (registers : Registers) (old : Bool) → Bool
ready registers old = if new_data_INT (at registers operation) && all_new registers then true else old

-- the first observation after acquisition counts at once, later ones by the window (the Rust's rule)
unfoldable pub interval : (registers : Registers) → Sampling → ℕ
interval registers s = if automatic registers && eqb s.auto_cycles (acquisition_cycles (window s.filter)) then 1 else window s.filter

-- in automatic mode nothing is observed before acquisition (the Rust's rule)
unfoldable pub observing : (registers : Registers) → Sampling → Bool
observing registers s = not (automatic registers) || acquired s

-- a scan is counted
abbrev pub counted : Acquisition → Acquisition
counted c = with_sampling c (with_scan c.sampling (min (c.sampling.auto_cycles + 1) 65535) (ready c.registers c.sampling.data_ready))

-- and observed for motion
unfoldable pub observed : Acquisition → (needs : List ℕ) → Acquisition
observed c needs =
    if observing c.registers c.sampling
    then with_interrupts c (I.cycle c.interrupts c.sampling.filtered (interval c.registers c.sampling) c.registers needs)
    else c

-- after z the scan is complete
unfoldable pub scanned : Acquisition → (axis : ℕ) (needs : List ℕ) → Acquisition
scanned c axis needs = if eqb axis 2 then observed (counted c) needs else c

-- ---- the self test: the axes are suspended; it ends at the first z phase once its phases have passed (the Rust's rule)

abbrev pub one_less : ℕ → ℕ
one_less n = n - 1

unfoldable pub test_counted : Option ℕ → Option ℕ
test_counted None = None
test_counted (Some n) = Some (one_less n)

-- bit 2 of 0a, self_test_0, is cleared and bit 7 of 09, st_result, set
abbrev pub test_ended : Acquisition → Acquisition
test_ended c = with_sampling
    (with_registers c (set (set c.registers control (without_self_test_0 (at c.registers control))) status (with_st_result (at c.registers status))))
    (with_test c.sampling None)

unfoldable pub axis_phase : Option ℕ → Acquisition → (input : Input) (phase : ℕ) (needs : List ℕ) → Acquisition
axis_phase None c input phase needs = scanned (measured c input (phase - 1)) (phase - 1) needs
axis_phase (Some left) c input phase needs = if eqb phase 3 && eqb left 0 then test_ended c else c

-- the phase of the clock's last edge (`sample_phase`)
unfoldable pub sample_phase : Acquisition → (input : Input) (needs : List ℕ) → Acquisition
sample_phase c input needs =
    let t = test_counted c.sampling.test in
    let d = with_sampling c (with_test c.sampling t) in
    let phase = phase_of c.sampling.clock.ordinal in
    if eqb phase 0 then warmed d input else axis_phase t d input phase needs

-- ---- one edge of the clock

-- a millisecond passes at every twelfth edge; in automatic mode not before acquisition (the Rust's rule)
unfoldable pub ticks_now : Acquisition → Bool
ticks_now c = eqb (c.sampling.clock.ordinal % 12) 0 && observing c.registers c.sampling

unfoldable pub ticked : Acquisition → Acquisition
ticked c = if ticks_now c then with_interrupts c (I.millisecond c.interrupts c.registers) else c

abbrev pub advanced : Acquisition → Acquisition
advanced c = with_sampling c (with_clock c.sampling (C.advanced c.sampling.clock 1))

-- the clock's next edge: its phase, and the millisecond (`sync_local_until`, `at_deadline`)
unfoldable pub sample : (input : Input) (needs : List ℕ) → Acquisition → Acquisition
sample input needs c = ticked (sample_phase (advanced c) input needs)

-- the phases of n edges, one after the other
abbrev pub samples : (n : ℕ) → Acquisition → (input : Input) (needs : List ℕ) → Acquisition
samples n c input needs = iterate n (sample input needs) c
