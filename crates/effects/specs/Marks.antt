-- What an axis shows and whether that is a mean: value and mark change only together.
use Rattle.std.specs.Prelude.{ℕ, suc, ◌/◌, ◌<◌, ◌≡◌, Bool, true, false, List, ℤ, length, get_or, set, replicate, Some, None}
use Rattle.laws.specs.Notation.{Image}
use Rattle.time.specs.declared.Time.{Time}
use Rattle.time.specs.declared.Duration.{Duration}
use Rattle.analog.specs.Axis as A
use Rattle.filter.specs.Mean.{mean}
use Rattle.filter.specs.Filter.{window, made, selected, pushed, last_codes, full, answered}
use Rattle.registers.specs.Map.{at, acc_lsb, acc_msb, measurement, bandwidth}
use Rattle.registers.specs.Codes.{code_low, code_high}
use Rattle.sampling.specs.declared.types.Input.{Input}
use Rattle.sampling.specs.declared.types.Acquisition.{Acquisition}
use Rattle.sampling.specs.Phase as Phase
use Rattle.sensor.specs.declared.types.Sensor.{Sensor}
use Rattle.sensor.specs.Image.{from_nonvolatile, power_on}
use Rattle.sensor.specs.Mode.{start_acquisition, soft_reset}
use Rattle.samples.specs.Samples.{acquisition, after_edges}

-- the arrays of the record have their sizes
pub record Sized (s : Sensor) : Type 0 where
  pub registers : length s.registers ≡ 62
  pub stored : length s.nonvolatile ≡ 19
  pub marks : length s.sampling.means ≡ 3

-- ---- what an axis shows

-- an axis's two registers, the low one without its new-data bit
abbrev pub value_in : (registers : List ℕ) (axis : ℕ) → ℕ × ℕ
value_in registers axis = (at registers (acc_lsb axis) / 2, at registers (acc_msb axis))

abbrev pub value : Sensor → (axis : ℕ) → ℕ × ℕ
value s axis = value_in s.registers axis

-- a code there
abbrev pub value_of : (code : ℤ) → ℕ × ℕ
value_of code = (code_low code / 2, code_high code)

-- whether the axis is marked as a mean
abbrev pub is_mean : Sensor → (axis : ℕ) → Bool
is_mean s axis = get_or s.sampling.means axis false

-- ---- one edge of the sample clock

-- the phase of the clock's next edge
abbrev pub next_phase : Acquisition → ℕ
next_phase c = Phase.phase_of (Phase.advanced c).sampling.clock.ordinal

-- the code that it converts on an axis
abbrev pub converts : Acquisition → (input : Input) (axis : ℕ) → ℤ
converts c input axis = Phase.converted c.registers (A.value (Phase.lagged (Phase.advanced c) input axis)) axis

-- the code goes through the filter; the axis shows the answer, and is marked by whether the window was full with it
pub record Sampled (c d : Acquisition) (axis : ℕ) (k : ℤ) : Type 0 where
  pub registers : d.registers ≡ Phase.with_code c.registers axis (answered c.sampling.filter axis k)
  pub means : d.sampling.means ≡ set c.sampling.means axis (full c.sampling.filter axis)
  pub filter : d.sampling.filter ≡ pushed c.sampling.filter axis k

-- no axis shows anything else, and no code goes through the filter
pub record Passed (c d : Acquisition) : Type 0 where
  pub values : (axis : ℕ) → axis < 3 → value_in d.registers axis ≡ value_in c.registers axis
  pub means : d.sampling.means ≡ c.sampling.means
  pub filter : d.sampling.filter ≡ c.sampling.filter

-- ---- steps without a sample

-- the filter stays, has the bandwidth of register 14, or begins with that and no codes
pub data Filtered (s t : Sensor) : Type 0 where
  same : t.sampling.filter ≡ s.sampling.filter → Filtered s t
  selects : t.sampling.filter ≡ selected s.sampling.filter (bandwidth (at t.registers measurement)) → Filtered s t
  anew : t.sampling.filter ≡ made (bandwidth (at t.registers measurement)) → Filtered s t

pub record Unsampled (s t : Sensor) : Type 0 where
  pub values : (axis : ℕ) → axis < 3 → value t axis ≡ value s axis
  pub means : t.sampling.means ≡ s.sampling.means
  pub filter : Filtered s t

-- every axis shows 0 and is single, and no code is counted
pub record Emptied (s : Sensor) : Type 0 where
  pub values : (axis : ℕ) → axis < 3 → value s axis ≡ (0, 0)
  pub means : s.sampling.means ≡ replicate 3 false
  pub filter : s.sampling.filter ≡ made (bandwidth (at s.registers measurement))

-- when values and marks change, and when not
pub record Marks : Type 0 where
  -- a start, a return from 0 mV and a soft reset
  pub start_single : (now : Time) (image : Image) → Emptied (from_nonvolatile now image)
  pub return_single : (s : Sensor) (now : Time) → Emptied (power_on s now)
  pub reset_single : (s : Sensor) (now : Time) → Emptied (soft_reset s now)
  -- an edge whose phase is an axis's, while no self test runs; else none
  pub phase : (c : Acquisition) (input : Input) (needs : List ℕ) (axis : ℕ) → next_phase c ≡ suc axis → c.sampling.test ≡ None
      → Sampled c (Phase.sample input needs c) axis (converts c input axis)
  pub temperature : (c : Acquisition) (input : Input) (needs : List ℕ) → next_phase c ≡ 0 → Passed c (Phase.sample input needs c)
  pub self_test : (c : Acquisition) (input : Input) (needs : List ℕ) (left : ℕ) → c.sampling.test ≡ Some left → Passed c (Phase.sample input needs c)
  -- a wake keeps the mark with the value that it marks
  pub wake_keeps : (s : Sensor) (now : Time) (ready : Duration) → Unsampled s (start_acquisition s now ready)

-- ---- over all that a call does

-- from one sensor to another, step by step: an edge of the clock, a soft reset, a return from 0 mV, and steps without a sample; none else
pub data Course (r : Sensor) : Sensor → Type 0 where
  here : Course r r
  edge : {s : Sensor} → Sized s → Course r s → Course r (after_edges s 1)
  reset : {s : Sensor} → Course r s → (now : Time) → Course r (soft_reset s now)
  returned : {s : Sensor} → Course r s → (now : Time) → Course r (power_on s now)
  unsampled : {s t : Sensor} → Course r s → Unsampled s t → Course r t

-- the clock's next edge is a sample of the axis: its phase is the axis's, and no self test runs
pub record Samples (t : Sensor) (axis : ℕ) : Type 0 where
  pub phase : next_phase (acquisition t) ≡ suc axis
  pub no_test : t.sampling.test ≡ None

-- the code that it converts then
abbrev pub code_of : (t : Sensor) (axis : ℕ) → ℤ
code_of t axis = converts (acquisition t) t.kept.input axis

-- what an axis shows is 0, a single; or what a sample of it made of the code that it converted, with the mark that says which: the mean of a full window, or the code itself
pub data Shows (axis : ℕ) (r s : Sensor) : Type 0 where
  nothing : value s axis ≡ (0, 0) → is_mean s axis ≡ false → Shows axis r s
  a_mean : (t : Sensor) → Course r t → Samples t axis → is_mean s axis ≡ true → full t.sampling.filter axis ≡ true
      → value s axis ≡ value_of (mean (window t.sampling.filter) (last_codes (pushed t.sampling.filter axis (code_of t axis)) axis)) → Shows axis r s
  a_single : (t : Sensor) → Course r t → Samples t axis → is_mean s axis ≡ false → full t.sampling.filter axis ≡ false → value s axis ≡ value_of (code_of t axis) → Shows axis r s
