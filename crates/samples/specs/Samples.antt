-- Next due, and samples up to a moment.
use Rattle.sensor.specs.Operation.{Operation}
use Rattle.std.specs.Prelude.{ℕ, Bool, false, not, ◌&&◌, eqb, if◌then◌else◌, Option, Some, None}
use Rattle.time.specs.declared.Time.{Time}
use Rattle.time.specs.Time.{next_unit}
use Rattle.time.specs.Clock as Clock
use Rattle.nv.specs.Cycle as Cycle
use Rattle.deadlines.specs.Deadlines.{is_set, earliest}
use Rattle.control.specs.Lengths.{needs}
use Rattle.sampling.specs.declared.types.Acquisition.{Acquisition}
use Rattle.sampling.specs.Phase as Phase
use Rattle.sensor.specs.declared.types.Sensor.{Sensor}
use Rattle.sensor.specs.Record.{with_registers, with_sampling, with_interrupts, is_off, automatic}
use Rattle.sensor.specs.Mode.{automatic_control}

-- ---- next due

-- the clock runs while there is supply, the sensor is awake and has woken (`next_sample`)
unfoldable pub samples_run : Sensor → Bool
samples_run s = not (is_off s) && (not s.sampling.asleep && not (is_set s.deadlines.wake))

unfoldable pub next_sample : Sensor → Option Time
next_sample s = if samples_run s then Some (Clock.next s.sampling.clock) else None

-- the end of a running write
unfoldable pub write_end : Operation → Option Time
write_end None = None
write_end (Some w) = Some (Cycle.deadline w.cycle)

unfoldable pub sample_due : Sensor → (samples : Bool) → Option Time
sample_due s samples = if samples then next_sample s else None

unfoldable pub next_deadline : Sensor → (samples : Bool) → Option Time
next_deadline s samples = if is_off s then None else earliest s.deadlines (sample_due s samples) (write_end s.writing)

-- 01: next due is `interaction_deadline`; samples are due calls in automatic mode only (the Rust's rule)
abbrev pub interaction_deadline : Sensor → Option Time
interaction_deadline s = next_deadline s (automatic s)

-- ---- samples

-- what a sample phase changes
abbrev pub acquisition : Sensor → Acquisition
acquisition s = record { registers = s.registers; sampling = s.sampling; interrupts = s.interrupts }

abbrev pub with_acquisition : Sensor → Acquisition → Sensor
with_acquisition s c = with_interrupts (with_sampling (with_registers s c.registers) c.sampling) c.interrupts

-- 01: motion needs 1, 3, 5 or 7 in a row
abbrev pub after_edges : Sensor → ℕ → Sensor
after_edges s n = with_acquisition s (Phase.samples n (acquisition s) s.kept.input needs)

-- the edges strictly before the end, or up to it
unfoldable pub limit : (end : Time) (inclusive : Bool) → Time
limit end inclusive = if inclusive then next_unit end else end

abbrev pub edges_until : Sensor → (end : Time) (inclusive : Bool) → ℕ
edges_until s end inclusive = Clock.edges_before s.sampling.clock (limit end inclusive)

unfoldable pub caught_up : Sensor → (end : Time) (n : ℕ) → Sensor
caught_up s end n = if eqb n 0 then s else automatic_control (after_edges s n) end false false

-- outside automatic mode samples are taken only when something asks for them (`sync_local_until`)
unfoldable pub samples_on_demand : Sensor → Bool
samples_on_demand s = not (automatic s) && samples_run s

unfoldable pub sync_local_until : Sensor → (end : Time) (inclusive : Bool) → Sensor
sync_local_until s end inclusive = if samples_on_demand s then caught_up s end (edges_until s end inclusive) else s
