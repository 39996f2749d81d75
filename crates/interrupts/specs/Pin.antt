-- What the interrupt state shows: the status register's bits, the interrupt, and whether a candidate is being verified.
use Rattle.std.specs.Prelude.{ℕ, ◌+◌, Bool, true, false, not, ◌&&◌, ◌||◌, ltb, if◌then◌else◌}
use Rattle.laws.specs.Notation.{Byte, Registers}
use Rattle.registers.specs.Map.{at, criteria, operation, alert, any_motion, enable_HG, enable_LG, enable_adv_INT, latch_INT}
use Rattle.interrupts.specs.declared.threshold.Threshold.{Threshold}
use Rattle.interrupts.specs.declared.Interrupts.{Interrupts}
use Rattle.interrupts.specs.Criteria.{active}

-- a field of one bit, by its weight
abbrev pub weigh : (field : Bool) (weight : ℕ) → ℕ
weigh field weight = if field then weight else 0

-- 09: alert_phase in bit 4, LG_latched in bit 3, HG_latched in bit 2, status_LG in bit 1, status_HG in bit 0
abbrev pub status : Interrupts → ℕ
status s =
    weigh s.alert 16 + weigh s.low_g.latched 8 + weigh s.high_g.latched 4
    + weigh s.low_g.level 2 + weigh s.high_g.level 1

-- latch_INT shows what is latched, else the level
abbrev pub shown : (latch latched level : Bool) → Bool
shown latch latched level = if latch then latched else level

-- motion shows where enable_adv_INT and any_motion are set and alert is clear (the Rust's rule)
unfoldable pub motion_output : Interrupts → (registers : Registers) → Bool
motion_output s registers =
    enable_adv_INT (at registers operation)
    && any_motion (at registers criteria)
    && not (alert (at registers criteria))
    && shown (latch_INT (at registers operation)) s.motion.latched s.motion.level

-- an enabled criterion shows its latch or its level
unfoldable pub threshold_output : {h : ℕ} → Threshold h → (enabled latch : Bool) → Bool
threshold_output t enabled latch = enabled && shown latch t.latched t.level

-- the criteria's part of the interrupt pin
unfoldable pub output : Interrupts → (registers : Registers) → Bool
output s registers =
    threshold_output s.low_g (enable_LG (at registers criteria)) (latch_INT (at registers operation))
    || threshold_output s.high_g (enable_HG (at registers criteria)) (latch_INT (at registers operation))
    || motion_output s registers

-- motion begins the alert or is an interrupt of its own
unfoldable pub enables_motion : (byte : Byte) → Bool
enables_motion byte = alert byte || any_motion byte

-- motion is enabled, and no observation was compared yet or the last one moved (the Rust's rule)
unfoldable pub verifying_motion : Interrupts → (registers : Registers) → Bool
verifying_motion s registers =
    enable_adv_INT (at registers operation)
    && enables_motion (at registers criteria)
    && (ltb s.observations.count 4 || s.motion.active)

-- an enabled criterion that is met
unfoldable pub candidate : {h : ℕ} → Threshold h → (high enabled : Bool) → Bool
candidate t high enabled = enabled && active high t.axes

-- a candidate is being verified, which keeps the sensor awake (the Rust's rule)
unfoldable pub verifying : Interrupts → (registers : Registers) → Bool
verifying s registers =
    candidate s.low_g false (enable_LG (at registers criteria))
    || candidate s.high_g true (enable_HG (at registers criteria))
    || verifying_motion s registers
    || s.alert
