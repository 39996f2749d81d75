-- The high-g and low-g criteria: a threshold with hysteresis on each axis, and the time that it has held. `high` tells high-g from low-g, and so does the number h of a state's type: 1 high-g, 0 low-g.
use Rattle.std.specs.Prelude.{ℕ, ◌+◌, ◌-◌, ◌*◌, Bool, true, false, not, ◌&&◌, ◌||◌, List, leb, ltb, eqb, get_or, set, replicate, ℤ, nat_abs, if◌then◌else◌}
use Rattle.laws.specs.Notation.{Byte, Registers}
use Rattle.registers.specs.Map.{at, criteria, enable_HG, enable_LG, counter_HG, counter_LG}
use Rattle.interrupts.specs.declared.threshold.Threshold.{Threshold}

-- the data sheet's enable_HG or enable_LG
abbrev pub enabled : (high : Bool) (byte : Byte) → Bool
enabled high byte = if high then enable_HG byte else enable_LG byte

-- the data sheet's counter_HG or counter_LG
abbrev pub mode : (high : Bool) (byte : Byte) → ℕ
mode high byte = if high then counter_HG byte else counter_LG byte

-- 01: high-g sets an axis at |code| × 255 ≥ threshold × 512; low-g mirrors this
unfoldable pub sets : (high : Bool) (code : ℤ) (threshold : ℕ) → Bool
sets high code threshold = if high then leb (threshold * 512) (nat_abs code * 255) else leb (nat_abs code * 255) (threshold * 512)

-- 01: and clears it below that less hysteresis × 16384; low-g above that and hysteresis × 16384
unfoldable pub clears : (high : Bool) (code : ℤ) (threshold hysteresis : ℕ) → Bool
clears high code threshold hysteresis =
    if high
    then ltb (nat_abs code * 255 + hysteresis * 16384) (threshold * 512)
    else ltb (threshold * 512 + hysteresis * 16384) (nat_abs code * 255)

-- an axis after a code: what neither sets nor clears it leaves it
unfoldable pub raised : (high : Bool) (code : ℤ) (threshold hysteresis : ℕ) (old : Bool) → Bool
raised high code threshold hysteresis old = if sets high code threshold then true else not (clears high code threshold hysteresis) && old

-- 01: low-g needs all axes; that one is enough for high-g is the Rust's rule
unfoldable pub active : (high : Bool) (axes : List Bool) → Bool
active high axes =
    if high
    then get_or axes 0 false || get_or axes 1 false || get_or axes 2 false
    else get_or axes 0 false && get_or axes 1 false && get_or axes 2 false

-- the axes after a code on one of them
abbrev axes_after : {h : ℕ} → Threshold h → (axis : ℕ) (code : ℤ) (threshold hysteresis : ℕ) (high : Bool) → List Bool
axes_after t axis code threshold hysteresis high = set t.axes axis (raised high code threshold hysteresis (get_or t.axes axis false))

-- the Rust's `observe`: a criterion that is no longer met ends its level at once
unfoldable pub observe : {h : ℕ} → Threshold h → (axis : ℕ) (code : ℤ) (threshold hysteresis : ℕ) (high : Bool) → Threshold h
observe t axis code threshold hysteresis high = record t {
  axes = axes_after t axis code threshold hysteresis high;
  level = active high (axes_after t axis code threshold hysteresis high) && t.level;
}

-- 01: fires when the raised count exceeds duration
unfoldable pub fires : (enabled met : Bool) (count duration : ℕ) → Bool
fires enabled met count duration = enabled && met && ltb duration (count + 1)

-- the count rises, and starts anew when it fires
abbrev pub counted_up : (count duration : ℕ) → ℕ
counted_up count duration = if ltb duration (count + 1) then 0 else count + 1

-- or it falls by the counter's mode, to 0 at mode 0 (the Rust's rule)
abbrev pub counted_down : (count mode : ℕ) → ℕ
counted_down count mode = if eqb mode 0 then 0 else count - mode

-- the count after a millisecond
unfoldable pub counted : (enabled met : Bool) (count duration mode : ℕ) → ℕ
counted enabled met count duration mode = if enabled then (if met then counted_up count duration else counted_down count mode) else 0

-- a criterion fires
abbrev pub fired : {h : ℕ} → Threshold h → (high enabled : Bool) (duration : ℕ) → Bool
fired t high enabled duration = fires enabled (active high t.axes) t.count duration

-- the Rust's `tick`, a millisecond, and whether it fired: a disabled criterion has no count and no level; what is latched stays
abbrev pub tick : {h : ℕ} → Threshold h → (high enabled : Bool) (duration mode : ℕ) → Threshold h × Bool
tick t high enabled duration mode = (
  record t {
    count = counted enabled (active high t.axes) t.count duration mode;
    level = enabled && (fired t high enabled duration || t.level);
    latched = fired t high enabled duration || t.latched;
  },
  fired t high enabled duration,
)

-- the same with the criterion's bits of the registers, and its duration as it is now
abbrev pub ticked : {h : ℕ} → Threshold h → (high : Bool) (registers : Registers) → Threshold h × Bool
ticked t high registers = tick t high (enabled high (at registers criteria)) t.duration (mode high (at registers criteria))

-- acquisition starts anew: level and latch stay (the Rust's `restart_acquisition`)
abbrev pub restarted : {h : ℕ} → Threshold h → Threshold h
restarted t = record t { axes = replicate 3 false; count = 0 }

-- reset_INT: the axes stay (the Rust's `reset`)
abbrev pub cleared : {h : ℕ} → Threshold h → Threshold h
cleared t = record t { count = 0; level = false; latched = false }
