-- The interrupt state and its steps, under the names of the Rust's functions.
use Rattle.std.specs.Prelude.{ℕ, ◌+◌, ◌-◌, ◌*◌, ◌%◌, min, Bool, true, false, not, ◌&&◌, ◌||◌, List, leb, ltb, eqb, get_or, set, replicate, ℤ, pos, nat_abs, ◌-ℤ◌, if◌then◌else◌}
use Rattle.laws.specs.Notation.{Registers}
use Rattle.registers.specs.Map.{at, criteria, LG_thres, LG_dur, HG_thres, HG_dur, any_motion_thres, hysteresis, operation, alert, any_motion, enable_HG, enable_LG, counter_HG, counter_LG, any_motion_dur, HG_hyst, LG_hyst, enable_adv_INT}
use Rattle.interrupts.specs.declared.threshold.Threshold.{Threshold}
use Rattle.interrupts.specs.declared.motion.Motion.{Motion}
use Rattle.interrupts.specs.declared.Interrupts.{Interrupts}
use Rattle.interrupts.specs.declared.observations.Observations.{Observations}
use Rattle.interrupts.specs.Criteria.{observe, tick, restarted, cleared}
use Rattle.interrupts.specs.Observations as O
use Rattle.interrupts.specs.Observations.{none, earlier, added}

-- ---- parts set anew

-- s with other thresholds, that of low-g (0) and that of high-g (1)
abbrev pub with_thresholds : Interrupts → (low : Threshold 0) (high : Threshold 1) → Interrupts
with_thresholds s low high = record s { low_g = low; high_g = high }

-- s with other observations and another divider
abbrev pub with_observations : Interrupts → Observations → (divider : ℕ) → Interrupts
with_observations s observations divider = record s { observations = observations; divider = divider }

-- s with other counts and flags of motion
abbrev pub with_motion : Interrupts → (set clear : ℕ) (active level latched : Bool) → Interrupts
with_motion s set clear active level latched = record s { motion = record { set = set; clear = clear; active = active; level = level; latched = latched } }

-- s with another alert and other working durations, that of low-g and that of high-g
abbrev pub with_alert : Interrupts → (alert : Bool) (low high : ℕ) → Interrupts
with_alert s alert low high = record s { alert = alert; low_g = record s.low_g { duration = low }; high_g = record s.high_g { duration = high } }

-- ---- start, configuration, reset

-- a threshold of a new sensor
abbrev pub idle : {h : ℕ} → Threshold h
idle = record { axes = replicate 3 false; count = 0; level = false; latched = false; duration = 0 }

-- 01: defaults are all zero or false
abbrev pub new : Interrupts
new = record {
  low_g = idle;
  high_g = idle;
  observations = none;
  divider = 0;
  motion = record { set = 0; clear = 0; active = false; level = false; latched = false };
  alert = false;
}

-- s with another alert, and with LG_dur and HG_dur as the durations of low-g and high-g
abbrev pub with_durations : Interrupts → (alert : Bool) (registers : Registers) → Interrupts
with_durations s alert registers = with_alert s alert (at registers LG_dur) (at registers HG_dur)

-- under alert the working durations are kept (the Rust's rule)
unfoldable pub configure : Interrupts → (registers : Registers) → Interrupts
configure s registers = if s.alert then s else with_durations s s.alert registers

-- acquisition starts anew: the observations' codes, levels and latches stay (the Rust's rule)
unfoldable pub restart_acquisition : Interrupts → Interrupts
restart_acquisition s =
    with_motion
    (with_observations (with_thresholds s (restarted s.low_g) (restarted s.high_g)) (O.restarted s.observations) 0)
    0 0 false s.motion.level s.motion.latched

-- reset_INT: counts, levels, latches and the alert are cleared; axes and observations stay (the Rust's rule)
unfoldable pub reset : Interrupts → (registers : Registers) → Interrupts
reset s registers =
    with_durations
    (with_motion (with_thresholds s (cleared s.low_g) (cleared s.high_g)) 0 0 s.motion.active false false)
    false registers

-- ---- a code on an axis

-- a code on an axis is observed by both criteria, each with its threshold and hysteresis
unfoldable pub axis : Interrupts → (number : ℕ) (code : ℤ) (registers : Registers) → Interrupts
axis s number code registers =
    with_thresholds s
    (observe s.low_g (number % 3) code (at registers LG_thres) (LG_hyst (at registers hysteresis)) false)
    (observe s.high_g (number % 3) code (at registers HG_thres) (HG_hyst (at registers hysteresis)) true)

-- ---- a cycle of codes on the three axes

-- a code differs from an earlier one by any_motion_thres × 4 or more (the Rust's rule)
unfoldable pub moved : (new old : ℤ) (threshold : ℕ) → Bool
moved new old threshold = leb (threshold * 4) (nat_abs (new -ℤ old))

-- 01: motion compares with three observations earlier; one axis is enough (the Rust's rule)
unfoldable pub moves : (earlier codes : List ℤ) (threshold : ℕ) → Bool
moves earlier codes threshold =
    moved (get_or codes 0 (pos 0)) (get_or earlier 0 (pos 0)) threshold
    || moved (get_or codes 1 (pos 0)) (get_or earlier 1 (pos 0)) threshold
    || moved (get_or codes 2 (pos 0)) (get_or earlier 2 (pos 0)) threshold

-- an observation is kept
abbrev pub record_codes : Interrupts → (codes : List ℤ) → Interrupts
record_codes s codes = with_observations s (added s.observations codes) 0

-- motion where acquisition starts anew (the Rust's rule)
abbrev pub motion_restarted : Motion → Motion
motion_restarted m = record m { set = 0; clear = 0; active = false }

-- motion after reset_INT (the Rust's rule)
abbrev pub motion_cleared : Motion → Motion
motion_cleared m = record m { set = 0; clear = 0; level = false; latched = false }

-- how many in a row have moved, and how many have not, to 255
unfoldable pub motion_counted : Motion → (active : Bool) → Motion
motion_counted m active = record m {
  set = if active then min 255 (m.set + 1) else 0;
  clear = if active then 0 else min 255 (m.clear + 1);
  active = active;
}

-- the same of the whole state
unfoldable pub count_motion : Interrupts → (active : Bool) → Interrupts
count_motion s active =
    with_motion s
    (if active then min 255 (s.motion.set + 1) else 0) (if active then 0 else min 255 (s.motion.clear + 1))
    active s.motion.level s.motion.latched

-- 01: motion needs this many in a row; enable_adv_INT lets it through (data sheet)
unfoldable pub qualifies : (set need : ℕ) (registers : Registers) → Bool
qualifies set need registers = leb need set && enable_adv_INT (at registers operation)

-- motion begins the alert; it takes precedence where any_motion is enabled too (the Rust's rule)
unfoldable pub alerts : (set need : ℕ) (registers : Registers) → Bool
alerts set need registers = qualifies set need registers && alert (at registers criteria)

-- motion is an interrupt of its own
unfoldable pub detects : (set need : ℕ) (registers : Registers) → Bool
detects set need registers = qualifies set need registers && not (alert (at registers criteria)) && any_motion (at registers criteria)

-- this many in a row without motion end its level (the Rust's rule)
unfoldable pub decide : Interrupts → (need : ℕ) (registers : Registers) → Interrupts
decide s need registers =
    with_alert
    (with_motion s s.motion.set s.motion.clear s.motion.active
    (detects s.motion.set need registers || (not (leb need s.motion.clear) && s.motion.level))
    (detects s.motion.set need registers || s.motion.latched))
    (alerts s.motion.set need registers || s.alert) s.low_g.duration s.high_g.duration

-- an observation is compared only from the fourth on
unfoldable pub observation : Interrupts → (codes : List ℤ) (registers : Registers) (need : ℕ) → Interrupts
observation s codes registers need =
    if leb 3 s.observations.count
    then decide (count_motion (record_codes s codes) (moves (earlier s.observations) codes (at registers any_motion_thres))) need registers
    else record_codes s codes

-- one observation in `window` cycles; `needs` has 01's numbers in a row, 1, 3, 5 or 7, by any_motion_dur
unfoldable pub cycle : Interrupts → (codes : List ℤ) (window : ℕ) (registers : Registers) (needs : List ℕ) → Interrupts
cycle s codes window registers needs =
    if ltb (s.divider + 1) window
    then with_observations s s.observations (s.divider + 1)
    else observation s codes registers (get_or needs (any_motion_dur (at registers hysteresis)) 0)

-- ---- a millisecond

-- under alert both durations fall by one, to 0 (the Rust's rule)
unfoldable pub shorten : Interrupts → Interrupts
shorten s = if s.alert then with_alert s s.alert (s.low_g.duration - 1) (s.high_g.duration - 1) else s

-- low-g counts: enable_LG, LG_dur as it is now, counter_LG
abbrev pub tick_low : Interrupts → (registers : Registers) → Threshold 0 × Bool
tick_low s registers = tick s.low_g false (enable_LG (at registers criteria)) s.low_g.duration (counter_LG (at registers criteria))

-- high-g counts: enable_HG, HG_dur as it is now, counter_HG
abbrev pub tick_high : Interrupts → (registers : Registers) → Threshold 1 × Bool
tick_high s registers = tick s.high_g true (enable_HG (at registers criteria)) s.high_g.duration (counter_HG (at registers criteria))

-- both criteria count
abbrev pub ticked : Interrupts → (registers : Registers) → Interrupts
ticked s registers = with_thresholds s (tick_low s registers).0 (tick_high s registers).0

-- the alert is over: its durations have fallen to 0 (the Rust's rule)
unfoldable pub lapsed : Interrupts → Bool
lapsed s = s.alert && eqb s.low_g.duration 0 && eqb s.high_g.duration 0

-- a criterion that fires, or an alert that is over, ends the alert and sets the durations anew
unfoldable pub ended : Interrupts → (registers : Registers) → Interrupts
ended s registers =
    if (tick_low s registers).1 || (tick_high s registers).1 || lapsed s
    then with_durations (ticked s registers) false registers
    else ticked s registers

-- a millisecond passes
unfoldable pub millisecond : Interrupts → (registers : Registers) → Interrupts
millisecond s registers = ended (shorten s) registers
