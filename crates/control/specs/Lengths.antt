-- How long acquisition and pauses last.
use Rattle.std.specs.Prelude.{ℕ, ◌-◌, ◌*◌, ◌/◌, ◌%◌, ◌^◌, List, [], ◌∷◌, eqb, get_or, if◌then◌else◌}
use Rattle.time.specs.declared.Duration.{Duration}
use Rattle.time.specs.Time.{lasts, duration, from_millis}

-- units of the first scan of temperature and axes (the Rust's rule: floor(2^64 / 3000))
abbrev pub scan : ℕ
scan = 2 ^ 64 / 3000

-- the stated length includes the first scan (the Rust's `acquisition_delay`)
abbrev pub acquisition_delay : (ready : Duration) → Duration
acquisition_delay ready = duration (lasts ready - scan)

-- cycles from a wake to valid samples, by the filter's window (data sheet 7.3; none to fill at window 1 is the Rust's rule)
unfoldable pub acquisition_cycles : (window : ℕ) → ℕ
acquisition_cycles window = if eqb window 1 then 1 else 2 * window

-- 01: pauses in milliseconds; wake_up_pause chooses one (data sheet)
abbrev pub pauses : List ℕ
pauses = 20 ∷ 80 ∷ 320 ∷ 2560 ∷ []

-- 01: motion needs this many in a row; any_motion_dur chooses one (data sheet)
abbrev pub needs : List ℕ
needs = 1 ∷ 3 ∷ 5 ∷ 7 ∷ []

-- the pause that a code of wake_up_pause chooses; only its two low bits count
abbrev pub pause_length : (code : ℕ) (pauses : List ℕ) → Duration
pause_length code pauses = from_millis (get_or pauses (code % 4) 0)
