-- The sensor's deadlines.
use Rattle.std.specs.Prelude.{Bool, true, false, List, [], ◌∷◌, leb, if◌then◌else◌, Option, Some, None}
use Rattle.time.specs.declared.Time.{Time}
use Rattle.time.specs.declared.Duration.{Duration}
use Rattle.time.specs.Time.{ticks, plus, precedes, same}
use Rattle.deadlines.specs.declared.Deadlines.{Deadlines}

-- ---- one deadline

-- the moment or nothing, as 01 compares next due
abbrev pub moment : Option Time → Option Time
moment d = d

-- there is one (the Rust's `is_some`)
unfoldable pub is_set : Option Time → Bool
is_set (Some t) = true
is_set None = false

-- it is at this moment (the Rust's `== Some(now)`)
unfoldable pub is_at : Option Time → (now : Time) → Bool
is_at (Some t) now = same t now
is_at None now = false

-- it is at this moment or before it (01, refusal 5)
unfoldable pub is_by : Option Time → (now : Time) → Bool
is_by (Some t) now = leb (ticks t) (ticks now)
is_by None now = false

-- the earlier of two (the Rust's `min`, after `flatten`)
unfoldable pub sooner : Option Time → Option Time → Option Time
sooner None other = other
sooner (Some t) None = Some t
sooner (Some t) (Some u) = if precedes u t then Some u else Some t

-- none where it is at this moment, else itself (the Rust's `at_deadline`)
unfoldable pub unless_at : Option Time → (now : Time) → Option Time
unless_at d now = if is_at d now then None else d

-- later by a length, where it is set (the Rust's `map(|t| t.checked_add(duration))`)
unfoldable pub later : Option Time → (by : Duration) → Option Time
later (Some t) by = Some (plus t by)
later None by = None

-- ---- all of them

-- nothing is due (the Rust's `None` in each)
abbrev pub never : Deadlines
never = record { serial_ready = None; wake = None; pause = None; quiet = None; irq_hold = None; image = None }

-- the serial pins stay dead until d
abbrev pub with_serial_ready : Deadlines → Option Time → Deadlines
with_serial_ready s d = record s { serial_ready = d }

-- samples begin at d (the Rust's `wake_deadline`)
abbrev pub with_wake : Deadlines → Option Time → Deadlines
with_wake s d = record s { wake = d }

-- an automatic sleep ends at d (the Rust's `pause_deadline`)
abbrev pub with_pause : Deadlines → Option Time → Deadlines
with_pause s d = record s { pause = d }

-- quiet after a soft reset until d (the Rust's `quiet_deadline`)
abbrev pub with_quiet : Deadlines → Option Time → Deadlines
with_quiet s d = record s { quiet = d }

-- the interrupt pin is held until d
abbrev pub with_irq_hold : Deadlines → Option Time → Deadlines
with_irq_hold s d = record s { irq_hold = d }

-- an image copy ends at d (the Rust's `image_deadline`)
abbrev pub with_image : Deadlines → Option Time → Deadlines
with_image s d = record s { image = d }

-- the list of the Rust's `next_deadline`, with the next sample and the end of a stored write
abbrev pub waits : Deadlines → (sample write : Option Time) → List (Option Time)
waits s sample write = s.serial_ready ∷ sample ∷ s.wake ∷ s.pause ∷ s.quiet ∷ s.irq_hold ∷ write ∷ s.image ∷ []

-- the first of a list, none where none is set (the Rust's `flatten().min()`)
unfoldable pub first : List (Option Time) → Option Time
first [] = None
first (d ∷ ds) = sooner d (first ds)

-- the Rust's `next_deadline` while there is supply
unfoldable pub earliest : Deadlines → (sample write : Option Time) → Option Time
earliest s sample write = first (waits s sample write)

-- a warm return shifts the waits by the length without supply; the wake is not shifted (the Rust's rules)
abbrev pub shifted : Deadlines → (by : Duration) → Deadlines
shifted s by =
    record { serial_ready = later s.serial_ready by; wake = s.wake; pause = later s.pause by; quiet = later s.quiet by; irq_hold = later s.irq_hold by; image = later s.image by }
