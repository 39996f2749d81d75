-- The decisions of the Rust's `automatic_control` in automatic mode.
use Rattle.std.specs.Prelude.{Bool, not, ◌&&◌}
use Rattle.control.specs.declared.automatic.Activity.{Activity}

-- a new criterion, not latched, holds the interrupt pin for 330 µs (the Rust's rule)
unfoldable pub holds : (was_criterion latch criterion : Bool) → Bool
holds was_criterion latch criterion = not was_criterion && not latch && criterion

-- asleep with no pause set: one begins now (the Rust's rule)
unfoldable pub pauses_again : (asleep pause_set : Bool) → Bool
pauses_again asleep pause_set = asleep && not pause_set

-- the sensor may pause: the Rust's conjunction, in its order
unfoldable pub may_pause : (verify : Bool) → Activity → Bool
may_pause verify does =
    verify
    && not does.asleep
    && not does.waking
    && not does.testing
    && not does.copying
    && not does.writing
    && does.acquired
    && not does.interrupt
    && not does.verifying
