-- What UM10204 calls the events on the two lines.
use Rattle.std.specs.Prelude.{Bool, true, false, not, ◌&&◌, if◌then◌else◌}
use Rattle.i2c.specs.declared.types.Levels.{Levels}
use Rattle.i2c.specs.declared.types.Edge.{Edge}
use Rattle.i2c.specs.declared.types.Edge.TheVariants.{Still, Start, Stop, Rise, Fall}

-- the data line changes while the clock is high (UM10204 3.1.4)
unfoldable pub data_moves : (before after : Levels) → Bool
data_moves before after = before.scl && (after.scl && (if before.sda then not after.sda else after.sda))

-- START: the data falls while the clock is high; STOP: it rises (UM10204 3.1.4). A bit is taken at the clock's rise (3.1.3)
unfoldable pub edge : (before after : Levels) → Edge
edge before after =
    if data_moves before after then (if after.sda then Stop else Start)
    else if not before.scl && after.scl then Rise after.sda
    else if before.scl && not after.scl then Fall else Still

-- START or STOP
unfoldable pub is_condition : Edge → Bool
is_condition Still = false
is_condition Start = true
is_condition Stop = true
is_condition (Rise d) = false
is_condition Fall = false

unfoldable pub is_start : Edge → Bool
is_start Still = false
is_start Start = true
is_start Stop = false
is_start (Rise d) = false
is_start Fall = false

unfoldable pub is_rise : Edge → Bool
is_rise Still = false
is_rise Start = false
is_rise Stop = false
is_rise (Rise d) = true
is_rise Fall = false

unfoldable pub is_fall : Edge → Bool
is_fall Still = false
is_fall Start = false
is_fall Stop = false
is_fall (Rise d) = false
is_fall Fall = true

-- the data level at a rise
unfoldable pub data_at : Edge → Bool
data_at Still = false
data_at Start = false
data_at Stop = false
data_at (Rise d) = d
data_at Fall = false
