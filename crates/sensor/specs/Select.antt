-- Select (`set_selected`).
use Rattle.std.specs.Prelude.{Bool, not, ◌&&◌, if◌then◌else◌}
use Rattle.i2c.specs.Engine as E
use Rattle.spi.specs.Frame as F
use Rattle.reads.specs.Reads as R
use Rattle.sensor.specs.declared.types.Sensor.{Sensor}
use Rattle.sensor.specs.Record.{with_frame, with_i2c, with_reads, is_off}

-- a change drops both interfaces' frames and the byte being sent
abbrev pub reselected : Sensor → (selected : Bool) → Sensor
reselected s selected = with_reads (with_i2c (with_frame s (F.fresh selected)) (E.aborted s.i2c)) (R.dropped s.reads)

unfoldable pub selected_to : Sensor → (selected : Bool) → Sensor
selected_to s selected = if F.changes s.frame selected then reselected s selected else s

-- select 1 while off is forgotten (the Rust's rule)
unfoldable pub may_select : Sensor → (selected : Bool) → Bool
may_select s selected = selected && not (is_off s)

abbrev pub set_selected : Sensor → (selected : Bool) → Sensor
set_selected s selected = selected_to s (may_select s selected)
