-- An I2C report (`i2c_pins_at`).
use Rattle.std.specs.Prelude.{ℕ, Bool, true, not, ◌&&◌, if◌then◌else◌, Option, Some, None}
use Rattle.time.specs.declared.Time.{Time}
use Rattle.i2c.specs.declared.types.Levels.{Levels}
use Rattle.i2c.specs.declared.types.Edge.{Edge}
use Rattle.i2c.specs.declared.types.Action.{Action}
use Rattle.i2c.specs.declared.types.Step.{Step}
use Rattle.i2c.specs.Bus.{edge}
use Rattle.i2c.specs.Engine as E
use Rattle.spi.specs.Frame as F
use Rattle.reads.specs.Reads as R
use Rattle.sensor.specs.declared.types.Fetched.{Fetched}
use Rattle.sensor.specs.declared.types.Sensor.{Sensor}
use Rattle.sensor.specs.Record.{with_frame, with_i2c, with_reads, is_off, serial_not_ready, is_quiet}
use Rattle.writes.specs.Write.{write_register}
use Rattle.samples.specs.Samples.{sync_local_until}
use Rattle.sensor.specs.RegisterReads.{prepare_read, read_began}

-- ---- I2C report (`i2c_pins_at`)

-- I2C listens while not selected, with supply and not dead
unfoldable pub i2c_listens : Sensor → Bool
i2c_listens s = not s.frame.selected && (not (is_off s) && not (serial_not_ready s))

-- the byte being sent; a withheld one drives ones (01)
unfoldable pub ones_for : Option ℕ → ℕ
ones_for None = 0xff
ones_for (Some b) = b

-- START and STOP drop the byte being sent
abbrev pub byte_dropped : Sensor → Sensor
byte_dropped s = with_reads (with_frame s (F.sending s.frame None)) (R.dropped s.reads)

-- a written register is acknowledged with the state that the sensor then has
abbrev pub acknowledge_begun : Sensor → Sensor
acknowledge_begun s = with_i2c s (E.written s.i2c (is_quiet s))

-- a fetched byte is sent
abbrev pub launched : Fetched → Sensor
launched f =
    with_i2c (with_frame f.sensor (F.sending f.sensor.frame f.sent)) (E.launched f.sensor.i2c (ones_for f.sent))

-- what the engine asked for is done
unfoldable pub acted : Option Action → Sensor → (now : Time) → Sensor
acted None s now = s
acted (Some Action.Drop) s now = byte_dropped s
acted (Some (Action.Write r v)) s now = acknowledge_begun (write_register s r v now)
acted (Some (Action.Launch r)) s now = launched (prepare_read s r)
acted (Some (Action.ReadBegan r)) s now = read_began s r

abbrev pub stepped : Step → Sensor → (now : Time) → Sensor
stepped t s now = acted t.action (with_i2c s t.state) now

-- selected, off or dead: only the engine is aborted
unfoldable pub i2c_pins : Sensor → Edge → (now : Time) → Sensor
i2c_pins s e now =
    if i2c_listens s then stepped (E.step s.i2c e (is_quiet s) (ones_for s.frame.tx)) s now else with_i2c s (E.aborted s.i2c)

unfoldable pub pins_synced : Sensor → Edge → (now : Time) → Sensor
pins_synced s e now = if i2c_listens s && (E.consumes_conversion s.i2c e && not (is_quiet s)) then sync_local_until s now true else s

abbrev pub i2c_pins_at : Sensor → (before after : Levels) (now : Time) → Sensor
i2c_pins_at s before after now = i2c_pins (pins_synced s (edge before after) now) (edge before after) now
