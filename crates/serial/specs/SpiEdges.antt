-- SPI edges (`rising_at`, `falling_at`).
use Rattle.std.specs.Prelude.{Bool, true, not, ◌&&◌, if◌then◌else◌, Option, Some, None, ℕ}
use Rattle.time.specs.declared.Time.{Time}
use Rattle.spi.specs.declared.types.Clocked.{Clocked}
use Rattle.spi.specs.declared.types.Shift.{Shift}
use Rattle.spi.specs.declared.types.Taken.{Taken}
use Rattle.spi.specs.Frame as F
use Rattle.sensor.specs.declared.types.Fetched.{Fetched}
use Rattle.sensor.specs.declared.types.Sensor.{Sensor}
use Rattle.sensor.specs.Record.{with_frame, is_off, serial_not_ready, is_quiet, four_wire}
use Rattle.writes.specs.Write.{write_register}
use Rattle.samples.specs.Samples.{sync_local_until}
use Rattle.sensor.specs.RegisterReads.{prepare_read, read_began}

-- ---- the output moves (`shift_output`)

abbrev pub showing : Fetched → Sensor
showing f = with_frame f.sensor (F.shifted f.sensor.frame f.sent)

unfoldable pub moved : Shift → Sensor → Sensor
moved Shift.Stay s = s
moved (Shift.Fetch a) s = showing (prepare_read s a)
moved Shift.Next s = with_frame s (F.shifted s.frame s.frame.tx)

abbrev pub shift_output : Sensor → (at : Clocked) → Sensor
shift_output s at = moved (F.shifts s.frame at (four_wire s)) s

-- ---- SPI rise (`rising_at`)

-- the read of a byte begins at its first bit
unfoldable pub first_bit_taken : Option ℕ → Sensor → Sensor
first_bit_taken None s = s
first_bit_taken (Some a) s = read_began s a

-- a completed write frame writes
unfoldable pub write_done : Option (ℕ × ℕ) → Sensor → (now : Time) → Sensor
write_done None s now = s
write_done (Some (a, v)) s now = write_register s a v now

abbrev pub bit_done : Taken → Sensor → (now : Time) → Sensor
bit_done t s now = write_done t.write (with_frame s t.frame) now

-- the bit, its write, and then the output with the wire mode as it is by then
abbrev pub bit_taken : Sensor → (mosi : Bool) (now : Time) → Sensor
bit_taken s mosi now =
    let t = first_bit_taken (F.first_bit s.frame.serial s.frame.rx_bits) s in
    shift_output (bit_done (F.take_bit t.frame mosi (four_wire t)) t now) Clocked.Rise

-- the turnaround's rise only moves the output
abbrev pub turned : Sensor → Sensor
turned s = shift_output (with_frame s (F.turned s.frame)) Clocked.Turnaround

-- SPI takes bits while selected, not quiet and not dead
unfoldable pub spi_listens : Sensor → Bool
spi_listens s = s.frame.selected && (not (serial_not_ready s) && not (is_quiet s))

unfoldable pub rising_effect : Sensor → (mosi : Bool) (now : Time) → Sensor
rising_effect s mosi now = if spi_listens s then (if s.frame.turnaround then turned s else bit_taken s mosi now) else s

-- a sample at the same moment comes before an edge that uses converted values
unfoldable pub rise_synced : Sensor → (now : Time) → Sensor
rise_synced s now = if spi_listens s && F.consumes_at_rise s.frame then sync_local_until s now true else s

abbrev pub rising_at : Sensor → (mosi : Bool) (now : Time) → Sensor
rising_at s mosi now = rising_effect (rise_synced s now) mosi now

-- ---- SPI fall (`falling_at`): not held back by quiet, sleep or select

unfoldable pub fall_synced : Sensor → (now : Time) → Sensor
fall_synced s now = if spi_listens s && F.consumes_at_fall s.frame (four_wire s) then sync_local_until s now true else s

unfoldable pub falling_effect : Sensor → Sensor
falling_effect s = if not (serial_not_ready s) && not (is_off s) then shift_output s Clocked.Fall else s

abbrev pub falling_at : Sensor → (now : Time) → Sensor
falling_at s now = falling_effect (fall_synced s now)
