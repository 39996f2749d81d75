-- What the four-wire output and the data pin show.
use Rattle.std.specs.Prelude.{Bool, not, ◌&&◌, if◌then◌else◌}
use Rattle.spi.specs.declared.types.Drive.{Drive}
use Rattle.sensor.specs.declared.types.Sensor.{Sensor}
use Rattle.sensor.specs.Record.{is_off, serial_not_ready, is_quiet, four_wire}

-- SPI drives its pin while selected, awake, not quiet and not dead
unfoldable pub spi_drives : Sensor → Bool
spi_drives s = not (serial_not_ready s) && (s.frame.selected && (not s.sampling.asleep && not (is_quiet s)))

-- the four-wire output
unfoldable pub output : Sensor → Drive
output s = if four_wire s && spi_drives s then s.frame.driven else Drive.Floating

-- I2C holds the data pin low
unfoldable pub i2c_holds : Sensor → Bool
i2c_holds s = not s.frame.selected && (not (is_off s) && (not (serial_not_ready s) && s.i2c.low))

-- the data pin: I2C, or SPI in three-wire mode
unfoldable pub data_output : Sensor → Drive
data_output s = if i2c_holds s then Drive.Low else if not (four_wire s) && spi_drives s then s.frame.driven else Drive.Floating
