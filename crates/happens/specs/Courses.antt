-- Lists of calls that are the course of one bus: each call begins where the one before it left the pins.
use Rattle.std.specs.Prelude.{◌≡◌, Bool, true, false, List, [], ◌∷◌, if◌then◌else◌, Option, Some, None}
use Rattle.i2c.specs.declared.types.Levels.{Levels}
use Rattle.calls.specs.declared.types.Timed.{Timed}
use Rattle.calls.specs.declared.types.Call.{Call}
use Rattle.calls.specs.Table.{same_levels}

-- one call, by what it makes of the pins; none where it does not fit
unfoldable pub moved : {A : Type 0} → (A → Call → Option A) → Option A → Call → Option A
moved next None c = None
moved next (Some p) c = next p c

-- the pins after a list; none where one of its calls does not fit
unfoldable pub course : {A : Type 0} → (A → Call → Option A) → List Call → Option A → Option A
course next [] p = p
course next (c ∷ cs) p = course next cs (moved next p c)

-- ---- SPI: the select pin and the clock

pub record SpiPins : Type 0 where
  pub selected : Bool
  pub clock : Bool

-- SPI with these levels: selected or not, the clock high or low
abbrev pub spi : (selected clock : Bool) → SpiPins
spi selected clock = record { selected = selected; clock = clock }

-- an edge of the clock: it falls where it is high and rises where it is low; no other timed call fits
unfoldable pub spi_edge : SpiPins → Timed → Option SpiPins
spi_edge p (Timed.Rising mosi) = if p.clock then None else Some (spi p.selected true)
spi_edge p Timed.Falling = if p.clock then Some (spi p.selected false) else None
spi_edge p _ = None

-- a call of SPI: select or an edge; no other call fits
unfoldable pub spi_call : SpiPins → Call → Option SpiPins
spi_call p (Call.At now t) = spi_edge p t
spi_call p (Call.Select on) = Some (spi on p.clock)
spi_call p _ = None

-- a list of SPI calls alone, from the pins at rest to the selected sensor with its clock high
abbrev pub OverSpi : List Call → Type 0
OverSpi cs = course spi_call cs (Some (spi false true)) ≡ Some (spi true true)

-- ---- I2C: the two lines

-- the lines with these levels
abbrev pub lines : (scl sda : Bool) → Levels
lines scl sda = record { scl = scl; sda = sda }

-- a call of I2C: a report that begins at the levels that the lines have; no other call fits
unfoldable pub i2c_call : Levels → Call → Option Levels
i2c_call l (Call.At now (Timed.Pins before after)) = if same_levels l before then Some after else None
i2c_call l _ = None

-- a list of I2C reports alone, from both lines high to both low after a byte's ninth clock
abbrev pub OverI2c : List Call → Type 0
OverI2c cs = course i2c_call cs (Some (lines true true)) ≡ Some (lines false false)
