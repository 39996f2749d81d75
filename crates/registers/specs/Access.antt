-- Which writes are ignored, which begin a stored write, and which reads are withheld. Addresses are hexadecimal.
use Rattle.std.specs.Prelude.{◌%◌, Bool, not, ◌&&◌, ◌||◌, leb, eqb}
use Rattle.laws.specs.Notation.{Byte, Address}
use Rattle.registers.specs.declared.access.Gate.{Gate}
use Rattle.registers.specs.Map.{control, ee_w}

-- 01: address ≤ 9 or ≥ 3e
unfoldable pub unwritable : (address : Address) → Bool
unwritable address = leb address 0x09 || leb 0x3e address

-- the working image, 0b..1d, which a copy of the stored image overwrites
unfoldable pub working : (address : Address) → Bool
working address = leb 0x0b address && leb address 0x1d

-- the stored image, 2b..3d
unfoldable pub stored : (address : Address) → Bool
stored address = leb 0x2b address && leb address 0x3d

-- 01: an image copy runs and address is 0b..1d or ≥ 2b
unfoldable pub image_blocks : (copying : Bool) (address : Address) → Bool
image_blocks copying address = copying && (working address || leb 0x2b address)

-- 01: asleep, unless address 0a with value bits 1..0 (soft_reset, sleep) not 01
unfoldable pub sleep_blocks : (asleep : Bool) (address : Address) (value : Byte) → Bool
sleep_blocks asleep address value = asleep && not (eqb address control && not (eqb (value % 4) 1))

-- 01: address ≥ 16 and bit 4 of 0a (ee_w) is clear
unfoldable pub locked : (address : Address) (byte : Byte) → Bool
locked address byte = leb 0x16 address && not (ee_w byte)

-- 01: a write is ignored
unfoldable pub ignores : (address : Address) (value : Byte) → Gate → Bool
ignores address value g =
    unwritable address
    || g.quiet
    || image_blocks g.copying address
    || sleep_blocks g.asleep address value
    || locked address g.control

-- 01: addresses 2b..3d start a stored write, ignored while one runs
unfoldable pub begins : (address : Address) (value : Byte) → Gate → (running : Bool) → Bool
begins address value g running = stored address && not running && not (ignores address value g)

-- 23..2a are never read, the stored image is write-only (data sheet), and from 3e on there is no register
unfoldable pub unreadable : (address : Address) → Bool
unreadable address = leb 0x23 address

-- the Rust's `peek` withholds the byte
unfoldable pub withheld : (address : Address) → Gate → Bool
withheld address g =
    unreadable address
    || g.asleep
    || g.quiet
    || image_blocks g.copying address
    || locked address g.control
