-- The register map of the data sheet: addresses, and the fields of a register's byte. Addresses are hexadecimal; a name is the
-- data sheet's. Only what the Rust reads or writes is here.
use Rattle.std.specs.Prelude.{ℕ, ◌+◌, ◌*◌, ◌/◌, ◌%◌, Bool, get_or}
use Rattle.laws.specs.Notation.{Byte, Address, Registers, cleared, with_bit}
use Rattle.laws.specs.Bytes.{bit}

-- the byte of the register at an address
abbrev pub at : (registers : Registers) (address : Address) → ℕ
at registers address = get_or registers address 0

-- ---- addresses

-- 00: chip_id
abbrev pub chip_id : ℕ
chip_id = 0x00

-- address 01: al_version and ml_version
abbrev pub version : ℕ
version = 0x01

-- 02, 04, 06: acc_x, acc_y, acc_z <1:0> in bits 7..6, new_data_x, _y, _z in bit 0; axes are 0, 1, 2
abbrev pub acc_lsb : (axis : ℕ) → ℕ
acc_lsb axis = 0x02 + axis * 2

-- 03, 05, 07: acc_x, acc_y, acc_z <9:2>
abbrev pub acc_msb : (axis : ℕ) → ℕ
acc_msb axis = 0x03 + axis * 2

-- 08: temp
abbrev pub temp : ℕ
temp = 0x08

-- 09: st_result, alert_phase, LG_latched, HG_latched, status_LG, status_HG
abbrev pub status : ℕ
status = 0x09

-- 0a: reset_INT, update_image, ee_w, self_test_1, self_test_0, soft_reset, sleep
abbrev pub control : ℕ
control = 0x0a

-- 0b: alert, any_motion, counter_HG, counter_LG, enable_HG, enable_LG
abbrev pub criteria : ℕ
criteria = 0x0b

-- 0c: LG_thres
abbrev pub LG_thres : ℕ
LG_thres = 0x0c

-- 0d: LG_dur
abbrev pub LG_dur : ℕ
LG_dur = 0x0d

-- 0e: HG_thres
abbrev pub HG_thres : ℕ
HG_thres = 0x0e

-- 0f: HG_dur
abbrev pub HG_dur : ℕ
HG_dur = 0x0f

-- 10: any_motion_thres
abbrev pub any_motion_thres : ℕ
any_motion_thres = 0x10

-- 11: any_motion_dur, HG_hyst, LG_hyst
abbrev pub hysteresis : ℕ
hysteresis = 0x11

-- 14: range, bandwidth
abbrev pub measurement : ℕ
measurement = 0x14

-- 15: SPI4, enable_adv_INT, new_data_INT, latch_INT, shadow_dis, wake_up_pause, wake_up
abbrev pub operation : ℕ
operation = 0x15

-- 16, 17, 18: offset_x, offset_y, offset_z <1:0> in bits 7..6
abbrev pub offset_lsb : (axis : ℕ) → ℕ
offset_lsb axis = 0x16 + axis

-- 1a, 1b, 1c: offset_x, offset_y, offset_z <9:2>
abbrev pub offset_msb : (axis : ℕ) → ℕ
offset_msb axis = 0x1a + axis

-- ---- fields of 02, 04, 06

-- bit 0: new_data
abbrev pub new_data : (byte : Byte) → Bool
new_data byte = bit byte 0

-- ---- fields of 09

-- bit 7: st_result, set and clear
abbrev pub with_st_result : (byte : Byte) → Byte
with_st_result byte = with_bit 7 byte

abbrev pub without_st_result : (byte : Byte) → Byte
without_st_result byte = cleared 7 byte

-- bit 4: alert_phase
abbrev pub alert_phase : (byte : Byte) → Bool
alert_phase byte = bit byte 4

-- bit 3: LG_latched
abbrev pub LG_latched : (byte : Byte) → Bool
LG_latched byte = bit byte 3

-- bit 2: HG_latched
abbrev pub HG_latched : (byte : Byte) → Bool
HG_latched byte = bit byte 2

-- bit 1: status_LG
abbrev pub status_LG : (byte : Byte) → Bool
status_LG byte = bit byte 1

-- bit 0: status_HG
abbrev pub status_HG : (byte : Byte) → Bool
status_HG byte = bit byte 0

-- ---- fields of 0a, of the register and of a written byte

-- update_image (bit 5) clear, self_test_0 (bit 2) clear
abbrev pub without_update_image : (byte : Byte) → Byte
without_update_image byte = cleared 5 byte

abbrev pub without_self_test_0 : (byte : Byte) → Byte
without_self_test_0 byte = cleared 2 byte

-- bit 6: reset_INT
abbrev pub reset_INT : (byte : Byte) → Bool
reset_INT byte = bit byte 6

-- bit 5: update_image
abbrev pub update_image : (byte : Byte) → Bool
update_image byte = bit byte 5

-- bit 4: ee_w
abbrev pub ee_w : (byte : Byte) → Bool
ee_w byte = bit byte 4

-- bit 3: self_test_1
abbrev pub self_test_1 : (byte : Byte) → Bool
self_test_1 byte = bit byte 3

-- bit 2: self_test_0
abbrev pub self_test_0 : (byte : Byte) → Bool
self_test_0 byte = bit byte 2

-- bit 1: soft_reset
abbrev pub soft_reset : (byte : Byte) → Bool
soft_reset byte = bit byte 1

-- bit 0: sleep
abbrev pub sleep : (byte : Byte) → Bool
sleep byte = bit byte 0

-- ---- fields of 0b

-- bit 7: alert
abbrev pub alert : (byte : Byte) → Bool
alert byte = bit byte 7

-- bit 6: any_motion
abbrev pub any_motion : (byte : Byte) → Bool
any_motion byte = bit byte 6

-- bits 5..4: counter_HG
abbrev pub counter_HG : (byte : Byte) → ℕ
counter_HG byte = byte / 16 % 4

-- bits 3..2: counter_LG
abbrev pub counter_LG : (byte : Byte) → ℕ
counter_LG byte = byte / 4 % 4

-- bit 1: enable_HG
abbrev pub enable_HG : (byte : Byte) → Bool
enable_HG byte = bit byte 1

-- bit 0: enable_LG
abbrev pub enable_LG : (byte : Byte) → Bool
enable_LG byte = bit byte 0

-- ---- fields of 11

-- bits 7..6: any_motion_dur
abbrev pub any_motion_dur : (byte : Byte) → ℕ
any_motion_dur byte = byte / 64 % 4

-- bits 5..3: HG_hyst
abbrev pub HG_hyst : (byte : Byte) → ℕ
HG_hyst byte = byte / 8 % 8

-- bits 2..0: LG_hyst
abbrev pub LG_hyst : (byte : Byte) → ℕ
LG_hyst byte = byte % 8

-- ---- fields of 14

-- bits 4..3: range
abbrev pub range : (byte : Byte) → ℕ
range byte = byte / 8 % 4

-- bits 2..0: bandwidth
abbrev pub bandwidth : (byte : Byte) → ℕ
bandwidth byte = byte % 8

-- ---- fields of 15

-- bit 7: SPI4
abbrev pub SPI4 : (byte : Byte) → Bool
SPI4 byte = bit byte 7

-- bit 6: enable_adv_INT
abbrev pub enable_adv_INT : (byte : Byte) → Bool
enable_adv_INT byte = bit byte 6

-- bit 5: new_data_INT
abbrev pub new_data_INT : (byte : Byte) → Bool
new_data_INT byte = bit byte 5

-- bit 4: latch_INT
abbrev pub latch_INT : (byte : Byte) → Bool
latch_INT byte = bit byte 4

-- bit 3: shadow_dis
abbrev pub shadow_dis : (byte : Byte) → Bool
shadow_dis byte = bit byte 3

-- bits 2..1: wake_up_pause
abbrev pub wake_up_pause : (byte : Byte) → ℕ
wake_up_pause byte = byte / 2 % 4

-- bit 0: wake_up
abbrev pub wake_up : (byte : Byte) → Bool
wake_up byte = bit byte 0
