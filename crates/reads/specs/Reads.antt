-- Reads of the acceleration registers, 02..07: a pair of bytes held from the low byte to the high byte.
use Rattle.std.specs.Prelude.{ℕ, ◌-◌, ◌*◌, ◌/◌, ◌%◌, Bool, ◌&&◌, List, [], ◌∷◌, Option, Some, None, leb, eqb, get_or, set, if◌then◌else◌}
use Rattle.std.specs.Option.{is_some, unwrap_or, option_map_or}
use Rattle.laws.specs.Notation.{Byte, Address}
use Rattle.registers.specs.Map.{acc_lsb, acc_msb}
use Rattle.reads.specs.declared.Reads.{Reads}
use Rattle.reads.specs.declared.Shadowed.{Shadowed}
use Rattle.reads.specs.declared.Prepared.{Prepared}

-- ---- addresses

-- the registers of the three axes, 02..07 (data sheet)
unfoldable pub is_acceleration : (address : Address) → Bool
is_acceleration address = leb (acc_lsb 0) address && leb address (acc_msb 2)

-- the axis of such an address: 0, 1, 2 (the Rust's rule)
abbrev pub axis_of : (address : Address) → ℕ
axis_of address = (address - acc_lsb 0) / 2

-- low bytes have the even addresses 02, 04, 06 (data sheet)
abbrev pub is_low : (address : Address) → Bool
is_low address = eqb (address % 2) 0

-- with shadowing on (shadow_dis, bit 3 of 15, clear) an acceleration's bytes come in pairs (data sheet)
unfoldable pub is_shadowed : (address : Address) (shadowing : Bool) → Bool
is_shadowed address shadowing = shadowing && is_acceleration address

-- a low byte with bit 0, new_data, clear (the Rust's `& !1`)
abbrev pub without_new_data : (byte : Byte) → ℕ
without_new_data byte = byte / 2 * 2

-- ---- what is kept

-- no pair is held for any axis
abbrev pub none_held : List (Option (List ℕ))
none_held = None ∷ None ∷ None ∷ []

-- at the start: nothing is held or being sent (the Rust's rule), and the last high bytes are 0 (01, "Wrong turns")
abbrev pub new : Reads
new = record { shadows = none_held; last_msb = 0 ∷ 0 ∷ 0 ∷ []; sending = None }

-- the Rust's `shadows = [None; 3]`: no pair is held
abbrev pub released : Reads → Reads
released s = record s { shadows = none_held }

-- the Rust's `last_msb = [0; 3]` of `soft_reset`
abbrev pub forgotten : Reads → Reads
forgotten s = record s { last_msb = 0 ∷ 0 ∷ 0 ∷ [] }

-- nothing shadowed is being sent (the Rust's `tx_pair = None`, `tx_shadow = false`)
abbrev pub dropped : Reads → Reads
dropped s = record s { sending = None }

-- the pair of an axis, if one is held (the Rust's `shadows[axis]`)
abbrev pub shadow : Reads → (axis : ℕ) → Option (List ℕ)
shadow s axis = get_or s.shadows axis None

-- a pair is held for the axis
abbrev pub is_held : Reads → (axis : ℕ) → Bool
is_held s axis = is_some (shadow s axis)

-- the high byte of the axis's pair
abbrev pub held_high : Reads → (axis : ℕ) → ℕ
held_high s axis = option_map_or (λ pair. get_or pair 1 0) (shadow s axis) 0

-- ---- a byte to send (the Rust's `prepare_read`, of a byte that `peek` shows)

-- the held pair of an axis, else the bytes of its registers (the Rust's `unwrap_or`)
unfoldable pub pair : Reads → (axis low high : ℕ) → List ℕ
pair s axis low high = unwrap_or (shadow s axis) (low ∷ high ∷ [])

-- a low byte is the first of its pair, which is kept with it (the Rust's `tx_pair`)
abbrev pub prepared_from : Reads → (pair : List ℕ) → Prepared
prepared_from s pair = record { reads = record s { sending = Some (Shadowed.Low pair) }; byte = get_or pair 0 0 }

-- the pair is the axis's
abbrev pub prepared_low : Reads → (axis low high : ℕ) → Prepared
prepared_low s axis low high = prepared_from s (pair s axis low high)

-- a high byte is that of the held pair (the Rust's rule); before its low byte it is the last acknowledged one (01, "Wrong turns")
unfoldable pub high_byte : Reads → (axis : ℕ) → ℕ
high_byte s axis = option_map_or (λ pair. get_or pair 1 0) (shadow s axis) (get_or s.last_msb axis 0)

-- a high byte is sent without its pair (the Rust's `tx_shadow` alone)
abbrev pub prepared_high : Reads → (byte : Byte) → Prepared
prepared_high s byte = record { reads = record s { sending = Some Shadowed.High }; byte = byte }

-- outside 02..07, or without shadowing, the byte is the one viewed; what was being sent is dropped first (the Rust's rule)
unfoldable pub prepared : Reads → (address : Address) (viewed : Byte) (low high : ℕ) (shadowing : Bool) → Prepared
prepared s address viewed low high shadowing =
    if is_shadowed address shadowing
    then (if is_low address then prepared_low (dropped s) (axis_of address) low high else prepared_high (dropped s) (high_byte s (axis_of address)))
    else record { reads = dropped s; byte = viewed }

-- ---- a byte taken (the Rust's `acknowledge_read`)

-- after a low byte the pair that it was sent from is held for its axis, with new_data clear (the Rust's rule)
abbrev pub holding : Reads → (axis : ℕ) (pair : List ℕ) → Reads
holding s axis pair = record s { shadows = set s.shadows axis (Some (without_new_data (get_or pair 0 0) ∷ get_or pair 1 0 ∷ [])) }

-- after a high byte it is the last one of its axis, whose pair is released (the Rust's rule)
abbrev pub finished : Reads → (axis : ℕ) (sent : Byte) → Reads
finished s axis sent = record s { shadows = set s.shadows axis None; last_msb = set s.last_msb axis sent }

-- a low byte holds its pair, a high byte releases it
unfoldable pub sent_byte_read : Reads → (axis : ℕ) → Shadowed → (sent : Byte) → Reads
sent_byte_read s axis (Shadowed.Low pair) sent = holding s axis pair
sent_byte_read s axis Shadowed.High sent = finished s axis sent

-- of what is being sent only a shadowed byte of an acceleration changes what is kept
unfoldable pub began : Reads → (address : Address) → Option Shadowed → (sent : Byte) → Reads
began s address None sent = s
began s address (Some sending) sent = if is_acceleration address then sent_byte_read s (axis_of address) sending sent else s

-- what is being sent stays (the Rust's rule)
abbrev pub read_began : Reads → (address : Address) (sent : Byte) → Reads
read_began s address sent = began s address s.sending sent
