-- What the definitions of every crate are written with.
use Rattle.std.specs.Prelude.{ℕ, zero, suc, ◌+◌, ◌-◌, ◌^◌, ◌≡◌, refl, List, [], ◌∷◌}
use Prim.Native.Char.{code}
use Prim.Native.String.{String, len, char_at}
use Rattle.std.specs.Int.Bits.{bit_and, bit_or}

-- a byte, a register's address, and the bytes of an image or of the registers in order
abbrev pub Byte : Type 0
Byte = ℕ

abbrev pub Address : Type 0
Address = ℕ

abbrev pub Image : Type 0
Image = List ℕ

abbrev pub Registers : Type 0
Registers = List ℕ

-- a text's bytes, n of them from place i
abbrev ascii_from : (text : String) (n i : ℕ) → List ℕ
ascii_from text zero i = []
ascii_from text (suc n) i = code (char_at text i) ∷ ascii_from text n (i + 1)

-- a text in ASCII
abbrev pub ascii : (text : String) → List ℕ
ascii text = ascii_from text (len text) 0

-- a byte with bit k clear, and with bit k set
abbrev pub cleared : (k : ℕ) (byte : Byte) → Byte
cleared k byte = bit_and byte (255 - 2 ^ k)

abbrev pub with_bit : (k : ℕ) (byte : Byte) → Byte
with_bit k byte = bit_or byte (2 ^ k)

-- as the table of ASCII has it
ascii_ok : ascii "ok -" ≡ 111 ∷ 107 ∷ 32 ∷ 45 ∷ []
ascii_ok = refl
