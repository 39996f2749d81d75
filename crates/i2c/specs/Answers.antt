-- What the bus sees of the sensor in each part of a transfer, event by event.
use Rattle.std.specs.Prelude.{ℕ, ◌+◌, ◌%◌, Bool, true, false, not, List, [], ◌∷◌, ◌++◌, drop, replicate, Option, Some, None}
use Rattle.laws.specs.Notation.{Byte}
use Rattle.laws.specs.Bytes.{sent_bit}
use Rattle.i2c.specs.declared.types.Edge.{Edge}
use Rattle.i2c.specs.declared.types.Edge.TheVariants.{Still, Start, Stop, Rise, Fall}
use Rattle.i2c.specs.declared.types.Action.{Action}
use Rattle.i2c.specs.declared.types.Action.TheVariants as A
use Rattle.i2c.specs.Transfers.{Pair, Levels8}
use Rattle.i2c.specs.Target.{Seen, now_shown}

-- the data line free, and this done
abbrev pub free_and : Option Action → Seen
free_and a = record { low = false; deed = a }

-- the data line free, and nothing done
abbrev pub free : Seen
free = free_and None

-- the data line held low, and nothing done
abbrev pub held : Seen
held = record { low = true; deed = None }

-- UM10204 3.1.6: held low from the eighth fall to the ninth
abbrev pub acknowledge : List Seen
acknowledge = held ∷ held ∷ free ∷ []

-- a sensor that waits for START: nothing but that STOP drops what was going on
unfoldable pub silent : Edge → Seen
silent Still = free
silent Start = free
silent Stop = free_and (Some A.Drop)
silent (Rise d) = free
silent Fall = free

-- at each of the events
unfoldable pub silence : List Edge → List Seen
silence [] = []
silence (e ∷ es) = silent e ∷ silence es

-- START drops what was going on; then eight bits of an address
abbrev pub address_answer : List Seen
address_answer = free_and (Some A.Drop) ∷ free ∷ replicate 15 free

-- bits of a byte that is not complete: nothing is seen, and nothing is done
unfoldable pub frees : List Bool → List Seen
frees [] = []
frees (d ∷ ds) = free ∷ free ∷ frees ds

-- a byte broken off by STOP
abbrev pub broken_answer : List Bool → List Seen
broken_answer ds = frees ds ++ (free ∷ free_and (Some A.Drop) ∷ [])

-- a register byte: nothing is done
abbrev pub register_answer : List Seen
register_answer = replicate 15 free ++ acknowledge

-- a value byte: the write is at its eighth rise
abbrev pub value_answer : (register value : ℕ) → List Seen
value_answer register value = replicate 14 free ++ (free_and (Some (A.Write register value)) ∷ acknowledge)

-- each pair writes once, at the register modulo 128
unfoldable pub pairs_answer : List Pair → List Seen
pairs_answer [] = []
pairs_answer (p ∷ ps) = register_answer ++ (value_answer (p.register % 128) p.value ++ pairs_answer ps)

-- the register pointer after pairs
unfoldable pub pairs_pointer : List Pair → (before : ℕ) → ℕ
pairs_pointer [] before = before
pairs_pointer (p ∷ ps) before = pairs_pointer ps (p.register % 128)

-- a write transfer
abbrev pub write_answer : List Pair → List Seen
write_answer ps = (address_answer ++ acknowledge) ++ pairs_answer ps

-- the pin at the n-th bit of a byte: low for a 0
abbrev pub shows_bit : Byte → (n : ℕ) → Option Action → Seen
shows_bit b n a = record { low = not (sent_bit b n); deed = a }

-- a byte read: fetched at the fall before its first bit, each bit from the fall before its clock to the fall after it, most significant first (UM10204 3.1.5); the read begins at the first rise; free for the master's answer
abbrev pub byte_answer : (register : ℕ) → Byte → List Seen
byte_answer p b =
    shows_bit b 0 (Some (A.Launch p)) ∷ shows_bit b 0 (Some (A.ReadBegan p))
    ∷ shows_bit b 1 None ∷ shows_bit b 1 None ∷ shows_bit b 2 None ∷ shows_bit b 2 None ∷ shows_bit b 3 None ∷ shows_bit b 3 None
    ∷ shows_bit b 4 None ∷ shows_bit b 4 None ∷ shows_bit b 5 None ∷ shows_bit b 5 None ∷ shows_bit b 6 None ∷ shows_bit b 6 None
    ∷ shows_bit b 7 None ∷ shows_bit b 7 None ∷ free ∷ free ∷ []

-- the next register follows, modulo 128
abbrev pub next_register : ℕ → ℕ
next_register p = (p + 1) % 128

-- bytes from a register on, each the one that its register shows at the fall that fetches it
unfoldable pub bytes_answer : (register : ℕ) → List Levels8 → (shown : List (ℕ → ℕ)) → List Seen
bytes_answer p [] fs = []
bytes_answer p (o ∷ os) fs = byte_answer p (now_shown fs p) ++ bytes_answer (next_register p) os (drop 18 fs)

-- where the bytes that were acknowledged lead
unfoldable pub register_after : (register : ℕ) → List Levels8 → ℕ
register_after p [] = p
register_after p (o ∷ os) = register_after (next_register p) os

-- what the registers show from there on: a byte has eighteen events
unfoldable pub shown_after : List Levels8 → (shown : List (ℕ → ℕ)) → List (ℕ → ℕ)
shown_after [] fs = fs
shown_after (o ∷ os) fs = shown_after os (drop 18 fs)

-- from the ninth rise of the address on; the last byte's ninth fall frees the pin
abbrev pub read_answer : (register : ℕ) → List Levels8 → (shown : List (ℕ → ℕ)) → List Seen
read_answer p os fs =
    bytes_answer p os fs ++ (byte_answer (register_after p os) (now_shown (shown_after os fs) (register_after p os)) ++ (free ∷ []))

-- the address up to its ninth rise
abbrev pub read_address_answer : List Seen
read_address_answer = address_answer ++ (held ∷ held ∷ [])
