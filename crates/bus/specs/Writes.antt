-- The register writes that the pins make in a list of calls, as the write book asks for them.
use Rattle.std.specs.Prelude.{List, [], ◌∷◌, ◌%◌, if◌then◌else◌, Option, Some, None, ℕ}
use Rattle.i2c.specs.Target.{Seen}
use Rattle.i2c.specs.Transfers.{Pair}
use Rattle.spi.specs.Lines.{Deed, Wrote, Fetched, ReadBegan}
use Rattle.spi.specs.Lines as L
use Rattle.spi.specs.Courses as P
use Rattle.calls.specs.declared.types.Call.{Call}
use Rattle.bma150.specs.declared.host.Bma150.{Bma150}
use Rattle.book.specs.Does.{action_write, does}
use Rattle.book.specs.Lists.{accepts, step}

-- a write before others; none is none
unfoldable pub and_write : Option (ℕ × ℕ) → List (Option (ℕ × ℕ)) → List (Option (ℕ × ℕ))
and_write None ws = ws
and_write (Some (address, value)) ws = Some (address, value) ∷ ws

-- the writes of the accepted calls, in order
unfoldable pub asked : Bma150 → List Call → List (Option (ℕ × ℕ))
asked s [] = []
asked s (c ∷ cs) = if accepts s c then and_write ((does c).asks s.sensor).write (asked (step s c) cs) else asked (step s c) cs

-- those among what is seen on the I2C bus
unfoldable pub seen_writes : List Seen → List (Option (ℕ × ℕ))
seen_writes [] = []
seen_writes (a ∷ l) = and_write (action_write a.deed) (seen_writes l)

-- 01: writes come in pairs of register and value; that the register counts modulo 128 is the Rust's rule
unfoldable pub pair_writes : List Pair → List (Option (ℕ × ℕ))
pair_writes [] = []
pair_writes (p ∷ ps) = Some (p.register % 128, p.value) ∷ pair_writes ps

-- ---- those of SPI

-- the writes among what an edge does, before others
unfoldable pub deed_writes : List Deed → List (Option (ℕ × ℕ)) → List (Option (ℕ × ℕ))
deed_writes [] ws = ws
deed_writes (Wrote address value ∷ ds) ws = Some (address, value) ∷ deed_writes ds ws
deed_writes (Fetched address ∷ ds) ws = deed_writes ds ws
deed_writes (ReadBegan address ∷ ds) ws = deed_writes ds ws

-- those among what is seen at the edges
unfoldable pub edge_writes : List L.Seen → List (Option (ℕ × ℕ))
edge_writes [] = []
edge_writes (a ∷ l) = deed_writes a.deeds (edge_writes l)

-- a frame writes its value once
unfoldable pub frame_writes : List P.Pair → List (Option (ℕ × ℕ))
frame_writes [] = []
frame_writes (p ∷ ps) = Some (p.register, p.value) ∷ frame_writes ps
