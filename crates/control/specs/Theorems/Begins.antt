-- A write is stored exactly where 01 says that a stored write begins.
use Rattle.std.specs.Prelude.{◌≡◌, refl, Bool, true, false, cond, not, ◌&&◌, ℕ}
use Rattle.registers.specs.declared.access.Gate.{Gate}
use Rattle.registers.specs.Access.{ignores, stored, begins}
use Rattle.control.specs.declared.types.WriteKind.{WriteKind}
use Rattle.control.specs.Kinds.{written_register, kind_of_write}

-- it begins a stored write
unfoldable pub is_stored : WriteKind → Bool
is_stored WriteKind.Ignored = false
is_stored WriteKind.Stored = true
is_stored (WriteKind.Taken e) = false

-- a write is stored exactly where 01 says that a stored write begins
pub stored_begins : (address value : ℕ) (gate : Gate) (running : Bool) → is_stored (kind_of_write address value gate running) ≡ begins address value gate running
unfolding is_stored kind_of_write begins
stored_begins address value gate running =
    go (ignores address value gate) (stored address) running
  where
    go : (i s r : Bool) → is_stored (cond i WriteKind.Ignored (cond s (cond r WriteKind.Ignored WriteKind.Stored) (WriteKind.Taken (written_register address value)))) ≡ (s && not r && not i)
    go true true true = refl
    go true true false = refl
    go true false r = refl
    go false true true = refl
    go false true false = refl
    go false false r = refl
