-- Digits of bytes put together.
use Rattle.std.specs.Prelude.{◌≡◌, refl, List, [], ◌∷◌, ◌++◌, ℕ, ◌+◌, ◌<◌, length, take, get_or}
use Rattle.std.proofs.Common.{sym, ap, ◌∙◌, append_assoc, arith}
use Rattle.bench.specs.Text.{hex, hexes}
use Rattle.machine.proofs.Theorems.Put.{one_more}

pub hexes_append : (l m : List ℕ) → hexes (l ++ m) ≡ hexes l ++ hexes m
hexes_append [] m = refl
hexes_append (b ∷ l) m = ap (λ (x : List ℕ). hex b ++ x) (hexes_append l m) ∙ sym (append_assoc (hex b) (hexes l) (hexes m))

pub length_hexes : (l : List ℕ) → length (hexes l) ≡ length l + length l
length_hexes [] = refl
length_hexes (b ∷ l) = omega (arith, length_hexes l)

pub one_more_hex : (l : List ℕ) (i : ℕ) → i < length l → hexes (take i l) ++ hex (get_or l i 0) ≡ hexes (take (i + 1) l)
one_more_hex l i h = sym (ap hexes (sym (one_more l i h)) ∙ hexes_append (take i l) (get_or l i 0 ∷ []))
