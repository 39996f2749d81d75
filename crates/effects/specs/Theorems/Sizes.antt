-- The arrays of the record keep their sizes.
use Rattle.std.specs.Prelude.{ℕ, ◌-◌, ◌≡◌, List, length, set}
use Rattle.std.proofs.Common.{arith, ◌∙◌, length-set}
use Rattle.std.proofs.lemmas.Bool.{cond_both}
use Rattle.std.proofs.lemmas.List.Edits.{length-paste}
use Rattle.registers.specs.Access.{stored}
use Rattle.sensor.specs.Image.{with_cell, image_copied}

-- ---- lists

-- a store keeps the length
pub stored_length : {A : Type 0} {n : ℕ} (l : List A) (i : ℕ) (v : A) → length l ≡ n → length (set l i v) ≡ n
stored_length l i v e = length-set l i v ∙ e

-- a stored cell too, and the copy of an image of 19 bytes
pub cell_length : (image : List ℕ) (address value : ℕ) → length image ≡ 19 → length (with_cell image address value) ≡ 19
unfolding with_cell
cell_length image address value e = cond_both (stored address) _ _ (λ (l : List ℕ). length l ≡ 19) (λ p. stored_length image (address - 0x2b) value e) (λ p. e)

pub copied_length : (registers image : List ℕ) → length registers ≡ 62 → length image ≡ 19 → length (image_copied registers image) ≡ 62
copied_length registers image r i = length-paste registers 0x0b image 19 (omega (arith, r)) (omega (arith, i)) ∙ r
