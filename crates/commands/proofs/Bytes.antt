-- The number of 2, 4 or 8 bytes, and the signed number of 4, as std reads them.
use Rattle.std.specs.Prelude.{◌≡◌, cond, List, [], ◌∷◌, ℕ, suc, pos, negsuc, ◌+◌, ◌-◌, ◌≤◌, ltb, length, drop}
use Rattle.std.proofs.Common.{ap, ◌∙◌, arith, length-take-le, length-drop}
use Rattle.std.specs.Int.{w16, w32, w64, from_be_bytes, cast_signed}
use Rattle.commands.specs.Decode.{part, big, number_at, signed, signed_at}

big_of_2 : (l : List ℕ) → length l ≡ 2 → from_be_bytes w16 l ≡ big l
big_of_2 (a ∷ b ∷ []) e = omega arith
big_of_2 _ e = omega arith

big_of_4 : (l : List ℕ) → length l ≡ 4 → from_be_bytes w32 l ≡ big l
big_of_4 (a ∷ b ∷ c ∷ d ∷ []) e = omega arith
big_of_4 _ e = omega arith

big_of_8 : (l : List ℕ) → length l ≡ 8 → from_be_bytes w64 l ≡ big l
big_of_8 (a ∷ b ∷ c ∷ d ∷ f ∷ g ∷ h ∷ i ∷ []) e = omega arith
big_of_8 _ e = omega arith

part_length : (at n : ℕ) (l : List ℕ) → at + n ≤ length l → length (part at n l) ≡ n
part_length at n l h = let k : n ≤ length (drop at l) = simp length-drop (omega arith) in length-take-le n (drop at l) k

pub number_2 : (at : ℕ) (l bytes : List ℕ) → at + 2 ≤ length l → bytes ≡ part at 2 l → from_be_bytes w16 bytes ≡ number_at at 2 l
unfolding number_at
number_2 at l bytes h e = rw e (big_of_2 (part at 2 l) (part_length at 2 l h))

pub number_4 : (at : ℕ) (l bytes : List ℕ) → at + 4 ≤ length l → bytes ≡ part at 4 l → from_be_bytes w32 bytes ≡ number_at at 4 l
unfolding number_at
number_4 at l bytes h e = rw e (big_of_4 (part at 4 l) (part_length at 4 l h))

pub number_8 : (at : ℕ) (l bytes : List ℕ) → at + 8 ≤ length l → bytes ≡ part at 8 l → from_be_bytes w64 bytes ≡ number_at at 8 l
unfolding number_at
number_8 at l bytes h e = rw e (big_of_8 (part at 8 l) (part_length at 8 l h))

signed_is : (x : ℕ) → cast_signed w32 x ≡ signed x
unfolding signed
signed_is x = let e : 4294967296 - suc x ≡ 4294967295 - x = omega arith in ap (λ (k : ℕ). cond (ltb x 2147483648) (pos x) (negsuc k)) e

pub signed_4 : (at : ℕ) (l bytes : List ℕ) → at + 4 ≤ length l → bytes ≡ part at 4 l → cast_signed w32 (from_be_bytes w32 bytes) ≡ signed_at at l
signed_4 at l bytes h e = ap (cast_signed w32) (number_4 at l bytes h e) ∙ signed_is (number_at at 4 l)
