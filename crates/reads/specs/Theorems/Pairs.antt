-- The bytes of one sample: a low byte and then its high byte.
use Rattle.std.specs.Prelude.{◌≡◌, Bool, true, false, List, ℕ, ◌/◌, ◌%◌, ◌^◌, ◌<◌, Option, Some, None, leb, length, get_or}
use Rattle.std.proofs.Math.Path.{refl, ap}
use Rattle.std.proofs.Common.{◌∙◌, arith, length-set, get_or-set_same}
use Rattle.std.proofs.lemmas.Bool.{both_ways}
use Rattle.std.specs.Option.{is_some, option_map_or}
use borrow.Author.Tests.{leb-true, le-leb, eq-eqb}
use Rattle.std.proofs.lemmas.Bool.{and_parts}
use Rattle.registers.specs.Map.{acc_lsb, acc_msb, new_data}
use Rattle.reads.specs.declared.Reads.{Reads}
use Rattle.reads.specs.declared.Prepared.{Prepared}
use Rattle.reads.specs.Reads.{is_acceleration, is_shadowed, axis_of, is_low, without_new_data, shadow, is_held, held_high, pair, high_byte, dropped, prepared_low, prepared_high, prepared, holding, sent_byte_read, began, read_began}

-- ---- addresses

-- there are three axes
pub axis_of_lt : (address : ℕ) → is_acceleration address ≡ true → axis_of address < 3
unfolding is_acceleration
axis_of_lt address e = omega (arith, leb-true address 7 ((and_parts (leb 2 address) (leb address 7) e).1))

pub axis_lt : (address : ℕ) (shadowing : Bool) → is_shadowed address shadowing ≡ true → axis_of address < 3
unfolding is_shadowed
axis_lt address shadowing e = axis_of_lt address ((and_parts shadowing (is_acceleration address) e).1)

module _ (axis : ℕ) (p : axis < 3) where
  low_is : is_shadowed (acc_lsb axis) true ≡ true
  unfolding is_shadowed is_acceleration
  low_is = rw (le-leb 2 (acc_lsb axis) (omega arith), le-leb (acc_lsb axis) 7 (omega arith))

  high_is : is_shadowed (acc_msb axis) true ≡ true
  unfolding is_shadowed is_acceleration
  high_is = rw (le-leb 2 (acc_msb axis) (omega arith), le-leb (acc_msb axis) 7 (omega arith))

  low_axis : axis_of (acc_lsb axis) ≡ axis
  low_axis = omega arith

  high_axis : axis_of (acc_msb axis) ≡ axis
  high_axis = omega arith

  low_low : is_low (acc_lsb axis) ≡ true
  low_low = eq-eqb (acc_lsb axis % 2) 0 (omega arith)

  high_low : is_low (acc_msb axis) ≡ false
  high_low = let e : acc_msb axis % 2 ≡ 1 = omega arith in rw e

-- ---- new_data

-- the held low byte has new_data clear
pub new_data_clear : (byte : ℕ) → new_data (without_new_data byte) ≡ false
new_data_clear byte = let e : without_new_data byte / 2 ^ 0 % 2 ≡ 0 = omega arith in rw e

-- and its other bits are those of the register
pub others_kept : (byte : ℕ) → without_new_data byte / 2 ≡ byte / 2
others_kept byte = omega arith

-- ---- a byte to send

-- the pairs are as many as their type says
pub record Sized (s : Reads) : Type 0 where
  pub axes : length s.shadows ≡ 3

-- the high byte of a pair if there is one, else another byte
without : (o : Option (List ℕ)) (byte : ℕ) → is_some o ≡ false → option_map_or (λ pair. get_or pair 1 0) o byte ≡ byte
without None byte e = refl
without (Some pair) byte e = absurd (both_ways true e refl)

within : (o : Option (List ℕ)) (byte : ℕ) → is_some o ≡ true → option_map_or (λ pair. get_or pair 1 0) o byte ≡ option_map_or (λ pair. get_or pair 1 0) o 0
within None byte e = absurd (both_ways false refl e)
within (Some pair) byte e = refl

-- what a low byte leaves that was sent and taken: its pair is held
abbrev pub after_low : Reads → (axis low high : ℕ) → Reads
after_low s axis low high = holding (prepared_low (dropped s) axis low high).reads axis (pair s axis low high)

module _ (s : Reads) (axis viewed low high : ℕ) (p : axis < 3) where
  -- a low byte read with shadowing on is sent from the pair, a high byte without
  pub low_sent : prepared s (acc_lsb axis) viewed low high true ≡ prepared_low (dropped s) axis low high
  unfolding prepared
  low_sent = rw (low_is axis p, low_low axis p, low_axis axis p)

  pub high_sent : prepared s (acc_msb axis) viewed low high true ≡ prepared_high (dropped s) (high_byte s axis)
  unfolding prepared
  high_sent = rw (high_is axis p, high_low axis p, high_axis axis p)

  -- a high byte before its low byte: no pair is held, and it shows the last high byte of the axis (01, "Wrong turns")
  pub high_before_low : is_held s axis ≡ false → (prepared s (acc_msb axis) viewed low high true).byte ≡ get_or s.last_msb axis 0
  unfolding high_byte
  high_before_low e = ap (λ (r : Prepared). r.byte) high_sent ∙ without (shadow s axis) _ e

  -- a high byte whose pair is held is that of the pair
  pub high_held : is_held s axis ≡ true → (prepared s (acc_msb axis) viewed low high true).byte ≡ held_high s axis
  unfolding high_byte
  high_held e = ap (λ (r : Prepared). r.byte) high_sent ∙ within (shadow s axis) _ e

  -- the low byte taken: its pair is held
  low_taken : (sent : ℕ) → read_began (prepared_low (dropped s) axis low high).reads (acc_lsb axis) sent ≡ after_low s axis low high
  unfolding pair began sent_byte_read is_shadowed
  low_taken sent = rw (low_is axis p, low_axis axis p)

  -- the pair that is sent from does not depend on what was being sent before
  pair_dropped : pair (dropped s) axis low high ≡ pair s axis low high
  unfolding pair
  pair_dropped = refl

-- what is kept after a byte was sent and taken
abbrev pub after_read : Reads → ℕ → ℕ → ℕ → ℕ → Bool → Reads
after_read s address viewed low high shadowing =
    read_began (prepared s address viewed low high shadowing).reads address (prepared s address viewed low high shadowing).byte

module _ (s : Reads) (axis viewed low high : ℕ) (p : axis < 3) where
  -- a low byte sent and taken: its pair is held
  pub low_read : after_read s (acc_lsb axis) viewed low high true ≡ after_low s axis low high
  low_read = rw (low_sent s axis viewed low high p) (low_taken s axis viewed low high p _)

module _ (s : Reads) (axis low high : ℕ) (p : axis < 3) (sized : Sized s) where
  -- then the pair is held, with its high byte, and there are as many pairs as before
  pub held_then : is_held (after_low s axis low high) axis ≡ true
  held_then = rw (get_or-set_same s.shadows axis _ None (omega (arith, sized.axes)))

  pub high_then : held_high (after_low s axis low high) axis ≡ get_or (pair s axis low high) 1 0
  high_then = rw (get_or-set_same s.shadows axis _ None (omega (arith, sized.axes)))

  pub sized_then : (a : ℕ) → Sized (after_low s a low high)
  sized_then a = record { axes = simp length-set sized.axes }

  -- a low byte and then its high byte are the two bytes of one pair, whatever the registers became between
  pub one_sample : (viewed viewed' low' high' : ℕ)
      → ((prepared s (acc_lsb axis) viewed low high true).byte ≡ get_or (pair s axis low high) 0 0)
      × ((prepared (after_read s (acc_lsb axis) viewed low high true) (acc_msb axis) viewed' low' high' true).byte ≡ get_or (pair s axis low high) 1 0)
  one_sample viewed viewed' low' high' = (
    ap (λ (r : Prepared). r.byte) (low_sent s axis viewed low high p) ∙ ap (λ (l : List ℕ). get_or l 0 0) (pair_dropped s axis viewed low high p),
    rw (low_read s axis viewed low high p) (high_held _ axis viewed' low' high' p held_then ∙ high_then),
  )
