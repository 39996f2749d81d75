-- A pair is held until its high byte is read: no other read changes its high byte.
use Rattle.std.specs.Prelude.{◌≡◌, refl, Bool, true, false, List, [], ◌∷◌, Option, Some, None, ℕ, ◌%◌, ◌<◌, leb, eqb, get_or}
use Rattle.std.proofs.lemmas.Bool.{both_ways}
use Rattle.std.specs.Option.{is_some, unwrap_or, option_map_or}
use Rattle.std.proofs.Common.{sym, ◌∙◌, arith, length-set, get_or-set_other}
use borrow.Author.Tests.{leb-true, eqb-true, eqb-false}
use Rattle.std.proofs.lemmas.Bool.{and_parts}
use Rattle.registers.specs.Map.{acc_lsb, acc_msb}
use Rattle.reads.specs.declared.Reads.{Reads}
use Rattle.reads.specs.Reads.{is_acceleration, is_shadowed, axis_of, is_low, without_new_data, shadow, is_held, held_high, pair, high_byte, dropped, prepared_high, prepared, finished, sent_byte_read, began}
use Rattle.reads.specs.Theorems.Pairs.{Sized, after_low, after_read, held_then, high_then, sized_then, high_held, low_read}

-- the pair of an axis is still held, with the same high byte
pub record Kept (axis : ℕ) (s t : Reads) : Type 0 where
  pub sized : Sized t
  pub still : is_held t axis ≡ true
  pub high : held_high t axis ≡ held_high s axis

-- ---- what a read leaves

unshadowing : (address : ℕ) → is_shadowed address false ≡ false
unfolding is_shadowed
unshadowing address = refl

module _ (s : Reads) (address viewed low high : ℕ) where
  other_read : (shadowing : Bool) → is_shadowed address shadowing ≡ false → after_read s address viewed low high shadowing ≡ dropped s
  unfolding prepared began
  other_read shadowing e = rw e

  module _ (e : is_shadowed address true ≡ true) where
    low_byte_read : is_low address ≡ true
        → after_read s address viewed low high true ≡ after_low s (axis_of address) low high
    unfolding pair prepared began sent_byte_read is_shadowed
    low_byte_read l = simp (e, l)

    high_byte_read : is_low address ≡ false
        → after_read s address viewed low high true ≡ finished (prepared_high (dropped s) (high_byte s (axis_of address))).reads (axis_of address) (high_byte s (axis_of address))
    unfolding prepared began sent_byte_read is_shadowed
    high_byte_read l = simp (e, l)

-- ---- the pair stays held

-- the high byte of a pair that there is
of_pair : (o : Option (List ℕ)) (other : List ℕ) → is_some o ≡ true → get_or (unwrap_or o other) 1 0 ≡ option_map_or (λ pair. get_or pair 1 0) o 0
of_pair None other e = absurd (both_ways false refl e)
of_pair (Some pair) other e = refl

module _ (s : Reads) (axis : ℕ) (p : axis < 3) (sized : Sized s) (h : is_held s axis ≡ true) where
  pair_high : (low high : ℕ) → get_or (pair s axis low high) 1 0 ≡ held_high s axis
  unfolding pair
  pair_high low high = of_pair (shadow s axis) (low ∷ high ∷ []) h

  held_same : (a low high : ℕ) → a ≡ axis → Kept axis s (after_low s a low high)
  held_same a low high e =
      rw e (record { sized = sized_then s axis low high p sized axis; still = held_then s axis low high p sized; high = high_then s axis low high p sized ∙ pair_high low high })

  held_other : (a low high : ℕ) → (a ≡ axis → ⊥) → Kept axis s (after_low s a low high)
  held_other a low high n =
      let e = get_or-set_other s.shadows a axis (Some (without_new_data (get_or (pair s a low high) 0 0) ∷ get_or (pair s a low high) 1 0 ∷ [])) None (λ e. n (sym e)) in
      record { sized = sized_then s axis low high p sized a; still = rw e h; high = rw e }

  finished_other : (a byte : ℕ) → (a ≡ axis → ⊥) → Kept axis s (finished (prepared_high (dropped s) byte).reads a byte)
  finished_other a byte n =
      let e = get_or-set_other s.shadows a axis None None (λ e. n (sym e)) in
      record { sized = record { axes = simp length-set sized.axes }; still = rw e h; high = rw e }

  -- the other address of an axis's pair
  not_this : (address : ℕ) → is_shadowed address true ≡ true → is_low address ≡ false → (address ≡ acc_msb axis → ⊥) → axis_of address ≡ axis → ⊥
  unfolding is_shadowed is_acceleration
  not_this address e l n q =
      n (omega (arith, leb-true 2 address ((and_parts (leb 2 address) (leb address 7) e).0), eqb-false (address % 2) 0 l))

  by_axis : (a low high : ℕ) (b : Bool) → eqb a axis ≡ b → Kept axis s (after_low s a low high)
  by_axis a low high true e = held_same a low high (eqb-true a axis e)
  by_axis a low high false e = held_other a low high (eqb-false a axis e)

  -- the pair of an axis stays held over a read of any other register than its high byte
  pub stays_held : (address viewed low high : ℕ) (shadowing : Bool) → (address ≡ acc_msb axis → ⊥)
      → Kept axis s (after_read s address viewed low high shadowing)
  stays_held address viewed low high shadowing n = by_shadow shadowing (is_shadowed address shadowing) refl
    where
      by_low : is_shadowed address true ≡ true → (l : Bool) → is_low address ≡ l → Kept axis s (after_read s address viewed low high true)
      by_low e true l = rw (low_byte_read s address viewed low high e l) (by_axis (axis_of address) low high (eqb (axis_of address) axis) refl)
      by_low e false l = rw (high_byte_read s address viewed low high e l) (finished_other (axis_of address) (high_byte s (axis_of address)) (not_this address e l n))

      unchanged : (w : Bool) → is_shadowed address w ≡ false → Kept axis s (after_read s address viewed low high w)
      unchanged w e = rw (other_read s address viewed low high w e) (record { sized = record { axes = sized.axes }; still = h; high = refl })

      by_shadow : (w b : Bool) → is_shadowed address w ≡ b → Kept axis s (after_read s address viewed low high w)
      by_shadow w false e = unchanged w e
      by_shadow true true e = by_low e (is_low address) refl
      by_shadow false true e = unchanged false (unshadowing address)

-- ---- many reads

-- a read: its address, the byte that `peek` shows, the registers of its axis, and shadowing
pub record Read : Type 0 where
  pub address : ℕ
  pub viewed : ℕ
  pub low : ℕ
  pub high : ℕ
  pub shadowing : Bool

-- what is kept after reads, one after the other
unfoldable pub after_reads : List Read → Reads → Reads
after_reads [] s = s
after_reads (r ∷ rs) s = after_reads rs (after_read s r.address r.viewed r.low r.high r.shadowing)

-- no read of this address
unfoldable pub none_of : ℕ → List Read → Type 0
none_of address [] = Unit {0}
none_of address (r ∷ rs) = (r.address ≡ address → ⊥) × none_of address rs

-- a held pair outlasts any reads that leave its high byte out
pub held_until : (rs : List Read) (s : Reads) (axis : ℕ) → axis < 3 → Sized s → is_held s axis ≡ true → none_of (acc_msb axis) rs → Kept axis s (after_reads rs s)
unfolding after_reads none_of
held_until [] s axis p sized h n = record { sized = sized; still = h; high = refl }
held_until (r ∷ rs) s axis p sized h n =
    let k = stays_held s axis p sized h r.address r.viewed r.low r.high r.shadowing n.0 in
    let m = held_until rs _ axis p k.sized k.still n.1 in
    record { sized = m.sized; still = m.still; high = m.high ∙ k.high }

-- the high byte after a low byte is of the same pair, whatever the registers became and whatever else was read between
pub one_sample_until : (rs : List Read) (s : Reads) (axis viewed low high viewed' low' high' : ℕ) → axis < 3 → Sized s → none_of (acc_msb axis) rs
    → (prepared (after_reads rs (after_read s (acc_lsb axis) viewed low high true)) (acc_msb axis) viewed' low' high' true).byte ≡ get_or (pair s axis low high) 1 0
one_sample_until rs s axis viewed low high viewed' low' high' p sized n =
    let t = after_low s axis low high in
    let k = held_until rs t axis p (sized_then s axis low high p sized axis) (held_then s axis low high p sized) n in
    rw (low_read s axis viewed low high p) (high_held (after_reads rs t) axis viewed' low' high' p k.still ∙ k.high ∙ high_then s axis low high p sized)
