-- A command that is read from bytes, and is not bad, is what those bytes write: the converse of the round trip.
use Rattle.std.proofs.Math.Path.{◌≡◌, refl, ap}
use Rattle.std.proofs.lemmas.Bool.{true≢false}
use Rattle.std.proofs.Common.{sym, ◌∙◌, pow-suc, zero-mul, one-mul, add-zero, mod-eq_of_lt, add-one}
use Rattle.std.specs.Prelude.{Bool, eqb, pos, negsuc, drop, get_or, Result, Ok}
use Rattle.std.proofs.Math.Bool.{true, false, cond}
use mathlib.Core.List.{List, [], ◌∷◌, ◌++◌}
use Prim.Native.Nat.{ℕ, zero, suc, ◌+◌, ◌-◌, ◌*◌, ◌/◌, ◌%◌, ◌^◌, ◌≤◌, ◌<◌}
use native.Mathlib.Omega.{arith}
use borrow.Author.Tests.{lt-ltb, ltb-true, ltb-false, eqb-true, eqb-false}
use Rattle.std.proofs.Math.Dec.{ltb}
use Rattle.std.proofs.Math.ListN.{length, take, length-drop}
use Rattle.std.proofs.Math.Seq.{take-add, length-take-le}
use Rattle.time.specs.declared.Time.{Time}
use Rattle.calls.specs.declared.types.Timed.TheVariants as Timed
use Rattle.calls.specs.declared.types.Starting.{Starting}
use Rattle.commands.specs.declared.Command.{Command}
use Rattle.commands.specs.declared.Opcode.{Opcode}
use Rattle.commands.specs.declared.UnknownByte.{UnknownByte}
use Rattle.commands.specs.Decode.{part, number_at, signed, moment_at, byte_at, bit, levels, timed, start, image, opcode, operands, named, named_by, decoded, size, is_bad}
use Rattle.commands.specs.Encode.{start_byte, bytes, time_bytes, complement, weighed, lines_byte, timed_bytes, call_bytes, encoded, TimeFits, SignedFits, TimedFits, CallFits, Fits}
use Rattle.commands.proofs.Theorems.Laws.{number_more, part_more}
use Rattle.commands.proofs.Theorems.More.{start_size}
use Rattle.printed.specs.Commands.{Bytes}

-- ---- numbers

snoc_bytes : (n x b : ℕ) → b < 256 → bytes (suc n) (x * 256 + b) ≡ bytes n x ++ (b ∷ [])
unfolding bytes
snoc_bytes n x b h =
    let q : (x * 256 + b) / 256 ≡ x = omega arith in
    let r : (x * 256 + b) % 256 ≡ b = omega arith in
    rw (q, r)

complement_back : (x : ℕ) → x < 2 ^ 32 → complement (signed x) ≡ x
unfolding complement signed
complement_back x h = go (ltb x 2147483648) refl
  where
    go : (t : Bool) → ltb x 2147483648 ≡ t → complement (cond t (pos x) (negsuc (4294967295 - x))) ≡ x
    go true e = refl
    go false e = omega (arith, ltb-false x 2147483648 e)

signed_fits : (x : ℕ) → x < 2 ^ 32 → SignedFits (signed x)
unfolding signed
signed_fits x h = go (ltb x 2147483648) refl
  where
    go : (t : Bool) → ltb x 2147483648 ≡ t → SignedFits (cond t (pos x) (negsuc (4294967295 - x)))
    go true e = ltb-true x 2147483648 e
    go false e = omega (arith, ltb-false x 2147483648 e)

weighed_bit : (x w : ℕ) → x < 2 → weighed (eqb x 1) w ≡ x * w
weighed_bit x w h = go (eqb x 1) refl
  where
    go : (t : Bool) → eqb x 1 ≡ t → cond t w 0 ≡ x * w
    go true e = let k : x ≡ 1 = eqb-true x 1 e in rw (k, one-mul)
    go false e =
        let n : x ≡ 1 → ⊥ = eqb-false x 1 e in
        let k : x ≡ 0 = omega (arith, h, n) in
        rw (k, zero-mul)

-- the lines of a byte 0..15
lines_byte_back : (b : ℕ) → b < 16 → lines_byte (levels b 8 4) (levels b 2 1) ≡ b
unfolding bit
lines_byte_back b h =
    let p : b / 8 % 2 < 2 = omega arith in
    let q : b / 4 % 2 < 2 = omega arith in
    let r : b / 2 % 2 < 2 = omega arith in
    let s : b / 1 % 2 < 2 = omega arith in
    let t : b / 8 % 2 ≡ b / 8 = omega arith in
    let u : b / 8 * 2 + b / 4 % 2 ≡ b / 4 = omega arith in
    let v : b / 4 * 2 + b / 2 % 2 ≡ b / 2 = omega arith in
    let w : b / 2 * 2 + b / 1 % 2 ≡ b = omega arith in
    rw (weighed_bit (b / 8 % 2) 8 p, weighed_bit (b / 4 % 2) 4 q, weighed_bit (b / 2 % 2) 2 r, weighed_bit (b / 1 % 2) 1 s) (omega (arith, t, u, v, w))

-- ---- the command at the head of the bytes

-- its bytes are what it writes, and its operands fit
pub record Written (l : List ℕ) (c : Command) : Type 0 where
  pub is : take (size c) l ≡ encoded c (image l)
  pub fits : Fits c (image l)

module _ (b : ℕ) (m : List ℕ) (all : Bytes (b ∷ m)) where
  abbrev l : List ℕ
  l = b ∷ m

  abbrev Back : Command → Type 0
  Back c = is_bad c ≡ false → Written l c

  number_next : (at n : ℕ) → at + suc n ≤ length l → number_at at (suc n) l ≡ number_at at n l * 256 + get_or l (at + n) 0
  number_next at n h = ap (λ (k : ℕ). number_at at k l) (sym (add-one n)) ∙ number_more at n l (omega arith)

  bytes_back : (at n : ℕ) → at + n ≤ length l → bytes n (number_at at n l) ≡ part at n l
  unfolding bytes
  bytes_back at zero h = refl
  bytes_back at (suc n) h =
      ap (bytes (suc n)) (number_next at n h)
      ∙ snoc_bytes n (number_at at n l) (get_or l (at + n) 0) (all (at + n))
      ∙ ap (λ (k : List ℕ). k ++ (get_or l (at + n) 0 ∷ [])) (bytes_back at n (omega arith))
      ∙ part_more at n l (omega arith)
      ∙ ap (λ (k : ℕ). part at k l) (add-one n)

  number_fits : (at n : ℕ) → at + n ≤ length l → number_at at n l < 256 ^ n
  unfolding number_at
  number_fits at zero h = omega arith
  number_fits at (suc n) h =
      let k : number_at at n l < 256 ^ n = number_fits at n (omega arith) in
      rw (number_next at n h, pow-suc) (omega (arith, k, all (at + n)))

  -- ---- operands

  abbrev t : Time
  t = moment_at 1 l

  time_fits : 13 ≤ length l → TimeFits t
  unfolding moment_at
  time_fits h = (number_fits 1 4 (omega arith), number_fits 5 8 (omega arith))

  -- the command's byte and T
  front : (x : ℕ) → b ≡ x → 13 ≤ length l → take 13 l ≡ x ∷ time_bytes t
  unfolding time_bytes moment_at
  front x e h =
      let r : take 12 m ≡ bytes 4 (number_at 1 4 l) ++ bytes 8 (number_at 5 8 l) = rw (bytes_back 1 4 (omega arith), bytes_back 5 8 (omega arith)) (take-add 4 8 m) in
      ap (λ (k : List ℕ). b ∷ k) r ∙ ap (λ (y : ℕ). y ∷ time_bytes t) e

  -- and then k bytes
  front_and : (x k : ℕ) (rest : List ℕ) → b ≡ x → 13 + k ≤ length l → part 13 k l ≡ rest → take (13 + k) l ≡ x ∷ (time_bytes t ++ rest)
  front_and x k rest e h p =
      let f : take 13 l ≡ x ∷ time_bytes t = front x e (omega arith) in
      take-add 13 k l ∙ ap (λ (y : List ℕ). y ++ part 13 k l) f ∙ ap (λ (y : List ℕ). x ∷ (time_bytes t ++ y)) p

  one_byte : (at : ℕ) → at < length l → part at 1 l ≡ byte_at at l ∷ []
  one_byte at h = sym (part_more at 0 l (omega arith)) ∙ ap (λ (k : ℕ). get_or l k 0 ∷ []) (add-zero at)

  -- the command's byte and an operand's
  two : (x : ℕ) → b ≡ x → 2 ≤ length l → take 2 l ≡ x ∷ byte_at 1 l ∷ []
  two x e h = ap (λ (k : List ℕ). b ∷ k) (one_byte 1 (omega arith)) ∙ ap (λ (y : ℕ). y ∷ byte_at 1 l ∷ []) e

  signed_back : (at : ℕ) → at + 4 ≤ length l → part at 4 l ≡ bytes 4 (complement (signed (number_at at 4 l)))
  signed_back at h = sym (ap (bytes 4) (complement_back (number_at at 4 l) (number_fits at 4 h)) ∙ bytes_back at 4 h)

  signed_in : (at : ℕ) → at + 4 ≤ length l → SignedFits (signed (number_at at 4 l))
  signed_in at h = signed_fits (number_at at 4 l) (number_fits at 4 h)

  -- ---- tests

  bad_back : Back Command.Bad
  unfolding is_bad
  bad_back e = absurd (true≢false e)

  -- its n bytes are there, or it is bad
  there : (n : ℕ) (c : Command) → (n ≤ length l → Back c) → Back (cond (ltb (length l) n) Command.Bad c)
  there n c f = go (ltb (length l) n) refl
    where
      go : (x : Bool) → ltb (length l) n ≡ x → Back (cond x Command.Bad c)
      go true e = bad_back
      go false e = f (ltb-false (length l) n e)

  -- this byte is v, or not
  is_byte : (x v : ℕ) (c d : Command) → (x ≡ v → Back c) → Back d → Back (cond (eqb x v) c d)
  is_byte x v c d f g = go (eqb x v) refl
    where
      go : (z : Bool) → eqb x v ≡ z → Back (cond z c d)
      go true e = f (eqb-true x v e)
      go false e = g

  -- ---- each command

  start_back : (by : Starting) → b ≡ start_byte by → Back (cond (ltb (length l) 32) Command.Bad (start by l))
  unfolding encoded Fits
  start_back by e =
      there 32 _
      (λ h z. record {
        is = rw (start_size by t) (front_and (start_byte by) 19 (image l) e h refl);
        fits = (time_fits (omega arith), length-take-le 19 (drop 13 l) (simp length-drop (omega arith)));
      })

  accelerations_back : b ≡ 0x02 → Back (named Opcode.Accelerations l)
  unfolding named operands size encoded call_bytes timed_bytes Fits CallFits TimedFits
  accelerations_back e =
      there 25 _
      (λ h z. record {
        is = take-add 21 4 l
            ∙ ap (λ (y : List ℕ). y ++ part 21 4 l) (take-add 17 4 l ∙ ap (λ (y : List ℕ). y ++ part 17 4 l) (front_and 0x02 4 _ e (omega arith) (signed_back 13 (omega arith))))
            ∙ rw (signed_back 17 (omega arith), signed_back 21 (omega arith));
        fits = (time_fits (omega arith), (signed_in 13 (omega arith), signed_in 17 (omega arith), signed_in 21 (omega arith)));
      })

  temperature_back : b ≡ 0x03 → Back (named Opcode.Temperature l)
  unfolding named operands size encoded call_bytes Fits CallFits
  temperature_back e =
      there 5 _
      (λ h z. record {
        is = ap (λ (k : List ℕ). b ∷ k) (signed_back 1 h) ∙ ap (λ (y : ℕ). y ∷ bytes 4 (complement (signed (number_at 1 4 l)))) e;
        fits = signed_in 1 h;
      })

  supply_back : b ≡ 0x04 → Back (named Opcode.Supply l)
  unfolding named operands size encoded call_bytes timed_bytes Fits CallFits TimedFits
  supply_back e = there 15 _ (λ h z. record { is = front_and 0x04 2 _ e h (sym (bytes_back 13 2 h)); fits = (time_fits (omega arith), number_fits 13 2 h) })

  due_back : b ≡ 0x05 → Back (named Opcode.Due l)
  unfolding named operands size encoded call_bytes timed_bytes Fits CallFits TimedFits
  due_back e = there 13 _ (λ h z. record { is = front 0x05 e h; fits = (time_fits h, tt) })

  select_back : b ≡ 0x06 → Back (named Opcode.Select l)
  unfolding named operands size encoded call_bytes Fits CallFits
  select_back e =
      there 2 _
      (λ h.
      is_byte (byte_at 1 l) 0 _ _ (λ v z. record { is = two 0x06 e h ∙ ap (λ (y : ℕ). 0x06 ∷ y ∷ []) v; fits = tt })
      (is_byte (byte_at 1 l) 1 _ _ (λ v z. record { is = two 0x06 e h ∙ ap (λ (y : ℕ). 0x06 ∷ y ∷ []) v; fits = tt }) bad_back))

  rising_back : b ≡ 0x07 → Back (named Opcode.Rising l)
  unfolding named operands size encoded call_bytes timed_bytes Fits CallFits TimedFits
  rising_back e =
      there 14 _
      (λ h.
      is_byte (byte_at 13 l) 0 _ _ (λ v z. record { is = front_and 0x07 1 _ e h (one_byte 13 (omega arith) ∙ ap (λ (y : ℕ). y ∷ []) v); fits = (time_fits (omega arith), tt) })
      (is_byte (byte_at 13 l) 1 _ _ (λ v z. record { is = front_and 0x07 1 _ e h (one_byte 13 (omega arith) ∙ ap (λ (y : ℕ). y ∷ []) v); fits = (time_fits (omega arith), tt) }) bad_back))

  falling_back : b ≡ 0x08 → Back (named Opcode.Falling l)
  unfolding named operands size encoded call_bytes timed_bytes Fits CallFits TimedFits
  falling_back e = there 13 _ (λ h z. record { is = front 0x08 e h; fits = (time_fits h, tt) })

  pins_back : b ≡ 0x09 → Back (named Opcode.Pins l)
  unfolding named operands size encoded call_bytes timed_bytes Fits CallFits TimedFits
  pins_back e = there 14 _ (λ h. go h (ltb 15 (byte_at 13 l)) refl)
    where
      go : 14 ≤ length l → (x : Bool) → ltb 15 (byte_at 13 l) ≡ x → Back (cond x Command.Bad (timed l (Timed.Pins (levels (byte_at 13 l) 8 4) (levels (byte_at 13 l) 2 1))))
      go h true q = bad_back
      go h false q = λ z.
          let few : byte_at 13 l < 16 = omega (arith, ltb-false 15 (byte_at 13 l) q) in
          record { is = front_and 0x09 1 _ e h (one_byte 13 (omega arith) ∙ ap (λ (y : ℕ). y ∷ []) (sym (lines_byte_back (byte_at 13 l) few))); fits = (time_fits (omega arith), tt) }

  stored_image_back : b ≡ 0x0a → Back (named Opcode.StoredImage l)
  unfolding named operands size encoded call_bytes Fits CallFits
  stored_image_back e = there 13 _ (λ h z. record { is = front 0x0a e h; fits = (time_fits h, refl) })

  view_back : b ≡ 0x0b → Back (named Opcode.View l)
  unfolding named operands size encoded call_bytes Fits CallFits bytes
  view_back e =
      there 2 _ (λ h z. record { is = two 0x0b e h ∙ ap (λ (y : ℕ). 0x0b ∷ y ∷ []) (sym (mod-eq_of_lt {n = byte_at 1 l} {m = 256} (all 1))); fits = all 1 })

  -- ---- any command

  -- this byte names the opcode, or another one
  is_opcode : (v : ℕ) (o : Opcode) (r : Result Opcode UnknownByte) → (b ≡ v → Back (named o l)) → Back (named_by r l) → Back (named_by (cond (eqb b v) (Ok o) r) l)
  is_opcode v o r f g = go (eqb b v) refl
    where
      go : (z : Bool) → eqb b v ≡ z → Back (named_by (cond z (Ok o) r) l)
      go true e = f (eqb-true b v e)
      go false e = g

  named_back : Back (named_by (opcode b) l)
  unfolding opcode named operands start_byte
  named_back =
      is_opcode 0x01 Opcode.Start _ (start_back Starting.Checked)
      (is_opcode 0x02 Opcode.Accelerations _ accelerations_back
      (is_opcode 0x03 Opcode.Temperature _ temperature_back
      (is_opcode 0x04 Opcode.Supply _ supply_back
      (is_opcode 0x05 Opcode.Due _ due_back
      (is_opcode 0x06 Opcode.Select _ select_back
      (is_opcode 0x07 Opcode.Rising _ rising_back
      (is_opcode 0x08 Opcode.Falling _ falling_back
      (is_opcode 0x09 Opcode.Pins _ pins_back
      (is_opcode 0x0a Opcode.StoredImage _ stored_image_back
      (is_opcode 0x0b Opcode.View _ view_back
      (is_opcode 0x0c Opcode.StartStored _ (start_back Starting.Stored) bad_back)))))))))))

  pub written_back : Back (decoded l)
  unfolding decoded
  written_back =
      let some : 0 < length l = omega arith in
      rw (lt-ltb 0 (length l) some) named_back
