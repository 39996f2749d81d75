-- Range code 3 and bandwidth code 7 of register 14, which the data sheet reserves, act as 8 g and bandwidth code 6 (the Rust's rule): nothing but showing the register tells them apart.
use Rattle.std.specs.Prelude.{ℕ, zero, suc, ◌+◌, ◌*◌, ◌/◌, min, ◌≡◌, refl, false, List, [], ◌∷◌, ℤ, get_or, set, if◌then◌else◌}
use Rattle.std.proofs.Common.{arith, sym, ap, ◌∙◌, get_or-set_other, ne_eqb}
use Rattle.std.proofs.Math.IntN.{pos}
use Rattle.time.specs.declared.Time.{Time}
use Rattle.time.specs.declared.Duration.{Duration}
use Rattle.filter.specs.declared.Filter.{Filter}
use Rattle.filter.specs.Filter.{shift_of, made, selected}
use Rattle.registers.specs.Map.{at, measurement, control, offset_lsb, offset_msb, self_test_1, range, bandwidth}
use Rattle.registers.specs.Codes.{offset, range_g, code}
use Rattle.sampling.specs.declared.types.Sampling.{Sampling}
use Rattle.sampling.specs.Phase.{converted}
use Rattle.sensor.specs.declared.types.Sensor.{Sensor}
use Rattle.sensor.specs.Record.{with_registers}
use Rattle.sensor.specs.Image.{configured}
use Rattle.sensor.specs.Mode.{acquiring, start_acquisition}
use Rattle.writes.specs.Write.{measurement_written}

-- the byte with range code 3 as 2 (8 g) and bandwidth code 7 as 6
abbrev pub assigned : (m : ℕ) → ℕ
assigned m = m / 32 * 32 + min (range m) 2 * 8 + min (bandwidth m) 6

-- registers with this byte in register 14
abbrev pub measuring : (registers : List ℕ) (m : ℕ) → List ℕ
measuring registers m = set registers measurement m

pub record ReadsAs : Type 0 where
  -- an acceleration has one code
  pub converts : (registers : List ℕ) (m : ℕ) (acceleration : ℤ) (axis : ℕ) → converted (measuring registers m) acceleration axis ≡ converted (measuring registers (assigned m)) acceleration axis
  -- a write of the byte, a copy of an image that has it and a wake with it leave one filter
  pub written : (s : Sensor) (m : ℕ) → (measurement_written s m).sampling ≡ (measurement_written s (assigned m)).sampling
  pub copied : (s : Sensor) (registers : List ℕ) (m : ℕ) → (configured s (measuring registers m)).sampling ≡ (configured s (measuring registers (assigned m))).sampling
  pub wakes : (s : Sensor) (m : ℕ) (now : Time) (ready : Duration)
      → (start_acquisition (with_registers s (measuring s.registers m)) now ready).sampling ≡ (start_acquisition (with_registers s (measuring s.registers (assigned m))) now ready).sampling

-- ---- the two codes

range_assigned : (m : ℕ) → range (assigned m) ≡ min (range m) 2
range_assigned m = omega arith

bandwidth_assigned : (m : ℕ) → bandwidth (assigned m) ≡ min (bandwidth m) 6
bandwidth_assigned m = omega arith

range_alike : (r : ℕ) → range_g r ≡ range_g (min r 2)
unfolding range_g
range_alike zero = refl
range_alike (suc zero) = refl
range_alike (suc (suc n)) =
    let e : min (suc (suc n)) 2 ≡ 2 = omega arith in
    rw (e, ne_eqb (suc (suc n)) 0 (λ h. omega arith), ne_eqb (suc (suc n)) 1 (λ h. omega arith))

code_alike : (acceleration : ℤ) (offset m : ℕ) → code acceleration offset (range m) ≡ code acceleration offset (range (assigned m))
unfolding code
code_alike acceleration offset m = rw (range_assigned m, range_alike (range m))

shift_alike : (m : ℕ) → shift_of (bandwidth m) ≡ shift_of (bandwidth (assigned m))
shift_alike m = let e = bandwidth_assigned m in rw e (omega arith)

selected_alike : (f : Filter) (m : ℕ) → selected f (bandwidth m) ≡ selected f (bandwidth (assigned m))
selected_alike f m = rw (shift_alike m)

made_alike : (m : ℕ) → made (bandwidth m) ≡ made (bandwidth (assigned m))
made_alike m = rw (shift_alike m)

-- ---- the byte in its register

-- what two bytes have in common is read off registers with either
alike_at : {A : Type 0} (f : ℕ → A) (m n : ℕ) → f m ≡ f n → (registers : List ℕ) (a : ℕ) → f (get_or (set registers a m) a 0) ≡ f (get_or (set registers a n) a 0)
alike_at f m n e [] a = refl
alike_at f m n e (b ∷ registers) zero = e
alike_at f m n e (b ∷ registers) (suc a) = alike_at f m n e registers a

-- another register is the same with either
elsewhere : (registers : List ℕ) (m n b : ℕ) → (b ≡ measurement → ⊥) → get_or (measuring registers m) b 0 ≡ get_or (measuring registers n) b 0
elsewhere registers m n b h = get_or-set_other registers measurement b m 0 h ∙ sym (get_or-set_other registers measurement b n 0 h)

-- codes and filters that are alike
module _ (registers : List ℕ) (m : ℕ) where
  converted_alike : (acceleration : ℤ) (axis : ℕ) → converted (measuring registers m) acceleration axis ≡ converted (measuring registers (assigned m)) acceleration axis
  unfolding converted
  converted_alike acceleration axis =
      let r = measuring registers (assigned m) in
      let o = offset (at r (offset_lsb axis)) (at r (offset_msb axis)) in
      rw (elsewhere registers m (assigned m) control (λ e. omega arith), elsewhere registers m (assigned m) (offset_lsb axis) (λ e. omega arith), elsewhere registers m (assigned m) (offset_msb axis) (λ e. omega arith))
      (ap (λ (k : ℤ). if self_test_1 (at r control) then pos 0 else k) (alike_at (λ (b : ℕ). code acceleration o (range b)) m (assigned m) (code_alike acceleration o m) registers measurement))

  filter_alike : (f : Filter) → selected f (bandwidth (get_or (measuring registers m) measurement 0)) ≡ selected f (bandwidth (get_or (measuring registers (assigned m)) measurement 0))
  filter_alike f = alike_at (λ (b : ℕ). selected f (bandwidth b)) m (assigned m) (selected_alike f m) registers measurement

pub reads_as : ReadsAs
reads_as = record {
  converts = converted_alike;
  written = λ s m. rw (selected_alike s.sampling.filter m);
  copied = λ s registers m. rw (filter_alike registers m s.sampling.filter);
  wakes = λ s m now ready. ap {B = Sampling} (λ (f : Filter). record { filter = f; filtered = s.sampling.filtered; means = s.sampling.means; clock = s.sampling.clock; analog = (acquiring s.sampling 0 now).analog; asleep = false; auto_cycles = 0; test = s.sampling.test; data_ready = s.sampling.data_ready })
      (alike_at (λ (b : ℕ). made (bandwidth b)) m (assigned m) (made_alike m) s.registers measurement);
}

-- both codes, range code 3 alone, bandwidth code 7 alone, neither
pub such_bytes : (assigned 0x1f ≡ 0x16) × (assigned 0xfa ≡ 0xf2) × (assigned 0x07 ≡ 0x06) × (assigned 0xee ≡ 0xee)
such_bytes = (refl, refl, refl, refl)
