-- Which views have a mark, and which mark.
use Rattle.std.specs.Prelude.{ℕ, ◌<◌, ◌≤◌, ◌≡◌, Bool, cond, ◌&&◌, ◌⊎◌, leb, get_or, Option, Some, None}
use Rattle.std.proofs.Common.{arith, sym, ap, ◌∙◌, le-leb, leb-true, leb-false}
use Rattle.std.proofs.Math.Path.{refl}
use Rattle.std.proofs.Math.Bool.{true, false}
use Rattle.std.proofs.Math.Logic.{inl, inr}
use Rattle.reads.specs.Reads.{is_acceleration, axis_of}
use Rattle.calls.specs.declared.types.Call.TheVariants as Call
use Rattle.sensor.specs.declared.types.Mark.{Mark}
use Rattle.sensor.specs.declared.types.Sensor.{Sensor}
use Rattle.sensor.specs.RegisterReads.{peek, mark, mark_of}
use Rattle.bma150.specs.declared.host.Bma150.{Bma150}
use Rattle.bma150.specs.Values.{view_value, mark_letter}
use Rattle.bma150.specs.Called.{Added, adds}
use Rattle.bma150.proofs.Theorems.Refused.{Exactly}

-- the byte of a view's answer, and its mark
unfoldable pub byte_seen : Added → Option ℕ
byte_seen Added.nothing = None
byte_seen (Added.report values) = None
byte_seen (Added.viewed value mark) = value
byte_seen (Added.put bytes) = None

unfoldable pub mark_seen : Added → Option ℕ
mark_seen Added.nothing = None
mark_seen (Added.report values) = None
mark_seen (Added.viewed value mark) = mark
mark_seen (Added.put bytes) = None

-- ---- an address is an acceleration's exactly from 02 to 07

differ : ◌≡◌ {A = Bool} false true → ⊥
differ z = let y : ◌≡◌ {A = ℕ} 0 1 = cc in omega arith

within : (address : ℕ) → is_acceleration address ≡ true → (2 ≤ address) × (address ≤ 7)
unfolding is_acceleration
within address e = go (leb 2 address) refl (leb address 7) refl e
  where
    go : (a : Bool) → leb 2 address ≡ a → (b : Bool) → leb address 7 ≡ b → a && b ≡ true → (2 ≤ address) × (address ≤ 7)
    go true p true q r = (leb-true 2 address p, leb-true address 7 q)
    go true p false q r = absurd (differ r)
    go false p b q r = absurd (differ r)

outside : (address : ℕ) → is_acceleration address ≡ false → (address < 2) ⊎ (7 < address)
unfolding is_acceleration
outside address e = go (leb 2 address) refl (leb address 7) refl e
  where
    go : (a : Bool) → leb 2 address ≡ a → (b : Bool) → leb address 7 ≡ b → a && b ≡ false → (address < 2) ⊎ (7 < address)
    go true p true q r = absurd (differ (sym r))
    go true p false q r = inr (leb-false address 7 q)
    go false p b q r = inl (leb-false 2 address p)

some_none : (n : ℕ) → ◌≡◌ {A = Option ℕ} (Some n) None → ⊥
some_none n e = let y : ◌≡◌ {A = ℕ} 0 1 = ap (λ (o : Option ℕ). there o) (sym e) in omega arith
  where
    there : Option ℕ → ℕ
    there None = 0
    there (Some k) = 1

-- ---- the mark of a register

letter_of : (s : Sensor) (address : ℕ) → is_acceleration address ≡ true → mark_letter (mark s address) ≡ Some (cond (get_or s.sampling.means (axis_of address) false) 0x6d 0x73)
unfolding mark mark_letter
letter_of s address e = rw e (go (get_or s.sampling.means (axis_of address) false))
  where
    go : (b : Bool) → mark_letter (cond b (Some Mark.Mean) (Some Mark.Single)) ≡ Some (cond b 0x6d 0x73)
    go true = refl
    go false = refl

no_letter : (s : Sensor) (address : ℕ) → is_acceleration address ≡ false → mark_letter (mark s address) ≡ None
unfolding mark mark_letter
no_letter s address e = rw e

-- ---- a view

between : (address : ℕ) → 2 ≤ address → address ≤ 7 → is_acceleration address ≡ true
unfolding is_acceleration
between address low high = rw (le-leb 2 address low, le-leb address 7 high)

module _ (s : Bma150) (address : ℕ) where
  neither : (x : ℕ) → (2 ≤ address) × (address ≤ 7) → (◌≡◌ {A = Option ℕ} (Some x) None) ⊎ ((address < 2) ⊎ (7 < address)) → ⊥
  neither x w (inl p) = some_none x p
  neither x w (inr (inl p)) = omega (arith, w.0)
  neither x w (inr (inr p)) = omega (arith, w.1)

  -- no mark exactly if the byte is withheld or the address is outside 02 to 07
  pub marked_exactly : Exactly (mark_seen (adds s (Call.View address)) ≡ None) ((byte_seen (adds s (Call.View address)) ≡ None) ⊎ ((address < 2) ⊎ (7 < address)))
  unfolding adds byte_seen mark_seen mark_of view_value mark_letter
  marked_exactly = go (peek s.sensor address) (is_acceleration address) refl
    where
      go : (v : Option ℕ) (b : Bool) → is_acceleration address ≡ b
          → Exactly (mark_letter (mark_of v s.sensor address) ≡ None) ((view_value v ≡ None) ⊎ ((address < 2) ⊎ (7 < address)))
      go None b e = record { only = λ p. inl refl; whole = λ p. refl }
      go (Some x) true e =
          let w = within address e in
          record {
            only = λ p. absurd (some_none _ (sym (letter_of s.sensor address e) ∙ p));
            whole = λ p. absurd (neither x w p);
          }
      go (Some x) false e = record { only = λ p. inr (outside address e); whole = λ p. no_letter s.sensor address e }

  -- else it is m exactly if the value of the address's axis is a mean, and s if not
  pub mark_shown : 2 ≤ address → address ≤ 7 → (b : ℕ) → peek s.sensor address ≡ Some b
      → mark_seen (adds s (Call.View address)) ≡ Some (cond (get_or s.sensor.sampling.means (axis_of address) false) 0x6d 0x73)
  unfolding adds mark_seen mark_of
  mark_shown low high b e = rw e (letter_of s.sensor address (between address low high))
