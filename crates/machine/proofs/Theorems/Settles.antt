-- A step that takes a byte or changes nothing, as often as there are bytes, settles.
use Rattle.std.specs.Prelude.{◌≡◌, Bool, true, false, ◌⊎◌, leb}
use Rattle.std.proofs.Math.Path.{refl, ap}
use Rattle.std.proofs.Common.{sym, ◌∙◌, leb-true, leb-false}
use Rattle.std.proofs.Math.Logic.{inl, inr, ⊎_elim}
use Prim.Native.Nat.{ℕ, zero, suc, ◌+◌, ◌-◌, ◌≤◌}
use native.Mathlib.Omega.{arith}
use Rattle.std.proofs.Math.ListN.{length}
use Rattle.laws.specs.Iterate.{iterate, iterate_split}
use Rattle.machine.specs.Machine.{Running}

by_order : {P : Type 0} (m n : ℕ) (t : Bool) → leb m n ≡ t → (m ≤ n → P) → (n ≤ m → P) → P
by_order m n true e p q = p (leb-true m n e)
by_order m n false e p q = let h : n ≤ m = omega (arith, leb-false m n e) in q h

module _ {S : Type 0} (f : Running S → Running S) (falls : (b : Running S) → (f b ≡ b) ⊎ (length (f b).left + 1 ≤ length b.left)) where
  stays : (n : ℕ) (b : Running S) → f b ≡ b → iterate n f b ≡ b
  unfolding iterate
  stays zero b e = refl
  stays (suc n) b e = ap f (stays n b e) ∙ e

  later : (m n : ℕ) (b : Running S) → n ≤ m → f (iterate n f b) ≡ iterate n f b → iterate m f b ≡ iterate n f b
  later m n b h e =
      let k : m ≡ n + (m - n) = omega arith in
      ap (λ (k : ℕ). iterate k f b) k ∙ iterate_split n (m - n) f b ∙ stays (m - n) (iterate n f b) e

  shrinks : (n : ℕ) (b : Running S) → (f (iterate n f b) ≡ iterate n f b) ⊎ (length (iterate n f b).left + n ≤ length b.left)
  unfolding iterate
  shrinks zero b = inr (omega arith)
  shrinks (suc n) b =
      ⊎_elim
      (λ (e : f (iterate n f b) ≡ iterate n f b). inl (ap f e))
      (λ (h : length (iterate n f b).left + n ≤ length b.left).
      ⊎_elim
      (λ (e : f (iterate n f b) ≡ iterate n f b). inl (ap f e))
      (λ (g : length (f (iterate n f b)).left + 1 ≤ length (iterate n f b).left). inr (omega arith))
      (falls (iterate n f b)))
      (shrinks n b)

  -- bytes are never given back
  pub never_more : (n : ℕ) (b : Running S) → length (iterate n f b).left ≤ length b.left
  unfolding iterate
  never_more zero b = omega arith
  never_more (suc n) b =
      ⊎_elim
      (λ (e : f (iterate n f b) ≡ iterate n f b). rw e (never_more n b))
      (λ (g : length (f (iterate n f b)).left + 1 ≤ length (iterate n f b).left). omega (arith, never_more n b))
      (falls (iterate n f b))

  enough : (b : Running S) → f (iterate (length b.left) f b) ≡ iterate (length b.left) f b
  enough b =
      ⊎_elim (λ (e : f (iterate (length b.left) f b) ≡ iterate (length b.left) f b). e)
      (λ (h : length (iterate (length b.left) f b).left + length b.left ≤ length b.left).
      ⊎_elim (λ (e : f (iterate (length b.left) f b) ≡ iterate (length b.left) f b). e)
      (λ (g : length (f (iterate (length b.left) f b)).left + 1 ≤ length (iterate (length b.left) f b).left). let z : ⊥ = omega arith in absurd z)
      (falls (iterate (length b.left) f b)))
      (shrinks (length b.left) b)

  pub settle : (b c : Running S) (n : ℕ) → iterate n f b ≡ c → f c ≡ c → iterate (length b.left) f b ≡ c
  settle b c n e r =
      by_order n (length b.left) (leb n (length b.left)) refl
      (λ (h : n ≤ length b.left). later (length b.left) n b h (rw e r) ∙ e)
      (λ (h : length b.left ≤ n). sym (later n (length b.left) b h (enough b)) ∙ e)
