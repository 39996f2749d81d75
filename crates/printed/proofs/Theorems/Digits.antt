-- Equal digits are the digits of equal bytes.
use Rattle.std.specs.Prelude.{◌≡◌, refl, Bool, true, false, cond, ℕ, ◌+◌, ◌/◌, ◌%◌, ltb}
use Rattle.std.proofs.Common.{sym, ap, ◌∙◌, arith, ltb-true, ltb-false}
use mathlib.Core.List.{List, [], ◌∷◌, ◌++◌, nil≢cons, head-eq_of_cons-eq, tail-eq_of_cons-eq, append_cancel_left, append_cancel_right}
use Rattle.bma150.specs.declared.host.Bma150.{Bma150}
use Rattle.bma150.specs.Called.{next_due}
use Rattle.laws.specs.Notation.{ascii}
use Rattle.bench.specs.Text.{space, line_feed, digit, hexes, due_text}
use Rattle.bench.specs.Line.{pins}
use Rattle.printed.specs.Inputs.{image_line}

digit_injective : (x y : ℕ) → digit x ≡ digit y → x ≡ y
digit_injective x y e = go (ltb x 10) (ltb y 10) refl refl e
  where
    go : (a b : Bool) → ltb x 10 ≡ a → ltb y 10 ≡ b → cond a (48 + x) (87 + x) ≡ cond b (48 + y) (87 + y) → x ≡ y
    go true true p q r = omega arith
    go true false p q r = omega (arith, ltb-true x 10 p, ltb-false y 10 q)
    go false true p q r = omega (arith, ltb-false x 10 p, ltb-true y 10 q)
    go false false p q r = omega arith

pub hexes_injective : (l m : List ℕ) → hexes l ≡ hexes m → l ≡ m
hexes_injective [] [] e = refl
hexes_injective [] (c ∷ m) e = absurd (nil≢cons e)
hexes_injective (b ∷ l) [] e = absurd (nil≢cons (sym e))
hexes_injective (b ∷ l) (c ∷ m) e =
    let high : b / 16 ≡ c / 16 = digit_injective (b / 16) (c / 16) (head-eq_of_cons-eq e) in
    let low : b % 16 ≡ c % 16 = digit_injective (b % 16) (c % 16) (head-eq_of_cons-eq (tail-eq_of_cons-eq e)) in
    let first : b ≡ c = omega (arith, high, low) in
    ap (λ (x : ℕ). x ∷ l) first ∙ ap (λ (x : List ℕ). c ∷ x) (hexes_injective l m (tail-eq_of_cons-eq (tail-eq_of_cons-eq e)))

-- the digits of a line of 0a can be read off it
pub line_injective : (trace : Bool) (s : Bma150) (d e : List ℕ) → image_line trace s d ≡ image_line trace s e → d ≡ e
line_injective trace s d e p =
    let front : List ℕ = ascii "0a ok" ++ pins s in
    let due : List ℕ = due_text trace (next_due s) in
    let q : front ++ (space ∷ d) ++ due ≡ front ++ (space ∷ e) ++ due = append_cancel_right (front ++ (space ∷ d) ++ due) (front ++ (space ∷ e) ++ due) (line_feed ∷ []) p in
    let r : front ++ (space ∷ d) ≡ front ++ (space ∷ e) = append_cancel_right (front ++ (space ∷ d)) (front ++ (space ∷ e)) due q in
    tail-eq_of_cons-eq (append_cancel_left front (space ∷ d) (space ∷ e) r)
