-- The bytes that stand in a buffer from one place to another.
use Rattle.std.specs.Prelude.{◌≡◌, List, ◌++◌, ℕ, ◌+◌, ◌-◌, ◌≤◌, length, take, drop}
use Rattle.std.proofs.Common.{sym, ap, ◌∙◌, arith, length-take-le, length-drop, take-add, drop-drop, drop_at, append-nil}
use Rattle.std.proofs.Math.Seq.{take-append-add}
use Rattle.std.proofs.lemmas.List.{drop-append-le, drop-take}
use lib.Seq.{paste, take-paste}

abbrev pub kept : (buf : List ℕ) (at have : ℕ) → List ℕ
kept buf at have = take (have - at) (drop at buf)

pub room : (buf : List ℕ) (at n : ℕ) → at + n ≤ length buf → n ≤ length (drop at buf)
room buf at n h = simp length-drop (omega arith)

pub kept_length : (buf : List ℕ) (at have : ℕ) → at ≤ have → have ≤ length buf → length (kept buf at have) ≡ have - at
kept_length buf at have h g = length-take-le (have - at) (drop at buf) (room buf at (have - at) (omega arith))

pub within : (buf : List ℕ) (at have n : ℕ) → at ≤ have → have ≤ length buf → n ≤ length (kept buf at have) → at + n ≤ have
within buf at have n h g e = omega (arith, kept_length buf at have h g)

pub less : (i : ℕ) → i ≡ i - 0
less i = omega arith

-- the first n left out
pub shorter : (buf : List ℕ) (at have n : ℕ) → at ≤ have → have ≤ length buf → n ≤ length (kept buf at have) → kept buf (at + n) have ≡ drop n (kept buf at have)
shorter buf at have n h g f =
    let p : at + n ≤ have = omega (arith, kept_length buf at have h g) in
    let e : have - at ≡ n + (have - (at + n)) = omega arith in
    let k : length (take n (drop at buf)) ≡ n = length-take-le n (drop at buf) (room buf at n (omega arith)) in
    sym
    (ap (λ (i : ℕ). drop n (take i (drop at buf))) e
    ∙ ap (drop n) (take-add n (have - (at + n)) (drop at buf))
    ∙ drop_at (take n (drop at buf)) (take (have - (at + n)) (drop n (drop at buf))) n k
    ∙ ap (take (have - (at + n))) (drop-drop n at buf))

-- moved to the front
pub front : (buf : List ℕ) (at have : ℕ) → at ≤ have → have ≤ length buf → kept (paste buf 0 (drop at buf) (have - at)) 0 (have - at) ≡ kept buf at have
front buf at have h g =
    let z : have - at - 0 ≡ 0 + (have - at) = omega arith in
    rw z (take-paste buf 0 (drop at buf) (have - at) (omega arith) (room buf at (have - at) (omega arith)))

-- the bytes l stored behind them, as far as n of them
pub behind : (buf l : List ℕ) (at have n : ℕ) → at ≤ have → have ≤ length buf → kept (take have buf ++ l) at (have + n) ≡ kept buf at have ++ take n l
behind buf l at have n h g =
    let long : length (take have buf) ≡ have = length-take-le have buf g in
    let up : have ≡ at + (have - at) = omega arith in
    let e : have + n - at ≡ length (kept buf at have) + n = omega (arith, kept_length buf at have h g) in
    let split : drop at (take have buf ++ l) ≡ kept buf at have ++ l = drop-append-le at (take have buf) l (omega arith) ∙ ap (λ (k : List ℕ). k ++ l) (ap (λ (i : ℕ). drop at (take i buf)) up ∙ drop-take at (have - at) buf) in
    ap (λ (i : ℕ). take i (drop at (take have buf ++ l))) e ∙ ap (take (length (kept buf at have) + n)) split ∙ take-append-add (kept buf at have) l n

-- what is stored behind them does not change them
pub untouched : (buf l : List ℕ) (at have : ℕ) → at ≤ have → have ≤ length buf → kept (take have buf ++ l) at have ≡ kept buf at have
untouched buf l at have h g =
    let e : have ≡ have + 0 = omega arith in
    ap (kept (take have buf ++ l) at) e ∙ behind buf l at have 0 h g ∙ append-nil (kept buf at have)
