-- What stands at the place of the next observation is the observation three earlier.
use Rattle.std.specs.Prelude.{◌≡◌, List, [], length, Some, ℤ}
use Rattle.std.proofs.Common.{arith, get_or-set_same, get_or-set_other}
use Rattle.std.proofs.lemmas.Bool.{le-leb}
use Rattle.interrupts.specs.declared.observations.Observations.{Observations}
use Rattle.interrupts.specs.declared.Interrupts.{Interrupts}
use Rattle.interrupts.specs.Observations.{place, earlier, compared_with, added}
use Rattle.interrupts.specs.State.{record_codes}

-- the codes of an observation stand there after the next two
pub stands_three_back : (o : Observations) (a b c : List ℤ) → length o.codes ≡ 3 → earlier (added (added (added o a) b) c) ≡ a
stands_three_back o a b c n =
    let o1 = added o a in
    let o2 = added o1 b in
    let e : place (added o2 c) ≡ place o = omega arith in
    rw (
      e,
      get_or-set_other o2.codes (place o2) (place o) c [] (λ q. omega arith),
      get_or-set_other o1.codes (place o1) (place o) b [] (λ q. omega arith),
    )
    (get_or-set_same o.codes (place o) a [] (omega arith))

-- and after three more observations it is the one that the next is compared with
pub compared_with_three_earlier : (o : Observations) (a b c : List ℤ) → length o.codes ≡ 3 → compared_with (added (added (added o a) b) c) ≡ Some a
unfolding compared_with
compared_with_three_earlier o a b c n = rw (le-leb 3 (added (added (added o a) b) c).count (omega arith), stands_three_back o a b c n)

-- 01: motion compares with three observations earlier
pub three_earlier : (s : Interrupts) (a b c : List ℤ) → length s.observations.codes ≡ 3
    → earlier (record_codes (record_codes (record_codes s a) b) c).observations ≡ a
three_earlier s a b c n = stands_three_back s.observations a b c n
