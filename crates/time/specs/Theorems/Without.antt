-- A length without another, both ways: what is left makes it up again, and without a longer one nothing is left.
use Rattle.std.specs.Prelude.{◌≡◌, refl, ◌+◌, ◌^◌, ◌<◌, ◌≤◌}
use Rattle.std.proofs.Common.{arith, ◌∙◌}
use Rattle.time.specs.declared.Duration.{Duration}
use Rattle.time.specs.Time.{lasts, without}
use Rattle.time.specs.Theorems.Laws.{lasts_since}

module _ (d other : Duration) (fits : lasts d < 2 ^ 128) where
  pub rest_and_other : lasts other ≤ lasts d → lasts (without d other) + lasts other ≡ lasts d
  rest_and_other p = rw (lasts_since (lasts d) (lasts other) fits) (omega (arith, p))

  pub nothing_left : lasts d ≤ lasts other → lasts (without d other) ≡ 0
  nothing_left p = lasts_since (lasts d) (lasts other) fits ∙ omega (arith, p)

-- three units without one, and one without three
some_left : lasts (without (record { 0 = 0; 1 = 3 }) (record { 0 = 0; 1 = 1 })) ≡ 2
some_left = refl

none_left : lasts (without (record { 0 = 0; 1 = 1 }) (record { 0 = 0; 1 = 3 })) ≡ 0
none_left = refl
