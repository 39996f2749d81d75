-- The values fix the answers.
use Rattle.std.specs.Prelude.{ℕ, ◌≡◌, refl, List, get_or, Option, Some, None}
use Rattle.std.proofs.Common.{ap, arith}
use Rattle.spi.specs.declared.types.Drive.{Drive}
use Rattle.waits.specs.declared.types.Report.{Report}
use Rattle.bma150.specs.Values.{drive_letter, report_values, view_value}

pub drive_letter_injective : (a b : Drive) → drive_letter a ≡ drive_letter b → a ≡ b
unfolding drive_letter
drive_letter_injective Drive.Floating Drive.Floating p = refl
drive_letter_injective Drive.Floating Drive.Low p = absurd (omega arith)
drive_letter_injective Drive.Floating Drive.High p = absurd (omega arith)
drive_letter_injective Drive.Low Drive.Floating p = absurd (omega arith)
drive_letter_injective Drive.Low Drive.Low p = refl
drive_letter_injective Drive.Low Drive.High p = absurd (omega arith)
drive_letter_injective Drive.High Drive.Floating p = absurd (omega arith)
drive_letter_injective Drive.High Drive.Low p = absurd (omega arith)
drive_letter_injective Drive.High Drive.High p = refl

pub report_values_injective : (a b : Option Report) → report_values a ≡ report_values b → a ≡ b
unfolding report_values
report_values_injective None None p = refl
report_values_injective None (Some (Report.Completed d w)) p = cc
report_values_injective None (Some (Report.Cut d w)) p = cc
report_values_injective (Some (Report.Completed c v)) None p = cc
report_values_injective (Some (Report.Completed c v)) (Some (Report.Completed d w)) p = cc
report_values_injective (Some (Report.Completed c v)) (Some (Report.Cut d w)) p = let z : ◌≡◌ {A = ℕ} 0x43 0x58 = ap (λ (l : List ℕ). get_or l 0 0) p in absurd (omega arith)
report_values_injective (Some (Report.Cut c v)) None p = cc
report_values_injective (Some (Report.Cut c v)) (Some (Report.Completed d w)) p = let z : ◌≡◌ {A = ℕ} 0x58 0x43 = ap (λ (l : List ℕ). get_or l 0 0) p in absurd (omega arith)
report_values_injective (Some (Report.Cut c v)) (Some (Report.Cut d w)) p = cc

pub view_value_injective : (a b : Option ℕ) → view_value a ≡ view_value b → a ≡ b
unfolding view_value
view_value_injective (Some b) (Some c) p = cc
view_value_injective (Some b) None p = cc
view_value_injective None (Some c) p = cc
view_value_injective None None p = refl
