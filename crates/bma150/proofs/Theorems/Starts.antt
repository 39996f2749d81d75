-- Starts by command 01's call and by command 0c's.
use Rattle.std.specs.Prelude.{ℕ, ◌^◌, ◌<◌, ◌≤◌, ◌≡◌, refl, false, List, eqb, length, take, Some}
use Rattle.std.proofs.Common.{arith, sym, ap, ◌∙◌, inl, inr, get_or-take, length-take-le}
use Rattle.std.proofs.Math.ListN.{get_or-append}
use Rattle.time.specs.declared.Time.{Time}
use Rattle.time.specs.Time.{time}
use Rattle.calls.specs.declared.types.Starting.{Starting}
use Rattle.calls.specs.Table.{wrong_length, late, reserved, turned_down, first_found, start_refusal}
use Rattle.calls.specs.Theorems.Exactly.{Reserved, TurnedDown}
use Rattle.calls.proofs.Theorems.Left.{accepted_is, start_clear}
use Rattle.registers.specs.Map.{at, measurement}
use Rattle.sensor.specs.Image.{from_nonvolatile, stock}
use Rattle.bma150.specs.Called.{measurement_of, start_number, after_start}
use Rattle.bma150.proofs.Theorems.Refused.{start_refused_exactly_if}

-- the byte that is asked is the one that register 14 has after the start
pub measurement_loaded : (now : Time) (image : List ℕ) → length image ≡ 19 → measurement_of image ≡ at (from_nonvolatile now image).registers measurement
measurement_loaded now image size =
    let whole : length (take 19 image) ≡ 19 = length-take-le 19 image (let e : 19 ≤ length image = omega (arith, size) in e) in
    sym (get_or-append (take 19 image) _ 0 9 (omega (arith, whole)) ∙ get_or-take 19 image 9 0 (omega arith))

-- 19 bytes, for 01's call without a reserved code, and a time below 2^32 s: accepted
pub start_accepted : (by : Starting) (now : Time) (image : List ℕ) → length image ≡ 19 → (TurnedDown by (measurement_of image) → ⊥) → now.0 < 2 ^ 32 → start_number by now image ≡ 0
start_accepted by now image size taken early = (start_refused_exactly_if by now image 0).whole (inr (λ f. f size, inr (taken, inr (λ late. omega arith, refl))))

-- 19 bytes with either code: 01's call refuses with 9, whatever the time
pub reserved_refused : (now : Time) (image : List ℕ) → length image ≡ 19 → Reserved (measurement_of image) → start_number Starting.Checked now image ≡ 9
reserved_refused now image size codes = (start_refused_exactly_if Starting.Checked now image 9).whole (inr (λ f. f size, inl (codes, refl)))

-- 19 bytes and a time below 2^32 s: 0c's call takes them
pub stored_accepted : (now : Time) (image : List ℕ) → length image ≡ 19 → now.0 < 2 ^ 32 → start_number Starting.Stored now image ≡ 0
stored_accepted now image size early = start_accepted Starting.Stored now image size (λ never. never) early

-- where 01's call accepts, 0c's hands out the same sensor
stored_clear : (now : Time) (n m : ℕ) → wrong_length (Some n) ≡ false → late now ≡ false → start_refusal Starting.Stored now n m ≡ 0
unfolding start_refusal first_found turned_down
stored_clear now n m size early = rw (size, early)

pub same_start : (now : Time) (image : List ℕ) → start_number Starting.Checked now image ≡ 0 → after_start Starting.Stored now image ≡ after_start Starting.Checked now image
unfolding after_start
same_start now image e =
    let clear = start_clear Starting.Checked now (length image) (measurement_of image) (ap (λ (n : ℕ). eqb n 0) e) in
    let stored : start_number Starting.Stored now image ≡ 0 = stored_clear now (length image) (measurement_of image) clear.0 clear.1.1.0 in
    accepted_is _ _ _ (ap (λ (n : ℕ). eqb n 0) stored) ∙ sym (accepted_is _ _ _ (ap (λ (n : ℕ). eqb n 0) e))

-- the stock image is accepted: a refused start hands out its sensor
pub stock_accepted : start_number Starting.Checked (time 0) stock ≡ 0
unfolding start_refusal first_found wrong_length reserved turned_down late
stock_accepted = refl
