-- The marked rows of 01: each value computed from the definition that the contracts cite, beside the number that 01 prints.
use Rattle.time.specs.declared.Time.{Time}
use Rattle.std.specs.Prelude.{ℕ, ◌^◌, true, false, List, [], ◌∷◌, get_or, ℤ, pos, negsuc, Option, Some, None}
use Rattle.laws.specs.Notation.{Address}
use Rattle.laws.specs.Rows.{Row, answer}
use Rattle.time.specs.Time.{ticks, time}
use Rattle.time.specs.Clock.{edge}
use Rattle.filter.specs.Filter.{answered}
use Rattle.filter.specs.Operations.{push, select, after}
use Rattle.registers.specs.declared.access.Gate.{Gate}
use Rattle.registers.specs.Access.{ignores, begins}
use Rattle.registers.specs.Codes.{code}
use Rattle.interrupts.specs.State.{axis}
use Rattle.sensor.specs.declared.types.Sensor.{Sensor}
use Rattle.sensor.specs.Record.{is_off}
use Rattle.sensor.specs.Image.{from_nonvolatile, stock, new_kept}
use Rattle.samples.specs.Samples.{interaction_deadline}
use Rattle.waits.specs.Supply as Supply
use Rattle.calls.specs.declared.types.Timed.TheVariants as Timed
use Rattle.calls.specs.declared.types.Call.TheVariants as Call
use Rattle.calls.specs.Table.{refusal}

-- M1, M2: an edge of a clock that starts at 0, in units
abbrev edge_at : ℕ → ℤ
edge_at n = pos (ticks (edge (time 0) n))

-- M3, M11: a sensor that starts at 0 with the stock image, and next due in units
abbrev new : Sensor
new = from_nonvolatile (time 0) stock

abbrev due_at : Option Time → ℤ
due_at (Some t) = pos (ticks t)
due_at None = negsuc 0

-- M11: off after a supply call
abbrev off_at : (rail : ℕ) → ℤ
off_at rail = answer (is_off (Supply.set_supply new rail (time 0)).sensor)

-- M12: the refusal of accelerations with this x, nothing due
abbrev refused_axis : ℕ → ℤ
refused_axis x = pos (refusal (time 0) None new_kept.lines (Call.At (time 0) (Timed.Accelerations (record { x = pos x; y = pos 0; z = pos 0 }))))

-- M4: window 4 (bandwidth 4), codes −1, 0, 0 and then 0
abbrev fourth_answer : ℤ
fourth_answer = answered (after 4 (push 0 (pos 0) ∷ push 0 (pos 0) ∷ push 0 (negsuc 0) ∷ [])) 0 (pos 0)

-- M5: codes 5, 7, 9 at window 1 (bandwidth 6), then window 2 (bandwidth 5) and code 10
abbrev after_a_new_window : ℤ
after_a_new_window = answered (after 6 (select 5 ∷ push 0 (pos 9) ∷ push 0 (pos 7) ∷ push 0 (pos 5) ∷ [])) 0 (pos 10)

-- M8: whether a code on the first axis sets its high-g, with the registers of that sensor
abbrev sets_high : ℤ → ℤ
sets_high c = answer (get_or (axis new.interrupts 0 c new.registers).high_g.axes 0 false)

-- M9, M10: awake, nothing running, bit 4 of 0a set
abbrev awake : Gate
awake = record { control = 0x10; quiet = false; copying = false; asleep = false }

abbrev ignored : (address : Address) → ℤ
ignored address = answer (ignores address 0 awake)

abbrev starts : (address : Address) → ℤ
starts address = answer (begins address 0 awake false)

abbrev pub rows : List Row
rows =
    record { number = 1; computed = edge_at 1; printed = pos 1537228672809129 }
    ∷ record { number = 2; computed = edge_at 12000; printed = pos (2 ^ 64) }
    ∷ record { number = 3; computed = due_at (interaction_deadline new); printed = pos 49191317529892137 }
    ∷ record { number = 4; computed = fourth_answer; printed = negsuc 0 }
    ∷ record { number = 5; computed = after_a_new_window; printed = pos 9 }
    ∷ record { number = 6; computed = code (negsuc 3905) 512 0; printed = pos 0 }
    ∷ record { number = 7; computed = code (negsuc 3906) 512 0; printed = negsuc 0 }
    ∷ record { number = 8; computed = sets_high (pos 321); printed = answer false }
    ∷ record { number = 8; computed = sets_high (pos 322); printed = answer true }
    ∷ record { number = 9; computed = ignored 0x09; printed = answer true }
    ∷ record { number = 9; computed = ignored 0x0a; printed = answer false }
    ∷ record { number = 10; computed = starts 0x3d; printed = answer true }
    ∷ record { number = 10; computed = ignored 0x3e; printed = answer true }
    ∷ record { number = 11; computed = off_at 2399; printed = answer true }
    ∷ record { number = 11; computed = off_at 2400; printed = answer false }
    ∷ record { number = 12; computed = refused_axis 1000000000; printed = pos 0 }
    ∷ record { number = 12; computed = refused_axis 1000000001; printed = pos 2 }
    ∷ []
