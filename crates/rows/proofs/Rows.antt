-- The marked rows of 01 hold: one computed check over the definitions that the contracts cite.
use Rattle.std.specs.Prelude.{◌≡◌, refl, true}
use Rattle.laws.specs.Rows.{all}
use Rattle.filter.specs.Mean.{tabulate, ring, sumZ, mean}
use Rattle.filter.specs.Filter.{pushed, answered}
use Rattle.filter.specs.Operations.{after}
use Rattle.registers.specs.Access.{unwritable, working, stored, image_blocks, sleep_blocks, locked, ignores, begins}
use Rattle.registers.specs.Codes.{clamped, range_g, code}
use Rattle.interrupts.specs.Criteria.{sets, clears, raised, observe}
use Rattle.interrupts.specs.State.{axis, configure}
use Rattle.deadlines.specs.Deadlines.{is_set, is_by, sooner, first, earliest}
use Rattle.sensor.specs.Record.{away}
use Rattle.sensor.specs.Image.{shadowing}
use Rattle.samples.specs.Samples.{samples_run, next_sample, write_end, sample_due, next_deadline}
use Rattle.sensor.specs.Select.{may_select, selected_to}
use Rattle.waits.specs.Supply as Supply
use Rattle.calls.specs.Facts.{timed_facts, facts}
use Rattle.calls.specs.Table.{wrong_length, beyond, any_beyond, out_of_range, jumps, late, too_late, goes_back, due_by, before_due, beside_due, first_found, refusal}
use Rattle.rows.specs.Rows.{rows}

pub rows_hold : all rows ≡ true
unfolding after pushed answered ring tabulate sumZ mean axis observe raised sets clears code clamped range_g ignores unwritable image_blocks sleep_blocks locked working begins stored configure is_set away is_by sooner first earliest samples_run next_sample write_end sample_due next_deadline may_select selected_to Supply.cut Supply.supply_low Supply.supply_ok Supply.set_supply shadowing timed_facts facts wrong_length beyond any_beyond out_of_range jumps late too_late goes_back due_by before_due beside_due first_found refusal
rows_hold = refl
