-- A run of the loop: a read brings 0b 00, its line goes out, a read of nothing is the end. So the hypotheses of the theorems can be met.
use Rattle.std.specs.Prelude.{◌≡◌, refl, true, false, List, [], ◌∷◌, ℕ}
use Rattle.std.proofs.Common.{inr, arith}
use Rattle.laws.specs.Iterate.{iterate}
use Rattle.laws.specs.Notation.{ascii}
use Rattle.registers.specs.Access.{withheld, unreadable, image_blocks, locked}
use Rattle.interrupts.specs.Pin as Pin
use Rattle.interrupts.specs.State.{configure}
use Rattle.deadlines.specs.Deadlines.{is_set}
use Rattle.calls.specs.Facts.{facts}
use Rattle.calls.specs.Table.{wrong_length, out_of_range, jumps, late, too_late, goes_back, before_due, beside_due, first_found, refusal, reserved, turned_down, start_refusal, unless_refused}
use Rattle.sensor.specs.Image.{shadowing}
use Rattle.reads.specs.Reads.{is_acceleration}
use Rattle.sensor.specs.Record.{away}
use Rattle.sensor.specs.RegisterReads.{peek, mark, mark_of, shown}
use Rattle.sensor.specs.Mode.{interrupt, shows_new_data}
use Rattle.serial.specs.Outputs.{output, data_output, spi_drives, i2c_holds}
use Rattle.bma150.specs.Values.{drive_letter, view_value, mark_letter}
use Rattle.bma150.specs.Called.{after_start, leaves, adds}
use Rattle.machine.specs.Machine.{turn}
use Rattle.machine.specs.Block as M
use Rattle.commands.specs.Decode.{number_at, opcode, operands, named, decoded, wants, size, is_bad}
use Rattle.bench.specs.Text.{word, bit, view_text, mark_text, due_text}
use Rattle.bench.specs.Line.{commanded, added_text, pins, line}
use Rattle.bench.specs.declared.Ran.{Ran}
use Rattle.bench.specs.Block.{is_whole, block, answer}
use Rattle.bench_stream.specs.declared.Turn.{Turn}
use Rattle.bench_stream.specs.Loop.{beginning, goes_on, arrived, served_by, Did, Turns}

abbrev sent : List ℕ
sent = 0x0b ∷ 0x00 ∷ []

-- the block
abbrev ran : Ran
ran = answer 2 (block false false beginning sent)

-- after the read
abbrev came : Turn
came = arrived 0 2 beginning

-- after its line
abbrev served : Turn
served = served_by came ran true 2 15

-- after the read of nothing
abbrev over : Turn
over = arrived 0 0 ran.sensor

pub example : Turns false 3 sent (ascii "0b ok 0 F F 02\n") over []
unfolding facts wrong_length out_of_range jumps late too_late goes_back before_due beside_due first_found refusal reserved turned_down start_refusal unless_refused after_start leaves adds shadowing peek is_acceleration mark mark_of shown interrupt shows_new_data output data_output spi_drives i2c_holds drive_letter view_value mark_letter is_set away withheld unreadable image_blocks locked Pin.output Pin.threshold_output Pin.motion_output configure number_at opcode operands named decoded wants size is_bad word bit view_text mark_text due_text commanded added_text pins line turn iterate M.needed_bytes M.bounded_turn M.block is_whole goes_on
example =
    Turns.more
    (Turns.more
    (Turns.more Turns.none refl (Did.read sent refl refl))
    refl
    (Did.served ran true (inr refl) (omega arith) refl refl))
    refl
    (Did.read [] refl refl)

-- nothing is left to do
pub example_ends : goes_on over [] ≡ false
unfolding goes_on
example_ends = refl
