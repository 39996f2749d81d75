-- 01's example: the input and exactly its four lines.
use Rattle.std.specs.Prelude.{◌≡◌, refl, false, List, [], ◌∷◌, ◌++◌, ℕ}
use Rattle.laws.specs.Notation.{ascii}
use Rattle.registers.specs.Access.{withheld, unreadable, image_blocks, locked}
use Rattle.interrupts.specs.Pin as Pin
use Rattle.interrupts.specs.State.{configure}
use Rattle.deadlines.specs.Deadlines.{is_set}
use Rattle.calls.specs.Facts.{facts}
use Rattle.calls.specs.Table.{wrong_length, out_of_range, jumps, late, too_late, goes_back, before_due, beside_due, first_found, refusal, reserved, turned_down, start_refusal, unless_refused}
use Rattle.sensor.specs.Record.{away}
use Rattle.sensor.specs.Image.{stock, shadowing}
use Rattle.reads.specs.Reads.{is_acceleration}
use Rattle.sensor.specs.RegisterReads.{peek, mark, mark_of, shown}
use Rattle.sensor.specs.Mode.{interrupt, shows_new_data}
use Rattle.serial.specs.Outputs.{output, data_output, spi_drives, i2c_holds}
use Rattle.calls.specs.declared.types.Starting.TheVariants as Starting
use Rattle.bma150.specs.Values.{drive_letter, view_value, mark_letter}
use Rattle.bma150.specs.Called.{after_start, leaves, adds}
use Rattle.commands.specs.Decode.{number_at, signed, opcode, operands, named, decoded, size, is_bad}
use Rattle.bench.specs.Text.{word, bit, view_text, mark_text, due_text}
use Rattle.bench.specs.Line.{commanded, added_text, pins, line}
use Rattle.laws.specs.Iterate.{iterate}
use Rattle.machine.specs.Machine as M
use Rattle.machine.specs.Machine.{turn}
use Rattle.bench.specs.Run.{whole}

-- 03 00 00 4e 20 0b 00 0b 16 ff
abbrev pub input : List ℕ
input = 0x03 ∷ 0x00 ∷ 0x00 ∷ 0x4e ∷ 0x20 ∷ 0x0b ∷ 0x00 ∷ 0x0b ∷ 0x16 ∷ 0xff ∷ []

abbrev pub text : List ℕ
text = ascii "03 ok 0 F F\n" ++ ascii "0b ok 0 F F 02\n" ++ ascii "0b ok 0 F F --\n" ++ ascii "ff command 0 F F\n"

-- it begins with the stock image at time 0
pub example : (whole false (after_start Starting.Checked (record { 0 = 0; 1 = 0 }) stock) input).text ≡ text
unfolding facts wrong_length out_of_range jumps late too_late goes_back before_due beside_due first_found refusal reserved turned_down start_refusal unless_refused after_start leaves adds shadowing peek is_acceleration mark mark_of shown interrupt shows_new_data output data_output spi_drives i2c_holds drive_letter view_value mark_letter is_set away withheld unreadable image_blocks locked Pin.output Pin.threshold_output Pin.motion_output configure number_at signed opcode operands named decoded size is_bad word bit view_text mark_text due_text commanded added_text pins line turn iterate M.whole
example = refl
