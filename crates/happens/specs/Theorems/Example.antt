-- What is asked for can be met: the stock image at time 0, cell 2c hex, ff, cut after 10 ms.
use Rattle.std.specs.Prelude.{◌/◌, ◌^◌, refl}
use Rattle.std.proofs.Common.{arith}
use Rattle.time.specs.Time.{time}
use Rattle.calls.specs.declared.types.Starting.TheVariants as Starting
use Rattle.sensor.specs.Image.{stock}
use Rattle.book.specs.Lists.{Start}
use Rattle.calls.specs.Table as T
use Rattle.happens.specs.Happens.{Wanted}

abbrev stock_start : Start
stock_start = record { by = Starting.Checked; time = time 0; image = stock }

pub example : Wanted stock_start 0x2c 0xff (time (2 ^ 64 / 100))
unfolding T.wrong_length T.late T.too_late T.first_found T.reserved T.turned_down T.start_refusal
example =
    record {
      start_fraction = omega arith;
      start_accepted = refl;
      first_cell = omega arith;
      last_cell = omega arith;
      is_byte = omega arith;
      below_limit = omega arith;
      since = omega arith;
      before_end = omega arith;
    }
