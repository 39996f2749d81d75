-- A list that is accepted whole, computed: an axis that is pushed moves to that moment, one that is not stays behind, a loss of supply moves all three.
use mathlib.Core.Path.{◌≡◌, refl}
use mathlib.Core.List.{List, [], ◌∷◌}
use lib.IntN.{pos}
use Rattle.time.specs.declared.Time.{Time}
use Rattle.time.specs.Time.{time, plus, from_millis}
use Rattle.time.specs.Clock.{edge}
use Rattle.analog.specs.Axis as A
use Rattle.laws.specs.Iterate as LI
use Rattle.spi.specs.Frame as SF
use Rattle.deadlines.specs.Deadlines as DD
use Rattle.calls.specs.declared.types.Timed.TheVariants as Timed
use Rattle.calls.specs.declared.types.Call.{Call}
use Rattle.calls.specs.declared.types.Starting.TheVariants as Starting
use Rattle.calls.specs.Facts as TF
use Rattle.calls.specs.Table as T
use Rattle.control.specs.Lengths.{acquisition_delay}
use Rattle.sampling.specs.Phase as SP
use Rattle.sampling.specs.Stage as ST
use Rattle.sensor.specs.Image.{stock}
use Rattle.sensor.specs.Record as BR
use Rattle.sensor.specs.Select as BL
use Rattle.sensor.specs.Mode as BC
use Rattle.samples.specs.Samples as BS
use Rattle.serial.specs.SpiEdges as BE
use Rattle.waits.specs.Supply as BU
use Rattle.waits.specs.Due as BD
use Rattle.bma150.specs.declared.host.Bma150.{Bma150}
use Rattle.bma150.specs.Called as C
use Rattle.analog.proofs.Theorems.Settles.{advanced_at}
use Rattle.book.specs.Lists.{Start, started, after, accepted}

-- the stock sensor at time 0
abbrev stock_start : Start
stock_start = record { by = Starting.Checked; time = time 0; image = stock }

-- x is pushed to half a g; y and z stay at 0 and 1 g, as from the start
abbrev push : Call
push = Call.At (time 1000) (Timed.Accelerations (record { x = pos 500000; y = pos 0; z = pos 1000000 }))

-- the supply is cut to 0 mV
abbrev cut : Call
cut = Call.At (time 2000) (Timed.Supply 0)

abbrev pushed : Bma150
pushed = after (started stock_start) (push ∷ [])

abbrev lost : Bma150
lost = after (started stock_start) (push ∷ cut ∷ [])

-- both are accepted; x moved to the moment of the push, y stayed where it started, and the cut moved all to the last accepted time itself
pub record Pushed : Type 0 where
  pub both_accepted : accepted (started stock_start) (push ∷ cut ∷ []) ≡ push ∷ cut ∷ []
  pub x_moved : pushed.sensor.sampling.analog.x.at ≡ time 1000
  pub y_behind : pushed.sensor.sampling.analog.y.at ≡ time 0
  pub last_is : lost.last ≡ time 2000
  pub y_moved : lost.sensor.sampling.analog.y.at ≡ lost.last

pub push_and_cut : Pushed
unfolding after accepted C.after_start C.effect C.leaves T.unless_refused T.reserved T.turned_down T.start_refusal T.refusal T.first_found T.wrong_length T.beyond T.any_beyond T.out_of_range T.jumps T.late T.too_late T.goes_back T.due_by T.before_due T.due_at T.beside_due TF.timed_facts TF.facts DD.is_set BR.away DD.is_at DD.is_by DD.sooner DD.first DD.earliest BS.samples_run BS.next_sample BS.write_end BS.sample_due BS.next_deadline BS.samples_on_demand BS.sync_local_until BU.turned BU.cut BU.supply_low BU.set_supply ST.turned ST.hold A.all_turned A.turned A.hold BL.selected_to BL.may_select SF.differs
push_and_cut =
    record {
      both_accepted = refl;
      x_moved = advanced_at _ (time 1000) _;
      y_behind = refl;
      last_is = refl;
      y_moved = advanced_at _ (time 2000) _;
    }

-- ---- samples: 11 edges lie in the millisecond after the wake, and z is at its last one, edge 8

abbrev wake : Time
wake = plus (time 0) (acquisition_delay (from_millis 3))

abbrev late : Time
late = plus wake (from_millis 1)

abbrev sampled : List Call
sampled = Call.At wake Timed.Due ∷ Call.At late Timed.Falling ∷ []

pub record Sampled : Type 0 where
  pub both_accepted : accepted (started stock_start) sampled ≡ sampled
  pub z_at_edge : (after (started stock_start) sampled).sensor.sampling.analog.z.at ≡ edge wake 8

pub sampled_at_edges : Sampled
unfolding after accepted C.after_start C.effect C.leaves T.unless_refused T.reserved T.turned_down T.start_refusal T.refusal T.first_found T.wrong_length T.beyond T.any_beyond T.out_of_range T.jumps T.late T.too_late T.goes_back T.due_by T.before_due T.due_at T.beside_due TF.timed_facts TF.facts DD.is_set BR.away DD.is_at DD.is_by DD.sooner DD.first DD.earliest BS.samples_run BS.next_sample BS.write_end BS.sample_due BS.next_deadline BS.samples_on_demand BS.sync_local_until BS.caught_up BS.limit DD.unless_at BD.pause_ended BD.write_ended BD.image_ended BD.wake_ended BD.sample_ended BC.automatic_control BE.fall_synced BE.falling_effect BE.spi_listens BE.moved SF.shifts SF.moves SF.fetches SF.moved LI.iterate A.axis_of A.with_axis SP.scanned SP.observing SP.observed SP.test_counted SP.axis_phase SP.sample_phase SP.ticks_now SP.ticked SP.sample
sampled_at_edges = record { both_accepted = refl; z_at_edge = advanced_at _ (edge wake 8) _ }
