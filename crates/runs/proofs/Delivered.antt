-- What is delivered, put together: the buses' writes are the book's.
use Rattle.std.specs.Prelude.{Some}
use Prim.Native.Nat.{ℕ, ◌%◌}
use mathlib.Core.Path.{◌≡◌, refl, sym, ap, subst, ◌∙◌}
use mathlib.Core.Bool.{Bool, true, false, cond}
use mathlib.Core.List.{List, [], ◌∷◌, ◌++◌}
use Rattle.laws.specs.Bytes.{sent_bit}
use Rattle.time.specs.declared.Time.{Time}
use Rattle.registers.specs.Access.{begins}
use Rattle.calls.specs.declared.types.Timed.{Timed}
use Rattle.calls.specs.declared.types.Call.{Call}
use Rattle.sensor.specs.declared.types.Sensor.{Sensor}
use Rattle.sensor.specs.Record.{gate, is_writing}
use Rattle.samples.specs.Samples.{sync_local_until}
use Rattle.bma150.specs.declared.host.Bma150.{Bma150}
use Rattle.bma150.specs.Called.{start_number}
use Rattle.effects.specs.Core as C
use Rattle.effects.specs.Theorems.Keeps.{sync_keeps}
use Rattle.book.specs.Lists.{Start, started, Fits, Fractions, accepts, step, after}
use Rattle.book.specs.Book.{Book, opened, booked}
use Rattle.book.proofs.Sound.{running_of}
use Rattle.book.proofs.Lists.{after_more, book_follows}
use Rattle.bus.specs.I2c.{sampled}
use Rattle.bus.specs.Theorems.Stored as I2c
use Rattle.bus.specs.Theorems.SpiStored as Spi
use Rattle.happens.specs.Theorems.Going.{all_fit}
use Rattle.happens.specs.Theorems.I2c.{every_write_happens_over_i2c}
use Rattle.happens.specs.Theorems.Spi.{every_write_happens_over_spi}
use Rattle.runs.specs.Transfers.{sensor_after, I2cSoFar, SpiSoFar, BeginsExactly}
use Rattle.runs.specs.Demand3.{Delivered}
use Rattle.runs.proofs.Functions.{lent_too, contracts, ask_nothing}
use Rattle.runs.proofs.Demand3.{closed, demand_3}

-- samples leave the running write
sampled_writes : (s : Sensor) (now : Time) → (sampled s now).writing ≡ s.writing
sampled_writes s now =
    let u = sync_local_until s now false in
    ap (λ (k : C.Core). k.writing) (sync_keeps u now true).same ∙ ap (λ (k : C.Core). k.writing) (sync_keeps s now false).same

module _ (b : Start) (cs : List Call) (ok : start_number b.by b.time b.image ≡ 0) (fits : Fractions cs) (now : Time) (t : Timed) (address value : ℕ) where
  abbrev s : Bma150
  s = sensor_after b cs

  abbrev met : Sensor
  met = sampled s.sensor now

  abbrev c : Call
  c = Call.At now t

  -- the book's running write after a list is the sensor's
  book_runs : (ds : List Call) → Fractions ds → (booked (opened b) ds).running ≡ running_of (sensor_after b ds).sensor.writing
  book_runs ds f = ap (λ (k : Book). k.running) (book_follows b ok ds f)

  ran_by : (x : Bool) → running_of (cond x (I2c.running address value now) met.writing) ≡ cond x (Some (record { address = address; wanted = value; began = now })) (booked (opened b) cs).running
  unfolding running_of
  ran_by true = refl
  ran_by false = ap running_of (sampled_writes s.sensor now) ∙ sym (book_runs cs fits)

  begins_exactly : Fits c → (step s c).sensor.writing ≡ cond (begins address value (gate met) (is_writing met)) (I2c.running address value now) met.writing → BeginsExactly b cs now t address value
  unfolding after
  begins_exactly f e =
      book_runs (cs ++ (c ∷ [])) (all_fit cs (c ∷ []) fits (f, tt))
      ∙ ap (λ (k : Bma150). running_of k.sensor.writing) (after_more (started b) cs (c ∷ []))
      ∙ ap running_of e
      ∙ ran_by (begins address value (gate met) (is_writing met))

over_i2c : {b : Start} {cs ds : List Call} {register value : ℕ} (w : I2cSoFar b cs ds register value)
    → BeginsExactly b (cs ++ ds) w.now (Timed.Pins w.before w.next) (register % 128) value
over_i2c {b} {cs} {ds} {register} {value} w =
    let c = Call.At w.now (Timed.Pins w.before w.next) in
    let e = after_more (started b) cs ds in
    begins_exactly b (cs ++ ds) w.start_accepted w.fractions w.now (Timed.Pins w.before w.next) (register % 128) value w.fraction
    (subst (λ (s : Bma150). (step s c).sensor.writing ≡ cond (begins (register % 128) value (gate (sampled s.sensor w.now)) (is_writing (sampled s.sensor w.now))) (I2c.running (register % 128) value w.now) (sampled s.sensor w.now).writing) (sym e)
    (I2c.last_rise_begins (sensor_after b cs) ds w.heard w.still_heard register value w.address_acknowledged w.register_acknowledged w.register_byte w.value_byte w.brings w.now w.before w.next w.last_bit
    (sym (ap (λ (s : Bma150). accepts s c) e) ∙ w.last_accepted)))

over_spi : {b : Start} {cs ds : List Call} {address value : ℕ} (w : SpiSoFar b cs ds address value)
    → BeginsExactly b (cs ++ ds) w.now (Timed.Rising (sent_bit value 7)) address value
over_spi {b} {cs} {ds} {address} {value} w =
    let c = Call.At w.now (Timed.Rising (sent_bit value 7)) in
    let e = after_more (started b) cs ds in
    let says : Bma150 → Sensor → Type 0 = λ s m. (step s c).sensor.writing ≡ cond (begins address value (gate m) (is_writing m)) (I2c.running address value w.now) m.writing in
    begins_exactly b (cs ++ ds) w.start_accepted w.fractions w.now (Timed.Rising (sent_bit value 7)) address value w.fraction
    (subst (λ (s : Bma150). says s (sampled s.sensor w.now)) (sym e)
    (subst (λ (m : Sensor). says (after (sensor_after b cs) ds) m)
    (Spi.met_is (sensor_after b cs) ds w.chosen w.still_chosen w.frame_begins address value w.address_byte w.value_byte w.brings w.now)
    (Spi.last_rise_begins (sensor_after b cs) ds w.chosen w.still_chosen w.frame_begins address value w.address_byte w.value_byte w.brings w.now
    (sym (ap (λ (s : Bma150). accepts s c) e) ∙ w.last_accepted))))

pub delivered : Delivered
delivered = record {
  demand_3 = demand_3;
  lent_too = lent_too;
  closed = closed;
  contracts = contracts;
  ask_nothing = ask_nothing;
  over_i2c = over_i2c;
  over_spi = over_spi;
  happens_i2c = every_write_happens_over_i2c;
  happens_spi = every_write_happens_over_spi;
}
