-- A pin call changes the running write alone of the five parts, and as the book says.
use Rattle.std.specs.Prelude.{Option, Some, None}
use Rattle.sensor.specs.Operation.{Operation, stored_write}
use Prim.Native.Nat.{ℕ}
use mathlib.Core.Path.{◌≡◌, refl, sym, ap, subst, ◌∙◌}
use mathlib.Core.Bool.{Bool, true, false, cond, not, ◌&&◌}
use lib.Dec.{ltb}
use Rattle.std.proofs.lemmas.Bool.{cond_both}
use native.Mathlib.Omega.{arith}
use Rattle.time.specs.declared.Time.{Time}
use Rattle.laws.specs.Bytes.{shifted_in}
use Rattle.i2c.specs.declared.types.State.{State}
use Rattle.i2c.specs.declared.types.Edge.{Edge}
use Rattle.i2c.specs.declared.types.Action.{Action}
use Rattle.i2c.specs.Engine as E
use Rattle.spi.specs.declared.types.Serial.{Serial}
use Rattle.spi.specs.declared.types.Frame.{Frame}
use Rattle.spi.specs.declared.types.Clocked.{Clocked}
use Rattle.spi.specs.declared.types.Taken.{Taken}
use Rattle.spi.specs.Frame as F
use Rattle.control.specs.declared.types.WriteKind.{WriteKind}
use Rattle.control.specs.Theorems.Begins.{is_stored, stored_begins}
use Rattle.sensor.specs.declared.types.Sensor.{Sensor}
use Rattle.sensor.specs.Record.{with_writing, with_frame, with_i2c, is_quiet, gate, is_writing, four_wire}
use Rattle.writes.specs.Write.{write_effect, write_kind, write_register}
use Rattle.sensor.specs.RegisterReads.{peek, counts_as_read, byte_read, read_began}
use Rattle.serial.specs.SpiEdges.{first_bit_taken, write_done, bit_done, bit_taken, turned, shift_output, spi_listens, rising_effect}
use Rattle.serial.specs.I2cPins.{acted, stepped, ones_for, i2c_listens, i2c_pins}
use Rattle.book.specs.Does.{spi_write, action_write, i2c_write}
use Rattle.book.specs.Book.{operation, accepted_write, of_write}
use Rattle.book.proofs.Keeps.{Keeps, then, itself, then_automatic_keeps, framed_keeps, shift_keeps, byte_read_keeps, fetched_keeps}

-- the running write after this register write
abbrev pub begun_writing : Option (ℕ × ℕ) → Sensor → Time → Operation
begun_writing w s now = cond (accepted_write w s (is_writing s)) (operation (of_write w now)) s.writing

-- ---- a register write

write_effect_keeps : (w : WriteKind) (s : Sensor) (address value : ℕ) (now : Time)
    → Keeps (with_writing s (cond (is_stored w) (Some (stored_write now address value)) s.writing)) (write_effect w s address value now)
unfolding write_effect is_stored
write_effect_keeps WriteKind.Ignored s address value now = record { same = refl }
write_effect_keeps WriteKind.Stored s address value now = record { same = refl }
write_effect_keeps (WriteKind.Taken e) s address value now = then_automatic_keeps e s address value now

register_keeps : (s : Sensor) (address value : ℕ) (now : Time)
    → Keeps (with_writing s (begun_writing (Some (address, value)) s now)) (write_register s address value now)
unfolding accepted_write of_write operation
register_keeps s address value now =
    subst (λ (b : Bool). Keeps (with_writing s (cond b (Some (stored_write now address value)) s.writing)) (write_register s address value now))
    (stored_begins address value (gate s) (is_writing s))
    (write_effect_keeps (write_kind s address value) s address value now)

-- ---- SPI

take_selected : (f : Frame) (mosi four : Bool) → (F.take_bit f mosi four).frame.selected ≡ f.selected
unfolding F.take_bit F.completed F.addressed
take_selected f mosi four = go (ltb f.rx_bits 7) f.serial
  where
    go : (b : Bool) (x : Serial) → (cond b (record { frame = F.bit_taken f mosi; write = None }) (F.completed x f (shifted_in f.rx mosi) four)).frame.selected ≡ f.selected
    go true x = refl
    go false Serial.Address =
        let byte = shifted_in f.rx mosi in
        cond_both (ltb byte 128) _ _ (λ (x : Frame). x.selected ≡ f.selected) (λ e. refl) (λ e. refl)
    go false (Serial.Read a) = refl
    go false (Serial.Write a) = refl

read_writes_nothing : (f : Frame) (mosi four : Bool) (a : ℕ) → f.serial ≡ Serial.Read a → (F.take_bit f mosi four).write ≡ None
unfolding F.take_bit F.completed
read_writes_nothing f mosi four a e = cond_both (ltb f.rx_bits 7) _ _ (λ (x : Taken). x.write ≡ None) (λ p. refl) (λ p. rw e refl)

-- only a read begins
acknowledges_read : (x : Serial) (n a : ℕ) → F.first_bit x n ≡ Some a → (b : ℕ) × (x ≡ Serial.Read b)
unfolding F.first_bit
acknowledges_read Serial.Address n a e = absurd (let z : ◌≡◌ {A = ℕ} 0 1 = cc in omega arith)
acknowledges_read (Serial.Read b) n a e = (b, refl)
acknowledges_read (Serial.Write b) n a e = absurd (let z : ◌≡◌ {A = ℕ} 0 1 = cc in omega arith)

done_keeps : (w : Option (ℕ × ℕ)) (s : Sensor) (f : Frame) (now : Time) → f.selected ≡ s.frame.selected
    → Keeps (with_writing s (begun_writing w s now)) (write_done w (with_frame s f) now)
unfolding write_done accepted_write of_write operation
done_keeps None s f now e = framed_keeps s f e
done_keeps (Some (a, v)) s f now e = then (framed_keeps (with_writing s (begun_writing (Some (a, v)) s now)) f e) (register_keeps (with_frame s f) a v now)

-- a bit, its write and the output
bit_keeps : (t : Sensor) (mosi : Bool) (now : Time)
    → Keeps (with_writing t (begun_writing (F.take_bit t.frame mosi (four_wire t)).write t now))
    (shift_output (bit_done (F.take_bit t.frame mosi (four_wire t)) t now) Clocked.Rise)
bit_keeps t mosi now =
    then (done_keeps (F.take_bit t.frame mosi (four_wire t)).write t (F.take_bit t.frame mosi (four_wire t)).frame now (take_selected t.frame mosi (four_wire t)))
    (shift_keeps _ Clocked.Rise)

-- a read that begins leaves the frame
read_frame : (x : Option ℕ) (s : Sensor) (a : ℕ) → (byte_read x s a).frame ≡ s.frame
unfolding byte_read
read_frame None s a = refl
read_frame (Some b) s a = cond_both (counts_as_read s a) _ _ (λ (x : Sensor). x.frame ≡ s.frame) (λ e. refl) (λ e. refl)

-- no write begins where nothing is written
nothing_begun : (w : Option (ℕ × ℕ)) (s : Sensor) (now : Time) → w ≡ None → begun_writing w s now ≡ s.writing
unfolding accepted_write
nothing_begun None s now e = refl
nothing_begun (Some (a, v)) s now e = absurd (let z : ◌≡◌ {A = ℕ} 0 1 = cc in omega arith)

taken_bit_keeps : (s : Sensor) (mosi : Bool) (now : Time)
    → Keeps (with_writing s (begun_writing (F.take_bit s.frame mosi (four_wire s)).write s now)) (bit_taken s mosi now)
unfolding first_bit_taken
taken_bit_keeps s mosi now = go (F.first_bit s.frame.serial s.frame.rx_bits) refl
  where
    go : (k : Option ℕ) → F.first_bit s.frame.serial s.frame.rx_bits ≡ k
        → Keeps (with_writing s (begun_writing (F.take_bit s.frame mosi (four_wire s)).write s now))
        (shift_output (bit_done (F.take_bit (first_bit_taken k s).frame mosi (four_wire (first_bit_taken k s))) (first_bit_taken k s) now) Clocked.Rise)
    go None e = bit_keeps s mosi now
    go (Some a) e =
        let t = read_began s a in
        let r = acknowledges_read s.frame.serial s.frame.rx_bits a e in
        let f : t.frame ≡ s.frame = read_frame s.frame.tx s a in
        let p : begun_writing (F.take_bit s.frame mosi (four_wire s)).write s now ≡ s.writing = nothing_begun _ s now (read_writes_nothing s.frame mosi (four_wire s) r.0 r.1) in
        let q : begun_writing (F.take_bit t.frame mosi (four_wire t)).write t now ≡ t.writing = nothing_begun _ t now (read_writes_nothing t.frame mosi (four_wire t) r.0 (ap (λ (x : Frame). x.serial) f ∙ r.1)) in
        let k : Keeps (with_writing t (begun_writing (F.take_bit t.frame mosi (four_wire t)).write t now)) (shift_output (bit_done (F.take_bit t.frame mosi (four_wire t)) t now) Clocked.Rise) = bit_keeps t mosi now in
        let m : Keeps t (shift_output (bit_done (F.take_bit t.frame mosi (four_wire t)) t now) Clocked.Rise) = subst (λ (x : Operation). Keeps (with_writing t x) (shift_output (bit_done (F.take_bit t.frame mosi (four_wire t)) t now) Clocked.Rise)) q k in
        subst (λ (x : Operation). Keeps (with_writing s x) (shift_output (bit_done (F.take_bit t.frame mosi (four_wire t)) t now) Clocked.Rise)) (sym p) (then (byte_read_keeps s.frame.tx s a) m)

-- a rise
pub rising_keeps : (s : Sensor) (mosi : Bool) (now : Time) → Keeps (with_writing s (begun_writing (spi_write s mosi) s now)) (rising_effect s mosi now)
unfolding rising_effect spi_write accepted_write
rising_keeps s mosi now = go (spi_listens s) s.frame.turnaround
  where
    go : (a b : Bool)
        → Keeps (with_writing s (begun_writing (cond (a && not b) (F.take_bit s.frame mosi (four_wire s)).write None) s now))
        (cond a (cond b (turned s) (bit_taken s mosi now)) s)
    go true true = then (framed_keeps s _ refl) (shift_keeps _ Clocked.Turnaround)
    go true false = taken_bit_keeps s mosi now
    go false true = itself s
    go false false = itself s

-- ---- I2C

acted_keeps : (a : Option Action) (s : Sensor) (x : State) (now : Time) → Keeps (with_writing s (begun_writing (action_write a) s now)) (acted a (with_i2c s x) now)
unfolding acted action_write accepted_write of_write operation
acted_keeps None s x now = record { same = refl }
acted_keeps (Some Action.Drop) s x now = record { same = refl }
acted_keeps (Some (Action.Write r v)) s x now = then {t = with_writing (with_i2c s x) (begun_writing (Some (r, v)) s now)} (record { same = refl }) (then (register_keeps (with_i2c s x) r v now) (record { same = refl }))
acted_keeps (Some (Action.Launch r)) s x now = then {t = with_i2c s x} (record { same = refl }) (then (fetched_keeps (peek (with_i2c s x) r) (with_i2c s x) r) (record { same = refl }))
acted_keeps (Some (Action.ReadBegan r)) s x now = then {t = with_i2c s x} (record { same = refl }) (byte_read_keeps s.frame.tx (with_i2c s x) r)

pub pins_keeps : (s : Sensor) (e : Edge) (now : Time) → Keeps (with_writing s (begun_writing (i2c_write s e) s now)) (i2c_pins s e now)
unfolding i2c_pins i2c_write accepted_write
pins_keeps s e now = go (i2c_listens s)
  where
    go : (a : Bool)
        → Keeps (with_writing s (begun_writing (cond a (action_write (E.step s.i2c e (is_quiet s) (ones_for s.frame.tx)).action) None) s now))
        (cond a (stepped (E.step s.i2c e (is_quiet s) (ones_for s.frame.tx)) s now) (with_i2c s (E.aborted s.i2c)))
    go true = acted_keeps _ s _ now
    go false = record { same = refl }
