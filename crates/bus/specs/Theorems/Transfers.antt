-- UM10204's transfers through the calls: any accepted moments, with other calls and reports without an event anywhere between.
use Rattle.std.specs.Prelude.{ℕ, ◌%◌, ◌<◌, ◌≤◌, ◌≡◌, refl, Bool, true, false, not, ◌&&◌, List, [], ◌∷◌, ◌++◌, length, drop, if◌then◌else◌, Option, Some, None}
use Rattle.std.proofs.Common.{ap, ◌∙◌}
use Rattle.time.specs.declared.Time.{Time}
use Rattle.i2c.specs.declared.types.Levels.{Levels}
use Rattle.i2c.specs.declared.types.Edge.{Edge}
use Rattle.i2c.specs.Bus.{edge}
use Rattle.i2c.specs.declared.types.Phase.TheVariants as P
use Rattle.i2c.specs.Transfers.{byte_frame, address_frame, broken, nine_clocks, starts, Pair, Bytes, write_transfer, Levels8, read_transfer, combined}
use Rattle.i2c.specs.Target.{Target, deed, left, seen}
use Rattle.i2c.specs.Answers.{free, acknowledge, silence, broken_answer, address_answer, register_answer, write_answer, read_answer, read_address_answer}
use Rattle.i2c.proofs.Theorems.Frames.{write_served, read_served, combined_served, broken_register_served, broken_value_served, other_address_silent, nine_clocks_clear}
use Rattle.spi.specs.declared.types.Drive.{Drive}
use Rattle.registers.specs.declared.access.Gate.{Gate}
use Rattle.registers.specs.Map.{at, operation, shadow_dis}
use Rattle.registers.specs.Access.{withheld, unreadable}
use Rattle.calls.specs.declared.types.Timed.TheVariants as Timed
use Rattle.calls.specs.declared.types.Call.{Call}
use Rattle.reads.specs.Reads.{is_shadowed, prepared}
use Rattle.sensor.specs.declared.types.Sensor.{Sensor}
use Rattle.sensor.specs.Record.{with_lines, with_i2c, serial_not_ready, is_quiet, four_wire, gate}
use Rattle.sensor.specs.RegisterReads.{peek, fetched}
use Rattle.serial.specs.I2cPins.{ones_for, acted}
use Rattle.serial.specs.Outputs.{i2c_holds, spi_drives}
use Rattle.bma150.specs.declared.host.Bma150.{Bma150}
use Rattle.bma150.specs.Called.{Added, adds, effect, leaves}
use Rattle.bma150.specs.Values.{view_value}
use Rattle.book.specs.Lists.{accepts, step, after, accepted}
use Rattle.bus.specs.I2c.{Heard, events, target_of, fetch, ended, shown, seen_of}
use Rattle.bus.specs.Theorems.Reports.{stepped_to}
use Rattle.bus.specs.Theorems.Calls.{accepted_leaves, meets, report_does}
use Rattle.bus.specs.Theorems.Lists.{through_calls, transfer}
use Rattle.serial.specs.Outputs as Outputs

-- ---- transfers, from any sensor that hears the bus, in any list in which no accepted call ends that

module _ (s : Bma150) (cs : List Call) (h : Heard s.sensor) (n : ended s cs ≡ false) where
  -- START, 70 hex and n pairs: each byte is acknowledged, and each pair writes once, at the eighth rise of its value
  pub write_through_calls : (level : Bool) (ps : List Pair) → Bytes ps → events (accepted s cs) ≡ write_transfer level ps → seen_of s cs ≡ write_answer ps
  write_through_calls level ps small e = (transfer cs s (write_transfer level ps) _ _ h n e (write_served (target_of s.sensor) level ps (shown s cs) small)).0

  -- START, 71 hex and n bytes: each is what its register shows at the fall that fetches it, bit by bit; the next register follows
  pub read_through_calls : (level : Bool) (os : List Levels8) (last : Levels8) → events (accepted s cs) ≡ read_transfer level os last
      → seen_of s cs ≡ read_address_answer ++ read_answer s.sensor.i2c.pointer os (drop 19 (shown s cs))
  read_through_calls level os last e = (transfer cs s (read_transfer level os last) _ _ h n e (read_served (target_of s.sensor) level os last (shown s cs))).0

  -- a register byte, a repeated START, and n bytes from that register on
  pub combined_through_calls : (register : ℕ) (a b c : Bool) (os : List Levels8) (last : Levels8) → register < 256
      → events (accepted s cs) ≡ combined register a b c os last
      → seen_of s cs
      ≡ (address_answer ++ acknowledge)
      ++ (register_answer ++ ((free ∷ []) ++ (read_address_answer ++ read_answer (register % 128) os (drop 19 (drop 1 (drop 18 (drop 20 (shown s cs))))))))
  combined_through_calls register a b c os last small e =
      (transfer cs s (combined register a b c os last) _ _ h n e (combined_served (target_of s.sensor) register a b c os last (shown s cs) small)).0

  -- n pairs, and a register or value byte that STOP breaks off: no more is written
  module _ (level : Bool) (ps : List Pair) (small : Bytes ps) (ds : List Bool) (few : length ds ≤ 6) where
    pub broken_register_through_calls : events (accepted s cs) ≡ write_transfer level ps ++ broken ds → seen_of s cs ≡ write_answer ps ++ broken_answer ds
    broken_register_through_calls e =
        (transfer cs s (write_transfer level ps ++ broken ds) _ _ h n e (broken_register_served (target_of s.sensor) level ps small ds few (shown s cs))).0

    pub broken_value_through_calls : (register : ℕ) (b : Bool) → register < 256 → events (accepted s cs) ≡ write_transfer level ps ++ (byte_frame register b ++ broken ds)
        → seen_of s cs ≡ write_answer ps ++ (register_answer ++ broken_answer ds)
    broken_value_through_calls register b r e =
        (transfer cs s (write_transfer level ps ++ (byte_frame register b ++ broken ds)) _ _ h n e
        (broken_value_served (target_of s.sensor) level ps small ds few (shown s cs) register b r)).0

  -- START and another address, and whatever comes before the next START: the pin is free, and nothing is done
  pub other_address_through_calls : (b : ℕ) (es : List Edge) → b < 256 → (b ≡ 0x70 → ⊥) → (b ≡ 0x71 → ⊥) → starts es ≡ false
      → events (accepted s cs) ≡ address_frame b ++ es → seen_of s cs ≡ address_answer ++ silence es
  other_address_through_calls b es small not_70 not_71 quiet e =
      (through_calls cs s h n).1
      ∙ ap (λ (l : List Edge). seen (target_of s.sensor) l (shown s cs)) e
      ∙ other_address_silent b small not_70 not_71 (target_of s.sensor) es (shown s cs) quiet

  -- bus clear: after nine clocks a sensor that was sending holds the data pin no more
  pub nine_clocks_through_calls : (k : ℕ) → s.sensor.i2c.phase ≡ P.Read k → k ≤ 8 → events (accepted s cs) ≡ nine_clocks → (after s cs).sensor.i2c.low ≡ false
  nine_clocks_through_calls k p small e =
      ap (λ (v : Target). v.state.low) (through_calls cs s h n).0
      ∙ ap (λ (l : List Edge). (left (target_of s.sensor) l (shown s cs)).state.low) e
      ∙ (nine_clocks_clear (target_of s.sensor) k (shown s cs) p small).1

no_drive : (s : Sensor) → Heard s → spi_drives s ≡ false
unfolding spi_drives
no_drive s h = by_ready (not (serial_not_ready s)) h.unselected
  where
    by_ready : (b : Bool) → s.frame.selected ≡ false → (b && (s.frame.selected && (not s.sampling.asleep && not (is_quiet s)))) ≡ false
    by_ready true e = rw e
    by_ready false e = refl

-- ---- the data pin is low where the sensor is seen to hold it, else it floats

pub pin_shows : (s : Sensor) → Heard s → Outputs.data_output s ≡ (if i2c_holds s then Drive.Low else Drive.Floating)
unfolding Outputs.data_output
pin_shows s h = rw (no_drive s h, and_none (not (four_wire s)))
  where
    and_none : (b : Bool) → b && false ≡ false
    and_none true = refl
    and_none false = refl

-- ---- what is done: the sensor that meets a report, with the sample of its moment where it uses a value, gets what the engine asks for, and remembers the levels after it

pub report_through_call : (s : Bma150) (now : Time) (before after : Levels) → let c = Call.At now (Timed.Pins before after) in let e = edge before after in
    accepts s c ≡ true → Heard s.sensor
    → (step s c).sensor ≡ with_lines (acted (deed (target_of s.sensor) e) (with_i2c (meets s.sensor e now) (stepped_to s.sensor e)) now) after
unfolding leaves effect
report_through_call s now before after e h =
    ap (λ (t : Bma150). t.sensor) (accepted_leaves s (Call.At now (Timed.Pins before after)) e) ∙ ap (λ (t : Sensor). with_lines t after) (report_does s.sensor (edge before after) now h)

-- ---- what `peek` withholds reads as ones (01), and asleep that is every register

pub withheld_reads_ones : (s : Sensor) (r : ℕ) → withheld r (gate s) ≡ true → fetch s r ≡ 0xff
unfolding peek fetched ones_for
withheld_reads_ones s r e = rw e

asleep_withholds : (r : ℕ) (g : Gate) (b : Bool) → unreadable r ≡ b → g.asleep ≡ true → withheld r g ≡ true
unfolding withheld
asleep_withholds r g true e h = rw e
asleep_withholds r g false e h = rw (e, h)

pub asleep_reads_ones : (s : Sensor) (r : ℕ) → s.sampling.asleep ≡ true → fetch s r ≡ 0xff
asleep_reads_ones s r e = withheld_reads_ones s r (asleep_withholds r (gate s) (unreadable r) refl e)

-- ---- a byte read is the one that a view shows, but for the bytes of an acceleration while shadowing is on

-- the viewed byte, or ones
unfoldable pub or_ones : Option ℕ → ℕ
or_ones None = 0xff
or_ones (Some b) = b

-- the value of an answer that is a view's
value_of : Added → Option ℕ
value_of Added.nothing = None
value_of (Added.report values) = None
value_of (Added.viewed value mark) = value
value_of (Added.put bytes) = None

viewed_fetched : (v : Option ℕ) (s : Sensor) (r : ℕ) → is_shadowed r (not (shadow_dis (at s.registers operation))) ≡ false → ones_for (fetched v s r).sent ≡ or_ones (view_value v)
unfolding fetched ones_for or_ones view_value prepared
viewed_fetched None s r e = refl
viewed_fetched (Some b) s r e = rw e

pub read_is_view : (s : Bma150) (r : ℕ) (v mark : Option ℕ) → is_shadowed r (not (shadow_dis (at s.sensor.registers operation))) ≡ false
    → adds s (Call.View r) ≡ Added.viewed v mark → fetch s.sensor r ≡ or_ones v
unfolding adds value_of
read_is_view s r v mark e a = viewed_fetched (peek s.sensor r) s.sensor r e ∙ ap or_ones (ap value_of a)
