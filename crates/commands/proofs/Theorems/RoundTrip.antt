-- What is written as a command is read as that command.
use Rattle.std.specs.Prelude.{◌≡◌, refl, Bool, true, false, List, ◌∷◌, ◌++◌, ℕ, zero, suc, ◌+◌, ◌-◌, ◌*◌, ◌/◌, ◌%◌, ◌^◌, ◌≤◌, ◌<◌, ℤ, pos, negsuc, length, Ok}
use Rattle.std.proofs.Common.{sym, ap, ◌∙◌, pow-suc, div-add-mod', mod-eq_of_lt, arith, lt-ltb, le-ltb, length-append, take_at}
use Rattle.time.specs.declared.Time.{Time}
use Rattle.i2c.specs.declared.types.Levels.{Levels}
use Rattle.calls.specs.declared.types.Timed.{Timed}
use Rattle.calls.specs.declared.types.Call.{Call}
use Rattle.calls.specs.declared.types.Starting.{Starting}
use Rattle.commands.specs.declared.Opcode.{Opcode}
use Rattle.commands.specs.declared.Command.{Command}
use Rattle.commands.specs.Decode.{big, number_at, signed, moment_at, bit, timed, lines, image, opcode, operands, named, decoded, opcode_size, size}
use Rattle.commands.specs.Encode.{bytes, time_bytes, complement, lines_byte, timed_bytes, call_bytes, start_byte, encoded, TimeFits, SignedFits, TimedFits, CallFits, Fits}
use Rattle.commands.proofs.Theorems.Laws.{big_more}
use Rattle.commands.proofs.Theorems.More.{unknown}

-- ---- operands

-- a number of n bytes
big_bytes : (n x : ℕ) → x < 256 ^ n → big (bytes n x) ≡ x
unfolding bytes
big_bytes zero x h = omega arith
big_bytes (suc n) x h =
    let k : x < 256 ^ n * 256 = rw pow-suc at h in
    let q : x / 256 < 256 ^ n = omega arith in
    big_more 0 (bytes n (x / 256)) (x % 256) ∙ rw (big_bytes n (x / 256) q) (div-add-mod' x 256)

-- T after the byte of a command
time_back : (b : ℕ) (t : Time) (rest : List ℕ) → TimeFits t → moment_at 1 (b ∷ (time_bytes t ++ rest)) ≡ t
unfolding moment_at number_at time_bytes bytes
time_back b t rest f = rw (big_bytes 4 t.0 f.0, big_bytes 8 t.1 f.1)

-- a signed number
signed_back : (z : ℤ) → SignedFits z → signed (complement z) ≡ z
unfolding signed complement
signed_back (pos n) f = rw (lt-ltb n 2147483648 f)
signed_back (negsuc n) f =
    let h : 2147483648 ≤ 2 ^ 32 - (n + 1) = omega arith in
    rw (le-ltb (2 ^ 32 - (n + 1)) 2147483648 h) (ap negsuc (omega arith))

-- its 4 bytes
complement_fits : (z : ℤ) → SignedFits z → complement z < 2 ^ 32
unfolding complement
complement_fits (pos n) f = omega arith
complement_fits (negsuc n) f = omega arith

signed_bytes_back : (z : ℤ) → SignedFits z → signed (big (bytes 4 (complement z))) ≡ z
signed_bytes_back z f = rw (big_bytes 4 (complement z) (complement_fits z f)) (signed_back z f)

-- the lines, each of the sixteen
sixteen : (l : List ℕ) (a b c d : Bool) → lines l (lines_byte (record { scl = a; sda = b }) (record { scl = c; sda = d })) ≡ timed l (Timed.Pins (record { scl = a; sda = b }) (record { scl = c; sda = d }))
unfolding bit
sixteen l false false false false = refl
sixteen l false false false true = refl
sixteen l false false true false = refl
sixteen l false false true true = refl
sixteen l false true false false = refl
sixteen l false true false true = refl
sixteen l false true true false = refl
sixteen l false true true true = refl
sixteen l true false false false = refl
sixteen l true false false true = refl
sixteen l true false true false = refl
sixteen l true false true true = refl
sixteen l true true false false = refl
sixteen l true true false true = refl
sixteen l true true true false = refl
sixteen l true true true true = refl

lines_back : (l : List ℕ) (before after : Levels) → lines l (lines_byte before after) ≡ timed l (Timed.Pins before after)
lines_back l before after = sixteen l before.scl before.sda after.scl after.sda

-- ---- commands

-- the bytes l are those of c: c is read from them, whatever follows, and is as long
record Writes (l : List ℕ) (c : Command) : Type 0 where
  back : (rest : List ℕ) → decoded (l ++ rest) ≡ c
  long : length l ≡ size c

-- the first byte b names the opcode, its bytes are there, and the operands are those of c
writes : (b : ℕ) (o : Opcode) (l : List ℕ) (c : Command) → opcode b ≡ Ok o → length (b ∷ l) ≡ opcode_size o → size c ≡ opcode_size o
    → ((rest : List ℕ) → operands o (b ∷ (l ++ rest)) ≡ c) → Writes (b ∷ l) c
unfolding decoded named
writes b o l c which long sized read = record {
  back = λ rest.
      let some : 0 < length (b ∷ (l ++ rest)) = omega arith in
      let h : opcode_size o ≤ length (b ∷ (l ++ rest)) = simp length-append (omega arith) in
      rw (lt-ltb 0 (length (b ∷ (l ++ rest))) some, which, le-ltb (length (b ∷ (l ++ rest))) (opcode_size o) h) (read rest);
  long = long ∙ sym sized;
}

-- every call, with operands that fit
timed_written : (t : Time) (what : Timed) → TimeFits t → TimedFits what → Writes (timed_bytes t what) (Command.Host (Call.At t what))
unfolding timed_bytes time_bytes bytes TimedFits opcode operands size number_at
timed_written t (Timed.Accelerations input) f g =
    writes 0x02 Opcode.Accelerations _ _ refl refl refl
    (λ rest. rw (time_back 0x02 t (bytes 4 (complement input.x) ++ bytes 4 (complement input.y) ++ bytes 4 (complement input.z) ++ rest) f, signed_bytes_back input.x g.0, signed_bytes_back input.y g.1, signed_bytes_back input.z g.2))
timed_written t (Timed.Supply rail) f g = writes 0x04 Opcode.Supply _ _ refl refl refl (λ rest. rw (time_back 0x04 t (bytes 2 rail ++ rest) f, big_bytes 2 rail g))
timed_written t Timed.Due f g = writes 0x05 Opcode.Due _ _ refl refl refl (λ rest. rw (time_back 0x05 t rest f))
timed_written t (Timed.Rising false) f g = writes 0x07 Opcode.Rising _ _ refl refl refl (λ rest. rw (time_back 0x07 t (0 ∷ rest) f))
timed_written t (Timed.Rising true) f g = writes 0x07 Opcode.Rising _ _ refl refl refl (λ rest. rw (time_back 0x07 t (1 ∷ rest) f))
timed_written t Timed.Falling f g = writes 0x08 Opcode.Falling _ _ refl refl refl (λ rest. rw (time_back 0x08 t rest f))
timed_written t (Timed.Pins before after) f g = writes 0x09 Opcode.Pins _ _ refl refl refl (λ rest. lines_back _ before after ∙ rw (time_back 0x09 t (lines_byte before after ∷ rest) f))

call_written : (c : Call) → CallFits c → Writes (call_bytes c) (Command.Host c)
unfolding call_bytes CallFits time_bytes bytes opcode operands size number_at
call_written (Call.At t what) f = timed_written t what f.0 f.1
call_written (Call.Temperature x) f = writes 0x03 Opcode.Temperature _ _ refl refl refl (λ rest. rw (signed_bytes_back x f))
call_written (Call.Select false) f = writes 0x06 Opcode.Select _ _ refl refl refl (λ rest. refl)
call_written (Call.Select true) f = writes 0x06 Opcode.Select _ _ refl refl refl (λ rest. refl)
call_written (Call.View address) f = writes 0x0b Opcode.View _ _ refl refl refl (λ rest. rw (mod-eq_of_lt {n = address} {m = 256} f))
call_written (Call.StoredImage t n) f = writes 0x0a Opcode.StoredImage _ _ refl refl refl (λ rest. rw (time_back 0x0a t rest f.0, f.1))

written : (c : Command) (image : List ℕ) → Fits c image → Writes (encoded c image) c
unfolding encoded start_byte Fits time_bytes bytes opcode operands size
written (Command.Start Starting.Checked t) image f = writes 0x01 Opcode.Start _ _ refl (rw f.1) refl (λ rest. rw (time_back 0x01 t (image ++ rest) f.0))
written (Command.Start Starting.Stored t) image f = writes 0x0c Opcode.StartStored _ _ refl (rw f.1) refl (λ rest. rw (time_back 0x0c t (image ++ rest) f.0))
written (Command.Host c) image f = call_written c f
written Command.Bad image f = record { back = λ rest. unknown 0xff rest (omega arith); long = refl }

-- the command is read back, whatever follows
pub round_trip : (c : Command) (image rest : List ℕ) → Fits c image → decoded (encoded c image ++ rest) ≡ c
round_trip c image rest f = (written c image f).back rest

-- and so are the 19 bytes of a start
pub image_round_trip : (by : Starting) (t : Time) (given rest : List ℕ) → Fits (Command.Start by t) given → image (encoded (Command.Start by t) given ++ rest) ≡ given
unfolding encoded Fits time_bytes bytes
image_round_trip by t given rest f = take_at given rest 19 f.1

-- a command is as long as it is written
pub size_written : (c : Command) (image : List ℕ) → Fits c image → length (encoded c image) ≡ size c
size_written c image f = (written c image f).long
