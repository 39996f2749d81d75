-- A stored write that runs: `WriteCycle` of devices/nv.rs. Its end is its start and D, and is not stored.
use Rattle.std.specs.Prelude.{ℕ, ◌+◌, ◌-◌}
use Rattle.time.specs.declared.Time.{Time}
use Rattle.time.specs.Time.{ticks, time}
use Rattle.nv.specs.declared.WriteCycle.{WriteCycle}
use Rattle.nv.specs.Cell.{write_length, byte}

-- a write that begins now (the Rust's `start`)
abbrev pub start : (now : Time) → WriteCycle
start now = record { started = now }

-- when a write ends: D after it began (01)
abbrev pub deadline : WriteCycle → Time
deadline w = time (ticks w.started + write_length)

-- the units from a write's start to now; none where now is earlier (the Rust's `now <= self.started`)
abbrev pub elapsed : WriteCycle → (now : Time) → ℕ
elapsed w now = ticks now - ticks w.started

-- the byte of the write's cell now (the Rust's `byte`)
abbrev pub byte_at : WriteCycle → (old target cell : ℕ) (now : Time) → ℕ
byte_at w old target cell now = byte old target cell (elapsed w now)
