-- Moments and lengths of time. A unit is 2^-64 s (01, "How the Rust is driven").
use Rattle.std.specs.Prelude.{ℕ, ◌+◌, ◌-◌, ◌*◌, ◌/◌, ◌%◌, ◌^◌, min, Bool, ◌==◌, nat_lt}
use Rattle.time.specs.declared.Time.{Time}
use Rattle.time.specs.declared.Duration.{Duration}

-- a moment as a number of units: whole seconds and a fraction of 2^-64 s
abbrev pub ticks : Time → ℕ
ticks t = t.0 * 2 ^ 64 + t.1

-- a length as a number of units
abbrev pub lasts : Duration → ℕ
lasts d = d.0 * 2 ^ 64 + d.1

-- the moment of n units, modulo 2^128
abbrev pub time : ℕ → Time
time n = record { 0 = n / 2 ^ 64 % 2 ^ 64; 1 = n % 2 ^ 64 }

-- the length of n units, modulo 2^128
abbrev pub duration : ℕ → Duration
duration n = record { 0 = n / 2 ^ 64 % 2 ^ 64; 1 = n % 2 ^ 64 }

-- a moment and a length later
abbrev pub plus : Time → Duration → Time
plus t d = time (ticks t + lasts d)

-- the length from an earlier moment to t; none where that is later (`duration_since`)
abbrev pub since : Time → (earlier : Time) → Duration
since t earlier = duration (ticks t - ticks earlier)

-- one unit later, clamped to the last moment (the Rust's `saturating_add(1)`)
abbrev pub next_unit : Time → Time
next_unit t = time (min (ticks t + 1) (2 ^ 128 - 1))

-- t lies strictly before u
abbrev pub precedes : Time → Time → Bool
precedes t u = nat_lt (ticks t) (ticks u)

-- t and u are one moment
abbrev pub same : Time → Time → Bool
same t u = ticks t == ticks u

-- a length without another; none where that is longer (the Rust's `raw().saturating_sub`)
abbrev pub without : Duration → Duration → Duration
without d other = duration (lasts d - lasts other)

-- ms milliseconds, rounded down to units (`from_millis`)
abbrev pub from_millis : (ms : ℕ) → Duration
from_millis ms = duration (ms * 2 ^ 64 / 1000)

-- us microseconds, rounded down to units (01, `micros_raw`)
abbrev pub from_micros : (us : ℕ) → Duration
from_micros us = duration (us * 2 ^ 64 / 1000000)
