-- The sensor's 12000 Hz clock.
use Rattle.std.specs.Prelude.{ℕ, ◌+◌, ◌-◌, ◌*◌, ◌/◌, ◌%◌, ◌^◌, min}
use Rattle.time.specs.declared.Time.{Time}
use Rattle.time.specs.declared.Clock.{Clock}
use Rattle.time.specs.Time.{ticks, time}

-- units from a clock's start to its edge n (01, "Moments": floor(n × 2^64 / 12000))
abbrev pub edge_ticks : ℕ → ℕ
edge_ticks n = n * 2 ^ 64 / 12000

-- edge n after a start at s (01, "Moments")
abbrev pub edge : Time → ℕ → Time
edge s n = time (ticks s + edge_ticks n)

-- a clock at its start
abbrev pub started : Time → Clock
started s = record { start = s; ordinal = 0 }

-- n edges further
abbrev pub advanced : Clock → ℕ → Clock
advanced c n = record { start = c.start; ordinal = (c.ordinal + n) % 2 ^ 64 }

-- the moment of the last edge that the clock advanced to
abbrev pub last : Clock → Time
last c = edge c.start c.ordinal

-- the moment of the edge after it (01: one edge ahead)
abbrev pub next : Clock → Time
next c = last (advanced c 1)

-- how many edges after the clock's last one lie strictly before a limit
abbrev pub edges_before : Clock → (limit : Time) → ℕ
edges_before c limit = min (2 ^ 64 - 1) ((12000 * (ticks limit - ticks c.start) - 1) / 2 ^ 64) - c.ordinal
