-- What a sensor that hears the bus does at each event, with what its registers show at that event.
use Rattle.std.specs.Prelude.{ℕ, Bool, false, List, [], ◌∷◌, get_or, drop, Option, Some, None}
use Rattle.laws.specs.Notation.{Byte}
use Rattle.i2c.specs.declared.types.Edge.{Edge}
use Rattle.i2c.specs.declared.types.State.{State}
use Rattle.i2c.specs.declared.types.Action.{Action}
use Rattle.i2c.specs.declared.types.Action.TheVariants as A
use Rattle.i2c.specs.Engine.{step, written, launched}

-- the engine, and the byte being sent (ff where there is none)
pub record Target : Type 0 where
  pub state : State
  pub sent : ℕ

-- both
abbrev pub target : State → (sent : Byte) → Target
target s sent = record { state = s; sent = sent }

-- what the engine asked for is done: `shows` is the byte that a register shows at this event
unfoldable pub act : (shows : ℕ → ℕ) → State → (sent : Byte) → Option Action → Target
act shows s sent None = target s sent
act shows s sent (Some A.Drop) = target s 0xff
act shows s sent (Some (A.Write r x)) = target (written s false) sent
act shows s sent (Some (A.Launch r)) = target (launched s (shows r)) (shows r)
act shows s sent (Some (A.ReadBegan r)) = target s sent

-- what the sensor does at an event
abbrev pub deed : Target → Edge → Option Action
deed v e = (step v.state e false v.sent).action

-- the sensor after an event: the engine's step, and what it asked for done
unfoldable pub serve : (shows : ℕ → ℕ) → Target → Edge → Target
serve shows v e = act shows (step v.state e false v.sent).state v.sent (deed v e)

-- what is seen of it at an event: whether it holds the data line low from then on, and what it does
pub record Seen : Type 0 where
  pub low : Bool
  pub deed : Option Action

-- at one event
abbrev pub seen_at : (shows : ℕ → ℕ) → Target → Edge → Seen
seen_at shows v e = record { low = (serve shows v e).state.low; deed = deed v e }

-- what the registers show at the first event of a list; ones past its end
abbrev pub now_shown : List (ℕ → ℕ) → ℕ → ℕ
now_shown fs = get_or fs 0 (λ r. 0xff)

-- over a list of events, each with what the registers then show
unfoldable pub left : Target → List Edge → (shown : List (ℕ → ℕ)) → Target
left v [] fs = v
left v (e ∷ es) fs = left (serve (now_shown fs) v e) es (drop 1 fs)

-- what is seen at each of them
unfoldable pub seen : Target → List Edge → (shown : List (ℕ → ℕ)) → List Seen
seen v [] fs = []
seen v (e ∷ es) fs = seen_at (now_shown fs) v e ∷ seen (serve (now_shown fs) v e) es (drop 1 fs)
