-- A command leaves its call's sensor, and its line is that of its call's answer.
use Rattle.std.specs.Prelude.{refl, Bool, List, ℕ}
use Rattle.bma150.specs.declared.host.Bma150.{Bma150}
use Rattle.commands.specs.declared.Command.{Command}
use Rattle.bench.specs.Line as L
use Rattle.printed.specs.Lines.{call_of, text_of, Prints}

module _ (trace : Bool) (b : ℕ) (s : Bma150) where
  pub printed : (c : Command) (image : List ℕ) → Prints trace b s c image (call_of c)
  unfolding call_of text_of L.commanded L.line L.pins
  printed (Command.Start by t) image = tt
  printed (Command.Host c) image = (refl, refl)
  printed Command.Bad image = tt
