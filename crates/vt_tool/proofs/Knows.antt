-- The run of a command that a call knows.
use Rattle.std.proofs.Common.{◌≡◌, ℕ, List, Some}
use Rattle.vt_io.specs.Stream.{Stream}
use Rattle.vt_tool.specs.Run.{Begins, Holds}
use Rattle.vt_tool.specs.Words.{Form, command_of}
use Rattle.vt_tool.specs.declared.command.Command.{Command}
use Rattle.vt_tool.specs.declared.status.Status.{Status}
use Rattle.vt_tool.specs.declared.status.Status.TheVariants.{Usage}

-- if the words spell a command, the facts of its status begin the run
pub begun : (known : List Form) (words : List (List ℕ)) (command : Command) (src src' out out' : Stream)
    (first : Status) → command_of known words ≡ Some command
    → Holds command src src' out out' first → Begins known words src src' out out' first
begun known words command src src' out out' Usage spelled holds = absurd holds
begun known words command src src' out out' other spelled holds = (command, spelled, holds)
