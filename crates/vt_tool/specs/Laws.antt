-- The laws of the outcomes of commands: their number for an input.
use Rattle.std.specs.Prelude.{◌≡◌, ℕ, List}
use Rattle.session_order.specs.Meant.{plain_history}
use Rattle.vt_tool.specs.Commands.{Gives, IsSerial}
use Rattle.vt_tool.specs.Commands.Race.{GivesRaced}
use Rattle.vt_tool.specs.Outcome.{Outcome}
use Rattle.vt_tool.specs.declared.command.Command.{Command}
use Rattle.vt_tool.specs.declared.command.Command.TheVariants as command

-- a command that needs no threads has one outcome for an input
abbrev pub OneOutcome : Type 0
OneOutcome =
    (asked : Command) → IsSerial asked → (input : List ℕ) (a b : Outcome)
    → Gives asked input a → Gives asked input b → a ≡ b

-- the run determines the outcome of `race`: runs of an input with the same history, in plain form, that stop
-- at the same place have one outcome
abbrev pub RunDecides : Type 0
RunDecides =
    (input : List ℕ) (a b : Outcome) (x : GivesRaced input a) (y : GivesRaced input b)
    → plain_history x.raced.history ≡ plain_history y.raced.history
    → x.raced.stop ≡ y.raced.stop → a ≡ b

-- each outcome of `play` is one of `race`
abbrev pub RaceMayPlay : Type 0
RaceMayPlay =
    (input : List ℕ) (outcome : Outcome) → Gives command.Play input outcome
    → Gives command.Race input outcome
