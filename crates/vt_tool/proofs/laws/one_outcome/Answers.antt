use Rattle.std.proofs.Common.{◌≡◌, ℕ, List, sym, ◌∙◌}
use Rattle.key_compile.proofs.Stated.{one_value}
use Rattle.session_order.proofs.Stated.{meant_laws-replay, serial_laws-one}
use Rattle.session_text.proofs.Stated.{one_session}
use Rattle.vt_journal.proofs.Stated.{one_journal-one}
use Rattle.vt_tool.proofs.Stated.{one_accept, one_check, one_explain, one_review}
use Rattle.vt_tool.proofs.for_laws.Keymaps.{one_dump, one_keys, one_typed}
use Rattle.vt_tool.proofs.for_laws.Plays.{one_drill, one_played}
use Rattle.vt_tool.proofs.for_laws.Upgraded.{one_upgraded}
use Rattle.vt_tool.specs.Commands.{Gives, IsSerial}
use Rattle.vt_tool.specs.Outcome.{Outcome}
use Rattle.vt_tool.specs.declared.command.Command.{Command}
use Rattle.vt_tool.specs.declared.command.Command.TheVariants as command
use Rattle.vt_tool.proofs.laws.one_outcome.Goals as goal

pub returns : goal.returns
returns c = one
  where
    one : (asked : Command) → IsSerial asked → (input : List ℕ) (a b : Outcome) → Gives asked input a
        → Gives asked input b → a ≡ b
    one (command.Screen rows cols) serial input a b x y = x ∙ sym y
    one command.Keys serial input a b x y = one_keys one_value input a b x y
    one command.Typing serial input a b x y = one_typed one_value input a b x y
    one command.Play serial input a b x y =
        one_played one_session one_value serial_laws-one
        meant_laws-replay input a b x y
    one command.Race serial input a b x y = absurd serial
    one command.Check serial input a b x y = one_check input a b x y
    one (command.Drill n seed) serial input a b x y =
        one_drill one_value serial_laws-one meant_laws-replay n seed a b x y
    one command.Upgrade serial input a b x y = one_upgraded one_journal-one input a b x y
    one command.Cook serial input a b x y = x ∙ sym y
    one command.DumpKeys serial input a b x y = one_dump one_value input a b x y
    one (command.Review kinds console) serial input a b x y = one_review kinds console input a b x y
    one command.Explain serial input a b x y = one_explain input a b x y
    one command.Accept serial input a b x y = one_accept input a b x y
