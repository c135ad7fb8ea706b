-- The commands: their words, their inputs and their outcomes (docs/reference/program.md). A new command has a row in
-- the list of names and a case of Gives; if it has numbers, or reads in a way of its own, it also has a case of
-- IsFit or of intake_of.
use Rattle.std.specs.Prelude.{ℕ, List, [], ◌∷◌, ◌++◌, ◌⊎◌, codes, ⊤}
use Rattle.vt_tool.specs.Outcome.{Outcome}
use Rattle.vt_tool.specs.Words.{Form, Rest, alone, form, with_two}
use Rattle.vt_tool.specs.declared.command.Command.{Command}
use Rattle.vt_tool.specs.declared.command.Command.TheVariants as command
use Rattle.vt_tool.specs.declared.intake.Intake.{Intake}
use Rattle.vt_tool.specs.declared.intake.Intake.TheVariants.{InPieces, NoInput, ToEnd}
use Rattle.vt_tool.specs.Commands.Screen.{GivesRows, IsScreenSize, screen_limit, side}
use Rattle.vt_tool.specs.Commands.Cook.{GivesCooked}
use Rattle.vt_tool.specs.Commands.Drill.{GivesDrill, IsDrillSize, items_each, seeds}
use Rattle.vt_tool.specs.Commands.Dump.{GivesDump}
use Rattle.vt_tool.specs.Commands.Judging.{GivesAsked}
use Rattle.vt_tool.specs.Commands.Keys.{GivesKeyFault, GivesListing}
use Rattle.vt_tool.specs.Commands.Play.{GivesPlayed}
use Rattle.vt_tool.specs.Commands.Race.{GivesRaced}
use Rattle.vt_tool.specs.Commands.Review.{IsEar, consoles_heard, kinds_heard}
use Rattle.vt_tool.specs.Commands.Session.{GivesSessionFault}
use Rattle.vt_tool.specs.Commands.Typing.{GivesTableFault, GivesTyped}
use Rattle.vt_tool.specs.Commands.Upgrade.{GivesUpgraded}
use Rattle.vt_tool.specs.declared.commands.judge_request.JudgeRequest.TheVariants as asked
use Rattle.vt_tool.specs.declared.numbered_form.NumberedForm.{NumberedForm}
use Rattle.vt_tool.specs.declared.numbered_form.NumberedForm.TheVariants as two
pub mod Accept
pub mod Check
pub mod Cook
pub mod Cut
pub mod Drill
pub mod Dump
pub mod Explain
pub mod Judging
pub mod Keys
pub mod Play
pub mod Race
pub mod Review
pub mod Screen
pub mod Session
pub mod Judged
pub mod Typed
pub mod Typing
pub mod Upgrade

-- the words after the names of the commands with numbers
abbrev pub rest_of : NumberedForm → Rest
rest_of two.Screen = with_two side side command.Screen
rest_of two.Drill = with_two items_each seeds command.Drill
rest_of two.Review = with_two kinds_heard consoles_heard command.Review

-- the names of the commands, in the order of the line of usage: those before and after `race`
abbrev pub forms_before_race : List Form
forms_before_race =
    form (codes "screen") (rest_of two.Screen)
    ∷ form (codes "keys") (alone command.Keys)
    ∷ form (codes "type") (alone command.Typing)
    ∷ form (codes "play") (alone command.Play)
    ∷ []

abbrev pub forms_after_race : List Form
forms_after_race =
    form (codes "check") (alone command.Check)
    ∷ form (codes "drill") (rest_of two.Drill)
    ∷ form (codes "upgrade") (alone command.Upgrade)
    ∷ form (codes "cook") (alone command.Cook)
    ∷ form (codes "dumpkeys") (alone command.DumpKeys)
    ∷ form (codes "review") (rest_of two.Review)
    ∷ form (codes "explain") (alone command.Explain)
    ∷ form (codes "accept") (alone command.Accept)
    ∷ []

-- the commands that need no threads
abbrev pub serial_forms : List Form
serial_forms = forms_before_race ++ forms_after_race

-- all commands: `race` needs threads
abbrev pub all_forms : List Form
all_forms = forms_before_race ++ form (codes "race") (alone command.Race) ∷ forms_after_race

-- the command needs no threads
abbrev pub IsSerial : Command → Type 0
IsSerial command.Race = ⊥
IsSerial other = ⊤

-- the command takes its input as one text, or takes none
abbrev pub TakesText : Command → Type 0
TakesText (command.Screen rows cols) = ⊥
TakesText other = ⊤

-- the command's numbers are in their ranges
abbrev pub IsFit : Command → Type 0
IsFit (command.Screen rows cols) = IsScreenSize rows cols
IsFit (command.Drill n seed) = IsDrillSize n
IsFit (command.Review kinds console) = IsEar kinds console
IsFit other = ⊤

-- the most bytes of input that a command reads, if it has no limit of its own; this project's own
abbrev pub text_limit : ℕ
text_limit = 16777216

-- the part of the source that a command reads
abbrev pub intake_of : Command → Intake
intake_of (command.Screen rows cols) = InPieces screen_limit
intake_of (command.Drill n seed) = NoInput
intake_of other = ToEnd text_limit

-- the outcome of a command for an input
abbrev pub Gives : Command → List ℕ → Outcome → Type 0
Gives (command.Screen rows cols) input outcome = GivesRows rows cols input outcome
Gives command.Keys input outcome = GivesListing input outcome ⊎ GivesKeyFault input outcome
Gives command.Typing input outcome = GivesTyped input outcome ⊎ GivesTableFault input outcome
Gives command.Play input outcome = GivesPlayed input outcome ⊎ GivesSessionFault input outcome
Gives command.Race input outcome = GivesRaced input outcome ⊎ GivesSessionFault input outcome
Gives command.Check input outcome = GivesAsked asked.Verdict input outcome
Gives (command.Drill n seed) input outcome = GivesDrill n seed outcome
Gives command.Upgrade input outcome = GivesUpgraded input outcome
Gives command.Cook input outcome = GivesCooked input outcome
Gives command.DumpKeys input outcome = GivesDump input outcome ⊎ GivesKeyFault input outcome
Gives (command.Review kinds console) input outcome =
    GivesAsked (asked.Review kinds console) input outcome
Gives command.Explain input outcome = GivesAsked asked.Explanation input outcome
Gives command.Accept input outcome = GivesAsked asked.Acceptance input outcome
