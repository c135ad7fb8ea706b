-- The outcomes of the commands that read a session and a journal after it: `check`, `review`, `explain` and
-- `accept`. They refuse the same inputs, and differ in the outcome for a journal. This project's own:
-- docs/reference/journal.md.
use Rattle.std.specs.Prelude.{◌≡◌, ◌⊎◌, ℕ, ◌==◌, List, [], Result, Ok, Err, if◌then◌else◌, ⊤}
use Rattle.session_text.specs.Sessions.{IsSessionOf, SessionValue, SessionView, session_says}
use Rattle.vt_journal.specs.Says.{JournalSays}
use Rattle.vt_journal.specs.declared.j_fault.JFault.{JFault}
use Rattle.vt_journal.specs.declared.journal.Journal.{Journal}
use Rattle.vt_tool.specs.Commands.Accept.{IsAccepted}
use Rattle.vt_tool.specs.Commands.Check.{IsJudged}
use Rattle.vt_tool.specs.Commands.Cut.{IsCut}
use Rattle.vt_tool.specs.Commands.Explain.{IsExplained}
use Rattle.vt_tool.specs.Commands.Review.{IsEar, IsReviewed, ear_of}
use Rattle.vt_tool.specs.Commands.Session.{GivesSessionFault}
use Rattle.vt_tool.specs.Outcome.{Outcome, no_text}
use Rattle.vt_tool.specs.declared.commands.judge_request.JudgeRequest.{JudgeRequest}
use Rattle.vt_tool.specs.declared.commands.judge_request.JudgeRequest.TheVariants.{Verdict, Review, Explanation, Acceptance}
use Rattle.vt_tool.specs.declared.commands.cut.CutMark.TheVariants as mark
use Rattle.vt_tool.specs.declared.status.Status.TheVariants as status

-- the numbers of the request are in their ranges
abbrev pub IsFitAsked : JudgeRequest → Type 0
IsFitAsked (Review kinds console) = IsEar kinds console
IsFitAsked other = ⊤

-- the text after the session is the journal, with a certificate after it if the request is about one
abbrev pub IsParted : JudgeRequest → List ℕ → List ℕ → List ℕ → Type 0
IsParted Acceptance after journal cert = IsCut mark.Certificate after journal cert
IsParted other after journal cert = (journal ≡ after) × (cert ≡ [])

-- the outcome for a journal and the text of a certificate
abbrev pub MakesOf : JudgeRequest → List ℕ → SessionView → Journal → Outcome → Type 0
MakesOf Verdict cert s j outcome = IsJudged s j outcome
MakesOf (Review kinds console) cert s j outcome = IsReviewed (ear_of kinds console) s j outcome
MakesOf Explanation cert s j outcome = IsExplained s j outcome
MakesOf Acceptance cert s j outcome = IsAccepted cert s j outcome

-- the column of a fault in this line: 1, or 0 without a line
abbrev pub column_of : ℕ → ℕ
column_of line = if line == 0 then 0 else 1

-- the outcome for a text that was read as a journal: that of the journal, or its first fault
abbrev pub ComesOf : JudgeRequest → List ℕ → SessionView → Result Journal JFault → Outcome → Type 0
ComesOf asked cert s (Ok j) outcome = MakesOf asked cert s j outcome
ComesOf asked cert s (Err fault) outcome =
    outcome ≡ no_text (status.Refused fault.kind fault.line (column_of fault.line))

-- the outcome for the text after a session, whose journal is read first
pub record IsReadAs (asked : JudgeRequest) (s : SessionView) (after : List ℕ) (outcome : Outcome) : Type 0 where
  pub journal : List ℕ
  pub cert : List ℕ
  pub parted : IsParted asked after journal cert
  pub read : Result Journal JFault
  pub says : JournalSays journal read
  pub comes : ComesOf asked cert s read outcome

-- the input has a session, and the text after it is read
pub record GivesMade (asked : JudgeRequest) (input : List ℕ) (outcome : Outcome) : Type 0 where
  pub text : List ℕ
  pub after : List ℕ
  pub cut : IsCut mark.Journal input text after
  pub value : SessionValue
  pub session : SessionView
  pub said : session_says text (Ok value)
  pub is : IsSessionOf session value
  pub read : IsReadAs asked session after outcome

-- the session's text is refused at its first fault, with any text after it
pub record GivesFaultBefore (input : List ℕ) (outcome : Outcome) : Type 0 where
  pub text : List ℕ
  pub after : List ℕ
  pub cut : IsCut mark.Journal input text after
  pub refused : GivesSessionFault text outcome

-- the outcome of the command with this request
abbrev pub GivesAsked : JudgeRequest → List ℕ → Outcome → Type 0
GivesAsked asked input outcome = GivesMade asked input outcome ⊎ GivesFaultBefore input outcome

-- the command has one outcome for an input
abbrev pub OneOutcomeOf : JudgeRequest → Type 0
OneOutcomeOf asked =
    (input : List ℕ) (a b : Outcome) → GivesAsked asked input a → GivesAsked asked input b → a ≡ b
