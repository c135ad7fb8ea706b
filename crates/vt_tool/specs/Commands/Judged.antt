-- The outcome of a verdict on a journal.
use Rattle.std.specs.Prelude.{ℕ, List}
use Rattle.vt_check.specs.declared.verdict.Verdict.{Verdict}
use Rattle.vt_check.specs.declared.verdict.Verdict.TheVariants.{Legal, Illegal}
use Rattle.vt_tool.specs.Outcome.{Outcome, fine_text, no_text}
use Rattle.vt_tool.specs.declared.status.Status.TheVariants as status

-- this text if the journal is legal; else the first entry that fails, and the reason
abbrev pub judged_text : List ℕ → Verdict → Outcome
judged_text text Legal = fine_text text
judged_text text (Illegal index why) = no_text (status.Illegal index why)
