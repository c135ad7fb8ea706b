-- The outcome of a command: docs/reference/program.md, "What out holds".
use Rattle.std.specs.Prelude.{ℕ, List, []}
use Rattle.vt_tool.specs.declared.status.Status.{Status}
use Rattle.vt_tool.specs.declared.status.Status.TheVariants.{Fine}

-- the status that the run has, if no fault comes, and the defined text
pub record Outcome : Type 0 where
  pub status : Status
  pub text : List ℕ

-- this text, and status 0
abbrev pub fine_text : List ℕ → Outcome
fine_text text = record { status = Fine; text = text }

-- this status, and no text
abbrev pub no_text : Status → Outcome
no_text status = record { status = status; text = [] }
