-- The statements of rows, as the code has them.
use Rattle.key_text.specs.Lines.{StatementView, nothing, means, includes}
use Rattle.key_text.specs.View.{meaning_of}
use Rattle.key_text.specs.declared.statement.Statement.{Statement}
use Rattle.key_text.specs.declared.statement.Statement.TheVariants as sayings

-- a statement, by its content and not by the code's types
abbrev pub statement_view : Statement → StatementView
statement_view sayings.Nothing = nothing
statement_view (sayings.Means line) = means (meaning_of line.kind)
statement_view (sayings.Includes name at bad_end) = includes name.items at bad_end
