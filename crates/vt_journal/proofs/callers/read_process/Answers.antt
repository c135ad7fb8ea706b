use Rattle.std.proofs.Common.{sym, ◌∙◌}
use Rattle.vt_journal.proofs.CallerWords.{no_process}
use Rattle.vt_journal.proofs.callers.read_process.Goals as goal

pub returns-then-get-eq0-clause-finds : goal.returns-then-get-eq0-clause-finds
returns-then-get-eq0-clause-finds c =
    λ p process same.
    no_process c.in_ok-caller.caller p c.args.digits.now (sym c.get.ensures.same ∙ c.if-get-eq0.true)
    c.in_ok-caller.ensures.finds process same
