use Rattle.std.proofs.Common.{◌∙◌}
use Rattle.vt_check.proofs.Tested.{counted_is, not_counted}
use Rattle.vt_check.proofs.judge.Judge.counted.Goals as goal

pub returns-then-entry-count-clause-counted : goal.returns-then-entry-count-clause-counted
returns-then-entry-count-clause-counted c = λ o h at.
    not_counted o h c.args.entry.now c.count.result c.if-entry-count.true
    (c.count.ensures o.programs h at.standing)

pub returns-clause-counted : goal.returns-clause-counted
returns-clause-counted c = λ o h at.
    counted_is (λ program. program.now) o h c.args.self.now c.args.entry.now c.program_of.result at
    (c.if-entry-count.false ∙ c.count.ensures o.programs h at.standing) c.program_of.ensures
