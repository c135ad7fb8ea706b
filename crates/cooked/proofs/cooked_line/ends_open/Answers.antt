use Rattle.std.proofs.Common.{sym, ap, ◌∙◌}
use Rattle.cooked.proofs.KeptLaws.{open-end}
use Rattle.cooked.proofs.cooked_line.ends_open.Goals as goal
use Rattle.cooked.specs.Cooked.{ends_open}

pub returns-in-Some : goal.returns-in-Some
returns-in-Some c =
    sym
    (ap (ends_open c.args.erase) c.in-Some.ensures.cases.0
    ∙ open-end c.args.erase c.in-Some.field-0-1.now c.in-Some.b.now)
