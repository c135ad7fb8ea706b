use Rattle.std.proofs.Common.{Some, ap}
use Rattle.vt_journal.proofs.Firsts.{names_one}
use Rattle.vt_journal.proofs.first.version_of.Goals as goal

pub returns-in-Some-clause-one : goal.returns-in-Some-clause-one
returns-in-Some-clause-one c =
    λ version has.
    ap Some
    (names_one c.args.text.now c.in-Some.first.version c.in-Some.first.behind.now
    c.in-Some.ensures.version c.in-Some.ensures.found version has)

pub returns-in-None-clause-one : goal.returns-in-None-clause-one
returns-in-None-clause-one c = λ version has. absurd (c.in-None.ensures.none version has)
