use Rattle.std.proofs.Common.{◌≡◌, Some}
use Rattle.std.proofs.lemmas.Bool.{both_ways, eq-eqb}
use Rattle.vt_tool.proofs.commands.upgrade.is_newer.Goals as goal

pub returns-in-Some-clause-no : goal.returns-in-Some-clause-no
returns-in-Some-clause-no c = λ other has.
    let same : Some c.in-Some.version ≡ Some 2 = c.in-Some.ensures.one 2 has in
    let two : c.in-Some.version ≡ 2 = cc in
    both_ways _ other (eq-eqb c.in-Some.version 2 two)

pub returns-in-None-clause-no : goal.returns-in-None-clause-no
returns-in-None-clause-no c = λ other has. c.in-None.ensures.none 2 has
