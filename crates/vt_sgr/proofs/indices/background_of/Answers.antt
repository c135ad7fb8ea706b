use Rattle.std.proofs.Common.{ap, ◌∙◌, arith}
use Rattle.std.proofs.lemmas.Bool.Decides.{nat_tests}
use Rattle.vt_sgr.proofs.Tables.{ground_is, ground_low}
use Rattle.vt_sgr.specs.Sgr.{background_of}
use Rattle.vt_sgr.proofs.indices.background_of.Goals as goal

pub returns-clause-folded : goal.returns-clause-folded
returns-clause-folded c =
    ground_is c.from.result (omega (arith, c.from.ensures)) ∙ ap background_of c.from.ensures

pub returns-clause-colour : goal.returns-clause-colour
returns-clause-colour c =
    let low = ground_low c.from.result (omega (arith, c.from.ensures)) in
    grind (arith, nat_tests, low)
