use Rattle.std.proofs.Common.{◌<◌, ap, ◌∙◌, arith}
use Rattle.vt_sgr.proofs.Tables.{ink_bold, ink_hue}
use Rattle.vt_sgr.specs.Sgr.{foreground_of}
use Rattle.vt_sgr.proofs.indices.foreground_of.Goals as goal

pub returns-clause-folded : goal.returns-clause-folded
returns-clause-folded c =
    let below : c.from.result < 256 = omega (arith, c.from.ensures) in
    (λ i. (ink_hue c.from.result below i, ink_bold c.from.result below i)) ∙ ap foreground_of c.from.ensures
