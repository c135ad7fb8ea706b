use Rattle.std.proofs.Common.{◌∙◌, get_or, arith}
use Rattle.std.proofs.lemmas.Bool.{eq-eqb, ne_eqb}
use Rattle.vt_units.proofs.ShortForms.{three_exact}
use Rattle.vt_units.proofs.ShortSequences.{three_are}
use Rattle.vt_units.proofs.long_sgr_ahead.three_numbers.Goals as goal

pub returns-clause-sequence : goal.returns-clause-sequence
returns-clause-sequence c =
    three_are c.args.b.now c.args.first c.args.second c.args.third 4 6 c.args.end
    c.requires.begins c.requires.first (omega arith) c.requires.second c.requires.third
    (omega (arith, c.requires.begins.long)) c.requires.one (omega (arith, c.requires.begins.long)) c.requires.two
    (omega arith) c.if-b-end-ne109.false

pub returns-then-b-end-ne109-clause-exact : goal.returns-then-b-end-ne109-clause-exact
returns-then-b-end-ne109-clause-exact c =
    three_exact c.args.b.now c.args.third c.args.end c.requires.within c.requires.colour c.requires.way
    c.requires.third c.requires.few c.requires.stops
    ∙ ne_eqb (get_or c.args.b.now c.args.end 0) 0x6D c.if-b-end-ne109.true

pub returns-clause-exact : goal.returns-clause-exact
returns-clause-exact c =
    three_exact c.args.b.now c.args.third c.args.end c.requires.within c.requires.colour c.requires.way
    c.requires.third c.requires.few c.requires.stops
    ∙ eq-eqb (get_or c.args.b.now c.args.end 0) 0x6D c.if-b-end-ne109.false
