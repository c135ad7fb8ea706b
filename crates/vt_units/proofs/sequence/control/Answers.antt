use Rattle.std.proofs.Common.{◌∙◌, sym}
use Rattle.vt_units.proofs.Joined.{control_bracket, control_dropped, control_goes, control-unit}
use Rattle.vt_units.proofs.sequence.control.Goals as goal

pub returns-then-is_body : goal.returns-then-is_body
returns-then-is_body c =
    control_goes c.args.mode c.args.text.now c.body_of-body.result.now c.body_of-body.ensures c.args.b
    c.requires.room (sym c.is_body.ensures ∙ c.if-is_body.true)

pub returns-then-is_first : goal.returns-then-is_first
returns-then-is_first c =
    control_bracket c.args.mode c.args.text.now c.body_of-body.result.now c.body_of-body.ensures c.args.b
    c.requires.room (sym c.is_body.ensures ∙ c.if-is_body.false) (sym c.is_first.ensures ∙ c.if-is_first.true)

pub returns-then-is_within : goal.returns-then-is_within
returns-then-is_within c = rw c.control_unit.ensures
    (control-unit c.args.mode c.args.text.now c.body_of-body.result.now c.body_of-body.ensures c.args.b
    c.requires.room (sym c.is_body.ensures ∙ c.if-is_body.false) (sym c.is_first.ensures ∙ c.if-is_first.false)
    (sym c.is_within.ensures ∙ c.if-is_within.true))

pub returns-else-is_within : goal.returns-else-is_within
returns-else-is_within c =
    control_dropped c.args.mode c.args.text.now c.body_of-body.result.now c.body_of-body.ensures c.args.b
    c.requires.room (sym c.is_body.ensures ∙ c.if-is_body.false) (sym c.is_first.ensures ∙ c.if-is_first.false)
    (sym c.is_within.ensures ∙ c.if-is_within.false)
