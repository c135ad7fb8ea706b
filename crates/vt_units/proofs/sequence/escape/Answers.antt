use Rattle.std.proofs.Common.{◌∙◌, sym}
use Rattle.vt_units.proofs.Joined.{escape_csi, escape_dropped, escape_goes, escape-unit}
use Rattle.vt_units.proofs.sequence.escape.Goals as goal

pub returns-then-is_mid : goal.returns-then-is_mid
returns-then-is_mid c =
    escape_goes c.args.mode c.args.text.now c.mids_of-mids.result.now c.mids_of-mids.ensures.text
    c.mids_of-mids.ensures.mids c.args.b c.requires.room (sym c.is_mid.ensures ∙ c.if-is_mid.true)

pub returns-then-is_first : goal.returns-then-is_first
returns-then-is_first c =
    escape_csi c.args.mode c.args.text.now c.mids_of-mids.result.now c.mids_of-mids.ensures.text
    c.mids_of-mids.ensures.mids c.args.b c.requires.room (sym c.is_first.ensures ∙ c.if-is_first.true)

pub returns-then-is_within : goal.returns-then-is_within
returns-then-is_within c = rw c.escape_unit.ensures
    (escape-unit c.args.mode c.args.text.now c.mids_of-mids.result.now c.mids_of-mids.ensures.text
    c.mids_of-mids.ensures.mids c.args.b c.requires.room
    (sym c.is_mid.ensures ∙ c.if-is_mid.false)
    (sym c.opens_first.ensures ∙ c.if-opens_first.false)
    (sym c.is_first.ensures ∙ c.if-is_first.false)
    (sym c.is_first-else-is_first.ensures ∙ c.if-is_first-2.false)
    (sym c.is_within.ensures ∙ c.if-is_within.true))

pub returns-else-is_within : goal.returns-else-is_within
returns-else-is_within c =
    escape_dropped c.args.mode c.args.text.now c.mids_of-mids.result.now c.mids_of-mids.ensures.text
    c.mids_of-mids.ensures.mids c.args.b c.requires.room
    (sym c.is_mid.ensures ∙ c.if-is_mid.false)
    (sym c.opens_first.ensures ∙ c.if-opens_first.false)
    (sym c.is_first.ensures ∙ c.if-is_first.false)
    (sym c.is_first-else-is_first.ensures ∙ c.if-is_first-2.false)
    (sym c.is_within.ensures ∙ c.if-is_within.false)
