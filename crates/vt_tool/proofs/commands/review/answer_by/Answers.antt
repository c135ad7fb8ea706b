use Rattle.std.proofs.Common.{ap, ◌∙◌, sym}
use Rattle.vt_tool.proofs.Made.{made_review, review_outcome}
use Rattle.vt_tool.proofs.commands.review.answer_by.Goals as goal

pub returns-in-Text : goal.returns-in-Text
returns-in-Text g c =
    made_review c.args.table c.args.session.now c.args.journal.now c.as_slice.result.now
    c.in_ok-text.field-0 _ (c.as_slice.ensures.value ∙ c.in_ok-ears.ensures)
    c.in_ok-text.ensures.judges c.in_ok-text.ensures.tells
    (c.fine.ensures ∙ ap review_outcome (sym c.in-Text.is))

pub returns : goal.returns
returns g c =
    made_review c.args.table c.args.session.now c.args.journal.now c.as_slice.result.now
    c.in_ok-text.field-0 _ (c.as_slice.ensures.value ∙ c.in_ok-ears.ensures)
    c.in_ok-text.ensures.judges c.in_ok-text.ensures.tells
    (c.illegal.ensures ∙ ap review_outcome (sym c.in-Illegal.is))
