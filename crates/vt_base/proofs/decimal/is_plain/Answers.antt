use Rattle.std.proofs.Common.{length, sym, ◌∙◌}
use Rattle.std.proofs.lemmas.Bool.{eqb-true}
use Rattle.vt_base.proofs.Decimals.{none_without_digits, none_with_plus, none_with_zero_and_more}
use Rattle.vt_base.proofs.decimal.is_plain.Goals as goal

pub returns-then-is_empty-clause-other : goal.returns-then-is_empty-clause-other
returns-then-is_empty-clause-other c =
    none_without_digits c.args.word.now
    (eqb-true (length c.args.word.now) 0 (sym c.is_empty.ensures ∙ c.if-is_empty.true))

pub returns-then-word-eq43-clause-other : goal.returns-then-word-eq43-clause-other
returns-then-word-eq43-clause-other c = none_with_plus c.args.word.now c.if-word-eq43.true

pub returns-then-word-eq48-clause-other : goal.returns-then-word-eq48-clause-other
returns-then-word-eq48-clause-other c = none_with_zero_and_more c.args.word.now c.if-word-eq48.true
