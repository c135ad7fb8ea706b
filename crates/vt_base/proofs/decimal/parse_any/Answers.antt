use Rattle.vt_base.proofs.Decimals.{none_without_text}
use Rattle.vt_base.proofs.decimal.parse_any.Goals as goal

pub returns-in-Err-clause-none : goal.returns-in-Err-clause-none
returns-in-Err-clause-none c = none_without_text c.args.word.now c.in-Err.ensures.cases.0
