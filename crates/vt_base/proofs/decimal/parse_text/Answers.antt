use Rattle.std.proofs.Common.{◌≡◌, ℕ, Option, sym, subst}
use Rattle.std.specs.Prelude.{IfSome, IfNone, decimal}
use Rattle.vt_base.proofs.Decimals.{found_by_parse, none_by_parse}
use Rattle.vt_base.specs.Decimal.{IsNoNumber}
use Rattle.vt_base.proofs.decimal.parse_text.Goals as goal

pub returns-clause-found : goal.returns-clause-found
returns-clause-found c =
    subst (λ (o : Option ℕ). IfSome o (λ n. decimal n ≡ c.args.word.now)) (sym c.ok.ensures.value)
    (found_by_parse _ c.args.word.now c.parse.result c.parse.ensures.value.0 c.requires)

pub returns-clause-none : goal.returns-clause-none
returns-clause-none c =
    subst (λ (o : Option ℕ). IfNone o (IsNoNumber c.args.word.now)) (sym c.ok.ensures.value)
    (none_by_parse _ c.args.word.now c.parse.result c.parse.ensures.value.0)
