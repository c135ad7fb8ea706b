use Rattle.std.proofs.Common.{◌<◌, ◌^◌, rules}
use Rattle.vt_base.proofs.Decimals.{none_to}
use Rattle.vt_base.proofs.decimal.parse_decimal.Goals as goal

pub returns-then-most-n-clause-none : goal.returns-then-most-n-clause-none
returns-then-most-n-clause-none c =
    let fits : c.in_ok-n.n < 2 ^ 64 = search rules in
    none_to c.args.word.now c.args.most c.in_ok-n.n fits c.if-most-n.true c.in_ok-n.ensures.found
