use Rattle.std.proofs.Common.{◌≡◌, Some, sym, ◌∙◌, arith}
use Rattle.std.proofs.lemmas.Bool.Decides.{nat_tests}
use Rattle.vt_base.specs.Range.{in_range}
use Rattle.session_text.proofs.Consoles.{lowest_from_end, lowest_from_here, lowest_from_there}
use Rattle.session_text.proofs.header_fields.lowest.Goals as goal

pub returns-then-is_among-clause-lowest : goal.returns-then-is_among-clause-lowest
returns-then-is_among-clause-lowest c =
    let n = c.loop-n.n in
    let is : in_range 1 63 n ≡ Some n = grind (arith, nat_tests) in
    c.new.ensures
    ∙ is
    ∙ sym (lowest_from_here c.args.consoles n (omega arith) (sym c.is_among.ensures ∙ c.if-is_among.true))
    ∙ c.loop-n.invariant

pub loop-n-preserved : goal.loop-n-preserved
loop-n-preserved c =
    lowest_from_there c.args.consoles c.loop-n.n (omega arith)
    (sym c.is_among.ensures ∙ c.if-is_among.false)
    ∙ c.loop-n.invariant

pub returns-clause-lowest : goal.returns-clause-lowest
returns-clause-lowest c =
    sym (lowest_from_end c.args.consoles c.loop-n.n (omega arith)) ∙ c.loop-n.invariant
