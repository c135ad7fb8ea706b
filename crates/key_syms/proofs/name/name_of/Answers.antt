use Rattle.std.proofs.Common.{◌≡◌, ◌≤◌, ◌∙◌, IsTrue, List, ℕ, ltb, ap, length, subst, sym, unwrap_or, arith, below_more}
use Rattle.std.specs.List.{list_all}
use Rattle.key_syms.specs.Names.{code_name, name_text}
use Rattle.key_syms.specs.declared.table.TheConstants.{NAME_COUNT}
use Rattle.key_syms.proofs.Rows.{OthersBelow, first_name_found, first_name_missing, row, row_name, same_act-true}
use Rattle.key_syms.proofs.name.name_of.Goals as goal

pub text_of-requires-clause-short : goal.text_of-requires-clause-short
text_of-requires-clause-short c =
    let place = c.loop-place.place in
    subst (λ (name : List ℕ). length name ≤ 32) (sym (c.name_at.ensures ∙ row_name place c.loop-place-test.true)) (row place c.loop-place-test.true).short

pub text_of-requires-clause-ascii : goal.text_of-requires-clause-ascii
text_of-requires-clause-ascii c =
    let place = c.loop-place.place in
    subst (λ (name : List ℕ). IsTrue (list_all (λ b. ltb b 128) name)) (sym (c.name_at.ensures ∙ row_name place c.loop-place-test.true)) (row place c.loop-place-test.true).ascii

pub returns-then-is_action_of : goal.returns-then-is_action_of
unfolding name_text
returns-then-is_action_of c =
    let found = first_name_found c.args.a c.loop-place.place c.loop-place-test.true c.loop-place.invariant (same_act-true _ _ (sym c.is_action_of.ensures ∙ c.if-is_action_of.true)) in
    c.text_of.ensures ∙ c.name_at.ensures ∙ sym (ap (λ name. unwrap_or name (code_name c.args.a)) found)

pub loop-place-preserved : goal.loop-place-preserved
loop-place-preserved c =
    below_more _ _ c.loop-place.invariant (sym c.is_action_of.ensures ∙ c.if-is_action_of.false)

pub returns : goal.returns
unfolding name_text
returns c =
    let ends : c.loop-place.place ≡ NAME_COUNT = omega arith in
    let missing = first_name_missing c.args.a (subst (λ (n : ℕ). OthersBelow c.args.a n) ends c.loop-place.invariant) in
    c.code_name.ensures ∙ sym (ap (λ name. unwrap_or name (code_name c.args.a)) missing)
