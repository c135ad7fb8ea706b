use Rattle.std.proofs.Common.{subst}
use Rattle.vt_chars.specs.declared.decoded.Decoded.{Decoded}
use Rattle.vt_units.proofs.Sizes.{fewer_than_four, fewer_than_three, hidden_four, hidden_one, hidden_three, hidden_two, if_none}
use Rattle.vt_units.specs.Characters.{IsHidden}
use Rattle.vt_units.proofs.characters.any_character.Goals as goal

pub returns-in_err-shown-in-len1-up-clause-none : goal.returns-in_err-shown-in-len1-up-clause-none
returns-in_err-shown-in-len1-up-clause-none c =
    if_none _ _ (hidden_one c.args.b.now c.in-len1-up.len_at_least c.if-a-lt128.true
    (subst (λ (d : Decoded). IsHidden d) c.decode_one.ensures c.in_err-shown-in-len1-up.ensures.none))

pub returns-in_err-shown-in-len2-up-clause-none : goal.returns-in_err-shown-in-len2-up-clause-none
returns-in_err-shown-in-len2-up-clause-none c =
    if_none _ _ (hidden_two c.args.b.now c.in-len2-up.len_at_least c.if-a-lt128.false c.if-a-lt224.true
    (subst (λ (d : Decoded). IsHidden d) c.decode_two.ensures c.in_err-shown-in-len2-up.ensures.none))

pub returns-in_err-shown-in-len3-up-clause-none : goal.returns-in_err-shown-in-len3-up-clause-none
returns-in_err-shown-in-len3-up-clause-none c =
    if_none _ _ (hidden_three c.args.b.now c.in-len3-up.len_at_least c.if-a-lt224.false c.if-a-lt240.true
    (subst (λ (d : Decoded). IsHidden d) c.decode_three.ensures c.in_err-shown-in-len3-up.ensures.none))

pub returns-in_err-shown-in-len4-up-clause-none : goal.returns-in_err-shown-in-len4-up-clause-none
returns-in_err-shown-in-len4-up-clause-none c =
    if_none _ _ (hidden_four c.args.b.now c.in-len4-up.len_at_least c.if-a-lt240.false
    (subst (λ (d : Decoded). IsHidden d) c.decode_four.ensures c.in_err-shown-in-len4-up.ensures.none))

pub returns-in_default-3-clause-none : goal.returns-in_default-3-clause-none
returns-in_default-3-clause-none c = fewer_than_three c.args.b.now c.if-a-lt224.false c.in_default.len_below

pub returns-in_default-4-clause-none : goal.returns-in_default-4-clause-none
returns-in_default-4-clause-none c = fewer_than_four c.args.b.now c.if-a-lt240.false c.in_default.len_below
