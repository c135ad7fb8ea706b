use Rattle.std.proofs.Common.{ℕ, List, refl, sym, ◌∙◌}
use Rattle.std.proofs.lemmas.Option.{IfSome_then}
use Rattle.vt_units.proofs.Commons.{begins_longer, none_longer}
use Rattle.vt_units.proofs.Sizes.{none_then, take_three}
use Rattle.vt_units.proofs.characters.first_character.Goals as goal

pub returns-in-len3-up-clause-some : goal.returns-in-len3-up-clause-some
returns-in-len3-up-clause-some c =
    let text : List ℕ = c.args.b.now in
    IfSome_then c.common_character.result c.common_character.ensures.some
    (λ read. begins_longer text _ _ _ c.in-len3-up.len_at_least (take_three text c.in-len3-up.len_at_least) read.0 read.1)

pub returns-in-len3-up-clause-none : goal.returns-in-len3-up-clause-none
returns-in-len3-up-clause-none c =
    let text : List ℕ = c.args.b.now in
    none_then c.common_character.result _ _ c.common_character.ensures.none
    (none_longer text _ _ _ c.in-len3-up.len_at_least (take_three text c.in-len3-up.len_at_least)
    (sym c.is_common.ensures ∙ c.if-is_common.true) refl)
