use Rattle.std.proofs.Common.{ap, sym, ◌∙◌}
use Rattle.std.specs.Prelude.{option_copied}
use Rattle.screen_c.proofs.Pieces.{one_put}
use Rattle.screen_c.proofs.feeding.put_effect.Goals as goal

pub returns-in-Some-clause-places : goal.returns-in-Some-clause-places
returns-in-Some-clause-places c =
    one_put c.args.effect.now c.in-Some.out.now c.of.result c.args.places.now c.args.n
    (sym c.get.ensures ∙ ap option_copied c.in-Some.is) c.of.ensures c.requires.room
