use Rattle.std.proofs.Common.{ap, sym, ◌∙◌}
use Rattle.vt_world.specs.Deeds.{apply_deeds}
use Rattle.vt_world.specs.State.{WorldState}
use Rattle.vt_world.specs.Typing.{read_deeds}
use Rattle.vt_world.specs.contracts.world.World.{the_view}
use Rattle.vt_world.proofs.Typed.{read_told}
use Rattle.vt_world.proofs.world.World.read.Goals as goal

pub returns-in-Some : goal.returns-in-Some
returns-in-Some c =
    let w : WorldState = the_view c.self.inside in
    read_told w c.type_key.new.self c.args.k c.args.n c.args.b c.in-Some.e c.read.new.self
    (sym c.read.ensures.event ∙ c.in-Some.is) c.read.ensures.rest c.type_key.ensures
    ∙ ap (λ (u : WorldState). apply_deeds u (read_deeds u c.args.k c.args.n c.args.b)) c.self.view_is
