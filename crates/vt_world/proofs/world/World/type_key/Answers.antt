use Rattle.std.proofs.Common.{ap, sym, ◌∙◌}
use Rattle.vt_world.specs.Deeds.{apply_deeds}
use Rattle.vt_world.specs.State.{WorldState}
use Rattle.vt_world.specs.Terminals.{key_modes_of, terminal_at}
use Rattle.vt_world.specs.Typing.{key_on, typed_deeds}
use Rattle.vt_world.specs.contracts.world.World.{the_view}
use Rattle.vt_world.proofs.Typed.{typed_told}
use Rattle.vt_world.proofs.world.World.type_key.Goals as goal

pub returns : goal.returns
returns c =
    let w : WorldState = the_view c.self.inside in
    typed_told w c.take_key.new.self c.get.result c.args.n c.args.e c.key_modes-modes.result c.keys-keys.result
    c.key-out.new.self c.key-out.new.s c.key-out.result c.set_keys.new.self
    (c.key_modes-modes.ensures
    ∙ ap (λ (u : WorldState). key_modes_of (terminal_at u.terminals c.args.n)) (sym c.self.view_is))
    c.keys-keys.ensures
    c.key-out.ensures.keys c.key-out.ensures.state c.key-out.ensures.out c.set_keys.ensures
    c.take_key.ensures
    ∙ (λ i.
    apply_deeds (c.self.view_is i)
    (typed_deeds (c.self.view_is i) c.args.n
    (key_on (c.self.view_is i) (c.get.ensures.same i) c.args.n c.args.e)))
