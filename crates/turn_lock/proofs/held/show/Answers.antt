use Rattle.std.proofs.Common.{rules, subst, ◌∙◌, ap}
use Rattle.turn_lock.specs.History.{word_of}
use Rattle.turn_lock.specs.Words.{AddsNext}
use Rattle.turn_lock.proofs.Steps.{shows_ok}
use Rattle.turn_lock.proofs.held.show.Goals as goal

pub store-requires : goal.store-requires
store-requires g c =
    let v = c.args.pass.now.place.me.0 in let has = c.requires.own.1 in (
      search rules,
      search rules,
      shows_ok g.K.Kept.before g.K.Kept.entries g.K.Kept.seal g.K.Kept.right _ _ _ has.0 has.1 c.requires.own.3
          c.requires.found g.J.Adding.more
          (subst (λ l. AddsNext l v) c.requires.more c.requires.adds)
          (subst g.K.Kept.right c.requires.more c.requires.right) c.args.front
          (c.requires.front ∙ ap (word_of g.K.Kept.before) c.requires.more),
    )
