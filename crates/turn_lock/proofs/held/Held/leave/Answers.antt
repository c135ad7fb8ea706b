use Rattle.std.proofs.Common.{◌∷◌, Some, ap, ◌∙◌, rules}
use Rattle.atomic_table.specs.Table.{rest}
use Rattle.turn_lock.proofs.Steps.{leaves_ok}
use Rattle.turn_lock.proofs.held.Held.leave.Goals as goal

pub fetch_add-served-requires : goal.fetch_add-served-requires
fetch_add-served-requires g c =
    let own = c.requires.own in
    let v = c.args.self.pass.now.place.me.0 in let k = c.args.self.value in
    let is = c.exchange-before.ensures.3 ∙ ap (λ cs. (v, (0, Some k) ∷ rest cs)) own.2 in (
      search rules,
      search rules,
      leaves_ok g.K.Kept.before g.K.Kept.entries g.K.Kept.seal g.K.Kept.right _ _ _ v k is own.1.0 own.1.1 own.3
          c.requires.told c.requires.seal,
    )
