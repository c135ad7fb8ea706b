use Rattle.std.proofs.Common.{◌%◌, ◌^◌, ◌∷◌, Some, ap, sym, subst, ◌∙◌, rules}
use Rattle.atomic_table.specs.Table.{rest}
use Rattle.turn_lock.specs.Views.{IsLive, ticket_of}
use Rattle.turn_lock.specs.declared.view.Stage.TheVariants.{Waits}
use Rattle.turn_lock.proofs.Looks.{looks_ok}
use Rattle.turn_lock.proofs.lock.TurnLock.take.Goals as goal

pub load-requires : goal.load-requires
load-requires g c =
    let same = c.loop.invariant.3 in let waits = ap (λ m. m.0.stage) same ∙ c.requires.ticket.2 in (
      search rules,
      search rules,
      looks_ok g.K.Kept.before g.K.Kept.entries g.K.Kept.seal g.K.Kept.right _ _ _
          (waits ∙ ap (λ t. Waits t) (sym (ap ticket_of waits)))
          (subst IsLive (sym (ap (λ m. m.0.role) same)) c.requires.live),
    )

pub exchange-requires : goal.exchange-requires
exchange-requires g c =
    let waits = ap (λ m. m.0.stage) c.loop.invariant.3 ∙ c.requires.ticket.2 in
    let took = c.load.ensures.2.0
    (c.if-load-ticket.true ∙ (c.requires.ticket.1
    ∙ ap (λ t. t % 2 ^ 64) (sym (ap ticket_of waits)))) in
    let carried = ap (λ m. m.1) took.1 in
    (search rules, (Some took.0, carried ∙ ap (λ cs. (0, Some took.0) ∷ rest cs) (sym carried)))
