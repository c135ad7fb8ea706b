use Rattle.std.proofs.Common.{◌≡◌, ◌∷◌, ◌+◌, true, drop, get_or, length, sym, ap, ◌∙◌, arith}
use Rattle.std.proofs.lemmas.List.{drop_more}
use Rattle.vt_events.specs.declared.event.Event.{Event}
use Rattle.vt_events.specs.Waits.{is_wait}
use Rattle.session_text.specs.Walks.{Place}
use Rattle.session_text.proofs.Walks.{item_moves}
use Rattle.session_text.proofs.walk.Walk.took_item.Goals as goal

pub returns : goal.returns
returns c =
    λ table none.
    let w = c.args.self.now in
    let events = c.args.items.now.events in
    let e : Event = c.index-events-self.result in
    let item = ap (λ (w : Place). w.item) c.self.view_is in
    let len = ap length c.as_slice-events.ensures in
    let at : get_or events w.item e ≡ e =
    (λ i. get_or (sym c.as_slice-events.ensures i) (sym item i) e) ∙ sym c.index-events-self.is in
    item_moves table c.args.items.now w _ c.args.r.now e c.requires none
    (drop_more events w.item e (omega (arith, item, len))
    ∙ ap (λ x. x ∷ drop (w.item + 1) events) at)
    (c.answered-2.ensures
    ∙ (λ i. record (c.self.view_is i) {
      item = (c.self.view_is i).item + 1;
      taking = true;
      waiting = is_wait c.args.r.now;
      over = c.ends-ends.ensures i;
    }))
