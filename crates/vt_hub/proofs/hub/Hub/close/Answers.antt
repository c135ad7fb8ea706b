use Rattle.std.proofs.Common.{ℕ, ◌≤◌, List, length, subst, sym, ap, ◌∙◌}
use Rattle.std.specs.List.{count_by}
use Rattle.turn_lock.specs.Words.{lock_named, view}
use Rattle.turn_lock.specs.declared.view.View.{View}
use Rattle.atomic_table.specs.Seated.{TableId}
use Rattle.vt_events.specs.declared.entry.Entry.{Entry}
use Rattle.vt_hub.specs.Closed.{IsWhole}
use Rattle.vt_hub.specs.Shared.{SharedView}
use Rattle.vt_hub.specs.Views.{StewardView, is_out}
use Rattle.vt_hub.specs.declared.pass_place.PassPlace.{PassPlace}
use Rattle.vt_hub.proofs.Whole.{all_home, whole}
use Rattle.vt_journal.specs.Log.{Logged}
use Rattle.vt_journal.specs.Room.{IsWithin}
use Rattle.vt_journal.specs.declared.full.Full.{Full}
use Rattle.vt_journal.specs.declared.limits.Limits.{Limits}
use Rattle.vt_world.proofs.Stated.{screens_are_tapes-screens}
use Rattle.vt_hub.proofs.hub.Hub.close.Goals as goal

pub close-shared-requires-clause-all : goal.close-shared-requires-clause-all
close-shared-requires-clause-all g c = λ n made.
    let stands : List PassPlace = c.s.inside.stands in
    c.s.invariant.home n
    ∙ all_home stands (ap (λ (k : StewardView). count_by is_out k.stands) c.s.view_is ∙ c.requires.all) n
    (sym (c.s.invariant.made n) ∙ made)

pub returns : goal.returns
returns g c =
    let start = g.J.Opening.start in
    let most : Limits = g.J.Opening.limits in
    let hub : TableId = lock_named c.s.inside.place in
    let v : View Entry Full = view c.s.inside.place in
    let s : SharedView = c.close-shared.result in
    let l : Logged = c.parts-world.result.1 in
    let own : IsWithin l.limits l.entries = record {
      events = subst (λ (es : List Entry). length es ≤ l.limits.events)
          c.entries-entries.ensures.same c.entries-entries.ensures.within;
      bytes = subst (λ (n : ℕ). n ≤ l.limits.bytes) c.bytes-bytes.ensures.sum
          c.bytes-bytes.ensures.within;
    } in
    let within : IsWithin most s.log.entries =
    subst (λ (m : Limits). IsWithin m s.log.entries) c.sound.ensures.limits
    (subst (λ (t : Logged). IsWithin t.limits t.entries) c.parts-world.ensures.log own) in
    subst (λ (k : StewardView). IsWhole start most k c.parts-world.result.0 l c.parts-world.result.2)
    c.s.view_is
    (whole start most hub c.s.inside.stands v s c.sound.ensures c.close-shared.ensures c.parts-world.result.0 l
    c.parts-world.result.2 c.parts-world.ensures.world c.parts-world.ensures.log
    c.parts-world.ensures.stop within c.s.invariant.made screens_are_tapes-screens)
