use Rattle.std.proofs.Common.{IfNone, subst}
use Rattle.vt_events.specs.declared.event.Event.{Event}
use Rattle.session_text.specs.ItemTexts.{IsSay}
use Rattle.session_text.proofs.ItemWords.{no_item}
use Rattle.session_text.proofs.item_texts.item.Goals as goal

pub returns-in-None-clause-none : goal.returns-in-None-clause-none
returns-in-None-clause-none c =
    no_item c.args.text.now c.call.result
    (subst (λ o. IfNone o ((e : Event) → IsSay c.args.text.now e → ⊥)) c.in-None.is
    c.in_ok-e.ensures.none)
    c.call.ensures.none
