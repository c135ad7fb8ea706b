-- A caller's call after a known order: it is asked for, or it leads to a known order.
use Rattle.std.proofs.Common.{◌≡◌, ℕ, true, false, List, [], ◌∷◌, ◌++◌, length, Some, sym, ◌∙◌, subst}
use Rattle.std.proofs.lemmas.Option.{same_Some}
use Rattle.vt_explore.specs.Alike.{HasLike}
use Rattle.vt_explore.specs.Positions.{HasMade}
use Rattle.vt_explore.specs.Questions.{Wants}
use Rattle.vt_explore.specs.Searches.{EndsAsked, IsOpened, is_wanted}
use Rattle.vt_explore.specs.declared.position.Position.{Position}
use Rattle.session_order.specs.Ends.{Setup}
use Rattle.session_order.specs.Orders.{history_of}
use Rattle.session_order.specs.Serial.{call_now, entry_at}
use Rattle.vt_events.specs.Plain.{plain_reply}
use Rattle.vt_events.specs.declared.entry.Entry.{Entry}
use Rattle.vt_events.specs.declared.event.Event.{Event}
use Rattle.vt_events.specs.declared.reply.Reply.{Reply}
use Rattle.vt_world.specs.History.{replay}

-- what is asked of a machine that made the call
asked_is : (wants : Wants) (o : Setup) (h : List Entry) (p : ℕ) (e : Event) (r : Reply) (m : Position)
    → HasMade o h p e r m → is_wanted wants (replay o.start h) p e ≡ wants p e (plain_reply r) m.world
asked_is wants o h p e r m made = λ i. wants p e (sym made.reply i) (sym made.world i)

pub opened_call : (wants : Wants) (o : Setup) (known : List (List ℕ)) (h : List Entry) (p : ℕ) (e : Event) (r : Reply) (m : Position)
    → call_now o h p ≡ Some e → HasMade o h p e r m → wants p e (plain_reply r) m.world ≡ false
    → HasLike o known (h ++ entry_at o.start h p e ∷ []) → IsOpened wants o known h p
opened_call wants o known h p e r m now made isnt like = record {
  other = λ x is. subst (λ call. is_wanted wants (replay o.start h) p call ≡ false) (same_Some e x (sym now ∙ is))
      (asked_is wants o h p e r m made ∙ isnt);
  leads = λ x is. subst (λ call. HasLike o known (h ++ entry_at o.start h p call ∷ []))
      (same_Some e x (sym now ∙ is)) like;
}

pub found_call : (wants : Wants) (o : Setup) (order longer : List ℕ) (p : ℕ) (e : Event) (r : Reply) (m : Position)
    → call_now o (history_of o order) p ≡ Some e → HasMade o (history_of o order) p e r m
    → wants p e (plain_reply r) m.world ≡ true → longer ≡ order ++ p ∷ []
    → length (history_of o order) ≡ length order → EndsAsked wants o order longer
found_call wants o order longer p e r m now made is parts full = record {
  last = p;
  parts = parts;
  makes = record { call = e; now = now; wanted = asked_is wants o (history_of o order) p e r m made ∙ is };
  full = full;
}
