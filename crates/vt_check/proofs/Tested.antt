-- The meaning of a judge's tests.
use Rattle.std.proofs.Common.{◌≡◌, ◌↔◌, ℕ, Bool, false, ◌&&◌, List, Option, Some, None, is_some, refl, sym, ap, ◌∙◌, arith}
use Rattle.std.specs.Prelude.{◌==◌, IsTrue, count_by, option_map}
use Rattle.std.proofs.lemmas.Bool.{false≢true}
use Rattle.std.proofs.lemmas.Option.{same_Some}
use Rattle.vt_events.proofs.Meant.{plain-twice}
use Rattle.session_order.proofs.Turns.{event_plain}
use Rattle.session_order.specs.Calls.{next_by}
use Rattle.session_order.specs.Ends.{Setup}
use Rattle.session_order.specs.Follows.{IsNextCall, is_waiting}
use Rattle.session_text.specs.Programs.{program_of}
use Rattle.session_text.specs.declared.program.Program.{Program}
use Rattle.vt_check.specs.Judging.{IsAfter}
use Rattle.vt_check.specs.Verdicts.{IsAnswered, IsCounted}
use Rattle.vt_check.specs.declared.judge.Judge.{Judge}
use Rattle.vt_events.specs.Plain.{plain_event, plain_reply}
use Rattle.vt_events.specs.declared.entry.Entry.{Entry}
use Rattle.vt_events.specs.declared.event.Event.{Event}
use Rattle.vt_events.specs.declared.reply.Reply.{Reply}
use Rattle.vt_world.specs.History.{replay}
use Rattle.vt_world.specs.Refusals.{ends_wait}
use Rattle.vt_world.specs.State.{WorldState}
use Rattle.vt_world.specs.Step.{Outcome, step}

-- the answer was compared with the machine's
pub answered_is : (o : Setup) (h : List Entry) (view : Judge) (entry : Entry) (after : WorldState) (reply : Reply) (same : Bool)
    → IsAfter o h view
    → step view.world entry.caller entry.event ≡ record { world = after; reply = plain_reply reply }
    → (IsTrue same ↔ (plain_reply reply ≡ plain_reply entry.reply))
    → IsTrue same ↔ IsAnswered o h entry
answered_is o h view entry after reply same at stepped compared =
    let answer : plain_reply reply ≡ (step (replay o.start h) entry.caller entry.event).reply =
    sym (ap (λ (x : Outcome). x.reply) stepped)
    ∙ ap (λ w. (step w entry.caller entry.event).reply) at.replayed in
    (λ is. sym (compared.0 is) ∙ answer, λ is. compared.1 (answer ∙ sym is))

-- the next call of the walk was compared with the entry's
pub next_is : (o : Setup) (h : List Entry) (view : Judge) (entry : Entry) (goes same : Bool) (call : Event)
    → IsAfter o h view → goes ≡ false
    → goes ≡ (ends_wait entry.event && is_waiting view.world entry.caller)
    → Some call ≡ next_by o.programs entry.caller h
    → (IsTrue same ↔ (plain_event call ≡ plain_event entry.event))
    → IsTrue same ↔ IsNextCall o.start o.programs h entry
next_is o h view entry goes same call at going test found compared =
    let plain = event_plain o.programs entry.caller h call (sym found) in (
      λ is. record {
        next = sym found ∙ ap Some (sym plain ∙ compared.0 is);
        ended = λ ends. grind (arith, at.replayed);
      },
      λ next.
          compared.1 (ap plain_event (same_Some call _ (found ∙ next.next)) ∙ plain-twice entry.event),
    )

-- the program of a caller of the session
pub program_is : (o : Setup) (h : List Entry) (view : Judge) (p : ℕ) (program : Program) → IsAfter o h view
    → program_of view.programs.now p ≡ Some program → program_of o.programs p ≡ Some program
program_is o h view p program at is = cc

-- an entry whose number doesn't count its caller's calls, and one whose number does
pub not_counted : (o : Setup) (h : List Entry) (entry : Entry) (count : ℕ)
    → (entry.seq ≡ count → ⊥) → count ≡ count_by (λ earlier. earlier.caller == entry.caller) h
    → IsTrue false ↔ IsCounted o h entry
not_counted o h entry count other counted =
    (λ no_way. absurd (false≢true no_way), λ is. absurd (other (is.number ∙ sym counted)))

pub counted_is : {A : Type 0} (read : A → Program) (o : Setup) (h : List Entry) (view : Judge) (entry : Entry)
    (found : Option A) → IsAfter o h view
    → entry.seq ≡ count_by (λ earlier. earlier.caller == entry.caller) h
    → option_map read found ≡ program_of view.programs.now entry.caller
    → IsTrue (is_some found) ↔ IsCounted o h entry
counted_is {A = A} read o h view entry found at number finds =
    let has : is_some found ≡ is_some (program_of o.programs entry.caller) =
    some_map found ∙ (λ i. is_some (finds i))
    ∙ (λ i. is_some (program_of (at.programs i) entry.caller)) in (
      λ is. record { caller = sym has ∙ is; number = number },
      λ is. has ∙ is.caller,
    )
  where
    some_map : (found : Option A) → is_some found ≡ is_some (option_map read found)
    some_map (Some x) = refl
    some_map None = refl
