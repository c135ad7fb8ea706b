-- After a call with the answer `wait`, a program has only `waitend`.
use Rattle.std.proofs.Common.{◌≡◌, ℕ, true, false, List, [], ◌∷◌, ◌++◌, Option, Some, refl, sym}
use Rattle.std.proofs.lemmas.Option.{none-some, same_Some}
use Rattle.sig_hooks.specs.declared.act.Act.{Act}
use Rattle.session_text.proofs.NextCalls.{Carries, behind_first, of_next, taken}
use Rattle.session_text.specs.Programs.{Call, WaitsAreEnded, calls, ends, next, nothing, signals_in, takes}
use Rattle.vt_events.specs.Plain.{plain_event}
use Rattle.vt_events.specs.Waits.{is_wait}
use Rattle.vt_events.specs.declared.event.Event.{Event}
use Rattle.vt_events.specs.declared.event.Event.TheVariants as event

-- the next call after a call with the answer `wait`
abbrev Ended : (List Call → Option Event) → Type 0
Ended f =
    (made : List Call) (c : Call) (e : Event) → is_wait c.reply ≡ true
    → f (made ++ c ∷ []) ≡ Some e → e ≡ event.WaitEnd

calls_ended : (e : Event) (behind : List Call → Option Event) → plain_event e ≡ e → Ended behind
    → Ended (calls e behind)
calls_ended e behind is_plain ended [] c next =
    elim (ends c.event c.reply) as (λ b. is_wait c.reply ≡ true → behind_first b (is_wait c.reply) behind [] ≡ Some next → next ≡ event.WaitEnd) [
      | true ↦ λ wait is. absurd (none-some next is)
      | false ↦ elim (is_wait c.reply) as (λ b. b ≡ true → behind_first false b behind [] ≡ Some next → next ≡ event.WaitEnd) [
        | true ↦ λ wait is. sym (same_Some event.WaitEnd next is)
        | false ↦ λ wait is. cc
      ]
    ]
calls_ended e behind is_plain ended (d ∷ made) c next =
    elim (ends d.event d.reply) as (λ b. is_wait c.reply ≡ true → behind_first b (is_wait d.reply) behind (made ++ c ∷ []) ≡ Some next → next ≡ event.WaitEnd) [
      | true ↦ λ wait is. absurd (none-some next is)
      | false ↦ elim (is_wait d.reply) as (λ b. is_wait c.reply ≡ true → behind_first false b behind (made ++ c ∷ []) ≡ Some next → next ≡ event.WaitEnd) [
        | true ↦ calls_ended event.WaitEnd behind refl ended made c next
        | false ↦ ended made c next
      ]
    ]

takes_ended : (table : List Act) (behind : List Call → Option Event) → ((set : ℕ) → Ended (taken table behind set))
    → Ended (takes table behind)
takes_ended table behind each [] c = each (signals_in c.reply) [] c
takes_ended table behind each (d ∷ made) c = each (signals_in d.reply) (d ∷ made) c

ended_carries : Carries Ended
ended_carries = record {
  exit = calls_ended event.Exit nothing refl (λ made c e wait is. absurd (none-some e is));
  first = calls_ended;
  handlers = takes_ended;
}

pub waits_are_ended : WaitsAreEnded
waits_are_ended p = of_next Ended ended_carries p
