-- The worker of one caller and its calls.
use Rattle.std.proofs.Common.{◌≡◌, ◌⊎◌, ℕ, Bool, true, false, ⊎_elim, inl, inr, true≢false, List, [], ◌∷◌, ◌++◌, map, Option, Some, None, refl, sym, ap, ◌∙◌, subst}
use Rattle.std.proofs.lemmas.Bool.{cases_Bool}
use Rattle.std.proofs.lemmas.List.{map-append}
use Rattle.std.proofs.lemmas.Option.{none-some, same_Some}
use Rattle.atomic_table.specs.Seated.{TableId}
use Rattle.session_order.specs.Calls.{as_meant, call_of}
use Rattle.session_order.specs.Meant.{NextIsMeant, NextIsPlain}
use Rattle.session_order.proofs.Standings.{Walks, next_after, stands_more}
use Rattle.session_order.specs.Races.{IsRun, RunsGrow}
use Rattle.session_order.specs.Standing.{IsWalkAfter}
use Rattle.session_run.specs.Racing.{Works}
use Rattle.session_text.specs.Programs.{Call, WaitsAreEnded, call, next}
use Rattle.session_text.specs.Walks.{Place, Stands}
use Rattle.session_text.specs.declared.program.Program.{Program}
use Rattle.vt_events.specs.Plain.{plain_event, plain_reply}
use Rattle.vt_events.specs.Waits.{is_wait}
use Rattle.vt_events.specs.declared.entry.Entry.{Entry}
use Rattle.vt_events.specs.declared.event.Event.{Event}
use Rattle.vt_events.specs.declared.event.Event.TheVariants as event
use Rattle.vt_events.specs.declared.reply.Reply.{Reply}
use Rattle.vt_events.specs.declared.reply.Reply.TheVariants as reply
use Rattle.turn_lock.specs.declared.seal.Seal.{Seal}
use Rattle.vt_hub.specs.Answers.{Answers, Called, Stopped}
use Rattle.vt_hub.specs.Histories.{awaits, waits_by}
use Rattle.vt_hub.specs.Views.{PassView}
use Rattle.vt_hub.specs.declared.answer.Answer.{Answer}
use Rattle.vt_hub.specs.declared.answer.Answer.TheVariants as answer
use Rattle.vt_journal.specs.declared.full.Full.{Full}
use Rattle.vt_journal.specs.declared.limits.Limits.{Limits}
use Rattle.vt_world.specs.State.{WorldState}
use Rattle.vt_world.specs.Refusals.{ends_wait}

-- a worker on its way: its pass made a run of the program, after which the walk stands
pub record AtWork (program : Program) (walk : Place) (here : TableId) (number : ℕ) (q : PassView) : Type 0 where
  pub own : q.hub ≡ here
  pub numbered : q.number ≡ number
  pub goes : q.stop ≡ None
  pub run : IsRun program q.mine
  pub stands : IsWalkAfter program walk (map call_of q.mine)

-- the next call of a walk
abbrev pub Gives : Program → Place → Option Event → Type 0
Gives program walk e = (made : List Call) → Stands program walk made → e ≡ next program made

-- entries that end with an answer wait
abbrev LastWaits : List Entry → Type 0
LastWaits entries =
    (made : List Entry) × (last : Entry) × (entries ≡ made ++ last ∷ []) × (is_wait last.reply ≡ true)

last_waits : (known : Bool) (entries : List Entry) → waits_by known entries ≡ true
    → ((known ≡ true) × (entries ≡ [])) ⊎ LastWaits entries
last_waits known [] is = inl (is, refl)
last_waits known (e ∷ entries) is = ⊎_elim
    (λ here. inr ([], e, ap (λ es. e ∷ es) here.1, here.0))
    (λ behind. inr (e ∷ behind.0, behind.1, ap (λ es. e ∷ es) behind.2, behind.3))
    (last_waits (is_wait e.reply) entries is)

wait_plain : (r : Reply) → is_wait (plain_reply r) ≡ is_wait r
wait_plain (reply.Text b) = refl
wait_plain r = refl

-- if the next call isn't waitend, the last answer wasn't wait
pub not_waiting : NextIsMeant → WaitsAreEnded → (program : Program) (walk : Place) (here : TableId) (number : ℕ) (q : PassView) (e : Event)
    → AtWork program walk here number q → Gives program walk (Some e) → ends_wait e ≡ false
    → awaits q.mine ≡ false
not_waiting is_meant ended program walk here number q e at gives goes = ⊎_elim
    (λ waits. ⊎_elim
    (λ known. absurd (true≢false (sym known.0)))
    (λ behind.
    let made : List Entry = behind.0 in
    let last : Entry = behind.1 in
    let calls : map call_of q.mine ≡ map call_of made ++ call_of last ∷ [] =
    ap (map call_of) behind.2 ∙ map-append call_of made (last ∷ []) in
    let is : next program (map call_of made ++ call_of last ∷ []) ≡ Some e =
    sym (ap (next program) calls) ∙ sym (next_after is_meant program walk (map call_of q.mine) (Some e) at.stands gives) in
    let same : e ≡ event.WaitEnd =
    ended program (map call_of made) (call_of last) e (wait_plain last.reply ∙ behind.3) is in
    absurd (true≢false (sym (ap ends_wait same) ∙ goes)))
    (last_waits false q.mine waits))
    (λ waits. waits)
    (cases_Bool (awaits q.mine))

-- one call more
works_on : NextIsMeant → NextIsPlain → RunsGrow → (start : WorldState) (most : Limits) (program : Program) (walk moved : Place) (here : TableId) (number : ℕ) (e : Event) (v w : PassView) (place : ℕ) (r : Reply)
    → AtWork program walk here number v → Gives program walk (Some e)
    → Called start most e v w place r → Walks program walk moved r
    → AtWork program moved here number w
works_on is_meant is_plain grows start most program walk moved here number e v w place r at gives called walks =
    let next_is : next program (map call_of v.mine) ≡ Some e =
    sym (next_after is_meant program walk (map call_of v.mine) (Some e) at.stands gives) in
    let plain : plain_event e ≡ e = is_plain program (map call_of v.mine) e next_is in
    let entry : Entry = called.entry in
    let event : plain_event entry.event ≡ e = ap plain_event called.event ∙ plain in
    let run : IsRun program (v.mine ++ entry ∷ []) =
    grows program v.mine entry at.run (next_is ∙ ap Some (sym event)) in
    let call_is : as_meant (call e r) ≡ call_of entry =
    λ i. call (plain_event (sym called.event i)) (sym called.reply i) in
    let calls : map call_of v.mine ++ as_meant (call e r) ∷ [] ≡ map call_of w.mine =
    ap (λ c. map call_of v.mine ++ c ∷ []) call_is
    ∙ sym (map-append call_of v.mine (entry ∷ []))
    ∙ sym (ap (map call_of) called.mine) in
    let stands : IsWalkAfter program moved (map call_of v.mine ++ as_meant (call e r) ∷ []) =
    stands_more is_meant program walk moved (map call_of v.mine) e r at.stands walks next_is in
    record {
      own = called.hub ∙ at.own;
      numbered = called.number ∙ at.numbered;
      goes = called.goes_on;
      run = subst (IsRun program) (sym called.mine) run;
      stands = subst (IsWalkAfter program moved) calls stands;
    }

pub works-on : NextIsMeant → NextIsPlain → RunsGrow → (start : WorldState) (most : Limits) (program : Program) (walk moved : Place) (here : TableId) (number : ℕ) (e : Event) (v w : PassView) (place : ℕ) (r : Reply) (a : Answer)
    → AtWork program walk here number v → Gives program walk (Some e)
    → Answers start most e v w a → a ≡ answer.Done place r → Walks program walk moved r
    → AtWork program moved here number w
works-on is_meant is_plain grows start most program walk moved here number e v w place r a at gives answers is walks =
    let called : Called start most e v w place r = subst (Answers start most e v w) is answers in
    works_on is_meant is_plain grows start most program walk moved here number e v w place r at gives called walks

-- its program is over
pub works_over : NextIsMeant → (program : Program) (walk : Place) (here : TableId) (number : ℕ) (q : PassView)
    → AtWork program walk here number q → Gives program walk None → Works program q
works_over is_meant program walk here number q at gives = record {
  run = at.run;
  over = λ none. sym (next_after is_meant program walk (map call_of q.mine) None at.stands gives);
  left = λ z met. absurd (none-some z (sym at.goes ∙ met));
}

-- its call found the hub stopped, or no room
pub works_stopped : NextIsMeant → (start : WorldState) (most : Limits) (program : Program) (walk : Place) (here : TableId) (number : ℕ) (e : Event) (v w : PassView) (full : Full) (a : Answer)
    → AtWork program walk here number v → Gives program walk (Some e)
    → Answers start most e v w a → a ≡ answer.Full full → Works program w
works_stopped is_meant start most program walk here number e v w full a at gives answers is =
    let stopped : Stopped start most e v w full = subst (Answers start most e v w) is answers in
    let stop : Seal Full = record { by = stopped.by; what = full } in
    let next_is : next program (map call_of w.mine) ≡ Some e =
    ap (λ made. next program (map call_of made)) stopped.mine
    ∙ sym (next_after is_meant program walk (map call_of v.mine) (Some e) at.stands gives) in
    record {
      run = subst (IsRun program) (sym stopped.mine) at.run;
      over = λ none. absurd (none-some stop (sym none ∙ stopped.met));
      left = λ z met own.
          let same : z ≡ stop = same_Some z stop (sym met ∙ stopped.met) in
          let by : stopped.by ≡ v.number = sym (ap (λ (s : Seal Full). s.by) same) ∙ own ∙ stopped.number in
          record {
            call = e;
            next = next_is;
            charge_is = sym (ap (λ (s : Seal Full). s.what.charge) same ∙ stopped.charge at.goes by);
          };
    }
