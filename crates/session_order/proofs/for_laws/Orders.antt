-- The history of an order is legal and follows the programs, and each such history is that of an order.
use Rattle.std.proofs.Common.{◌≡◌, ℕ, zero, suc, Bool, true, false, List, [], ◌∷◌, ◌++◌, map, take, Option, Some, None, refl, sym, ap, ◌∙◌, subst, append-nil}
use Rattle.std.proofs.lemmas.Bool.{both_ways, false_from_ne_true, false≢true}
use Rattle.std.proofs.lemmas.List.{append_assoc, map-append}
use Rattle.std.proofs.lemmas.Option.{none-some, same_Some}
use Rattle.std.specs.Prelude.{slice_get, if◌then◌else◌}
use Rattle.session_order.proofs.for_laws.Lively.{HasWaitEnd, IsLively, Now, lively_more}
use Rattle.session_order.proofs.for_laws.Meant.{counts_meant, next_meant, replay_meant, step_meant, wait_meant, waiting_meant}
use Rattle.session_order.proofs.for_laws.Progress.{Lives, lively_start, replay_more}
use Rattle.session_order.proofs.Steps.{answers}
use Rattle.session_order.proofs.Turns.{EachIs, each_more, each_none, event_plain, now_is}
use Rattle.session_order.specs.Calls.{call_of, next_by}
use Rattle.session_order.specs.Ends.{Setup}
use Rattle.session_order.specs.Follows.{Follows, IsNextCall, is_waiting}
use Rattle.session_order.specs.Laws.{IsFromStart}
use Rattle.session_order.specs.Meant.{plain_history}
use Rattle.session_order.specs.Orders.{EntriesAreTurns, HistoriesAreOrders, OrdersAreLegal, after_turn, after_turns, history_of, order_of, with_call}
use Rattle.session_order.specs.Serial.{call_now, entry_at}
use Rattle.session_text.specs.Programs.{call}
use Rattle.vt_events.specs.Plain.{plain_entry, plain_event, plain_reply}
use Rattle.vt_events.specs.declared.entry.Entry.{Entry}
use Rattle.vt_events.specs.declared.event.Event.{Event}
use Rattle.vt_events.specs.declared.event.Event.TheVariants as event
use Rattle.vt_events.specs.declared.reply.Reply.{Reply}
use Rattle.vt_procs.specs.Callers.{caller_at}
use Rattle.vt_procs.specs.Tickets.{is_open}
use Rattle.vt_procs.specs.declared.waiting.Waiting.{Waiting}
use Rattle.vt_procs.specs.declared.waiting.Waiting.TheVariants.{Nothing, Open, Done, Broken}
use Rattle.vt_world.proofs.for_laws.Ages.{holds}
use Rattle.vt_world.specs.History.{IsLegal, IsNext, replay}
use Rattle.vt_world.specs.Refusals.{ends_wait}
use Rattle.vt_world.specs.State.{WorldState}
use Rattle.vt_world.specs.Step.{Outcome, step}

-- a history that is legal and follows the programs
record IsFine (o : Setup) (h : List Entry) : Type 0 where
  legal : IsLegal o.start h
  follows : Follows o.start o.programs h

fine_call : (o : Setup) (p : ℕ) (h : List Entry) (now : Option Event) → call_now o h p ≡ now → IsFine o h
    → IsFine o (with_call o p now h)
fine_call o p h None is fine = fine
fine_call o p h (Some e) is fine =
    let made : (is_waiting (replay o.start h) p ≡ false) × (next_by o.programs p h ≡ Some e) =
    now_is (is_waiting (replay o.start h) p) (next_by o.programs p h) e is in
    let entry : Entry = entry_at o.start h p e in
    let is_next : IsNext o.start h entry = record {
      answer = (answers (replay o.start h) p e).plain;
      number = refl;
    } in
    let is_call : IsNextCall o.start o.programs h entry = record {
      next = made.1 ∙ ap Some (sym (event_plain o.programs p h e made.1));
      ended = λ waitend. made.0;
    } in
    record {
      legal = each_more (IsNext o.start) h entry fine.legal is_next;
      follows = each_more (IsNextCall o.start o.programs) h entry fine.follows is_call;
    }

fine_turns : (o : Setup) (order : List ℕ) (h : List Entry) → IsFine o h → IsFine o (after_turns o order h)
fine_turns o [] h fine = fine
fine_turns o (p ∷ order) h fine =
    fine_turns o order (after_turn o p h) (fine_call o p h (call_now o h p) refl fine)

pub orders_are_legal : OrdersAreLegal
orders_are_legal o order =
    let fine : IsFine o (history_of o order) =
    fine_turns o order []
    (record { legal = each_none (IsNext o.start); follows = each_none (IsNextCall o.start o.programs) }) in
    (fine.legal, fine.follows)

-- an open ticket is a ticket
open_held : (waiting : Waiting) → is_open waiting ≡ true → holds waiting ≡ true
open_held Nothing is = absurd (false≢true is)
open_held (Open ticket) is = refl
open_held Done is = absurd (false≢true is)
open_held Broken is = absurd (false≢true is)

-- the turn of an entry's caller makes that entry
record Turned (o : Setup) (before : List Entry) (entry : Entry) : Type 0 where
  now : call_now o (plain_history before) entry.caller ≡ Some (plain_event entry.event)
  entered :
      entry_at o.start (plain_history before) entry.caller (plain_event entry.event) ≡ plain_entry entry
  lives : Lives o (before ++ entry ∷ [])

turned : (o : Setup) (before : List Entry) (entry : Entry) → Lives o before → IsNext o.start before entry
    → IsNextCall o.start o.programs before entry → Turned o before entry
turned o before entry lives legal follows =
    let p : ℕ = entry.caller in
    let e : Event = plain_event entry.event in
    let w : WorldState = replay o.start before in
    let shut : is_waiting w p ≡ false =
    false_from_ne_true (is_waiting w p)
    (λ waits.
    let has : HasWaitEnd p (next_by o.programs p before) =
    lives.waits p (open_held (caller_at w.callers p).waiting waits) in
    let same : event.WaitEnd ≡ e = same_Some event.WaitEnd e (sym has.waitend ∙ follows.next) in
    let waitend : ends_wait e ≡ true = subst (λ x. ends_wait x ≡ true) same refl in
    both_ways (is_waiting w p) (follows.ended (sym (wait_meant entry.event) ∙ waitend)) waits) in
    let answer : plain_reply entry.reply ≡ (step w p e).reply =
    legal.answer ∙ sym (ap (λ (x : Outcome). x.reply) (step_meant w p entry.event)) in
    let there : (step (replay o.start (plain_history before)) p e).reply ≡ plain_reply entry.reply =
    (λ i. (step (replay_meant o.start before i) p e).reply) ∙ sym answer in
    let number = counts_meant p before ∙ sym legal.number in
    let now : Now o.programs before w p e = record { next = follows.next; shut = shut } in
    record {
      now =
          ap (λ b. if b then None else next_by o.programs p (plain_history before)) (waiting_meant o.start p before ∙ shut)
          ∙ next_meant o.programs p before
          ∙ follows.next;
      entered = λ i. record { caller = p; seq = number i; event = e; reply = there i };
      lives =
          subst (λ (x : WorldState). IsLively o.programs (before ++ entry ∷ []) x.callers)
          (ap (λ (x : Outcome). x.world) (step_meant w p entry.event) ∙ sym (replay_more o.start before entry))
          (lively_more o.programs before w p e entry lives now refl (λ i. call e (answer i)));
    }

-- after these entries, the rest of a history is that of the order of its callers
record Walked (o : Setup) (before rest : List Entry) : Type 0 where
  same : after_turns o (order_of rest) (plain_history before) ≡ plain_history (before ++ rest)
  lives : Lives o (before ++ rest)

walk : (o : Setup) (before rest : List Entry) → Lives o before
    → EachIs (λ made entry. IsNext o.start (before ++ made) entry) rest
    → EachIs (λ made entry. IsNextCall o.start o.programs (before ++ made) entry) rest
    → Walked o before rest
walk o before [] lives legal follows = record {
  same = ap plain_history (sym (append-nil before));
  lives = subst (Lives o) (sym (append-nil before)) lives;
}
walk o before (entry ∷ rest) lives legal follows =
    let p : ℕ = entry.caller in
    let more : List Entry = before ++ entry ∷ [] in
    let one : Turned o before entry =
    turned o before entry lives (subst (λ b. IsNext o.start b entry) (append-nil before) (legal 0 entry refl))
    (subst (λ b. IsNextCall o.start o.programs b entry) (append-nil before) (follows 0 entry refl)) in
    let shift : (made : List Entry) → before ++ entry ∷ made ≡ more ++ made =
    λ made. sym (append_assoc before (entry ∷ []) made) in
    let others : Walked o more rest =
    walk o more rest one.lives
    (λ k x is. subst (λ b. IsNext o.start b x) (shift (take k rest)) (legal (suc k) x is))
    (λ k x is. subst (λ b. IsNextCall o.start o.programs b x) (shift (take k rest)) (follows (suc k) x is)) in
    let made : after_turn o p (plain_history before) ≡ plain_history more =
    ap (λ now. with_call o p now (plain_history before)) one.now
    ∙ ap (λ x. plain_history before ++ x ∷ []) one.entered
    ∙ sym (map-append plain_entry before (entry ∷ [])) in
    record {
      same = ap (after_turns o (order_of rest)) made ∙ others.same ∙ ap plain_history (sym (shift rest));
      lives = subst (Lives o) (sym (shift rest)) others.lives;
    }

walked : (o : Setup) (h : List Entry) → IsFromStart o → IsLegal o.start h → Follows o.start o.programs h
    → Walked o [] h
walked o h is legal follows =
    walk o [] h
    (subst (λ (w : WorldState). IsLively o.programs [] w.callers) (sym is.start)
    (lively_start o.programs is.keyboards is.processes is.programs))
    legal follows

pub histories_are_orders : HistoriesAreOrders
histories_are_orders o h is legal follows = sym (walked o h is legal follows).same

-- a fact of each entry is one of each of the first
each_first : (P : List Entry → Entry → Type 0) (k : ℕ) (entries : List Entry) → EachIs P entries
    → EachIs P (take k entries)
each_first P zero [] each j entry is = absurd (none-some entry is)
each_first P zero (first ∷ entries) each j entry is = absurd (none-some entry is)
each_first P (suc k) [] each j entry is = absurd (none-some entry is)
each_first P (suc k) (first ∷ entries) each zero entry is = each 0 entry is
each_first P (suc k) (first ∷ entries) each (suc j) entry is =
    each_first (λ before. P (first ∷ before)) k entries (λ i. each (suc i)) j entry is

pub entries_are_turns : EntriesAreTurns
entries_are_turns o h k entry is legal follows at =
    let before : List Entry = take k h in
    let there : Walked o [] before =
    walked o before is (each_first (IsNext o.start) k h legal)
    (each_first (IsNextCall o.start o.programs) k h follows) in
    let one : Turned o before entry = turned o before entry there.lives (legal k entry at) (follows k entry at) in
    record {
      same = sym there.same;
      now = subst (λ made. call_now o made entry.caller ≡ Some (plain_event entry.event)) (sym there.same) one.now;
      made = subst (λ made. entry_at o.start made entry.caller (plain_event entry.event) ≡ plain_entry entry) (sym there.same) one.entered;
    }
