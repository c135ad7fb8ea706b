-- The answers over orders as answers over histories.
use Rattle.std.proofs.Common.{◌≡◌, ℕ, List, [], ◌∷◌, ◌++◌, length, take, Option, Some, arith, refl, sym, ap, ◌∙◌, subst}
use Rattle.std.proofs.lemmas.List.{length-map, length-take, length_push, map-append}
use Rattle.std.proofs.lemmas.Option.{same_Some, slice_get_within}
use Rattle.std.specs.Prelude.{slice_get}
use Rattle.vt_explore.proofs.Calls.{next_now}
use Rattle.vt_explore.proofs.Nevers.{get_last, longer_is}
use Rattle.vt_explore.specs.Findings.{AreFirst, AreFoundFor, AreNone, HasFinding, IsFirstFor}
use Rattle.vt_explore.specs.Questions.{AreFound, AreNever, IsAsked, IsFound, IsNever, IsNotBefore, NeverInJournals, Wants}
use Rattle.vt_explore.specs.Searches.{EndsAsked, IsFirst, Makes, NoneMakes, NoneMakesBefore}
use Rattle.vt_explore.specs.declared.findings.Finding.{Finding}
use Rattle.session_order.specs.Calls.{next_by}
use Rattle.session_order.specs.Ends.{Setup}
use Rattle.session_order.specs.Follows.{Follows, IsNextCall, is_waiting}
use Rattle.session_order.specs.Laws.{IsFromStart}
use Rattle.session_order.specs.Meant.{ReplayIsMeant, plain_history}
use Rattle.session_order.specs.Orders.{EntriesAreTurns, IsTurn, OrdersAreLegal, history_of, order_of}
use Rattle.session_order.specs.Serial.{entry_at}
use Rattle.session_order.specs.Sessions.{setup_of, start_of}
use Rattle.session_text.specs.Sessions.{SessionView}
use Rattle.vt_events.specs.Plain.{plain_entry, plain_event, plain_reply}
use Rattle.vt_events.specs.declared.entry.Entry.{Entry}
use Rattle.vt_events.specs.declared.event.Event.{Event}
use Rattle.vt_world.specs.History.{IsLegal, IsNext, ReplayGrows, replay}
use Rattle.vt_world.specs.State.{WorldState}
use Rattle.vt_world.specs.Step.{step}

-- an entry of a history that is legal and follows the programs is a turn, and what it has is what the turn has
asked_is_made : EntriesAreTurns → ReplayIsMeant → ReplayGrows → (wants : Wants) (s : SessionView)
    → IsFromStart (setup_of s) → (history : List Entry) (k : ℕ) (entry : Entry) → IsLegal (start_of s) history
    → Follows (start_of s) s.programs history → slice_get history k ≡ Some entry
    → IsAsked wants (start_of s) (take k history) entry
    → Makes wants (setup_of s) (history_of (setup_of s) (order_of (take k history))) entry.caller
asked_is_made turns meant grows wants s from history k entry legal follows at asked =
    let o : Setup = setup_of s in
    let p : ℕ = entry.caller in
    let e : Event = plain_event entry.event in
    let before : List Entry = take k history in
    let turn : IsTurn o before entry = turns o history k entry from legal follows at in
    let there : List Entry = history_of o (order_of before) in
    let new : Entry = entry_at o.start there p e in
    let reply : (step (replay o.start there) p e).reply ≡ plain_reply entry.reply =
    ap (λ (x : Entry). x.reply) turn.made in
    let longer : there ++ new ∷ [] ≡ plain_history (before ++ entry ∷ []) =
    ap (λ made. made ++ new ∷ []) (sym turn.same)
    ∙ ap (λ x. plain_history before ++ x ∷ []) turn.made
    ∙ sym (map-append plain_entry before (entry ∷ [])) in
    let world : (step (replay o.start there) p e).world ≡ replay o.start (before ++ entry ∷ []) =
    sym (grows o.start there new) ∙ ap (replay o.start) longer ∙ meant o.start (before ++ entry ∷ []) in
    record { call = e; now = turn.now; wanted = (λ i. wants p e (reply i) (world i)) ∙ asked }

pub never_in_histories : EntriesAreTurns → ReplayIsMeant → ReplayGrows → (wants : Wants) (s : SessionView)
    → IsFromStart (setup_of s) → NoneMakes wants (setup_of s) → IsNever wants s
never_in_histories turns meant grows wants s from none history k entry legal follows at asked =
    none (order_of (take k history)) entry.caller
    (asked_is_made turns meant grows wants s from history k entry legal follows at asked)

-- what no order makes before n calls stands in no history before place n
not_before : EntriesAreTurns → ReplayIsMeant → ReplayGrows → (wants : Wants) (s : SessionView) (n : ℕ)
    → IsFromStart (setup_of s) → NoneMakesBefore wants (setup_of s) n → IsNotBefore wants s n
not_before turns meant grows wants s n from none history k entry legal follows at asked =
    let before : List Entry = take k history in
    let turn : IsTurn (setup_of s) before entry = turns (setup_of s) history k entry from legal follows at in
    let low =
    none (order_of before) entry.caller
    (asked_is_made turns meant grows wants s from history k entry legal follows at asked) in
    let same : length (plain_history before) ≡ length (history_of (setup_of s) (order_of before)) = ap length turn.same in
    let plain : length (plain_history before) ≡ length before = length-map before plain_entry in
    let few = length-take k history in
    let within = slice_get_within history k entry at in
    omega (arith, low, same, plain, few, within)

pub never_in_journals : NeverInJournals
never_in_journals wants s console history end k entry never right at asked =
    never history k entry right.legal right.follows at asked

take_first : (before : List Entry) (last : Entry) → take (length before) (before ++ last ∷ []) ≡ before
take_first [] last = refl
take_first (entry ∷ before) last = ap (λ made. entry ∷ made) (take_first before last)

pub found_in_histories : OrdersAreLegal → EntriesAreTurns → ReplayIsMeant → ReplayGrows → (wants : Wants) (s : SessionView)
    (order : List ℕ) → IsFromStart (setup_of s) → IsFirst wants (setup_of s) order → IsFound wants s order
found_in_histories legal turns meant grows wants s order from first =
    let o : Setup = setup_of s in
    let found : EndsAsked wants o first.before order = first.ends in
    let b : List Entry = history_of o first.before in
    let p : ℕ = found.last in
    let e : Event = found.makes.call in
    let w : WorldState = replay o.start b in
    let entry : Entry = entry_at o.start b p e in
    let history : history_of o order ≡ b ++ entry ∷ [] =
    longer_is o first.before order p e found.parts found.makes.now in
    let both : IsLegal o.start (history_of o order) × Follows o.start o.programs (history_of o order) = legal o order in
    let is_legal : IsLegal o.start (b ++ entry ∷ []) = subst (IsLegal o.start) history both.0 in
    let follows : Follows o.start o.programs (b ++ entry ∷ []) =
    subst (Follows o.start o.programs) history both.1 in
    let next : IsNext o.start b entry =
    subst (λ made. IsNext o.start made entry) (take_first b entry) (is_legal (length b) entry (get_last b entry)) in
    let call : IsNextCall o.start o.programs b entry =
    subst (λ made. IsNextCall o.start o.programs made entry) (take_first b entry) (follows (length b) entry (get_last b entry)) in
    let event : plain_event e ≡ e =
    same_Some (plain_event e) e
    (sym call.next ∙ next_now (is_waiting w p) (next_by o.programs p b) e found.makes.now) in
    let world : replay o.start (b ++ entry ∷ []) ≡ (step w p e).world = grows o.start b entry in
    record {
      before = b;
      last = entry;
      history = history;
      turns =
          (let parts = ap length found.parts in
          let push = length_push first.before p in
          omega (arith, parts, push, found.full));
      legal = is_legal;
      follows = follows;
      asked = (λ i. wants p (event i) (next.answer i) (world i)) ∙ found.makes.wanted;
      shortest = not_before turns meant grows wants s (length b) from first.first;
    }

-- the answers for each question, by what was found for them
pub found_are_right : OrdersAreLegal → EntriesAreTurns → ReplayIsMeant → ReplayGrows → (all : List Wants) (s : SessionView)
    (findings : List Finding) (n : ℕ) (found : List (Option (List ℕ))) → IsFromStart (setup_of s)
    → AreFirst all (setup_of s) findings → AreFoundFor findings n found → AreFound all s found
found_are_right legal turns meant grows all s findings n found from first has i wants order at is =
    let here : HasFinding findings i order = has.some i order is in
    let right : IsFirstFor all (setup_of s) here.finding = first here.place here.finding here.at in
    let same : right.wants ≡ wants =
    same_Some right.wants wants (sym right.question ∙ ap (slice_get all) here.question ∙ at) in
    found_in_histories legal turns meant grows wants s order from
    (subst (λ (w : Wants). IsFirst w (setup_of s) order) same
    (subst (IsFirst right.wants (setup_of s)) here.order_is right.first))

pub never_are_right : EntriesAreTurns → ReplayIsMeant → ReplayGrows → (all : List Wants) (s : SessionView)
    (findings : List Finding) (n : ℕ) (found : List (Option (List ℕ))) → IsFromStart (setup_of s)
    → AreNone all (setup_of s) findings → AreFoundFor findings n found → AreNever all s found
never_are_right turns meant grows all s findings n found from none has i wants at is =
    never_in_histories turns meant grows wants s from (none i wants at (has.none i is))
