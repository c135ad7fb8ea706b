-- Histories and their entries without spare room in their bytes.
use Rattle.std.proofs.Common.{◌≡◌, ℕ, ◌+◌, ◌≤◌, true, false, cond, List, [], ◌∷◌, filter, map, take, Some, None, option_map, refl, sym, ap, ◌∙◌, subst}
use Rattle.std.proofs.lemmas.List.{length-map, take-map}
use Rattle.std.proofs.lemmas.List.Folds.{fold-map}
use Rattle.std.proofs.lemmas.Option.{slice_get-map}
use Rattle.std.specs.List.{list_all, range_with_len, sum_by}
use Rattle.std.specs.Prelude.{◌==◌, ◌&&◌, count_by, nat_le, nat_lt, slice_get}
use Rattle.session_order.proofs.Programs.{next_fine}
use Rattle.vt_events.proofs.Meant.{charge-meant, plain-twice}
use Rattle.session_order.specs.Calls.{call_of, calls_by, is_none, next_by, next_of}
use Rattle.session_order.specs.Ends.{Setup}
use Rattle.vt_journal.specs.Room.{IsWithin, has_room}
use Rattle.session_order.specs.Follows.{IsNextCall, is_waiting}
use Rattle.session_order.specs.Meant.{EndsIsMeant, FollowsIsMeant, LegalIsMeant, NextIsMeant, NextIsPlain, ReplayIsMeant, plain_history}
use Rattle.session_text.specs.Programs.{call, program_of}
use Rattle.session_text.specs.declared.program.Program.{Program}
use Rattle.vt_base.specs.Limits.{callers as every_caller}
use Rattle.vt_events.specs.Charge.{charge_of}
use Rattle.vt_events.specs.Plain.{plain_entry, plain_event, plain_reply}
use Rattle.vt_events.specs.declared.entry.Entry.{Entry}
use Rattle.vt_events.specs.declared.event.Event.{Event}
use Rattle.vt_events.specs.declared.reply.Reply.{Reply}
use Rattle.vt_journal.specs.Log.{charge_of_all}
use Rattle.vt_world.specs.History.{IsNext, replay}
use Rattle.vt_world.specs.State.{WorldState}
use Rattle.vt_world.specs.Step.{Outcome, step}
use Rattle.vt_world.specs.Refusals.{ends_wait}
use Rattle.vt_events.specs.declared.event.Event.TheVariants as event
use Rattle.vt_events.specs.declared.reply.Reply.TheVariants as reply

pub next-meant : NextIsMeant
next-meant p made = (next_fine p).same made

pub next_plain : NextIsPlain
next_plain p made e is = (next_fine p).plain made e is

reply_twice : (r : Reply) → plain_reply (plain_reply r) ≡ plain_reply r
reply_twice (reply.Text b) = refl
reply_twice r = refl

pub step_meant : (w : WorldState) (p : ℕ) (e : Event) → step w p (plain_event e) ≡ step w p e
step_meant w p event.Exit = refl
step_meant w p e = refl

pub wait_meant : (e : Event) → ends_wait (plain_event e) ≡ ends_wait e
wait_meant event.Exit = refl
wait_meant e = refl

pub replay_meant : ReplayIsMeant
replay_meant start [] = refl
replay_meant start (entry ∷ entries) =
    ap (λ (o : Outcome). replay o.world (plain_history entries)) (step_meant start entry.caller entry.event)
    ∙ replay_meant (step start entry.caller entry.event).world entries

pub charges_meant : (entries : List Entry) → charge_of_all (plain_history entries) ≡ charge_of_all entries
charges_meant entries =
    fold-map (λ n (x : Entry). n + charge_of x.event) plain_entry 0 entries
    ∙ (λ i. sum_by (λ (x : Entry). charge-meant x.event i) entries)

call_meant : (entry : Entry) → call_of (plain_entry entry) ≡ call_of entry
call_meant entry = λ i. call (plain-twice entry.event i) (reply_twice entry.reply i)

-- the calls of p in a history without spare room
pub calls_meant : (p : ℕ) (entries : List Entry) → calls_by p (plain_history entries) ≡ calls_by p entries
calls_meant p [] = refl
calls_meant p (entry ∷ entries) =
    elim (entry.caller == p) as (λ b. map call_of (cond b (plain_entry entry ∷ filter (λ (x : Entry). x.caller == p) (plain_history entries)) (filter (λ (x : Entry). x.caller == p) (plain_history entries))) ≡ map call_of (cond b (entry ∷ filter (λ (x : Entry). x.caller == p) entries) (filter (λ (x : Entry). x.caller == p) entries)))
    [ true ↦ (λ i. call_meant entry i ∷ calls_meant p entries i) | false ↦ calls_meant p entries ]

pub counts_meant : (p : ℕ) (entries : List Entry)
    → count_by (λ (x : Entry). x.caller == p) (plain_history entries) ≡ count_by (λ (x : Entry). x.caller == p) entries
counts_meant p entries =
    fold-map (λ n (x : Entry). n + cond (x.caller == p) 1 0) plain_entry 0 entries

pub next_meant : (programs : List Program) (p : ℕ) (entries : List Entry)
    → next_by programs p (plain_history entries) ≡ next_by programs p entries
next_meant programs p entries = ap (next_of (program_of programs p)) (calls_meant p entries)

pub waiting_meant : (start : WorldState) (p : ℕ) (entries : List Entry)
    → is_waiting (replay start (plain_history entries)) p ≡ is_waiting (replay start entries) p
waiting_meant start p entries = ap (λ w. is_waiting w p) (replay_meant start entries)

-- an entry of a history without spare room, directly after those before it
at_meant : (P : List Entry → Entry → Type 0) (entries : List Entry) (k : ℕ) (entry : Entry)
    → slice_get entries k ≡ Some entry
    → ((entry : Entry) → slice_get (plain_history entries) k ≡ Some entry → P (take k (plain_history entries)) entry)
    → P (plain_history (take k entries)) (plain_entry entry)
at_meant P entries k entry here each =
    let there : slice_get (plain_history entries) k ≡ Some (plain_entry entry) =
    slice_get-map plain_entry entries k ∙ ap (option_map plain_entry) here in
    subst (λ before. P before (plain_entry entry)) (take-map plain_entry k entries) (each (plain_entry entry) there)

pub legal_meant : LegalIsMeant
legal_meant start entries legal k entry here =
    let before : List Entry = take k entries in
    let next : IsNext start (plain_history before) (plain_entry entry) =
    at_meant (IsNext start) entries k entry here (legal k) in
    record {
      answer =
          sym (reply_twice entry.reply)
          ∙ next.answer
          ∙ (λ i. (step (replay_meant start before i) entry.caller (plain_event entry.event)).reply)
          ∙ ap (λ (o : Outcome). o.reply) (step_meant (replay start before) entry.caller entry.event);
      number = next.number ∙ counts_meant entry.caller before;
    }

pub follows_meant : FollowsIsMeant
follows_meant start programs entries follows k entry here =
    let before : List Entry = take k entries in
    let next : IsNextCall start programs (plain_history before) (plain_entry entry) =
    at_meant (IsNextCall start programs) entries k entry here (follows k) in
    record {
      next = sym (next_meant programs entry.caller before) ∙ next.next ∙ ap Some (plain-twice entry.event);
      ended = λ waitend. sym (waiting_meant start entry.caller before) ∙ next.ended (wait_meant entry.event ∙ waitend);
    }

room_meant : (o : Setup) (entries : List Entry) (charge : ℕ)
    → has_room o.limits (plain_history entries) charge ≡ has_room o.limits entries charge
room_meant o entries charge =
    λ i. nat_lt (length-map entries plain_entry i) o.limits.events && nat_le (charges_meant entries i + charge) o.limits.bytes

over_meant : (programs : List Program) (entries : List Entry) (callers : List ℕ)
    → list_all (λ p. is_none (next_by programs p (plain_history entries))) callers ≡ list_all (λ p. is_none (next_by programs p entries)) callers
over_meant programs entries [] = refl
over_meant programs entries (p ∷ callers) =
    λ i. is_none (next_meant programs p entries i) && over_meant programs entries callers i

within_meant : (o : Setup) (entries : List Entry) → IsWithin o.limits (plain_history entries) → IsWithin o.limits entries
within_meant o entries within = record {
  events = subst (λ n. n ≤ o.limits.events) (length-map entries plain_entry) within.events;
  bytes = subst (λ n. n ≤ o.limits.bytes) (charges_meant entries) within.bytes;
}

pub ends_meant : EndsIsMeant
ends_meant o entries None ends = record {
  within = within_meant o entries ends.within;
  rightly = record {
    over = sym (over_meant o.programs entries (range_with_len 0 every_caller)) ∙ ends.rightly.over;
    entries = refl;
    charge = refl;
  };
}
ends_meant o entries (Some full) ends = record {
  within = within_meant o entries ends.within;
  rightly = record {
    caller = ends.rightly.caller;
    call = ends.rightly.call;
    next = sym (next_meant o.programs ends.rightly.caller entries) ∙ ends.rightly.next;
    goes = sym (waiting_meant o.start ends.rightly.caller entries) ∙ ends.rightly.goes;
    no_room = sym (room_meant o entries (charge_of ends.rightly.call)) ∙ ends.rightly.no_room;
    numbers = ends.rightly.numbers ∙ (λ i. record {
      events = length-map entries plain_entry i;
      bytes = charges_meant entries i;
      charge = charge_of ends.rightly.call;
    });
  };
}
