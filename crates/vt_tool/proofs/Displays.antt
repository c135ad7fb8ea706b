-- A history whose moments are lawful keeps the display law, entry by entry.
use Rattle.std.proofs.Common.{◌≡◌, inl, inr, ℕ, zero, suc, List, [], ◌∷◌, ◌++◌, length, Some, take, refl, sym, ap, ◌∙◌, subst, arith}
use Rattle.std.specs.Prelude.{slice_get}
use Rattle.std.proofs.lemmas.Option.{none-some, same_Some}
use Rattle.vt_tool.proofs.Causes.{HasMarks, IsDone, IsFrom, MadeAt, allowed_at, every_hop, from_history, marks_in, since_more, stands_deeper}
use Rattle.vt_tool.specs.Displays.{IsAmong, IsCaused, IsLawfulHop, IsRaisedIn, KeepsDisplayLaw, StandsBehind, WasRaised, trace_on}
use Rattle.vt_events.specs.declared.entry.Entry.{Entry}
use Rattle.vt_events.specs.declared.event.Event.{Event}
use Rattle.vt_switch.specs.Acts.{SwitchAct, Release}
use Rattle.vt_switch.specs.Law.{AllowedBy, IsAllowed, IsExplained, IsLawful, Quiet, Raises, Since}
use Rattle.vt_switch.specs.Moments.{Core, Moment, after_entries, core_after, hops, trace}
use Rattle.vt_switch.specs.declared.cause.Cause.{Cause}
use Rattle.vt_switch.specs.declared.cause.Cause.TheVariants.{Free, Released, Died}
use Rattle.vt_switch.specs.declared.hop.Hop.{Hop}
use Rattle.vt_switch.specs.declared.mark.Mark.{Mark}
use Rattle.vt_world.specs.Acts.{event_acts, history_acts}
use Rattle.vt_world.specs.History.{replay}
use Rattle.vt_world.specs.Laws.{ActsAreCalls, ActsMakeCores, AllCalled, IsCalled, TellsActs, TracesTellActs, TracesTellHops, hops_of, moments}
use Rattle.vt_world.specs.RefusalLaws.{RefusalsChangeNothing}
use Rattle.vt_world.specs.State.{WorldState, core}
use Rattle.vt_world.specs.Step.{step}

-- the acts at a place of a history are those of the entry there
acts_of_entry : (w : WorldState) (entries : List Entry) (k : ℕ) (entry : Entry)
    → slice_get entries k ≡ Some entry
    → slice_get (history_acts w entries) k
    ≡ Some (event_acts (replay w (take k entries)) entry.caller entry.event)
acts_of_entry w [] k entry is = absurd (none-some entry is)
acts_of_entry w (first ∷ entries) zero entry is =
    ap (λ (e : Entry). Some (event_acts w e.caller e.event)) (same_Some first entry is)
acts_of_entry w (first ∷ entries) (suc k) entry is =
    acts_of_entry (step w first.caller first.event).world entries k entry is

record IsEntryOf (w : WorldState) (entries : List Entry) (k : ℕ) (acts : List SwitchAct) : Type 0 where
  entry : Entry
  is : slice_get entries k ≡ Some entry
  are : event_acts (replay w (take k entries)) entry.caller entry.event ≡ acts

entry_of_acts : (w : WorldState) (entries : List Entry) (k : ℕ) (acts : List SwitchAct)
    → slice_get (history_acts w entries) k ≡ Some acts → IsEntryOf w entries k acts
entry_of_acts w [] k acts is = absurd (none-some acts is)
entry_of_acts w (first ∷ entries) zero acts is = record {
  entry = first;
  is = refl;
  are = same_Some (event_acts w first.caller first.event) acts is;
}
entry_of_acts w (first ∷ entries) (suc k) acts is =
    let found : IsEntryOf (step w first.caller first.event).world entries k acts =
    entry_of_acts (step w first.caller first.event).world entries k acts is in
    record { entry = found.entry; is = found.is; are = found.are }

-- the state of the display after the acts is that after the entries
core_of : ActsMakeCores → (w : WorldState) (entries : List Entry) (k : ℕ)
    → after_entries (core w) (take k (history_acts w entries)) ≡ core (replay w (take k entries))
core_of cores w entries zero = refl
core_of cores w [] (suc k) = refl
core_of cores w (first ∷ entries) (suc k) =
    let next : WorldState = (step w first.caller first.event).world in
    ap (λ (c : Core). after_entries c (take k (history_acts next entries)))
    (sym (cores w first.caller first.event))
    ∙ core_of cores next entries k

-- each act of an entry that is a call is that entry's
called_act : (w : WorldState) (p : ℕ) (e : Event) (k : Core) (acts : List SwitchAct) (before : Core)
    (act : SwitchAct) → IsDone k acts before act → AllCalled w p e acts → IsCalled w p e act
called_act w p e k [] before act done all = absurd done
called_act w p e k (first ∷ acts) before act (inl here) all =
    subst (IsCalled w p e) here.1 all.0
called_act w p e k (first ∷ acts) before act (inr more) all =
    called_act w p e (core_after k first) acts before act more all.1

module _ (cores : ActsMakeCores) (calls : ActsAreCalls) (tells : TracesTellActs)
    (told_hops : TracesTellHops) (refusals : RefusalsChangeNothing) (start : WorldState)
    (entries : List Entry) (lawful : IsLawful (moments start entries))
  where
    raised_in : (k a p n : ℕ) (earlier : List Moment) (m : Moment)
        → StandsBehind earlier m (moments start entries) → Raises k a p n m
        → IsRaisedIn start entries k a p n m
    raised_in k a p n earlier m stands raises =
        let from : IsFrom (core start) (history_acts start entries) 0 m =
        from_history (core start) (history_acts start entries) earlier m stands in
        let source : IsEntryOf start entries from.place from.acts =
        entry_of_acts start entries from.place from.acts from.is in
        let same : from.place ≡ m.entry = omega (arith, from.entry) in
        let w : WorldState = replay start (take from.place entries) in
        let done : IsDone (core w) from.acts m.before m.act =
        subst (λ (c : Core). IsDone c from.acts m.before m.act)
        (core_of cores start entries from.place) from.done in
        let told : TellsActs (core w) from.acts (trace_on w source.entry) =
        subst (λ (acts : List SwitchAct). TellsActs (core w) acts (trace_on w source.entry)) source.are
        (tells w source.entry.caller source.entry.event) in
        let has : HasMarks (trace m) (trace_on w source.entry) =
        marks_in (core w) from.acts m.before m.act (trace_on w source.entry) done told in
        record {
          raises = raises;
          entry = source.entry;
          is = subst (λ (at : ℕ). slice_get entries at ≡ Some source.entry) same source.is;
          front = has.front;
          back = has.back;
          told =
              subst (λ (at : ℕ). trace_on (replay start (take at entries)) source.entry ≡ has.front ++ (trace m ++ has.back)) same has.is
              ∙ ap (λ (own : List Mark). has.front ++ (own ++ has.back)) raises.raised;
        }

    was_raised : (k a p n : ℕ) (m : Moment) (earlier : List Moment) → m.entry ≡ k
        → StandsBehind earlier m (moments start entries)
        → Since (Quiet a n) (Raises m.entry a p n) earlier → WasRaised start entries k a p n earlier
    was_raised k a p n m earlier in_entry stands since =
        since_more (Quiet a n) (Raises k a p n) (IsRaisedIn start entries k a p n) earlier
        (λ deeper old below raises.
        raised_in k a p n deeper old
        (stands_deeper (moments start entries) earlier deeper m old stands below) raises)
        (subst (λ (i : ℕ). Since (Quiet a n) (Raises i a p n) earlier) in_entry since)

    caused : (k : ℕ) (entry : Entry) (m : Moment) (earlier : List Moment) (a n : ℕ) (c : Cause)
        → m.entry ≡ k → StandsBehind earlier m (moments start entries)
        → IsCalled (replay start (take k entries)) entry.caller entry.event m.act
        → AllowedBy earlier m a n c → IsCaused start entries k entry earlier a n c
    caused k entry m earlier a n Free in_entry stands called because = tt
    caused k entry m earlier a n (Released p) in_entry stands called because =
        let w : WorldState = replay start (take k entries) in
        let call : IsCalled w entry.caller entry.event (Release a p 1) =
        subst (IsCalled w entry.caller entry.event) because.0 called in
        (call.0, call.1, was_raised k a p n m earlier in_entry stands because.1.asked)
    caused k entry m earlier a n (Died p) in_entry stands called because =
        was_raised k a p n m earlier in_entry stands because.1.asked

    lawful_hop : (k : ℕ) (entry : Entry) → slice_get entries k ≡ Some entry → (hop : Hop)
        → IsAmong hop (hops (trace_on (replay start (take k entries)) entry))
        → IsLawfulHop start entries k entry hop
    lawful_hop k entry is hop among =
        let w : WorldState = replay start (take k entries) in
        let acts : List SwitchAct = event_acts w entry.caller entry.event in
        let all : List (List SwitchAct) = history_acts start entries in
        let same : after_entries (core start) (take k all) ≡ core w = core_of cores start entries k in
        let in_acts : IsAmong hop (hops_of (core w) acts) =
        subst (IsAmong hop) (told_hops w entry.caller entry.event) among in
        let found : MadeAt (moments start entries) k (after_entries (core start) (take k all)) acts hop =
        every_hop (core start) all k acts hop (acts_of_entry start entries k entry is)
        (subst (λ (c : Core). IsAmong hop (hops_of c acts)) (sym same) in_acts) in
        let done : IsDone (core w) acts found.moment.before found.moment.act =
        subst (λ (c : Core). IsDone c acts found.moment.before found.moment.act) same found.done in
        let allowed : IsAllowed found.earlier found.moment hop =
        allowed_at (moments start entries) found.earlier found.moment hop lawful found.stands
        found.made in
        record {
          earlier = found.earlier;
          moment = found.moment;
          stands = found.stands;
          in_entry = found.entry;
          made = found.made;
          allowed = allowed;
          caused =
              caused k entry found.moment found.earlier hop.from hop.to hop.cause found.entry found.stands
              (called_act w entry.caller entry.event (core w) acts found.moment.before found.moment.act
              done (calls w entry.caller entry.event))
              allowed.because;
        }

    pub keeps : IsExplained (length entries) (core (replay start entries)) (moments start entries)
        → KeepsDisplayLaw start entries
    keeps waiting = record {
      each = λ k entry is. record {
        hops_are = lawful_hop k entry is;
        refused = λ no.
            ap (λ (w : WorldState). w.trace.marks)
            (refusals (replay start (take k entries)) entry.caller entry.event no);
      };
      waiting = waiting;
    }
