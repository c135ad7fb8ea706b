-- The marks of an event: those of its acts, and signals that were raised without an act.
use Rattle.std.proofs.Common.{◌≡◌, ℕ, Bool, true, false, cond, List, [], ◌∷◌, ◌++◌, Option, Some, None, refl, sym, ap, subst, subst₂, ◌∙◌, append_assoc, append-nil}
use Rattle.std.specs.List.{list_all}
use Rattle.std.proofs.lemmas.Bool.{false≢true}
use Rattle.vt_switch.specs.Acts.{SwitchAct, Request}
use Rattle.vt_switch.specs.Moments.{Core, core_after, hops, is_live, marks, raise}
use Rattle.vt_switch.specs.declared.hop.Hop.{Hop}
use Rattle.vt_switch.specs.declared.mark.Mark.{Mark}
use Rattle.vt_switch.specs.declared.mark.Mark.TheVariants as mark
use Rattle.vt_world.proofs.Cores.{acted_core, own_core}
use Rattle.vt_world.proofs.for_laws.Steps.{by_step}
use Rattle.vt_world.specs.Acts.{all_acts, event_acts, request_of}
use Rattle.vt_world.specs.Deeds.{Deed, By, Asks, Own, OwnDeed, Raises, after_switch_act, apply_deeds, apply_deed, apply_own_deed, after_request}
use Rattle.vt_world.specs.Heard.{without_marks, apply_mark, apply_marks}
use Rattle.vt_world.specs.Laws.{TellsActs, TracesTellActs, TracesTellDeeds, TracesTellHops, all_marks, hops_of, is_raise, marks_by, marks_of_request}
use Rattle.vt_world.specs.Events.{row}
use Rattle.vt_world.specs.State.{WorldState, core}
use Rattle.vt_world.specs.Step.{Outcome, step}
use Rattle.vt_world.specs.Wanted.{wanted_in}

both_pass : (a b : List Mark) → list_all is_raise a ≡ true → list_all is_raise b ≡ true
    → list_all is_raise (a ++ b) ≡ true
both_pass [] b one other = other
both_pass (mark.Raised p signal ∷ a) b one other = both_pass a b one other
both_pass (mark.Asked n ∷ a) b one other = one
both_pass (mark.Hopped hop ∷ a) b one other = one
both_pass (mark.Ended p ∷ a) b one other = one

-- signals may come before
tells_later : (k : Core) (acts : List SwitchAct) (signals trace : List Mark)
    → list_all is_raise signals ≡ true → TellsActs k acts trace
    → TellsActs k acts (signals ++ trace)
tells_later k [] signals trace raised tells = both_pass signals trace raised tells
tells_later k (act ∷ acts) signals trace raised tells = record {
  signals = signals ++ tells.signals;
  more = tells.more;
  raised = both_pass signals tells.signals raised tells.raised;
  parts = ap (λ (t : List Mark). signals ++ t) tells.parts
      ∙ sym (append_assoc signals tells.signals (marks k act ++ tells.more));
  rest = tells.rest;
}

-- what stands behind an earlier trace tells these acts
record Adds (old new : List Mark) (k : Core) (acts : List SwitchAct) : Type 0 where
  more : List Mark
  is : new ≡ old ++ more
  tells : TellsActs k acts more

adds_act : (old new : List Mark) (k : Core) (act : SwitchAct) (acts : List SwitchAct)
    → Adds (old ++ marks k act) new (core_after k act) acts → Adds old new k (act ∷ acts)
adds_act old new k act acts adds = record {
  more = marks k act ++ adds.more;
  is = adds.is ∙ append_assoc old (marks k act) adds.more;
  tells = record {
    signals = [];
    more = adds.more;
    raised = refl;
    parts = refl;
    rest = adds.tells;
  };
}

adds_signals : (old new signals : List Mark) (k : Core) (acts : List SwitchAct)
    → list_all is_raise signals ≡ true → Adds (old ++ signals) new k acts → Adds old new k acts
adds_signals old new signals k acts raised adds = record {
  more = signals ++ adds.more;
  is = adds.is ∙ append_assoc old signals adds.more;
  tells = tells_later k acts signals adds.more raised adds.tells;
}

tell_trace : (w : WorldState) (told : List Mark) → (apply_marks w told).trace.marks ≡ w.trace.marks ++ told
tell_trace w [] = sym (append-nil w.trace.marks)
tell_trace w (m ∷ told) = tell_trace (apply_mark w m) told ∙ append_assoc w.trace.marks (m ∷ []) told

by_act : (w : WorldState) (act : SwitchAct) (acts : List SwitchAct) (new : List Mark)
    → Adds (after_switch_act w act).trace.marks new (core (after_switch_act w act)) acts
    → Adds w.trace.marks new (core w) (act ∷ acts)
by_act w act acts new adds =
    let k : Core = core_after (core w) act in
    let told : List Mark = marks (core w) act in
    adds_act w.trace.marks new (core w) act acts
    (subst₂ (λ (trace : List Mark) (core : Core). Adds trace new core acts)
    (tell_trace (record w { display = k.display }) told) (acted_core w act) adds)

by_request : (w : WorldState) (wanted : Option ℕ) (acts : List SwitchAct) (new : List Mark)
    → Adds (after_request w wanted).trace.marks new (core (after_request w wanted)) acts
    → Adds w.trace.marks new (core w) (request_of wanted ++ acts)
by_request w None acts new adds = adds
by_request w (Some n) acts new adds = by_act w (Request n) acts new adds

raised_pass : (b : Bool) (p signal : ℕ)
    → list_all is_raise (cond b (mark.Raised p signal ∷ []) []) ≡ true
raised_pass true p signal = refl
raised_pass false p signal = refl

by_own : (w : WorldState) (deed : OwnDeed) (acts : List SwitchAct) (new : List Mark)
    → Adds (apply_own_deed w deed).trace.marks new (core w) acts → Adds w.trace.marks new (core w) acts
by_own w (Raises p signal) acts new adds =
    let signals : List Mark = raise (core w) p signal in
    adds_signals w.trace.marks new signals (core w) acts
    (raised_pass (is_live (core w) p) p signal)
    (subst (λ (trace : List Mark). Adds trace new (core w) acts) (tell_trace w signals) adds)
by_own w deed acts new adds = adds

deeds_tell : (w : WorldState) (deeds : List Deed)
    → Adds w.trace.marks (apply_deeds w deeds).trace.marks (core w) (all_acts w deeds)
deeds_tell w [] = record { more = []; is = sym (append-nil w.trace.marks); tells = refl }
deeds_tell w (By act ∷ deeds) =
    by_act w act (all_acts (after_switch_act w act) deeds) (apply_deeds (after_switch_act w act) deeds).trace.marks
    (deeds_tell (after_switch_act w act) deeds)
deeds_tell w (Asks wanted ∷ deeds) =
    let next : WorldState = apply_deed w (Asks wanted) in
    by_request w (wanted_in w.display wanted) (all_acts next deeds)
    (apply_deeds next deeds).trace.marks (deeds_tell next deeds)
deeds_tell w (Own deed ∷ deeds) =
    let next : WorldState = apply_own_deed w deed in
    let acts : List SwitchAct = all_acts next deeds in
    let new : List Mark = (apply_deeds next deeds).trace.marks in
    by_own w deed acts new
    (subst (λ (k : Core). Adds next.trace.marks new k acts) (own_core w deed) (deeds_tell next deeds))

pub traces_apply_marks_acts : TracesTellActs
traces_apply_marks_acts w p e =
    by_step
    (λ (deeds : List Deed) (after : Outcome).
    TellsActs (core w) (all_acts (without_marks w) deeds) after.world.trace.marks)
    w p e (λ errno. refl)
    (λ accepted.
    let deeds : List Deed = (row (without_marks w) p e).deeds in
    let adds = deeds_tell (without_marks w) deeds in
    subst (TellsActs (core w) (all_acts (without_marks w) deeds)) (sym adds.is) adds.tells)

-- the trace of deeds is what they tell
requested_trace : (w : WorldState) (wanted : Option ℕ)
    → (after_request w wanted).trace.marks ≡ w.trace.marks ++ marks_of_request w wanted
requested_trace w None = sym (append-nil w.trace.marks)
requested_trace w (Some n) =
    let k : Core = core_after (core w) (Request n) in
    tell_trace (record w { display = k.display }) (marks (core w) (Request n))

own_trace : (w : WorldState) (deed : OwnDeed)
    → (apply_own_deed w deed).trace.marks ≡ w.trace.marks ++ marks_by w (Own deed)
own_trace w (Raises p signal) = tell_trace w (raise (core w) p signal)
own_trace w deed = sym (append-nil w.trace.marks)

deed_trace : (w : WorldState) (deed : Deed)
    → (apply_deed w deed).trace.marks ≡ w.trace.marks ++ marks_by w deed
deed_trace w (By act) =
    let k : Core = core_after (core w) act in
    tell_trace (record w { display = k.display }) (marks (core w) act)
deed_trace w (Asks wanted) = requested_trace w (wanted_in w.display wanted)
deed_trace w (Own deed) = own_trace w deed

deeds_trace : (w : WorldState) (deeds : List Deed)
    → (apply_deeds w deeds).trace.marks ≡ w.trace.marks ++ all_marks w deeds
deeds_trace w [] = sym (append-nil w.trace.marks)
deeds_trace w (deed ∷ deeds) =
    let rest : List Mark = all_marks (apply_deed w deed) deeds in
    deeds_trace (apply_deed w deed) deeds
    ∙ ap (λ (trace : List Mark). trace ++ rest) (deed_trace w deed)
    ∙ append_assoc w.trace.marks (marks_by w deed) rest

pub traces_apply_marks_deeds : TracesTellDeeds
traces_apply_marks_deeds w p e =
    by_step
    (λ (deeds : List Deed) (after : Outcome). after.world.trace.marks ≡ all_marks (without_marks w) deeds)
    w p e (λ errno. refl)
    (λ accepted. deeds_trace (without_marks w) (row (without_marks w) p e).deeds)

hops_append : (a b : List Mark) → hops (a ++ b) ≡ hops a ++ hops b
hops_append [] b = refl
hops_append (mark.Asked n ∷ a) b = hops_append a b
hops_append (mark.Raised p signal ∷ a) b = hops_append a b
hops_append (mark.Hopped hop ∷ a) b = ap (λ (list : List Hop). hop ∷ list) (hops_append a b)
hops_append (mark.Ended p ∷ a) b = hops_append a b

no_hops : (signals : List Mark) → list_all is_raise signals ≡ true → hops signals ≡ []
no_hops [] raised = refl
no_hops (mark.Asked n ∷ signals) raised = absurd (false≢true raised)
no_hops (mark.Raised p signal ∷ signals) raised = no_hops signals raised
no_hops (mark.Hopped hop ∷ signals) raised = absurd (false≢true raised)
no_hops (mark.Ended p ∷ signals) raised = absurd (false≢true raised)

told_hops : (k : Core) (acts : List SwitchAct) (trace : List Mark) → TellsActs k acts trace
    → hops trace ≡ hops_of k acts
told_hops k [] trace tells = no_hops trace tells
told_hops k (act ∷ acts) trace tells =
    ap hops tells.parts
    ∙ hops_append tells.signals (marks k act ++ tells.more)
    ∙ ap (λ (list : List Hop). list ++ hops (marks k act ++ tells.more))
    (no_hops tells.signals tells.raised)
    ∙ hops_append (marks k act) tells.more
    ∙ ap (λ (list : List Hop). hops (marks k act) ++ list)
    (told_hops (core_after k act) acts tells.more tells.rest)

pub traces_apply_marks-hops : TracesTellHops
traces_apply_marks-hops w p e =
    told_hops (core w) (event_acts w p e) (step w p e).world.trace.marks (traces_apply_marks_acts w p e)
