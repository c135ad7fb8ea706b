-- The marks of an event about the display are those of its acts, one after another.
use Rattle.std.proofs.Common.{◌≡◌, ℕ, Bool, true, false, cond, List, [], ◌∷◌, ◌++◌, Option, Some, None, refl, sym, ap, ◌∙◌}
use Rattle.std.specs.Prelude.{◌&&◌, ◌||◌, not}
use Rattle.std.proofs.lemmas.Bool.{and_parts, false≢true, or_left, or_right}
use Rattle.vt_events.specs.declared.event.Event.{Event}
use Rattle.vt_switch.specs.Acts.{SwitchAct, Allocate, Request, Release, SetMode, SetKd, Lock, Free, End, hop_of}
use Rattle.vt_switch.specs.Display.{console, is_allocated}
use Rattle.vt_switch.specs.Moments.{Core, core_after, hop_marks, is_live, is_request, marks, raise_acquire}
use Rattle.vt_switch.specs.News.{News, Asking, Going, news, news_of}
use Rattle.vt_switch.specs.declared.handling.Handling.{Handling}
use Rattle.vt_switch.specs.declared.handling.Handling.TheVariants.{Auto, Process}
use Rattle.vt_switch.specs.declared.hop.Hop.{Hop}
use Rattle.vt_switch.specs.declared.mark.Mark.{Mark}
use Rattle.vt_switch.specs.declared.mark.Mark.TheVariants as mark
use Rattle.vt_world.proofs.Cores.{acted_core, own_core}
use Rattle.vt_world.proofs.for_laws.Orders.{ends, in_order, row_ordered}
use Rattle.vt_world.proofs.for_laws.Steps.{by_step}
use Rattle.vt_world.proofs.for_laws.Traces.{traces_apply_marks_deeds}
use Rattle.vt_world.specs.Acts.{all_acts, request_of}
use Rattle.vt_world.specs.Deeds.{Deed, By, Asks, Own, OwnDeed, Raises, after_switch_act, apply_deed, apply_own_deed, after_request}
use Rattle.vt_world.specs.Heard.{without_marks}
use Rattle.vt_world.specs.Laws.{TracesTellNews, all_marks, marks_by, marks_of_request}
use Rattle.vt_world.specs.Events.{row}
use Rattle.vt_world.specs.State.{WorldState, core}
use Rattle.vt_world.specs.Step.{Outcome}
use Rattle.vt_world.specs.Wanted.{wanted_in}

-- whether the first of marks raises a signal
abbrev raises_first : List Mark → Bool
raises_first [] = false
raises_first (mark.Asked n ∷ told) = false
raises_first (mark.Raised p signal ∷ told) = true
raises_first (mark.Hopped hop ∷ told) = false
raises_first (mark.Ended p ∷ told) = false

request_alone : (n : ℕ) (b : List Mark) → raises_first b ≡ false
    → news (mark.Asked n ∷ b) ≡ news b
request_alone n [] calm = refl
request_alone n (mark.Asked m ∷ b) calm = refl
request_alone n (mark.Raised p signal ∷ b) calm = absurd (false≢true (sym calm))
request_alone n (mark.Hopped hop ∷ b) calm = refl
request_alone n (mark.Ended p ∷ b) calm = refl

request_before : (n : ℕ) (a b : List Mark) → raises_first b ≡ false
    → news (a ++ b) ≡ news a ++ news b
    → news (mark.Asked n ∷ (a ++ b)) ≡ news (mark.Asked n ∷ a) ++ news b
request_before n [] b calm same = request_alone n b calm
request_before n (mark.Asked m ∷ a) b calm same = same
request_before n (mark.Raised p signal ∷ a) b calm same =
    ap (λ (list : List News). Asking (record { to = n; owner = p; signal = signal }) ∷ list) same
request_before n (mark.Hopped hop ∷ a) b calm same = same
request_before n (mark.Ended p ∷ a) b calm same = same

-- before marks of which the first raises nothing
news_append : (a b : List Mark) → raises_first b ≡ false → news (a ++ b) ≡ news a ++ news b
news_append [] b calm = refl
news_append (mark.Asked n ∷ a) b calm = request_before n a b calm (news_append a b calm)
news_append (mark.Raised p signal ∷ a) b calm = news_append a b calm
news_append (mark.Hopped hop ∷ a) b calm =
    ap (λ (list : List News). Going hop ∷ list) (news_append a b calm)
news_append (mark.Ended p ∷ a) b calm = news_append a b calm

-- raised signals that stand by themselves tell nothing
raised_then : (b : Bool) (p signal : ℕ) (more : List Mark)
    → news (cond b (mark.Raised p signal ∷ []) [] ++ more) ≡ news more
raised_then true p signal more = refl
raised_then false p signal more = refl

acquired_then : (k : Core) (handling : Handling) (more : List Mark)
    → news (raise_acquire k handling ++ more) ≡ news (raise_acquire k handling) ++ news more
acquired_then k (Auto words) more = refl
acquired_then k (Process handshake) more = alone (is_live k handshake.owner)
  where
    alone : (b : Bool)
        → news (cond b (mark.Raised handshake.owner handshake.acqsig ∷ []) [] ++ more)
        ≡ news (cond b (mark.Raised handshake.owner handshake.acqsig ∷ []) []) ++ news more
    alone true = refl
    alone false = refl

hop_then : (k : Core) (hop : Option Hop) (more : List Mark)
    → news (hop_marks k hop ++ more) ≡ news (hop_marks k hop) ++ news more
hop_then k None more = refl
hop_then k (Some hop) more =
    ap (λ (list : List News). Going hop ∷ list)
    (acquired_then k (console k.display hop.to).handling more)

-- what an act tells, before what comes after it: after a request no signal is raised first
act_then : (k : Core) (act : SwitchAct) (more : List Mark)
    → (is_request act ≡ true → raises_first more ≡ false)
    → news (marks k act ++ more) ≡ news (marks k act) ++ news more
act_then k (Allocate n) more calm = refl
act_then k (Request n) more calm = news_append (marks k (Request n)) more (calm refl)
act_then k (Release c p arg) more calm =
    hop_then (core_after k (Release c p arg)) (hop_of k.display (Release c p arg)) more
act_then k (SetMode c p m) more calm = refl
act_then k (SetKd c graphics) more calm = refl
act_then k (Lock on) more calm = refl
act_then k (Free n) more calm = refl
act_then k (End p) more calm = hop_then (core_after k (End p)) (hop_of k.display (End p)) more

-- no act raises a signal first
hop_first : (k : Core) (hop : Option Hop) (more : List Mark) → raises_first more ≡ false
    → raises_first (hop_marks k hop ++ more) ≡ false
hop_first k None more calm = calm
hop_first k (Some hop) more calm = refl

request_first : (there : Bool) (k : Core) (n : ℕ) (raised : List Mark) (hop : Option Hop)
    (more : List Mark) → raises_first more ≡ false
    → raises_first ((cond there (mark.Asked n ∷ raised) [] ++ hop_marks k hop) ++ more) ≡ false
request_first true k n raised hop more calm = refl
request_first false k n raised hop more calm = hop_first k hop more calm

act_first : (k : Core) (act : SwitchAct) (more : List Mark) → raises_first more ≡ false
    → raises_first (marks k act ++ more) ≡ false
act_first k (Allocate n) more calm = calm
act_first k (Request n) more calm =
    request_first (is_allocated k.display n) (core_after k (Request n)) n _
    (hop_of k.display (Request n)) more calm
act_first k (Release c p arg) more calm =
    hop_first (core_after k (Release c p arg)) (hop_of k.display (Release c p arg)) more calm
act_first k (SetMode c p m) more calm = calm
act_first k (SetKd c graphics) more calm = calm
act_first k (Lock on) more calm = calm
act_first k (Free n) more calm = calm
act_first k (End p) more calm = refl

-- these marks tell what these acts tell, and after a request no signal is raised first
record Tells (asked : Bool) (marked : List Mark) (k : Core) (acts : List SwitchAct) : Type 0 where
  same : news marked ≡ news_of k acts
  calm : asked ≡ true → raises_first marked ≡ false

by_act : (asked : Bool) (w : WorldState) (act : SwitchAct) (more : List Mark)
    (acts : List SwitchAct) → Tells (asked || is_request act) more (core (after_switch_act w act)) acts
    → Tells asked (marks (core w) act ++ more) (core w) (act ∷ acts)
by_act asked w act more acts rest = record {
  same = act_then (core w) act more (λ is. rest.calm (or_right asked (is_request act) is))
      ∙ ap (λ (list : List News). news (marks (core w) act) ++ list)
      (rest.same ∙ ap (λ (k : Core). news_of k acts) (acted_core w act));
  calm = λ is. act_first (core w) act more (rest.calm (or_left asked (is_request act) is));
}

by_request : (asked : Bool) (w : WorldState) (wanted : Option ℕ) (more : List Mark)
    (acts : List SwitchAct) → Tells (asked || true) more (core (after_request w wanted)) acts
    → Tells asked (marks_of_request w wanted ++ more) (core w) (request_of wanted ++ acts)
by_request asked w None more acts rest =
    record { same = rest.same; calm = λ is. rest.calm (or_left asked true is) }
by_request asked w (Some n) more acts rest = by_act asked w (Request n) more acts rest

same_core : (asked : Bool) (more : List Mark) (j k : Core) (acts : List SwitchAct) → j ≡ k
    → Tells (asked || false) more j acts → Tells asked more k acts
same_core asked more j k acts is rest = record {
  same = rest.same ∙ ap (λ (c : Core). news_of c acts) is;
  calm = λ asks. rest.calm (or_left asked false asks);
}

not_asked : {X : Type 0} (asked : Bool) → not (asked && true) ≡ true → asked ≡ true → X
not_asked true ordered is = absurd (false≢true ordered)
not_asked false ordered is = absurd (false≢true is)

by_own : (asked : Bool) (w : WorldState) (deed : OwnDeed) (more : List Mark)
    (acts : List SwitchAct) → not (asked && ends (Own deed)) ≡ true
    → Tells (asked || false) more (core (apply_own_deed w deed)) acts
    → Tells asked (marks_by w (Own deed) ++ more) (core w) acts
by_own asked w (Raises p signal) more acts ordered rest =
    let core_is : core (apply_own_deed w (Raises p signal)) ≡ core w = own_core w (Raises p signal) in
    record {
      same = raised_then (is_live (core w) p) p signal more
          ∙ rest.same ∙ ap (λ (k : Core). news_of k acts) core_is;
      calm = λ is. not_asked asked ordered is;
    }
by_own asked w deed more acts ordered rest =
    same_core asked more (core (apply_own_deed w deed)) (core w) acts (own_core w deed) rest

deeds_tell : (asked : Bool) (w : WorldState) (deeds : List Deed) → in_order asked deeds ≡ true
    → Tells asked (all_marks w deeds) (core w) (all_acts w deeds)
deeds_tell asked w [] ordered = record { same = refl; calm = λ is. refl }
deeds_tell asked w (By act ∷ deeds) ordered =
    let next : WorldState = apply_deed w (By act) in
    let later : Bool = in_order (asked || is_request act) deeds in
    by_act asked w act (all_marks next deeds) (all_acts next deeds)
    (deeds_tell (asked || is_request act) next deeds
    ((and_parts (not (asked && ends (By act))) later ordered).1))
deeds_tell asked w (Asks wanted ∷ deeds) ordered =
    let next : WorldState = apply_deed w (Asks wanted) in
    let later : Bool = in_order (asked || true) deeds in
    by_request asked w (wanted_in w.display wanted) (all_marks next deeds) (all_acts next deeds)
    (deeds_tell (asked || true) next deeds ((and_parts (not (asked && false)) later ordered).1))
deeds_tell asked w (Own deed ∷ deeds) ordered =
    let next : WorldState = apply_deed w (Own deed) in
    let later : Bool = in_order (asked || false) deeds in
    by_own asked w deed (all_marks next deeds) (all_acts next deeds)
    ((and_parts (not (asked && ends (Own deed))) later ordered).0)
    (deeds_tell (asked || false) next deeds
    ((and_parts (not (asked && ends (Own deed))) later ordered).1))

row_tells : (w : WorldState) (p : ℕ) (e : Event)
    → news (all_marks w (row w p e).deeds) ≡ news_of (core w) (all_acts w (row w p e).deeds)
row_tells w p e = (deeds_tell false w (row w p e).deeds (row_ordered w p e)).same

pub traces_tell_news : TracesTellNews
traces_tell_news w p e =
    ap news (traces_apply_marks_deeds w p e)
    ∙ by_step
    (λ (deeds : List Deed) (after : Outcome).
    news (all_marks (without_marks w) deeds) ≡ news_of (core w) (all_acts (without_marks w) deeds))
    w p e (λ errno. refl) (λ accepted. row_tells (without_marks w) p e)
