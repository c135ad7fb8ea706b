-- Deeds leave the display and which callers are alive as their acts leave them.
use Rattle.std.proofs.Common.{◌≡◌, ℕ, Bool, true, false, cond, List, [], ◌∷◌, ◌++◌, map, set, Option, Some, None, refl, sym, ap, ◌∙◌}
use Rattle.std.proofs.Math.Seq.{map-set_same}
use Rattle.std.proofs.lemmas.List.{map-set}
use Rattle.std.specs.List.{list_any}
use Rattle.vt_procs.specs.Callers.{Callers, adds_open, caller_at, dead_process, loses_open, no_caller, with_caller}
use Rattle.vt_procs.specs.Tickets.{after_signal, can_go, after_input_on, is_for_display, is_for_input, waiting_after_report, after_idle_rule, with_signal_pending, after_success, with_waiting, without_pending}
use Rattle.vt_procs.specs.declared.process.Process.{Process}
use Rattle.vt_procs.specs.declared.waiting.Waiting.{Waiting}
use Rattle.vt_procs.specs.declared.waiting.Waiting.TheVariants.{Open}
use Rattle.vt_switch.specs.Acts.{SwitchAct, Allocate, Request, Release, SetMode, SetKd, Lock, Free, End, after, hop_of}
use Rattle.vt_switch.specs.Calls.{request_outcome}
use Rattle.vt_switch.specs.Display.{Display, console, is_allocated}
use Rattle.vt_switch.specs.Moments.{Core, all_after, core_after, hop_marks, is_live, marks, own_marks, raise_acquire, raise_release}
use Rattle.vt_switch.specs.declared.asked.Asked.{Asked}
use Rattle.vt_switch.specs.declared.asked.Asked.TheVariants.{Hopped, Signalled, Ignored}
use Rattle.vt_switch.specs.declared.handling.Handling.{Handling}
use Rattle.vt_switch.specs.declared.handling.Handling.TheVariants.{Auto, Process as Handled}
use Rattle.vt_switch.specs.declared.hop.Hop.{Hop}
use Rattle.vt_switch.specs.declared.mark.Mark.{Mark}
use Rattle.vt_switch.specs.declared.mark.Mark.TheVariants as mark
use Rattle.vt_world.specs.Acts.{acts_of, all_acts, request_of}
use Rattle.vt_world.specs.Deeds.{Deed, By, Asks, Own, OwnDeed, Starts, Clears, Writes, Alters, Puts, Takes, Lights, Keyed, Scanned, Coded, Mapped, Types, Unplugs, Opens, Shuts, Waits, Collects, Receives, Accepts, Raises, after_switch_act, apply_deeds, apply_deed, apply_own_deed, after_request}
use Rattle.vt_world.specs.Heard.{apply_mark, callers_after_mark, apply_marks}
use Rattle.vt_world.specs.Inputs.{comes, input_at}
use Rattle.vt_world.specs.State.{WorldState, core}
use Rattle.vt_world.specs.Wanted.{wanted_in}

-- which callers are alive
abbrev pub lives : Callers → List Bool
lives callers = map (λ (caller : Process). caller.live) callers.list

abbrev core_of : Display → List Bool → Core
core_of display live = record { display = display; live = live }

-- another process at the place of p, alive if p was
pub with_kept : (callers : Callers) (p : ℕ) (new : Process) → new.live ≡ (caller_at callers p).live
    → lives (with_caller callers p new) ≡ lives callers
with_kept callers p new same =
    map-set_same (λ (caller : Process). caller.live) callers.list p new no_caller same

-- each process with another ticket
abbrev all_waiting : (Waiting → Waiting) → List Process → List Process
all_waiting ends list = map (λ (process : Process). with_waiting process (ends process.waiting)) list

pub waiting_kept : (ends : Waiting → Waiting) (list : List Process)
    → map (λ (caller : Process). caller.live) (all_waiting ends list)
    ≡ map (λ (caller : Process). caller.live) list
waiting_kept ends [] = refl
waiting_kept ends (process ∷ list) =
    ap (λ (live : List Bool). process.live ∷ live) (waiting_kept ends list)

pub filled_kept : (b : Bool) (n : ℕ) (callers : Callers)
    → lives (cond b (after_input_on n callers) callers) ≡ lives callers
filled_kept true n callers = waiting_kept (after_success (is_for_input n)) callers.list
filled_kept false n callers = refl

settled_if : (b : Bool) (callers : Callers)
    → lives (cond b callers (record callers { list = all_waiting after_signal callers.list }))
    ≡ lives callers
settled_if true callers = refl
settled_if false callers = waiting_kept after_signal callers.list

-- the idle rule leaves which callers are alive
pub settled_kept : (callers : Callers) → lives (after_idle_rule callers) ≡ lives callers
settled_kept callers = settled_if (list_any can_go callers.list) callers

-- which callers are alive after a mark, and after several
abbrev lives_after : Mark → List Bool → List Bool
lives_after (mark.Asked n) live = live
lives_after (mark.Raised p signal) live = live
lives_after (mark.Hopped hop) live = live
lives_after (mark.Ended p) live = set live p false

abbrev all_lives_after : List Mark → List Bool → List Bool
all_lives_after [] live = live
all_lives_after (m ∷ told) live = all_lives_after told (lives_after m live)

pub hears : (m : Mark) (callers : Callers) → lives (callers_after_mark m callers) ≡ lives_after m (lives callers)
hears (mark.Asked n) callers = refl
hears (mark.Raised p signal) callers =
    with_kept callers p (with_signal_pending (caller_at callers p) signal) refl
hears (mark.Hopped hop) callers = waiting_kept (after_success (is_for_display hop.to)) callers.list
hears (mark.Ended p) callers =
    map-set (λ (caller : Process). caller.live) callers.list p (dead_process (caller_at callers p))

pub tells : (w : WorldState) (told : List Mark)
    → core (apply_marks w told) ≡ core_of w.display (all_lives_after told (lives w.callers))
tells w [] = refl
tells w (m ∷ told) =
    tells (apply_mark w m) told
    ∙ ap (λ (live : List Bool). core_of w.display (all_lives_after told live)) (hears m w.callers)

-- only an end makes a caller dead
lives_append : (a b : List Mark) (live : List Bool)
    → all_lives_after (a ++ b) live ≡ all_lives_after b (all_lives_after a live)
lives_append [] b live = refl
lives_append (m ∷ a) b live = lives_append a b (lives_after m live)

raised_if : (b : Bool) (p signal : ℕ) (live : List Bool)
    → all_lives_after (cond b (mark.Raised p signal ∷ []) []) live ≡ live
raised_if true p signal live = refl
raised_if false p signal live = refl

acquire_keeps : (k : Core) (handling : Handling) (live : List Bool)
    → all_lives_after (raise_acquire k handling) live ≡ live
acquire_keeps k (Auto words) live = refl
acquire_keeps k (Handled handshake) live =
    raised_if (is_live k handshake.owner) handshake.owner handshake.acqsig live

hop_keeps : (k : Core) (hop : Option Hop) (live : List Bool)
    → all_lives_after (hop_marks k hop) live ≡ live
hop_keeps k None live = refl
hop_keeps k (Some hop) live = acquire_keeps k (console k.display hop.to).handling live

release_keeps : (k : Core) (a : Asked) (live : List Bool)
    → all_lives_after (raise_release k a) live ≡ live
release_keeps k (Hopped hop) live = refl
release_keeps k (Signalled owner signal) live = raised_if (is_live k owner) owner signal live
release_keeps k Ignored live = refl

asked_keeps : (b : Bool) (n : ℕ) (k : Core) (a : Asked) (live : List Bool)
    → all_lives_after (cond b (mark.Asked n ∷ raise_release k a) []) live ≡ live
asked_keeps true n k a live = release_keeps k a live
asked_keeps false n k a live = refl

if_live : (b : Bool) (k : Core) (display : Display)
    → k.live ≡ (cond b (record k { display = display }) k).live
if_live true k display = refl
if_live false k display = refl

own_lives : (k : Core) (act : SwitchAct)
    → all_lives_after (own_marks k act) k.live ≡ (core_after k act).live
own_lives k (Allocate n) = refl
own_lives k (Request n) = asked_keeps (is_allocated k.display n) n k (request_outcome k.display n) k.live
own_lives k (Release c p arg) = refl
own_lives k (SetMode c p m) = if_live (is_live k p) k (after k.display (SetMode c p m))
own_lives k (SetKd c graphics) = refl
own_lives k (Lock on) = refl
own_lives k (Free n) = refl
own_lives k (End p) = refl

marks_live : (k : Core) (act : SwitchAct)
    → all_lives_after (marks k act) k.live ≡ (core_after k act).live
marks_live k act =
    let hop : List Mark = hop_marks (core_after k act) (hop_of k.display act) in
    lives_append (own_marks k act) hop k.live
    ∙ hop_keeps (core_after k act) (hop_of k.display act) (all_lives_after (own_marks k act) k.live)
    ∙ own_lives k act

-- an act of the console is an act on its core
pub acted_core : (w : WorldState) (act : SwitchAct) → core (after_switch_act w act) ≡ core_after (core w) act
acted_core w act =
    let display : Display = (core_after (core w) act).display in
    tells (record w { display = display }) (marks (core w) act)
    ∙ ap (core_of display) (marks_live (core w) act)

pub same_core : (w : WorldState) (callers : Callers) → lives callers ≡ lives w.callers
    → core (record w { callers = callers }) ≡ core w
same_core w callers same = ap (core_of w.display) same

raises_core : (b : Bool) (w : WorldState) (p signal : ℕ)
    → core (apply_marks w (cond b (mark.Raised p signal ∷ []) [])) ≡ core w
raises_core b w p signal =
    tells w (cond b (mark.Raised p signal ∷ []) [])
    ∙ ap (core_of w.display) (raised_if b p signal (lives w.callers))

-- a deed that is no act keeps the core
pub own_core : (w : WorldState) (deed : OwnDeed) → core (apply_own_deed w deed) ≡ core w
own_core w (Starts n) = refl
own_core w (Clears n) = refl
own_core w (Writes n bytes) = refl
own_core w (Alters n m) = refl
own_core w (Puts n piece) =
    let some : Bool = comes (input_at w.inputs n).queue piece in
    same_core w (cond some (after_input_on n w.callers) w.callers) (filled_kept some n w.callers)
own_core w (Takes n count) = refl
own_core w (Lights n lights) = refl
own_core w (Keyed n state) = refl
own_core w (Scanned k scanner) = refl
own_core w (Coded scan code) = refl
own_core w (Mapped tables) = refl
own_core w (Types n keys state) = refl
own_core w (Unplugs p) = refl
own_core w (Opens p c) =
    let new : Process = adds_open (caller_at w.callers p) c in
    same_core w (with_caller w.callers p new) (with_kept w.callers p new refl)
own_core w (Shuts p fd) =
    let new : Process = loses_open (caller_at w.callers p) fd in
    same_core w (with_caller w.callers p new) (with_kept w.callers p new refl)
own_core w (Waits p ticket) =
    let new : Process = with_waiting (caller_at w.callers p) (Open ticket) in
    same_core w (with_caller w.callers p new) (with_kept w.callers p new refl)
own_core w (Collects p) =
    let new : Process =
    with_waiting (caller_at w.callers p) (waiting_after_report (caller_at w.callers p).waiting) in
    same_core w (with_caller w.callers p new) (with_kept w.callers p new refl)
own_core w (Receives p) =
    let new : Process = without_pending (caller_at w.callers p) in
    same_core w (with_caller w.callers p new) (with_kept w.callers p new refl)
own_core w (Accepts p signal) = refl
own_core w (Raises p signal) = raises_core (is_live (core w) p) w p signal

requested_core : (w : WorldState) (wanted : Option ℕ)
    → core (after_request w wanted) ≡ all_after (core w) (request_of wanted)
requested_core w None = refl
requested_core w (Some n) = acted_core w (Request n)

-- a deed leaves the core that its acts leave
pub deed_core : (w : WorldState) (deed : Deed)
    → core (apply_deed w deed) ≡ all_after (core w) (acts_of w deed)
deed_core w (By act) = acted_core w act
deed_core w (Asks wanted) = requested_core w (wanted_in w.display wanted)
deed_core w (Own deed) = own_core w deed

pub after_append : (k : Core) (a b : List SwitchAct)
    → all_after k (a ++ b) ≡ all_after (all_after k a) b
after_append k [] b = refl
after_append k (act ∷ a) b = after_append (core_after k act) a b

pub deeds_core : (w : WorldState) (deeds : List Deed)
    → core (apply_deeds w deeds) ≡ all_after (core w) (all_acts w deeds)
deeds_core w [] = refl
deeds_core w (deed ∷ deeds) =
    let rest : List SwitchAct = all_acts (apply_deed w deed) deeds in
    deeds_core (apply_deed w deed) deeds
    ∙ ap (λ (k : Core). all_after k rest) (deed_core w deed)
    ∙ sym (after_append (core w) (acts_of w deed) rest)
