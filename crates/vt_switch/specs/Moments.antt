-- Histories of the display: the acts in order, and the marks of each act. The rules are this project's own.
use Rattle.std.specs.Prelude.{ℕ, ◌+◌, ◌==◌, ◌&&◌, ◌||◌, ◌++◌, Bool, true, false, not, List, [], ◌∷◌, Option, Some, None, Result, Ok, Err, is_some, slice_index_or, slice_set, if◌then◌else◌}
use Rattle.vt_base.specs.declared.inval.Inval.{Inval}
use Rattle.vt_switch.specs.Acts.{SwitchAct, Allocate, Request, Release, SetMode, SetKd, Lock, Free, End, after, hop_of}
use Rattle.vt_switch.specs.Calls.{request_outcome, handling_of, release_result}
use Rattle.vt_switch.specs.Display.{Display, console, is_allocated}
use Rattle.vt_switch.specs.declared.asked.Asked.{Asked}
use Rattle.vt_switch.specs.declared.asked.Asked.TheVariants.{Hopped, Signalled, Ignored}
use Rattle.vt_switch.specs.declared.handling.Handling.{Handling}
use Rattle.vt_switch.specs.declared.handling.Handling.TheVariants.{Auto, Process}
use Rattle.vt_switch.specs.declared.hop.Hop.{Hop}
use Rattle.vt_switch.specs.declared.mark.Mark.{Mark}
use Rattle.vt_switch.specs.declared.mark.Mark.TheVariants as mark

-- the display, and which callers live
pub record Core : Type 0 where
  pub display : Display
  pub live : List Bool

abbrev pub is_live : Core → ℕ → Bool
is_live k p = slice_index_or k.live p false

-- the core after an act: a dead process sets no mode, and an end is the end of a life
abbrev pub core_after : Core → SwitchAct → Core
core_after k (Allocate n) = record k { display = after k.display (Allocate n) }
core_after k (Request n) = record k { display = after k.display (Request n) }
core_after k (Release c p arg) = record k { display = after k.display (Release c p arg) }
core_after k (SetMode c p m) =
    if is_live k p then record k { display = after k.display (SetMode c p m) } else k
core_after k (SetKd c graphics) = record k { display = after k.display (SetKd c graphics) }
core_after k (Lock on) = record k { display = after k.display (Lock on) }
core_after k (Free n) = record k { display = after k.display (Free n) }
core_after k (End p) =
    record { display = after k.display (End p); live = slice_set k.live p false }

-- a signal is raised to the living alone
abbrev pub raise : Core → ℕ → ℕ → List Mark
raise k p signal = if is_live k p then mark.Raised p signal ∷ [] else []

abbrev pub raise_release : Core → Asked → List Mark
raise_release k (Hopped hop) = []
raise_release k (Signalled owner signal) = raise k owner signal
raise_release k Ignored = []

abbrev pub raise_acquire : Core → Handling → List Mark
raise_acquire k (Auto words) = []
raise_acquire k (Process handshake) = raise k handshake.owner handshake.acqsig

-- the marks of an act itself: a request of an allocated console, with the release signal that it raises; and
-- the end of a caller
abbrev pub own_marks : Core → SwitchAct → List Mark
own_marks k (Allocate n) = []
own_marks k (Request n) =
    if is_allocated k.display n then mark.Asked n ∷ raise_release k (request_outcome k.display n) else []
own_marks k (Release c p arg) = []
own_marks k (SetMode c p m) = []
own_marks k (SetKd c graphics) = []
own_marks k (Lock on) = []
own_marks k (Free n) = []
own_marks k (End p) = mark.Ended p ∷ []

-- the marks of a hop: the hop, and the acquire signal to the process that handles the new front
abbrev pub hop_marks : Core → Option Hop → List Mark
hop_marks k None = []
hop_marks k (Some hop) =
    mark.Hopped hop ∷ raise_acquire k (console k.display hop.to).handling

-- the trace of an act
abbrev pub marks : Core → SwitchAct → List Mark
marks k act = own_marks k act ++ hop_marks (core_after k act) (hop_of k.display act)

-- the hops of a trace
abbrev pub hops : List Mark → List Hop
hops [] = []
hops (mark.Asked n ∷ more) = hops more
hops (mark.Raised p signal ∷ more) = hops more
hops (mark.Hopped hop ∷ more) = hop ∷ hops more
hops (mark.Ended p ∷ more) = hops more

-- an act at its time: the entry of the history that it belongs to, and the core just before it
pub record Moment : Type 0 where
  pub entry : ℕ
  pub before : Core
  pub act : SwitchAct

abbrev pub core_left_by : Moment → Core
core_left_by m = core_after m.before m.act

abbrev pub trace : Moment → List Mark
trace m = marks m.before m.act

-- the core after the acts of an entry
abbrev pub all_after : Core → List SwitchAct → Core
all_after k [] = k
all_after k (act ∷ acts) = all_after (core_after k act) acts

-- the moments of an entry in front of earlier ones: the newest comes first
abbrev pub with_acts : ℕ → Core → List SwitchAct → List Moment → List Moment
with_acts i k [] earlier = earlier
with_acts i k (act ∷ acts) earlier =
    with_acts i (core_after k act) acts (record { entry = i; before = k; act = act } ∷ earlier)

-- the moments of a list of entries, counted from i
abbrev pub history : ℕ → Core → List (List SwitchAct) → List Moment → List Moment
history i k [] earlier = earlier
history i k (acts ∷ entries) earlier =
    history (i + 1) (all_after k acts) entries (with_acts i k acts earlier)

-- the core after the acts of all entries
abbrev pub after_entries : Core → List (List SwitchAct) → Core
after_entries k [] = k
after_entries k (acts ∷ entries) = after_entries (all_after k acts) entries

abbrev pub is_request : SwitchAct → Bool
is_request (Allocate n) = false
is_request (Request n) = true
is_request (Release c p arg) = false
is_request (SetMode c p m) = false
is_request (SetKd c graphics) = false
is_request (Lock on) = false
is_request (Free n) = false
is_request (End p) = false

-- the act can end a wait for the display
abbrev pub settles : SwitchAct → Bool
settles (Allocate n) = false
settles (Request n) = false
settles (Release c p arg) = true
settles (SetMode c p m) = false
settles (SetKd c graphics) = false
settles (Lock on) = false
settles (Free n) = false
settles (End p) = true

-- in an entry no request stands before a release or an end
abbrev pub is_ordered : Bool → List SwitchAct → Bool
is_ordered request_outcome [] = true
is_ordered request_outcome (act ∷ acts) =
    not (request_outcome && settles act) && is_ordered (request_outcome || is_request act) acts

abbrev pub accepts : Result (Option Hop) Inval → Bool
accepts (Ok hop) = true
accepts (Err refused) = false

-- the act is an accepted set mode of console c
abbrev pub sets_mode : ℕ → Core → SwitchAct → Bool
sets_mode c k (Allocate n) = false
sets_mode c k (Request n) = false
sets_mode c k (Release n p arg) = false
sets_mode c k (SetMode n p m) = n == c && (is_live k p && is_some (handling_of p m))
sets_mode c k (SetKd n graphics) = false
sets_mode c k (Lock on) = false
sets_mode c k (Free n) = false
sets_mode c k (End p) = false

-- the act is an accepted refusal to let the display go away from console c
abbrev pub refuses : ℕ → Core → SwitchAct → Bool
refuses c k (Allocate n) = false
refuses c k (Request n) = false
refuses c k (Release n p arg) = n == c && (arg == 0 && accepts (release_result k.display n p arg))
refuses c k (SetMode n p m) = false
refuses c k (SetKd n graphics) = false
refuses c k (Lock on) = false
refuses c k (Free n) = false
refuses c k (End p) = false
