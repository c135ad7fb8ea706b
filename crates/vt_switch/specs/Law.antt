-- The display law: why each hop was allowed. This project's own.
use Rattle.std.specs.Prelude.{◌≡◌, ⊤, ◌⊎◌, ◌<◌, ℕ, true, false, List, [], ◌∷◌, length, Option, Some, None, IfSome}
use Rattle.vt_switch.specs.Acts.{SwitchAct, Release, End, hop_of}
use Rattle.vt_switch.specs.Display.{Display, console, owner_of}
use Rattle.vt_switch.specs.Moments.{Core, Moment, after_entries, history, hops, is_live, is_ordered, core_left_by, refuses, sets_mode, trace}
use Rattle.vt_switch.specs.News.{news}
use Rattle.vt_switch.specs.declared.cause.Cause.{Cause}
use Rattle.vt_switch.specs.declared.cause.Cause.TheVariants.{Free, Released, Died}
use Rattle.vt_switch.specs.declared.handling.Handling.{Handling}
use Rattle.vt_switch.specs.declared.handling.Handling.TheVariants.{Auto, Process}
use Rattle.vt_switch.specs.declared.hop.Hop.{Hop}
use Rattle.vt_switch.specs.declared.mark.Mark.TheVariants as mark

-- some earlier moment was the cause, and each one after it was quiet; the newest comes first
abbrev pub Since : (Moment → Type 0) → (Moment → Type 0) → List Moment → Type 0
Since IsQuiet IsCause [] = ⊥
Since IsQuiet IsCause (m ∷ earlier) = IsCause m ⊎ (IsQuiet m × Since IsQuiet IsCause earlier)

-- the process that handles a console's switches, and its release signal
abbrev pub release_of : Handling → Option (ℕ × ℕ)
release_of (Auto words) = None
release_of (Process handshake) = Some (handshake.owner, handshake.relsig)

-- in an entry before the i-th, console a was in front, its release signal was raised to p, and n
-- became the console that waits
pub record Raises (i a p n : ℕ) (m : Moment) : Type 0 where
  pub earlier : m.entry < i
  pub in_front : m.before.display.front ≡ a
  pub signal : ℕ
  pub handled : release_of (console m.before.display a).handling ≡ Some (p, signal)
  pub raised : trace m ≡ mark.Asked n ∷ mark.Raised p signal ∷ []
  pub target : (core_left_by m).display.pending ≡ Some n

-- no accepted set mode of a, no accepted refusal of a, no hop and no new request, and n still waits
pub record Quiet (a n : ℕ) (m : Moment) : Type 0 where
  pub no_mode : sets_mode a m.before m.act ≡ false
  pub no_refusal : refuses a m.before m.act ≡ false
  pub no_news : news (trace m) ≡ []
  pub target : (core_left_by m).display.pending ≡ Some n

-- p handled the switches of a, n waited, and a's release signal had been raised to p for it
pub record Handed (earlier : List Moment) (m : Moment) (a p n : ℕ) : Type 0 where
  pub owner : owner_of (console m.before.display a).handling ≡ Some p
  pub waits : m.before.display.pending ≡ Some n
  pub asked : Since (Quiet a n) (Raises m.entry a p n) earlier

-- the display before an act that moves it, and the act: the console in front handled its switches itself
-- and showed text, and switching wasn't locked; or its owner let the display go to the console that waited;
-- or its owner ended
pub record IsLetGo (d : Display) (a p n : ℕ) : Type 0 where
  pub owner : owner_of (console d a).handling ≡ Some p
  pub waits : d.pending ≡ Some n

abbrev pub DueBy : Display → SwitchAct → ℕ → ℕ → Cause → Type 0
DueBy d act a n Free =
    (owner_of (console d a).handling ≡ None)
    × ((console d a).graphics ≡ false)
    × (d.locked ≡ false)
DueBy d act a n (Released p) = (act ≡ Release a p 1) × IsLetGo d a p n
DueBy d act a n (Died p) = (act ≡ End p) × IsLetGo d a p n

pub record IsDue (d : Display) (act : SwitchAct) (hop : Hop) : Type 0 where
  pub from : hop.from ≡ d.front
  pub because : DueBy d act hop.from hop.to hop.cause

-- in every display, whatever came before, a hop that an act makes is due
abbrev pub HopsAreDue : Type 0
HopsAreDue = (d : Display) (act : SwitchAct) → IfSome (hop_of d act) (IsDue d act)

-- the console in front handled its switches itself and showed text, and switching wasn't locked; or
-- its owner let the display go; or its owner died
abbrev pub AllowedBy : List Moment → Moment → ℕ → ℕ → Cause → Type 0
AllowedBy earlier m a n Free =
    (owner_of (console m.before.display a).handling ≡ None)
    × ((console m.before.display a).graphics ≡ false)
    × (m.before.display.locked ≡ false)
AllowedBy earlier m a n (Released p) = (m.act ≡ Release a p 1) × Handed earlier m a p n
AllowedBy earlier m a n (Died p) = (m.act ≡ End p) × Handed earlier m a p n

pub record IsAllowed (earlier : List Moment) (m : Moment) (hop : Hop) : Type 0 where
  pub from : hop.from ≡ m.before.display.front
  pub because : AllowedBy earlier m hop.from hop.to hop.cause

abbrev pub EachAllowed : List Moment → Moment → List Hop → Type 0
EachAllowed earlier m [] = ⊤
EachAllowed earlier m (hop ∷ more) = IsAllowed earlier m hop × EachAllowed earlier m more

-- every hop of the history was allowed
abbrev pub IsLawful : List Moment → Type 0
IsLawful [] = ⊤
IsLawful (m ∷ earlier) = EachAllowed earlier m (hops (trace m)) × IsLawful earlier

-- each process that handles the switches of a console is alive
abbrev pub OwnersLive : Core → Type 0
OwnersLive k =
    (c p : ℕ) → owner_of (console k.display c).handling ≡ Some p → is_live k p ≡ true

-- in each of these entries the requests come last
abbrev pub AllOrdered : List (List SwitchAct) → Type 0
AllOrdered [] = ⊤
AllOrdered (acts ∷ entries) = (is_ordered false acts ≡ true) × AllOrdered entries

-- from a core where nothing waits and every owner lives, every hop of every history was allowed
abbrev pub DisplayLaw : Type 0
DisplayLaw =
    (k : Core) (entries : List (List SwitchAct)) → OwnersLive k → k.display.pending ≡ None
    → AllOrdered entries → IsLawful (history 0 k entries [])

-- console n was asked for: in an entry before the i-th, the release signal of the console in front
-- was raised to its present owner and n became the console that waits, and nothing came between
pub record WasAskedFor (i : ℕ) (k : Core) (earlier : List Moment) (n : ℕ) : Type 0 where
  pub owner : ℕ
  pub owned : owner_of (console k.display k.display.front).handling ≡ Some owner
  pub asked : Since (Quiet k.display.front n) (Raises i k.display.front owner n) earlier

-- the console that waits for the display was asked for
abbrev pub IsExplained : ℕ → Core → List Moment → Type 0
IsExplained i k earlier = (n : ℕ) → k.display.pending ≡ Some n → WasAskedFor i k earlier n

-- from a core where nothing waits and every owner lives, the console that waits after a history was asked for
-- in it
abbrev pub TargetLaw : Type 0
TargetLaw =
    (k : Core) (entries : List (List SwitchAct)) → OwnersLive k → k.display.pending ≡ None
    → AllOrdered entries
    → IsExplained (length entries) (after_entries k entries) (history 0 k entries [])

-- owners that live at first live after every history
abbrev pub OwnersStayLive : Type 0
OwnersStayLive =
    (k : Core) (entries : List (List SwitchAct)) → OwnersLive k → OwnersLive (after_entries k entries)
