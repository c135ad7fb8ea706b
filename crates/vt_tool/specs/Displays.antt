-- The display law of the history of a written journal: the reason for each hop in the traces of its entries.
-- docs/reference/switching.md has the rules.
use Rattle.std.specs.Prelude.{◌≡◌, ◌⊎◌, ⊤, ℕ, List, [], ◌∷◌, ◌++◌, length, take, Some, slice_get, true}
use Rattle.vt_events.specs.declared.entry.Entry.{Entry}
use Rattle.vt_switch.specs.Law.{IsAllowed, IsExplained, Quiet, Raises, Since}
use Rattle.vt_switch.specs.Moments.{Moment, hops, trace}
use Rattle.vt_switch.specs.declared.cause.Cause.{Cause}
use Rattle.vt_switch.specs.declared.cause.Cause.TheVariants.{Free, Released, Died}
use Rattle.vt_switch.specs.declared.hop.Hop.{Hop}
use Rattle.vt_switch.specs.declared.mark.Mark.{Mark}
use Rattle.vt_switch.specs.declared.mark.Mark.TheVariants as mark
use Rattle.vt_world.specs.History.{replay}
use Rattle.vt_world.specs.Laws.{CallsRelease, moments}
use Rattle.vt_world.specs.RefusalLaws.{is_refusal}
use Rattle.vt_world.specs.State.{WorldState, core}
use Rattle.vt_world.specs.Step.{step}

-- the trace of an entry, from the machine before it
abbrev pub trace_on : WorldState → Entry → List Mark
trace_on w entry = (step w entry.caller entry.event).world.trace.marks

-- the hop is one of these
abbrev pub IsAmong : Hop → List Hop → Type 0
IsAmong hop [] = ⊥
IsAmong hop (h ∷ more) = (h ≡ hop) ⊎ IsAmong hop more

-- the moment stands in the history right after these earlier ones; the newest comes first
abbrev pub StandsBehind : List Moment → Moment → List Moment → Type 0
StandsBehind earlier m [] = ⊥
StandsBehind earlier m (x ∷ list) = ((x ≡ m) × (list ≡ earlier)) ⊎ StandsBehind earlier m list

-- the moment was in an entry before the k-th; console a was in front, and the trace of that entry has the
-- request for n and right after it the release signal of a's owner p
pub record IsRaisedIn (start : WorldState) (history : List Entry) (k a p n : ℕ) (m : Moment) : Type 0 where
  pub raises : Raises k a p n m
  pub entry : Entry
  pub is : slice_get history m.entry ≡ Some entry
  pub front : List Mark
  pub back : List Mark
  pub told :
      trace_on (replay start (take m.entry history)) entry
      ≡ front ++ (mark.Asked n ∷ mark.Raised p raises.signal ∷ back)

-- the signal was raised in an earlier entry, and after it came no accepted set mode and no accepted refusal of
-- a, no hop and no other request, and n is still pending
abbrev pub WasRaised : WorldState → List Entry → ℕ → ℕ → ℕ → ℕ → List Moment → Type 0
WasRaised start history k a p n earlier =
    Since (Quiet a n) (IsRaisedIn start history k a p n) earlier

-- the facts of a hop from console a to n in the k-th entry, by its cause: a release is the entry's own call, a
-- RelDisp of a with the argument 1 by the process that is named; for a release and a death an earlier entry
-- raised the signal
abbrev pub IsCaused : WorldState → List Entry → ℕ → Entry → List Moment → ℕ → ℕ → Cause → Type 0
IsCaused start history k entry earlier a n Free = ⊤
IsCaused start history k entry earlier a n (Released p) =
    (p ≡ entry.caller)
    × CallsRelease (replay start (take k history)) entry.caller entry.event a 1
    × WasRaised start history k a p n earlier
IsCaused start history k entry earlier a n (Died p) = WasRaised start history k a p n earlier

-- a hop in the trace of the k-th entry: the moment that made it, the machine just before it, the moments before
-- it, by which the hop was allowed, and its cause
pub record IsLawfulHop (start : WorldState) (history : List Entry) (k : ℕ) (entry : Entry) (hop : Hop) : Type 0 where
  pub earlier : List Moment
  pub moment : Moment
  pub stands : StandsBehind earlier moment (moments start history)
  pub in_entry : moment.entry ≡ k
  pub made : IsAmong hop (hops (trace moment))
  pub allowed : IsAllowed earlier moment hop
  pub caused : IsCaused start history k entry earlier hop.from hop.to hop.cause

-- each hop in the trace of the k-th entry is lawful, and the trace of a refused call is empty, so a call that
-- moves the display was accepted
pub record IsLawfulEntry (start : WorldState) (history : List Entry) (k : ℕ) (entry : Entry) : Type 0 where
  pub hops_are :
      (hop : Hop) → IsAmong hop (hops (trace_on (replay start (take k history)) entry))
      → IsLawfulHop start history k entry hop
  pub refused :
      is_refusal entry.event
      (step (replay start (take k history)) entry.caller entry.event).reply ≡ true
      → trace_on (replay start (take k history)) entry ≡ []

-- the display law of a history: each hop in the traces of its entries was allowed; and an entry requested each
-- console that is pending at the end
pub record KeepsDisplayLaw (start : WorldState) (history : List Entry) : Type 0 where
  pub each :
      (k : ℕ) (entry : Entry) → slice_get history k ≡ Some entry
      → IsLawfulEntry start history k entry
  pub waiting :
      IsExplained (length history) (core (replay start history)) (moments start history)
