-- The display law of histories from a start.
use Rattle.std.proofs.Common.{◌≡◌, ℕ, true, false, List, [], ◌∷◌, length, suc, None, refl, sym, ap, subst, subst₂, ◌∙◌}
use Rattle.vt_events.specs.declared.entry.Entry.{Entry}
use Rattle.vt_events.specs.declared.event.Event.{Event}
use Rattle.vt_procs.specs.Tickets.{after_idle_rule}
use Rattle.vt_procs.specs.Callers.{callers_of}
use Rattle.vt_switch.specs.Law.{AllOrdered, DisplayLaw, IsExplained, OwnersLive, OwnersStayLive, TargetLaw}
use Rattle.vt_switch.specs.Moments.{Core, after_entries, all_after, is_ordered}
use Rattle.vt_world.proofs.Cores.{deeds_core, same_core, settled_kept}
use Rattle.vt_world.proofs.Owners.{first_owners}
use Rattle.vt_world.proofs.for_laws.Orders.{acts_ordered, row_ordered}
use Rattle.vt_world.proofs.for_laws.Steps.{by_step}
use Rattle.vt_world.specs.Acts.{all_acts, event_acts, history_acts}
use Rattle.vt_world.specs.Deeds.{Deed, apply_deeds}
use Rattle.vt_world.specs.Heard.{without_marks}
use Rattle.vt_world.specs.History.{replay}
use Rattle.vt_world.specs.Laws.{ActsMakeCores, DisplaysAreLawful, DisplaysAreLawfulFrom, IsStart, OwnersAreLive, TargetsAreExplained, moments}
use Rattle.vt_world.specs.Events.{row}
use Rattle.vt_world.specs.State.{WorldState, core}
use Rattle.vt_world.specs.Step.{Outcome, step}

pub acts_make_cores : ActsMakeCores
acts_make_cores w p e =
    by_step
    (λ (deeds : List Deed) (after : Outcome).
    core after.world ≡ all_after (core w) (all_acts (without_marks w) deeds))
    w p e (λ errno. refl)
    (λ accepted.
    let deeds : List Deed = (row (without_marks w) p e).deeds in
    let end : WorldState = apply_deeds (without_marks w) deeds in
    same_core end (after_idle_rule end.callers) (settled_kept end.callers) ∙ deeds_core (without_marks w) deeds)

event_ordered : (w : WorldState) (p : ℕ) (e : Event) → is_ordered false (event_acts w p e) ≡ true
event_ordered w p e =
    by_step
    (λ (deeds : List Deed) (after : Outcome).
    is_ordered false (all_acts (without_marks w) deeds) ≡ true)
    w p e (λ errno. refl)
    (λ accepted.
    acts_ordered false (without_marks w) (row (without_marks w) p e).deeds (row_ordered (without_marks w) p e))

history_ordered : (w : WorldState) (entries : List Entry) → AllOrdered (history_acts w entries)
history_ordered w [] = tt
history_ordered w (entry ∷ entries) = (
  event_ordered w entry.caller entry.event,
  history_ordered (step w entry.caller entry.event).world entries,
)

pub replay_core : (w : WorldState) (entries : List Entry)
    → after_entries (core w) (history_acts w entries) ≡ core (replay w entries)
replay_core w [] = refl
replay_core w (entry ∷ entries) =
    let next : WorldState = (step w entry.caller entry.event).world in
    ap (λ (k : Core). after_entries k (history_acts next entries))
    (sym (acts_make_cores w entry.caller entry.event))
    ∙ replay_core next entries

pub acts_length : (w : WorldState) (entries : List Entry)
    → length (history_acts w entries) ≡ length entries
acts_length w [] = refl
acts_length w (entry ∷ entries) =
    ap suc (acts_length (step w entry.caller entry.event).world entries)

start_owners : (w : WorldState) → IsStart w → OwnersLive (core w)
start_owners w start =
    subst (λ (x : WorldState). OwnersLive (core x)) (sym start.opened)
    (first_owners start.consoles start.front (callers_of start.keyboards start.processes))

nothing_waits : (w : WorldState) → IsStart w → w.display.pending ≡ None
nothing_waits w start = ap (λ (x : WorldState). x.display.pending) start.opened

pub displays_are_lawful_from : DisplayLaw → (w : WorldState) → OwnersLive (core w)
    → DisplaysAreLawfulFrom w
displays_are_lawful_from law w owners nothing entries =
    law (core w) (history_acts w entries) owners nothing (history_ordered w entries)

pub displays_are_lawful : DisplayLaw → DisplaysAreLawful
displays_are_lawful law w entries start =
    displays_are_lawful_from law w (start_owners w start) (nothing_waits w start) entries

pub targets_are_explained : TargetLaw → TargetsAreExplained
targets_are_explained law w entries start =
    subst₂ (λ (i : ℕ) (k : Core). IsExplained i k (moments w entries))
    (acts_length w entries) (replay_core w entries)
    (law (core w) (history_acts w entries) (start_owners w start) (nothing_waits w start)
    (history_ordered w entries))

pub owners_are_live : OwnersStayLive → OwnersAreLive
owners_are_live law w entries start =
    subst OwnersLive (replay_core w entries)
    (law (core w) (history_acts w entries) (start_owners w start))
