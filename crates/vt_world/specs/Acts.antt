-- The acts of the switch that an event makes.
use Rattle.std.specs.Prelude.{ℕ, ◌++◌, List, [], ◌∷◌, Option, Some, None}
use Rattle.vt_base.specs.declared.errno.Errno.{Errno}
use Rattle.vt_events.specs.declared.entry.Entry.{Entry}
use Rattle.vt_events.specs.declared.event.Event.{Event}
use Rattle.vt_switch.specs.Acts.{SwitchAct, Request}
use Rattle.vt_world.specs.Deeds.{Deed, Asks, By, Own, apply_deed}
use Rattle.vt_world.specs.Heard.{without_marks}
use Rattle.vt_world.specs.Events.{own_refusals, row}
use Rattle.vt_world.specs.State.{WorldState}
use Rattle.vt_world.specs.Step.{step}
use Rattle.vt_world.specs.Refusals.{common_refusals, first_refusal}
use Rattle.vt_world.specs.Wanted.{wanted_in}

abbrev pub request_of : Option ℕ → List SwitchAct
request_of None = []
request_of (Some n) = Request n ∷ []

-- the acts of a deed
abbrev pub acts_of : WorldState → Deed → List SwitchAct
acts_of w (By act) = act ∷ []
acts_of w (Asks wanted) = request_of (wanted_in w.display wanted)
acts_of w (Own deed) = []

-- the acts of deeds, one after another
abbrev pub all_acts : WorldState → List Deed → List SwitchAct
all_acts w [] = []
all_acts w (deed ∷ deeds) = acts_of w deed ++ all_acts (apply_deed w deed) deeds

-- the deeds of an event that isn't refused
abbrev pub deeds_unless : Option Errno → List Deed → List Deed
deeds_unless None deeds = deeds
deeds_unless (Some errno) deeds = []

abbrev pub deeds_after : WorldState → ℕ → Event → Option Errno → List Deed
deeds_after w p e None = deeds_unless (first_refusal (own_refusals w p e)) (row w p e).deeds
deeds_after w p e (Some errno) = []

-- the deeds of an event of a caller, from a machine with an empty trace
abbrev pub event_deeds : WorldState → ℕ → Event → List Deed
event_deeds w p e = deeds_after w p e (first_refusal (common_refusals w p e))

abbrev pub event_acts : WorldState → ℕ → Event → List SwitchAct
event_acts w p e = all_acts (without_marks w) (event_deeds (without_marks w) p e)

-- the acts of each entry of a history
abbrev pub history_acts : WorldState → List Entry → List (List SwitchAct)
history_acts w [] = []
history_acts w (entry ∷ entries) =
    event_acts w entry.caller entry.event
    ∷ history_acts (step w entry.caller entry.event).world entries
