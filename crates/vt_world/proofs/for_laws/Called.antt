-- Every release and every set mode is a call of its event's caller.
use Rattle.std.proofs.Common.{◌≡◌, ℕ, Bool, true, false, List, [], ◌∷◌, ◌++◌, Option, Some, None, refl}
use Rattle.std.proofs.lemmas.Bool.{and_parts, false≢true}
use Rattle.std.specs.List.{list_all}
use Rattle.vt_events.specs.declared.event.Event.{Event}
use Rattle.vt_events.specs.declared.event.Event.TheVariants as event
use Rattle.vt_switch.specs.Acts.{SwitchAct, Release, SetMode}
use Rattle.vt_world.proofs.for_laws.RowDeeds.{is_typed, row_passes}
use Rattle.vt_world.proofs.for_laws.Steps.{by_step}
use Rattle.vt_world.specs.Acts.{all_acts, request_of}
use Rattle.vt_world.specs.Deeds.{Deed, Asks, By, Own, apply_deed}
use Rattle.vt_world.specs.Heard.{without_marks}
use Rattle.vt_world.specs.Laws.{ActsAreCalls, AllCalled, IsCalled}
use Rattle.vt_world.specs.Events.{row}
use Rattle.vt_world.specs.State.{WorldState}
use Rattle.vt_world.specs.Step.{Outcome}
use Rattle.vt_world.specs.Wanted.{wanted_in}

-- a deed that is no release and no set mode
abbrev is_other : Deed → Bool
is_other (By (Release c p arg)) = false
is_other (By (SetMode c p m)) = false
is_other deed = true

typed_other : (deed : Deed) → is_typed deed ≡ true → is_other deed ≡ true
typed_other (By (Release c p arg)) typed = absurd (false≢true typed)
typed_other (By (SetMode c p m)) typed = absurd (false≢true typed)
typed_other deed typed = refl

-- such deeds are calls: calls of the event e of p in w; v is the machine before the deeds
act_called : (w : WorldState) (p : ℕ) (e : Event) (act : SwitchAct) → is_other (By act) ≡ true → IsCalled w p e act
act_called w p e (Release c q arg) other = absurd (false≢true other)
act_called w p e (SetMode c q m) other = absurd (false≢true other)
act_called w p e act other = tt

requests_called : (w : WorldState) (p : ℕ) (e : Event) (wanted : Option ℕ)
    (acts : List SwitchAct) → AllCalled w p e acts → AllCalled w p e (request_of wanted ++ acts)
requests_called w p e None acts called = called
requests_called w p e (Some n) acts called = (tt, called)

all_called : (w : WorldState) (p : ℕ) (e : Event) (v : WorldState) (deeds : List Deed)
    → list_all is_other deeds ≡ true → AllCalled w p e (all_acts v deeds)
all_called w p e v [] other = tt
all_called w p e v (By act ∷ deeds) other =
    let parts = and_parts (is_other (By act)) (list_all is_other deeds) other in
    (act_called w p e act parts.0, all_called w p e (apply_deed v (By act)) deeds parts.1)
all_called w p e v (Asks wanted ∷ deeds) other =
    let next : WorldState = apply_deed v (Asks wanted) in
    requests_called w p e (wanted_in v.display wanted) (all_acts next deeds) (all_called w p e next deeds other)
all_called w p e v (Own deed ∷ deeds) other = all_called w p e (apply_deed v (Own deed)) deeds other

row_called : (w : WorldState) (p : ℕ) (e : Event)
    → AllCalled w p e (all_acts (without_marks w) (row (without_marks w) p e).deeds)
row_called w p (event.SetMode fd m wait r a f) =
    ((refl, record { fd = fd; call = refl; console = refl }), tt)
row_called w p (event.RelDisp fd arg) =
    ((refl, record { fd = fd; call = refl; console = refl }), tt)
row_called w p e =
    let v : WorldState = without_marks w in
    all_called w p e v (row v p e).deeds (row_passes is_other typed_other v p e (λ n scanner. refl))

pub acts_are_calls : ActsAreCalls
acts_are_calls w p e =
    by_step
    (λ (deeds : List Deed) (after : Outcome). AllCalled w p e (all_acts (without_marks w) deeds))
    w p e (λ errno. tt) (λ accepted. row_called w p e)
