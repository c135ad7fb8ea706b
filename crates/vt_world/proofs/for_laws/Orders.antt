-- In no event a request comes before a release, an end or a signal that is raised without an act.
use Rattle.std.proofs.Common.{◌≡◌, ℕ, Bool, true, false, List, [], ◌∷◌, ◌++◌, flat_map, Option, Some, None, refl, subst, sym}
use Rattle.std.specs.List.{list_all}
use Rattle.std.specs.Prelude.{◌&&◌, ◌||◌, not}
use Rattle.std.proofs.lemmas.Bool.{and_from, and_parts, not-true}
use Rattle.vt_events.specs.declared.event.Event.{Event}
use Rattle.vt_events.specs.declared.event.Event.TheVariants as event
use Rattle.vt_canvas.specs.declared.out.Out.{Out}
use Rattle.vt_canvas.specs.declared.out.Out.TheVariants as outs
use Rattle.vt_switch.specs.Acts.{SwitchAct}
use Rattle.vt_switch.specs.Moments.{is_ordered, is_request, settles}
use Rattle.vt_world.proofs.for_laws.RowDeeds.{Composes, asks, row_is}
use Rattle.vt_world.specs.Acts.{all_acts, request_of}
use Rattle.vt_world.specs.Deeds.{Deed, Asks, By, Own, Raises, apply_deed}
use Rattle.vt_world.specs.Events.{row}
use Rattle.vt_world.specs.Rows.{out_deeds}
use Rattle.vt_world.specs.State.{WorldState}
use Rattle.vt_world.specs.Wanted.{wanted_in}

-- what comes after no request
abbrev pub ends : Deed → Bool
ends (By act) = settles act
ends (Asks wanted) = false
ends (Own (Raises p signal)) = true
ends (Own deed) = false

abbrev pub in_order : Bool → List Deed → Bool
in_order asked [] = true
in_order asked (deed ∷ deeds) = not (asked && ends deed) && in_order (asked || asks deed) deeds

-- acts that are in order after a request are so without it
at_either : (request : Bool) (acts : List SwitchAct) → is_ordered true acts ≡ true
    → is_ordered false acts ≡ true → is_ordered request acts ≡ true
at_either true acts ordered less = ordered
at_either false acts ordered less = less

less_asked : (acts : List SwitchAct) → is_ordered true acts ≡ true → is_ordered false acts ≡ true
less_asked [] ordered = refl
less_asked (act ∷ acts) ordered =
    let more : is_ordered true acts ≡ true =
    (and_parts (not (settles act)) (is_ordered true acts) ordered).1 in
    at_either (is_request act) acts more (less_asked acts more)

after_wanted : (asked : Bool) (w : WorldState) (wanted : Option ℕ) (acts : List SwitchAct)
    → is_ordered (asked || true) acts ≡ true → is_ordered asked (request_of wanted ++ acts) ≡ true
after_wanted true w None acts ordered = ordered
after_wanted true w (Some n) acts ordered = ordered
after_wanted false w None acts ordered = less_asked acts ordered
after_wanted false w (Some n) acts ordered = ordered

or_not : (asked : Bool) (acts : List SwitchAct) → is_ordered (asked || false) acts ≡ true
    → is_ordered asked acts ≡ true
or_not true acts ordered = ordered
or_not false acts ordered = ordered

-- the acts of deeds in order are in order
pub acts_ordered : (asked : Bool) (w : WorldState) (deeds : List Deed)
    → in_order asked deeds ≡ true → is_ordered asked (all_acts w deeds) ≡ true
acts_ordered asked w [] ordered = refl
acts_ordered asked w (By act ∷ deeds) ordered =
    let here : Bool = not (asked && settles act) in
    let rest : Bool = in_order (asked || is_request act) deeds in
    and_from here (is_ordered (asked || is_request act) (all_acts (apply_deed w (By act)) deeds)) ((and_parts here rest ordered).0) (acts_ordered (asked || is_request act) (apply_deed w (By act)) deeds ((and_parts here rest ordered).1))
acts_ordered asked w (Asks wanted ∷ deeds) ordered =
    let rest : Bool = in_order (asked || true) deeds in
    after_wanted asked w (wanted_in w.display wanted) (all_acts (apply_deed w (Asks wanted)) deeds)
    (acts_ordered (asked || true) (apply_deed w (Asks wanted)) deeds
    ((and_parts (not (asked && false)) rest ordered).1))
acts_ordered asked w (Own deed ∷ deeds) ordered =
    let rest : Bool = in_order (asked || false) deeds in
    or_not asked (all_acts (apply_deed w (Own deed)) deeds)
    (acts_ordered (asked || false) (apply_deed w (Own deed)) deeds
    ((and_parts (not (asked && ends (Own deed))) rest ordered).1))

-- what a text says asks, and ends nothing
outs_ordered : (asked : Bool) (c : ℕ) (said : List Out)
    → in_order asked (flat_map (out_deeds c) said) ≡ true
outs_ordered asked c [] = refl
outs_ordered true c (outs.Report text ∷ said) = outs_ordered true c said
outs_ordered false c (outs.Report text ∷ said) = outs_ordered false c said
outs_ordered true c (outs.SwitchTo n ∷ said) = outs_ordered true c said
outs_ordered false c (outs.SwitchTo n ∷ said) = outs_ordered true c said
outs_ordered true c (outs.SwitchLast ∷ said) = outs_ordered true c said
outs_ordered false c (outs.SwitchLast ∷ said) = outs_ordered true c said
outs_ordered true c (outs.Lights lights ∷ said) = outs_ordered true c said
outs_ordered false c (outs.Lights lights ∷ said) = outs_ordered false c said
outs_ordered asked c (outs.Bell ∷ said) = outs_ordered asked c said

append_ordered : (a b : List Deed) → list_all (λ deed. not (asks deed)) a ≡ true → in_order false b ≡ true
    → in_order false (a ++ b) ≡ true
append_ordered [] b free ordered = ordered
append_ordered (deed ∷ a) b free ordered =
    let parts = and_parts (not (asks deed)) (list_all (λ deed. not (asks deed)) a) free in
    subst (λ asked. in_order asked (a ++ b) ≡ true) (sym (not-true (asks deed) parts.0))
    (append_ordered a b parts.1 ordered)

composes : Composes (λ deeds. in_order false deeds ≡ true)
composes = record {
  nothing = refl;
  typed = λ deed typed. refl;
  joined = λ a b free first. append_ordered a b free;
  said = outs_ordered false;
}

-- no row has a request before any of these
pub row_ordered : (w : WorldState) (p : ℕ) (e : Event) → in_order false (row w p e).deeds ≡ true
row_ordered w p event.Exit = refl
row_ordered w p e = row_is (λ deeds. in_order false deeds ≡ true) composes w p e (λ n scanner. refl)
