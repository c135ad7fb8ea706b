-- What deeds keep of a machine, if each mark, each change of the display and each other deed keeps it.
use Rattle.std.proofs.Common.{◌≡◌, ℕ, Bool, true, List, [], ◌∷◌, Option, Some, None}
use Rattle.std.proofs.lemmas.Bool.{and_parts}
use Rattle.std.specs.List.{list_all}
use Rattle.vt_switch.specs.Acts.{SwitchAct, Request}
use Rattle.vt_switch.specs.Display.{Display}
use Rattle.vt_switch.specs.Moments.{core_after, marks, raise}
use Rattle.vt_switch.specs.declared.mark.Mark.{Mark}
use Rattle.vt_world.specs.Deeds.{Deed, Asks, By, Own, OwnDeed, Raises, after_request, after_switch_act, apply_deed, apply_deeds, apply_own_deed}
use Rattle.vt_world.specs.Heard.{apply_mark, apply_marks}
use Rattle.vt_world.specs.State.{WorldState, core}
use Rattle.vt_world.specs.Wanted.{wanted_in}

-- a deed without the marks of a signal that it raises
abbrev pub unmarked : WorldState → OwnDeed → WorldState
unmarked w (Raises p signal) = w
unmarked w deed = apply_own_deed w deed

-- a machine is related to itself, to those of later machines, and to one after a mark, with another display,
-- or after a deed that passes the test
pub record Keeps (test : Deed → Bool) (R : WorldState → WorldState → Type 0) : Type 0 where
  pub itself : (w : WorldState) → R w w
  pub then : (u v w : WorldState) → R u v → R v w → R u w
  pub marked : (w : WorldState) (m : Mark) → R w (apply_mark w m)
  pub shown : (w : WorldState) (display : Display) → R w (record w { display = display })
  pub own : (w : WorldState) (deed : OwnDeed) → test (Own deed) ≡ true → R w (unmarked w deed)

module _ (test : Deed → Bool) (R : WorldState → WorldState → Type 0) (keeps : Keeps test R) where
  pub marks_keep : (told : List Mark) (w : WorldState) → R w (apply_marks w told)
  marks_keep [] w = keeps.itself w
  marks_keep (m ∷ told) w =
      keeps.then w (apply_mark w m) (apply_marks (apply_mark w m) told) (keeps.marked w m)
      (marks_keep told (apply_mark w m))

  act_keeps : (w : WorldState) (act : SwitchAct) → R w (after_switch_act w act)
  act_keeps w act =
      let display : Display = (core_after (core w) act).display in
      keeps.then w (record w { display = display }) (after_switch_act w act) (keeps.shown w display)
      (marks_keep (marks (core w) act) (record w { display = display }))

  request_keeps : (w : WorldState) (n : Option ℕ) → R w (after_request w n)
  request_keeps w None = keeps.itself w
  request_keeps w (Some n) = act_keeps w (Request n)

  own_keeps : (w : WorldState) (deed : OwnDeed) → test (Own deed) ≡ true → R w (apply_own_deed w deed)
  own_keeps w (Raises p signal) passes = marks_keep (raise (core w) p signal) w
  own_keeps w deed passes = keeps.own w deed passes

  deed_keeps : (w : WorldState) (deed : Deed) → test deed ≡ true → R w (apply_deed w deed)
  deed_keeps w (By act) passes = act_keeps w act
  deed_keeps w (Asks wanted) passes = request_keeps w (wanted_in w.display wanted)
  deed_keeps w (Own deed) passes = own_keeps w deed passes

  pub deeds_keep : (w : WorldState) (deeds : List Deed) → list_all test deeds ≡ true → R w (apply_deeds w deeds)
  deeds_keep w [] passes = keeps.itself w
  deeds_keep w (deed ∷ deeds) passes =
      let parts = and_parts (test deed) (list_all test deeds) passes in
      keeps.then w (apply_deed w deed) (apply_deeds (apply_deed w deed) deeds)
      (deed_keeps w deed parts.0) (deeds_keep (apply_deed w deed) deeds parts.1)
