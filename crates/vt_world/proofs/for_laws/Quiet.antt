-- Deeds that change no screen, and allocate and free no console: those of most events.
use Rattle.std.proofs.Common.{◌≡◌, ℕ, Bool, true, false, List, flat_map, refl}
use Rattle.std.proofs.lemmas.Bool.{false≢true}
use Rattle.std.specs.List.{list_all}
use Rattle.scan_codes.specs.Scan.{Scan}
use Rattle.vt_events.specs.declared.event.Event.{Event}
use Rattle.vt_canvas.specs.declared.out.Out.{Out}
use Rattle.vt_switch.specs.Acts.{SwitchAct, Allocate, Free}
use Rattle.vt_world.proofs.for_laws.RowDeeds.{is_typed, outs_pass, row_passes, sure}
use Rattle.vt_world.specs.Deeds.{Deed, Alters, Asks, By, Clears, Own, OwnDeed, Starts, Writes}
use Rattle.vt_world.specs.Events.{row}
use Rattle.vt_world.specs.Rows.{out_deeds}
use Rattle.vt_world.specs.State.{WorldState}

abbrev pub is_quiet_act : SwitchAct → Bool
is_quiet_act (Allocate n) = false
is_quiet_act (Free n) = false
is_quiet_act act = true

abbrev pub is_quiet_own : OwnDeed → Bool
is_quiet_own (Starts n) = false
is_quiet_own (Clears n) = false
is_quiet_own (Writes n bytes) = false
is_quiet_own (Alters n m) = false
is_quiet_own deed = true

abbrev pub is_quiet : Deed → Bool
is_quiet (By act) = is_quiet_act act
is_quiet (Asks wanted) = true
is_quiet (Own deed) = is_quiet_own deed

abbrev pub are_quiet : List Deed → Bool
are_quiet deeds = list_all is_quiet deeds

typed_quiet : (deed : Deed) → is_typed deed ≡ true → is_quiet deed ≡ true
typed_quiet (By (Allocate n)) typed = absurd (false≢true typed)
typed_quiet (By (Free n)) typed = absurd (false≢true typed)
typed_quiet (Own (Starts n)) typed = absurd (false≢true typed)
typed_quiet (Own (Clears n)) typed = absurd (false≢true typed)
typed_quiet (Own (Writes n bytes)) typed = absurd (false≢true typed)
typed_quiet (Own (Alters n m)) typed = absurd (false≢true typed)
typed_quiet deed typed = refl

pub outs_quiet : (c : ℕ) (said : List Out) → are_quiet (flat_map (out_deeds c) said) ≡ true
outs_quiet = outs_pass is_quiet typed_quiet

pub row_quiet : (w : WorldState) (p : ℕ) (e : Event)
    → ((n : ℕ) (scanner : Scan) → are_quiet (sure n scanner w p e) ≡ true) → are_quiet (row w p e).deeds ≡ true
row_quiet = row_passes is_quiet typed_quiet
