-- The tape of a console: the bytes of the accepted writes since it was allocated, and between them
-- the changes that accepted calls made to its screen.
use Rattle.std.specs.Prelude.{ℕ, ◌==◌, ◌++◌, Bool, List, [], ◌∷◌, map, Option, Some, None, unwrap_or, if◌then◌else◌}
use Rattle.call_bytes.specs.Colours.{colours_in}
use Rattle.call_bytes.specs.Words.{words_in}
use Rattle.vt_events.specs.declared.entry.Entry.{Entry}
use Rattle.vt_events.specs.declared.event.Event.{Event}
use Rattle.vt_events.specs.declared.event.Event.TheVariants as event
use Rattle.vt_events.specs.declared.reply.Reply.{Reply}
use Rattle.vt_events.specs.declared.reply.Reply.TheVariants as reply
use Rattle.vt_screen.specs.Run.{ScreenAndOuts, with_outs, start}
use Rattle.vt_canvas.specs.Screen.{Screen}
use Rattle.vt_screen.specs.Tape.{Taped, byte, change, run_tape}
use Rattle.vt_canvas.specs.Change.{palette, resize, user_map}
use Rattle.vt_switch.specs.Display.{is_allocated}
use Rattle.vt_units.specs.Run.{Reached, make_reached}
use Rattle.vt_world.specs.State.{WorldState}
use Rattle.vt_world.specs.Step.{step}
use Rattle.vt_world.specs.Refusals.{target}

-- these items, if console n is console c
abbrev pub if_same : ℕ → ℕ → List Taped → List Taped
if_same n c items = if n == c then items else []

-- the items that an accepted event of p adds to the tape of console c: the bytes that it writes
-- there, or the change that it makes there
abbrev pub items_of : WorldState → ℕ → ℕ → Event → List Taped
items_of w p c (event.Write fd b) = if_same (target w p fd) c (map byte b.bytes)
items_of w p c (event.Resize fd rows cols) =
    if_same (target w p fd) c (change (resize rows cols) ∷ [])
items_of w p c (event.SetMap fd b) =
    if_same (target w p fd) c (change (user_map (unwrap_or (words_in b.bytes) [])) ∷ [])
items_of w p c (event.SetPal fd b) =
    if_same (target w p fd) c (change (palette (unwrap_or (colours_in b.bytes) [])) ∷ [])
items_of w p c e = []

-- an event that is answered by an error isn't accepted, and adds nothing
abbrev pub unless_refused : Reply → List Taped → List Taped
unless_refused (reply.Err errno) items = []
unless_refused answer items = items

abbrev pub accepted_items : WorldState → ℕ → ℕ → Event → List Taped
accepted_items w p c e = unless_refused (step w p e).reply (items_of w p c e)

-- a tape after an event: a console that isn't allocated has none, and a newly allocated one begins
-- with an empty one
abbrev pub tape_after : Bool → List Taped → Option (List Taped) → Option (List Taped)
tape_after allocated items tape = if allocated then Some (unwrap_or tape [] ++ items) else None

-- the tape of console c after these entries, if it was this one before them
abbrev pub tape_from : ℕ → Option (List Taped) → WorldState → List Entry → Option (List Taped)
tape_from c tape w [] = tape
tape_from c tape w (entry ∷ entries) =
    let after : WorldState = (step w entry.caller entry.event).world in
    tape_from c
    (tape_after (is_allocated after.display c) (accepted_items w entry.caller c entry.event) tape)
    after entries

-- the tape of console c after a history from a start, where every allocated console has an empty one
abbrev pub tape_of : ℕ → WorldState → List Entry → Option (List Taped)
tape_of c w entries = tape_from c (tape_after (is_allocated w.display c) [] None) w entries

-- the screen, with the rest of the text, that a tape gives from the start screen
abbrev pub screen_of : ℕ → ℕ → List Taped → Reached Screen
screen_of rows cols tape =
    let end : Reached ScreenAndOuts = run_tape tape (with_outs [] (start rows cols)) in
    make_reached end.state.screen end.rest
