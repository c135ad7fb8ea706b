-- The state after an entry: words for a person, or members of an object of JSON. This project's own.
use Rattle.std.specs.Prelude.{ℕ, List, [], ◌∷◌, Option, Some, None, codes, decimal}
use Rattle.std.specs.List.{flat_map, range_with_len}
use Rattle.watch.specs.Facts.{wait_of}
use Rattle.watch.specs.Words.{by_form, caller_text, joined, list_text}
use Rattle.watch.specs.declared.form.Form.{Form}
use Rattle.vt_base.specs.Limits.{callers, consoles}
use Rattle.vt_procs.specs.declared.ticket.Ticket.TheVariants as ticket
use Rattle.vt_procs.specs.declared.waiting.Waiting.{Waiting}
use Rattle.vt_procs.specs.declared.waiting.Waiting.TheVariants as waiting
use Rattle.vt_switch.specs.Display.{console, owner_of}
use Rattle.vt_world.specs.State.{WorldState}

-- a console with its owner, if it has one
abbrev pub owner_text : Form → ℕ → Option ℕ → List ℕ
owner_text f n None = []
owner_text f n (Some p) =
    joined (by_form f (codes ", ") (codes ",{\"console\":")
    ∷ decimal n
    ∷ by_form f (codes " ") (codes ",\"owner\":\"")
    ∷ caller_text p
    ∷ by_form f [] (codes "\"}")
    ∷ [])

abbrev pub owner_text_at : Form → WorldState → ℕ → List ℕ
owner_text_at f w n = owner_text f n (owner_of (console w.display n).handling)

-- each console that has an owner, rising
unfoldable pub owners_text : Form → WorldState → List ℕ
owners_text f w = flat_map (owner_text_at f w) (range_with_len 1 consoles)

unfoldable pub place_text : Form → ℕ → List ℕ → ℕ → List ℕ
place_text f p what n =
    joined (by_form f (codes ", ") (codes ",{\"caller\":\"")
    ∷ caller_text p
    ∷ by_form f (codes " ") (codes "\",\"for\":\"")
    ∷ what
    ∷ by_form f (codes " ") (codes "\",\"console\":")
    ∷ decimal n
    ∷ by_form f [] (codes "}")
    ∷ [])

-- a caller with the event that it waits for, if its wait is open
abbrev pub waiter_text : Form → ℕ → Waiting → List ℕ
waiter_text f p (waiting.Open (ticket.Active n)) = place_text f p (codes "display") n
waiter_text f p (waiting.Open (ticket.Input n)) = place_text f p (codes "input") n
waiter_text f p (waiting.Open ticket.AnySignal) =
    joined (by_form f (codes ", ") (codes ",{\"caller\":\"")
    ∷ caller_text p
    ∷ by_form f (codes " signal") (codes "\",\"for\":\"signal\"}")
    ∷ [])
waiter_text f p other = []

abbrev pub waiter_text_at : Form → WorldState → ℕ → List ℕ
waiter_text_at f w p = waiter_text f p (wait_of w p)

-- each caller that has an open wait, rising
unfoldable pub waiters_text : Form → WorldState → List ℕ
waiters_text f w = flat_map (waiter_text_at f w) (range_with_len 0 callers)

-- the pending console, and the entry since which it is pending
abbrev pub pending_text : Form → Option ℕ → ℕ → List ℕ
pending_text f None since = joined (by_form f (codes "none") (codes "null") ∷ [])
pending_text f (Some n) since =
    joined (by_form f [] (codes "{\"console\":")
    ∷ decimal n
    ∷ by_form f (codes " since ") (codes ",\"since\":")
    ∷ decimal since
    ∷ by_form f [] (codes "}")
    ∷ [])

-- the console in front, and the texts of the owners, of the pending console and of the waits
unfoldable pub state_row : Form → ℕ → List ℕ → List ℕ → List ℕ → List ℕ
state_row f front owners pending waiters =
    joined (by_form f (codes "now: front ") (codes ",\"front\":")
    ∷ decimal front
    ∷ by_form f (codes "; owners") (codes ",\"owners\":[")
    ∷ list_text f owners
    ∷ by_form f (codes "; pending ") (codes "],\"pending\":")
    ∷ pending
    ∷ by_form f (codes "; waits") (codes ",\"waits\":[")
    ∷ list_text f waiters
    ∷ by_form f [] (codes "]")
    ∷ [])

-- the console in front, the owner of each console, the pending console, and each wait
unfoldable pub state_text : Form → WorldState → ℕ → List ℕ
state_text f w since =
    state_row f w.display.front (owners_text f w) (pending_text f w.display.pending since) (waiters_text f w)
