-- Histories as the lock carries them: each entry with the display after it. This project's own.
use Rattle.std.specs.Prelude.{◌≡◌, ℕ, min, max, List, [], ◌∷◌, map}
use Rattle.turn_lock.specs.declared.entry.Entry as logged
use Rattle.vt_events.specs.declared.entry.Entry.{Entry}
use Rattle.vt_world.specs.History.{IsLegal}
use Rattle.vt_world.specs.State.{WorldState}
use Rattle.vt_world.specs.Step.{step}

-- the display before the first entry, as a number from 1 to 63
abbrev pub display_of : WorldState → ℕ
display_of w = max 1 (min 63 w.display.front)

-- an entry with the display after it
abbrev pub Carried : Type 0
Carried = logged.Entry Entry

abbrev pub carried_entry : ℕ → Entry → Carried
carried_entry display e = record { by = e.caller; seq = e.seq; display = display; what = e }

-- the entries, from this world on, each with the display after it
abbrev pub carried_entries : WorldState → List Entry → List Carried
carried_entries w [] = []
carried_entries w (e ∷ es) =
    let after : WorldState = (step w e.caller e.event).world in
    carried_entry after.display.front e ∷ carried_entries after es

-- the entries without their displays
abbrev pub plain : List Carried → List Entry
plain es = map (λ (e : Carried). e.what) es

-- these are the entries of a legal history from this world, each with the display after it
pub record IsCarried (start : WorldState) (log : List Carried) : Type 0 where
  pub is : log ≡ carried_entries start (plain log)
  pub legal : IsLegal start (plain log)
  pub first : display_of start ≡ start.display.front
