-- The rows of a screen that an entry may change. No public clause names this.
use Rattle.std.specs.Prelude.{◌≡◌, ◌⊎◌, ⊤, ℕ, ◌<◌, ◌≤◌, true, List, [], ◌∷◌, map, Option, Some, None, slice_get, if◌then◌else◌}
use Rattle.vt_dump.specs.Rows.{row_text}
use Rattle.vt_events.specs.declared.event.Event.{Event}
use Rattle.vt_events.specs.declared.event.Event.TheVariants as event
use Rattle.vt_grid.specs.Grid.{GridView, row_at}
use Rattle.vt_review.specs.Announcements.{is_text, row_told}
use Rattle.vt_review.specs.Lines.{Told}
use Rattle.vt_canvas.specs.Screen.{Screen}
use Rattle.vt_screen.specs.ChangedRows.{ChangesAtMost}
use Rattle.vt_units.specs.Run.{Reached}

-- the texts of a screen's rows, if there is one
abbrev pub texts_of : Option GridView → List (List ℕ)
texts_of None = []
texts_of (Some grid) = map row_text grid.cells

-- the notice of row y of console n, if its text is new
abbrev pub row_notice : ℕ → List (List ℕ) → ℕ → List ℕ → List Told
row_notice n before y text = if is_text (slice_get before y) text then [] else row_told n y text ∷ []

-- the rows above first, and those below last, have the texts that were there before
abbrev pub OthersAreOld : ℕ → ℕ → List (List ℕ) → GridView → Type 0
OthersAreOld first last before grid =
    (y : ℕ) → y < grid.rows → (y < first) ⊎ (last < y)
    → is_text (slice_get before y) (row_text (row_at grid y)) ≡ true

-- these are all rows of a screen
abbrev pub AreAllRows : ℕ → ℕ → Type 0
AreAllRows first last = (first ≡ 0) × (255 ≤ last)

-- the event changes at most the rows first to last of screen m, which has so many rows after it. Opening and
-- activating change no screen that is there
abbrev pub EventChanges : ℕ → ℕ → Reached Screen → ℕ → Event → Type 0
EventChanges first last m rows (event.Write fd b) =
    AreAllRows first last ⊎ ((m.state.grid.rows ≡ rows) × ChangesAtMost first last m b.bytes)
EventChanges first last m rows (event.OpenCon n) = ⊤
EventChanges first last m rows (event.Activate fd n) = ⊤
EventChanges first last m rows e = AreAllRows first last
