-- The notices that ears get of a history: the switches of the display, bells, and new rows of the console that
-- has the display. This project's own: docs/reference/review.md.
use Rattle.std.specs.Prelude.{ℕ, ◌+◌, Bool, false, nat_lt, List, [], ◌∷◌, ◌++◌, Option, Some, None, bytes_eq, decimal, filter, map, slice_get, if◌then◌else◌}
use Rattle.std.specs.List.{flat_map, range_with_len}
use Rattle.vt_dump.specs.Rows.{row_text}
use Rattle.vt_events.specs.declared.entry.Entry.{Entry}
use Rattle.vt_review.specs.Lines.{Told, ear_lines, make_told}
use Rattle.vt_review.specs.declared.ear_table.EarTable.{EarTable}
use Rattle.vt_switch.specs.Moments.{hops}
use Rattle.vt_switch.specs.declared.hop.Hop.{Hop}
use Rattle.vt_world.specs.State.{WorldState}
use Rattle.vt_world.specs.Step.{step}
use Rattle.vt_world.specs.Terminals.{TerminalState, bells_of, terminal_at}

-- the display came to a console, or a console's bell rang: the line ends there
abbrev pub display_told : Hop → Told
display_told hop = make_told 0 hop.to (0x0A ∷ [])

abbrev pub bell_told : ℕ → Told
bell_told n = make_told 1 n (0x0A ∷ [])

-- row y of console n has this text, which ends its line
abbrev pub row_told : ℕ → ℕ → List ℕ → Told
row_told n y text = make_told 2 n (0x20 ∷ decimal y ++ 0x20 ∷ text)

-- all consoles, rising
unfoldable pub consoles : List ℕ
consoles = range_with_len 1 63

-- console n's bell count rose from w to v
abbrev pub has_rung : WorldState → WorldState → ℕ → Bool
has_rung w v n = nat_lt (bells_of (terminal_at w.terminals n)) (bells_of (terminal_at v.terminals n))

-- the texts of a console's rows, from top to bottom; none if it isn't allocated
abbrev pub rows_of : Option TerminalState → List (List ℕ)
rows_of None = []
rows_of (Some t) = map row_text t.emu.state.grid.cells

-- the text is that of a row that was there
abbrev pub is_text : Option (List ℕ) → List ℕ → Bool
is_text None text = false
is_text (Some before) text = bytes_eq before text

-- of console n's rows from y on: those whose text differs from that before, or which weren't there
abbrev pub new_rows : ℕ → List (List ℕ) → ℕ → List (List ℕ) → List Told
new_rows n before y [] = []
new_rows n before y (text ∷ after) =
    (if is_text (slice_get before y) text then [] else row_told n y text ∷ [])
    ++ new_rows n before (y + 1) after

-- the new rows of console n
abbrev pub rows_told : WorldState → WorldState → ℕ → List Told
rows_told w v n =
    new_rows n (rows_of (terminal_at w.terminals n)) 0 (rows_of (terminal_at v.terminals n))

-- the notices of an entry, with the machine w before and v after it: each switch of the display, the bells that
-- rang, and the new rows of the console that has the display now
abbrev pub announcements : WorldState → WorldState → List Told
announcements w v =
    map display_told (hops v.trace.marks)
    ++ (map bell_told (filter (has_rung w v) consoles) ++ rows_told w v v.display.front)

-- the machine after an entry
unfoldable pub left_by : WorldState → Entry → WorldState
left_by w entry = (step w entry.caller entry.event).world

-- the lines of entry e
abbrev pub entry_lines : List EarTable → ℕ → WorldState → WorldState → List ℕ
entry_lines tables e w v = flat_map (ear_lines 0 e tables) (announcements w v)

-- the lines of a history from machine w on, whose entries are counted from e
abbrev pub review_text : List EarTable → ℕ → WorldState → List Entry → List ℕ
review_text tables e w [] = []
review_text tables e w (entry ∷ entries) =
    entry_lines tables e w (left_by w entry) ++ review_text tables (e + 1) (left_by w entry) entries
