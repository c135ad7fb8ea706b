-- The final text: the display, and each console with its screen. This project's own.
use Rattle.std.specs.Prelude.{ℕ, List, [], ◌∷◌, ◌++◌, codes, decimal, map, Option, Some, None}
use Rattle.std.specs.List.{flat_map, range_with_len}
use Rattle.in_queue.specs.Queue.{Queue}
use Rattle.vt_journal.specs.Hex.{hex_text}
use Rattle.vt_journal.specs.Journal.{line_text}
use Rattle.vt_canvas.specs.Screen.{Screen}
use Rattle.vt_dump.specs.Rows.{rows_text}
use Rattle.vt_world.specs.Inputs.{input_at}
use Rattle.vt_world.specs.State.{WorldState}
use Rattle.vt_world.specs.Terminals.{TerminalState, terminal_at}

-- a console's screen: its number, rows, columns, the cursor's column and row, and how often its bell
-- rang
abbrev pub screen_words : ℕ → Screen → ℕ → List (List ℕ)
screen_words n s bells =
    codes "%screen" ∷ map decimal (n ∷ s.grid.rows ∷ s.grid.cols ∷ s.state.x ∷ s.state.y ∷ bells ∷ [])

-- its queue: the number of the console, how many pieces were dropped, and the bytes that it has
abbrev pub queue_words : ℕ → Queue → List (List ℕ)
queue_words n queue =
    codes "%queue" ∷ decimal n ∷ decimal queue.dropped ∷ hex_text queue.bytes ∷ []

-- a console: these two lines, and between them the rows of its screen
abbrev pub console_text : ℕ → Screen → ℕ → Queue → List ℕ
console_text n s bells queue =
    line_text (screen_words n s bells)
    ++ (rows_text s.grid.cells ++ line_text (queue_words n queue))

abbrev pub console_part : ℕ → Option TerminalState → Queue → List ℕ
console_part n None queue = []
console_part n (Some t) queue = console_text n t.emu.state t.bells queue

-- console n, if it is allocated
abbrev pub text_at : WorldState → ℕ → List ℕ
text_at w n = console_part n (terminal_at w.terminals n) (input_at w.inputs n).queue

-- the allocated consoles in rising order
abbrev pub consoles_text : WorldState → ℕ → ℕ → List ℕ
consoles_text w from len = flat_map (text_at w) (range_with_len from len)

abbrev pub final_text : WorldState → List ℕ
final_text w =
    line_text (codes "%display" ∷ decimal w.display.front ∷ [])
    ++ (consoles_text w 1 63 ++ line_text (codes "%done" ∷ []))
