-- The rows that a text may change. This project's own.
use Rattle.std.specs.Prelude.{◌≡◌, ◌⊎◌, ◌+◌, ◌<◌, ◌≤◌, ◌==◌, ◌&&◌, ◌||◌, Bool, nat_lt, not, ℕ, true, false, List, [], ◌∷◌, All, length, slice_index, take, if◌then◌else◌}
use Rattle.std.specs.List.{list_any}
use Rattle.vt_grid.specs.Grid.{row_at}
use Rattle.vt_screen.specs.Run.{ScreenAndOuts, after, screen_effects}
use Rattle.vt_canvas.specs.Screen.{Screen, mode_of}
use Rattle.vt_screen.specs.declared.cursor_step.CursorState.{CursorState}
use Rattle.vt_units.specs.Bytes.{decodes, is_printable}
use Rattle.vt_units.specs.Run.{Reached, step}

-- the rows above first, and those below last, are the same in both screens
abbrev pub AreSameOutside : ℕ → ℕ → Screen → Screen → Type 0
AreSameOutside first last s t = (y : ℕ) → (y < first) ⊎ (last < y) → row_at t.grid y ≡ row_at s.grid y

-- the bytes change at most the rows first to last, both included
abbrev pub ChangesAtMost : ℕ → ℕ → Reached Screen → List ℕ → Type 0
ChangesAtMost first last m bytes = AreSameOutside first last m.state (after m bytes).state

-- the row of the cursor before the bytes, and after them
abbrev pub AreCursorRows : ℕ → ℕ → Reached Screen → List ℕ → Type 0
AreCursorRows first last m bytes = (first ≡ m.state.state.y) × (last ≡ (after m bytes).state.state.y)

-- no text is pending, text is UTF-8, characters wrap, and a line feed stays in its column
pub record ReadsPlainly (m : Reached Screen) : Type 0 where
  pub text : m.rest.text ≡ []
  pub decoding : decodes (mode_of m.state) ≡ true
  pub wraps : m.state.state.autowrap ≡ true
  pub straight : m.state.state.newline ≡ false

-- a printable character of ASCII, BEL, BS, LF or CR
abbrev pub is_plain_byte : ℕ → Bool
is_plain_byte b = is_printable b || list_any (λ c. b == c) (0x07 ∷ 0x08 ∷ 0x0A ∷ 0x0D ∷ [])

-- the byte takes the cursor to the next row: LF does, and a character while a wrap is pending
abbrev pub goes_down : Bool → ℕ → Bool
goes_down wrap b = b == 0x0A || (wrap && is_printable b)

-- all of the bytes are such bytes, and each one that takes the cursor to the next row is read above the region's
-- last row
pub record StaysAbove (m : Reached Screen) (bytes : List ℕ) : Type 0 where
  pub plainly : ReadsPlainly m
  pub plain : All (λ b. is_plain_byte b ≡ true) bytes
  pub above : (k : ℕ) → k < length bytes
      → goes_down (after m (take k bytes)).state.state.wrap (slice_index bytes k) ≡ true
      → (after m (take k bytes)).state.state.y < m.state.state.bottom

-- the cursor is here, on a screen of so many columns whose region ends in this row. Text is UTF-8, characters
-- wrap, and a line feed stays in its column. No public clause names this, nor the three definitions below
pub record IsAt (cols bottom : ℕ) (at : CursorState) (s : Screen) : Type 0 where
  pub decoding : decodes (mode_of s) ≡ true
  pub wraps : s.state.autowrap ≡ true
  pub straight : s.state.newline ≡ false
  pub width : s.grid.cols ≡ cols
  pub last : s.state.bottom ≡ bottom
  pub region : bottom < s.grid.rows
  pub within : at.x < cols
  pub column : s.state.x ≡ at.x
  pub row : s.state.y ≡ at.y
  pub pending : s.state.wrap ≡ at.wrap

-- the place after the byte is known: it is such a byte, and if it takes the cursor to the next row, it is read above
-- the region's last row
abbrev pub has_next_cursor : ℕ → CursorState → ℕ → Bool
has_next_cursor bottom at b = is_plain_byte b && (not (goes_down at.wrap b) || nat_lt at.y bottom)

-- the place after a cell in the cursor's row
abbrev pub after_cell : ℕ → CursorState → CursorState
after_cell cols at =
    let has_next = nat_lt (at.x + 1) cols in
    record { x = if has_next then at.x + 1 else at.x; y = at.y; wrap = not has_next }

-- if no text is pending, the byte takes the cursor from one place to another one, leaves no text, and changes at
-- most the rows between them
abbrev pub Moves : ℕ → ℕ → ℕ → CursorState → CursorState → Type 0
Moves cols bottom b at next =
    (at.y ≤ next.y)
    × ((m : Reached ScreenAndOuts) → m.rest.text ≡ [] → IsAt cols bottom at m.state.screen
    → let new = step screen_effects b m in
    (new.rest.text ≡ []) × IsAt cols bottom next new.state.screen
    × AreSameOutside at.y next.y m.state.screen new.state.screen)
