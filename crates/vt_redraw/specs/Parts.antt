-- The parts of a redraw's text: characters of the screen, and rows of the effect table with numbers for which they
-- have an effect.
use Rattle.std.specs.Prelude.{◌≡◌, ◌<◌, ℕ, Bool, true, false, IsTrue, not, ◌==◌, ◌&&◌, ◌||◌, nat_le, nat_lt, decimal, encode_utf8, List, [], ◌∷◌, ◌++◌, if◌then◌else◌}
use Rattle.std.specs.List.{list_all, list_any}
use Rattle.vt_cells.specs.Colours.{Rgb}
use Rattle.vt_cells.specs.declared.cell.Cell.{Cell}
use Rattle.vt_grid.specs.Grid.{GridView}
use Rattle.vt_redraw.specs.Drawable.{is_glyph, is_redrawable}
use Rattle.vt_redraw.specs.Redraw.{IsStored, changes_of, redraw_of}
use Rattle.vt_redraw.specs.Sequences.{colour_text, sequence}
use Rattle.vt_canvas.specs.Effect.{EffectRow, controls, escapes, private_sequences, sequences}
use Rattle.vt_canvas.specs.Screen.{Screen}
use Rattle.vt_sgr.specs.Sgr.{is_of}

-- the table has a row with this last byte
abbrev pub has_row : List EffectRow → ℕ → Bool
has_row table last = list_any (λ (r : EffectRow). last == r.last) table

abbrev pub is_among : List ℕ → ℕ → Bool
is_among numbers n = list_any (λ k. n == k) numbers

-- the numbers of SGR that are neither a colour's nor followed by one
abbrev pub sgr_numbers : List ℕ
sgr_numbers = 0 ∷ 1 ∷ 2 ∷ 3 ∷ 4 ∷ 5 ∷ 7 ∷ 10 ∷ 11 ∷ 12 ∷ 21 ∷ 22 ∷ 23 ∷ 24 ∷ 25 ∷ 27 ∷ 39 ∷ 49 ∷ []

abbrev pub is_sgr_number : ℕ → Bool
is_sgr_number n =
    is_among sgr_numbers n
    || (is_of 30 n || (is_of 40 n || (is_of 90 n || is_of 100 n)))

-- CSI ] without a side effect: the colour for underline or half-bright, or the pen's colours as the default pair
abbrev pub is_setting : ℕ → List ℕ → Bool
is_setting n [] = n == 8
is_setting n (value ∷ []) = is_among (1 ∷ 2 ∷ []) n && nat_lt value 16
is_setting n (value ∷ other ∷ more) = false

-- DECSTBM: the region has two rows or more
abbrev pub is_region : ℕ → List ℕ → Bool
is_region n [] = false
is_region n (last ∷ more) = nat_le 1 n && nat_lt n last

-- the control sequence with this last byte has an effect for these numbers, and it isn't a report or the lights (DA,
-- DSR and DECLL). SGR, SM, RM, CSI ], ED, EL, TBC and DECSTBM have an effect for some numbers, and the others for all
abbrev pub has_numbers : ℕ → ℕ → List ℕ → Bool
has_numbers last n ns =
    if last == 0x6D then list_all is_sgr_number (n ∷ ns)
    else if last == 0x68 || last == 0x6C then list_all (is_among (3 ∷ 4 ∷ 20 ∷ [])) (n ∷ ns)
    else if last == 0x5D then is_setting n ns
    else if last == 0x4A then nat_le n 3
    else if last == 0x4B then nat_le n 2
    else if last == 0x67 then is_among (0 ∷ 3 ∷ []) n
    else if last == 0x72 then is_region n ns
    else not (is_among (0x63 ∷ 0x6E ∷ 0x71 ∷ []) last)

-- a cell of the row has this code
abbrev pub has_code : List Cell → ℕ → Bool
has_code row code = list_any (λ (c : Cell). code == c.code) row

-- a cell of the rows has this code
abbrev pub have_code : List (List Cell) → ℕ → Bool
have_code rows code = list_any (λ (row : List Cell). has_code row code) rows

-- a part of the text of these rows: a character of theirs that prints itself; a control character, an escape
-- sequence or a control sequence of the effect table; ESC % with a coding; ESC ( or ESC ) with a table; a
-- private mode; a colour of the palette; the palette of the start
pub data IsPart (rows : List (List Cell)) : List ℕ → Type 0 where
  character : (code : ℕ) → have_code rows code ≡ true → is_glyph code ≡ true → IsPart rows (encode_utf8 code)
  control : (c : ℕ) → has_row controls c ≡ true → IsPart rows (c ∷ [])
  escape : (last : ℕ) → has_row escapes last ≡ true → IsPart rows (0x1B ∷ last ∷ [])
  coding : (last : ℕ) → is_among (0x40 ∷ 0x47 ∷ []) last ≡ true → IsPart rows (0x1B ∷ 0x25 ∷ last ∷ [])
  table : (mid last : ℕ) → is_among (0x28 ∷ 0x29 ∷ []) mid ≡ true
      → is_among (0x42 ∷ 0x30 ∷ 0x55 ∷ 0x4B ∷ []) last ≡ true → IsPart rows (0x1B ∷ mid ∷ last ∷ [])
  control_sequence : (n : ℕ) (ns : List ℕ) (last : ℕ) → has_row sequences last ≡ true → has_numbers last n ns ≡ true
      → IsPart rows (sequence n ns last)
  private_mode : (n last : ℕ) → has_row private_sequences last ≡ true
      → is_among (1 ∷ 5 ∷ 6 ∷ 7 ∷ 8 ∷ 25 ∷ []) n ≡ true → IsPart rows (0x1B ∷ 0x5B ∷ 0x3F ∷ decimal n ++ last ∷ [])
  colour : (n : ℕ) (rgb : Rgb) → n < 16 → IsPart rows (colour_text n rgb)
  palette : IsPart rows (0x1B ∷ 0x5D ∷ 0x52 ∷ [])

-- a text of such parts, one after another
pub data AreParts (rows : List (List Cell)) : List ℕ → Type 0 where
  done : AreParts rows []
  more : {part text : List ℕ} → IsPart rows part → AreParts rows text → AreParts rows (part ++ text)

-- the texts that draw a screen, and its differences from other cells, consist of such parts
abbrev pub RedrawsUseRows : Type 0
RedrawsUseRows =
    (s : Screen) → IsStored s → IsTrue (is_redrawable s)
    → AreParts s.grid.cells (redraw_of s) × ((old : GridView) → AreParts s.grid.cells (changes_of old s))
