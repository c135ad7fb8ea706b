-- One character, or an erase, at the cursor.
use Rattle.std.proofs.Common.{◌≡◌, ℕ, ◌+◌, ◌-◌, ◌<◌, ◌≤◌, ◌==◌, ◌&&◌, ◌||◌, nat_le, nat_lt, min, not, Bool, true, false, List, [], ◌∷◌, length, replicate, inl, inr, refl, sym, ap, ◌∙◌, append-nil, cond, arith}
use Rattle.std.specs.Char.{encode_utf8}
use Rattle.std.proofs.lemmas.Bool.{and_parts, and_from, and_right, cases_lt, cond-true, cond-false, eq-eqb, eqb-true, le-ltb, lt-ltb, ne_eqb}
use Rattle.std.proofs.lemmas.List.{length-replicate}
use Rattle.vt_cells.specs.Rendition.{Rendition}
use Rattle.vt_cells.specs.Width.{columns, is_character}
use Rattle.vt_cells.specs.declared.cell.Cell.{Cell}
use Rattle.vt_chars.specs.Utf8.{within}
use Rattle.vt_grid.specs.Grid.{GridView, cells_of_codes, with_erased, with_run}
use Rattle.vt_grid.specs.Halves.{with_cells_at, split_wide_between}
use Rattle.vt_redraw.proofs.Does.{Does}
use Rattle.vt_redraw.proofs.Glyphs.{encoding_decoding_of}
use Rattle.vt_redraw.proofs.Numbers.{sequence_does}
use Rattle.vt_redraw.specs.Cells.{glyph_text}
use Rattle.vt_redraw.specs.Drawable.{is_glyph}
use Rattle.vt_redraw.specs.Sequences.{erase_text}
use Rattle.vt_canvas.specs.Cursor.{at_column, linefeed}
use Rattle.vt_canvas.specs.Effect.{control_sequence}
use Rattle.vt_canvas.specs.Erasing.{erase_line, with_grid}
use Rattle.vt_canvas.specs.Printing.{codes_drawn, lacks_room, with_gap, print, print_character, with_cells_at_cursor, with_character, after_wrap}
use Rattle.vt_screen.specs.Run.{ScreenAndOuts, screen_effects}
use Rattle.vt_canvas.specs.Saying.{without_out}
use Rattle.vt_canvas.specs.Screen.{Screen, erased_byte, mode_of, printed_byte, with_state}
use Rattle.vt_sgr.specs.PenState.{with_attributes as with_attr}
use Rattle.vt_units.proofs.Wholes.{characters_run}
use Rattle.vt_units.specs.Bytes.{decodes}
use Rattle.vt_units.specs.Characters.{AreTextsOf, IsTextOf, is_shown}
use Rattle.vt_units.specs.Laws.{PrintablesAreCharacters, SequencesAreUnits}
use Rattle.vt_units.specs.Rest.{fresh}
use Rattle.vt_units.specs.Run.{make_reached, run}
use Rattle.vt_units.specs.declared.mode.Mode.{Mode}

either_mode : (test : Bool) (s t : Screen) (m : Mode) → mode_of s ≡ m → mode_of t ≡ m → mode_of (cond test s t) ≡ m
either_mode true s t m first second = first
either_mode false s t m first second = second

-- a print leaves the mode
with_character_mode : (w code : ℕ) (s : Screen) → mode_of (with_character w code s) ≡ mode_of s
with_character_mode w code s =
    let first : Screen = at_column 0 s in
    let line : mode_of (linefeed first) ≡ mode_of s =
    either_mode (first.state.y == first.state.bottom) _ _ (mode_of s) refl refl in
    let near : mode_of (cond (lacks_room w s) (at_column (s.grid.cols - w) s) s) ≡ mode_of s =
    either_mode (lacks_room w s) _ _ (mode_of s) refl refl in
    let after : mode_of (after_wrap w s) ≡ mode_of s =
    either_mode (s.state.autowrap && (s.state.wrap || lacks_room w s)) (linefeed first) _ (mode_of s) line near in
    either_mode (after_wrap w s).state.insert _ (after_wrap w s) (mode_of s) after after

print_mode : (w code : ℕ) (s : Screen) → mode_of (print w code s) ≡ mode_of s
unfolding print
print_mode w code s =
    either_mode (w == 0) s _ (mode_of s) refl
    (either_mode (w == 2 && s.grid.cols == 1) _ _ (mode_of s) (with_character_mode 1 0xFFFD s) (with_character_mode w code s))

-- what makes a glyph
pub record IsGlyph (code : ℕ) : Type 0 where
  pub character : is_character code ≡ true
  pub shown : is_shown code ≡ true
  pub some : nat_le 1 (columns code) ≡ true

pub glyph_parts : (code : ℕ) → is_glyph code ≡ true → IsGlyph code
unfolding is_glyph
glyph_parts code is =
    let first = and_parts (is_character code && nat_le 0x20 code && not (within 0x7F 0x9F code)) (nat_le 1 (columns code)) is in
    let second = and_parts (is_character code && nat_le 0x20 code) (not (within 0x7F 0x9F code)) first.0 in
    let third = and_parts (is_character code) (nat_le 0x20 code) second.0 in
    record {
      character = third.0;
      shown = and_from (nat_le 0x20 code) (not (within 0x7F 0x9F code)) third.1 second.1;
      some = first.1;
    }

-- the text of a character prints it, where text is UTF-8
pub glyph_does : PrintablesAreCharacters → (code : ℕ) → IsGlyph code → (s : Screen) → decodes (mode_of s) ≡ true
    → Does (glyph_text code) s (print_character code s)
unfolding glyph_text
glyph_does law code is s decoding = record {
  does =
      λ m.
      let text : List ℕ = encode_utf8 code in
      let now : Mode = mode_of s in
      let one : IsTextOf text code = record { whole = encoding_decoding_of code is.character; shown = is.shown } in
      let are : AreTextsOf text (code ∷ []) = (text, [], sym (append-nil text), one, refl) in
      let first : ScreenAndOuts = record { screen = s; outs = [] } in (
        now,
        ap (λ (bytes : List ℕ). run screen_effects bytes (make_reached first (fresh m))) (cond-true (is_character code) text [] is.character)
            ∙ characters_run screen_effects law (λ c t. print_mode (columns c) c t.screen) text (code ∷ []) first (fresh m) now refl are refl decoding,
      );
}

-- where the next character goes, and how it is written
pub record Brush : Type 0 where
  pub y : ℕ
  pub x : ℕ
  pub wrap : Bool
  pub attr : Rendition

abbrev pub brushed : Screen → Brush → Screen
brushed s b =
    with_state s (record s.state { y = b.y; x = b.x; wrap = b.wrap; pen = with_attr s.state.pen b.attr })

-- text is UTF-8, no control character is shown, no insert mode, and autowrap
pub record IsReady (s : Screen) : Type 0 where
  pub utf8 : s.state.utf8 ≡ true
  pub display : s.state.pen.display ≡ false
  pub insert : s.state.insert ≡ false
  pub autowrap : s.state.autowrap ≡ true

-- the cursor after so many columns of a row
abbrev pub after_columns : Screen → GridView → ℕ → ℕ → Rendition → Screen
after_columns s g y count a =
    brushed (with_grid s g) (record { y = y; x = min count (g.cols - 1); wrap = count == g.cols; attr = a })

-- the cursor in a column, and no wrap pending
abbrev pub in_column : Screen → GridView → ℕ → ℕ → Rendition → Screen
in_column s g y x a = brushed (with_grid s g) (record { y = y; x = x; wrap = false; attr = a })

pub column_is : (s : Screen) (g : GridView) (y count : ℕ) (a : Rendition) → count < g.cols
    → after_columns s g y count a ≡ in_column s g y count a
column_is s g y count a within =
    let column : min count (g.cols - 1) ≡ count = omega (arith, within) in
    let wrap : (count == g.cols) ≡ false = ne_eqb count g.cols (λ same. let e : ⊥ = omega (arith, within, same) in e) in
    λ i. brushed (with_grid s g) (record { y = y; x = column i; wrap = wrap i; attr = a })

module _ (s : Screen) (ready : IsReady s) where
  put-at : (g : GridView) (y count w : ℕ) (codes : List ℕ) (a : Rendition) → length codes ≡ w → count + w ≤ g.cols
      → with_cells_at_cursor codes (in_column s g y count a)
      ≡ after_columns s (with_cells_at g y count (cells_of_codes codes (printed_byte a s.state.pen.look))) y (count + w) a
  put-at g y count w codes a len within =
      let end : count + length codes ≡ count + w = omega (arith, len) in
      let column : cond (nat_lt (count + length codes) g.cols) (count + length codes) (g.cols - 1) ≡ min (count + w) (g.cols - 1) = elim (cases_lt (count + w) g.cols) [
        | inl has ↦
            cond-true _ _ _ (lt-ltb (count + length codes) g.cols (omega (arith, has, end))) ∙ omega (arith, has, end)
        | inr last ↦
            cond-false _ _ _ (le-ltb (count + length codes) g.cols (omega (arith, last, end))) ∙ omega (arith, last, within)
      ] in
      let wrap : cond (nat_lt (count + length codes) g.cols) false s.state.autowrap ≡ (count + w == g.cols) = elim (cases_lt (count + w) g.cols) [
        | inl has ↦
            cond-true _ _ _ (lt-ltb (count + length codes) g.cols (omega (arith, has, end)))
            ∙ sym (ne_eqb (count + w) g.cols (λ same. let e : ⊥ = omega (arith, has, same) in e))
        | inr last ↦
            cond-false _ _ _ (le-ltb (count + length codes) g.cols (omega (arith, last, end)))
            ∙ ready.autowrap
            ∙ sym (eq-eqb (count + w) g.cols (omega (arith, last, within)))
      ] in
      λ i. brushed (with_grid s (with_cells_at g y count (cells_of_codes codes (printed_byte a s.state.pen.look)))) (record { y = y; x = column i; wrap = wrap i; attr = a })

  print-here : (g : GridView) (y count w code : ℕ) (a : Rendition) → 0 < w → count + w ≤ g.cols
      → print w code (in_column s g y count a) ≡ with_cells_at_cursor (codes_drawn w code) (in_column s g y count a)
  unfolding print
  print-here g y count w code a some within =
      let t : Screen = in_column s g y count a in
      let none : (w == 0) ≡ false = ne_eqb w 0 (λ same. let e : ⊥ = omega (arith, some, same) in e) in
      let wide : (w == 2 && g.cols == 1) ≡ false = by_wide (w == 2) refl in
      let room : nat_lt g.cols (count + w) ≡ false = le-ltb g.cols (count + w) within in
      let stays : after_wrap w t ≡ t =
      cond-false (s.state.autowrap && nat_lt g.cols (count + w)) _ _ (and_right s.state.autowrap (nat_lt g.cols (count + w)) room)
      ∙ cond-false (nat_lt g.cols (count + w)) _ _ room in
      let shut : with_gap w t ≡ t = cond-false s.state.insert _ _ ready.insert in
      cond-false (w == 0) _ _ none
      ∙ cond-false (w == 2 && g.cols == 1) _ _ wide
      ∙ ap (λ (u : Screen). with_cells_at_cursor (codes_drawn w code) (with_gap w u)) stays
      ∙ ap (with_cells_at_cursor (codes_drawn w code)) shut
    where
      by_wide : (test : Bool) → (w == 2) ≡ test → (test && g.cols == 1) ≡ false
      by_wide false is = refl
      by_wide true is = ne_eqb g.cols 1 (λ same. let e : ⊥ = omega (arith, eqb-true w 2 is, same, within) in e)

  -- a character printed where it ends in the row
  pub print_at : (g : GridView) (y count w code : ℕ) (a : Rendition) → 0 < w → length (codes_drawn w code) ≡ w
      → count + w ≤ g.cols
      → print w code (after_columns s g y count a)
      ≡ after_columns s (with_cells_at g y count (cells_of_codes (codes_drawn w code) (printed_byte a s.state.pen.look))) y (count + w) a
  print_at g y count w code a some len within =
      ap (print w code) (column_is s g y count a (omega (arith, some, within)))
      ∙ print-here g y count w code a some within
      ∙ put-at g y count w (codes_drawn w code) a len within

  -- an erase of the rest of the row
  pub erase_does : SequencesAreUnits → (g : GridView) (y count : ℕ) (a : Rendition) → count < g.cols
      → Does erase_text (after_columns s g y count a)
      (in_column s (with_cells_at g y count (replicate (g.cols - count) (record { code = 0x20; attr = erased_byte a }))) y count a)
  unfolding erase_text control_sequence erase_line
  erase_does law g y count a within =
      let blank : Cell = record { code = 0x20; attr = erased_byte a } in
      let n : ℕ = g.cols - count in
      let last : g.cols - 1 + 1 ≡ count + length (replicate n blank) = omega (arith, within, length-replicate n blank) in
      let some : g.cols - 1 + 1 - count ≡ n = omega (arith, within) in
      let column : min count (g.cols - 1) ≡ count = omega (arith, within) in
      sequence_does law 0 [] 0x4B (omega arith) tt (omega arith) refl refl (after_columns s g y count a) _
      ((λ i. without_out (brushed (with_grid s (with_erased (split_wide_between g y (column i) (g.cols - 1 + 1)) y (column i) (g.cols - 1) blank)) (record { y = y; x = column i; wrap = false; attr = a })))
      ∙ (λ i. without_out (in_column s (with_run (split_wide_between g y count (last i)) y count (replicate (some i) blank)) y count a)))
