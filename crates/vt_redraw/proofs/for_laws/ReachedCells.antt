-- The rows that bytes make can be drawn exactly if each of their cells can.
use Rattle.std.proofs.Common.{◌≡◌, ℕ, ◌<◌, ◌==◌, ◌&&◌, ◌||◌, Bool, not, true, false, nat_lt, List, [], ◌∷◌, refl, sym, ap, ◌∙◌, subst, ltb-true}
use Rattle.std.specs.Prelude.{All}
use Rattle.std.specs.List.{list_all}
use Rattle.std.proofs.lemmas.Bool.{and_from, and_parts, eq-eqb, eqb-true, false≢true, lt-ltb, or_left, or_right}
use Rattle.std.proofs.lemmas.List.Elements.{All-cons, All-head, All-nil, All-tail}
use Rattle.vt_cells.specs.Width.{columns, is_half}
use Rattle.vt_cells.specs.declared.cell.Cell.{Cell}
use Rattle.vt_redraw.specs.Drawable.{are_drawable, is_glyph, is_row_drawable}
use Rattle.vt_redraw.specs.Reached.{IsDrawableCell, TapeCellsAreDrawable}
use Rattle.vt_screen.specs.Characters.{AreCharacters, TapesKeepCharacters}

-- characters whose cells can be drawn can be drawn
drawn : (wide : Bool) (attr : ℕ) (cells : List Cell) → AreCharacters wide attr cells → All IsDrawableCell cells
    → are_drawable wide attr cells ≡ true
drawn wide attr [] h all = ap not h
drawn true attr (c ∷ cells) h all =
    and_from (is_half c && c.attr == attr) (are_drawable false 0 cells)
    (and_from (is_half c) (c.attr == attr) h.0 (eq-eqb c.attr attr h.1))
    (drawn false 0 cells h.2 (All-tail IsDrawableCell c cells all))
drawn false attr (c ∷ cells) h all =
    let own = All-head IsDrawableCell c cells all in
    and_from (is_glyph c.code && nat_lt c.attr 256) (are_drawable (columns c.code == 2) c.attr cells)
    (and_from (is_glyph c.code) (nat_lt c.attr 256) (sym (ap (λ (b : Bool). b || is_glyph c.code) h.0) ∙ own.0) (lt-ltb c.attr 256 own.1))
    (drawn (columns c.code == 2) c.attr cells h.1 (All-tail IsDrawableCell c cells all))

rows-drawn : (rows : List (List Cell)) → All (AreCharacters false 0) rows → All (All IsDrawableCell) rows
    → list_all is_row_drawable rows ≡ true
rows-drawn [] h all = refl
rows-drawn (row ∷ rows) h all =
    and_from (is_row_drawable row) (list_all is_row_drawable rows)
    (drawn false 0 row (All-head (AreCharacters false 0) row rows h) (All-head (All IsDrawableCell) row rows all))
    (rows-drawn rows (All-tail (AreCharacters false 0) row rows h) (All-tail (All IsDrawableCell) row rows all))

-- the cells of a row that can be drawn; behind a character of two columns stands its byte
each : (wide : Bool) (attr : ℕ) (cells : List Cell) → (wide ≡ true → attr < 256) → are_drawable wide attr cells ≡ true
    → All IsDrawableCell cells
each wide attr [] byte is = All-nil IsDrawableCell
each true attr (c ∷ cells) byte is =
    let parts = and_parts (is_half c && c.attr == attr) (are_drawable false 0 cells) is in
    let own = and_parts (is_half c) (c.attr == attr) parts.0 in
    All-cons IsDrawableCell c cells
    (or_left (is_half c) (is_glyph c.code) own.0, subst (λ n. n < 256) (sym (eqb-true c.attr attr own.1)) (byte refl))
    (each false 0 cells (λ e. absurd (false≢true e)) parts.1)
each false attr (c ∷ cells) byte is =
    let parts = and_parts (is_glyph c.code && nat_lt c.attr 256) (are_drawable (columns c.code == 2) c.attr cells) is in
    let own = and_parts (is_glyph c.code) (nat_lt c.attr 256) parts.0 in
    let small : c.attr < 256 = ltb-true c.attr 256 own.1 in
    All-cons IsDrawableCell c cells (or_right (is_half c) (is_glyph c.code) own.0, small)
    (each (columns c.code == 2) c.attr cells (λ wide. small) parts.1)

rows-each : (rows : List (List Cell)) → list_all is_row_drawable rows ≡ true → All (All IsDrawableCell) rows
rows-each [] is = All-nil (All IsDrawableCell)
rows-each (row ∷ rows) is =
    let parts = and_parts (is_row_drawable row) (list_all is_row_drawable rows) is in
    All-cons (All IsDrawableCell) row rows (each false 0 row (λ e. absurd (false≢true e)) parts.0) (rows-each rows parts.1)

pub tape_cells_are_drawable : TapesKeepCharacters → TapeCellsAreDrawable
tape_cells_are_drawable keep rows cols tape narrow =
    (rows-each _, rows-drawn _ (keep rows cols tape narrow))
