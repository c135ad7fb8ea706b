-- The cells of a row, and rows one after another.
use Rattle.std.proofs.Common.{◌≡◌, ◌⊎◌, inl, inr, ℕ, ◌+◌, ◌-◌, ◌<◌, ◌≤◌, ◌==◌, ◌&&◌, nat_lt, min, not, Bool, true, false, List, [], ◌∷◌, ◌++◌, length, drop, replicate, refl, sym, subst, ap, ◌∙◌, append_assoc, append-nil, arith}
use Rattle.std.specs.Prelude.{if◌then◌else◌}
use Rattle.std.proofs.lemmas.Bool.{and_parts, cases_lt, cond-true, cond-false, eqb-true, false≢true, eq-eqb, leb-true, ltb-true}
use Rattle.std.proofs.lemmas.List.{length-append, length-drop, drop_all}
use Rattle.vt_cells.specs.Rendition.{Rendition}
use Rattle.vt_cells.specs.Width.{AtMostTwo, columns, half, is_half}
use Rattle.vt_cells.specs.declared.cell.Cell.{Cell}
use Rattle.vt_grid.specs.Grid.{GridView, cells_of_codes}
use Rattle.vt_grid.specs.Halves.{with_cells_at}
use Rattle.vt_redraw.proofs.Does.{Does, does_nothing, does_then, does_to}
use Rattle.vt_redraw.proofs.Overlays.{IsOpen, cut, cut_begins, cut-length, with_cells_at_there, open_any, sheet_with}
use Rattle.vt_redraw.proofs.Paints.{attr_erases, attr_prints, attr_of, change_does}
use Rattle.vt_redraw.proofs.Prints.{IsReady, after_columns, brushed, erase_does, glyph_does, glyph_parts, in_column, print_at}
use Rattle.vt_redraw.specs.Cells.{are_spaces, byte_change, cells_text, glyph_text, is_blank_end, is_ground}
use Rattle.vt_redraw.specs.Drawable.{are_drawable, is_glyph}
use Rattle.vt_redraw.specs.Sequences.{erase_text}
use Rattle.vt_canvas.specs.Erasing.{with_grid}
use Rattle.vt_canvas.specs.Printing.{codes_drawn, print}
use Rattle.vt_canvas.specs.Screen.{Screen, erased_byte, mode_of, printed_byte}
use Rattle.vt_units.specs.Bytes.{decodes}
use Rattle.vt_units.specs.Laws.{PrintablesAreCharacters, SequencesAreUnits}

-- cells by their parts
pub same_cell : (c : Cell) (code attr : ℕ) → code ≡ c.code → attr ≡ c.attr → record { code = code; attr = attr } ≡ c
same_cell c code attr e f = λ i. record { code = e i; attr = f i }

-- spaces are one cell over and over
spaces_are : (b : ℕ) (cells : List Cell) → are_spaces b cells ≡ true → cells ≡ replicate (length cells) (record { code = 0x20; attr = b })
spaces_are b [] is = refl
spaces_are b (c ∷ cells) is =
    let parts = and_parts (c.code == 0x20 && c.attr == b) (are_spaces b cells) is in
    let here = and_parts (c.code == 0x20) (c.attr == b) parts.0 in
    let first : c ≡ record { code = 0x20; attr = b } =
    sym (same_cell c 0x20 b (sym (eqb-true c.code 0x20 here.0)) (sym (eqb-true c.attr b here.1))) in
    λ i. first i ∷ spaces_are b cells parts.1 i

half_no_glyph : is_glyph half ≡ true → ⊥
unfolding is_glyph
half_no_glyph e = false≢true e

no_glyph : (c : Cell) → is_glyph c.code ≡ true → is_half c ≡ false
no_glyph c is = by (is_half c) refl
  where
    by : (t : Bool) → is_half c ≡ t → t ≡ false
    by false test = refl
    by true test = absurd (half_no_glyph (subst (λ (code : ℕ). is_glyph code ≡ true) (eqb-true c.code half test) is))

half_no_blank : (h : Cell) (cells : List Cell) → is_half h ≡ true → is_blank_end (h ∷ cells) ≡ false
half_no_blank h cells is =
    let code : h.code ≡ half = eqb-true h.code half is in
    ap (λ (n : ℕ). is_ground h.attr && (n == 0x20 && h.attr == h.attr && are_spaces h.attr cells)) code
    ∙ none (is_ground h.attr)
  where
    none : (t : Bool) → (t && false) ≡ false
    none true = refl
    none false = refl

and_none : (t : Bool) → (t && false) ≡ false
and_none true = refl
and_none false = refl

decoding : (s : Screen) → IsReady s → decodes (mode_of s) ≡ true
decoding s ready = (λ i. ready.utf8 i && not s.state.pen.display) ∙ ap not ready.display

-- what cells make of a screen from a column on: this row, and the brush somewhere. Drawn to the end of the
-- row without an erase, they leave a wrap pending
pub record RowDone (s : Screen) (g : GridView) (y : ℕ) (erases : Bool) (text : List ℕ) (from : Screen) : Type 0 where
  pub x : ℕ
  pub wrap : Bool
  pub attr : Rendition
  pub does : Does text from (brushed (with_grid s g) (record { y = y; x = x; wrap = wrap; attr = attr }))
  pub ends : erases ≡ false → (x ≡ g.cols - 1) × (wrap ≡ true)

-- what comes before
first_done : {s : Screen} {g : GridView} {y : ℕ} {erases : Bool} {one two : List ℕ} {from next : Screen} → Does one from next
    → RowDone s g y erases two next → RowDone s g y erases (one ++ two) from
first_done one two = record {
  x = two.x;
  wrap = two.wrap;
  attr = two.attr;
  does = does_then one two.does;
  ends = two.ends;
}

module _ (s : Screen) (ready : IsReady s) (sequences : SequencesAreUnits) (printables : PrintablesAreCharacters) (most : AtMostTwo) where
  module _ (rows cols : ℕ) (above below : List (List Cell)) where
    abbrev at : List Cell → ℕ → Rendition → Screen
    at row count a = after_columns s (sheet_with rows cols above row below) (length above) count a

    -- the pen's byte
    change : (now b : ℕ) (row : List Cell) (count : ℕ) (a : Rendition) → b < 256
        → (now ≡ 256) ⊎ (a ≡ attr_of now)
        → Does (byte_change now b) (at row count a) (at row count (attr_of b))
    change now b row count a h is = change_does sequences now b (at row count a) h is

    -- a glyph of so many columns, which are these cells
    glyph : (c : Cell) (w : ℕ) (new front rest : List Cell) → is_glyph c.code ≡ true → c.attr < 256 → columns c.code ≡ w
        → 0 < w → length (codes_drawn w c.code) ≡ w → cells_of_codes (codes_drawn w c.code) c.attr ≡ new → length new ≡ w
        → w ≤ length rest → length front + length rest ≡ cols → IsOpen front rest
        → Does (glyph_text c.code) (at (front ++ rest) (length front) (attr_of c.attr))
        (at ((front ++ new) ++ cut (drop w rest)) (length (front ++ new)) (attr_of c.attr))
    glyph c w new front rest is low wide some len cells count room fits apart =
        let a : Rendition = attr_of c.attr in
        let g : GridView = sheet_with rows cols above (front ++ rest) below in
        let x : ℕ = length front in
        let prints : cells_of_codes (codes_drawn w c.code) (printed_byte a s.state.pen.look) ≡ new =
        ap (cells_of_codes (codes_drawn w c.code)) (attr_prints c.attr s.state.pen.look low) ∙ cells in
        let over : with_cells_at g (length above) x new ≡ sheet_with rows cols above ((front ++ new) ++ cut (drop w rest)) below =
        with_cells_at_there rows cols above below front new rest apart (omega (arith, some, count)) (omega (arith, count, room))
        ∙ ap (λ (n : ℕ). sheet_with rows cols above (front ++ (new ++ cut (drop n rest))) below) count
        ∙ ap (λ (row : List Cell). sheet_with rows cols above row below) (sym (append_assoc front new (cut (drop w rest)))) in
        let far : x + w ≡ length (front ++ new) = omega (arith, length-append front new, count) in
        does_to (glyph_does printables c.code (glyph_parts c.code is) (at (front ++ rest) x a) (decoding s ready))
        (ap (λ (n : ℕ). print n c.code (at (front ++ rest) x a)) wide
        ∙ print_at s ready g (length above) x w c.code a some len (omega (arith, room, fits))
        ∙ (λ i. after_columns s (with_cells_at g (length above) x (prints i)) (length above) (far i) a)
        ∙ ap (λ (h : GridView). after_columns s h (length above) (length (front ++ new)) a) over)

    -- the end of the row, where all of it is drawn
    ended : (erases : Bool) (front rest : List Cell) (a : Rendition) → length rest ≡ 0 → length front ≡ cols
        → RowDone s (sheet_with rows cols above (front ++ []) below) (length above) erases [] (at (front ++ rest) (length front) a)
    ended erases front (r ∷ rest) a none all = absurd (omega (arith, none))
    ended erases front [] a none all = record {
      x = min (length front) (cols - 1);
      wrap = length front == cols;
      attr = a;
      does = does_nothing (at (front ++ []) (length front) a);
      ends = λ _. (omega (arith, all), eq-eqb (length front) cols all);
    }

    -- a blank end
    erased : (erases : Bool) (c : Cell) (cells front rest : List Cell) (now : ℕ) (a : Rendition) → erases ≡ true
        → is_blank_end (c ∷ cells) ≡ true → c.attr < 256 → (now ≡ 256) ⊎ (a ≡ attr_of now) → IsOpen front rest
        → length rest ≡ length (c ∷ cells) → length front + length rest ≡ cols
        → RowDone s (sheet_with rows cols above (front ++ c ∷ cells) below) (length above) erases
        (byte_change now c.attr ++ erase_text) (at (front ++ rest) (length front) a)
    erased erases c cells front rest now a on is low known apart count fits =
        let parts = and_parts (is_ground c.attr) (are_spaces c.attr (c ∷ cells)) is in
        let g : GridView = sheet_with rows cols above (front ++ rest) below in
        let x : ℕ = length front in
        let n : ℕ = cols - x in
        let byte : erased_byte (attr_of c.attr) ≡ c.attr = attr_erases c.attr low parts.0 in
        let all : replicate n (record { code = 0x20; attr = erased_byte (attr_of c.attr) }) ≡ c ∷ cells =
        (λ i. replicate ((let e : n ≡ length (c ∷ cells) = omega (arith, count, fits) in e) i) (record { code = 0x20; attr = byte i }))
        ∙ sym (spaces_are c.attr (c ∷ cells) parts.1) in
        let past : cut (drop (length (c ∷ cells)) rest) ≡ [] = ap cut (drop_all (length (c ∷ cells)) rest (omega (arith, count))) in
        let over : with_cells_at g (length above) x (c ∷ cells) ≡ sheet_with rows cols above (front ++ c ∷ cells) below =
        with_cells_at_there rows cols above below front (c ∷ cells) rest apart (omega arith) (omega (arith, count))
        ∙ ap (λ (more : List Cell). sheet_with rows cols above (front ++ (c ∷ cells ++ more)) below) past
        ∙ ap (λ (row : List Cell). sheet_with rows cols above (front ++ row) below) (append-nil (c ∷ cells)) in
        record {
          x = x;
          wrap = false;
          attr = attr_of c.attr;
          does =
              does_then (change now c.attr (front ++ rest) x a low known)
              (does_to (erase_does s ready sequences g (length above) x (attr_of c.attr) (omega (arith, count, fits)))
              ((λ i. in_column s (with_cells_at g (length above) x (all i)) (length above) x (attr_of c.attr))
              ∙ ap (λ (h : GridView). in_column s h (length above) x (attr_of c.attr)) over));
          ends = λ off. absurd (false≢true (sym off ∙ on));
        }

    -- cells from a column on, over others of which the first is no half
    abbrev CellsDo : Bool → List Cell → Type 0
    CellsDo erases cells =
        (front rest : List Cell) (now b : ℕ) (a : Rendition) → IsOpen front rest → length rest ≡ length cells
        → length front + length rest ≡ cols → (now ≡ 256) ⊎ (a ≡ attr_of now) → are_drawable false b cells ≡ true
        → RowDone s (sheet_with rows cols above (front ++ cells) below) (length above) erases
        (cells_text erases now cells) (at (front ++ rest) (length front) a)

    abbrev BehindFirst : Bool → List Cell → Type 0
    BehindFirst erases [] = Unit {0}
    BehindFirst erases (h ∷ more) = CellsDo erases more

    regrouped : (erases : Bool) (text : List ℕ) (from : Screen) (front new cells : List Cell)
        → RowDone s (sheet_with rows cols above ((front ++ new) ++ cells) below) (length above) erases text from
        → RowDone s (sheet_with rows cols above (front ++ (new ++ cells)) below) (length above) erases text from
    regrouped erases text from front new cells done =
        subst (λ (row : List Cell). RowDone s (sheet_with rows cols above row below) (length above) erases text from)
        (append_assoc front new cells) done

    narrow : (erases : Bool) (c : Cell) (cells : List Cell) → CellsDo erases cells → columns c.code ≡ 1
        → is_glyph c.code ≡ true → c.attr < 256 → are_drawable false c.attr cells ≡ true
        → (front rest : List Cell) (now : ℕ) (a : Rendition) → IsOpen front rest → length rest ≡ length (c ∷ cells)
        → length front + length rest ≡ cols → (now ≡ 256) ⊎ (a ≡ attr_of now)
        → RowDone s (sheet_with rows cols above (front ++ c ∷ cells) below) (length above) erases
        (byte_change now c.attr ++ (glyph_text c.code ++ cells_text erases c.attr cells)) (at (front ++ rest) (length front) a)
    narrow erases c cells next one is low drawable front rest now a apart count fits known =
        let left : List Cell = cut (drop 1 rest) in
        let many : length left ≡ length cells = omega (arith, cut-length (drop 1 rest), length-drop 1 rest, count) in
        let all : length (front ++ c ∷ []) + length left ≡ cols =
        omega (arith, length-append front (c ∷ []), many, count, fits) in
        first_done (change now c.attr (front ++ rest) (length front) a low known)
        (first_done
        (glyph c 1 (c ∷ []) front rest is low one (omega arith) refl refl refl (omega (arith, count)) fits apart)
        (regrouped erases _ _ front (c ∷ []) cells
        (next (front ++ c ∷ []) left c.attr c.attr (attr_of c.attr) (open_any (front ++ c ∷ []) left (cut_begins (drop 1 rest)))
        many all (inr refl) drawable)))

    wide : (erases : Bool) (c h : Cell) (more : List Cell) → CellsDo erases more → columns c.code ≡ 2
        → is_glyph c.code ≡ true → c.attr < 256 → are_drawable true c.attr (h ∷ more) ≡ true
        → (front rest : List Cell) (now : ℕ) (a : Rendition) → IsOpen front rest → length rest ≡ length (c ∷ h ∷ more)
        → length front + length rest ≡ cols → (now ≡ 256) ⊎ (a ≡ attr_of now)
        → RowDone s (sheet_with rows cols above (front ++ c ∷ h ∷ more) below) (length above) erases
        (byte_change now c.attr ++ (glyph_text c.code ++ cells_text erases c.attr (h ∷ more))) (at (front ++ rest) (length front) a)
    wide erases c h more next two is low drawable front rest now a apart count fits known =
        let parts = and_parts (is_half h && h.attr == c.attr) (are_drawable false 0 more) drawable in
        let half_is = and_parts (is_half h) (h.attr == c.attr) parts.0 in
        let new : List Cell = c ∷ h ∷ [] in
        let left : List Cell = cut (drop 2 rest) in
        let many : length left ≡ length more = omega (arith, cut-length (drop 2 rest), length-drop 2 rest, count) in
        let all : length (front ++ new) + length left ≡ cols =
        omega (arith, length-append front new, many, count, fits) in
        let cells : cells_of_codes (codes_drawn 2 c.code) c.attr ≡ new =
        λ i. c ∷ same_cell h half c.attr (sym (eqb-true h.code half half_is.0)) (sym (eqb-true h.attr c.attr half_is.1)) i ∷ [] in
        let rest_text : cells_text erases c.attr (h ∷ more) ≡ cells_text erases c.attr more =
        cond-false (erases && is_blank_end (h ∷ more)) _ _
        (ap (λ (t : Bool). erases && t) (half_no_blank h more half_is.0) ∙ and_none erases)
        ∙ cond-true (is_half h) _ _ half_is.0 in
        first_done (change now c.attr (front ++ rest) (length front) a low known)
        (first_done
        (glyph c 2 new front rest is low two (omega arith) refl cells refl (omega (arith, count)) fits apart)
        (subst (λ (text : List ℕ). RowDone s (sheet_with rows cols above (front ++ c ∷ h ∷ more) below) (length above) erases text (at ((front ++ new) ++ left) (length (front ++ new)) (attr_of c.attr)))
        (sym rest_text)
        (regrouped erases _ _ front new more
        (next (front ++ new) left c.attr 0 (attr_of c.attr) (open_any (front ++ new) left (cut_begins (drop 2 rest)))
        many all (inr refl) parts.1))))

    -- a glyph, of one column or two
    glyph-first : (erases : Bool) (c : Cell) (cells : List Cell) → CellsDo erases cells → BehindFirst erases cells
        → is_glyph c.code ≡ true → c.attr < 256 → are_drawable (columns c.code == 2) c.attr cells ≡ true
        → (front rest : List Cell) (now : ℕ) (a : Rendition) → IsOpen front rest → length rest ≡ length (c ∷ cells)
        → length front + length rest ≡ cols → (now ≡ 256) ⊎ (a ≡ attr_of now)
        → RowDone s (sheet_with rows cols above (front ++ c ∷ cells) below) (length above) erases
        (byte_change now c.attr ++ (glyph_text c.code ++ cells_text erases c.attr cells)) (at (front ++ rest) (length front) a)
    glyph-first erases c cells next behind is low drawable = by (columns c.code == 2) refl drawable
      where
        two-cells : (cells : List Cell) → BehindFirst erases cells → columns c.code ≡ 2 → are_drawable true c.attr cells ≡ true
            → (front rest : List Cell) (now : ℕ) (a : Rendition) → IsOpen front rest → length rest ≡ length (c ∷ cells)
            → length front + length rest ≡ cols → (now ≡ 256) ⊎ (a ≡ attr_of now)
            → RowDone s (sheet_with rows cols above (front ++ c ∷ cells) below) (length above) erases
            (byte_change now c.attr ++ (glyph_text c.code ++ cells_text erases c.attr cells)) (at (front ++ rest) (length front) a)
        two-cells [] others two drawn_so = absurd (false≢true drawn_so)
        two-cells (h ∷ more) others two drawn_so = wide erases c h more others two is low drawn_so

        one-column : (columns c.code == 2) ≡ false → columns c.code ≡ 1
        one-column test =
            let some : 1 ≤ columns c.code = leb-true 1 (columns c.code) (glyph_parts c.code is).some in
            let few : columns c.code ≤ 2 = most c.code in
            elim (cases_lt (columns c.code) 2) [
              | inl low ↦ omega (arith, some, low)
              | inr high ↦
                  absurd (false≢true (sym test ∙ eq-eqb (columns c.code) 2 (omega (arith, few, high))))
            ]

        by : (t : Bool) → (columns c.code == 2) ≡ t → are_drawable t c.attr cells ≡ true
            → (front rest : List Cell) (now : ℕ) (a : Rendition) → IsOpen front rest → length rest ≡ length (c ∷ cells)
            → length front + length rest ≡ cols → (now ≡ 256) ⊎ (a ≡ attr_of now)
            → RowDone s (sheet_with rows cols above (front ++ c ∷ cells) below) (length above) erases
            (byte_change now c.attr ++ (glyph_text c.code ++ cells_text erases c.attr cells)) (at (front ++ rest) (length front) a)
        by true test drawn_so = two-cells cells behind (eqb-true (columns c.code) 2 test) drawn_so
        by false test drawn_so = narrow erases c cells next (one-column test) is low drawn_so

    cell-first : (erases : Bool) (c : Cell) (cells : List Cell) → CellsDo erases cells → BehindFirst erases cells
        → CellsDo erases (c ∷ cells)
    cell-first erases c cells next behind front rest now b a apart count fits known drawable =
        by (erases && is_blank_end (c ∷ cells)) refl
      where
        parts : ((is_glyph c.code && nat_lt c.attr 256) ≡ true) × (are_drawable (columns c.code == 2) c.attr cells ≡ true)
        parts = and_parts (is_glyph c.code && nat_lt c.attr 256) (are_drawable (columns c.code == 2) c.attr cells) drawable

        one : (is_glyph c.code ≡ true) × (nat_lt c.attr 256 ≡ true)
        one = and_parts (is_glyph c.code) (nat_lt c.attr 256) parts.0

        by : (t : Bool) → (erases && is_blank_end (c ∷ cells)) ≡ t
            → RowDone s (sheet_with rows cols above (front ++ c ∷ cells) below) (length above) erases
            (if t then byte_change now c.attr ++ erase_text
            else if is_half c then cells_text erases now cells
            else byte_change now c.attr ++ (glyph_text c.code ++ cells_text erases c.attr cells))
            (at (front ++ rest) (length front) a)
        by true test =
            let both = and_parts erases (is_blank_end (c ∷ cells)) test in
            erased erases c cells front rest now a both.0 both.1 (ltb-true c.attr 256 one.1) known apart count fits
        by false test =
            subst (λ (text : List ℕ). RowDone s (sheet_with rows cols above (front ++ c ∷ cells) below) (length above) erases text (at (front ++ rest) (length front) a))
            (sym (cond-false (is_half c) _ _ (no_glyph c one.0)))
            (glyph-first erases c cells next behind one.0 (ltb-true c.attr 256 one.1) parts.1 front rest now a apart count fits known)

    no-cells : (erases : Bool) → CellsDo erases []
    no-cells erases front rest now b a apart count fits known drawable =
        ended erases front rest a count (omega (arith, count, fits))

    pub cells_do : (erases : Bool) (cells : List Cell) → CellsDo erases cells
    cells_do erases [] = no-cells erases
    cells_do erases (c ∷ []) = cell-first erases c [] (no-cells erases) tt
    cells_do erases (c ∷ h ∷ more) = cell-first erases c (h ∷ more) (cells_do erases (h ∷ more)) (cells_do erases more)
