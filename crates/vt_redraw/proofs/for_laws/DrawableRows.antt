-- The drawable rows are the cells of characters.
use Rattle.std.proofs.Common.{◌≡◌, ◌==◌, ◌&&◌, ◌<◌, ◌++◌, ℕ, Bool, true, false, nat_lt, List, [], ◌∷◌, refl, sym, subst, cond, ltb-true}
use Rattle.std.specs.Prelude.{All}
use Rattle.std.specs.List.{flat_map}
use Rattle.std.proofs.lemmas.Bool.{and_from, and_parts, eq-eqb, eqb-true, false≢true, lt-ltb}
use Rattle.std.proofs.lemmas.List.Elements.{All-cons, All-head, All-nil, All-tail}
use Rattle.vt_cells.specs.Width.{columns, half, is_half}
use Rattle.vt_cells.specs.declared.cell.Cell.{Cell}
use Rattle.vt_redraw.specs.Drawable.{are_drawable, is_glyph, is_row_drawable}
use Rattle.vt_redraw.specs.DrawableRows.{HasCharacters, RowsAreCharacters, cells_of_character}

-- a character that prints itself, with a byte
abbrev Prints : Cell → Type 0
Prints c = (is_glyph c.code ≡ true) × (c.attr < 256)

abbrev half_of : Cell → Cell
half_of c = record c { code = half }

-- the cells behind a character's own
module _ (c : Cell) (cells : List Cell) (again : (attr : ℕ) → are_drawable false attr cells ≡ true) where
  abbrev behind : Bool → List Cell
  behind wide = cond wide (half_of c ∷ []) [] ++ cells

  behind-drawn : (wide : Bool) → are_drawable wide c.attr (behind wide) ≡ true
  behind-drawn true =
      and_from (c.attr == c.attr) (are_drawable false 0 cells) (eq-eqb c.attr c.attr refl) (again 0)
  behind-drawn false = again c.attr

drawn : (attr : ℕ) (characters : List Cell) → All Prints characters
    → are_drawable false attr (flat_map cells_of_character characters) ≡ true
drawn attr [] all = refl
drawn attr (c ∷ characters) all =
    let print : Prints c = All-head Prints c characters all in
    let others : All Prints characters = All-tail Prints c characters all in
    let cells : List Cell = flat_map cells_of_character characters in
    let again : (attr : ℕ) → are_drawable false attr cells ≡ true = λ attr. drawn attr characters others in
    and_from (is_glyph c.code && nat_lt c.attr 256)
    (are_drawable (columns c.code == 2) c.attr (behind c cells again (columns c.code == 2)))
    (and_from (is_glyph c.code) (nat_lt c.attr 256) print.0 (lt-ltb c.attr 256 print.1))
    (behind-drawn c cells again (columns c.code == 2))

-- a character before such a row
one_more : (c : Cell) (row : List Cell) → (is_glyph c.code && nat_lt c.attr 256) ≡ true
    → (wide : Bool) → (columns c.code == 2) ≡ wide → HasCharacters row
    → HasCharacters (c ∷ (cond wide (half_of c ∷ []) [] ++ row))
one_more c row is wide same has =
    let parts = and_parts (is_glyph c.code) (nat_lt c.attr 256) is in
    record {
      characters = c ∷ has.characters;
      print = All-cons Prints c has.characters (parts.0, ltb-true c.attr 256 parts.1) has.print;
      cells = λ i. c ∷ (cond (sym same i) (half_of c ∷ []) [] ++ has.cells i);
    }

none : HasCharacters []
none = record { characters = []; print = All-nil Prints; cells = refl }

-- the character at the beginning of a drawable row
module _ (c : Cell) (print : (is_glyph c.code && nat_lt c.attr 256) ≡ true) where
  last-split : (wide : Bool) → (columns c.code == 2) ≡ wide → are_drawable wide c.attr [] ≡ true → HasCharacters (c ∷ [])
  last-split true same is = absurd (false≢true is)
  last-split false same is = one_more c [] print false same none

  next-split : (d : Cell) (row : List Cell) → (are_drawable false 0 row ≡ true → HasCharacters row)
      → (are_drawable false c.attr (d ∷ row) ≡ true → HasCharacters (d ∷ row))
      → (wide : Bool) → (columns c.code == 2) ≡ wide → are_drawable wide c.attr (d ∷ row) ≡ true
      → HasCharacters (c ∷ d ∷ row)
  next-split d row others all true same is =
      let parts = and_parts (is_half d && d.attr == c.attr) (are_drawable false 0 row) is in
      let own = and_parts (is_half d) (d.attr == c.attr) parts.0 in
      let code : half ≡ d.code = sym (eqb-true d.code half own.0) in
      let attr : c.attr ≡ d.attr = sym (eqb-true d.attr c.attr own.1) in
      subst HasCharacters (λ i. c ∷ record { code = code i; attr = attr i } ∷ row)
      (one_more c row print true same (others parts.1))
  next-split d row others all false same is = one_more c (d ∷ row) print false same (all is)

split : (attr : ℕ) (row : List Cell) → are_drawable false attr row ≡ true → HasCharacters row
split attr [] is = none
split attr (c ∷ []) is =
    let parts = and_parts (is_glyph c.code && nat_lt c.attr 256) (are_drawable (columns c.code == 2) c.attr []) is in
    last-split c parts.0 (columns c.code == 2) refl parts.1
split attr (c ∷ d ∷ row) is =
    let parts = and_parts (is_glyph c.code && nat_lt c.attr 256) (are_drawable (columns c.code == 2) c.attr (d ∷ row)) is in
    next-split c parts.0 d row (λ drawable. split 0 row drawable) (λ drawable. split c.attr (d ∷ row) drawable)
    (columns c.code == 2) refl parts.1

pub rows_are_characters : RowsAreCharacters
rows_are_characters row = (
  split 0 row,
  λ has. subst (λ cells. is_row_drawable cells ≡ true) (sym has.cells) (drawn 0 has.characters has.print),
)
