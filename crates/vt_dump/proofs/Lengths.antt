-- How many bytes the dumps have.
use Rattle.std.proofs.Common.{◌≡◌, ℕ, suc, ◌+◌, ◌*◌, Bool, List, [], ◌∷◌, length, refl, ap, ◌∙◌, arith, length-append}
use Rattle.std.specs.Prelude.{All}
use Rattle.std.specs.List.{flat_map}
use Rattle.std.specs.Int.{to_le_bytes, w32}
use Rattle.std.proofs.lemmas.List.Elements.{All-head, All-tail}
use Rattle.vt_dump.specs.Dumps.{attribute, cell_count, character, codes_bytes, of_cells, vcs_bytes}
use Rattle.vt_grid.specs.Grid.{IsFull, GridView}
use Rattle.vt_cells.specs.declared.cell.Cell.{Cell}

-- one row's bytes and those of the others
added : (a b n each : ℕ) → a ≡ each → b ≡ n * each → a + b ≡ suc n * each
added a b n each first others = grind (arith, first, others)

turned : (rows cols each : ℕ) → rows * (cols * each) ≡ each * (rows * cols)
turned rows cols each = grind arith

-- as many bytes as cells, each time the same number
length_row : (bytes : Cell → List ℕ) (each : ℕ) → ((cell : Cell) → length (bytes cell) ≡ each)
    → (row : List Cell) → length (flat_map bytes row) ≡ length row * each
length_row bytes each same [] = grind arith
length_row bytes each same (cell ∷ row) =
    grind (arith, length-append (bytes cell) (flat_map bytes row), same cell, length_row bytes each same row)

length_rows : (bytes : Cell → List ℕ) (each cols : ℕ) → ((cell : Cell) → length (bytes cell) ≡ each)
    → (rows : List (List Cell)) → All (λ row. length row ≡ cols) rows
    → length (flat_map (flat_map bytes) rows) ≡ length rows * (cols * each)
length_rows bytes each cols same [] wide = grind arith
length_rows bytes each cols same (row ∷ rows) wide =
    let first : length (flat_map bytes row) ≡ cols * each =
    length_row bytes each same row ∙ ap (λ n. n * each) (All-head (λ r. length r ≡ cols) row rows wide) in
    let others : length (flat_map (flat_map bytes) rows) ≡ length rows * (cols * each) =
    length_rows bytes each cols same rows (All-tail (λ r. length r ≡ cols) row rows wide) in
    length-append (flat_map bytes row) (flat_map (flat_map bytes) rows)
    ∙ added (length (flat_map bytes row)) (length (flat_map (flat_map bytes) rows)) (length rows) (cols * each) first others

length_cells : (bytes : Cell → List ℕ) (each : ℕ) → ((cell : Cell) → length (bytes cell) ≡ each)
    → (s : GridView) → IsFull s → length (of_cells bytes s) ≡ each * cell_count s
length_cells bytes each same s full =
    length_rows bytes each s.cols same s.cells full.wide
    ∙ ap (λ n. n * (s.cols * each)) full.tall
    ∙ turned s.rows s.cols each

pub length_of_characters : (s : GridView) → IsFull s → length (vcs_bytes s) ≡ cell_count s
length_of_characters s full =
    length_cells (λ cell. character cell ∷ []) 1 (λ cell. refl) s full ∙ omega arith

pub length_of_pairs : (s : GridView) (reversed : Bool) → IsFull s
    → length (of_cells (λ cell. character cell ∷ attribute reversed cell ∷ []) s) ≡ 2 * cell_count s
length_of_pairs s reversed full =
    length_cells (λ cell. character cell ∷ attribute reversed cell ∷ []) 2 (λ cell. refl) s full

pub length_of_codes : (s : GridView) → IsFull s → length (codes_bytes s) ≡ 4 * cell_count s
length_of_codes s full = length_cells (λ cell. to_le_bytes w32 cell.code) 4 (λ cell. refl) s full
