-- Line feeds that scroll, one after another and at once.
use Rattle.std.proofs.Common.{◌≡◌, ◌<◌, ◌≤◌, ◌+◌, ◌-◌, ◌==◌, arith, ℕ, zero, suc, Bool, true, false, cond, List, [], ◌∷◌, ◌++◌, take, drop, length, replicate, refl, sym, ap, ◌∙◌, ⊎_elim}
use Rattle.std.proofs.Math.Seq.{drop-append_seam, take-append_seam, drop-append-add}
use Rattle.std.proofs.lemmas.Bool.{cases_lt, cond-true, or_right}
use Rattle.std.proofs.lemmas.List.{append_assoc, drop_all, drop-append-le, drop-drop, length-append, length-drop, length-replicate, length-take}
use Rattle.std.specs.Prelude.{All, min, not}
use Rattle.vt_cells.specs.declared.cell.Cell.{Cell}
use Rattle.vt_grid.specs.Grid.{GridView, moved_up, scrolled_up}
use Rattle.vt_canvas.specs.Cursor.{at_column, at_row, linefeed, newline, newlines, region_up}
use Rattle.vt_canvas.specs.Screen.{Screen, blank_of, mode_of}

abbrev Row : Type 0
Row = List Cell

-- rows that move up by one and then by n
by_fewer : (n h : ℕ) (f : Row) (rows : List Row) → length rows ≡ h → n < h
    → drop n (drop 1 rows ++ f ∷ []) ++ replicate n f ≡ drop (suc n) rows ++ replicate (suc n) f
by_fewer n h f rows tall fewer =
    let inside : n ≤ length (drop 1 rows) = omega (arith, length-drop 1 rows, tall, fewer) in
    let count : 1 + n ≡ suc n = omega arith in
    ap (λ (xs : List Row). xs ++ replicate n f) (drop-append-le n (drop 1 rows) (f ∷ []) inside)
    ∙ append_assoc (drop n (drop 1 rows)) (f ∷ []) (replicate n f)
    ∙ ap (λ (xs : List Row). xs ++ replicate (suc n) f)
    (drop-drop n 1 rows ∙ ap (λ k. drop k rows) count)

by_all : (h : ℕ) (f : Row) (rows : List Row) → length rows ≡ h → 0 < h
    → drop h (drop 1 rows ++ f ∷ []) ++ replicate h f ≡ drop h rows ++ replicate h f
by_all h f rows tall some =
    let long : length (drop 1 rows ++ f ∷ []) ≤ h =
    omega (arith, length-append (drop 1 rows) (f ∷ []), length-drop 1 rows, tall, some) in
    ap (λ (xs : List Row). xs ++ replicate h f)
    (drop_all h (drop 1 rows ++ f ∷ []) long ∙ sym (drop_all h rows (omega (arith, tall))))

moved_more : (n h : ℕ) (f : Row) (rows : List Row) → length rows ≡ h → 0 < h
    → moved_up (min n h) f (moved_up (min 1 h) f rows) ≡ moved_up (min (suc n) h) f rows
moved_more n h f rows tall some =
    let one : min 1 h ≡ 1 = omega (arith, some) in
    ap (λ k. moved_up (min n h) f (moved_up k f rows)) one
    ∙ ⊎_elim
    (λ fewer.
    let low : min n h ≡ n = omega (arith, fewer) in
    let high : min (suc n) h ≡ suc n = omega (arith, fewer) in
    ap (λ k. moved_up k f (moved_up 1 f rows)) low
    ∙ by_fewer n h f rows tall fewer
    ∙ ap (λ k. moved_up k f rows) (sym high))
    (λ all.
    let low : min n h ≡ h = omega (arith, all) in
    let high : min (suc n) h ≡ h = omega (arith, all) in
    ap (λ k. moved_up k f (moved_up 1 f rows)) low
    ∙ by_all h f rows tall some
    ∙ ap (λ k. moved_up k f rows) (sym high))
    (cases_lt n h)

-- a region that scrolls by one and then by n
scrolled_more : (s : GridView) (top bottom n : ℕ) (c : Cell) → length s.cells ≡ s.rows → top ≤ bottom
    → bottom < s.rows
    → scrolled_up (scrolled_up s top bottom 1 c) top bottom n c ≡ scrolled_up s top bottom (suc n) c
scrolled_more s top bottom n c tall order within =
    let xs : List Row = s.cells in
    let h : ℕ = bottom + 1 - top in
    let f : Row = replicate s.cols c in
    let a : List Row = take top xs in
    let rows : List Row = take h (drop top xs) in
    let m : List Row = moved_up (min 1 h) f rows in
    let z : List Row = drop (bottom + 1) xs in
    let whole : List Row = a ++ (m ++ z) in
    let above : length a ≡ top = omega (arith, length-take top xs, tall, order, within) in
    let height : length rows ≡ h =
    omega (arith, length-take h (drop top xs), length-drop top xs, tall, order, within) in
    let kept : length m ≡ h =
    omega (
      arith,
      length-append (drop (min 1 h) rows) (replicate (min 1 h) f),
      length-drop (min 1 h) rows,
      length-replicate (min 1 h) f,
      height,
      order,
    ) in
    let seam : bottom + 1 ≡ length a + length m = omega (arith, above, kept, order) in
    let first : take top whole ≡ a =
    ap (λ k. take k whole) (sym above) ∙ take-append_seam a (m ++ z) in
    let rest : drop top whole ≡ m ++ z =
    ap (λ k. drop k whole) (sym above) ∙ drop-append_seam a (m ++ z) in
    let middle : take h (drop top whole) ≡ m =
    ap (take h) rest ∙ ap (λ k. take k (m ++ z)) (sym kept) ∙ take-append_seam m z in
    let last : drop (bottom + 1) whole ≡ z =
    ap (λ k. drop k whole) seam ∙ drop-append-add a (m ++ z) (length m) ∙ drop-append_seam m z in
    let moved : moved_up (min n h) f (take h (drop top whole)) ≡ moved_up (min (suc n) h) f rows =
    ap (moved_up (min n h) f) middle ∙ moved_more n h f rows height (omega (arith, order)) in
    λ i. record s { cells = first i ++ (moved i ++ last i) }

-- line feeds at once
abbrev pub at_once : ℕ → Screen → Screen
at_once n s = record {
  grid = scrolled_up s.grid s.state.top s.state.bottom n (blank_of s);
  state = record s.state { x = cond s.state.newline 0 s.state.x; wrap = false };
}

by_newline : (line : Bool) (s : Screen) → (s.state.y == s.state.bottom) ≡ true
    → linefeed (cond line (at_column 0 s) s) ≡ record {
      grid = scrolled_up s.grid s.state.top s.state.bottom 1 (blank_of s);
      state = record s.state { x = cond line 0 s.state.x; wrap = false };
    }
by_newline true s is =
    let from : Screen = at_column 0 s in
    cond-true (s.state.y == s.state.bottom) (region_up from) (at_row (min (s.state.y + 1) (s.grid.rows - 1)) from) is
by_newline false s is =
    cond-true (s.state.y == s.state.bottom) (region_up s) (at_row (min (s.state.y + 1) (s.grid.rows - 1)) s) is

twice : (line : Bool) (x : ℕ) → cond line 0 (cond line 0 x) ≡ cond line 0 x
twice true x = refl
twice false x = refl

-- the rows stay as many
scrolled_tall : (s : Screen) → length s.grid.cells ≡ s.grid.rows → s.state.top ≤ s.state.bottom
    → s.state.bottom < s.grid.rows → length (at_once 1 s).grid.cells ≡ s.grid.rows
scrolled_tall s tall order within =
    let xs : List Row = s.grid.cells in
    let top : ℕ = s.state.top in
    let bottom : ℕ = s.state.bottom in
    let h : ℕ = bottom + 1 - top in
    let f : Row = replicate s.grid.cols (blank_of s) in
    let rows : List Row = take h (drop top xs) in
    let m : List Row = moved_up (min 1 h) f rows in
    let z : List Row = drop (bottom + 1) xs in
    omega (
      arith,
      tall,
      order,
      within,
      length-append (take top xs) (m ++ z),
      length-append m z,
      length-append (drop (min 1 h) rows) (replicate (min 1 h) f),
      length-drop (min 1 h) rows,
      length-replicate (min 1 h) f,
      length-take h (drop top xs),
      length-drop top xs,
      length-take top xs,
      length-drop (bottom + 1) xs,
    )

-- one line feed in the region's last row
one : (s : Screen) → s.state.y ≡ s.state.bottom → newline s ≡ at_once 1 s
one s last =
    let same : (s.state.y == s.state.bottom) ≡ true = grind (arith, last) in
    by_newline s.state.newline s same

-- each more goes on
pub all_at_once : (n : ℕ) (s : Screen) → s.state.y ≡ s.state.bottom
    → length s.grid.cells ≡ s.grid.rows → s.state.top ≤ s.state.bottom → s.state.bottom < s.grid.rows
    → newlines (suc n) s ≡ at_once (suc n) s
all_at_once zero s last tall order within = one s last
all_at_once (suc n) s last tall order within =
    let next : Screen = at_once 1 s in
    let kept : length next.grid.cells ≡ next.grid.rows = scrolled_tall s tall order within in
    ap (newlines (suc n)) (one s last)
    ∙ all_at_once n next last kept order within
    ∙ (λ i. record {
      grid = scrolled_more s.grid s.state.top s.state.bottom (suc n) (blank_of s) tall order within i;
      state = record s.state {
        x = twice s.state.newline s.state.x i;
        wrap = false;
      };
    })
