use Rattle.std.proofs.Common.{◌≡◌, ◌<◌, ℕ, zero, suc, ◌+◌, ◌*◌, ◌-◌, ◌++◌, List, [], ◌∷◌, Option, None, Some, refl, ap, sym, ◌∙◌, append_assoc, arith, drop, length, length-drop, map, subst, take, ◌≤◌}
use Rattle.std.proofs.lemmas.Grind.{flat_map-append}
use Rattle.std.proofs.lemmas.List.{append-nil, length-append, length-map, length-take}
use Rattle.std.proofs.lemmas.List.Elements.{All-append, All-head, All-tail}
use Rattle.std.specs.List.{flat_map}
use Rattle.c_calls.proofs.Fillings.{filled_none}
use Rattle.screen_c.proofs.Pieces.{count_more, outs_more, places_more, room_more, rows_more, rows_room_more, screen_more}
use Rattle.c_calls.specs.Places.{with_items}
use Rattle.c_cells.specs.Cells.{c_cell}
use Rattle.screen_c.specs.Shown.{c_out}
use Rattle.c_cells.specs.declared.vt_cell.VtCell.{VtCell}
use Rattle.screen_c.specs.declared.vt_out.VtOut.{VtOut}
use Rattle.vt_canvas.specs.declared.out.Out.{Out}
use Rattle.vt_canvas.specs.Screen.{Screen}
use Rattle.vt_cells.specs.declared.cell.Cell.{Cell}
use Rattle.vt_screen.proofs.Stated.{any_cut, any_row_cut}
use Rattle.vt_screen.specs.Falling.{AreWide, rows_of_run}
use Rattle.vt_screen.specs.Run.{outs_of_option, outs_of_run}
use Rattle.vt_units.specs.Run.{Reached}
use Rattle.screen_c.proofs.feeding_by_rows.feed_by_rows.Goals.{then-loop-n-test+then-at-b+else-left-ge2, then-loop-n-test+else-at-b, else-loop-n-test}
use Rattle.screen_c.proofs.feeding_by_rows.feed_by_rows.Goals as goal

-- a byte or more is run, if there is one
some_run : (m : Reached Screen) (text : List ℕ) (n : ℕ) (said : Option Out) (rows : List (List Cell))
    → outs_of_option said ≡ outs_of_run m (take n text) → rows ≡ rows_of_run m (take n text)
    → (said ≡ None → rows ≡ [] → n ≡ length text) → 0 < length text → 0 < n
some_run m text zero None rows heard fell all some =
    let whole : 0 ≡ length text = all refl fell in omega (arith, whole, some)
some_run m text zero (Some out) rows heard fell all some = absurd (let e : ⊥ = cc in e)
some_run m text (suc n) said rows heard fell all some = omega arith

-- rows of so many cells, one after another
cells_count : (cols : ℕ) (rows : List (List Cell)) → AreWide cols rows
    → length (flat_map (map c_cell) rows) ≡ length rows * cols
cells_count cols [] wide = grind arith
cells_count cols (row ∷ rows) wide =
    grind (
      arith,
      length-append (map c_cell row) (flat_map (map c_cell) rows),
      length-map row c_cell,
      All-head (λ (cells : List Cell). length cells ≡ cols) row rows wide,
      cells_count cols rows (All-tail (λ (cells : List Cell). length cells ≡ cols) row rows wide),
    )

pub loop-n-smaller : goal.loop-n-smaller
loop-n-smaller c =
    let text : List ℕ = c.args.b.now in
    let at : ℕ = c.loop-n.at in
    let left : List ℕ = take (length text - at) (drop at text) in
    let more : 0 < length left =
    omega (arith, c.if-at-b.true, length-take (length text - at) (drop at text), length-drop at text) in
    let some : 0 < c.write_until_row-at.result =
    some_run c.loop-n.emu left c.write_until_row-at.result c.write_until_row-at.new.effect c.write_until_row-at.new.rows
    c.write_until_row-at.ensures.effect c.write_until_row-at.ensures.rows c.write_until_row-at.ensures.all more in
    omega (arith, some, c.write_until_row-at.ensures.within, length-drop at text)

pub loop-n-preserved : goal.loop-n-preserved
loop-n-preserved c =
    let text : List ℕ = c.args.b.now in
    let start : List VtOut = c.args.places.now in
    let at : ℕ = c.loop-n.at in
    let n : ℕ = c.loop-n.n in
    let m : ℕ = c.write_until_row-at.result in
    let k : ℕ = c.put_effect-n.result in
    let before : List Out = outs_of_run c.args.emu.now (take at text) in
    let more : List Out = outs_of_option c.write_until_row-at.new.effect in
    let all : List Out = outs_of_run c.args.emu.now (take (at + m) text) in
    let whole : before ++ more ≡ all =
    ap (λ (xs : List Out). before ++ xs) c.write_until_row-at.ensures.effect
    ∙ outs_more any_cut c.args.emu.now c.loop-n.emu at m text c.loop-n.invariant.screen in
    let above : List (List Cell) = rows_of_run c.args.emu.now (take at text) in
    let fell : List (List Cell) = c.write_until_row-at.new.rows in
    let out : above ++ fell ≡ rows_of_run c.args.emu.now (take (at + m) text) =
    ap (λ (rows : List (List Cell)). above ++ rows) c.write_until_row-at.ensures.rows
    ∙ rows_more any_row_cut c.args.emu.now c.loop-n.emu at m text c.loop-n.invariant.screen in
    record {
      within = omega (arith, c.write_until_row-at.ensures.within, length-drop at text);
      full =
          omega (
            arith,
            c.loop-n-test.true,
            c.put_effect-n.ensures.one,
            c.put_effect-n.ensures.size,
          );
      size = c.put_effect-n.ensures.size ∙ c.loop-n.invariant.size;
      screen =
          c.write_until_row-at.ensures.screen
          ∙ screen_more any_cut c.args.emu.now c.loop-n.emu at m text c.loop-n.invariant.screen;
      first =
          room_more any_cut c.args.emu.now c.loop-n.emu at m (length start) text c.loop-n.invariant.screen
          (omega (arith, c.loop-n-test.true, c.loop-n.invariant.count, c.loop-n.invariant.size)) c.loop-n.invariant.first
          c.write_until_row-at.ensures.first;
      count = count_more before more all n k c.loop-n.invariant.count c.put_effect-n.ensures.count whole;
      places =
          c.put_effect-n.ensures.places
          ∙ places_more before more all start c.loop-n.places n c.loop-n.invariant.count c.loop-n.invariant.places whole
          ∙ ap (λ (j : ℕ). map c_out all ++ drop (n + j) start) (sym c.put_effect-n.ensures.count);
      room =
          rows_room_more any_row_cut c.args.emu.now c.loop-n.emu at m c.args.most text c.loop-n.invariant.screen
          (omega (arith, c.if-left-ge2.true, c.loop-n.invariant.rows)) c.loop-n.invariant.room
          c.write_until_row-at.ensures.no_loss;
      cols = c.write_until_row-at.ensures.cols ∙ c.loop-n.invariant.cols;
      wide =
          subst (AreWide c.args.emu.now.state.grid.cols) out
          (All-append (λ (row : List Cell). length row ≡ c.args.emu.now.state.grid.cols) above fell c.loop-n.invariant.wide
          (subst (λ (cols : ℕ). AreWide cols fell) c.loop-n.invariant.cols c.write_until_row-at.ensures.wide));
      rows =
          omega (
            arith,
            c.loop-n.invariant.rows,
            c.if-left-ge2.true,
            c.count-left.ensures.count,
            c.count-left.ensures.bound,
            length-append above fell,
            ap length out,
          );
      cells = λ (others : List VtCell).
          c.put_rows-filled.ensures others
          ∙ c.loop-n.invariant.cells (flat_map (map c_cell) fell ++ others)
          ∙ ap (λ (items : List VtCell). with_items items c.args.cells.now)
          (sym (append_assoc (flat_map (map c_cell) above) (flat_map (map c_cell) fell) others)
          ∙ ap (λ (items : List VtCell). items ++ others)
          (sym (flat_map-append (map c_cell) above fell) ∙ ap (flat_map (map c_cell)) out));
    }

pub returns : goal.returns
returns c = record {
  within = c.loop-n.invariant.within;
  screen = c.loop-n.invariant.screen;
  places = c.loop-n.invariant.places;
  count = c.loop-n.invariant.count;
  cells =
      sym (filled_none c.loop-n.filled c.loop-n.cells)
      ∙ c.loop-n.invariant.cells []
      ∙ ap (λ (items : List VtCell). with_items items c.args.cells.now) (append-nil _);
  rows = omega (arith, c.loop-n.invariant.rows);
  wide = c.loop-n.invariant.wide;
  size =
      cells_count c.args.emu.now.state.grid.cols (rows_of_run c.args.emu.now (take c.loop-n.at c.args.b.now)) c.loop-n.invariant.wide
      ∙ ap (λ (n : ℕ). n * c.args.emu.now.state.grid.cols)
      (let counted : length (rows_of_run c.args.emu.now (take c.loop-n.at c.args.b.now)) ≡ c.args.most - c.loop-n.left =
      omega (arith, c.loop-n.invariant.rows) in
      counted);
  all = λ room rows.
      let fits : c.args.most - c.loop-n.left + 2 ≤ c.args.most =
      subst (λ (n : ℕ). c.args.most - c.loop-n.left + 2 ≤ n) (sym c.requires) rows in
      elim c.loop-n-test.branch [
        | then-loop-n-test+then-at-b+else-left-ge2 w ↦ absurd (omega (arith, w.if-left-ge2.false, fits, c.loop-n.invariant.rows))
        | then-loop-n-test+else-at-b w ↦ omega (arith, w.if-at-b.false, c.loop-n.invariant.within)
        | else-loop-n-test w ↦ absurd (omega (arith, w.loop-n-test.false, room, c.loop-n.invariant.size))
      ];
  first = c.loop-n.invariant.first;
  room = λ k less. subst (λ (most : ℕ). length (rows_of_run c.args.emu.now (take k c.args.b.now)) + 2 ≤ most) c.requires (c.loop-n.invariant.room k less);
  spare = refl;
}
