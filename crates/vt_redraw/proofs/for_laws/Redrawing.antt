-- The whole text draws a screen again.
use Rattle.std.proofs.Common.{◌≡◌, ◌⊎◌, inl, inr, ℕ, ◌+◌, ◌-◌, ◌<◌, ◌≤◌, ◌==◌, ◌||◌, leb, nat_lt, not, Bool, true, false, List, [], ◌++◌, length, take, replicate, refl, sym, subst, ap, append_assoc, arith}
use Rattle.std.specs.Prelude.{All, IsTrue}
use Rattle.std.specs.List.{list_all}
use Rattle.std.proofs.lemmas.Bool.{and_parts, cond-false, eqb-true, false≢true, leb-true, ltb-true, or_cases}
use Rattle.std.proofs.lemmas.List.{length-replicate, length-take-le}
use Rattle.std.proofs.lemmas.List.Elements.{All-replicate}
use Rattle.vt_cells.specs.Colours.{Rgb}
use Rattle.vt_cells.specs.Rendition.{Rendition}
use Rattle.vt_cells.specs.Width.{AtMostTwo}
use Rattle.vt_cells.specs.declared.cell.Cell.{Cell}
use Rattle.vt_chars.specs.Utf8.{within}
use Rattle.vt_grid.specs.Grid.{IsFull, GridView, filled_grid, grid_view_of}
use Rattle.vt_redraw.proofs.Does.{Does, does_text, does_then, does_to}
use Rattle.vt_redraw.proofs.Moves.{no_stops_does}
use Rattle.vt_redraw.proofs.for_laws.Palettes.{palette_does}
use Rattle.vt_redraw.proofs.for_laws.Pens.{IsPen, StopsDone, modes_do, pen_does, stopped, stops_do}
use Rattle.vt_redraw.proofs.Prints.{Brush, IsReady, brushed}
use Rattle.vt_redraw.proofs.Sheets.{SheetDone, rows-do}
use Rattle.vt_redraw.proofs.for_laws.States.{CursorDone, clearing_does, cursor_does, regions_do, saved_does, setting_does, settled, settled_row}
use Rattle.vt_redraw.specs.Cells.{changed_rows}
use Rattle.vt_redraw.specs.Drawable.{is_plain_pair, is_redrawable, is_row_drawable, is_state_drawable}
use Rattle.vt_redraw.specs.Redraw.{ChangesRedraw, IsSameSize, IsStored, ScreensRedraw, changes_of, redraw_of, redrawn_on}
use Rattle.vt_redraw.specs.State.{cursor_text, modes_text, palette_text, pen_text, region_text, saved_text, state_text, stops_from, stops_text}
use Rattle.vt_canvas.specs.Cursor.{first_row, cursor_home, last_row, cursor_to, cursor_to_in_region}
use Rattle.vt_canvas.specs.Erasing.{with_grid}
use Rattle.vt_screen.specs.Run.{PiecesAct}
use Rattle.vt_canvas.specs.Screen.{IsWhole, Screen, start_blank, with_state}
use Rattle.vt_canvas.specs.declared.screen_state.ScreenState.{ScreenState}
use Rattle.vt_sgr.specs.PenState.{with_attributes as with_attr, with_mapping}
use Rattle.vt_units.specs.Laws.{ControlsAreUnits, PrintablesAreCharacters, SequencesAreUnits}

-- what makes a state drawable
pub record IsState (rows cols : ℕ) (v : ScreenState) : Type 0 where
  pub fg : v.pen.attr.fg < 8
  pub bg : v.pen.attr.bg < 8
  pub saved_fg : v.saved.attr.fg < 8
  pub saved_bg : v.saved.attr.bg < 8
  pub def_fg : v.pen.def_fg < 8
  pub def_bg : v.pen.def_bg < 8
  pub saved_row : v.saved.y < rows
  pub saved_column : v.saved.x < cols
  pub region : (v.top < v.bottom) ⊎ (rows ≡ 1)
  pub inside : IsTrue v.origin → (v.top ≤ v.y) × (v.y ≤ v.bottom)
  pub toggle : (not v.pen.toggle || v.pen.alt) ≡ true

pub state_parts : (rows cols : ℕ) (v : ScreenState) → is_state_drawable rows cols v ≡ true → IsState rows cols v
unfolding is_state_drawable
state_parts rows cols v is =
    let p9 = and_parts _ (not v.pen.toggle || v.pen.alt) is in
    let p8 = and_parts _ (not v.origin || within v.top v.bottom v.y) p9.0 in
    let p7 = and_parts _ (nat_lt v.top v.bottom || rows == 1) p8.0 in
    let p6 = and_parts _ (nat_lt v.saved.x cols) p7.0 in
    let p5 = and_parts _ (nat_lt v.saved.y rows) p6.0 in
    let p4 = and_parts _ (nat_lt v.pen.def_bg 8) p5.0 in
    let p3 = and_parts _ (nat_lt v.pen.def_fg 8) p4.0 in
    let p2 = and_parts (is_plain_pair v.pen.attr) (is_plain_pair v.saved.attr) p3.0 in
    let pen = and_parts (nat_lt v.pen.attr.fg 8) (nat_lt v.pen.attr.bg 8) p2.0 in
    let saved = and_parts (nat_lt v.saved.attr.fg 8) (nat_lt v.saved.attr.bg 8) p2.1 in
    record {
      fg = ltb-true v.pen.attr.fg 8 pen.0;
      bg = ltb-true v.pen.attr.bg 8 pen.1;
      saved_fg = ltb-true v.saved.attr.fg 8 saved.0;
      saved_bg = ltb-true v.saved.attr.bg 8 saved.1;
      def_fg = ltb-true v.pen.def_fg 8 p3.1;
      def_bg = ltb-true v.pen.def_bg 8 p4.1;
      saved_row = ltb-true v.saved.y rows p5.1;
      saved_column = ltb-true v.saved.x cols p6.1;
      region = elim (or_cases (nat_lt v.top v.bottom) (rows == 1) p7.1) [
        | inl order ↦ inl (ltb-true v.top v.bottom order)
        | inr one ↦ inr (eqb-true rows 1 one)
      ];
      inside = λ on. between v.origin on (and_tail v.origin p8.1);
      toggle = p9.1;
    }
  where
    and_tail : (o : Bool) → (not o || within v.top v.bottom v.y) ≡ true → o ≡ true → within v.top v.bottom v.y ≡ true
    and_tail true h on = h
    and_tail false h on = absurd (false≢true on)

    between : (o : Bool) → o ≡ true → (o ≡ true → within v.top v.bottom v.y ≡ true) → (v.top ≤ v.y) × (v.y ≤ v.bottom)
    between o on h =
        let parts = and_parts (leb v.top v.y) (leb v.y v.bottom) (h on) in
        (leb-true v.top v.y parts.0, leb-true v.y v.bottom parts.1)

-- the state after what is saved, after the cursor, and after all
saved_stage : ScreenState → List Bool → Screen → Screen
saved_stage v stops t =
    with_state t
    (record t.state {
      y = v.saved.y;
      x = v.saved.x;
      wrap = false;
      stops = stops;
      g0 = v.saved.g0;
      g1 = v.saved.g1;
      shift = v.saved.shift;
      pen = with_mapping (with_attr t.state.pen v.saved.attr) false false false;
      saved = v.saved;
    })

cursor_stage : ScreenState → Rendition → Screen → Screen
cursor_stage v a t =
    with_state t
    (record t.state {
      y = v.y;
      x = v.x;
      wrap = v.wrap;
      top = v.top;
      bottom = v.bottom;
      origin = v.origin;
      pen = with_attr t.state.pen a;
    })

last_stage : ScreenState → Screen → Screen
last_stage v t =
    with_state t
    (record t.state {
      pen = v.pen;
      g0 = v.g0;
      g1 = v.g1;
      shift = v.shift;
      palette = v.palette;
      insert = v.insert;
      newline = v.newline;
      cursor = v.cursor;
      reverse = v.reverse;
      autowrap = v.autowrap;
      repeat = v.repeat;
      visible = v.visible;
      keypad = v.keypad;
      utf8 = v.utf8;
    })

regrouped : (a b c : List ℕ) (s t : Screen) → Does ((a ++ b) ++ c) s t → Does (a ++ (b ++ c)) s t
regrouped a b c s t one = does_text (sym (append_assoc a b c)) one

-- the cursor and the region are set
record CursorSet (v : ScreenState) (text : List ℕ) (t : Screen) : Type 0 where
  attr : Rendition
  does : Does text t (cursor_stage v attr t)

module _ (sequences : SequencesAreUnits) (controls : ControlsAreUnits) (printables : PrintablesAreCharacters) (most : AtMostTwo) (pieces : PiecesAct) where
  last-does : (v : ScreenState) → IsPen v → length v.palette ≡ 16
      → All (λ (rgb : Rgb). (rgb.0 < 256) × (rgb.1 < 256) × (rgb.2 < 256)) v.palette → (t : Screen)
      → Does (pen_text v ++ (palette_text v.palette ++ modes_text v)) t (last_stage v t)
  unfolding last_stage
  last-does v pen count parts t =
      let u : Screen = with_state t (record t.state { pen = v.pen; g0 = v.g0; g1 = v.g1; shift = v.shift }) in
      let w : Screen = with_state t (record t.state { pen = v.pen; g0 = v.g0; g1 = v.g1; shift = v.shift; palette = v.palette }) in
      does_then {t = u} (pen_does sequences controls v pen t)
      (does_then {t = w} (palette_does pieces v.palette count parts u) (modes_do sequences v w))

  saved-part : (v : ScreenState) (t : Screen) → t.state.origin ≡ false → t.state.y < t.grid.rows → t.grid.rows ≤ 255
      → t.grid.cols ≤ 255 → length v.stops ≡ 255 → v.saved.attr.fg < 8 → v.saved.attr.bg < 8 → v.saved.g0 < 4
      → v.saved.g1 < 4 → v.saved.shift ≤ 1 → v.saved.y < t.grid.rows → v.saved.x < t.grid.cols
      → Does (stops_text t.grid.cols v.stops ++ saved_text v.saved) t
      (saved_stage v (take t.grid.cols v.stops ++ replicate (255 - t.grid.cols) false) t)
  unfolding saved_stage
  saved-part v t origin row rows cols length_is fg bg g0 g1 shift saved_row saved_column =
      let todo : List Bool = take t.grid.cols v.stops in
      let many : length todo ≡ t.grid.cols = length-take-le t.grid.cols v.stops (omega (arith, length_is, cols)) in
      let first : first_row t ≡ 0 = cond-false t.state.origin t.state.top 0 origin in
      let last : last_row t ≡ t.grid.rows - 1 = cond-false t.state.origin t.state.bottom (t.grid.rows - 1) origin in
      let done : StopsDone t (todo ++ replicate (255 - length todo) false) (stops_from 0 todo) (stopped t t.state.x t.state.wrap (replicate 255 false)) =
      stops_do sequences t (omega (arith, first)) (omega (arith, last, row)) todo t.state.x t.state.wrap [] 255 (omega (arith, many)) (omega (arith, many, cols)) (omega (arith, many, cols)) in
      let stops : List Bool = todo ++ replicate (255 - t.grid.cols) false in
      let u : Screen = stopped t done.x done.wrap stops in
      does_then {t = u}
      (does_then (no_stops_does sequences t)
      (does_to done.does (ap (λ (n : ℕ). stopped t done.x done.wrap (todo ++ replicate (255 - n) false)) many)))
      (saved_does sequences controls v.saved u origin fg bg g0 g1 shift saved_row saved_column rows cols)

  cursor-part : (v : ScreenState) (t : Screen) → IsReady t → IsFull t.grid → list_all is_row_drawable t.grid.cells ≡ true
      → (v.top < v.bottom) ⊎ ((v.top ≡ t.state.top) × (v.bottom ≡ t.state.bottom) × (v.bottom ≤ v.top))
      → v.bottom < t.grid.rows → v.y < t.grid.rows → v.x < t.grid.cols → (IsTrue v.wrap → v.x + 1 ≡ t.grid.cols)
      → (IsTrue v.origin → (v.top ≤ v.y) × (v.y ≤ v.bottom)) → t.grid.rows ≤ 255 → t.grid.cols ≤ 255
      → CursorSet v (region_text v ++ cursor_text (record { grid = t.grid; state = v })) t
  unfolding cursor_stage cursor_to_in_region cursor_to
  cursor-part v t ready full drawable region bottom row column wrapped inside rows cols =
      let u : Screen = cursor_home (with_state t (record t.state { top = v.top; bottom = v.bottom; origin = v.origin })) in
      let ready_then : IsReady u =
      record { utf8 = ready.utf8; display = ready.display; insert = ready.insert; autowrap = ready.autowrap } in
      let cursor : CursorDone v (cursor_text (record { grid = t.grid; state = v })) u =
      cursor_does sequences printables most v u ready_then full drawable refl refl refl row column wrapped inside rows cols in
      record {
        attr = cursor.attr;
        does = does_then {t = u} (regions_do sequences controls v t region bottom rows) cursor.does;
      }

  -- the screen in the modes that rows are drawn in, with these cells and this brush
  first-stage : Screen → GridView → Brush → Screen
  first-stage other g b = brushed (with_grid (settled other) g) b

  stages : (s other : Screen) (b : Brush) (a : Rendition)
      → last_stage s.state (cursor_stage s.state a (saved_stage s.state (take s.grid.cols s.state.stops ++ replicate (255 - s.grid.cols) false) (first-stage other s.grid b)))
      ≡ redrawn_on other s
  unfolding first-stage saved_stage cursor_stage last_stage
  stages s other b a = refl

  module _ (s other : Screen) (stored : IsStored s) (whole : IsWhole other) (same : IsSameSize other.grid s.grid)
      (rows_drawable : list_all is_row_drawable s.grid.cells ≡ true) (state : IsState s.grid.rows s.grid.cols s.state) where
    region-of : (s.state.top < s.state.bottom) ⊎ ((s.state.top ≡ other.state.top) × (s.state.bottom ≡ other.state.bottom) × (s.state.bottom ≤ s.state.top))
    region-of = elim state.region [
      | inl order ↦ inl order
      | inr one ↦
          let w = stored.whole in
          inr (omega (arith, one, w.order, w.region, whole.order, whole.region, same.0), omega (arith, one, w.order, w.region, whole.order, whole.region, same.0), omega (arith, one, w.order, w.region))
    ]

    pen-of : IsPen s.state
    pen-of = record {
      ul = stored.look.0;
      dim = stored.look.1;
      def_fg = state.def_fg;
      def_bg = state.def_bg;
      fg = state.fg;
      bg = state.bg;
      g0 = stored.whole.tables.0;
      g1 = stored.whole.tables.1;
      shift = stored.whole.invoked;
      toggle = state.toggle;
    }

    saved-of : (b : Brush) → b.y < s.grid.rows
        → Does (stops_text s.grid.cols s.state.stops ++ saved_text s.state.saved) (first-stage other s.grid b)
        (saved_stage s.state (take s.grid.cols s.state.stops ++ replicate (255 - s.grid.cols) false) (first-stage other s.grid b))
    unfolding first-stage
    saved-of b row =
        let w = stored.whole in
        saved-part s.state (brushed (with_grid (settled other) s.grid) b) refl row stored.rows stored.cols stored.stops state.saved_fg state.saved_bg
        w.saved_tables.0 w.saved_tables.1 w.saved_shift state.saved_row state.saved_column

    cursor-of : (stops : List Bool) (b : Brush)
        → CursorSet s.state (region_text s.state ++ cursor_text s) (saved_stage s.state stops (first-stage other s.grid b))
    unfolding first-stage saved_stage
    cursor-of stops b =
        let w = stored.whole in
        cursor-part s.state (saved_stage s.state stops (first-stage other s.grid b)) (record { utf8 = refl; display = refl; insert = refl; autowrap = refl })
        w.full rows_drawable region-of w.region w.row w.column w.wrapped state.inside stored.rows stored.cols

    -- the state, whatever the brush is
    state-of : (b : Brush) → b.y < s.grid.rows → Does (state_text s) (first-stage other s.grid b) (redrawn_on other s)
    state-of b row =
        let v : ScreenState = s.state in
        let stops : List Bool = take s.grid.cols v.stops ++ replicate (255 - s.grid.cols) false in
        let t0 : Screen = first-stage other s.grid b in
        let t1 : Screen = saved_stage v stops t0 in
        let cursor : CursorSet v (region_text v ++ cursor_text s) t1 = cursor-of stops b in
        let t2 : Screen = cursor_stage v cursor.attr t1 in
        let last : List ℕ = pen_text v ++ (palette_text v.palette ++ modes_text v) in
        let behind : Does (region_text v ++ (cursor_text s ++ last)) t1 (last_stage v t2) =
        regrouped (region_text v) (cursor_text s) last t1 (last_stage v t2)
        (does_then {t = t2} cursor.does (last-does v pen-of stored.colours stored.parts t2)) in
        does_to
        (regrouped (stops_text s.grid.cols v.stops) (saved_text v.saved) (region_text v ++ (cursor_text s ++ last)) t0 (last_stage v t2)
        (does_then {t = t1} (saved-of b row) behind))
        (stages s other b cursor.attr)

    -- the rows that differ, and the state
    rest-of : (olds : List (List Cell)) (b : Brush) → b.y < other.grid.rows → All (λ row. length row ≡ other.grid.cols) olds
        → length olds ≡ other.grid.rows
        → Does (changed_rows 0 olds s.grid.cells ++ state_text s)
        (brushed (with_grid (settled other) (grid_view_of other.grid.rows other.grid.cols olds)) b) (redrawn_on other s)
    unfolding first-stage
    rest-of olds b row wide tall =
        let full = stored.whole.full in
        let news : All (λ row. length row ≡ other.grid.cols) s.grid.cells =
        subst (λ (n : ℕ). All (λ row. length row ≡ n) s.grid.cells) (sym same.1) full.wide in
        let some : 0 < other.grid.cols = omega (arith, whole.column) in
        let done : SheetDone (settled other) (grid_view_of other.grid.rows other.grid.cols s.grid.cells) (changed_rows 0 olds s.grid.cells)
        (brushed (with_grid (settled other) (grid_view_of other.grid.rows other.grid.cols olds)) b) =
        rows-do (settled other) (record { utf8 = refl; display = refl; insert = refl; autowrap = refl }) refl sequences printables most
        other.grid.rows other.grid.cols some (omega (arith, same.1, stored.cols)) (omega (arith, same.0, stored.rows)) [] olds s.grid.cells b row wide news rows_drawable
        (omega (arith, tall, full.tall, same.0)) (omega (arith, full.tall, same.0)) in
        let grid : grid_view_of other.grid.rows other.grid.cols s.grid.cells ≡ s.grid = λ i. grid_view_of (same.0 i) (same.1 i) s.grid.cells in
        does_then (does_to done.does (ap (λ (g : GridView). brushed (with_grid (settled other) g) done.brush) grid))
        (state-of done.brush (omega (arith, done.row, same.0)))

    first-brush : Brush
    first-brush = record { y = (cursor_home (settled other)).state.y; x = (cursor_home (settled other)).state.x; wrap = false; attr = other.state.pen.attr }

    changes-do : Does (changes_of other.grid s) other (redrawn_on other s)
    unfolding changes_of first-brush
    changes-do =
        does_then (setting_does sequences controls other)
        (rest-of other.grid.cells first-brush (settled_row sequences controls other (omega (arith, whole.row))) whole.full.wide whole.full.tall)

    redraw-does : Does (redraw_of s) other (redrawn_on other s)
    unfolding redraw_of first-brush
    redraw-does =
        let blanks : (filled_grid s.grid.rows s.grid.cols start_blank).cells ≡ replicate other.grid.rows (replicate other.grid.cols start_blank) =
        λ i. replicate (sym same.0 i) (replicate (sym same.1 i) start_blank) in
        does_then (setting_does sequences controls other)
        (does_then (clearing_does sequences controls (settled other) first-brush whole.full)
        (does_text (ap (λ (olds : List (List Cell)). changed_rows 0 olds s.grid.cells ++ state_text s) blanks)
        (rest-of (replicate other.grid.rows (replicate other.grid.cols start_blank))
        (record { y = first-brush.y; x = first-brush.x; wrap = false; attr = record first-brush.attr { fg = 7; bg = 0 } })
        (settled_row sequences controls other (omega (arith, whole.row)))
        (All-replicate (λ (row : List Cell). length row ≡ other.grid.cols) other.grid.rows (replicate other.grid.cols start_blank) (length-replicate other.grid.cols start_blank))
        (length-replicate other.grid.rows (replicate other.grid.cols start_blank)))))

  pub screens-redraw : ScreensRedraw
  unfolding is_redrawable
  screens-redraw s other stored whole same is =
      let parts = and_parts (list_all is_row_drawable s.grid.cells) (is_state_drawable s.grid.rows s.grid.cols s.state) is in
      let done = redraw-does s other stored whole same parts.0 (state_parts s.grid.rows s.grid.cols s.state parts.1) in
      record { again = λ m. done.does m }

  pub changes-redraw : ChangesRedraw
  unfolding is_redrawable
  changes-redraw s other stored whole same is =
      let parts = and_parts (list_all is_row_drawable s.grid.cells) (is_state_drawable s.grid.rows s.grid.cols s.state) is in
      let done = changes-do s other stored whole same parts.0 (state_parts s.grid.rows s.grid.cols s.state parts.1) in
      record { again = λ m. done.does m }
