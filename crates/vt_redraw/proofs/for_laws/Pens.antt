-- The text of the pen, of the tab stops and of the other modes.
use Rattle.std.proofs.Common.{◌≡◌, ℕ, zero, suc, ◌+◌, ◌-◌, ◌<◌, ◌≤◌, ◌||◌, Bool, not, true, false, List, [], ◌∷◌, ◌++◌, length, replicate, refl, sym, subst, ap, ◌∙◌, append_assoc, append-nil, arith}
use Rattle.std.specs.Prelude.{if◌then◌else◌}
use Rattle.std.proofs.lemmas.Bool.{cond-true, false≢true, lt-ltb}
use Rattle.std.proofs.lemmas.List.{length-append, set_at}
use Rattle.vt_redraw.proofs.Does.{Does, does_nothing, does_then, does_to}
use Rattle.vt_redraw.proofs.Moves.{at, autowrap_does, coding_does, column_does, cursor_keys_does, display_does, insert_does, keypad_does, newline_does, repeat_does, reversed_does, stop_does, tables_does, visible_does}
use Rattle.vt_redraw.proofs.Numbers.{sequence_does}
use Rattle.vt_redraw.proofs.Paints.{attributes_does, bg_number, fg_number}
use Rattle.vt_redraw.specs.Sequences.{sequence, stop_text}
use Rattle.vt_redraw.specs.State.{colours_text, mapping_text, modes_text, pen_text, stops_from}
use Rattle.vt_canvas.specs.Cursor.{first_row, last_row}
use Rattle.vt_canvas.specs.Effect.{control_sequence}
use Rattle.vt_canvas.specs.Saying.{console_setting, without_out, with_dim_colour, with_underline_colour}
use Rattle.vt_canvas.specs.Screen.{Screen, with_state}
use Rattle.vt_canvas.specs.Settings.{after_sgr, set_stop, with_pen}
use Rattle.vt_canvas.specs.declared.screen_state.ScreenState.{ScreenState}
use Rattle.vt_sgr.specs.PenState.{PenState, with_mapping, with_bg, with_fg}
use Rattle.vt_units.specs.Laws.{ControlsAreUnits, SequencesAreUnits}

module _ (law : SequencesAreUnits) where
  underline-colour-does : (n : ℕ) → n < 16 → (s : Screen) → Does (sequence 1 (n ∷ []) 0x5D) s (with_underline_colour n s)
  unfolding control_sequence console_setting
  underline-colour-does n h s =
      sequence_does law 1 (n ∷ []) 0x5D (omega arith) (omega (arith, h), tt) (omega arith) refl refl s _
      (ap without_out (cond-true _ _ _ (lt-ltb n 16 h)))

  dim-colour-does : (n : ℕ) → n < 16 → (s : Screen) → Does (sequence 2 (n ∷ []) 0x5D) s (with_dim_colour n s)
  unfolding control_sequence console_setting
  dim-colour-does n h s =
      sequence_does law 2 (n ∷ []) 0x5D (omega arith) (omega (arith, h), tt) (omega arith) refl refl s _
      (ap without_out (cond-true _ _ _ (lt-ltb n 16 h)))

  pub pair_does : (f g : ℕ) → f < 8 → g < 8 → (s : Screen)
      → Does (sequence (30 + f) ((40 + g) ∷ []) 0x6D) s (with_pen s (with_bg (with_fg s.state.pen f) g))
  unfolding control_sequence after_sgr
  pair_does f g low high s =
      sequence_does law (30 + f) ((40 + g) ∷ []) 0x6D (omega (arith, low)) (omega (arith, high), tt) (omega arith) refl refl s _
      (ap (λ (p : PenState). without_out (with_pen s p))
      (fg_number f low ((40 + g) ∷ []) s.state.pen ∙ bg_number g high [] (with_fg s.state.pen f)))

  default-does : (s : Screen)
      → Does (sequence 8 [] 0x5D) s
      (with_pen s (record s.state.pen { def_fg = s.state.pen.attr.fg; def_bg = s.state.pen.attr.bg }))
  unfolding control_sequence console_setting
  default-does s = sequence_does law 8 [] 0x5D (omega arith) tt (omega arith) refl refl s _ refl

  -- the colours of a pen
  colours-do : (p : PenState) → p.look.ul < 16 → p.look.dim < 16 → p.def_fg < 8 → p.def_bg < 8 → (s : Screen)
      → Does (colours_text p) s
      (with_pen s
      (record s.state.pen {
        attr = record s.state.pen.attr { fg = p.def_fg; bg = p.def_bg };
        look = p.look;
        def_fg = p.def_fg;
        def_bg = p.def_bg;
      }))
  colours-do p ul dim fg bg s =
      does_then (underline-colour-does p.look.ul ul s)
      (does_then (dim-colour-does p.look.dim dim _)
      (does_then (pair_does p.def_fg p.def_bg fg bg _)
      (default-does _)))

  -- the null mapping, which is off before
  mapping-does : (alt toggle : Bool) → (not toggle || alt) ≡ true → (s : Screen)
      → Does (mapping_text alt toggle) (with_pen s (with_mapping s.state.pen false false false))
      (with_pen s (with_mapping s.state.pen alt alt toggle))
  unfolding mapping_text control_sequence after_sgr
  mapping-does true true h s = sequence_does law 12 [] 0x6D (omega arith) tt (omega arith) refl refl _ _ refl
  mapping-does true false h s = sequence_does law 11 [] 0x6D (omega arith) tt (omega arith) refl refl _ _ refl
  mapping-does false true h s = absurd (false≢true h)
  mapping-does false false h s = does_nothing _

  -- the modes that are left
  pub modes_do : (v : ScreenState) (s : Screen)
      → Does (modes_text v) s
      (with_state s
      (record s.state {
        insert = v.insert;
        newline = v.newline;
        cursor = v.cursor;
        reverse = v.reverse;
        autowrap = v.autowrap;
        repeat = v.repeat;
        visible = v.visible;
        keypad = v.keypad;
        utf8 = v.utf8;
      }))
  modes_do v s =
      does_then (insert_does law v.insert s)
      (does_then (newline_does law v.newline _)
      (does_then (cursor_keys_does law v.cursor _)
      (does_then (reversed_does law v.reverse _)
      (does_then (autowrap_does law v.autowrap _)
      (does_then (repeat_does law v.repeat _)
      (does_then (visible_does law v.visible _)
      (does_then (keypad_does law v.keypad _)
      (coding_does law v.utf8 _))))))))

-- the colours and flags that a text can make
pub record IsPen (v : ScreenState) : Type 0 where
  pub ul : v.pen.look.ul < 16
  pub dim : v.pen.look.dim < 16
  pub def_fg : v.pen.def_fg < 8
  pub def_bg : v.pen.def_bg < 8
  pub fg : v.pen.attr.fg < 8
  pub bg : v.pen.attr.bg < 8
  pub g0 : v.g0 < 4
  pub g1 : v.g1 < 4
  pub shift : v.shift ≤ 1
  pub toggle : (not v.pen.toggle || v.pen.alt) ≡ true

pub pen_does : SequencesAreUnits → ControlsAreUnits → (v : ScreenState) → IsPen v → (s : Screen)
    → Does (pen_text v) s (with_state s (record s.state { pen = v.pen; g0 = v.g0; g1 = v.g1; shift = v.shift }))
pen_does sequences controls v is s =
    let coloured : Screen = with_pen s (record s.state.pen { attr = v.pen.attr; look = v.pen.look; def_fg = v.pen.def_fg; def_bg = v.pen.def_bg }) in
    let tabled : Screen = with_state coloured (record coloured.state { g0 = v.g0; g1 = v.g1; shift = v.shift }) in
    does_then (colours-do sequences v.pen is.ul is.dim is.def_fg is.def_bg s)
    (does_then {t = coloured} (attributes_does sequences v.pen.attr is.fg is.bg _)
    (does_then (tables_does sequences controls v.g0 v.g1 v.shift is.g0 is.g1 is.shift coloured)
    (does_then (mapping-does sequences v.pen.alt v.pen.toggle is.toggle tabled)
    (display_does sequences v.pen.display _))))

-- after the tab stops of some columns
pub record StopsDone (s : Screen) (stops : List Bool) (text : List ℕ) (from : Screen) : Type 0 where
  pub x : ℕ
  pub wrap : Bool
  pub does : Does text from (with_state s (record s.state { x = x; wrap = wrap; stops = stops }))

-- the cursor somewhere in its row, and these tab stops
abbrev pub stopped : Screen → ℕ → Bool → List Bool → Screen
stopped s x wrap stops = with_state s (record s.state { x = x; wrap = wrap; stops = stops })

-- the text of a stop comes first
stop_first : {s : Screen} {stops : List Bool} {one two : List ℕ} {from next : Screen} → Does one from next
    → StopsDone s stops two next → StopsDone s stops (one ++ two) from
stop_first one two = record { x = two.x; wrap = two.wrap; does = does_then one two.does }

module _ (law : SequencesAreUnits) (s : Screen) (low : first_row s ≤ s.state.y) (high : s.state.y ≤ last_row s) where
  -- a stop in a column
  one-stop : (x : ℕ) (wrap : Bool) (front more : List Bool) → length front < s.grid.cols → length front < 255
      → Does (sequence (length front + 1) [] 0x47 ++ stop_text) (stopped s x wrap (front ++ false ∷ more))
      (stopped s (length front) false (front ++ true ∷ more))
  unfolding set_stop
  one-stop x wrap front more within few =
      let from : Screen = stopped s x wrap (front ++ false ∷ more) in
      does_then (column_does law from (length front) low high within few)
      (does_to (stop_does law (at s.state.y (length front) from))
      (ap (stopped s (length front) false) (set_at front false more true (length front) refl)))

  pub stops_do : (todo : List Bool) (x : ℕ) (wrap : Bool) (front : List Bool) (n : ℕ) → length front + length todo ≤ s.grid.cols
      → length front + length todo ≤ 255 → length todo ≤ n
      → StopsDone s ((front ++ todo) ++ replicate (n - length todo) false) (stops_from (length front) todo)
      (stopped s x wrap (front ++ replicate n false))
  stops_do [] x wrap front n within few left = record {
    x = x;
    wrap = wrap;
    does =
        does_to (does_nothing (stopped s x wrap (front ++ replicate n false)))
        (ap (λ (k : ℕ). stopped s x wrap (front ++ replicate k false)) (let e : n ≡ n - 0 = omega arith in e)
        ∙ ap (λ (stops : List Bool). stopped s x wrap (stops ++ replicate (n - 0) false)) (sym (append-nil front)));
  }
  stops_do (stop ∷ todo) x wrap front zero within few left = absurd (omega (arith, left))
  stops_do (stop ∷ todo) x wrap front (suc m) within few left =
      by stop (λ (y : ℕ) (w : Bool).
      same y w (stops_do todo y w (front ++ stop ∷ []) m (omega (arith, longer, within)) (omega (arith, longer, few)) (omega (arith, left))))
    where
      longer : length (front ++ stop ∷ []) ≡ length front + 1
      longer = length-append front (stop ∷ [])

      Next : Bool → ℕ → Bool → Type 0
      Next b y w =
          StopsDone s ((front ++ b ∷ todo) ++ replicate (suc m - length (b ∷ todo)) false) (stops_from (length front + 1) todo)
          (stopped s y w (front ++ b ∷ replicate m false))

      same : (y : ℕ) (w : Bool)
          → StopsDone s (((front ++ stop ∷ []) ++ todo) ++ replicate (m - length todo) false)
          (stops_from (length (front ++ stop ∷ [])) todo) (stopped s y w ((front ++ stop ∷ []) ++ replicate m false))
          → Next stop y w
      same y w done =
          let fewer : m - length todo ≡ suc m - length (stop ∷ todo) = omega arith in
          subst (λ (stops : List Bool). StopsDone s (stops ++ replicate (suc m - length (stop ∷ todo)) false) (stops_from (length front + 1) todo) (stopped s y w (front ++ stop ∷ replicate m false)))
          (append_assoc front (stop ∷ []) todo)
          (subst (λ (k : ℕ). StopsDone s (((front ++ stop ∷ []) ++ todo) ++ replicate k false) (stops_from (length front + 1) todo) (stopped s y w (front ++ stop ∷ replicate m false)))
          fewer
          (subst (λ (k : ℕ). StopsDone s (((front ++ stop ∷ []) ++ todo) ++ replicate (m - length todo) false) (stops_from k todo) (stopped s y w (front ++ stop ∷ replicate m false)))
          longer
          (subst (λ (stops : List Bool). StopsDone s (((front ++ stop ∷ []) ++ todo) ++ replicate (m - length todo) false) (stops_from (length (front ++ stop ∷ [])) todo) (stopped s y w stops))
          (append_assoc front (stop ∷ []) (replicate m false)) done)))

      by : (b : Bool) → ((y : ℕ) (w : Bool) → Next b y w)
          → StopsDone s ((front ++ b ∷ todo) ++ replicate (suc m - length (b ∷ todo)) false)
          ((if b then sequence (length front + 1) [] 0x47 ++ stop_text else []) ++ stops_from (length front + 1) todo)
          (stopped s x wrap (front ++ false ∷ replicate m false))
      by false next = next x wrap
      by true next =
          stop_first (one-stop x wrap front (replicate m false) (omega (arith, within)) (omega (arith, few))) (next (length front) false)
