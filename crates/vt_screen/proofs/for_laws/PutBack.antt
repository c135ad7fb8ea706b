-- The saved cursor is put back.
use Rattle.std.proofs.Common.{◌≡◌, ℕ, ◌-◌, ◌==◌, ◌&&◌, ◌||◌, ◌<◌, ◌≤◌, Bool, not, true, false, List, [], ◌∷◌, max, min, refl, ap, ◌∙◌, cond, arith}
use Rattle.std.specs.Prelude.{IsTrue}
use Rattle.std.specs.List.{list_all}
use Rattle.std.proofs.lemmas.Bool.{and_parts, both_ways, not-true}
use Rattle.vt_cells.specs.Width.{columns}
use Rattle.vt_screen.proofs.for_laws.InsideTable.{control_keeps, escape_keeps, private_keeps, sequence_keeps}
use Rattle.vt_screen.proofs.for_laws.Insides.{IsInside, coloured, colours_reset, printed_once}
use Rattle.vt_canvas.specs.Effect.{control_sequence, effect, private_sequence}
use Rattle.vt_screen.specs.Inside.{CursorIsInside}
use Rattle.vt_canvas.specs.Printing.{character_of_byte}
use Rattle.vt_screen.specs.SavedCursor.{RestorePutsBack, drawn_units, leaves_saved, saved_of}
use Rattle.vt_canvas.specs.Screen.{IsWhole, Screen}
use Rattle.vt_canvas.specs.Settings.{restore, save}
use Rattle.vt_canvas.specs.Cursor.{cursor_to}
use Rattle.vt_canvas.specs.declared.saved.Saved.{Saved}
use Rattle.vt_units.specs.declared.unit.Unit as units

-- what was saved, and the size, are still these
abbrev Still : Saved → ℕ → ℕ → Saved → ℕ → ℕ → Type 0
Still v r c saved rows cols = (saved ≡ v) × (rows ≡ r) × (cols ≡ c)

unit_keeps : (v : Saved) (r c : ℕ) (u : units.Unit) (s : Screen) → IsTrue (leaves_saved u) → IsInside (Still v r c) s → IsInside (Still v r c) (effect u s).screen
unit_keeps v r c (units.Unit.Char code) s leaves h = printed_once (Still v r c) (columns code) code s h
unit_keeps v r c (units.Unit.Byte x) s leaves h = printed_once (Still v r c) 1 (character_of_byte x s) s h
unit_keeps v r c (units.Unit.Control code) s leaves h = control_keeps (Still v r c) code s h
unit_keeps v r c (units.Unit.Esc mid last) s leaves h =
    escape_keeps (Still v r c) mid last s
    (λ e. absurd (both_ways (mid == 0 && last == 0x37) (not-true (mid == 0 && last == 0x37) ((and_parts (not (mid == 0 && last == 0x37)) (not (mid == 0 && last == 0x63)) leaves).0)) e))
    (λ e. absurd (both_ways (mid == 0 && last == 0x63) (not-true (mid == 0 && last == 0x63) ((and_parts (not (mid == 0 && last == 0x37)) (not (mid == 0 && last == 0x63)) leaves).1)) e)) h
unit_keeps v r c (units.Unit.Csi private params last) s leaves h = by private leaves
  where
    by : (test : Bool) → IsTrue (test || not (last == 0x73)) → IsInside (Still v r c) (cond test (private_sequence params last s) (control_sequence params last s)).screen
    by true k = private_keeps (Still v r c) params last s h
    by false k = sequence_keeps (Still v r c) params last s (λ e. absurd (both_ways (last == 0x73) (not-true (last == 0x73) k) e)) h
unit_keeps v r c (units.Unit.Colour n rgb) s leaves h = coloured (Still v r c) n rgb s h
unit_keeps v r c units.Unit.ColourReset s leaves h = colours_reset (Still v r c) s h
unit_keeps v r c units.Unit.Ignored s leaves h = h

units_keep : (v : Saved) (r c : ℕ) (us : List units.Unit) (s : Screen) → IsTrue (list_all leaves_saved us) → IsInside (Still v r c) s → IsInside (Still v r c) (drawn_units us s)
units_keep v r c [] s leaves h = h
units_keep v r c (u ∷ us) s leaves h =
    units_keep v r c us (effect u s).screen ((and_parts (leaves_saved u) (list_all leaves_saved us) leaves).1)
    (unit_keeps v r c u s ((and_parts (leaves_saved u) (list_all leaves_saved us) leaves).0) h)

-- a move to where the cursor may be goes there
there : (o : Bool) (top bottom rows y : ℕ) → y < rows → (IsTrue o → (top ≤ y) × (y ≤ bottom)) → max (cond o top 0) (min y (cond o bottom (rows - 1))) ≡ y
there true top bottom rows y h k = let low = (k refl).0 in let high = (k refl).1 in omega (arith, low, high)
there false top bottom rows y h k = omega arith

put_row : (t : Screen) → (restore t).state.y ≡ max (cond t.state.origin t.state.top 0) (min t.state.saved.y (cond t.state.origin t.state.bottom (t.grid.rows - 1)))
unfolding restore cursor_to
put_row t = refl

put_column : (t : Screen) → (restore t).state.x ≡ min t.state.saved.x (t.grid.cols - 1)
unfolding restore cursor_to
put_column t = refl

save_keeps : (s : Screen) → IsWhole s → CursorIsInside s → IsInside (Still (saved_of s) s.grid.rows s.grid.cols) (save s)
unfolding save IsInside
save_keeps s w c = (c.0, c.1, w.order, w.region, c.2, (refl, refl, refl))

pub restore_puts_back : RestorePutsBack
unfolding IsInside
restore_puts_back s us w c leaves origin top bottom =
    let t = drawn_units us (save s) in
    let h = units_keep (saved_of s) s.grid.rows s.grid.cols us (save s) leaves (save_keeps s w c) in
    let saved : t.state.saved ≡ saved_of s = (h.5).0 in
    let rows : t.grid.rows ≡ s.grid.rows = (h.5).1 in
    let cols : t.grid.cols ≡ s.grid.cols = (h.5).2 in
    let x = c.1 in (
      put_row t
          ∙ ap (λ o. max (cond o t.state.top 0) (min t.state.saved.y (cond o t.state.bottom (t.grid.rows - 1)))) origin
          ∙ ap (λ n. max (cond s.state.origin n 0) (min t.state.saved.y (cond s.state.origin t.state.bottom (t.grid.rows - 1)))) top
          ∙ ap (λ n. max (cond s.state.origin s.state.top 0) (min t.state.saved.y (cond s.state.origin n (t.grid.rows - 1)))) bottom
          ∙ ap (λ n. max (cond s.state.origin s.state.top 0) (min t.state.saved.y (cond s.state.origin s.state.bottom (n - 1)))) rows
          ∙ ap (λ (v : Saved). max (cond s.state.origin s.state.top 0) (min v.y (cond s.state.origin s.state.bottom (s.grid.rows - 1)))) saved
          ∙ there s.state.origin s.state.top s.state.bottom s.grid.rows s.state.y c.0 c.2,
      put_column t
          ∙ ap (λ (v : Saved). min v.x (t.grid.cols - 1)) saved
          ∙ ap (λ n. min s.state.x (n - 1)) cols
          ∙ (let e : min s.state.x (s.grid.cols - 1) ≡ s.state.x = omega (arith, x) in e),
    )
