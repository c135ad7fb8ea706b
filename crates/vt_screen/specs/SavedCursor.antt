-- The cursor that ESC 7 saves and ESC 8 puts back (console_codes(4)).
use Rattle.std.specs.Prelude.{◌≡◌, Bool, true, ◌==◌, ◌&&◌, ◌||◌, not, IsTrue, List, [], ◌∷◌}
use Rattle.std.specs.List.{list_all}
use Rattle.vt_canvas.specs.Effect.{effect}
use Rattle.vt_screen.specs.Inside.{CursorIsInside}
use Rattle.vt_canvas.specs.Screen.{IsWhole, Screen}
use Rattle.vt_canvas.specs.Settings.{restore, save}
use Rattle.vt_canvas.specs.declared.saved.Saved.{Saved}
use Rattle.vt_units.specs.declared.unit.Unit as units
use Rattle.vt_units.specs.declared.unit.Unit.TheVariants.{Char, Byte, Control, Esc, Csi, Colour, ColourReset, Ignored}

-- the saved part of a screen
abbrev pub saved_of : Screen → Saved
saved_of s = record {
  x = s.state.x;
  y = s.state.y;
  attr = s.state.pen.attr;
  g0 = s.state.g0;
  g1 = s.state.g1;
  shift = s.state.shift;
}

-- units, one after another
abbrev pub drawn_units : List units.Unit → Screen → Screen
drawn_units [] s = s
drawn_units (u ∷ us) s = drawn_units us (effect u s).screen

-- the unit saves no cursor, and isn't the reset: it is none of ESC 7, CSI s and ESC c
abbrev pub leaves_saved : units.Unit → Bool
leaves_saved (Char code) = true
leaves_saved (Byte b) = true
leaves_saved (Control code) = true
leaves_saved (Esc mid last) = not (mid == 0 && last == 0x37) && not (mid == 0 && last == 0x63)
leaves_saved (Csi private params last) = private || not (last == 0x73)
leaves_saved (Colour n rgb) = true
leaves_saved ColourReset = true
leaves_saved Ignored = true

-- ESC 7, units that keep the saved cursor, and ESC 8: the cursor is at its place of ESC 7 again, unless
-- origin mode or the region changed
abbrev pub RestorePutsBack : Type 0
RestorePutsBack =
    (s : Screen) (us : List units.Unit) → IsWhole s → CursorIsInside s → IsTrue (list_all leaves_saved us)
    → let t = drawn_units us (save s) in
    t.state.origin ≡ s.state.origin → t.state.top ≡ s.state.top → t.state.bottom ≡ s.state.bottom
    → ((restore t).state.y ≡ s.state.y) × ((restore t).state.x ≡ s.state.x)
