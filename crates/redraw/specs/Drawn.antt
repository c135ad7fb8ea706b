-- The drawing of the screen that an input makes.
use Rattle.std.specs.Prelude.{◌≡◌, true, false}
use Rattle.redraw.specs.declared.drawing.Drawing.{Drawing}
use Rattle.redraw.specs.declared.drawing.Drawing.TheVariants as drawing
use Rattle.vt_redraw.specs.Drawable.{is_redrawable}
use Rattle.vt_redraw.specs.Redraw.{redraw_of}
use Rattle.vt_canvas.specs.Screen.{Screen}

-- the drawing of a screen: the text that draws it again if it can be drawn, otherwise a refusal
abbrev pub IsDrawingOf : Screen → Drawing → Type 0
IsDrawingOf s (drawing.Text text) = (is_redrawable s ≡ true) × (text.bytes ≡ redraw_of s)
IsDrawingOf s drawing.Refused = is_redrawable s ≡ false
