-- A colour, the state and an out as C gets them. Spare places are 0.
use Rattle.std.specs.Prelude.{ℕ, ◌+◌, ◌*◌, ◌-◌, ◌++◌, length, replicate}
use Rattle.c_calls.specs.Flags.{c_flag}
use Rattle.screen_c.specs.declared.vt_colour.VtColour.{VtColour}
use Rattle.c_calls.specs.declared.vt_modes.VtModes.{VtModes}
use Rattle.screen_c.specs.declared.vt_out.VtOut.{VtOut}
use Rattle.screen_c.specs.declared.vt_state.VtState.{VtState}
use Rattle.vt_cells.specs.Colours.{Rgb}
use Rattle.vt_canvas.specs.Screen.{Screen}
use Rattle.vt_redraw.specs.declared.leaving_out.LeftOut.{LeftOut}
use Rattle.vt_canvas.specs.declared.out.Out.TheVariants.{Bell, Lights, Report, SwitchLast, SwitchTo}
use Rattle.vt_canvas.specs.declared.out.Out.{Out}

abbrev pub c_colour : Rgb → VtColour
c_colour rgb = record { red = rgb.0; green = rgb.1; blue = rgb.2; spare = 0 }

-- the sum of enum vt_left_out
abbrev pub c_left_out : LeftOut → ℕ
c_left_out l =
    c_flag l.cells
    + 2 * c_flag l.colours
    + 4 * c_flag l.saved
    + 8 * c_flag l.region
    + 16 * c_flag l.origin
    + 32 * c_flag l.high_bit

-- the modes DECCKM, DECPAM, DECARM and LNM
abbrev pub c_modes : Screen → VtModes
c_modes s = record {
  cursor_keys = c_flag s.state.cursor;
  keypad = c_flag s.state.keypad;
  repeat = c_flag s.state.repeat;
  newline_mode = c_flag s.state.newline;
  spare = replicate 4 0;
}

-- the size, the cursor, the modes DECTECM, DECSCNM, DECOM, DECAWM, IRM and DECCRM, and those that keys depend on
abbrev pub c_state : Screen → VtState
c_state s = record {
  rows = s.grid.rows;
  cols = s.grid.cols;
  y = s.state.y;
  x = s.state.x;
  visible = c_flag s.state.visible;
  reverse = c_flag s.state.reverse;
  origin = c_flag s.state.origin;
  autowrap = c_flag s.state.autowrap;
  insert = c_flag s.state.insert;
  controls = c_flag s.state.pen.display;
  modes = c_modes s;
  spare = replicate 10 0;
}

-- no text, only a kind and a number
abbrev pub plain_out : ℕ → ℕ → VtOut
plain_out kind number = record {
  kind = kind;
  length = 0;
  number = number;
  text = replicate 16 0;
  spare = replicate 3 0;
}

-- 1 is a report, 2 and 3 ask for another console, 4 sets the lights and 5 rings
abbrev pub c_out : Out → VtOut
c_out (Report text) = record {
  kind = 1;
  length = length text;
  number = 0;
  text = text ++ replicate (16 - length text) 0;
  spare = replicate 3 0;
}
c_out (SwitchTo n) = plain_out 2 n
c_out SwitchLast = plain_out 3 0
c_out (Lights n) = plain_out 4 n
c_out Bell = plain_out 5 0
