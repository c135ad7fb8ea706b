-- Side effects: reports, lights and requests for another console (console_codes(4)).
use Rattle.std.specs.Prelude.{ℕ, ◌+◌, ◌-◌, ◌==◌, ◌&&◌, nat_le, nat_lt, List, ◌∷◌, ◌++◌, Option, Some, None, codes, decimal, if◌then◌else◌}
use Rattle.vt_canvas.specs.Screen.{Screen}
use Rattle.vt_canvas.specs.Settings.{with_pen}
use Rattle.vt_canvas.specs.declared.out.Out.{Out}
use Rattle.vt_canvas.specs.declared.out.Out.TheVariants.{Lights, Report, SwitchLast, SwitchTo}

-- the screen after a unit, and the unit's side effect
pub record Effect : Type 0 where
  pub screen : Screen
  pub said : Option Out

abbrev pub without_out : Screen → Effect
without_out s = record { screen = s; said = None }

abbrev pub with_out : Out → Screen → Effect
with_out out s = record { screen = s; said = Some out }

-- a report: ESC and these characters
abbrev pub report : List ℕ → Screen → Effect
report text s = with_out (Report (0x1B ∷ text)) s

-- DECID, and DA with 0: a VT102
abbrev pub device_text : List ℕ
device_text = codes "[?6c"

unfoldable pub device_report : ℕ → Screen → Effect
device_report which s = if which == 0 then report device_text s else without_out s

-- CPR: the cursor's row and column, counted from 1; in origin mode the row is counted from the
-- region's first one, which is this project's own
abbrev pub cursor_text : Screen → List ℕ
cursor_text s =
    let row = if s.state.origin then s.state.y - s.state.top else s.state.y in
    codes "[" ++ (decimal (row + 1) ++ (codes ";" ++ (decimal (s.state.x + 1) ++ codes "R")))

-- DSR: 5 requests the status, which is good; 6 requests the cursor's place
unfoldable pub status_report : ℕ → Screen → Effect
status_report which s =
    if which == 5 then report (codes "[0n") s
    else if which == 6 then report (cursor_text s) s
    else without_out s

-- DECLL: 0 clears the lights, and 1 to 3 set Scroll Lock, Num Lock or Caps Lock alone
unfoldable pub lights : ℕ → Screen → Effect
lights which s =
    if which == 0 then with_out (Lights 0) s
    else if which == 1 then with_out (Lights 1) s
    else if which == 2 then with_out (Lights 2) s
    else if which == 3 then with_out (Lights 4) s
    else without_out s

-- the colours for underline and half-bright
abbrev pub with_underline_colour : ℕ → Screen → Screen
with_underline_colour n s =
    with_pen s (record s.state.pen { look = record s.state.pen.look { ul = n } })

abbrev pub with_dim_colour : ℕ → Screen → Screen
with_dim_colour n s =
    with_pen s (record s.state.pen { look = record s.state.pen.look { dim = n } })

-- the pen's pair is the default pair
abbrev pub with_default_pair : Screen → Screen
with_default_pair s =
    with_pen s
    (record s.state.pen { def_fg = s.state.pen.attr.fg; def_bg = s.state.pen.attr.bg })

-- CSI ]: settings of the console. Timers, the bell's pitch and length and video modes have no effect: this
-- project's own
unfoldable pub console_setting : ℕ → ℕ → Screen → Effect
console_setting which value s =
    -- the colour for underline
    if which == 1 then without_out (if nat_lt value 16 then with_underline_colour value s else s)
    -- the colour for half-bright
    else if which == 2 then without_out (if nat_lt value 16 then with_dim_colour value s else s)
    -- the default pair
    else if which == 8 then without_out (with_default_pair s)
    -- to the console of this number
    else if which == 12
    then (if nat_le 1 value && nat_le value 63 then with_out (SwitchTo value) s else without_out s)
    -- to the previous console
    else if which == 15 then with_out SwitchLast s
    else without_out s
