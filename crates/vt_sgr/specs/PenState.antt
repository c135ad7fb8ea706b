-- A pen as definitions see it, and its change by each kind of parameter.
use Rattle.std.specs.Prelude.{ℕ, Bool, false}
use Rattle.vt_cells.specs.Rendition.{Rendition, Tints}
use Rattle.vt_cells.specs.declared.intensity.Intensity.{Intensity}
use Rattle.vt_cells.specs.declared.intensity.Intensity.TheVariants.{Normal}

-- the attributes, the colours for underline and half-bright, the default pair, and the mapping's
-- three flags
pub record PenState : Type 0 where
  pub attr : Rendition
  pub look : Tints
  pub def_fg : ℕ
  pub def_bg : ℕ
  pub alt : Bool
  pub display : Bool
  pub toggle : Bool

-- the pen with other attributes
abbrev pub with_attributes : PenState → Rendition → PenState
with_attributes p a = record p { attr = a }

-- the pen with the default colours, and with nothing on
abbrev pub plain : PenState → PenState
plain p =
    with_attributes p
    (record {
      fg = p.def_fg;
      bg = p.def_bg;
      intensity = Normal;
      italic = false;
      underline = false;
      blink = false;
      reverse = false;
    })

-- the pen with another colour of the character
abbrev pub with_fg : PenState → ℕ → PenState
with_fg p fg = with_attributes p (record p.attr { fg = fg })

-- the pen with another background colour
abbrev pub with_bg : PenState → ℕ → PenState
with_bg p bg = with_attributes p (record p.attr { bg = bg })

-- the pen with another colour of the character, and another intensity
abbrev pub with_bright : PenState → ℕ → Intensity → PenState
with_bright p fg intensity = with_attributes p (record p.attr { fg = fg; intensity = intensity })

-- the pen with another intensity
abbrev pub with_intensity : PenState → Intensity → PenState
with_intensity p intensity = with_attributes p (record p.attr { intensity = intensity })

-- the pen with italic on or off
abbrev pub with_italic : PenState → Bool → PenState
with_italic p on = with_attributes p (record p.attr { italic = on })

-- the pen with underline on or off
abbrev pub with_underline : PenState → Bool → PenState
with_underline p on = with_attributes p (record p.attr { underline = on })

-- the pen with blink on or off
abbrev pub with_blink : PenState → Bool → PenState
with_blink p on = with_attributes p (record p.attr { blink = on })

-- the pen with reverse video on or off
abbrev pub with_reverse : PenState → Bool → PenState
with_reverse p on = with_attributes p (record p.attr { reverse = on })

-- the pen with other flags of the mapping
abbrev pub with_mapping : PenState → Bool → Bool → Bool → PenState
with_mapping p alt display toggle = record p { alt = alt; display = display; toggle = toggle }
