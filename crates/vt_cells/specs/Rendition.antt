-- How a character is written: its colours and styles, as definitions see them.
use Rattle.std.specs.Prelude.{ℕ, Bool, true, false}
use Rattle.vt_cells.specs.declared.intensity.Intensity.{Intensity}
use Rattle.vt_cells.specs.declared.intensity.Intensity.TheVariants.{Dim, Normal, Bold}

-- the colours of the character and of the background, and the styles that are on: console_codes(4), "ECMA-48
-- Select Graphic Rendition"
pub record Rendition : Type 0 where
  pub fg : ℕ
  pub bg : ℕ
  pub intensity : Intensity
  pub italic : Bool
  pub underline : Bool
  pub blink : Bool
  pub reverse : Bool

-- the colours that stand for an underline and for half-bright
pub record Tints : Type 0 where
  pub ul : ℕ
  pub dim : ℕ

-- half-bright is on
abbrev pub is_dim : Intensity → Bool
is_dim Dim = true
is_dim Normal = false
is_dim Bold = false

-- bold is on
abbrev pub is_bold : Intensity → Bool
is_bold Dim = false
is_bold Normal = false
is_bold Bold = true
