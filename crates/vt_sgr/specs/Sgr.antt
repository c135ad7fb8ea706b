-- SGR, by whole lists of parameters (console_codes(4), "ECMA-48 Select Graphic Rendition").
use Rattle.std.specs.Prelude.{ℕ, zero, suc, Bool, true, false, ◌+◌, ◌-◌, ◌==◌, ◌&&◌, ◌||◌, nat_le, min, Option, Some, None, List, [], ◌∷◌, length, slice_index, if◌then◌else◌}
use Rattle.vt_cells.specs.Colours.{Rgb, fold_bg, fold_fg, rgb_of}
use Rattle.vt_cells.specs.declared.intensity.Intensity.TheVariants.{Dim, Normal, Bold}
use Rattle.vt_sgr.specs.PenState.{PenState, with_mapping, plain, with_bg, with_blink, with_bright, with_fg, with_intensity, with_italic, with_reverse, with_underline}

-- the parameters begin with 5 and an index
abbrev pub is_indexed : List ℕ → Bool
is_indexed rest = nat_le 2 (length rest) && slice_index rest 0 == 5

-- the parameters begin with 2, red, green and blue
abbrev pub is_direct : List ℕ → Bool
is_direct rest = nat_le 4 (length rest) && slice_index rest 0 == 2

-- the colour of an index; there is none above 255
abbrev pub colour_of_index : ℕ → Option Rgb
colour_of_index i = if nat_le i 255 then Some (rgb_of i) else None

-- a part of a colour; more than 255 counts as 255
abbrev pub part : List ℕ → ℕ → ℕ
part rest place = min 255 (slice_index rest place)

-- the colour that the parameters after a 38 or 48 give
abbrev pub colour_of : List ℕ → Option Rgb
colour_of rest =
    if is_indexed rest then colour_of_index (slice_index rest 1)
    else if is_direct rest then Some (part rest 1, part rest 2, part rest 3)
    else None

-- the number of parameters that the colour takes; an incomplete one takes all that are left
abbrev pub colour_len : List ℕ → ℕ
colour_len rest =
    if is_indexed rest then 2
    else if is_direct rest then 4
    else length rest

-- a character takes the hue of the colour, and is bold or normal as the colour is
abbrev pub with_fg_colour : PenState → Option Rgb → PenState
with_fg_colour p None = p
with_fg_colour p (Some (r, g, b)) =
    let folded = fold_fg r g b in
    with_bright p folded.0 (if folded.1 then Bold else Normal)

-- the background takes the hue of the colour
abbrev pub with_bg_colour : PenState → Option Rgb → PenState
with_bg_colour p None = p
with_bg_colour p (Some (r, g, b)) = with_bg p (fold_bg r g b)

-- the colour of a character by an index, and whether it is bold. No public clause names this
abbrev pub foreground_of : ℕ → ℕ × Bool
foreground_of i = let rgb = rgb_of i in fold_fg rgb.0 rgb.1 rgb.2

-- the background colour of an index. No public clause names this
abbrev pub background_of : ℕ → ℕ
background_of i = let rgb = rgb_of i in fold_bg rgb.0 rgb.1 rgb.2

-- n is one of the eight numbers from low on
abbrev pub is_of : ℕ → ℕ → Bool
is_of low n = nat_le low n && nat_le n (low + 7)

-- the pen after the parameter n, given the parameters that follow it
abbrev pub with_form : ℕ → List ℕ → PenState → PenState
with_form n rest p =
    if n == 0 then plain p  -- reset all attributes
    else if n == 1 then with_intensity p Bold  -- bold
    else if n == 2 then with_intensity p Dim  -- half-bright
    else if n == 3 then with_italic p true  -- italic
    else if n == 4 then with_underline p true  -- underscore
    else if n == 5 then with_blink p true  -- blink
    else if n == 7 then with_reverse p true  -- reverse video
    else if n == 10 then with_mapping p false false false  -- primary font
    else if n == 11 then with_mapping p true true false  -- first alternate font
    else if n == 12 then with_mapping p true true true  -- second alternate font
    else if n == 21 then with_underline p true  -- underline
    else if n == 22 then with_intensity p Normal  -- normal intensity
    else if n == 23 then with_italic p false  -- italic off
    else if n == 24 then with_underline p false  -- underline off
    else if n == 25 then with_blink p false  -- blink off
    else if n == 27 then with_reverse p false  -- reverse video off
    else if is_of 30 n then with_fg p (n - 30)  -- foreground
    else if n == 38 then with_fg_colour p (colour_of rest)  -- 256 or 24-bit foreground
    else if n == 39 then with_fg p p.def_fg  -- default foreground
    else if is_of 40 n then with_bg p (n - 40)  -- background
    else if n == 48 then with_bg_colour p (colour_of rest)  -- 256 or 24-bit background
    else if n == 49 then with_bg p p.def_bg  -- default background
    else if is_of 90 n then with_bright p (n - 90) Bold  -- bright foreground
    else if is_of 100 n then with_bg p (n - 100)  -- background, bright not supported
    else p

-- the number of the following parameters that the parameter n takes
abbrev pub taken_by : ℕ → List ℕ → ℕ
taken_by n rest = if n == 38 || n == 48 then colour_len rest else 0

-- the pen after the parameters, of which the first `taken` belong to the parameter before them
abbrev pub sgr_skipping : ℕ → List ℕ → PenState → PenState
sgr_skipping taken [] p = p
sgr_skipping (suc taken) (n ∷ rest) p = sgr_skipping taken rest p
sgr_skipping zero (n ∷ rest) p = sgr_skipping (taken_by n rest) rest (with_form n rest p)

-- the pen after all parameters; a list without a parameter counts as 0
abbrev pub sgr : List ℕ → PenState → PenState
sgr [] p = with_form 0 [] p
sgr (n ∷ rest) p = sgr_skipping 0 (n ∷ rest) p
