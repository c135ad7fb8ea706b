-- The effect table: the effect of each unit on a screen, and its side effect. Control characters, escape
-- sequences and control sequences have a table each, with a row for each last byte, in the order of
-- console_codes(4). The modules `Cursor`, `Printing`, `Erasing`, `Settings` and `Saying` define the effects.
-- A unit without a row has no effect.
use Rattle.std.specs.Prelude.{ℕ, true, false, ◌+◌, ◌-◌, ◌==◌, max, List, [], ◌∷◌, codes, slice_index, if◌then◌else◌}
use Rattle.vt_canvas.specs.Cursor.{at_column, linefeed, cursor_to, newline, cursor_to_in_region, reverse_linefeed, tab}
use Rattle.vt_canvas.specs.Erasing.{delete_characters, delete_lines, erase_characters, erase_display, erase_line, insert_characters, insert_lines}
use Rattle.vt_canvas.specs.Printing.{print, print_character, character_of_byte}
use Rattle.vt_canvas.specs.Saying.{Effect, console_setting, device_report, lights, without_out, with_out, status_report}
use Rattle.vt_canvas.specs.Screen.{Screen}
use Rattle.vt_canvas.specs.Settings.{alignment_pattern, clear_stops, each, after_shift, after_sgr, reset, restore, save, set_stop, with_coding, with_colour, with_g0, with_g1, with_keypad, with_mode, with_private_mode, with_region, with_start_palette}
use Rattle.vt_canvas.specs.declared.out.Out.TheVariants.{Bell}
use Rattle.vt_units.specs.declared.unit.Unit as units
use Rattle.vt_units.specs.declared.unit.Unit.TheVariants.{Char, Byte, Control, Esc, Csi, Colour, ColourReset, Ignored}

-- a row of a table: the last byte, its mnemonic, and the effect, by the parameters
pub record EffectRow : Type 0 where
  pub last : ℕ
  pub mnemonic : List ℕ
  pub does : List ℕ → Screen → Effect

abbrev pub row : ℕ → List ℕ → (List ℕ → Screen → Effect) → EffectRow
row last mnemonic does = record { last = last; mnemonic = mnemonic; does = does }

-- a parameter by its place, from 0; one that isn't there is 0
abbrev pub number_at : List ℕ → ℕ → ℕ
number_at params place = slice_index params place

-- how often, how many or which: the first parameter, with 0 taken as 1
abbrev pub count_of : List ℕ → ℕ
count_of params = max 1 (number_at params 0)

-- a row without parameters and without a side effect
abbrev pub plain : ℕ → List ℕ → (Screen → Screen) → EffectRow
plain last mnemonic does = row last mnemonic (λ params s. without_out (does s))

-- a row whose parameter is a count
abbrev pub counts : ℕ → List ℕ → (ℕ → Screen → Screen) → EffectRow
counts last mnemonic does = row last mnemonic (λ params s. without_out (does (count_of params) s))

-- a row whose parameter is a number
abbrev pub takes : ℕ → List ℕ → (ℕ → Screen → Screen) → EffectRow
takes last mnemonic does = row last mnemonic (λ params s. without_out (does (number_at params 0) s))

-- a row of any number of parameters
abbrev pub takes_all : ℕ → List ℕ → (List ℕ → Screen → Screen) → EffectRow
takes_all last mnemonic does = row last mnemonic (λ params s. without_out (does params s))

-- the effect of the row that has this last byte; a byte without a row has no effect
abbrev pub look_up : List EffectRow → List ℕ → ℕ → Screen → Effect
look_up [] params last s = without_out s
look_up (r ∷ rows) params last s = if last == r.last then r.does params s else look_up rows params last s

-- control characters
abbrev pub controls : List EffectRow
controls =
    row 0x07 (codes "BEL") (λ params. with_out Bell) ∷
    plain 0x08 (codes "BS") (λ s. at_column (s.state.x - 1) s) ∷
    plain 0x09 (codes "HT") tab ∷
    plain 0x0A (codes "LF") newline ∷
    plain 0x0B (codes "VT") newline ∷
    plain 0x0C (codes "FF") newline ∷
    plain 0x0D (codes "CR") (at_column 0) ∷
    plain 0x0E (codes "SO") (after_shift 1 true) ∷
    plain 0x0F (codes "SI") (after_shift 0 false) ∷
    []

unfoldable pub control : ℕ → Screen → Effect
control code s = look_up controls [] code s

-- escape sequences without an intermediate byte
abbrev pub escapes : List EffectRow
escapes =
    plain 0x63 (codes "RIS") reset ∷
    plain 0x44 (codes "IND") linefeed ∷
    plain 0x45 (codes "NEL") (λ s. linefeed (at_column 0 s)) ∷
    plain 0x48 (codes "HTS") set_stop ∷
    plain 0x4D (codes "RI") reverse_linefeed ∷
    row 0x5A (codes "DECID") (λ params. device_report 0) ∷
    plain 0x37 (codes "DECSC") save ∷
    plain 0x38 (codes "DECRC") restore ∷
    plain 0x3E (codes "DECPNM") (with_keypad false) ∷
    plain 0x3D (codes "DECPAM") (with_keypad true) ∷
    []

unfoldable pub plain_escape : ℕ → Screen → Effect
plain_escape last s = look_up escapes [] last s

-- escape sequences, by the intermediate byte, which is 0 if there is none, and the final one
unfoldable pub escape : ℕ → ℕ → Screen → Effect
escape mid last s =
    if mid == 0 then plain_escape last s
    -- ESC %
    else if mid == 0x25 then without_out (with_coding last s)
    -- DECALN, ESC # 8
    else if mid == 0x23 then without_out (if last == 0x38 then alignment_pattern s else s)
    -- ESC (
    else if mid == 0x28 then without_out (with_g0 last s)
    -- ESC )
    else if mid == 0x29 then without_out (with_g1 last s)
    else without_out s

-- control sequences
abbrev pub sequences : List EffectRow
sequences =
    counts 0x40 (codes "ICH") insert_characters ∷
    counts 0x41 (codes "CUU") (λ n s. cursor_to (s.state.y - n) s.state.x s) ∷
    counts 0x42 (codes "CUD") (λ n s. cursor_to (s.state.y + n) s.state.x s) ∷
    counts 0x43 (codes "CUF") (λ n s. cursor_to s.state.y (s.state.x + n) s) ∷
    counts 0x44 (codes "CUB") (λ n s. cursor_to s.state.y (s.state.x - n) s) ∷
    counts 0x45 (codes "CNL") (λ n s. cursor_to (s.state.y + n) 0 s) ∷
    counts 0x46 (codes "CPL") (λ n s. cursor_to (s.state.y - n) 0 s) ∷
    counts 0x47 (codes "CHA") (λ n s. cursor_to s.state.y (n - 1) s) ∷
    takes_all 0x48 (codes "CUP") (λ params. cursor_to_in_region (count_of params - 1) (number_at params 1 - 1)) ∷
    takes 0x4A (codes "ED") erase_display ∷
    takes 0x4B (codes "EL") erase_line ∷
    counts 0x4C (codes "IL") insert_lines ∷
    counts 0x4D (codes "DL") delete_lines ∷
    counts 0x50 (codes "DCH") delete_characters ∷
    counts 0x58 (codes "ECH") erase_characters ∷
    counts 0x61 (codes "HPR") (λ n s. cursor_to s.state.y (s.state.x + n) s) ∷
    row 0x63 (codes "DA") (λ params. device_report (number_at params 0)) ∷
    counts 0x64 (codes "VPA") (λ n s. cursor_to_in_region (n - 1) s.state.x s) ∷
    counts 0x65 (codes "VPR") (λ n s. cursor_to (s.state.y + n) s.state.x s) ∷
    takes_all 0x66 (codes "HVP") (λ params. cursor_to_in_region (count_of params - 1) (number_at params 1 - 1)) ∷
    takes 0x67 (codes "TBC") clear_stops ∷
    takes_all 0x68 (codes "SM") (each (with_mode true)) ∷
    takes_all 0x6C (codes "RM") (each (with_mode false)) ∷
    takes_all 0x6D (codes "SGR") after_sgr ∷
    row 0x6E (codes "DSR") (λ params. status_report (number_at params 0)) ∷
    row 0x71 (codes "DECLL") (λ params. lights (number_at params 0)) ∷
    takes_all 0x72 (codes "DECSTBM") (λ params. with_region (count_of params) (number_at params 1)) ∷
    plain 0x73 (codes "SCOSC") save ∷
    plain 0x75 (codes "SCORC") restore ∷
    counts 0x60 (codes "HPA") (λ n s. cursor_to s.state.y (n - 1) s) ∷
    row 0x5D (codes "Linux") (λ params. console_setting (number_at params 0) (number_at params 1)) ∷
    []

unfoldable pub control_sequence : List ℕ → ℕ → Screen → Effect
control_sequence params last s = look_up sequences params last s

-- control sequences that begin with ?
abbrev pub private_sequences : List EffectRow
private_sequences =
    takes_all 0x68 (codes "DECSET") (each (with_private_mode true)) ∷
    takes_all 0x6C (codes "DECRST") (each (with_private_mode false)) ∷
    []

unfoldable pub private_sequence : List ℕ → ℕ → Screen → Effect
private_sequence params last s = look_up private_sequences params last s

-- the effect of a unit, one case for each kind
abbrev pub effect : units.Unit → Screen → Effect
effect (Char code) s = without_out (print_character code s)
effect (Byte b) s = without_out (print 1 (character_of_byte b s) s)
effect (Control code) s = control code s
effect (Esc mid last) s = escape mid last s
effect (Csi private params last) s =
    if private then private_sequence params last s else control_sequence params last s
effect (Colour n rgb) s = without_out (with_colour n rgb s)
effect ColourReset s = without_out (with_start_palette s)
effect Ignored s = without_out s
