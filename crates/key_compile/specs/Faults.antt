-- The first fault of the lines of a keymap.
use Rattle.std.specs.Prelude.{ℕ, ◌+◌, Bool, true, false, ◌||◌, cond, nat_lt, Option, Some, None, List, [], ◌∷◌, length}
use Rattle.std.specs.Option.{option_map, option_or}
use Rattle.key_text.specs.KeymapLine.{LineMeaning, KeymapLine, keymaps, keys, one, string, compose, alt_is_meta, usual_strings, usual_pairs}
use Rattle.key_text.specs.declared.fault.KeyFault.{KeyFault}
use Rattle.key_text.specs.FaultKinds.{LATE_KEYMAPS, TOO_MANY_PAIRS, WRONG_COUNT}
use Rattle.key_compile.specs.Union.{union_of}

-- a line with `keycode`
abbrev pub is_key : LineMeaning → Bool
is_key (keymaps tables) = false
is_key (keys code actions) = true
is_key (one table code action) = true
is_key (string func bytes) = false
is_key (compose pair) = false
is_key alt_is_meta = false
is_key usual_strings = false
is_key usual_pairs = false

-- how many pairs a line adds
abbrev pub pairs_of_line : LineMeaning → ℕ
pairs_of_line (keymaps tables) = 0
pairs_of_line (keys code actions) = 0
pairs_of_line (one table code action) = 0
pairs_of_line (string func bytes) = 0
pairs_of_line (compose pair) = 1
pairs_of_line alt_is_meta = 0
pairs_of_line usual_strings = 0
pairs_of_line usual_pairs = 66

-- more than 256 pairs
abbrev pub pairs_fault : ℕ → Option ℕ
pairs_fault count = cond (nat_lt 256 count) (Some TOO_MANY_PAIRS) None

-- the kind of a line's fault, given the number n of tables in the union, whether a key line stands before it,
-- and the number of pairs in the lines before it
abbrev pub fault_of : ℕ → Bool → ℕ → LineMeaning → Option ℕ
fault_of n seen count (keymaps tables) = cond seen (Some LATE_KEYMAPS) None
fault_of n seen count (keys code actions) = cond (nat_lt n (length actions)) (Some WRONG_COUNT) None
fault_of n seen count (one table code action) = None
fault_of n seen count (string func bytes) = None
fault_of n seen count (compose pair) = pairs_fault (count + 1)
fault_of n seen count alt_is_meta = None
fault_of n seen count usual_strings = None
fault_of n seen count usual_pairs = pairs_fault (count + 66)

-- a fault of this kind at a line's first word
abbrev pub at_line : KeymapLine → ℕ → KeyFault
at_line l kind = record { kind = kind; line = l.line; column = l.column }

abbrev pub first_fault : ℕ → Bool → ℕ → List KeymapLine → Option KeyFault
first_fault n seen count [] = None
first_fault n seen count (l ∷ ls) =
    option_or (option_map (at_line l) (fault_of n seen count l.meaning))
    (first_fault n (seen || is_key l.meaning) (count + pairs_of_line l.meaning) ls)

unfoldable pub compile_fault : List KeymapLine → Option KeyFault
compile_fault lines = first_fault (length (union_of lines)) false 0 lines
