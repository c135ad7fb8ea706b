-- Function strings: the usual ones, and the rule that the last string of a name decides.
use Rattle.std.specs.Prelude.{ℕ, ◌==◌, cond, Option, Some, None, unwrap_or, List, [], ◌∷◌, ◌++◌, codes, map, slice_index_or}
use Rattle.std.specs.Fmt.{decimal}
use Rattle.std.specs.Option.{option_or}
use Rattle.key_text.specs.KeymapLine.{LineMeaning, KeymapLine, keymaps, keys, one, string, compose, alt_is_meta, usual_strings, usual_pairs}

-- a text, if it isn't empty
abbrev pub some_text : List ℕ → Option (List ℕ)
some_text [] = None
some_text (b ∷ bs) = Some (b ∷ bs)

-- a text after ESC and `[`
abbrev pub escape : List ℕ → List ℕ
escape text = 0x1B ∷ codes "[" ++ text

-- ESC, `[`, a number and `~`
abbrev pub tilde : ℕ → List ℕ
tilde n = escape (decimal n ++ codes "~")

-- the usual strings of the function keys in order: F1 to F20, Find to Next, Macro, Help and Do without one,
-- and Pause
unfoldable pub usual_texts : List (List ℕ)
usual_texts =
    map (λ letter. escape (codes "[" ++ letter ∷ [])) (codes "ABCDE")
    ++ map tilde (17 ∷ 18 ∷ 19 ∷ 20 ∷ 21 ∷ 23 ∷ 24 ∷ 25 ∷ 26 ∷ 28 ∷ 29 ∷ 31 ∷ 32 ∷ 33 ∷ 34 ∷ [])
    ++ map tilde (1 ∷ 2 ∷ 3 ∷ 4 ∷ 5 ∷ 6 ∷ [])
    ++ escape (codes "M") ∷ [] ∷ [] ∷ escape (codes "P") ∷ []

-- the usual string of a function key, if it has one
unfoldable pub usual_string : ℕ → Option (List ℕ)
usual_string i = some_text (slice_index_or usual_texts i [])

-- the string that a line gives a function key, if it names it
abbrev pub text_by : LineMeaning → ℕ → Option (List ℕ)
text_by (keymaps tables) i = None
text_by (keys code actions) i = None
text_by (one table code action) i = None
text_by (string func bytes) i = cond (i == func) (Some bytes) None
text_by (compose pair) i = None
text_by alt_is_meta i = None
text_by usual_strings i = usual_string i
text_by usual_pairs i = None

-- the string by the last line that names a function key
abbrev pub last_text : List KeymapLine → ℕ → Option (List ℕ)
last_text [] i = None
last_text (l ∷ ls) i = option_or (last_text ls i) (text_by l.meaning i)

-- the string of a function key
abbrev pub string_in : List KeymapLine → ℕ → List ℕ
string_in lines i = unwrap_or (last_text lines i) []
