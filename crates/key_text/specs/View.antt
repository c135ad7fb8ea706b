-- The content of the lines that are read.
use Rattle.std.specs.Prelude.{ℕ}
use Rattle.key_text.specs.KeymapLine.{LineMeaning, KeymapLine, keymaps, keys, one, string, compose, alt_is_meta, usual_strings, usual_pairs}
use Rattle.key_text.specs.declared.line_kind.LineKind.{LineKind}
use Rattle.key_text.specs.declared.line_kind.LineKind.TheVariants as kinds

-- the content of a line
abbrev pub meaning_of : LineKind → LineMeaning
meaning_of (kinds.Keymaps tables) = keymaps tables
meaning_of (kinds.Keys code syms) = keys code syms
meaning_of (kinds.One table code action) = one table code action
meaning_of (kinds.Text func bytes) = string func bytes.bytes
meaning_of (kinds.Compose pair) = compose pair
meaning_of kinds.AltIsMeta = alt_is_meta
meaning_of kinds.UsualStrings = usual_strings
meaning_of kinds.UsualPairs = usual_pairs

-- a line with this content, and its place
abbrev pub keymap_line : LineMeaning → ℕ → ℕ → KeymapLine
keymap_line meaning line column = record { meaning = meaning; line = line; column = column }
