-- The table that is read from the bytes of a table is that table.
use Rattle.std.specs.Prelude.{◌≡◌, ◌<◌, ◌≤◌, ℕ, List, length, All, Some}
use Rattle.call_bytes.specs.Colours.{colours_in, colours_text}
use Rattle.call_bytes.specs.Pairs.{pairs_in, pairs_text}
use Rattle.call_bytes.specs.Words.{words_in, words_text}
use Rattle.key_syms.specs.declared.pair.Pair.{Pair}
use Rattle.vt_cells.specs.Colours.{Rgb}

-- a pair of numbers of 16 bits
pub record IsPair (pair : Pair) : Type 0 where
  pub accent : pair.accent < 65536
  pub base : pair.base < 65536
  pub result : pair.result < 65536

-- at most 256 pairs come back
abbrev pub PairsComeBack : Type 0
PairsComeBack =
    (pairs : List Pair) → length pairs ≤ 256 → All IsPair pairs
    → pairs_in (pairs_text pairs) ≡ Some pairs

-- 256 code points of 16 bits come back
abbrev pub WordsComeBack : Type 0
WordsComeBack =
    (words : List ℕ) → length words ≡ 256 → All (λ word. word < 65536) words
    → words_in (words_text words) ≡ Some words

-- 16 colours come back
abbrev pub ColoursComeBack : Type 0
ColoursComeBack =
    (colours : List Rgb) → length colours ≡ 16 → colours_in (colours_text colours) ≡ Some colours
