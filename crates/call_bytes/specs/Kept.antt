-- The bytes that are written from a table equal the bytes that it was read from.
use Rattle.std.specs.Prelude.{◌≡◌, ◌<◌, ℕ, List, All, Some}
use Rattle.call_bytes.specs.Colours.{colours_in, colours_text}
use Rattle.call_bytes.specs.Pairs.{pairs_in, pairs_text}
use Rattle.call_bytes.specs.Words.{words_in, words_text}
use Rattle.key_syms.specs.declared.pair.Pair.{Pair}
use Rattle.vt_cells.specs.Colours.{Rgb}

abbrev pub AreBytes : List ℕ → Type 0
AreBytes bytes = All (λ b. b < 256) bytes

-- the bytes of pairs are kept
abbrev pub PairsAreKept : Type 0
PairsAreKept =
    (bytes : List ℕ) (pairs : List Pair)
    → AreBytes bytes → pairs_in bytes ≡ Some pairs → pairs_text pairs ≡ bytes

-- the bytes of a user's table are kept
abbrev pub WordsAreKept : Type 0
WordsAreKept =
    (bytes words : List ℕ)
    → AreBytes bytes → words_in bytes ≡ Some words → words_text words ≡ bytes

-- the bytes of a palette are kept
abbrev pub ColoursAreKept : Type 0
ColoursAreKept =
    (bytes : List ℕ) (colours : List Rgb)
    → AreBytes bytes → colours_in bytes ≡ Some colours → colours_text colours ≡ bytes
