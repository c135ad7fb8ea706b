-- The tables of the code have the usual strings and pairs.
use Rattle.std.specs.Prelude.{◌≡◌, ℕ, ◌==◌, not, List, take, map}
use Rattle.std.specs.List.{prefix_len}
use Rattle.key_compile.specs.Pairs.{usual}
use Rattle.key_compile.specs.Strings.{usual_texts}
use Rattle.key_compile.specs.declared.usual.TheConstants.{USUAL_PAIRS, USUAL_STRINGS}

-- the bytes of a row up to the first 0
abbrev pub bytes_before_zero : List ℕ → List ℕ
bytes_before_zero row = take (prefix_len (λ b. not (b == 0)) row) row

-- each row, up to its first 0, is the usual string of its function key
abbrev pub UsualStringsAreKept : Type 0
UsualStringsAreKept = map bytes_before_zero USUAL_STRINGS ≡ usual_texts

abbrev pub UsualPairsAreKept : Type 0
UsualPairsAreKept = USUAL_PAIRS ≡ usual
