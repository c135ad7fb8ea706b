-- The answer to a byte after the bytes since the last result.
use Rattle.std.specs.Prelude.{ℕ, List, [], ◌∷◌, ◌++◌}
use Rattle.vt_chars.specs.Utf8.{decoding_of}
use Rattle.vt_chars.specs.declared.decoded.Decoded.{Decoded}
use Rattle.vt_chars.specs.declared.decoded.Decoded.TheVariants.{Character, Unfinished, Malformed}
use Rattle.vt_chars.specs.declared.got.Got.{Got}
use Rattle.vt_chars.specs.declared.got.Got.TheVariants.{Char, Bad, BadThen, More}

-- the answer for malformed bytes: the bytes before b, if there are any, began a character and are the maximal
-- subpart; otherwise b alone is
abbrev pub malformed_by : List ℕ → Got
malformed_by [] = Bad
malformed_by (a ∷ before) = BadThen

abbrev pub got_by : List ℕ → Decoded → Got
got_by before (Character code) = Char code
got_by before Unfinished = More
got_by before Malformed = malformed_by before

-- the answer to b after these bytes, by the decoding of all of them together
abbrev pub got_of : List ℕ → ℕ → Got
got_of before b = got_by before (decoding_of (before ++ b ∷ []))

-- the bytes since the last result, after that answer
abbrev pub left_by : List ℕ → Got → List ℕ
left_by all (Char code) = []
left_by all Bad = []
left_by all BadThen = []
left_by all More = all

abbrev pub left_of : List ℕ → ℕ → List ℕ
left_of before b = left_by (before ++ b ∷ []) (got_of before b)
