-- The bytes of an unfinished character that the reader keeps. No public clause names this.
use Rattle.std.specs.Prelude.{◌≡◌, ℕ, List, [], ◌∷◌}
use Rattle.vt_chars.specs.declared.decoded.Decoded.{Decoded}
use Rattle.vt_chars.specs.declared.decoded.Decoded.TheVariants.{Character, Unfinished, Malformed}
use Rattle.vt_chars.specs.declared.got.Got.{Got}
use Rattle.vt_chars.specs.declared.got.Got.TheVariants.{Char, More}
use Rattle.vt_chars.specs.declared.utf8.Prefix.{Prefix}
use Rattle.vt_chars.specs.declared.utf8.Prefix.TheVariants.{Nothing, One, Two, Three}

abbrev pub bytes_of : Prefix → List ℕ
bytes_of Nothing = []
bytes_of (One a) = a ∷ []
bytes_of (Two a b) = a ∷ b ∷ []
bytes_of (Three a b c) = a ∷ b ∷ c ∷ []

-- the answer by the decoding of all the bytes, and the bytes that are then kept
abbrev pub Answers : Decoded → Got → Prefix → Got → Prefix → Type 0
Answers (Character code) bad all got kept = (got ≡ Char code) × (kept ≡ Nothing)
Answers Unfinished bad all got kept = (got ≡ More) × (kept ≡ all)
Answers Malformed bad all got kept = (got ≡ bad) × (kept ≡ Nothing)
