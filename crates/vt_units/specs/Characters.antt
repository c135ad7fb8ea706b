-- Texts that consist of whole characters.
use Rattle.std.specs.Prelude.{◌≡◌, ℕ, Bool, true, not, ◌&&◌, ◌==◌, ◌<◌, ◌≤◌, nat_le, List, [], ◌∷◌, ◌++◌, length, take}
use Rattle.vt_chars.specs.Utf8.{decoding_of, within}
use Rattle.vt_chars.specs.declared.decoded.Decoded.{Decoded}
use Rattle.vt_chars.specs.declared.decoded.Decoded.TheVariants.{Character}

-- a character that is shown: no control character
abbrev pub is_shown : ℕ → Bool
is_shown code = nat_le 0x20 code && not (within 0x7F 0x9F code)

-- the decoding is no character that is shown
abbrev pub IsHidden : Decoded → Type 0
IsHidden d = (code : ℕ) → d ≡ Character code → is_shown code ≡ true → ⊥

-- the text is the UTF-8 of this character, which is shown
pub record IsTextOf (text : List ℕ) (code : ℕ) : Type 0 where
  pub whole : decoding_of text ≡ Character code
  pub shown : is_shown code ≡ true

-- the text is the UTF-8 of these characters, which are shown
abbrev pub AreTextsOf : List ℕ → List ℕ → Type 0
AreTextsOf text [] = text ≡ []
AreTextsOf text (code ∷ codes) =
    (first : List ℕ) × (more : List ℕ) × (text ≡ first ++ more) × IsTextOf first code × AreTextsOf more codes

-- the first byte of a character of two or three bytes that is shown, whatever continuation bytes follow
abbrev pub is_common : ℕ → Bool
is_common a = within 0xC3 0xEF a && not (a == 0xE0) && not (a == 0xED)

-- the first n bytes of the text are this character
pub record Begins (text : List ℕ) (code n : ℕ) : Type 0 where
  pub some : 0 < n
  pub within : n ≤ length text
  pub first : IsTextOf (take n text) code

-- the text doesn't begin with a whole character that is shown
abbrev pub NoneBegins : List ℕ → Type 0
NoneBegins text = (code n : ℕ) → Begins text code n → ⊥
