-- Quoted texts and quoted characters, and their escapes (keymaps(5)).
use Rattle.std.specs.Prelude.{ℕ, zero, suc, ◌+◌, ◌-◌, ◌*◌, Bool, false, ◌==◌, ◌&&◌, ◌||◌, cond, nat_le, Option, Some, None, List, [], ◌∷◌, length, take, drop, fold}
use Rattle.std.specs.List.{prefix_len}
use Rattle.std.specs.Option.{option_and_then, option_map}
use Rattle.key_text.specs.Rows.{backslash}
use Rattle.key_text.specs.Words.{bytes, close_at}
use Rattle.key_text.specs.declared.placed.Placed.{Placed}

-- the bytes before the closing quote, if the word ends with it
abbrev pub text_before_quote : List Placed → Option ℕ → Option (List ℕ)
text_before_quote ps None = None
text_before_quote ps (Some n) = cond (suc n == length ps) (Some (take n (bytes ps))) None

-- the bytes between two quotes of this kind that are the first and the last byte of a word
abbrev pub text_between : ℕ → List Placed → Option (List ℕ)
text_between q [] = None
text_between q (p ∷ ps) = cond (p.byte == q) (text_before_quote ps (close_at q false ps)) None

abbrev pub is_octal : ℕ → Bool
is_octal b = nat_le 0x30 b && nat_le b 0x37

-- the number of octal digits
abbrev pub octal_value : List ℕ → ℕ
octal_value digits = fold (λ n b. n * 8 + (b - 0x30)) 0 digits

-- the escapes of one letter: n for LF, a backslash and the quotes for themselves
abbrev pub letter_escape : List ℕ → Option (ℕ × ℕ)
letter_escape [] = None
letter_escape (b ∷ bs) =
    cond (b == 0x6E) (Some (0x0A, 1))
    (cond (b == backslash || b == 0x22 || b == 0x27) (Some (b, 1)) None)

-- an octal escape of these digits, up to 377
abbrev pub octal_escape : List ℕ → Option (ℕ × ℕ)
octal_escape digits =
    cond (nat_le (octal_value digits) 255) (Some (octal_value digits, length digits)) None

-- the number of octal digits that the bytes begin with, three at most
abbrev pub octal_len : List ℕ → ℕ
octal_len text = prefix_len is_octal (take 3 text)

-- the byte that an escape stands for, and the number of bytes of the escape after its backslash
unfoldable pub escape_in : List ℕ → Option (ℕ × ℕ)
escape_in text =
    cond (octal_len text == 0) (letter_escape text) (octal_escape (take (octal_len text) text))

-- the first byte of a quoted text, and the rest of the text: an escape or the byte itself
abbrev pub first_of : ℕ → List ℕ → Option (ℕ × List ℕ)
first_of b bs =
    cond (b == backslash) (option_map (λ e. (e.0, drop e.1 bs)) (escape_in bs)) (Some (b, bs))

-- a byte before the rest of a text, if the rest is good
abbrev pub before_rest : (List ℕ → Option (List ℕ)) → ℕ × List ℕ → Option (List ℕ)
before_rest rest first = option_map (λ bs. first.0 ∷ bs) (rest first.1)

-- the bytes that a quoted text stands for, of which there are n at most
abbrev pub unescaped_bytes : ℕ → List ℕ → Option (List ℕ)
unescaped_bytes n [] = Some []
unescaped_bytes zero (b ∷ bs) = None
unescaped_bytes (suc n) (b ∷ bs) = option_and_then (before_rest (unescaped_bytes n)) (first_of b bs)

abbrev pub unescaped_whole : List ℕ → Option (List ℕ)
unescaped_whole text = unescaped_bytes (length text) text

-- the text that a word in double quotes stands for
unfoldable pub text_of : List Placed → Option (List ℕ)
text_of word = option_and_then unescaped_whole (text_between 0x22 word)

-- the character that one, two or three bytes of UTF-8 are (Unicode Table 3-6)
abbrev pub character_of_utf8 : List ℕ → Option ℕ
character_of_utf8 [] = None
character_of_utf8 (a ∷ []) = Some a
character_of_utf8 (a ∷ b ∷ []) = cond (nat_le 0xC0 a) (Some ((a - 0xC0) * 64 + (b - 0x80))) None
character_of_utf8 (a ∷ b ∷ c ∷ []) =
    cond (nat_le 0xE0 a) (Some ((a - 0xE0) * 4096 + (b - 0x80) * 64 + (c - 0x80))) None
character_of_utf8 (a ∷ b ∷ c ∷ d ∷ bs) = None

-- an escape that is the whole of a text
abbrev pub only : List ℕ → ℕ × ℕ → Option ℕ
only text escape = cond (escape.1 == length text) (Some escape.0) None

-- the one character of a quoted text
abbrev pub one_character : List ℕ → Option ℕ
one_character [] = None
one_character (b ∷ bs) =
    cond (b == backslash) (option_and_then (only bs) (escape_in bs)) (character_of_utf8 (b ∷ bs))

-- the character that a word in single quotes stands for
unfoldable pub character_of : List Placed → Option ℕ
character_of word = option_and_then one_character (text_between 0x27 word)
