-- The words of a row: quoted texts with the bytes that touch them, or bytes up to a blank or a comment
-- (keymaps(5)).
use Rattle.std.specs.Prelude.{ℕ, suc, ◌+◌, Bool, false, ◌==◌, ◌&&◌, ◌||◌, not, cond, Option, Some, None, Result, Ok, Err, List, [], ◌∷◌, length, take, drop, map, slice_index_or}
use Rattle.std.specs.List.{prefix_len}
use Rattle.std.specs.Option.{option_map, option_map_or}
use Rattle.std.specs.Str.{str_eq_ignore_ascii_case}
use Rattle.std.specs.Str.Lossy.{utf8_valid_len}
use Rattle.key_text.specs.Fault.{fault}
use Rattle.key_text.specs.Rows.{backslash, place_of}
use Rattle.key_text.specs.declared.fault.KeyFault.{KeyFault}
use Rattle.key_text.specs.FaultKinds.{BAD_TEXT}
use Rattle.key_text.specs.declared.placed.Place.{Place}
use Rattle.key_text.specs.declared.placed.Placed.{Placed}

abbrev pub bytes : List Placed → List ℕ
bytes items = map (λ p. p.byte) items

-- a blank or a tab
abbrev pub is_blank : ℕ → Bool
is_blank b = b == 0x20 || b == 0x09

-- a byte of a word without quotes: no blank, and no `!` or `#`, which begin a comment
abbrev pub is_bare : ℕ → Bool
is_bare b = not (is_blank b || b == 0x21 || b == 0x23)

-- a double or a single quote
abbrev pub is_quote : ℕ → Bool
is_quote b = b == 0x22 || b == 0x27

-- the number of bytes before the quote that closes a quoted text: a quote that no backslash escapes. A
-- backslash after a backslash escapes nothing
abbrev pub close_at : ℕ → Bool → List Placed → Option ℕ
close_at q escaped [] = None
close_at q escaped (p ∷ ps) =
    cond (not escaped && p.byte == q) (Some 0)
    (option_map suc (close_at q (not escaped && p.byte == backslash) ps))

-- the bytes of the quoted text that begins the list, all of them if nothing closes it
abbrev pub quoted_len : List Placed → ℕ
quoted_len [] = 0
quoted_len (p ∷ ps) =
    cond (is_quote p.byte)
    (suc (option_map_or suc (close_at p.byte false ps) (length ps))) 0

-- the bytes of the word that begins the list
abbrev pub word_len : List Placed → ℕ
word_len items =
    quoted_len items + prefix_len (λ p. is_bare p.byte) (drop (quoted_len items) items)

-- the word that begins the list, and the rest of the list
abbrev pub word_in : List Placed → Option (List Placed × List Placed)
word_in items =
    cond (word_len items == 0) None
    (Some (take (word_len items) items, drop (word_len items) items))

-- the next word and the rest of the row; none at the row's end, and none if a comment begins
unfoldable pub word_at : List Placed → Option (List Placed × List Placed)
word_at items = word_in (drop (prefix_len (λ p. is_blank p.byte) items) items)

-- the place of a byte of a word
abbrev pub nth_place : List Placed → ℕ → Place
nth_place word i =
    place_of (slice_index_or word i (record { byte = 0; line = 0; column = 0 }))

-- the place of a word
abbrev pub place_of_word : List Placed → Place
place_of_word word = nth_place word 0

-- a word: its bytes are UTF-8, or the fault is at the first byte that isn't
unfoldable pub whole : List Placed × List Placed → Result (List Placed × List Placed) KeyFault
whole word =
    let valid = utf8_valid_len (bytes word.0) in
    cond (valid == length word.0) (Ok word) (Err (fault BAD_TEXT (nth_place word.0 valid)))

-- a word that must be there, otherwise the fault of this kind is after the row's last byte
abbrev pub required_word : ℕ → Place → Option (List Placed × List Placed) → Result (List Placed × List Placed) KeyFault
required_word kind end None = Err (fault kind end)
required_word kind end (Some word) = whole word

unfoldable pub next : ℕ → Place → List Placed → Result (List Placed × List Placed) KeyFault
next kind end items = required_word kind end (word_at items)

-- the word is this one, in any ASCII case
abbrev pub is_word : List ℕ → List Placed → Bool
is_word text word = str_eq_ignore_ascii_case (bytes word) text
