-- Names, code points and numbers are words.
use Rattle.std.proofs.Common.{◌≡◌, ℕ, ◌<◌, Bool, true, false, ◌==◌, ◌&&◌, leb, cond, Option, Some, None, List, [], ◌∷◌, codes, decimal, find, unwrap_or, refl, ap, rules}
use Rattle.std.proofs.lemmas.Bool.{agree_below, agree_below_at, and_from, and_parts, eqb-true}
use Rattle.std.specs.Fmt.{digits}
use Rattle.std.specs.List.{list_all}
use Rattle.std.specs.Option.{option_map}
use Rattle.key_syms.specs.Act.{Act}
use Rattle.key_syms.specs.Names.{code_name, hex4, hex_digit, name_text, same_act}
use Rattle.key_syms.specs.Numbers.{number_of}
use Rattle.key_syms.specs.Symbols.{Symbol, symbols}
use Rattle.key_dump.specs.Dump.{code_point}
use Rattle.key_dump.proofs.for_laws.NextWord.{is_word_byte, is_word_text}

hex_digit_word : (d : ℕ) → d < 16 → is_word_byte (hex_digit d) ≡ true
hex_digit_word d h = agree_below_at (λ d. is_word_byte (hex_digit d)) (λ d. true) 16 d refl h

hex4_words : (n : ℕ) → list_all is_word_byte (hex4 n) ≡ true
hex4_words n =
    search (rules, and_from, is_word_byte, hex_digit_word)

pub code_point_word : (n : ℕ) → is_word_text (code_point n) ≡ true
code_point_word n = hex4_words n

code_name_word : (a : Act) → is_word_text (code_name a) ≡ true
code_name_word a = search (rules, is_word_text, codes, hex4_words)

unfoldable are_words : List Symbol → Bool
are_words rows = list_all (λ s. is_word_text s.name) rows

symbols_words : are_words symbols ≡ true
unfolding are_words symbols digits
symbols_words = refl

found_word : (rows : List Symbol) (test : Symbol → Bool) (other : List ℕ) → list_all (λ s. is_word_text s.name) rows ≡ true → is_word_text other ≡ true → is_word_text (unwrap_or (option_map (λ s. s.name) (find test rows)) other) ≡ true
found_word [] test other e word = word
found_word (s ∷ rows) test other e word =
    let parts = and_parts (is_word_text s.name) (list_all (λ s. is_word_text s.name) rows) e in
    by_test parts.0 (found_word rows test other parts.1 word) (test s)
  where
    by_test : is_word_text s.name ≡ true → is_word_text (unwrap_or (option_map (λ s. s.name) (find test rows)) other) ≡ true → (b : Bool) → is_word_text (unwrap_or (option_map (λ s. s.name) (cond b (Some s) (find test rows))) other) ≡ true
    by_test first rest true = first
    by_test first rest false = rest

pub name_word : (a : Act) → is_word_text (name_text a) ≡ true
unfolding name_text are_words
name_word a = found_word symbols (λ s. same_act s.act a) (code_name a) symbols_words (code_name_word a)

-- the number is read back
abbrev pub is_number : ℕ → Option ℕ → Bool
is_number n None = false
is_number n (Some m) = m == n

is_number_some : (n : ℕ) (read : Option ℕ) → is_number n read ≡ true → read ≡ Some n
is_number_some n None e = cc
is_number_some n (Some m) e = ap Some (eqb-true m n e)

-- a byte of a number: a digit
abbrev pub is_digit : ℕ → Bool
is_digit b = leb 0x30 b && leb b 0x39

decimals : agree_below (λ n. is_word_text (decimal n) && (is_number n (number_of (decimal n)) && list_all is_digit (decimal n))) (λ n. true) 256 ≡ true
unfolding digits
decimals = refl

decimal_parts : (n : ℕ) → n < 256 → (is_word_text (decimal n) && (is_number n (number_of (decimal n)) && list_all is_digit (decimal n))) ≡ true
decimal_parts n h = agree_below_at (λ n. is_word_text (decimal n) && (is_number n (number_of (decimal n)) && list_all is_digit (decimal n))) (λ n. true) 256 n decimals h

pub decimal_word : (n : ℕ) → n < 256 → is_word_text (decimal n) ≡ true
decimal_word n h = (and_parts (is_word_text (decimal n)) (is_number n (number_of (decimal n)) && list_all is_digit (decimal n)) (decimal_parts n h)).0

pub decimal_number : (n : ℕ) → n < 256 → number_of (decimal n) ≡ Some n
decimal_number n h =
    let more = (and_parts (is_word_text (decimal n)) (is_number n (number_of (decimal n)) && list_all is_digit (decimal n)) (decimal_parts n h)).1 in
    is_number_some n (number_of (decimal n)) (and_parts (is_number n (number_of (decimal n))) (list_all is_digit (decimal n)) more).0

pub decimal-digits : (n : ℕ) → n < 256 → list_all is_digit (decimal n) ≡ true
decimal-digits n h =
    let more = (and_parts (is_word_text (decimal n)) (is_number n (number_of (decimal n)) && list_all is_digit (decimal n)) (decimal_parts n h)).1 in
    (and_parts (is_number n (number_of (decimal n))) (list_all is_digit (decimal n)) more).1
