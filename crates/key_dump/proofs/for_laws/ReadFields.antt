-- The fields of a line, read by the words of its row.
use Rattle.std.proofs.Common.{◌≡◌, ℕ, ◌<◌, ◌≤◌, true, false, leb, cond, Some, Result, Ok, Err, IsTrue, List, [], ◌∷◌, ◌++◌, append-nil, decimal, refl, sym, ap, ◌∙◌, arith, rules}
use Rattle.std.proofs.lemmas.Bool.{and_from, le-leb}
use Rattle.std.specs.List.{join_with_byte}
use Rattle.std.specs.Str.{str_eq_ignore_ascii_case}
use Rattle.key_syms.specs.Act.{Act, act, is_action, is_character}
use Rattle.key_syms.specs.Kinds.{CHARACTER, FUNCTION}
use Rattle.key_syms.specs.Laws.{CodePointsAreTheirOwn, NamesAreTheirOwn}
use Rattle.key_syms.specs.Names.{name_text, symbol}
use Rattle.key_syms.specs.Numbers.{number_of}
use Rattle.key_text.specs.Fault.{fault, ◌>>=◌}
use Rattle.key_text.specs.FaultKinds.{OUT_OF_RANGE, UNKNOWN_SYMBOL, UNKNOWN_WORD, WRONG_COUNT}
use Rattle.key_text.specs.Fields.{action_of, character_at, character_by, character_in, code_at, end_of_line, function_at, function_by, good, is_quoted, keyword_at, symbol_action, named_character, number_in_range, real, symbol_at}
use Rattle.key_text.specs.Quoted.{character_of}
use Rattle.key_text.specs.Words.{bytes, is_quote, next, place_of_word, required_word, word_at}
use Rattle.key_text.specs.declared.fault.KeyFault.{KeyFault}
use Rattle.key_text.specs.declared.placed.Place.{Place}
use Rattle.key_text.specs.declared.placed.Placed.{Placed}
use Rattle.key_dump.specs.Dump.{code_point}
use Rattle.key_dump.proofs.for_laws.NamedWords.{code_point_word, decimal_number, decimal_word, name_word}
use Rattle.key_dump.proofs.for_laws.NextWord.{WordIs, is_behind, is_word_text, next_word}

-- the further words of a row, each behind a blank
abbrev pub tail : List (List ℕ) → List ℕ
tail [] = []
tail (w ∷ ws) = 0x20 ∷ (w ++ tail ws)

pub join_tail : (w : List ℕ) (ws : List (List ℕ)) → join_with_byte 0x20 (w ∷ ws) ≡ w ++ tail ws
join_tail w [] = sym (append-nil w)
join_tail w (v ∷ ws) = ap (λ rest. w ++ (0x20 ∷ rest)) (join_tail v ws)

pub tail_behind : (ws : List (List ℕ)) → is_behind (tail ws) ≡ true
tail_behind [] = refl
tail_behind (w ∷ ws) = refl

-- a field is read as this value, and these words are left
pub record Reads {X : Type 0} (read : Result (X × List Placed) KeyFault) (value : X) (words : List (List ℕ)) : Type 0 where
  pub left : List Placed
  pub is : read ≡ Ok (value, left)
  pub leaves : bytes left ≡ tail words

-- a keyword is read, and these words are left
pub record ReadsOn (read : Result (List Placed) KeyFault) (words : List (List ℕ)) : Type 0 where
  pub left : List Placed
  pub is : read ≡ Ok left
  pub leaves : bytes left ≡ tail words

pub next_is : (kind : ℕ) (end : Place) (items : List Placed) (text rest : List ℕ) (w : WordIs (word_at items) text rest) → next kind end items ≡ Ok (w.word, w.left)
unfolding next
next_is kind end items text rest w = ap (required_word kind end) w.found ∙ w.good

-- the next word of a row that has words left
pub word_of : (items : List Placed) (text : List ℕ) (ws : List (List ℕ)) → bytes items ≡ tail (text ∷ ws) → is_word_text text ≡ true → WordIs (word_at items) text (tail ws)
word_of items text ws e word = next_word items text (tail ws) e word (tail_behind ws)

pub keyword_read : (text : List ℕ) (end : Place) (items : List Placed) (ws : List (List ℕ)) → is_word_text text ≡ true → str_eq_ignore_ascii_case text text ≡ true → bytes items ≡ tail (text ∷ ws) → ReadsOn (keyword_at text end items) ws
unfolding keyword_at
keyword_read text end items ws word same e =
    let w = word_of items text ws e word in
    record {
      left = w.left;
      is =
          cc (next_is UNKNOWN_WORD end items text (tail ws) w, w.spells);
      leaves = w.leaves;
    }

number_in_range_is : (low high : ℕ) (word : List Placed) (n : ℕ) → low ≤ n → n ≤ high → number_in_range low high word (Some n) ≡ Ok n
number_in_range_is low high word n h k =
    ap (λ b. cond b (Ok n) (Err (fault OUT_OF_RANGE (place_of_word word)))) (and_from (leb low n) (leb n high) (le-leb low n h) (le-leb n high k))

-- the number of a word
pub number_number_in_range : (low : ℕ) (word : List Placed) (n : ℕ) (text : List ℕ) → text ≡ decimal n → low ≤ n → n < 256 → number_in_range low 255 word (number_of text) ≡ Ok n
number_number_in_range low word n text e h k =
    cc (decimal_number n k, number_in_range_is low 255 word n h (omega arith))

pub code_read : (end : Place) (items : List Placed) (c : ℕ) (ws : List (List ℕ)) → 1 ≤ c → c < 256 → bytes items ≡ tail (decimal c ∷ ws) → Reads (code_at end items) c ws
unfolding code_at
code_read end items c ws some small e =
    let w = word_of items (decimal c) ws e (decimal_word c small) in
    record {
      left = w.left;
      is =
          ap (λ read. read >>= λ v. number_in_range 1 255 v.0 (number_of (bytes v.0)) >>= λ n. Ok (n, v.1)) (next_is UNKNOWN_WORD end items (decimal c) (tail ws) w)
          ∙ ap (λ read. read >>= λ n. Ok (n, w.left)) (number_number_in_range 1 w.word c (bytes w.word) w.spells some small);
      leaves = w.leaves;
    }

action-of : (word : List Placed) (text : List ℕ) (a : Act) → bytes word ≡ text → symbol text ≡ Some a → action_of word ≡ Ok a
action-of word text a e own = ap (λ t. symbol_action word (symbol t)) e ∙ ap (symbol_action word) own

pub symbol_read : NamesAreTheirOwn → (end : Place) (items : List Placed) (a : Act) (ws : List (List ℕ)) → IsTrue (is_action a.kind a.value) → bytes items ≡ tail (name_text a ∷ ws) → Reads (symbol_at end items) a ws
unfolding symbol_at
symbol_read own end items a ws good e =
    let w = word_of items (name_text a) ws e (name_word a) in
    record {
      left = w.left;
      is =
          ap (λ read. read >>= λ v. action_of v.0 >>= λ action. Ok (action, v.1)) (next_is WRONG_COUNT end items (name_text a) (tail ws) w)
          ∙ ap (λ read. read >>= λ action. Ok (action, w.left)) (action-of w.word (name_text a) a w.spells (own a good));
      leaves = w.leaves;
    }

is_function : (i : ℕ) → i < 256 → IsTrue (is_action FUNCTION i)
is_function i h = let within : leb i 255 ≡ true = le-leb i 255 (omega arith) in rw within refl

pub function_read : NamesAreTheirOwn → (end : Place) (items : List Placed) (i : ℕ) (ws : List (List ℕ)) → i < 256 → bytes items ≡ tail (name_text (act FUNCTION i) ∷ ws) → Reads (function_at end items) i ws
unfolding function_at
function_read own end items i ws small e =
    let a = act FUNCTION i in
    let w = word_of items (name_text a) ws e (name_word a) in
    record {
      left = w.left;
      is =
          ap (λ read. read >>= λ v. action_of v.0 >>= λ action. function_by v.0 action >>= λ i. Ok (i, v.1)) (next_is UNKNOWN_SYMBOL end items (name_text a) (tail ws) w)
          ∙ ap (λ read. read >>= λ action. function_by w.word action >>= λ i. Ok (i, w.left)) (action-of w.word (name_text a) a w.spells (own a (is_function i small)));
      leaves = w.leaves;
    }

not_quoted : (word : List Placed) (b : ℕ) (bs : List ℕ) → bytes word ≡ b ∷ bs → is_quote b ≡ false → is_quoted word ≡ false
not_quoted [] b bs e other = cc
not_quoted (p ∷ ps) b bs e other = let same : p.byte ≡ b = cc in ap is_quote same ∙ other

character-in : CodePointsAreTheirOwn → (word : List Placed) (n : ℕ) → IsTrue (is_character n) → bytes word ≡ code_point n → character_in word ≡ Ok n
unfolding character_in
character-in own word n good_code e =
    ap (λ b. cond b (good word (character_of word)) (named_character word) >>= λ code. real word code) (not_quoted word 0x55 _ e refl)
    ∙ ap (λ read. (read >>= λ action. character_by word action) >>= λ code. real word code) (action-of word (code_point n) (act CHARACTER n) e (own n good_code))
    ∙ ap (λ b. cond b (Ok n) (Err (fault UNKNOWN_SYMBOL (place_of_word word)))) good_code

pub character_read : CodePointsAreTheirOwn → (end : Place) (items : List Placed) (n : ℕ) (ws : List (List ℕ)) → IsTrue (is_character n) → bytes items ≡ tail (code_point n ∷ ws) → Reads (character_at end items) n ws
unfolding character_at
character_read own end items n ws good_code e =
    let w = word_of items (code_point n) ws e (code_point_word n) in
    record {
      left = w.left;
      is =
          ap (λ read. read >>= λ v. character_in v.0 >>= λ code. Ok (code, v.1)) (next_is UNKNOWN_SYMBOL end items (code_point n) (tail ws) w)
          ∙ ap (λ read. read >>= λ code. Ok (code, w.left)) (character-in own w.word n good_code w.spells);
      leaves = w.leaves;
    }

pub end_of_line_read : (items : List Placed) → bytes items ≡ [] → end_of_line items ≡ Ok tt
unfolding end_of_line word_at
end_of_line_read [] e = refl
end_of_line_read (p ∷ ps) e = cc
