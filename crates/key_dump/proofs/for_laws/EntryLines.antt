-- The row of an entry is read as its line.
use Rattle.std.proofs.Common.{◌≡◌, ℕ, zero, suc, ◌+◌, ◌/◌, ◌%◌, ◌<◌, ◌≤◌, Bool, true, false, ◌==◌, ◌&&◌, ◌||◌, not, cond, Option, Some, None, Ok, Err, IsTrue, List, [], ◌∷◌, ◌++◌, bit_or, codes, decimal, filter, length, map, refl, ap, ◌∙◌, subst, arith, length-append, rules}
use Rattle.std.proofs.lemmas.Bool.{agree_below, agree_below_at, and_from, and_parts, eqb-true, not-true}
use Rattle.std.proofs.lemmas.List.Folds.{list_all-append}
use Rattle.std.specs.List.{join_with_byte, list_all}
use Rattle.std.specs.Str.{str_eq_ignore_ascii_case}
use Rattle.key_syms.specs.Act.{Act, is_action}
use Rattle.key_syms.specs.Laws.{NamesAreTheirOwn}
use Rattle.key_syms.specs.Names.{name_text}
use Rattle.key_text.specs.Fault.{fault, ◌>>=◌}
use Rattle.key_text.specs.FaultKinds.{UNKNOWN_WORD}
use Rattle.key_text.specs.Fields.{code_at, end_of_line, keyword_at, symbol_at}
use Rattle.key_text.specs.Lines.{modified_by, modified_line, modifiers_at, modifiers_by, means, weight_of}
use Rattle.key_text.specs.KeymapLine.{one}
use Rattle.key_text.specs.Words.{bytes, next, place_of_word}
use Rattle.key_text.specs.declared.placed.Place.{Place}
use Rattle.key_text.specs.declared.placed.Placed.{Placed}
use Rattle.key_dump.specs.Dump.{Modifier, entry_words, modifier, modifier_words, modifiers}
use Rattle.key_dump.proofs.for_laws.NamedWords.{decimal_word, name_word}
use Rattle.key_dump.proofs.for_laws.NextWord.{is_word_text, length-bytes}
use Rattle.key_dump.proofs.for_laws.ReadFields.{Reads, code_read, end_of_line_read, keyword_read, next_is, symbol_read, tail, word_of}
use Rattle.key_dump.proofs.for_laws.RowsSay.{line_with, says_by, weight-by, weight_by, word_row}
use Rattle.key_dump.proofs.for_laws.TextRows.{Says, is_row}

-- the modifiers of a table, or the word `plain`
abbrev pub modifiers_of : ℕ → List Modifier
modifiers_of t =
    cond (t == 0) (modifier 0 (codes "plain") ∷ [])
    (filter (λ m. t / m.weight % 2 == 1) modifiers)

words_of : (t : ℕ) → map (λ m. m.word) (modifiers_of t) ≡ modifier_words t
words_of t = grind (arith, codes)

abbrev pub is_weight : ℕ → Option ℕ → Bool
is_weight n None = false
is_weight n (Some m) = m == n

is_weight_some : (n : ℕ) (weight : Option ℕ) → is_weight n weight ≡ true → weight ≡ Some n
is_weight_some n None e = cc
is_weight_some n (Some m) e = ap Some (eqb-true m n e)

-- the word begins a line of another kind
abbrev pub is_keyword : List ℕ → Bool
is_keyword text =
    str_eq_ignore_ascii_case text (codes "keymaps")
    || (str_eq_ignore_ascii_case text (codes "keycode")
    || (str_eq_ignore_ascii_case text (codes "string")
    || (str_eq_ignore_ascii_case text (codes "compose")
    || (str_eq_ignore_ascii_case text (codes "include")
    || (str_eq_ignore_ascii_case text (codes "charset")
    || (str_eq_ignore_ascii_case text (codes "alt_is_meta")
    || str_eq_ignore_ascii_case text (codes "strings")))))))

falls : {X : Type 0} (a b c d e f g h : Bool) (A B C D E F G H Z : X) → (a || (b || (c || (d || (e || (f || (g || h))))))) ≡ false → cond a A (cond b B (cond c C (cond d D (cond e E (cond f F (cond g G (cond h H Z))))))) ≡ Z
falls true b c d e f g h A B C D E F G H Z none = cc
falls false true c d e f g h A B C D E F G H Z none = cc
falls false false true d e f g h A B C D E F G H Z none = cc
falls false false false true e f g h A B C D E F G H Z none = cc
falls false false false false true f g h A B C D E F G H Z none = cc
falls false false false false false true g h A B C D E F G H Z none = cc
falls false false false false false false true h A B C D E F G H Z none = cc
falls false false false false false false false true A B C D E F G H Z none = cc
falls false false false false false false false false A B C D E F G H Z none = refl

modified_first : (text : List ℕ) (end : Place) (w : List Placed × List Placed) → is_keyword text ≡ false → line_with text end w ≡ modified_by end w (weight_by text)
modified_first text end w none =
    grind (arith, falls, codes, weight_by)

-- a modifier's word weighs what the modifier weighs
abbrev pub is_good : Modifier → Bool
is_good m = is_word_text m.word && (is_weight m.weight (weight_by m.word) && not (is_keyword m.word))

pub record IsGood (m : Modifier) : Type 0 where
  pub word : is_word_text m.word ≡ true
  pub weighs : weight_by m.word ≡ Some m.weight
  pub other : is_keyword m.word ≡ false

good_is : (m : Modifier) → is_good m ≡ true → IsGood m
good_is m e =
    search (rules, and_parts, is_word_text, weight_by, is_weight_some, not-true)

-- the table of modifiers together, over one
abbrev pub together : ℕ → List Modifier → ℕ
together table [] = table
together table (m ∷ ms) = together (bit_or table m.weight) ms

-- modifiers that name a table
abbrev pub are_of : ℕ → List Modifier → Bool
are_of t [] = false
are_of t (m ∷ ms) = is_good m && (list_all is_good ms && together m.weight ms == t)

modifiers_are : agree_below (λ t. are_of t (modifiers_of t)) (λ t. true) 256 ≡ true
modifiers_are = refl

good_words : (ms : List Modifier) → list_all is_good ms ≡ true → list_all is_row (map (λ m. m.word) ms) ≡ true
good_words [] e = refl
good_words (m ∷ ms) e =
    let parts = and_parts (is_good m) (list_all is_good ms) e in
    and_from (is_row m.word) (list_all is_row (map (λ m. m.word) ms)) (word_row m.word (good_is m parts.0).word) (good_words ms parts.1)

modifiers_step : (n table : ℕ) (end : Place) (items : List Placed) (v : List Placed × List Placed) (more : Option ℕ) → next UNKNOWN_WORD end items ≡ Ok v → weight_of v.0 ≡ more → modifiers_at (suc n) table end items ≡ modifiers_by (λ more left. modifiers_at n more end left) table v more
modifiers_step n table end items v more found weighs =
    ap (λ read. read >>= λ u. modifiers_by (λ more left. modifiers_at n more end left) table u (weight_of u.0)) found
    ∙ ap (modifiers_by (λ more left. modifiers_at n more end left) table v) weighs

keycode_weight : weight_by (codes "keycode") ≡ None
keycode_weight = refl

-- modifier words and `keycode`
modifiers_read : (ms : List Modifier) (n table : ℕ) (end : Place) (items : List Placed) (ws : List (List ℕ)) → length ms < n → list_all is_good ms ≡ true → bytes items ≡ tail (map (λ m. m.word) ms ++ codes "keycode" ∷ ws) → Reads (modifiers_at n table end items) (together table ms) ws
modifiers_read ms zero table end items ws h good e = absurd (omega arith)
modifiers_read [] (suc n) table end items ws h good e =
    let w = word_of items (codes "keycode") ws e refl in
    record {
      left = w.left;
      is =
          modifiers_step n table end items (w.word, w.left) None (next_is UNKNOWN_WORD end items (codes "keycode") (tail ws) w)
          (weight-by w.word ∙ ap weight_by w.spells ∙ keycode_weight)
          ∙ ap (λ t. cond (str_eq_ignore_ascii_case t (codes "keycode")) (Ok (table, w.left)) (Err (fault UNKNOWN_WORD (place_of_word w.word)))) w.spells;
      leaves = w.leaves;
    }
modifiers_read (m ∷ ms) (suc n) table end items ws h good e =
    let parts = and_parts (is_good m) (list_all is_good ms) good in
    let is_one = good_is m parts.0 in
    let w = word_of items m.word (map (λ m. m.word) ms ++ codes "keycode" ∷ ws) e is_one.word in
    let rest = modifiers_read ms n (bit_or table m.weight) end w.left ws (omega arith) parts.1 w.leaves in
    record {
      left = rest.left;
      is =
          modifiers_step n table end items (w.word, w.left) (Some m.weight) (next_is UNKNOWN_WORD end items m.word (tail (map (λ m. m.word) ms ++ codes "keycode" ∷ ws)) w)
          (weight-by w.word ∙ ap weight_by w.spells ∙ is_one.weighs)
          ∙ rest.is;
      leaves = rest.leaves;
    }

length-tail : (ms : List Modifier) (ws : List (List ℕ)) → length ms ≤ length (tail (map (λ m. m.word) ms ++ ws))
length-tail [] ws = omega arith
length-tail (m ∷ ms) ws =
    let more = length-tail ms ws in
    let both = length-append m.word (tail (map (λ m. m.word) ms ++ ws)) in
    omega arith

modified-by : (weight : ℕ) (end : Place) (items : List Placed) (table code : ℕ) (a : Act) (p q r s : List Placed) → modifiers_at (length items + 1) weight end items ≡ Ok (table, p) → code_at end p ≡ Ok (code, q) → keyword_at (codes "=") end q ≡ Ok r → symbol_at end r ≡ Ok (a, s) → end_of_line s ≡ Ok tt → modified_line weight end items ≡ Ok (means (one table code a))
unfolding modified_line
modified-by weight end items table code a p q r s e1 e2 e3 e4 e5 = rw (e1, e2, e3, e4, e5) refl

-- the words behind the first modifier
modified_read : NamesAreTheirOwn → (ms : List Modifier) (weight : ℕ) (end : Place) (items : List Placed) (c : ℕ) (a : Act) → list_all is_good ms ≡ true → 1 ≤ c → c < 256 → IsTrue (is_action a.kind a.value) → bytes items ≡ tail (map (λ m. m.word) ms ++ codes "keycode" ∷ decimal c ∷ codes "=" ∷ name_text a ∷ []) → modified_line weight end items ≡ Ok (means (one (together weight ms) c a))
modified_read own ms weight end items c a good some small action e =
    let few : length ms < length items + 1 =
    (let short = length-tail ms (codes "keycode" ∷ decimal c ∷ codes "=" ∷ name_text a ∷ []) in
    let same = ap length e in
    let bytes_of = length-bytes items in omega arith) in
    let table = modifiers_read ms (length items + 1) weight end items (decimal c ∷ codes "=" ∷ name_text a ∷ []) few good e in
    let code = code_read end table.left c (codes "=" ∷ name_text a ∷ []) some small table.leaves in
    let equals = keyword_read (codes "=") end code.left (name_text a ∷ []) refl refl code.leaves in
    let only = symbol_read own end equals.left a [] action equals.leaves in
    modified-by weight end items (together weight ms) c a table.left code.left equals.left only.left table.is code.is equals.is only.is (end_of_line_read only.left only.leaves)

by_words : NamesAreTheirOwn → (t c : ℕ) (a : Act) (ms : List Modifier) → are_of t ms ≡ true → 1 ≤ c → c < 256 → IsTrue (is_action a.kind a.value) → Says (join_with_byte 0x20 (map (λ m. m.word) ms ++ codes "keycode" ∷ decimal c ∷ codes "=" ∷ name_text a ∷ [])) (one t c a)
by_words own t c a [] are some small action = cc
by_words own t c a (m ∷ ms) are some small action =
    let parts = and_parts (is_good m) (list_all is_good ms && together m.weight ms == t) are in
    let more = and_parts (list_all is_good ms) (together m.weight ms == t) parts.1 in
    let is_one = good_is m parts.0 in
    let key = codes "keycode" ∷ decimal c ∷ codes "=" ∷ name_text a ∷ [] in
    says_by m.word (map (λ m. m.word) ms ++ key) (one t c a) is_one.word
    (list_all-append is_row (map (λ m. m.word) ms) key
    ∙ and_from (list_all is_row (map (λ m. m.word) ms)) (list_all is_row key) (good_words ms more.0)
    (and_from (is_row (decimal c)) (is_row (name_text a) && true) (word_row (decimal c) (decimal_word c small))
    (and_from (is_row (name_text a)) true (word_row (name_text a) (name_word a)) refl)))
    (λ end word left leaves.
    modified_first m.word end (word, left) is_one.other
    ∙ ap (modified_by end (word, left)) is_one.weighs
    ∙ modified_read own ms m.weight end left c a more.0 some small action leaves
    ∙ ap (λ table. Ok (means (one table c a))) (eqb-true (together m.weight ms) t more.1))

-- the row of an entry
pub entry_says : NamesAreTheirOwn → (t c : ℕ) (a : Act) → t < 256 → 1 ≤ c → c < 256 → IsTrue (is_action a.kind a.value) → Says (join_with_byte 0x20 (entry_words t c a)) (one t c a)
entry_says own t c a low some small action =
    subst (λ (ws : List (List ℕ)). Says (join_with_byte 0x20 (ws ++ codes "keycode" ∷ decimal c ∷ codes "=" ∷ name_text a ∷ [])) (one t c a)) (words_of t)
    (by_words own t c a (modifiers_of t) (agree_below_at (λ t. are_of t (modifiers_of t)) (λ t. true) 256 t modifiers_are low) some small action)
