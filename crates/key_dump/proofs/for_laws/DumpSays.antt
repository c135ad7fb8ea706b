-- The rows of a dump are read as its lines.
use Rattle.std.proofs.Common.{◌≡◌, ℕ, suc, ◌+◌, ◌<◌, ◌≤◌, Bool, true, false, ◌==◌, ◌||◌, ltb, cond, Option, Some, None, is_some, IfSome, IsTrue, List, [], ◌∷◌, ◌++◌, codes, decimal, filter, length, get_or, map, refl, sym, ap, ◌∙◌, arith, rules}
use Rattle.std.proofs.lemmas.Bool.{and_from, and_parts, cases_eq, false≢true}
use Rattle.std.proofs.lemmas.List.Folds.{list_any_at}
use Rattle.std.proofs.lemmas.List.FromFn.{get_or-range_with_len, length-range_with_len}
use Rattle.std.specs.List.{join_with_byte, list_all, list_any, range_with_len}
use Rattle.key_syms.specs.Act.{Act, is_action}
use Rattle.key_syms.specs.Kinds.{HOLE}
use Rattle.key_syms.specs.Laws.{CodePointsAreTheirOwn, NamesAreTheirOwn}
use Rattle.key_syms.specs.declared.pair.Pair.{Pair}
use Rattle.key_tables.specs.Tables.{IsMap, IsWhole, Tables, exists_in, hole}
use Rattle.key_text.specs.Lines.{table_marks}
use Rattle.key_text.specs.KeymapLine.{LineMeaning, compose, is_real, keymaps, one, string}
use Rattle.key_compile.specs.Dumpable.{is_dumpable}
use Rattle.key_dump.specs.Dump.{dump_rows, entry_rows, pair_words, rows_from, string_rows, table_numbers, table_rows}
use Rattle.key_dump.proofs.for_laws.EntryLines.{entry_says}
use Rattle.key_dump.proofs.for_laws.KeymapsLine.{are_small, keymaps_says, only}
use Rattle.key_dump.proofs.for_laws.PairLines.{pair_says}
use Rattle.key_dump.proofs.for_laws.QuotedWords.{AreBytes}
use Rattle.key_dump.proofs.for_laws.StringLines.{string_says}
use Rattle.key_dump.proofs.for_laws.Tellings.{rows_say}
use Rattle.key_dump.proofs.for_laws.TextRows.{AllSay, Says, all_say_append}

-- what the line of an entry tells, where it isn't a hole
abbrev pub entry_tellings : ℕ → ℕ → Act → List LineMeaning
entry_tellings t c a = cond (a.kind == HOLE) [] (one t c a ∷ [])

abbrev pub table_tellings : ℕ → Option (List Act) → List LineMeaning
table_tellings t None = []
table_tellings t (Some map) = rows_from (entry_tellings t) 0 map

-- what the line of a string tells, where it isn't empty
abbrev pub string_tellings : ℕ → List ℕ → List LineMeaning
string_tellings i [] = []
string_tellings i (b ∷ bs) = string i (b ∷ bs) ∷ []

abbrev pub item_tellings : Tables → List LineMeaning
item_tellings tables =
    rows_from table_tellings 0 tables.maps
    ++ (rows_from string_tellings 0 tables.funcs ++ map compose tables.pairs)

-- what the line of the tables that exist tells
abbrev pub tables_telling : Tables → LineMeaning
tables_telling tables = keymaps (table_marks (map only (table_numbers tables)))

-- what the lines of a dump tell
abbrev pub dump_tellings : Tables → List LineMeaning
dump_tellings tables = tables_telling tables ∷ item_tellings tables

entry_say : NamesAreTheirOwn → (t c : ℕ) (a : Act) → t < 256 → c < 256 → IsTrue (is_action a.kind a.value) → (c ≡ 0 → a ≡ hole) → AllSay (entry_rows t c a) (entry_tellings t c a)
entry_say own t c a low small action no_key = grind (arith, cases_eq, false≢true, entry_says)

table_say : NamesAreTheirOwn → (t : ℕ) (m : Option (List Act)) → t < 256 → IfSome m IsMap → AllSay (table_rows t m) (table_tellings t m)
table_say own t None low is = tt
table_say own t (Some map) low is =
    rows_say (entry_rows t) (entry_tellings t) map hole (λ c h.
    entry_say own t c (get_or map c hole) low (let full = is.full in omega (arith, full, h)) (is.known c hole h)
    (λ (none : c ≡ 0). ap (λ n. get_or map n hole) none ∙ is.no_key))

string_say : NamesAreTheirOwn → (i : ℕ) (text : List ℕ) → i < 256 → AreBytes text → length text ≤ 255 → AllSay (string_rows i text) (string_tellings i text)
string_say own i [] low are short = tt
string_say own i (b ∷ bs) low are short = (string_says own i (b ∷ bs) low are short, tt)

pairs_say : CodePointsAreTheirOwn → (pairs : List Pair) → list_all is_real pairs ≡ true → AllSay (map pair_words pairs) (map compose pairs)
pairs_say points [] e = tt
pairs_say points (pair ∷ pairs) e =
    let parts = and_parts (is_real pair) (list_all is_real pairs) e in
    (pair_says points pair parts.0, pairs_say points pairs parts.1)

filter_all : (test kept : ℕ → Bool) (xs : List ℕ) → list_all kept xs ≡ true → list_all kept (filter test xs) ≡ true
filter_all test kept [] e = refl
filter_all test kept (x ∷ xs) e =
    let parts = and_parts (kept x) (list_all kept xs) e in
    by_test parts.0 (filter_all test kept xs parts.1) (test x)
  where
    by_test : kept x ≡ true → list_all kept (filter test xs) ≡ true → (b : Bool) → list_all kept (cond b (x ∷ filter test xs) (filter test xs)) ≡ true
    by_test first rest true = and_from (kept x) (list_all kept (filter test xs)) first rest
    by_test first rest false = rest

filter_some : (test : ℕ → Bool) (xs : List ℕ) → list_any test xs ≡ true → 0 < length (filter test xs)
filter_some test [] e = absurd (false≢true e)
filter_some test (x ∷ xs) e = by_test (filter_some test xs) (test x) refl
  where
    by_test : (list_any test xs ≡ true → 0 < length (filter test xs)) → (b : Bool) → test x ≡ b → 0 < length (cond b (x ∷ filter test xs) (filter test xs))
    by_test rest true f = omega arith
    by_test rest false f = rest (sym (ap (λ b. b || list_any test xs) f) ∙ e)

some_at : (maps : List (Option (List Act))) → list_any is_some maps ≡ true → (k : ℕ) × (k < length maps) × (is_some (get_or maps k None) ≡ true)
some_at [] e = absurd (false≢true e)
some_at (Some map ∷ maps) e = (0, omega arith, refl)
some_at (None ∷ maps) e = let rest = some_at maps e in (suc rest.0, omega (arith, rest.1), rest.2)

small_range : are_small (range_with_len 0 256) ≡ true
small_range = refl

numbers_small : (tables : Tables) → are_small (table_numbers tables) ≡ true
unfolding table_numbers
numbers_small tables = filter_all (exists_in tables) (λ n. ltb n 256) (range_with_len 0 256) small_range

numbers_some : (tables : Tables) → length tables.maps ≡ 256 → list_any is_some tables.maps ≡ true → 0 < length (table_numbers tables)
unfolding table_numbers
numbers_some tables tall some =
    let found = some_at tables.maps some in
    let k = found.0 in
    let low : k < 256 = omega (arith, found.1, tall) in
    filter_some (exists_in tables) (range_with_len 0 256)
    (list_any_at (exists_in tables) (range_with_len 0 256) k 0 (omega (arith, length-range_with_len 0 256, low))
    (ap (exists_in tables) (get_or-range_with_len 0 256 k 0 low ∙ (let e : 0 + k ≡ k = omega arith in e)) ∙ found.2))

keymaps_say : (ns : List ℕ) → 0 < length ns → are_small ns ≡ true → Says (join_with_byte 0x20 (codes "keymaps" ∷ join_with_byte 0x2C (map decimal ns) ∷ [])) (keymaps (table_marks (map only ns)))
keymaps_say [] some small = absurd (omega arith)
keymaps_say (n ∷ ns) some small = keymaps_says n ns small

pub dump_say : NamesAreTheirOwn → CodePointsAreTheirOwn → (tables : Tables) → IsWhole tables → IsTrue (is_dumpable tables) → AllSay (dump_rows tables) (dump_tellings tables)
unfolding dump_rows
dump_say own points tables whole dumpable =
    let parts = and_parts (list_any is_some tables.maps) (list_all is_real tables.pairs) dumpable in (
      keymaps_say (table_numbers tables) (numbers_some tables whole.tall parts.0) (numbers_small tables),
      all_say_append (rows_from table_rows 0 tables.maps) (rows_from string_rows 0 tables.funcs ++ map pair_words tables.pairs)
          (rows_from table_tellings 0 tables.maps) (rows_from string_tellings 0 tables.funcs ++ map compose tables.pairs)
          (rows_say table_rows table_tellings tables.maps None (λ t h.
          table_say own t (get_or tables.maps t None) (let tall = whole.tall in omega (arith, tall, h)) (whole.maps t None h)))
          (all_say_append (rows_from string_rows 0 tables.funcs) (map pair_words tables.pairs)
          (rows_from string_tellings 0 tables.funcs) (map compose tables.pairs)
          (rows_say string_rows string_tellings tables.funcs [] (λ i h.
          string_say own i (get_or tables.funcs i []) (let all = whole.strings in omega (arith, all, h)) (whole.bytes i [] h) (whole.short i [] h)))
          (pairs_say points tables.pairs parts.1)),
    )
