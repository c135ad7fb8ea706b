-- The tables of the lines of a dump.
use Rattle.std.proofs.Common.{◌≡◌, ℕ, ◌+◌, ◌<◌, Bool, true, false, ◌&&◌, ◌||◌, leb, cond, Option, Some, None, is_some, List, [], ◌∷◌, ◌++◌, filter, get_or, map, refl, sym, ap, ◌∙◌, arith, rules}
use Rattle.std.proofs.lemmas.Bool.{and_from, and_left, and_parts, and_right, false≢true, le-leb, leb-true, ne_eqb, or_from}
use Rattle.std.proofs.lemmas.List.Folds.{list_any-append, list_any_at}
use Rattle.std.proofs.lemmas.List.FromFn.{get_or-map-range_with_len, get_or-range_with_len, length-range_with_len}
use Rattle.std.specs.List.{list_any, range_with_len}
use Rattle.key_syms.specs.Act.{Act}
use Rattle.key_syms.specs.declared.pair.Pair.{Pair}
use Rattle.key_tables.specs.Tables.{IsWhole, Tables, exists_in, hole}
use Rattle.key_text.specs.Lines.{covers, table_marks}
use Rattle.key_text.specs.KeymapLine.{LineMeaning, KeymapLine, compose, one, string}
use Rattle.key_compile.specs.Union.{in_union, is_declared, is_keymaps, is_usual_table, modifies_table, names_table}
use Rattle.key_dump.specs.Dump.{rows_from, table_numbers}
use Rattle.key_dump.proofs.for_laws.DumpSays.{dump_tellings, entry_tellings, item_tellings, string_tellings, table_tellings}
use Rattle.key_dump.proofs.for_laws.KeymapsLine.{only}
use Rattle.key_dump.proofs.for_laws.Tellings.{any_tellings, no_any, tellings_of}

-- a line of an entry, where it is there
entry_any : (test : LineMeaning → Bool) (t c : ℕ) (a : Act) → test (one t c a) ≡ false → list_any test (entry_tellings t c a) ≡ false
entry_any test t c a e = search (rules, or_from)

table_any : (test : LineMeaning → Bool) (t : ℕ) (m : Option (List Act)) → ((c : ℕ) (a : Act) → test (one t c a) ≡ false) → list_any test (table_tellings t m) ≡ false
table_any test t None each = refl
table_any test t (Some map) each =
    no_any test (entry_tellings t) map hole (λ c h. entry_any test t c (get_or map c hole) (each c (get_or map c hole)))

pub strings_any : (test : LineMeaning → Bool) (funcs : List (List ℕ)) → ((i : ℕ) (text : List ℕ) → test (string i text) ≡ false) → list_any test (rows_from string_tellings 0 funcs) ≡ false
strings_any test funcs each = no_any test string_tellings funcs [] (λ i h. by_text i (get_or funcs i []))
  where
    by_text : (i : ℕ) (text : List ℕ) → list_any test (string_tellings i text) ≡ false
    by_text i [] = refl
    by_text i (b ∷ bs) = or_from (test (string i (b ∷ bs))) false (each i (b ∷ bs)) refl

pairs_any : (test : LineMeaning → Bool) (pairs : List Pair) → ((pair : Pair) → test (compose pair) ≡ false) → list_any test (map compose pairs) ≡ false
pairs_any test [] each = refl
pairs_any test (pair ∷ pairs) each = or_from (test (compose pair)) (list_any test (map compose pairs)) (each pair) (pairs_any test pairs each)

-- three parts of what is told
any_three : (test : LineMeaning → Bool) (us vs ws : List LineMeaning) → list_any test us ≡ false → list_any test vs ≡ false → list_any test ws ≡ false → list_any test (us ++ (vs ++ ws)) ≡ false
any_three test us vs ws p q r =
    grind (arith, list_any-append, or_from)

pub items_any : (test : LineMeaning → Bool) (tables : Tables) → list_any test (rows_from table_tellings 0 tables.maps) ≡ false → ((i : ℕ) (text : List ℕ) → test (string i text) ≡ false) → ((pair : Pair) → test (compose pair) ≡ false) → list_any test (item_tellings tables) ≡ false
items_any test tables entries strings pairs =
    grind (arith, any_three, table_tellings, string_tellings, strings_any, pairs_any)

pub tables_any : (test : LineMeaning → Bool) (tables : Tables) → ((t c : ℕ) (a : Act) → test (one t c a) ≡ false) → list_any test (rows_from table_tellings 0 tables.maps) ≡ false
tables_any test tables each =
    no_any test table_tellings tables.maps None (λ t h. table_any test t (get_or tables.maps t None) (each t))

-- which tables the `keymaps` line has
any_map : (t : ℕ) (ns : List ℕ) → list_any (covers t) (map only ns) ≡ list_any (λ n. leb n t && leb t n) ns
any_map t [] = refl
any_map t (n ∷ ns) = ap (λ b. (leb n t && leb t n) || b) (any_map t ns)

any_filter : (test kept : ℕ → Bool) (xs : List ℕ) → list_any test (filter kept xs) ≡ list_any (λ x. kept x && test x) xs
any_filter test kept [] = refl
any_filter test kept (x ∷ xs) = by_test (any_filter test kept xs) (kept x)
  where
    by_test : list_any test (filter kept xs) ≡ list_any (λ x. kept x && test x) xs → (b : Bool) → list_any test (cond b (x ∷ filter kept xs) (filter kept xs)) ≡ ((b && test x) || list_any (λ x. kept x && test x) xs)
    by_test rest true = ap (λ b. test x || b) rest
    by_test rest false = rest

not_kept : (kept : ℕ → Bool) (t : ℕ) → kept t ≡ false → (xs : List ℕ) → list_any (λ n. kept n && (leb n t && leb t n)) xs ≡ false
not_kept kept t e [] = refl
not_kept kept t e (n ∷ ns) =
    or_from (kept n && (leb n t && leb t n)) (list_any (λ n. kept n && (leb n t && leb t n)) ns) (by_test (leb n t && leb t n) refl) (not_kept kept t e ns)
  where
    by_test : (b : Bool) → (leb n t && leb t n) ≡ b → (kept n && b) ≡ false
    by_test true f =
        let parts = and_parts (leb n t) (leb t n) f in
        let same : n ≡ t = (let low = leb-true n t parts.0 in let high = leb-true t n parts.1 in omega arith) in
        and_left (kept n) true (ap kept same ∙ e)
    by_test false f = and_right (kept n) false refl

kept_at : (kept : ℕ → Bool) (t : ℕ) → t < 256 → list_any (λ n. kept n && (leb n t && leb t n)) (range_with_len 0 256) ≡ kept t
kept_at kept t h = by_test (kept t) refl
  where
    passes : kept t ≡ true → (kept t && (leb t t && leb t t)) ≡ true
    passes e =
        let same = le-leb t t (omega arith) in
        and_from (kept t) (leb t t && leb t t) e (and_from (leb t t) (leb t t) same same)

    by_test : (b : Bool) → kept t ≡ b → list_any (λ n. kept n && (leb n t && leb t n)) (range_with_len 0 256) ≡ b
    by_test true e =
        list_any_at (λ n. kept n && (leb n t && leb t n)) (range_with_len 0 256) t 0 (omega (arith, length-range_with_len 0 256, h))
        (ap (λ n. kept n && (leb n t && leb t n)) (get_or-range_with_len 0 256 t 0 h ∙ (let e : 0 + t ≡ t = omega arith in e)) ∙ passes e)
    by_test false e = not_kept kept t e (range_with_len 0 256)

mark_at : (tables : Tables) (t : ℕ) → t < 256 → get_or (table_marks (map only (table_numbers tables))) t false ≡ exists_in tables t
unfolding table_marks table_numbers
mark_at tables t h =
    get_or-map-range_with_len (λ t. list_any (covers t) (map only (filter (exists_in tables) (range_with_len 0 256)))) 0 256 t t false h (let e : 0 + t ≡ t = omega arith in e)
    ∙ any_map t (filter (exists_in tables) (range_with_len 0 256))
    ∙ any_filter (λ n. leb n t && leb t n) (exists_in tables) (range_with_len 0 256)
    ∙ kept_at (exists_in tables) t h

-- a table that doesn't exist has no line
unmodified : (tables : Tables) (t : ℕ) → exists_in tables t ≡ false → list_any (modifies_table t) (rows_from table_tellings 0 tables.maps) ≡ false
unmodified tables t none =
    no_any (modifies_table t) table_tellings tables.maps None (λ j h. by_map j (get_or tables.maps j None) refl)
  where
    by_map : (j : ℕ) (m : Option (List Act)) → get_or tables.maps j None ≡ m → list_any (modifies_table t) (table_tellings j m) ≡ false
    by_map j None e = refl
    by_map j (Some map) e =
        table_any (modifies_table t) j (Some map)
        (λ c a. ne_eqb t j (λ (same : t ≡ j). false≢true (sym none ∙ ap (exists_in tables) same ∙ ap (λ (m : Option (List Act)). is_some m) e)))

-- the lines tell what a dump tells
pub record AreDumped (lines : List KeymapLine) (tables : Tables) : Type 0 where
  pub tell : tellings_of lines ≡ dump_tellings tables
  pub whole : IsWhole tables

pub any_dumped : (test : LineMeaning → Bool) (lines : List KeymapLine) (tables : Tables) → AreDumped lines tables → list_any (λ l. test l.meaning) lines ≡ list_any test (dump_tellings tables)
any_dumped test lines tables are = any_tellings test lines ∙ ap (list_any test) are.tell

pub declared_is : (lines : List KeymapLine) (tables : Tables) (t : ℕ) → AreDumped lines tables → t < 256 → is_declared lines t ≡ exists_in tables t
unfolding is_declared in_union
declared_is lines tables t are h =
    ap (λ b. cond b (list_any (λ (l : KeymapLine). names_table t l.meaning) lines) (is_usual_table t) || list_any (λ (l : KeymapLine). modifies_table t l.meaning) lines) (any_dumped is_keymaps lines tables are)
    ∙ ap (λ b. b || list_any (λ (l : KeymapLine). modifies_table t l.meaning) lines) named
    ∙ ap (λ b. exists_in tables t || b) (any_dumped (modifies_table t) lines tables are)
    ∙ by_test (exists_in tables t) refl
  where
    or-false : (b : Bool) → (b || false) ≡ b
    or-false true = refl
    or-false false = refl

    named : list_any (λ l. names_table t l.meaning) lines ≡ exists_in tables t
    named =
        any_dumped (names_table t) lines tables are
        ∙ ap (λ b. get_or (table_marks (map only (table_numbers tables))) t false || b)
        (items_any (names_table t) tables (tables_any (names_table t) tables (λ t c a. refl)) (λ i text. refl) (λ pair. refl))
        ∙ or-false (get_or (table_marks (map only (table_numbers tables))) t false)
        ∙ mark_at tables t h

    by_test : (b : Bool) → exists_in tables t ≡ b → (b || list_any (modifies_table t) (dump_tellings tables)) ≡ b
    by_test true e = refl
    by_test false e = items_any (modifies_table t) tables (unmodified tables t e) (λ i text. refl) (λ pair. refl)
