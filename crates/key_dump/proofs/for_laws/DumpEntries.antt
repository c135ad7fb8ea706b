-- The entries, strings and pairs of the lines of a dump.
use Rattle.std.proofs.Common.{◌≡◌, ◌≢◌, ℕ, ◌-◌, ◌<◌, Bool, true, false, ◌==◌, ◌&&◌, leb, ltb, cond, Option, Some, None, is_some, unwrap_or, IsTrue, inl, inr, List, [], ◌∷◌, ◌++◌, length, get_or, map, refl, sym, ap, ◌∙◌, arith, rules}
use Rattle.std.proofs.Math.ListN.{get_or-eq_default}
use Rattle.std.proofs.lemmas.Bool.{and_from, and_left, and_right, cases_lt, eq-eqb, eqb-true, false≢true, ne_eqb}
use Rattle.std.proofs.lemmas.Bool.Decides.{eqb_tells}
use Rattle.std.specs.List.{flat_map, list_any}
use Rattle.std.specs.Option.{option_or}
use Rattle.key_syms.specs.Act.{Act, is_action}
use Rattle.key_syms.specs.Kinds.{HOLE}
use Rattle.key_syms.specs.declared.pair.Pair.{Pair}
use Rattle.key_tables.specs.Tables.{IsMap, Tables, entry_of, exists_in, func_of, hole, map_of}
use Rattle.key_text.specs.KeymapLine.{LineMeaning, KeymapLine, compose, one, string}
use Rattle.key_compile.specs.Entries.{entry_in, gives, is_alt, line_entry, meta_over}
use Rattle.key_compile.specs.Pairs.{pairs_by, pairs_in}
use Rattle.key_compile.specs.Strings.{last_text, string_in, text_by}
use Rattle.key_compile.specs.Union.{is_declared, union_of}
use Rattle.key_dump.specs.Dump.{rows_from}
use Rattle.std.proofs.lemmas.Grind.{flat_map-append}
use Rattle.key_dump.proofs.for_laws.DumpSays.{entry_tellings, string_tellings, table_tellings, tables_telling}
use Rattle.key_dump.proofs.for_laws.DumpTables.{AreDumped, any_dumped, items_any, tables_any}
use Rattle.key_dump.proofs.for_laws.Tellings.{last_action_last, last_append, last_at, last_by, no_last, no_pairs, or_none, pairs_tellings, tellings_of, text_last}

-- lines of entries that give nothing
entry_last : {X : Type 0} (f : LineMeaning → Option X) (t c : ℕ) (a : Act) → f (one t c a) ≡ None → last_by f (entry_tellings t c a) ≡ None
entry_last f t c a e = search (rules, last_by)

table_last : {X : Type 0} (f : LineMeaning → Option X) (t : ℕ) (m : Option (List Act)) → ((c : ℕ) (a : Act) → f (one t c a) ≡ None) → last_by f (table_tellings t m) ≡ None
table_last f t None each = refl
table_last f t (Some map) each =
    no_last f (entry_tellings t) map hole (λ c h. entry_last f t c (get_or map c hole) (each c (get_or map c hole)))

strings_last : {X : Type 0} (f : LineMeaning → Option X) (funcs : List (List ℕ)) → ((i : ℕ) (text : List ℕ) → f (string i text) ≡ None) → last_by f (rows_from string_tellings 0 funcs) ≡ None
strings_last {X = X} f funcs each = no_last f string_tellings funcs [] (λ i h. by_text i (get_or funcs i []))
  where
    by_text : (i : ℕ) (text : List ℕ) → last_by f (string_tellings i text) ≡ None
    by_text i [] = refl
    by_text i (b ∷ bs) = each i (b ∷ bs)

pairs_last : {X : Type 0} (f : LineMeaning → Option X) (pairs : List Pair) → ((pair : Pair) → f (compose pair) ≡ None) → last_by f (map compose pairs) ≡ None
pairs_last f [] each = refl
pairs_last f (pair ∷ pairs) each =
    ap (λ a. option_or a (f (compose pair))) (pairs_last f pairs each) ∙ each pair

last_three : {X : Type 0} (f : LineMeaning → Option X) (first : LineMeaning) (us vs ws : List LineMeaning) → f first ≡ None → last_by f ws ≡ None → last_by f (first ∷ (us ++ (vs ++ ws))) ≡ option_or (last_by f vs) (last_by f us)
last_three f first us vs ws p q =
    grind (arith, last_by, or_none, last_append)

gives_other : (union : List ℕ) (t c u d : ℕ) (a : Act) → (t == u && c == d) ≡ false → gives union (one u d a) t c ≡ None
gives_other union t c u d a e = ap (λ b. cond b (Some a) None) e

-- what the lines give an entry
decided_is : (union : List ℕ) (lines : List KeymapLine) (tables : Tables) (t c : ℕ) (map : List Act) → AreDumped lines tables → t < 256 → c < 256 → map_of tables t ≡ Some map → length map ≡ 256 → last_by (λ meaning. gives union meaning t c) (tellings_of lines) ≡ last_by (λ meaning. gives union meaning t c) (entry_tellings t c (get_or map c hole))
decided_is union lines tables t c map are low small e full =
    let f : LineMeaning → Option Act = λ meaning. gives union meaning t c in
    let entries = rows_from table_tellings 0 tables.maps in
    let strings = rows_from string_tellings 0 tables.funcs in
    ap (last_by f) are.tell
    ∙ last_three f (tables_telling tables) entries strings _ refl (pairs_last f tables.pairs (λ pair. refl))
    ∙ ap (λ a. option_or a (last_by f entries)) (strings_last f tables.funcs (λ i text. refl))
    ∙ last_at f table_tellings tables.maps None t (let tall = are.whole.tall in omega (arith, tall, low))
    (λ j h other. table_last f j (get_or tables.maps j None) (λ d a.
    gives_other union t c j d a (and_left (t == j) (c == d) (ne_eqb t j (λ (same : t ≡ j). other (sym same))))))
    ∙ ap (λ m. last_by f (table_tellings t m)) e
    ∙ last_at f (entry_tellings t) map hole c (omega (arith, full, small))
    (λ d h other. entry_last f t d (get_or map d hole)
    (gives_other union t c t d (get_or map d hole) (and_right (t == t) (c == d) (ne_eqb c d (λ (same : c ≡ d). other (sym same))))))

-- an action of this kind is the hole
hole_value : (v : ℕ) → is_action HOLE v ≡ true → v ≡ 0
hole_value v e = grind (arith, eqb_tells, false≢true)

hole_is : (a : Act) → IsTrue (is_action a.kind a.value) → (a.kind == HOLE) ≡ true → a ≡ hole
hole_is a action e =
    grind (arith, eqb-true, hole_value)

entry_back : (union : List ℕ) (t c : ℕ) (a : Act) → IsTrue (is_action a.kind a.value) → unwrap_or (last_by (λ meaning. gives union meaning t c) (entry_tellings t c a)) hole ≡ a
entry_back union t c a action = by_test (a.kind == HOLE) refl
  where
    by_test : (b : Bool) → (a.kind == HOLE) ≡ b → unwrap_or (last_by (λ meaning. gives union meaning t c) (cond b [] (one t c a ∷ []))) hole ≡ a
    by_test true e = sym (hole_is a action e)
    by_test false e =
        ap (λ b. unwrap_or (cond b (Some a) None) hole) (and_from (t == t) (c == c) (eq-eqb t t refl) (eq-eqb c c refl))

no_alt : (lines : List KeymapLine) (tables : Tables) → AreDumped lines tables → list_any (λ l. is_alt l.meaning) lines ≡ false
no_alt lines tables are =
    any_dumped is_alt lines tables are
    ∙ items_any is_alt tables (tables_any is_alt tables (λ t c a. refl)) (λ i text. refl) (λ pair. refl)

-- the entry that the lines decide is the table's
entry_is : (lines : List KeymapLine) (tables : Tables) (t c : ℕ) (map : List Act) → AreDumped lines tables → t < 256 → c < 256 → map_of tables t ≡ Some map → IsMap map → entry_in lines t c ≡ get_or map c hole
unfolding entry_in line_entry
entry_is lines tables t c map are low small e is =
    ap (λ b. cond (b && (leb 8 t && ltb t 16) && is_declared lines (t - 8)) (meta_over (line_entry lines (t - 8) c) (line_entry lines t c)) (line_entry lines t c)) (no_alt lines tables are)
    ∙ ap (λ a. unwrap_or a hole) (last_action_last (union_of lines) t c lines ∙ decided_is (union_of lines) lines tables t c map are low small e is.full)
    ∙ entry_back (union_of lines) t c (get_or map c hole) (is.known c hole (let full = is.full in omega (arith, full, small)))

pub entries_are : (lines : List KeymapLine) (tables : Tables) (t c : ℕ) → AreDumped lines tables → t < 256 → c < 256 → entry_of tables t c ≡ cond (exists_in tables t) (Some (entry_in lines t c)) None
entries_are lines tables t c are low small =
    grind (arith, is_some, entry_is)

-- the string that the lines give a function key
texts_are : (lines : List KeymapLine) (tables : Tables) (i : ℕ) → AreDumped lines tables → last_text lines i ≡ last_by (λ meaning. text_by meaning i) (rows_from string_tellings 0 tables.funcs)
texts_are lines tables i are =
    let f : LineMeaning → Option (List ℕ) = λ meaning. text_by meaning i in
    let entries = rows_from table_tellings 0 tables.maps in
    let strings = rows_from string_tellings 0 tables.funcs in
    text_last i lines
    ∙ ap (last_by f) are.tell
    ∙ last_three f (tables_telling tables) entries strings _ refl (pairs_last f tables.pairs (λ pair. refl))
    ∙ ap (option_or (last_by f strings)) (no_last f table_tellings tables.maps None (λ t h. table_last f t (get_or tables.maps t None) (λ c a. refl)))
    ∙ or_none (last_by f strings)

text_other : (i j : ℕ) (text : List ℕ) → i ≢ j → last_by (λ meaning. text_by meaning i) (string_tellings j text) ≡ None
text_other i j [] other = refl
text_other i j (b ∷ bs) other = ap (λ t. cond t (Some (b ∷ bs)) None) (ne_eqb i j other)

text_own : (i : ℕ) (text : List ℕ) → unwrap_or (last_by (λ meaning. text_by meaning i) (string_tellings i text)) [] ≡ text
text_own i [] = refl
text_own i (b ∷ bs) = ap (λ t. unwrap_or (cond t (Some (b ∷ bs)) None) []) (eq-eqb i i refl)

pub strings_are : (lines : List KeymapLine) (tables : Tables) (i : ℕ) → AreDumped lines tables → func_of tables i ≡ string_in lines i
strings_are lines tables i are = elim (cases_lt i (length tables.funcs)) [
  | inl low ↦
      sym (ap (λ a. unwrap_or a []) (texts_are lines tables i are
      ∙ last_at (λ meaning. text_by meaning i) string_tellings tables.funcs [] i low
      (λ j h other. text_other i j (get_or tables.funcs j []) (λ (same : i ≡ j). other (sym same))))
      ∙ text_own i (get_or tables.funcs i []))
  | inr past ↦
      get_or-eq_default tables.funcs [] past
      ∙ sym (ap (λ a. unwrap_or a []) (texts_are lines tables i are
      ∙ no_last (λ meaning. text_by meaning i) string_tellings tables.funcs []
      (λ j h. text_other i j (get_or tables.funcs j []) (λ (same : i ≡ j). omega arith))))
]

composed : (pairs : List Pair) → flat_map pairs_by (map compose pairs) ≡ pairs
composed [] = refl
composed (pair ∷ pairs) = ap (λ ps. pair ∷ ps) (composed pairs)

entry_pairs : (t c : ℕ) (a : Act) → flat_map pairs_by (entry_tellings t c a) ≡ []
entry_pairs t c a = by_test (a.kind == HOLE)
  where
    by_test : (b : Bool) → flat_map pairs_by (cond b [] (one t c a ∷ [])) ≡ []
    by_test true = refl
    by_test false = refl

table_pairs : (t : ℕ) (m : Option (List Act)) → flat_map pairs_by (table_tellings t m) ≡ []
table_pairs t None = refl
table_pairs t (Some map) = no_pairs (entry_tellings t) map hole (λ c h. entry_pairs t c (get_or map c hole))

string_pairs : (i : ℕ) (text : List ℕ) → flat_map pairs_by (string_tellings i text) ≡ []
string_pairs i [] = refl
string_pairs i (b ∷ bs) = refl

pub pairs_are : (lines : List KeymapLine) (tables : Tables) → AreDumped lines tables → tables.pairs ≡ pairs_in lines
pairs_are lines tables are =
    let entries = rows_from table_tellings 0 tables.maps in
    let strings = rows_from string_tellings 0 tables.funcs in
    sym (pairs_tellings lines
    ∙ ap (flat_map pairs_by) are.tell
    ∙ flat_map-append pairs_by entries (strings ++ map compose tables.pairs)
    ∙ ap (λ ps. ps ++ flat_map pairs_by (strings ++ map compose tables.pairs)) (no_pairs table_tellings tables.maps None (λ t h. table_pairs t (get_or tables.maps t None)))
    ∙ flat_map-append pairs_by strings (map compose tables.pairs)
    ∙ ap (λ ps. ps ++ flat_map pairs_by (map compose tables.pairs)) (no_pairs string_tellings tables.funcs [] (λ i h. string_pairs i (get_or tables.funcs i [])))
    ∙ composed tables.pairs)
