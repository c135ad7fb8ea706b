-- The tables of lines have a table, and pairs of characters.
use Rattle.std.proofs.Common.{◌≡◌, ℕ, suc, ◌<◌, Bool, true, false, ◌||◌, cond, is_some, IsTrue, List, [], ◌∷◌, length, get_or, refl, sym, ap, ◌∙◌, arith, rules}
use Rattle.std.proofs.lemmas.Bool.{and_from, and_parts, eqb-true, false≢true, or_left, or_right}
use Rattle.std.proofs.lemmas.List.Elements.{All-head, All-tail}
use Rattle.std.proofs.lemmas.List.Folds.{list_all-append, list_any_at}
use Rattle.std.specs.List.{list_all, list_any}
use Rattle.key_tables.specs.Tables.{Tables}
use Rattle.key_text.specs.KeymapLine.{LineMeaning, KeymapLine, alt_is_meta, compose, is_fit, is_real, keymaps, keys, one, string, usual_pairs, usual_strings}
use Rattle.key_compile.specs.Compiled.{AreTablesOf}
use Rattle.key_compile.specs.Dumpable.{AreFit, CompiledAreDumpable}
use Rattle.key_compile.specs.Pairs.{pairs_by, pairs_in, usual}
use Rattle.key_compile.specs.Union.{in_union, is_declared, is_keymaps, is_usual_table, names_table}

-- a table that a test names
abbrev pub SomeTable : (ℕ → Bool) → Type 0
SomeTable test = (t : ℕ) × (t < 256) × (test t ≡ true)

some_at : (tables : List Bool) → list_any (λ has. has) tables ≡ true → (k : ℕ) × (k < length tables) × (get_or tables k false ≡ true)
some_at [] e = absurd (false≢true e)
some_at (true ∷ tables) e = (0, omega arith, refl)
some_at (false ∷ tables) e = let rest = some_at tables e in (suc rest.0, omega (arith, rest.1), rest.2)

named_by : (meaning : LineMeaning) → is_keymaps meaning ≡ true → IsTrue (is_fit meaning) → SomeTable (λ t. names_table t meaning)
named_by (keymaps tables) e fit =
    grind (arith, and_parts, some_at, eqb-true)
named_by (keys code actions) e fit = absurd (false≢true e)
named_by (one table code action) e fit = absurd (false≢true e)
named_by (string func bytes) e fit = absurd (false≢true e)
named_by (compose pair) e fit = absurd (false≢true e)
named_by alt_is_meta e fit = absurd (false≢true e)
named_by usual_strings e fit = absurd (false≢true e)
named_by usual_pairs e fit = absurd (false≢true e)

named_in : (lines : List KeymapLine) → AreFit lines → list_any (λ l. is_keymaps l.meaning) lines ≡ true → SomeTable (λ t. list_any (λ l. names_table t l.meaning) lines)
named_in [] fit e = absurd (false≢true e)
named_in (l ∷ ls) fit e = by_first (named_in ls (All-tail (λ l. IsTrue (is_fit l.meaning)) l ls fit)) (is_keymaps l.meaning) refl
  where
    by_first : (list_any (λ l. is_keymaps l.meaning) ls ≡ true → SomeTable (λ t. list_any (λ l. names_table t l.meaning) ls)) → (b : Bool) → is_keymaps l.meaning ≡ b → SomeTable (λ t. list_any (λ l. names_table t l.meaning) (l ∷ ls))
    by_first rest true first =
        let found = named_by l.meaning first (All-head (λ l. IsTrue (is_fit l.meaning)) l ls fit) in
        (found.0, found.1, or_left (names_table found.0 l.meaning) (list_any (λ l. names_table found.0 l.meaning) ls) found.2)
    by_first rest false other =
        let found = rest (sym (ap (λ b. b || list_any (λ l. is_keymaps l.meaning) ls) other) ∙ e) in
        (found.0, found.1, or_right (names_table found.0 l.meaning) (list_any (λ l. names_table found.0 l.meaning) ls) found.2)

union_some : (lines : List KeymapLine) → AreFit lines → SomeTable (in_union lines)
unfolding in_union
union_some lines fit = by_test (named_in lines fit) (list_any (λ l. is_keymaps l.meaning) lines) refl
  where
    by_test : (list_any (λ l. is_keymaps l.meaning) lines ≡ true → SomeTable (λ t. list_any (λ l. names_table t l.meaning) lines)) → (b : Bool) → list_any (λ l. is_keymaps l.meaning) lines ≡ b → SomeTable (λ t. cond b (list_any (λ l. names_table t l.meaning) lines) (is_usual_table t))
    by_test named true e = named e
    by_test named false e = (0, omega arith, refl)

declared_some : (lines : List KeymapLine) → AreFit lines → SomeTable (is_declared lines)
unfolding is_declared
declared_some lines fit =
    search (rules, union_some, or_left)

has_table : (lines : List KeymapLine) (tables : Tables) → AreFit lines → AreTablesOf lines tables → list_any is_some tables.maps ≡ true
has_table lines tables fit are =
    grind (arith, declared_some, list_any_at, is_some)

usual_real : list_all is_real usual ≡ true
unfolding usual
usual_real = refl

pairs_real : (meaning : LineMeaning) → IsTrue (is_fit meaning) → list_all is_real (pairs_by meaning) ≡ true
pairs_real (keymaps tables) fit = refl
pairs_real (keys code actions) fit = refl
pairs_real (one table code action) fit = refl
pairs_real (string func bytes) fit = refl
pairs_real (compose pair) fit = and_from (is_real pair) true fit refl
pairs_real alt_is_meta fit = refl
pairs_real usual_strings fit = refl
pairs_real usual_pairs fit = usual_real

all_real : (lines : List KeymapLine) → AreFit lines → list_all is_real (pairs_in lines) ≡ true
all_real [] fit = refl
all_real (l ∷ ls) fit =
    list_all-append is_real (pairs_by l.meaning) (pairs_in ls)
    ∙ and_from (list_all is_real (pairs_by l.meaning)) (list_all is_real (pairs_in ls))
    (pairs_real l.meaning (All-head (λ l. IsTrue (is_fit l.meaning)) l ls fit))
    (all_real ls (All-tail (λ l. IsTrue (is_fit l.meaning)) l ls fit))

pub compiled_are_dumpable : CompiledAreDumpable
compiled_are_dumpable lines tables fit are =
    grind (arith, and_from, is_some, has_table, all_real)
