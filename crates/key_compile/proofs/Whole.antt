-- The common result of the steps of compiling.
use Rattle.std.proofs.Common.{◌≡◌, ◌≢◌, ℕ, suc, zero, ◌+◌, ◌<◌, ◌≤◌, Bool, true, false, ◌==◌, ◌&&◌, ◌||◌, cond, nat_le, nat_lt, Option, Some, None, unwrap_or, List, [], ◌∷◌, length, get_or, length-append, refl, ap, ◌∙◌, inl, inr, arith, rules}
use Rattle.std.proofs.Math.Bool.{and-false, or-false}
use Rattle.std.proofs.lemmas.Bool.{cases_lt, false≢true, le-leb, lt-leb, lt-ltb, ltb-false}
use Rattle.std.proofs.lemmas.Bool.Decides.{eqb_tells}
use Rattle.std.proofs.lemmas.List.Folds.{list_any-append}
use Rattle.std.specs.List.{list_any, slice_index_or}
use Rattle.std.specs.Option.{option_map, option_or}
use Rattle.key_syms.specs.Act.{Act, act}
use Rattle.key_syms.specs.Kinds.{HOLE, META}
use Rattle.key_syms.specs.declared.pair.Pair.{Pair}
use Rattle.key_tables.specs.Tables.{IsEmpty, IsWhole, Tables, entry_of, exists_in, func_of, hole, with_pairs}
use Rattle.key_text.specs.KeymapLine.{LineMeaning, KeymapLine, keymaps, keys, one, string, compose, alt_is_meta, usual_strings, usual_pairs}
use Rattle.key_text.specs.declared.fault.KeyFault.{KeyFault}
use Rattle.key_compile.specs.Compiled.{AreStart, AreTablesOf}
use Rattle.key_compile.specs.Entries.{last_action, entry_in, is_alt, is_ascii_act, line_entry, meta_over}
use Rattle.key_compile.specs.Faults.{at_line, compile_fault, fault_of, first_fault, is_key, pairs_fault, pairs_of_line}
use Rattle.key_compile.specs.Metas.{meta_at, meta_of, metas_below}
use Rattle.key_compile.specs.Pairs.{pairs_by, pairs_in, usual}
use Rattle.key_compile.specs.Puts.{Puts, PutsTexts}
use Rattle.key_compile.specs.Strings.{last_text}
use Rattle.key_compile.specs.Union.{IsSetOf, is_declared, passing_below, union_of}
use Rattle.key_compile.proofs.Marking.{passing_below_none, passing_below-suc}
use Rattle.key_compile.proofs.Steps.{puts_exist}

any_of : (test : ℕ → Bool) (b : Bool) (n : ℕ) → list_any test (cond b (n ∷ []) []) ≡ (b && test n)
any_of test true n = search rules
any_of test false n = refl

any_suc : (test pass : ℕ → Bool) (n : ℕ) → list_any test (passing_below pass (suc n)) ≡ (list_any test (passing_below pass n) || (pass n && test n))
any_suc test pass n =
    grind (arith, passing_below-suc, list_any-append, any_of)

-- which numbers are among those that pass
none_from : (pass : ℕ → Bool) (n t : ℕ) → n ≤ t → list_any (λ d. d == t) (passing_below pass n) ≡ false
none_from pass zero t h = ap (list_any (λ d. d == t)) (passing_below_none pass)
none_from pass (suc n) t h =
    any_suc (λ d. d == t) pass n
    ∙ ap (λ b. b || (pass n && (n == t))) (none_from pass n t (omega arith))
    ∙ (elim (eqb_tells n t) [
      | inl e ↦ absurd (let same : n ≡ t = e.1 in omega arith)
      | inr e ↦ ap (λ b. pass n && b) e.0 ∙ and-false (pass n)
    ])

among : (pass : ℕ → Bool) (n t : ℕ) → t < n → list_any (λ d. d == t) (passing_below pass n) ≡ pass t
among pass zero t h = absurd (omega arith)
among pass (suc n) t h = any_suc (λ d. d == t) pass n ∙ (elim (eqb_tells n t) [
  | inl e ↦
      grind (arith, none_from)
  | inr e ↦
      ap (λ b. list_any (λ d. d == t) (passing_below pass n) || (pass n && b)) e.0
      ∙ ap (λ b. list_any (λ d. d == t) (passing_below pass n) || b) (and-false (pass n))
      ∙ or-false (list_any (λ d. d == t) (passing_below pass n))
      ∙ among pass n t (let other : n ≢ t = e.1 in omega arith)
])

pub start_of : (lines : List KeymapLine) (marks : List Bool) (declared : List ℕ) (k : Tables) → IsSetOf marks (is_declared lines) → declared ≡ passing_below (λ t. slice_index_or marks t false) 256 → IsEmpty declared k → AreStart lines k
start_of lines marks declared k set e empty = search (rules, among)

no_fault : (l : KeymapLine) (x : Option ℕ) (y : Option KeyFault) → option_or (option_map (at_line l) x) y ≡ None → (x ≡ None) × (y ≡ None)
no_fault l None y e = (refl, e)
no_fault l (Some kind) y e = let f : Some (at_line l kind) ≡ None = e in cc

no_choice : (b : Bool) (kind : ℕ) → cond b (Some kind) None ≡ None → b ≡ false
no_choice true kind e = let f : Some kind ≡ None = e in cc
no_choice false kind e = refl

length-usual : length usual ≡ 66
unfolding usual
length-usual = refl

few_of : (count : ℕ) → pairs_fault count ≡ None → count ≤ 256
few_of count e = ltb-false 256 count (no_choice (nat_lt 256 count) 10 e)

few : (n : ℕ) (seen : Bool) (count : ℕ) (meaning : LineMeaning) → fault_of n seen count meaning ≡ None → count ≤ 256 → (count + pairs_of_line meaning ≤ 256) × (length (pairs_by meaning) ≡ pairs_of_line meaning)
few n seen count (keymaps tables) e h = (omega arith, refl)
few n seen count (keys code actions) e h = (omega arith, refl)
few n seen count (one table code action) e h = (omega arith, refl)
few n seen count (string func bytes) e h = (omega arith, refl)
few n seen count (compose pair) e h = (few_of (count + 1) e, refl)
few n seen count alt_is_meta e h = (omega arith, refl)
few n seen count usual_strings e h = (omega arith, refl)
few n seen count usual_pairs e h = (few_of (count + 66) e, length-usual)

pairs_few : (n : ℕ) (seen : Bool) (count : ℕ) (lines : List KeymapLine) → first_fault n seen count lines ≡ None → count ≤ 256 → count + length (pairs_in lines) ≤ 256
pairs_few n seen count [] e h = omega arith
pairs_few n seen count (l ∷ ls) e h =
    let parts = no_fault l (fault_of n seen count l.meaning) (first_fault n (seen || is_key l.meaning) (count + pairs_of_line l.meaning) ls) e in
    let these = few n seen count l.meaning parts.0 h in
    let rest = pairs_few n (seen || is_key l.meaning) (count + pairs_of_line l.meaning) ls parts.1 these.0 in
    let long = length-append (pairs_by l.meaning) (pairs_in ls) in
    together count (length (pairs_in (l ∷ ls))) (length (pairs_by l.meaning)) (length (pairs_in ls)) (pairs_of_line l.meaning) long these.1 rest
  where
    together : (count all first others adds : ℕ) → all ≡ first + others → first ≡ adds → count + adds + others ≤ 256 → count + all ≤ 256
    together count all first others adds p q r = omega arith

pub pairs_fit : (lines : List KeymapLine) (pairs : List Pair) → pairs ≡ pairs_in lines → compile_fault lines ≡ None → length pairs ≤ 256
unfolding compile_fault
pairs_fit lines pairs e good = omega (arith, pairs_few (length (union_of lines)) false 0 lines good (omega arith), ap length e)

-- the entries that the lines decide
entry_first : (lines : List KeymapLine) (union : List ℕ) (k0 k1 : Tables) → AreStart lines k0 → union ≡ union_of lines → Puts (last_action union lines) k0 k1 → (t c : ℕ) → t < 256 → entry_of k1 t c ≡ cond (is_declared lines t) (Some (line_entry lines t c)) None
unfolding line_entry
entry_first lines union k0 k1 start e puts t c h =
    puts.entries t c
    ∙ ap (option_map (λ a. unwrap_or (last_action union lines t c) a)) (start.entries t c ∙ ap (λ b. cond b (Some hole) None) (start.exist t h))
    ∙ mapped (is_declared lines t) (last_action union lines t c)
    ∙ ap (λ us. cond (is_declared lines t) (Some (unwrap_or (last_action us lines t c) hole)) None) e
  where
    mapped : (b : Bool) (g : Option Act) → option_map (λ a. unwrap_or g a) (cond b (Some hole) None) ≡ cond b (Some (unwrap_or g hole)) None
    mapped true g = refl
    mapped false g = refl

-- the entry with what `alt_is_meta` gives
with_meta : (alt range under : Bool) (below a : Act) (m : Option Act) → (range ≡ true → m ≡ meta_of (cond under (Some below) None) (Some a)) → unwrap_or (cond alt (cond range m None) None) a ≡ cond (alt && range && under) (meta_over below a) a
with_meta false range under below a m e = refl
with_meta true false under below a m e = refl
with_meta true true under below a m e = ap (λ x. unwrap_or x a) (e refl) ∙ settled under
  where
    chosen : (b : Bool) → unwrap_or (cond b (Some (act META below.value)) None) a ≡ cond b (act META below.value) a
    chosen true = refl
    chosen false = refl

    settled : (u : Bool) → unwrap_or (meta_of (cond u (Some below) None) (Some a)) a ≡ cond u (meta_over below a) a
    settled true = chosen (a.kind == HOLE && is_ascii_act below)
    settled false = refl

range_low : (t : ℕ) → (nat_le 8 t && nat_lt t 16) ≡ true → 8 ≤ t
range_low t e = grind (arith, cases_lt, false≢true, lt-leb)

meta_there : (k : Tables) (t c : ℕ) → 1 ≤ c → c < 256 → meta_at k t c ≡ meta_of (entry_of k t c) (entry_of k (t + 8) c)
unfolding meta_at
meta_there k t c h j =
    cc (le-leb 1 c h, lt-ltb c 256 j)

entry_last : (lines : List KeymapLine) (k1 k2 : Tables) → ((t c : ℕ) → t < 256 → entry_of k1 t c ≡ cond (is_declared lines t) (Some (line_entry lines t c)) None) → Puts (λ t c. cond (list_any (λ l. is_alt l.meaning) lines) (metas_below k1 8 t c) None) k1 k2 → (t c : ℕ) → t < 256 → 1 ≤ c → c < 256 → entry_of k2 t c ≡ cond (is_declared lines t) (Some (entry_in lines t c)) None
unfolding entry_in metas_below
entry_last lines k1 k2 first metas t c h i j =
    grind (arith, with_meta, range_low, meta_there)

pub finish : (lines : List KeymapLine) (union : List ℕ) (pairs : List Pair) (k0 k1 k2 k3 k4 : Tables) → AreStart lines k0 → union ≡ union_of lines → Puts (last_action union lines) k0 k1 → Puts (λ t c. cond (list_any (λ l. is_alt l.meaning) lines) (metas_below k1 8 t c) None) k1 k2 → PutsTexts (last_text lines) k2 k3 → k4 ≡ with_pairs k3 pairs → pairs ≡ pairs_in lines → IsWhole k4 → AreTablesOf lines k4
finish lines union pairs k0 k1 k2 k3 k4 start e puts metas texts is same whole = record {
  whole = whole;
  exist = λ t h.
      ap (λ maps. exists_in (record { maps = maps; funcs = []; pairs = [] }) t) (ap (λ (k : Tables). k.maps) is ∙ texts.maps)
      ∙ puts_exist (λ u d. cond (list_any (λ l. is_alt l.meaning) lines) (metas_below k1 8 u d) None) k1 k2 metas t
      ∙ puts_exist (last_action union lines) k0 k1 puts t
      ∙ start.exist t h;
  entries = λ t c h i j.
      ap (λ maps. entry_of (record { maps = maps; funcs = []; pairs = [] }) t c) (ap (λ (k : Tables). k.maps) is ∙ texts.maps)
      ∙ entry_last lines k1 k2 (entry_first lines union k0 k1 start e puts) metas t c h i j;
  strings = λ n.
      ap (λ (k : Tables). func_of k n) is
      ∙ texts.texts n
      ∙ ap (λ funcs. unwrap_or (last_text lines n) (get_or funcs n [])) (metas.funcs ∙ puts.funcs)
      ∙ ap (unwrap_or (last_text lines n)) (start.funcs n);
  pairs = ap (λ (k : Tables). k.pairs) is ∙ same;
}
