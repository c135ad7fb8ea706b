-- The callers of a session that have a program, and the hooks of its processes.
use Rattle.std.proofs.Common.{◌≡◌, ℕ, ◌+◌, ◌-◌, ◌<◌, ◌≤◌, zero, suc, Bool, true, false, cond, arith, List, [], ◌∷◌, ◌++◌, filter, get_or, length, take, Option, Some, None, refl, sym, ap, ◌∙◌, subst}
use Rattle.std.proofs.lemmas.List.{append-nil, map-id, take_more}
use Rattle.std.proofs.lemmas.List.Elements.{All-filter, All-head, All-tail, filter_map-append, filter_passes}
use Rattle.std.proofs.lemmas.List.FromFn.{filter_of_map_range_with_len_more, get_or-range_with_len, length-range_with_len}
use Rattle.std.proofs.lemmas.List.Kept.{IsStrictlyIncreasing-filter}
use Rattle.std.proofs.lemmas.Option.{none-some, same_Some}
use Rattle.std.specs.List.{All, range_with_len}
use Rattle.std.specs.List.Sorted.{IsStrictlyIncreasing}
use Rattle.std.specs.Prelude.{filter_map, is_some, option_map, slice_get}
use Rattle.session_run.specs.Callers.{HasHook, callers_in, has_program}
use Rattle.session_run.specs.Runs.{HasHooks, table_of}
use Rattle.session_text.proofs.WhosePrograms.{script_at}
use Rattle.session_text.specs.Programs.{program_by, program_of}
use Rattle.session_text.specs.Sessions.{ArePrograms, IsKeysProgram, IsScriptProgram}
use Rattle.session_text.specs.Walks.{HasActs}
use Rattle.session_text.specs.declared.program.Program.{Program}
use Rattle.session_text.specs.declared.program.Program.TheVariants as program
use Rattle.sig_hooks.specs.declared.act.Act.{Act}
use Rattle.vt_base.specs.Keyboards.{keyboard_of}

every_place : (k d : ℕ) → k < 68 → get_or (range_with_len 0 68) k d ≡ k
every_place k d within = get_or-range_with_len 0 68 k d within ∙ (let e : 0 + k ≡ k = omega arith in e)

within_all : (k : ℕ) → k < length (range_with_len 0 68) → k < 68
within_all k within = omega (arith, within, length-range_with_len 0 68)

-- each of them has a program
pub caller_known : (programs : List Program) (i : ℕ) → i < length (callers_in programs)
    → (has_program programs (get_or (callers_in programs) i 0) ≡ true) × (get_or (callers_in programs) i 0 ≤ 67)
unfolding callers_in
caller_known programs i within = (
  filter_passes (has_program programs) (range_with_len 0 68) i 0 within,
  All-filter (has_program programs) (λ p. p ≤ 67) (range_with_len 0 68)
      (λ k d inside. omega (arith, every_place k d (within_all k inside), within_all k inside)) i 0 within,
)

-- an element that is kept has a place
longer : (b : Bool) (x y : ℕ) (ys : List ℕ)
    → (i : ℕ) × (i < length ys) × (get_or ys i 0 ≡ y)
    → (i : ℕ) × (i < length (cond b (x ∷ ys) ys)) × (get_or (cond b (x ∷ ys) ys) i 0 ≡ y)
longer true x y ys at = (suc at.0, omega (arith, at.1), at.2)
longer false x y ys at = at

kept : (f : ℕ → Bool) (xs : List ℕ) (j : ℕ) → j < length xs → f (get_or xs j 0) ≡ true
    → (i : ℕ) × (i < length (filter f xs)) × (get_or (filter f xs) i 0 ≡ get_or xs j 0)
kept f [] j within is = absurd (let no : ⊥ = omega (arith, within) in no)
kept f (x ∷ xs) zero within is =
    subst (λ b. (i : ℕ) × (i < length (cond b (x ∷ filter f xs) (filter f xs))) × (get_or (cond b (x ∷ filter f xs) (filter f xs)) i 0 ≡ x)) (sym is)
    (0, omega arith, refl)
kept f (x ∷ xs) (suc j) within is =
    longer (f x) x (get_or xs j 0) (filter f xs) (kept f xs j (omega (arith, within)) is)

-- a caller with a program is one of them
pub caller_at : (programs : List Program) (p : ℕ) → p ≤ 67 → has_program programs p ≡ true
    → (i : ℕ) × (i < length (callers_in programs)) × (get_or (callers_in programs) i 0 ≡ p)
unfolding callers_in
caller_at programs p low has =
    let here : get_or (range_with_len 0 68) p 0 ≡ p = every_place p 0 (omega (arith, low)) in
    let inside : p < length (range_with_len 0 68) = omega (arith, low, length-range_with_len 0 68) in
    let at = kept (has_program programs) (range_with_len 0 68) p inside (ap (has_program programs) here ∙ has) in
    (at.0, at.1, at.2 ∙ here)

pub callers_rise : (programs : List Program) → IsStrictlyIncreasing (callers_in programs)
unfolding callers_in
callers_rise programs =
    IsStrictlyIncreasing-filter (has_program programs) (range_with_len 0 68)
    (λ k within.
    let next : k + 1 < 68 = within_all (k + 1) within in
    let low : k < 68 = omega (arith, next) in
    omega (arith, every_place k 0 low, every_place (k + 1) 0 next))

-- the tables of scripts stand at their places
acts_there : (scripts rest : List Program) (k : ℕ) (p : Program) → All IsScriptProgram scripts
    → slice_get scripts k ≡ Some p
    → (k < length (filter_map table_of (scripts ++ rest)))
    × HasActs p (get_or (filter_map table_of (scripts ++ rest)) k [])
acts_there [] rest k p are is = absurd (none-some p is)
acts_there (program.Keys bytes ∷ scripts) rest k p are is =
    absurd (All-head IsScriptProgram (program.Keys bytes) scripts are)
acts_there (program.Script items acts ∷ scripts) rest zero p are is =
    (omega arith, subst (λ x. HasActs x acts) (same_Some (program.Script items acts) p is) refl)
acts_there (program.Script items acts ∷ scripts) rest (suc k) p are is =
    let behind = acts_there scripts rest k p (All-tail IsScriptProgram (program.Script items acts) scripts are) is in
    (omega (arith, behind.0), behind.1)

no_table : (p : Program) (others : List Program) → IsKeysProgram p
    → filter_map table_of (p ∷ others) ≡ filter_map table_of others
no_table (program.Keys bytes) others is = refl
no_table (program.Script items acts) others is = absurd is

not_first : (p : ℕ) → keyboard_of p ≡ None → p ≡ 0 → ⊥
not_first p none same = none-some 0 (sym none ∙ ap keyboard_of same)

-- the hooks of a session's processes are at the places of their numbers
pub hook_at : {processes keyboards : ℕ} {programs : List Program} {tables : List (List Act)}
    → ArePrograms processes keyboards programs → HasHooks programs tables
    → (p : ℕ) (program : Program) → program_of programs p ≡ Some program → HasHook tables p program
hook_at {processes} {keyboards} {programs} {tables} a has p program is none =
    let there : slice_get a.scripts (p - 1) ≡ Some program =
    sym (script_at processes keyboards programs a p (not_first p none)) ∙ ap (program_by programs p) (sym none) ∙ is in
    let same : tables ≡ filter_map table_of (a.scripts ++ a.further) =
    has.acts ∙ ap (filter_map table_of) a.are ∙ no_table a.first (a.scripts ++ a.further) (All-head IsKeysProgram a.first a.further a.each_keys) in
    let acts = acts_there a.scripts a.further (p - 1) program a.each_script there in
    subst (λ ts. (p - 1 < length ts) × HasActs program (get_or ts (p - 1) [])) (sym same) acts

-- one number more of them, or one that is left out
filter_more : (f : ℕ → Bool) (n : ℕ)
    → filter f (range_with_len 0 (n + 1)) ≡ filter f (range_with_len 0 n) ++ cond (f n) (n ∷ []) []
filter_more f n =
    sym (ap (filter f) (map-id (range_with_len 0 (n + 1))))
    ∙ filter_of_map_range_with_len_more f (λ x. x) 0 n n (let e : 0 + n ≡ n = omega arith in e)
    ∙ ap (λ xs. filter f xs ++ cond (f n) (n ∷ []) []) (map-id (range_with_len 0 n))

pub caller_more : (programs : List Program) (n p : ℕ) (old new : List ℕ) → p ≡ n → has_program programs p ≡ true
    → old ≡ filter (has_program programs) (range_with_len 0 n) → new ≡ old ++ p ∷ []
    → new ≡ filter (has_program programs) (range_with_len 0 (n + 1))
caller_more programs n p old new same has is pushed =
    let here : has_program programs n ≡ true = ap (has_program programs) (sym same) ∙ has in
    pushed
    ∙ (λ i. is i ++ same i ∷ [])
    ∙ ap (λ b. filter (has_program programs) (range_with_len 0 n) ++ cond b (n ∷ []) []) (sym here)
    ∙ sym (filter_more (has_program programs) n)

pub caller_less : (programs : List Program) (n p : ℕ) (old : List ℕ) → p ≡ n → has_program programs p ≡ false
    → old ≡ filter (has_program programs) (range_with_len 0 n)
    → old ≡ filter (has_program programs) (range_with_len 0 (n + 1))
caller_less programs n p old same hasnt is =
    let here : has_program programs n ≡ false = ap (has_program programs) (sym same) ∙ hasnt in
    is
    ∙ sym (append-nil (filter (has_program programs) (range_with_len 0 n)))
    ∙ ap (λ b. filter (has_program programs) (range_with_len 0 n) ++ cond b (n ∷ []) []) (sym here)
    ∙ sym (filter_more (has_program programs) n)

pub callers_are : (programs : List Program) (n : ℕ) (list : List ℕ) → n ≡ 68
    → list ≡ filter (has_program programs) (range_with_len 0 n) → list ≡ callers_in programs
unfolding callers_in
callers_are programs n list end is = is ∙ ap (λ k. filter (has_program programs) (range_with_len 0 k)) end

-- whether there is a program, by the search's result
pub found_tells : {X : Type 0} (f : X → Program) (programs : List Program) (p : ℕ) (found : Option X)
    → option_map f found ≡ program_of programs p → is_some found ≡ has_program programs p
found_tells f programs p None is = ap is_some is
found_tells f programs p (Some x) is = ap is_some is

-- one table more, or none
pub tables_more : (programs : List Program) (i : ℕ) (p : Program) (old : List (List Act)) → i < length programs
    → p ≡ get_or programs i p → old ≡ filter_map table_of (take i programs)
    → old ++ filter_map table_of (p ∷ []) ≡ filter_map table_of (take (i + 1) programs)
tables_more programs i p old within read is =
    (λ j. is j ++ filter_map table_of (p ∷ []))
    ∙ sym (filter_map-append table_of (take i programs) (p ∷ []))
    ∙ ap (filter_map table_of) (ap (λ q. take i programs ++ q ∷ []) read ∙ sym (take_more programs i p within))
