-- The program of each caller among a session's programs.
use Rattle.std.proofs.Common.{◌≡◌, ℕ, ◌+◌, ◌-◌, ◌<◌, ◌≤◌, zero, suc, true, false, ◌&&◌, nat_le, nat_lt, cond, ⊎_elim, List, [], ◌∷◌, ◌++◌, filter, length, Some, None, refl, sym, ap, ◌∙◌, arith}
use Rattle.std.proofs.lemmas.Bool.{cases_Bool, cases_eq, le-leb, ltb-true, ne_eqb, or_left}
use Rattle.std.proofs.lemmas.Bool.Decides.{nat_tests}
use Rattle.std.proofs.lemmas.List.Elements.{All-head, All-tail, filter-append}
use Rattle.std.specs.List.{All}
use Rattle.std.specs.Prelude.{is_some, slice_get}
use Rattle.session_text.specs.Programs.{is_keys, program_by, program_of, script_in}
use Rattle.session_text.specs.Sessions.{ArePrograms, CallersHavePrograms, IsKeysProgram, IsScriptProgram}
use Rattle.session_text.specs.Turns.{is_there}
use Rattle.session_text.specs.declared.program.Program.{Program}
use Rattle.session_text.specs.declared.program.Program.TheVariants as program

is_script_there : (p : Program) → IsScriptProgram p → script_in (Some p) ≡ Some p
is_script_there (program.Keys bytes) is = absurd is
is_script_there (program.Script items table) is = refl

no_keys : (p : Program) → IsScriptProgram p → is_keys p ≡ false
no_keys (program.Keys bytes) is = absurd is
no_keys (program.Script items table) is = refl

no_script : (p : Program) → IsKeysProgram p → script_in (Some p) ≡ None
no_script (program.Keys bytes) is = refl
no_script (program.Script items table) is = absurd is

are_keys : (p : Program) → IsKeysProgram p → is_keys p ≡ true
are_keys (program.Keys bytes) is = refl
are_keys (program.Script items table) is = absurd is

-- the programs of keyboards contain no script
no_scripts : (keys : List Program) (k : ℕ) → All IsKeysProgram keys → script_in (slice_get keys k) ≡ None
no_scripts [] k are = refl
no_scripts (p ∷ keys) zero are = no_script p (All-head IsKeysProgram p keys are)
no_scripts (p ∷ keys) (suc k) are = no_scripts keys k (All-tail IsKeysProgram p keys are)

scripts_at : (scripts keys : List Program) (k : ℕ) → All IsScriptProgram scripts → All IsKeysProgram keys
    → script_in (slice_get (scripts ++ keys) k) ≡ slice_get scripts k
scripts_at [] keys k scripts_are keys_are = no_scripts keys k keys_are
scripts_at (p ∷ scripts) keys zero scripts_are keys_are =
    is_script_there p (All-head IsScriptProgram p scripts scripts_are)
scripts_at (p ∷ scripts) keys (suc k) scripts_are keys_are =
    scripts_at scripts keys k (All-tail IsScriptProgram p scripts scripts_are) keys_are

scripts_left : (scripts : List Program) → All IsScriptProgram scripts → filter is_keys scripts ≡ []
scripts_left [] are = refl
scripts_left (p ∷ scripts) are =
    ap (λ b. cond b (p ∷ filter is_keys scripts) (filter is_keys scripts)) (no_keys p (All-head IsScriptProgram p scripts are))
    ∙ scripts_left scripts (All-tail IsScriptProgram p scripts are)

keys_stay : (keys : List Program) → All IsKeysProgram keys → filter is_keys keys ≡ keys
keys_stay [] are = refl
keys_stay (p ∷ keys) are =
    ap (λ b. cond b (p ∷ filter is_keys keys) (filter is_keys keys)) (are_keys p (All-head IsKeysProgram p keys are))
    ∙ ap (λ ps. p ∷ ps) (keys_stay keys (All-tail IsKeysProgram p keys are))

-- the programs of scan bytes in order
pub keys_in : (processes keyboards : ℕ) (list : List Program) (a : ArePrograms processes keyboards list)
    → filter is_keys list ≡ a.first ∷ a.further
keys_in processes keyboards list a =
    let further : All IsKeysProgram a.further = All-tail IsKeysProgram a.first a.further a.each_keys in
    ap (filter is_keys) a.are
    ∙ ap (λ b. cond b (a.first ∷ filter is_keys (a.scripts ++ a.further)) (filter is_keys (a.scripts ++ a.further)))
    (are_keys a.first (All-head IsKeysProgram a.first a.further a.each_keys))
    ∙ ap (λ ps. a.first ∷ ps)
    (filter-append is_keys a.scripts a.further
    ∙ (λ i. scripts_left a.scripts a.each_script i ++ keys_stay a.further further i))

-- the script of a process
pub script_at : (processes keyboards : ℕ) (list : List Program) (a : ArePrograms processes keyboards list) (p : ℕ)
    → (p ≡ 0 → ⊥) → script_in (slice_get list p) ≡ slice_get a.scripts (p - 1)
script_at processes keyboards list a zero apart = absurd (apart refl)
script_at processes keyboards list a (suc k) apart =
    let same : k ≡ suc k - 1 = omega arith in
    ap (λ ps. script_in (slice_get ps (suc k))) a.are
    ∙ scripts_at a.scripts a.further k a.each_script (All-tail IsKeysProgram a.first a.further a.each_keys)
    ∙ ap (slice_get a.scripts) same

some_within : (list : List Program) (k : ℕ) → is_some (slice_get list k) ≡ nat_lt k (length list)
some_within [] k = grind (arith, nat_tests)
some_within (p ∷ list) zero = grind (arith, nat_tests)
some_within (p ∷ list) (suc k) = some_within list k ∙ grind (arith, nat_tests)

-- a caller above 64 is there if it is one of the keyboards
there_above : (processes keyboards p : ℕ) → processes ≤ 64 → 64 < p
    → nat_lt (p - 64) keyboards ≡ is_there processes keyboards p
there_above processes keyboards p few high = grind (arith, nat_tests)

-- a caller from 1 to 64 is there if it is one of the processes
there_below : (processes keyboards p : ℕ) → (p ≡ 0 → ⊥) → nat_lt 64 p ≡ false
    → nat_lt (p - 1) processes ≡ is_there processes keyboards p
there_below processes keyboards p apart low = grind (arith, nat_tests)

-- the program of another caller than the first keyboard
program_past : (list : List Program) (p : ℕ) → (p ≡ 0 → ⊥)
    → program_of list p ≡ program_by list p (cond (nat_lt 64 p) (Some (p - 64)) None)
program_past list p apart =
    ap (λ b. program_by list p (cond b (Some 0) (cond (nat_lt 64 p) (Some (p - 64)) None))) (ne_eqb p 0 apart)

-- the first keyboard has a program
pub some_first : (processes keyboards : ℕ) (list : List Program) → ArePrograms processes keyboards list
    → is_some (program_of list 0) ≡ true
some_first processes keyboards list a =
    ap (λ ps. is_some (slice_get ps 0)) (keys_in processes keyboards list a)

-- a further keyboard that is there has a program
pub some_keyboard : (processes keyboards : ℕ) (list : List Program) → ArePrograms processes keyboards list
    → (p : ℕ) → nat_lt 64 p ≡ true → is_some (program_of list p) ≡ nat_lt (p - 64) keyboards
some_keyboard processes keyboards list a p high =
    let many : length (a.first ∷ a.further) ≡ keyboards = omega (arith, a.many_keys) in
    let apart : p ≡ 0 → ⊥ = λ same. omega (arith, ltb-true 64 p high, same) in
    ap is_some (program_past list p apart)
    ∙ ap (λ b. is_some (program_by list p (cond b (Some (p - 64)) None))) high
    ∙ ap (λ ps. is_some (slice_get ps (p - 64))) (keys_in processes keyboards list a)
    ∙ some_within (a.first ∷ a.further) (p - 64)
    ∙ ap (nat_lt (p - 64)) many

-- a process that is there has a program
pub some_process : (processes keyboards : ℕ) (list : List Program) → ArePrograms processes keyboards list
    → (p : ℕ) → (p ≡ 0 → ⊥) → nat_lt 64 p ≡ false
    → is_some (program_of list p) ≡ nat_lt (p - 1) processes
some_process processes keyboards list a p apart low =
    ap is_some (program_past list p apart)
    ∙ ap (λ b. is_some (program_by list p (cond b (Some (p - 64)) None))) low
    ∙ ap is_some (script_at processes keyboards list a p apart)
    ∙ some_within a.scripts (p - 1)
    ∙ ap (nat_lt (p - 1)) a.many_scripts

pub callers_have_programs : CallersHavePrograms
callers_have_programs processes keyboards list few a p = ⊎_elim
    (λ first.
    ap (λ q. is_some (program_of list q)) first
    ∙ some_first processes keyboards list a
    ∙ sym (or_left (nat_le 0 processes) (nat_lt 64 0 && nat_lt 0 (64 + keyboards)) (le-leb 0 processes (omega arith)))
    ∙ ap (is_there processes keyboards) (sym first))
    (λ apart. ⊎_elim
    (λ high. some_keyboard processes keyboards list a p high
    ∙ there_above processes keyboards p few (ltb-true 64 p high))
    (λ low. some_process processes keyboards list a p apart low ∙ there_below processes keyboards p apart low)
    (cases_Bool (nat_lt 64 p)))
    (cases_eq p 0)
