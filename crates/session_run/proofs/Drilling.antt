-- Draws that are made one after another, and the programs that they make.
use Rattle.std.proofs.Common.{◌≡◌, ℕ, suc, zero, ◌+◌, ◌*◌, ◌%◌, ◌≤◌, Bool, true, false, map, List, [], ◌∷◌, ◌++◌, length, refl, sym, ap, subst, ◌∙◌, add-one, append-nil, append_assoc, length-append, arith}
use Rattle.std.proofs.lemmas.List.FromFn.{map-range_with_len_more}
use Rattle.std.proofs.lemmas.List.Elements.{All-cons, All-nil}
use Rattle.std.specs.List.{All, range_with_len}
use Rattle.std.specs.Prelude.{◌==◌, if◌then◌else◌}
use Rattle.session_run.specs.Drill.{Draws, activate_item, below, colour_item, cursor_item, each, item, item_of, just, keys, opening_calls, print_item, script, wait_item}
use Rattle.session_text.specs.ItemTexts.{is_item}
use Rattle.session_text.specs.Sessions.{ArePrograms, IsKeysProgram, IsScriptProgram}
use Rattle.session_text.specs.declared.program.Program.{Program}
use Rattle.session_text.specs.declared.program.Program.TheVariants as program
use Rattle.table_fields.specs.Fields.{most_scan_bytes}
use Rattle.vt_events.specs.Kinds.{text}
use Rattle.vt_events.specs.declared.event.Event.{Event}
use Rattle.vt_events.specs.declared.event.Event.TheVariants as event
use Rattle.vt_procs.specs.declared.proc_start.ProcStart.{ProcStart}

-- one value more, by one draw more
each_more : {A : Type 0} (draws : ℕ → Draws A) (n p x : ℕ)
    → each draws (suc n) p x
    ≡ ((each draws n p x).0 ++ (draws (p + n) (each draws n p x).1).0 ∷ [], (draws (p + n) (each draws n p x).1).1)
each_more draws zero p x =
    let place : p ≡ p + 0 = omega arith in
    λ j. ((draws (place j) x).0 ∷ [], (draws (place j) x).1)
each_more draws (suc n) p x =
    let place : (p + 1) + n ≡ p + suc n = omega arith in
    let a = (draws p x).0 in
    let others = each draws n (p + 1) (draws p x).1 in
    ap (λ r. (a ∷ r.0, r.1)) (each_more draws n (p + 1) (draws p x).1)
    ∙ (λ j. (a ∷ (others.0 ++ (draws (place j) others.1).0 ∷ []), (draws (place j) others.1).1))

-- after the elements that were there, n were drawn from p on
pub record SoFar {A : Type 0} (draws : ℕ → Draws A) (n p start : ℕ) (before list : List A) (x : ℕ) : Type 0 where
  pub values : list ≡ before ++ (each draws n p start).0
  pub last : x ≡ (each draws n p start).1

pub begin : {A : Type 0} {draws : ℕ → Draws A} {p start : ℕ} {before list : List A}
    → list ≡ before → SoFar draws 0 p start before list start
begin {before = before} is = record { values = is ∙ sym (append-nil before); last = refl }

pub more : {A : Type 0} {draws : ℕ → Draws A} {n p start : ℕ} {before list new : List A} {x : ℕ} {a : A} {next : ℕ}
    → SoFar draws n p start before list x → a ≡ (draws (p + n) x).0 → next ≡ (draws (p + n) x).1
    → new ≡ list ++ a ∷ [] → SoFar draws (n + 1) p start before new next
more {draws = draws} {n = n} {p = p} {start = start} {before = before} is value last pushed =
    let drawn = each draws n p start in
    let found = (draws (p + n) drawn.1).0 in
    let whole : each draws (n + 1) p start ≡ (drawn.0 ++ found ∷ [], (draws (p + n) drawn.1).1) =
    ap (λ k. each draws k p start) (add-one n) ∙ each_more draws n p start in
    record {
      values =
          pushed
          ∙ (λ j. is.values j ++ (value ∙ ap (λ y. (draws (p + n) y).0) is.last) j ∷ [])
          ∙ append_assoc before drawn.0 (found ∷ [])
          ∙ ap (λ r. before ++ r.0) (sym whole);
      last = last ∙ ap (λ y. (draws (p + n) y).1) is.last ∙ ap (λ r. r.1) (sym whole);
    }

-- all of n were drawn
pub all : {A : Type 0} {draws : ℕ → Draws A} {i n p start : ℕ} {before list : List A} {x : ℕ} → i ≡ n
    → SoFar draws i p start before list x → SoFar draws n p start before list x
all {draws = draws} {p = p} {start = start} {before = before} end is = record {
  values = is.values ∙ ap (λ k. before ++ (each draws k p start).0) end;
  last = is.last ∙ ap (λ k. (each draws k p start).1) end;
}

-- each of so many values is as every value that is drawn
each_fit : {A : Type 0} (Fit : A → Type 0) (draws : ℕ → Draws A) → ((p x : ℕ) → Fit (draws p x).0)
    → (n p x : ℕ) → All Fit (each draws n p x).0
each_fit Fit draws fit zero p x = All-nil Fit
each_fit Fit draws fit (suc n) p x =
    let others = each draws n (p + 1) (draws p x).1 in
    All-cons Fit (draws p x).0 others.0 (fit p x) (each_fit Fit draws fit n (p + 1) (draws p x).1)

each_many : {A : Type 0} (draws : ℕ → Draws A) (n p x : ℕ) → length (each draws n p x).0 ≡ n
each_many draws zero p x = refl
each_many draws (suc n) p x = omega (arith, each_many draws n (p + 1) (draws p x).1)

-- one key more
pub keys_more : (n : ℕ) → keys n ++ 0x1E ∷ 0x9E ∷ [] ≡ keys (suc n)
keys_more zero = refl
keys_more (suc n) = ap (λ rest. 0x1E ∷ 0x9E ∷ rest) (keys_more n)

-- each key has two bytes
length-keys : (n : ℕ) → length (keys n) ≡ 2 * n
length-keys zero = refl
length-keys (suc n) = omega (arith, length-keys n)

-- every item is one that a script may have
fit_either : (b : Bool) (one other : Draws Event) (x : ℕ) → is_item (one x).0 ≡ true → is_item (other x).0 ≡ true
    → is_item ((if b then one else other) x).0 ≡ true
fit_either true one other x first second = first
fit_either false one other x first second = second

kind_fit : (kind x : ℕ) → is_item (item_of kind x).0 ≡ true
kind_fit kind x =
    fit_either (kind == 0) print_item _ x refl
    (fit_either (kind == 1) cursor_item _ x refl
    (fit_either (kind == 2) activate_item _ x refl
    (fit_either (kind == 3) (just (event.ReadIn 0 64)) _ x refl
    (fit_either (kind == 4) wait_item _ x refl
    (fit_either (kind == 5) colour_item _ x refl
    (fit_either (kind == 6) (just (event.RelDisp 0 1)) _ x refl refl))))))

item_fit : (p x : ℕ) → is_item (item p x).0 ≡ true
item_fit p x = kind_fit (below 8 x).0 (below 8 x).1

-- and so are the calls that a process begins with, of which there are at most two
abbrev mode_calls : Bool → List Event
mode_calls odd = if odd then event.SetMode 0 1 0 10 12 0 ∷ [] else []

mode_fit : (odd : Bool) (events : List Event) → All (λ e. is_item e ≡ true) events
    → All (λ e. is_item e ≡ true) (mode_calls odd ++ events)
mode_fit true events fit = All-cons (λ e. is_item e ≡ true) (event.SetMode 0 1 0 10 12 0) events refl fit
mode_fit false events fit = fit

mode_few : (odd : Bool) → length (mode_calls odd) ≤ 1
mode_few true = omega arith
mode_few false = omega arith

script_fit : (n : ℕ) → n ≤ 10_000 → (p x : ℕ) → IsScriptProgram (script n p x).0
script_fit n high p x =
    let items : List Event = (each item n 0 x).0 in
    let odd : Bool = p % 2 == 1 in
    record {
      few = omega (arith, high, each_many item n 0 x, mode_few odd, length-append (mode_calls odd) items);
      all = All-cons (λ e. is_item e ≡ true) (event.OpenCon p) (mode_calls odd ++ items) refl
          (mode_fit odd items (each_fit (λ e. is_item e ≡ true) item item_fit n 0 x));
    }

programs_fit : (n : ℕ) → n ≤ 10_000 → (processes seed : ℕ)
    → ArePrograms processes 1 (program.Keys (text (keys n)) ∷ (each (script n) processes 1 seed).0)
programs_fit n high processes seed =
    let first : Program = program.Keys (text (keys n)) in
    let scripts : List Program = (each (script n) processes 1 seed).0 in
    let few : length (keys n) ≤ most_scan_bytes = omega (arith, length-keys n, high) in
    record {
      first = first;
      scripts = scripts;
      further = [];
      are = ap (λ list. first ∷ list) (sym (append-nil scripts));
      many_scripts = each_many (script n) processes 1 seed;
      many_keys = refl;
      each_script = each_fit IsScriptProgram (script n) (script_fit n high) processes 1 seed;
      each_keys = All-cons IsKeysProgram first [] few (All-nil IsKeysProgram);
    }

pub drill_programs : (n seed : ℕ) (list : List Program) → n ≤ 10_000
    → list ≡ program.Keys (text (keys n)) ∷ (each (script n) 8 1 seed).0 → ArePrograms 8 1 list
drill_programs n seed list high is = subst (ArePrograms 8 1) (sym is) (programs_fit n high 8 seed)

abbrev pub start_at : ℕ → ProcStart
start_at p = record { home = p; privileged = true }

-- the states in which processes begin, one more
pub starts_more : (n : ℕ)
    → map start_at (range_with_len 1 n) ++ start_at (1 + n) ∷ []
    ≡ map start_at (range_with_len 1 (n + 1))
starts_more n = sym (map-range_with_len_more start_at 1 n (1 + n) refl)
