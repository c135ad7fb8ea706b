-- The consoles that have a terminal stay those that are allocated.
use Rattle.std.proofs.Common.{◌≡◌, ℕ, zero, suc, ◌+◌, Bool, true, false, true≢false, cond, arith, List, [], ◌∷◌, ◌++◌, get_or, set, map, Option, Some, None, refl, sym, ap, ◌∙◌}
use Rattle.std.proofs.lemmas.List.{map-set, set-get_or}
use Rattle.std.proofs.lemmas.List.FromFn.{map-range_with_len_more}
use Rattle.std.proofs.Math.ListN.{get_or-map}
use Rattle.std.proofs.Math.Seq.{map-set_same}
use Rattle.std.specs.List.{range_with_len}
use Rattle.std.specs.Prelude.{◌==◌, is_some, option_map, if◌then◌else◌}
use Rattle.vt_switch.specs.Display.{Display, or_fresh, is_allocated}
use Rattle.vt_world.specs.Rows.{with_allocation}
use Rattle.vt_base.specs.ConsoleSet.{at_each, is_among}
use Rattle.vt_world.specs.Deeds.{apply_deeds}
use Rattle.vt_world.specs.State.{WorldState, HasTerminals}
use Rattle.vt_switch.specs.Calls.{after_mode, with_console_handling}
use Rattle.vt_world.specs.Terminals.{TerminalState, with_start, or_new, terminal_at, after_write, written_on}
use Rattle.vt_switch.specs.declared.console.Console.{Console}
use Rattle.vt_switch.specs.declared.handling.Handling.{Handling}

-- a place stays taken if its contents change
pub kept : {A : Type 0} (f : A → A) (o : Option A) → is_some (option_map f o) ≡ is_some o
kept f None = refl
kept f (Some a) = refl

-- whether two lists of places are taken alike is the same after a place of each is taken
both_set : {A B : Type 0} (xs : List (Option A)) (ys : List (Option B)) (n : ℕ) (a : A) (b : B)
    → map is_some xs ≡ map is_some ys
    → map is_some (set xs n (Some a)) ≡ map is_some (set ys n (Some b))
both_set xs ys n a b alike =
    map-set is_some xs n (Some a)
    ∙ ap (λ taken. set taken n true) alike
    ∙ sym (map-set is_some ys n (Some b))

-- a write leaves the consoles that have a terminal
pub written_alike : (n : ℕ) (bytes : List ℕ) (terminals : List (Option TerminalState))
    → map is_some (after_write n bytes terminals) ≡ map is_some terminals
written_alike n bytes terminals =
    map-set_same is_some terminals n (option_map (written_on bytes) (terminal_at terminals n)) None
    (kept (written_on bytes) (terminal_at terminals n))

pub either : (b : Bool) (d e : Display) → d.consoles ≡ e.consoles
    → (cond b d e).consoles ≡ e.consoles
either true d e same = same
either false d e same = refl

-- a set mode leaves the consoles that are allocated
pub mode_alike : (d : Display) (c : ℕ) (handling : Option Handling)
    → map is_some (after_mode d c handling).consoles ≡ map is_some d.consoles
mode_alike d c None = refl
mode_alike d c (Some handling) =
    let new : Console → Console = λ console. record console { handling = handling } in
    ap (map is_some)
    (either (c == d.front) (record (with_console_handling d c handling) { pending = None }) (with_console_handling d c handling)
    refl)
    ∙ map-set_same is_some d.consoles c (option_map new (get_or d.consoles c None)) None
    (kept new (get_or d.consoles c None))

-- consoles that are allocated have a terminal beside
pub allocated_alike : (n rows cols : ℕ) (consoles : List (Option Console))
    (terminals : List (Option TerminalState)) → map is_some terminals ≡ map is_some consoles
    → map is_some (with_start n rows cols terminals)
    ≡ map is_some (set consoles n (Some (or_fresh (get_or consoles n None))))
allocated_alike n rows cols consoles terminals alike =
    both_set terminals consoles n (or_new rows cols (get_or terminals n None))
    (or_fresh (get_or consoles n None)) alike

found_again : (o : Option Console) → is_some o ≡ true → Some (or_fresh o) ≡ o
found_again None taken = absurd (true≢false (sym taken))
found_again (Some console) taken = refl

start_again : (rows cols : ℕ) (o : Option TerminalState) → is_some o ≡ true → Some (or_new rows cols o) ≡ o
start_again rows cols None taken = absurd (true≢false (sym taken))
start_again rows cols (Some s) taken = refl

-- the same place of both lists is taken alike
pub taken_alike : {A B : Type 0} (xs : List (Option A)) (ys : List (Option B)) (n : ℕ)
    → map is_some xs ≡ map is_some ys → is_some (get_or xs n None) ≡ is_some (get_or ys n None)
taken_alike xs ys n alike =
    sym (get_or-map is_some xs n None)
    ∙ ap (λ taken. get_or taken n false) alike
    ∙ get_or-map is_some ys n None

-- to allocate a console again changes nothing
pub allocating_same : (w : WorldState) (n : ℕ) → HasTerminals w → is_allocated w.display n ≡ true
    → w ≡ apply_deeds w (with_allocation n [])
allocating_same w n alike taken =
    let consoles = w.display.consoles in
    let has_terminal : is_some (get_or w.terminals n None) ≡ true =
    taken_alike w.terminals consoles n alike ∙ taken in
    let same_consoles : set consoles n (Some (or_fresh (get_or consoles n None))) ≡ consoles =
    ap (set consoles n) (found_again (get_or consoles n None) taken) ∙ set-get_or consoles n None in
    let same_terminals : with_start n w.rows w.cols w.terminals ≡ w.terminals =
    ap (set w.terminals n) (start_again w.rows w.cols (get_or w.terminals n None) has_terminal)
    ∙ set-get_or w.terminals n None in
    λ i. record w {
      display = record w.display { consoles = sym same_consoles i };
      terminals = sym same_terminals i;
    }

taken_if : {A : Type 0} (b : Bool) (a : A) → is_some (if b then Some a else None) ≡ b
taken_if true a = refl
taken_if false a = refl

taken_among : {A : Type 0} (consoles : ℕ) (a : A) (at n : ℕ)
    → map is_some (map (λ k. if is_among consoles k then Some a else None) (range_with_len at n))
    ≡ map (is_among consoles) (range_with_len at n)
taken_among consoles a at zero = refl
taken_among consoles a at (suc n) =
    λ i. taken_if (is_among consoles at) a i ∷ taken_among consoles a (at + 1) n i

-- two lists have the same places taken if both are of one set
pub each_alike : {A B : Type 0} (consoles : ℕ) (a : A) (b : B)
    → map is_some (at_each consoles a) ≡ map is_some (at_each consoles b)
each_alike consoles a b = taken_among consoles a 0 64 ∙ sym (taken_among consoles b 0 64)

-- one more place of a set
pub places_more : {A : Type 0} (consoles n : ℕ) (a : A) (old new : List (Option A)) (o : Option A)
    → old ≡ map (λ k. if is_among consoles k then Some a else None) (range_with_len 0 n)
    → new ≡ old ++ o ∷ [] → o ≡ (if is_among consoles n then Some a else None)
    → new ≡ map (λ k. if is_among consoles k then Some a else None) (range_with_len 0 (n + 1))
places_more consoles n a old new o before added is =
    added
    ∙ (λ i. before i ++ is i ∷ [])
    ∙ sym (map-range_with_len_more (λ k. if is_among consoles k then Some a else None) 0 n n
    (omega arith))
