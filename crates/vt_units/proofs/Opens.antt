-- A proper prefix of a text that has a reading is unfinished: phrase by phrase.
use Rattle.std.proofs.Common.{◌≡◌, ◌⊎◌, ℕ, ◌==◌, ◌≤◌, ◌<◌, ◌+◌, Bool, true, false, cond, ◌&&◌, List, [], ◌∷◌, ◌++◌, length, refl, sym, ap, ◌∙◌, subst, arith, ⊎_elim, inl, inr}
use Rattle.std.specs.Prelude.{nat_lt}
use Rattle.std.proofs.lemmas.Bool.{cases_Bool, cases_lt, cond-true, cond-false, eqb-true, lt-ltb, le-ltb}
use Rattle.std.proofs.lemmas.List.{append-nil, append_assoc, length-append}
use Rattle.vt_units.proofs.Fronts.{IsCut, after_prefix_pass, after_prefix_stop, cut, longest_prefix_pass, longest_prefix_stop}
use Rattle.vt_units.specs.Bytes.{is_body, is_digit, is_hex, is_mid, is_swallowed, opens_string}
use Rattle.vt_units.specs.Reading.{Reading, unfinished, none, alone, after_prefix, bracket_text, command_text, control_ends, control_text, escape_ends, escape_text, longest_prefix, is_empty, palette_ends, palette_text, dropped_or_none_command, string_ends, string_tail, string_text}
use Rattle.vt_units.specs.ParserState.{Each}
use Rattle.vt_units.specs.declared.mode.Mode.{Mode}

abbrev pub IsSome : Reading → Type 0
IsSome none = ⊥
IsSome other = Unit {0}

abbrev pub Goes : Reading → Type 0
Goes (unfinished k) = Unit {0}
Goes other = ⊥

-- each proper prefix of what is something goes on
abbrev pub Opens : (List ℕ → Reading) → Type 0
Opens f = (p : List ℕ) (x : ℕ) (xs : List ℕ) → IsSome (f (p ++ x ∷ xs)) → Goes (f p)

pub by_test : (c : Bool) (a b more_a more_b : Reading) → (IsSome more_a → Goes a) → (IsSome more_b → Goes b)
    → IsSome (cond c more_a more_b) → Goes (cond c a b)
by_test true a b more_a more_b first second some = first some
by_test false a b more_a more_b first second some = second some

pub alone_ends : (p : List ℕ) (x : ℕ) (xs : List ℕ) (r : Reading) → IsSome (alone (p ++ x ∷ xs) r) → ⊥
alone_ends [] x xs r some = some
alone_ends (y ∷ p) x xs r some = some

-- a phrase of a front whose bytes pass, and what ends it
by_cut : (p : ℕ → Bool) (ends : List ℕ → List ℕ → Reading)
    → ((q : List ℕ) → Goes (ends q []))
    → ((q : List ℕ) (y : ℕ) → Opens (λ ys. ends q (y ∷ ys)))
    → Opens (λ t. ends (longest_prefix p t) (after_prefix p t))
by_cut p ends at_end further t x xs some = ⊎_elim
    (λ (passes : Each p t).
    let nothing : after_prefix p t ≡ [] = ap (after_prefix p) (sym (append-nil t)) ∙ after_prefix_pass p t [] passes in
    subst (λ zs. Goes (ends (longest_prefix p t) zs)) (sym nothing) (at_end (longest_prefix p t)))
    (λ (c : IsCut p t).
    let all : t ++ x ∷ xs ≡ c.before ++ c.stop ∷ (c.after ++ x ∷ xs) =
    ap (λ zs. zs ++ x ∷ xs) c.is ∙ append_assoc c.before (c.stop ∷ c.after) (x ∷ xs) in
    let more : ends (longest_prefix p (t ++ x ∷ xs)) (after_prefix p (t ++ x ∷ xs))
    ≡ ends c.before (c.stop ∷ (c.after ++ x ∷ xs)) =
    ap (λ zs. ends (longest_prefix p zs) (after_prefix p zs)) all
    ∙ (λ i. ends (longest_prefix_stop p c.before c.stop (c.after ++ x ∷ xs) c.passes c.stops i)
    (after_prefix_stop p c.before c.stop (c.after ++ x ∷ xs) c.passes c.stops i)) in
    let here : ends (longest_prefix p t) (after_prefix p t) ≡ ends c.before (c.stop ∷ c.after) =
    ap (λ zs. ends (longest_prefix p zs) (after_prefix p zs)) c.is
    ∙ (λ i. ends (longest_prefix_stop p c.before c.stop c.after c.passes c.stops i)
    (after_prefix_stop p c.before c.stop c.after c.passes c.stops i)) in
    subst Goes (sym here) (further c.before c.stop c.after x xs (subst IsSome more some)))
    (cut p t)

opens_bracket : (m : Mode) → Opens (bracket_text m)
opens_bracket m [] x xs some = tt
opens_bracket m (last ∷ more) x xs some = absurd (alone_ends more x xs _ some)

pub opens_control : (m : Mode) → Opens (control_text m)
opens_control m = by_cut is_body (control_ends m) (λ q. tt) (λ q y ys x xs some.
    by_test (is_empty q && y == 0x5B) _ _ _ _ (opens_bracket m ys x xs)
    (λ single. absurd (alone_ends ys x xs _ single)) some)

opens_tail : Opens string_tail
opens_tail [] x xs some = tt
opens_tail (last ∷ more) x xs some = absurd (alone_ends more x xs _ some)

opens-string : Opens string_text
opens-string = by_cut is_swallowed (λ q. string_ends) (λ q. tt) (λ q y ys x xs some.
    by_test (y == 0x1B) _ _ _ _ (opens_tail ys x xs)
    (λ single. absurd (alone_ends ys x xs _ single)) some)

-- a colour has at most seven digits, and fewer where something else stands behind them
palette_few : (m : Mode) (digits behind_them : List ℕ) → IsSome (palette_ends m digits behind_them)
    → (length digits < 7) ⊎ ((length digits ≡ 7) × (behind_them ≡ []))
palette_few m digits [] some = ⊎_elim
    (λ (few : length digits < 7). inl few)
    (λ (many : 7 ≤ length digits). ⊎_elim
    (λ (seven : (length digits == 7) ≡ true). inr (eqb-true (length digits) 7 seven, refl))
    (λ (not_seven : (length digits == 7) ≡ false).
    absurd (subst IsSome (cond-false _ _ _ (le-ltb (length digits) 7 many) ∙ cond-false _ _ _ not_seven) some))
    (cases_Bool (length digits == 7)))
    (cases_lt (length digits) 7)
palette_few m digits (last ∷ more) some = ⊎_elim
    (λ (few : length digits < 7). inl few)
    (λ (many : 7 ≤ length digits).
    absurd (subst IsSome (cond-false _ _ _ (le-ltb (length digits) 7 many)) some))
    (cases_lt (length digits) 7)

opens_palette : (m : Mode) → Opens (palette_text m)
opens_palette m t x xs some = ⊎_elim
    (λ (passes : Each is_hex t).
    let nothing : after_prefix is_hex t ≡ [] =
    ap (after_prefix is_hex) (sym (append-nil t)) ∙ after_prefix_pass is_hex t [] passes in
    let fronts : longest_prefix is_hex t ≡ t =
    ap (longest_prefix is_hex) (sym (append-nil t)) ∙ longest_prefix_pass is_hex t [] passes ∙ append-nil t in
    let here : palette_text m t ≡ palette_ends m t [] = (λ i. palette_ends m (fronts i) (nothing i)) in
    let more_front : longest_prefix is_hex (t ++ x ∷ xs) ≡ t ++ longest_prefix is_hex (x ∷ xs) =
    longest_prefix_pass is_hex t (x ∷ xs) passes in
    let len : length (t ++ longest_prefix is_hex (x ∷ xs)) ≡ length t + length (longest_prefix is_hex (x ∷ xs)) =
    length-append t (longest_prefix is_hex (x ∷ xs)) in
    let few : length t < 7 = shorter t x xs passes some in
    subst Goes (sym (here ∙ cond-true _ _ _ (lt-ltb (length t) 7 few))) tt)
    (λ (c : IsCut is_hex t).
    let all : t ++ x ∷ xs ≡ c.before ++ c.stop ∷ (c.after ++ x ∷ xs) =
    ap (λ zs. zs ++ x ∷ xs) c.is ∙ append_assoc c.before (c.stop ∷ c.after) (x ∷ xs) in
    let more : palette_text m (t ++ x ∷ xs) ≡ palette_ends m c.before (c.stop ∷ (c.after ++ x ∷ xs)) =
    ap (palette_text m) all
    ∙ (λ i. palette_ends m (longest_prefix_stop is_hex c.before c.stop (c.after ++ x ∷ xs) c.passes c.stops i)
    (after_prefix_stop is_hex c.before c.stop (c.after ++ x ∷ xs) c.passes c.stops i)) in
    absurd (never c.before c.stop c.after x xs (subst IsSome more some)))
    (cut is_hex t)
  where
    shorter : (t : List ℕ) (x : ℕ) (xs : List ℕ) → Each is_hex t → IsSome (palette_text m (t ++ x ∷ xs))
        → length t < 7
    shorter t x xs passes some = ⊎_elim
        (λ (hex : is_hex x ≡ true).
        let fronts : longest_prefix is_hex (t ++ x ∷ xs) ≡ t ++ x ∷ longest_prefix is_hex xs =
        longest_prefix_pass is_hex t (x ∷ xs) passes ∙ ap (λ zs. t ++ zs) (cond-true _ _ _ hex) in
        let len : length (t ++ x ∷ longest_prefix is_hex xs) ≡ length t + length (x ∷ longest_prefix is_hex xs) =
        length-append t (x ∷ longest_prefix is_hex xs) in
        let e : length (longest_prefix is_hex (t ++ x ∷ xs)) ≡ length (t ++ x ∷ longest_prefix is_hex xs) = ap length fronts in
        ⊎_elim
        (λ (few : length (longest_prefix is_hex (t ++ x ∷ xs)) < 7). omega arith)
        (λ seven. omega (arith, seven.0))
        (palette_few m (longest_prefix is_hex (t ++ x ∷ xs)) (after_prefix is_hex (t ++ x ∷ xs)) some))
        (λ (not_hex : is_hex x ≡ false).
        let fronts : longest_prefix is_hex (t ++ x ∷ xs) ≡ t =
        longest_prefix_stop is_hex t x xs passes not_hex in
        let e : length (longest_prefix is_hex (t ++ x ∷ xs)) ≡ length t = ap length fronts in
        let stands : after_prefix is_hex (t ++ x ∷ xs) ≡ x ∷ xs = after_prefix_stop is_hex t x xs passes not_hex in
        ⊎_elim
        (λ (few : length (longest_prefix is_hex (t ++ x ∷ xs)) < 7). omega arith)
        (λ seven. absurd (let wrong : x ∷ xs ≡ [] = sym stands ∙ seven.1 in let e2 : ⊥ = cc in e2))
        (palette_few m (longest_prefix is_hex (t ++ x ∷ xs)) (after_prefix is_hex (t ++ x ∷ xs)) some))
        (cases_Bool (is_hex x))

    never : (q : List ℕ) (y : ℕ) (ys : List ℕ) (x : ℕ) (xs : List ℕ)
        → IsSome (palette_ends m q (y ∷ (ys ++ x ∷ xs))) → ⊥
    never q y ys x xs some = ⊎_elim
        (λ (few : nat_lt (length q) 7 ≡ true).
        alone_ends ys x xs (dropped_or_none_command m y) (subst IsSome (cond-true _ _ _ few) some))
        (λ (many : nat_lt (length q) 7 ≡ false). subst IsSome (cond-false _ _ _ many) some)
        (cases_Bool (nat_lt (length q) 7))

opens_command : (m : Mode) → Opens (command_text m)
opens_command m [] x xs some = tt
opens_command m (b ∷ more) x xs some =
    by_test (is_digit b) _ _ _ _ (opens-string more x xs)
    (by_test (b == 0x50) _ _ _ _ (opens_palette m more x xs)
    (λ single. absurd (alone_ends more x xs _ single))) some

pub opens_escape : (m : Mode) → Opens (escape_text m)
opens_escape m = by_cut is_mid (escape_ends m) (λ q. tt) (λ q y ys x xs some.
    by_test (is_empty q && opens_string y) _ _ _ _ (opens-string ys x xs)
    (by_test (is_empty q && y == 0x5B) _ _ _ _ (opens_control m ys x xs)
    (by_test (is_empty q && y == 0x5D) _ _ _ _ (opens_command m ys x xs)
    (λ single. absurd (alone_ends ys x xs _ single)))) some)
