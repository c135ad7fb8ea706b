-- The contents of lines, gathered item by item.
use Rattle.std.proofs.Common.{◌≡◌, ◌≢◌, ℕ, zero, suc, ◌+◌, ◌<◌, Bool, false, ◌||◌, Option, Some, None, List, [], ◌∷◌, ◌++◌, length, get_or, map, refl, sym, ap, ◌∙◌, subst, arith}
use Rattle.std.proofs.lemmas.Bool.{or_from}
use Rattle.std.proofs.lemmas.Grind.{flat_map-append}
use Rattle.std.proofs.lemmas.List.Folds.{list_any-append}
use Rattle.std.specs.List.{flat_map, list_any}
use Rattle.std.specs.Option.{option_or}
use Rattle.key_text.specs.KeymapLine.{LineMeaning, KeymapLine}
use Rattle.key_compile.specs.Entries.{last_action, gives}
use Rattle.key_compile.specs.Pairs.{pairs_by, pairs_in}
use Rattle.key_compile.specs.Strings.{last_text, text_by}
use Rattle.key_dump.specs.Dump.{rows_from}
use Rattle.key_dump.proofs.for_laws.TextRows.{AllSay, all_say_append}

-- what holds of no rows, of rows together and of each item's rows holds of all, between two ways to give rows
rows_hold : {X A B : Type 0} (P : List A → List B → Type 0) → P [] [] → ((us vs : List A) (ws ys : List B) → P us ws → P vs ys → P (us ++ vs) (ws ++ ys)) → (rows : ℕ → X → List A) (tell : ℕ → X → List B) (from : ℕ) (xs : List X) (d : X) → ((n j : ℕ) → n ≡ from + j → j < length xs → P (rows n (get_or xs j d)) (tell n (get_or xs j d))) → P (rows_from rows from xs) (rows_from tell from xs)
rows_hold P none both rows tell from [] d each = none
rows_hold P none both rows tell from (x ∷ xs) d each =
    both (rows from x) (rows_from rows (suc from) xs) (tell from x) (rows_from tell (suc from) xs) (each from 0 (omega arith) (omega arith))
    (rows_hold P none both rows tell (suc from) xs d (λ n j e h. each n (suc j) (omega arith) (omega arith)))

all_hold : {X A B : Type 0} (P : List A → List B → Type 0) → P [] [] → ((us vs : List A) (ws ys : List B) → P us ws → P vs ys → P (us ++ vs) (ws ++ ys)) → (rows : ℕ → X → List A) (tell : ℕ → X → List B) (xs : List X) (d : X) → ((j : ℕ) → j < length xs → P (rows j (get_or xs j d)) (tell j (get_or xs j d))) → P (rows_from rows 0 xs) (rows_from tell 0 xs)
all_hold P none both rows tell xs d each =
    rows_hold P none both rows tell 0 xs d (λ n j e h. subst (λ (m : ℕ). P (rows m (get_or xs j d)) (tell m (get_or xs j d))) (let same : j ≡ n = omega arith in same) (each j h))

-- rows of items are read as their lines
pub rows_say : {X : Type 0} (rows : ℕ → X → List (List (List ℕ))) (tell : ℕ → X → List LineMeaning) (xs : List X) (d : X) → ((j : ℕ) → j < length xs → AllSay (rows j (get_or xs j d)) (tell j (get_or xs j d))) → AllSay (rows_from rows 0 xs) (rows_from tell 0 xs)
rows_say = all_hold AllSay tt all_say_append

-- no line passes
pub no_any : {X : Type 0} (test : LineMeaning → Bool) (tell : ℕ → X → List LineMeaning) (xs : List X) (d : X) → ((j : ℕ) → j < length xs → list_any test (tell j (get_or xs j d)) ≡ false) → list_any test (rows_from tell 0 xs) ≡ false
no_any test tell =
    all_hold (λ ts us. list_any test ts ≡ false) refl
    (λ us vs ws ys p q. list_any-append test us vs ∙ or_from (list_any test us) (list_any test vs) p q) tell tell

-- no line gives a pair
pub no_pairs : {X : Type 0} (tell : ℕ → X → List LineMeaning) (xs : List X) (d : X) → ((j : ℕ) → j < length xs → flat_map pairs_by (tell j (get_or xs j d)) ≡ []) → flat_map pairs_by (rows_from tell 0 xs) ≡ []
no_pairs tell =
    all_hold (λ ts us. flat_map pairs_by ts ≡ []) refl
    (λ us vs ws ys p q. flat_map-append pairs_by us vs ∙ ap (λ ps. ps ++ flat_map pairs_by vs) p ∙ q) tell tell

-- what the last line gives that gives something
abbrev pub last_by : {X : Type 0} → (LineMeaning → Option X) → List LineMeaning → Option X
last_by f [] = None
last_by f (meaning ∷ meanings) = option_or (last_by f meanings) (f meaning)

pub or_none : {X : Type 0} (a : Option X) → option_or a None ≡ a
or_none None = refl
or_none (Some a) = refl

or-assoc : {X : Type 0} (a b c : Option X) → option_or (option_or a b) c ≡ option_or a (option_or b c)
or-assoc None b c = refl
or-assoc (Some a) b c = refl

pub last_append : {X : Type 0} (f : LineMeaning → Option X) (us vs : List LineMeaning) → last_by f (us ++ vs) ≡ option_or (last_by f vs) (last_by f us)
last_append f [] vs = sym (or_none (last_by f vs))
last_append f (u ∷ us) vs = ap (λ a. option_or a (f u)) (last_append f us vs) ∙ or-assoc (last_by f vs) (last_by f us) (f u)

last_none_both : {X : Type 0} (f : LineMeaning → Option X) (us vs : List LineMeaning) → last_by f us ≡ None → last_by f vs ≡ None → last_by f (us ++ vs) ≡ None
last_none_both f us vs p q = last_append f us vs ∙ ap (λ a. option_or a (last_by f us)) q ∙ p

-- no line gives anything
pub no_last : {X Y : Type 0} (f : LineMeaning → Option Y) (tell : ℕ → X → List LineMeaning) (xs : List X) (d : X) → ((j : ℕ) → j < length xs → last_by f (tell j (get_or xs j d)) ≡ None) → last_by f (rows_from tell 0 xs) ≡ None
no_last f tell = all_hold (λ ts us. last_by f ts ≡ None) refl (λ us vs ws ys. last_none_both f us vs) tell tell

last_at_from : {X Y : Type 0} (f : LineMeaning → Option Y) (tell : ℕ → X → List LineMeaning) (from : ℕ) (xs : List X) (d : X) (k n : ℕ) → n ≡ from + k → k < length xs → ((m j : ℕ) → m ≡ from + j → j < length xs → j ≢ k → last_by f (tell m (get_or xs j d)) ≡ None) → last_by f (rows_from tell from xs) ≡ last_by f (tell n (get_or xs k d))
last_at_from f tell from [] d k n e h others = absurd (omega arith)
last_at_from f tell from (x ∷ xs) d zero n e h others =
    last_append f (tell from x) (rows_from tell (suc from) xs)
    ∙ ap (λ a. option_or a (last_by f (tell from x)))
    (rows_hold (λ ts us. last_by f ts ≡ None) refl (λ us vs ws ys. last_none_both f us vs) tell tell (suc from) xs d
    (λ m j q low. others m (suc j) (omega arith) (omega arith) (λ (same : suc j ≡ 0). omega arith)))
    ∙ ap (λ m. last_by f (tell m x)) (let same : from ≡ n = omega arith in same)
last_at_from f tell from (x ∷ xs) d (suc k) n e h others =
    last_append f (tell from x) (rows_from tell (suc from) xs)
    ∙ ap (option_or (last_by f (rows_from tell (suc from) xs))) (others from 0 (omega arith) (omega arith) (λ (same : 0 ≡ suc k). omega arith))
    ∙ or_none (last_by f (rows_from tell (suc from) xs))
    ∙ last_at_from f tell (suc from) xs d k n (omega arith) (omega arith)
    (λ m j q low other. others m (suc j) (omega arith) (omega arith) (λ (same : suc j ≡ suc k). other (omega arith)))

-- where only the lines of one item give something
pub last_at : {X Y : Type 0} (f : LineMeaning → Option Y) (tell : ℕ → X → List LineMeaning) (xs : List X) (d : X) (k : ℕ) → k < length xs → ((j : ℕ) → j < length xs → j ≢ k → last_by f (tell j (get_or xs j d)) ≡ None) → last_by f (rows_from tell 0 xs) ≡ last_by f (tell k (get_or xs k d))
last_at f tell xs d k h others =
    last_at_from f tell 0 xs d k k (omega arith) h
    (λ m j q low other. ap (λ n. last_by f (tell n (get_or xs j d))) (let same : m ≡ j = omega arith in same) ∙ others j low other)

abbrev pub tellings_of : List KeymapLine → List LineMeaning
tellings_of lines = map (λ l. l.meaning) lines

-- the words of the compiler, over what the lines tell
pub any_tellings : (test : LineMeaning → Bool) (lines : List KeymapLine) → list_any (λ l. test l.meaning) lines ≡ list_any test (tellings_of lines)
any_tellings test [] = refl
any_tellings test (l ∷ ls) = ap (λ t. test l.meaning || t) (any_tellings test ls)

pub last_action_last : (union : List ℕ) (t c : ℕ) (lines : List KeymapLine) → last_action union lines t c ≡ last_by (λ meaning. gives union meaning t c) (tellings_of lines)
last_action_last union t c [] = refl
last_action_last union t c (l ∷ ls) = ap (λ a. option_or a (gives union l.meaning t c)) (last_action_last union t c ls)

pub text_last : (i : ℕ) (lines : List KeymapLine) → last_text lines i ≡ last_by (λ meaning. text_by meaning i) (tellings_of lines)
text_last i [] = refl
text_last i (l ∷ ls) = ap (λ a. option_or a (text_by l.meaning i)) (text_last i ls)

pub pairs_tellings : (lines : List KeymapLine) → pairs_in lines ≡ flat_map pairs_by (tellings_of lines)
pairs_tellings [] = refl
pairs_tellings (l ∷ ls) = ap (λ ps. pairs_by l.meaning ++ ps) (pairs_tellings ls)
