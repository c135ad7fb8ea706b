-- Lines, made word by word.
use Rattle.std.proofs.Common.{◌≡◌, ℕ, ◌+◌, ◌/◌, ◌%◌, ◌<◌, ◌≤◌, arith, List, [], ◌∷◌, ◌++◌, decimal, length, map, take, get_or, sym, ap, subst, ◌∙◌, append_assoc}
use Rattle.itoa.proofs.Decimal.{decimal_pair, pair}
use Rattle.std.proofs.lemmas.Fmt.{decimal_digit}
use Rattle.std.proofs.lemmas.List.Concat.{flat_map-append}
use Rattle.std.proofs.lemmas.List.{append-nil, flat_map_more, map_push, take_more}
use Rattle.std.proofs.lemmas.List.Elements.{All-push}
use Rattle.std.specs.List.{All, flat_map}
use Rattle.vt_journal.specs.Journal.{line_text}
use Rattle.vt_journal.specs.Text.{blank_before_each}
use Rattle.vt_journal.specs.Words.{joined_by_blanks}

-- words with blanks between are the first word, and the others with a blank before each
pub joined_by_blanks-cons : (word : List ℕ) (words : List (List ℕ))
    → joined_by_blanks (word ∷ words) ≡ word ++ blank_before_each words
joined_by_blanks-cons word [] = sym (append-nil word)
joined_by_blanks-cons word (next ∷ words) =
    ap (λ text. word ++ (0x20 ∷ text)) (joined_by_blanks-cons next words)

-- the digits of a number of three
pub decimal_three : (n : ℕ) → 100 ≤ n → n < 1000
    → decimal n ≡ (48 + n / 100) ∷ (48 + n % 100 / 10) ∷ (48 + n % 100 % 10) ∷ []
decimal_three n least most =
    decimal_pair n least (omega arith)
    ∙ ap (λ first. first ++ pair (n % 100)) (decimal_digit (n / 100) (omega arith))

-- the line of an entry, from its pieces
pub entry_line : (caller seq sign : List ℕ) (call answer : List (List ℕ))
    (t0 t1 t2 t3 t4 t5 t6 : List ℕ)
    → t1 ≡ t0 ++ caller → t2 ≡ t1 ++ 0x20 ∷ seq → t3 ≡ t2 ++ blank_before_each call → t4 ≡ t3 ++ 0x20 ∷ sign
    → t5 ≡ t4 ++ blank_before_each answer → t6 ≡ t5 ++ 0x0A ∷ []
    → t6 ≡ t0 ++ line_text (caller ∷ seq ∷ call ++ sign ∷ answer)
entry_line caller seq sign call answer t0 t1 t2 t3 t4 t5 t6 is1 is2 is3 is4 is5 is6 =
    let others = flat_map-append (λ (word : List ℕ). 0x20 ∷ word) call (sign ∷ answer) in
    let whole = joined_by_blanks-cons caller (seq ∷ call ++ sign ∷ answer) in
    rw whole (rw others (simp (is6, is5, is4, is3, is2, is1, append_assoc)))

-- a line of a name and of numbers, from its pieces
pub numbered_line : (name ns : List ℕ) (i : ℕ) (t0 t1 : List ℕ) → take i ns ≡ ns
    → t1 ≡ (t0 ++ name) ++ blank_before_each (map decimal (take i ns))
    → t1 ++ 0x0A ∷ [] ≡ t0 ++ line_text (name ∷ map decimal ns)
numbered_line name ns i t0 t1 all is =
    let whole : t1 ≡ (t0 ++ name) ++ blank_before_each (map decimal ns) =
    is ∙ ap (λ ms. (t0 ++ name) ++ blank_before_each (map decimal ms)) all in
    rw (joined_by_blanks-cons name (map decimal ns)) (simp (whole, append_assoc))

-- one more piece, after a front and those of the first elements
pub piece_more : {X Y : Type 0} (f : Y → List ℕ) (g : X → Y) (front : List ℕ) (head : List Y) (xs : List X) (i : ℕ)
    (x d : X) (text more : List ℕ) → i < length xs → x ≡ get_or xs i d
    → text ≡ front ++ flat_map f (head ++ map g (take i xs)) → more ≡ text ++ f (g x)
    → more ≡ front ++ flat_map f (head ++ map g (take (i + 1) xs))
piece_more f g front head xs i x d text more within is so_far added =
    let next : take (i + 1) xs ≡ take i xs ++ x ∷ [] =
    take_more xs i d within ∙ ap (λ y. take i xs ++ y ∷ []) (sym is) in
    added
    ∙ ap (λ t. t ++ f (g x)) so_far
    ∙ flat_map_more f front (head ++ map g (take i xs)) (g x)
    ∙ ap (λ ys. front ++ flat_map f ys)
    (append_assoc head (map g (take i xs)) (g x ∷ [])
    ∙ ap (λ ys. head ++ ys) (sym (map_push g (take i xs) x) ∙ ap (map g) (sym next)))

-- one more element of which a fact holds
pub all_more : {X : Type 0} (P : X → Type 0) (xs : List X) (i : ℕ) (x : X) → i < length xs → x ≡ get_or xs i x
    → All P (take i xs) → P x → All P (take (i + 1) xs)
all_more P xs i x within is so_far holds =
    rw (take_more xs i x within) (All-push P (take i xs) (get_or xs i x) so_far (subst P is holds))
