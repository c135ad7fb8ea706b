-- The word that begins a row, by its bytes.
use Rattle.std.proofs.Common.{◌≡◌, ℕ, zero, suc, ◌+◌, ◌==◌, ◌||◌, Bool, true, false, cond, IsTrue, Some, None, List, [], ◌∷◌, ◌++◌, length, take, drop, refl, sym, ap, ◌∙◌, subst, arith}
use Rattle.std.proofs.lemmas.Bool.{and_parts, eq-eqb, false≢true, not-true, or_parts}
use Rattle.std.proofs.lemmas.Bool.Decides.{nat_tests}
use Rattle.std.proofs.lemmas.List.{append_assoc, drop_at, length-append, take_at}
use Rattle.std.specs.List.{list_all, prefix_len}
use Rattle.std.specs.Option.{option_map, option_map_or}
use Rattle.key_text.proofs.for_laws.HasWords.{HasWords, head_same, moved, none_left, one_more, tail_same}
use Rattle.key_text.proofs.for_laws.SameBytes.{bares, close_bare, length-bare}
use Rattle.key_text.specs.Rows.{backslash}
use Rattle.key_text.specs.Spelled.{Inside, IsWord, Spaced, is_apart, is_comment, blank, comment, empty, ended, escaped, plain, quoted, bare as bare_word, word}
use Rattle.key_text.specs.Words.{bytes, close_at, is_bare, is_blank, is_quote, quoted_len, word_at, word_in, word_len}
use Rattle.key_text.specs.declared.placed.Placed.{Placed}

abbrev bare_test : Placed → Bool
bare_test p = is_bare p.byte

-- only the bytes count for the length of a word
quoted-bare_len : (i : List Placed) → quoted_len i ≡ quoted_len (bares (bytes i))
quoted-bare_len [] = refl
quoted-bare_len (p ∷ ps) =
    ap (λ c. cond (is_quote p.byte) (suc (option_map_or suc c (length ps))) 0) (close_bare p.byte false ps)
    ∙ ap (λ n. cond (is_quote p.byte) (suc (option_map_or suc (close_at p.byte false (bares (bytes ps))) n)) 0) (length-bare ps)

prefix_bare : (i : List Placed) → prefix_len bare_test i ≡ prefix_len bare_test (bares (bytes i))
prefix_bare [] = refl
prefix_bare (p ∷ ps) = ap (λ n. cond (is_bare p.byte) (1 + n) 0) (prefix_bare ps)

drop-bare : (n : ℕ) (i : List Placed) → bares (bytes (drop n i)) ≡ drop n (bares (bytes i))
drop-bare zero i = refl
drop-bare (suc n) [] = refl
drop-bare (suc n) (p ∷ ps) = drop-bare n ps

pub word_len-bare : (i : List Placed) → word_len i ≡ word_len (bares (bytes i))
word_len-bare i =
    ap (λ n. n + prefix_len bare_test (drop n i)) (quoted-bare_len i)
    ∙ ap (λ n. quoted_len (bares (bytes i)) + n)
    (prefix_bare (drop (quoted_len (bares (bytes i))) i) ∙ ap (prefix_len bare_test) (drop-bare (quoted_len (bares (bytes i))) i))

apart_none : (bs : List ℕ) → IsTrue (is_apart bs) → prefix_len bare_test (bares bs) ≡ 0
apart_none [] h = refl
apart_none (b ∷ bs) h = rw (not-true (is_bare b) h) refl

run : (w bs : List ℕ) → IsTrue (list_all is_bare w) → IsTrue (is_apart bs) → prefix_len bare_test (bares (w ++ bs)) ≡ length w
run [] bs all apart = apart_none bs apart
run (b ∷ w) bs all apart =
    let parts = and_parts (is_bare b) (list_all is_bare w) all in
    let n = run w bs parts.1 apart in rw parts.0 (omega (arith, n))

not-backslash : (q : ℕ) → IsTrue (is_quote q) → (backslash == q) ≡ false
not-backslash q h = grind (arith, nat_tests)

closes : (q : ℕ) (inside rest : List ℕ) → IsTrue (is_quote q) → Inside q inside → close_at q false (bares (inside ++ q ∷ rest)) ≡ Some (length inside)
closes q inside rest h empty = rw (eq-eqb q q refl) refl
closes q inside rest h (plain b bs f t) =
    let no = or_parts (b == q) (b == backslash) f in
    rw (no.0, no.1) (ap (option_map suc) (closes q bs rest h t))
closes q inside rest h (escaped b bs t) =
    rw (not-backslash q h) (ap (λ n. option_map suc (option_map suc n)) (closes q bs rest h t))

-- the word that begins the bytes
pub begins : (w bs : List ℕ) → IsWord w → IsTrue (is_apart bs) → word_len (bares (w ++ bs)) ≡ length w
begins w bs (bare_word b cs unquoted all) apart =
    rw unquoted (let n = run (b ∷ cs) bs all apart in omega (arith, n))
begins w bs (quoted q inside tail h t all) apart =
    let split : (inside ++ (q ∷ tail)) ++ bs ≡ inside ++ (q ∷ (tail ++ bs)) = append_assoc inside (q ∷ tail) bs in
    let closed = closes q inside (tail ++ bs) h t in
    let n = run tail bs all apart in
    subst (λ (x : List ℕ). word_len (bares (q ∷ x)) ≡ suc (length (inside ++ q ∷ tail))) (sym split)
    (rw (h, closed) (whole n (length-append inside (q ∷ tail))))
  where
    behind : (xs : List ℕ) → drop (suc (length xs)) (bares (xs ++ (q ∷ (tail ++ bs)))) ≡ bares (tail ++ bs)
    behind [] = refl
    behind (x ∷ xs) = behind xs

    whole : prefix_len bare_test (bares (tail ++ bs)) ≡ length tail → length (inside ++ q ∷ tail) ≡ length inside + suc (length tail)
        → suc (suc (length inside)) + prefix_len bare_test (drop (suc (length inside)) (bares (inside ++ (q ∷ (tail ++ bs))))) ≡ suc (length (inside ++ q ∷ tail))
    whole n l =
        let first : prefix_len bare_test (drop (suc (length inside)) (bares (inside ++ (q ∷ (tail ++ bs))))) ≡ prefix_len bare_test (bares (tail ++ bs)) = ap (prefix_len bare_test) (behind inside) in
        omega (arith, first, n, l)

-- the word, and what follows it, of a row with these bytes
pub bytes-take : (n : ℕ) (i : List Placed) → bytes (take n i) ≡ take n (bytes i)
bytes-take zero i = refl
bytes-take (suc n) [] = refl
bytes-take (suc n) (p ∷ ps) = ap (λ x. p.byte ∷ x) (bytes-take n ps)

pub bytes-drop : (n : ℕ) (i : List Placed) → bytes (drop n i) ≡ drop n (bytes i)
bytes-drop zero i = refl
bytes-drop (suc n) [] = refl
bytes-drop (suc n) (p ∷ ps) = bytes-drop n ps

-- a row that begins with a word has no blank first
not-blank : (b : ℕ) → IsTrue (is_bare b) → is_blank b ≡ false
not-blank b h = grind (arith, nat_tests)

quote_not-blank : (q : ℕ) → IsTrue (is_quote q) → is_blank q ≡ false
quote_not-blank q h = grind (arith, nat_tests)

abbrev starts_blank : List ℕ → Bool
starts_blank [] = true
starts_blank (b ∷ bs) = is_blank b

word_starts : (w bs : List ℕ) → IsWord w → starts_blank (w ++ bs) ≡ false
word_starts w bs (bare_word b cs unquoted all) = not-blank b ((and_parts (is_bare b) (list_all is_bare cs) all).0)
word_starts w bs (quoted q inside tail h t all) = quote_not-blank q h

no_blanks : (i : List Placed) → starts_blank (bytes i) ≡ false → drop (prefix_len (λ p. is_blank p.byte) i) i ≡ i
no_blanks [] h = refl
no_blanks (p ∷ ps) h = rw h refl

some_bytes : (w : List ℕ) → IsWord w → (length w == 0) ≡ false
some_bytes w (bare_word b bs unquoted all) = grind (arith, nat_tests)
some_bytes w (quoted q inside tail h t all) = grind (arith, nat_tests)

pub first_word : (w bs : List ℕ) (i : List Placed) → IsWord w → IsTrue (is_apart bs) → bytes i ≡ w ++ bs → word_at i ≡ Some (take (length w) i, drop (length w) i)
unfolding word_at
first_word w bs i is apart e =
    let len : word_len i ≡ length w = word_len-bare i ∙ ap (λ x. word_len (bares x)) e ∙ begins w bs is apart in
    ap word_in (no_blanks i (ap starts_blank e ∙ word_starts w bs is))
    ∙ ap (λ n. cond (n == 0) None (Some (take n i, drop n i))) len
    ∙ ap (λ t. cond t None (Some (take (length w) i, drop (length w) i))) (some_bytes w is)

pub blank_first : (p : Placed) (ps : List Placed) → IsTrue (is_blank p.byte) → word_at (p ∷ ps) ≡ word_at ps
unfolding word_at
blank_first p ps h =
    let n = prefix_len (λ q. is_blank q.byte) ps in
    let first : prefix_len (λ q. is_blank q.byte) (p ∷ ps) ≡ suc n = ap (λ t. cond t (1 + n) 0) h ∙ (let e : 1 + n ≡ suc n = omega arith in e) in
    ap (λ k. word_in (drop k (p ∷ ps))) first

comment_byte : (p : Placed) (ps : List Placed) (b : ℕ) → p.byte ≡ b → word_at (record { byte = b; line = p.line; column = p.column } ∷ ps) ≡ None → word_at (p ∷ ps) ≡ None
comment_byte p ps b e h = subst (λ (x : ℕ). word_at (record { byte = x; line = p.line; column = p.column } ∷ ps) ≡ None) (sym e) h

comment_at : (b line column : ℕ) (ps : List Placed) → IsTrue (b == 0x21 || b == 0x23) → word_at (record { byte = b; line = line; column = column } ∷ ps) ≡ None
unfolding word_at
comment_at b line column ps h =
    let blank : is_blank b ≡ false = grind (arith, nat_tests) in
    let quote : is_quote b ≡ false = grind (arith, nat_tests) in
    let bare : is_bare b ≡ false = grind (arith, nat_tests) in
    rw (blank, quote, bare) refl

pub no_word : word_at [] ≡ None
unfolding word_at
no_word = refl

nil-bytes : (i : List Placed) → bytes i ≡ [] → i ≡ []
nil-bytes [] e = refl
nil-bytes (p ∷ ps) e = absurd (let h : p.byte ∷ bytes ps ≡ [] = e in cc)

-- a row has the words that its bytes spell
blank_words : (b : ℕ) (ws : List (List ℕ)) (bs : List ℕ) (i : List Placed) → IsTrue (is_blank b) → bytes i ≡ b ∷ bs → ((j : List Placed) → bytes j ≡ bs → HasWords ws j) → HasWords ws i
blank_words b ws bs [] h e rest = absurd (let k : [] ≡ b ∷ bs = e in cc)
blank_words b ws bs (p ∷ ps) h e rest =
    moved ws (p ∷ ps) ps (rest ps (tail_same p.byte b (bytes ps) bs e))
    (blank_first p ps (subst (λ (x : ℕ). is_blank x ≡ true) (sym (head_same p.byte b (bytes ps) bs e)) h))

comment_words : (bs : List ℕ) (i : List Placed) → IsTrue (is_comment bs) → bytes i ≡ bs → HasWords [] i
comment_words bs [] h e = none_left [] no_word
comment_words [] (p ∷ ps) h e = absurd (false≢true h)
comment_words (b ∷ bs) (p ∷ ps) h e =
    none_left (p ∷ ps) (comment_byte p ps b (head_same p.byte b (bytes ps) bs e) (comment_at b p.line p.column ps h))

pub spaced_words : (ws : List (List ℕ)) (bs : List ℕ) → Spaced ws bs → (i : List Placed) → bytes i ≡ bs → HasWords ws i
spaced_words ws bs ended i e = none_left i (ap word_at (nil-bytes i e) ∙ no_word)
spaced_words ws bs (comment _ h) i e = comment_words bs i h e
spaced_words ws bs (blank b _ cs h t) i e = blank_words b ws cs i h e (spaced_words ws cs t)
spaced_words ws bs (word w us cs is apart t) i e =
    let n = length w in
    one_more w us i (take n i, drop n i) (first_word w cs i is apart e)
    (bytes-take n i ∙ ap (take n) e ∙ take_at w cs n refl)
    (spaced_words us cs t (drop n i) (bytes-drop n i ∙ ap (drop n) e ∙ drop_at w cs n refl))
