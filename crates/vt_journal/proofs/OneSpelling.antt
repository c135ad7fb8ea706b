-- Values that have one spelling as words: a line of them spells one value, and a text begins with the lines of one
-- list.
use Rattle.std.proofs.Common.{◌≡◌, ◌≢◌, ℕ, ◌≤◌, true, suc, Option, Some, None, List, [], ◌∷◌, ◌++◌, length, map, refl, sym, ap, ◌∙◌, append_assoc, arith}
use Rattle.std.specs.List.{All, flat_map}
use Rattle.std.specs.Prelude.{IfSome}
use Rattle.std.proofs.lemmas.List.{append-nil, flat_map_more, map_push}
use Rattle.std.proofs.lemmas.List.Elements.{All-head, All-push, All-tail}
use Rattle.std.proofs.lemmas.List.Splits.{join_with_byte-slice_split}
use Rattle.vt_journal.specs.Cut.{words_of_text}
use Rattle.vt_journal.specs.Journal.{line_text}
use Rattle.vt_journal.specs.Lines.{IsCutAt, IsLine}
use Rattle.vt_journal.specs.Readers.{Finds, Takes, if_none_left}
use Rattle.vt_journal.specs.Words.{joined_by_blanks}
use Rattle.vt_journal.proofs.Clear.{is_clear_line, line_joined_by_blanks, words_of_text-joined_by_blanks}

-- the words of a value are a line of clear words, and words begin with those of one value
pub record OneSpelling {X : Type 0} (words_of : X → List (List ℕ)) (Fit : X → Type 0) : Type 0 where
  pub clear : (x : X) → Fit x → is_clear_line (words_of x) ≡ true
  pub once : (x y : X) (u v : List (List ℕ)) → Fit x → Fit y → words_of x ++ u ≡ words_of y ++ v → (x ≡ y) × (u ≡ v)

-- a text has one first line
line_once : (a b u v : List ℕ) → IsLine a → IsLine b → a ++ 0x0A ∷ u ≡ b ++ 0x0A ∷ v
    → (a ≡ b) × (u ≡ v)
line_once [] [] u v line_a line_b same =
    let others : u ≡ v = cc in
    (refl, others)
line_once [] (y ∷ b) u v line_a line_b same =
    let first : y ≡ 0x0A = cc in
    absurd (line_b 0 0 (omega arith) first)
line_once (x ∷ a) [] u v line_a line_b same =
    let first : x ≡ 0x0A = cc in
    absurd (line_a 0 0 (omega arith) first)
line_once (x ∷ a) (y ∷ b) u v line_a line_b same =
    let first : x ≡ y = cc in
    let others : a ++ 0x0A ∷ u ≡ b ++ 0x0A ∷ v = cc in
    let both =
    line_once a b u v (λ k d within. line_a (suc k) d (omega arith))
    (λ k d within. line_b (suc k) d (omega arith)) others in
    (λ j. first j ∷ both.0 j, both.1)

-- a line of words and the text after it
pub line_parts : (words : List (List ℕ)) (u : List ℕ)
    → line_text words ++ u ≡ joined_by_blanks words ++ 0x0A ∷ u
line_parts words u = append_assoc (joined_by_blanks words) (0x0A ∷ []) u

-- two texts that are the same have the same words in their first lines
pub words_once : (p q : List (List ℕ)) (u v : List ℕ) → is_clear_line p ≡ true → is_clear_line q ≡ true
    → line_text p ++ u ≡ line_text q ++ v → (p ≡ q) × (u ≡ v)
words_once p q u v clear_p clear_q same =
    let both =
    line_once (joined_by_blanks p) (joined_by_blanks q) u v (line_joined_by_blanks p clear_p)
    (line_joined_by_blanks q clear_q) (sym (line_parts p u) ∙ same ∙ line_parts q v) in (
      sym (words_of_text-joined_by_blanks p clear_p)
          ∙ ap words_of_text both.0
          ∙ words_of_text-joined_by_blanks q clear_q,
      both.1,
    )

-- a line is not nothing
pub some_line : (words : List (List ℕ)) (u : List ℕ) → line_text words ++ u ≢ []
some_line words u same = some (joined_by_blanks words) (sym (line_parts words u) ∙ same)
  where
    some : (text : List ℕ) → text ++ 0x0A ∷ u ≢ []
    some [] same = cc
    some (b ∷ text) same = cc

-- a text without line ends has no line
pub no_line : (text : List ℕ) (words : List (List ℕ)) (rest : List ℕ) → IsLine text
    → text ≢ line_text words ++ rest
no_line text words rest is same =
    ends text (joined_by_blanks words) is (same ∙ line_parts words rest)
  where
    ends : (text before : List ℕ) → IsLine text → text ≢ before ++ 0x0A ∷ rest
    ends [] [] is same = cc
    ends [] (b ∷ before) is same = cc
    ends (x ∷ text) [] is same =
        let first : x ≡ 0x0A = cc in
        absurd (is 0 0 (omega arith) first)
    ends (x ∷ text) (b ∷ before) is same =
        let others : text ≡ before ++ 0x0A ∷ rest = cc in
        ends text before (λ k d within. is (suc k) d (omega arith)) others

-- the text doesn't begin with the line of a value
abbrev pub Lacks : {X : Type 0} → (X → List (List ℕ)) → (X → Type 0) → List ℕ → Type 0
Lacks words_of Fit text = (x : _) (rest : List ℕ) → Fit x → text ≢ line_text (words_of x) ++ rest

-- the lines of values, and the rest
abbrev pub body : {X : Type 0} → (X → List (List ℕ)) → List X → List ℕ → List ℕ
body words_of xs rest = flat_map line_text (map words_of xs) ++ rest

-- a value that was taken is fit, if no word is left
pub fit_whole : {X : Type 0} (Fit : X → Type 0) (left : List (List ℕ)) (taken : Option X)
    → IfSome taken Fit → IfSome (if_none_left left taken) Fit
fit_whole Fit [] taken fit = fit
fit_whole Fit (word ∷ left) taken fit = tt

module _ {X : Type 0} {words_of : X → List (List ℕ)} {Fit : X → Type 0} (s : OneSpelling words_of Fit) where
  -- the words of a line that spells a value
  pub cut_words : (line : List ℕ) (x : X) → Fit x → joined_by_blanks (words_of x) ≡ line
      → words_of_text line ≡ words_of x
  cut_words line x fit is =
      ap words_of_text (sym is) ∙ words_of_text-joined_by_blanks (words_of x) (s.clear x fit)

  all_words : (line : List ℕ) (words : List (List ℕ)) (x : X) → words ≡ words_of_text line → Fit x
      → joined_by_blanks (words_of x) ≡ line → words ≡ words_of x ++ []
  all_words line words x is fit same = is ∙ cut_words line x fit same ∙ sym (append-nil (words_of x))

  -- a line spells the value that its words begin with if no word is left; otherwise it spells none
  pub whole : (line : List ℕ) (words left : List (List ℕ)) (taken : Option X) → words ≡ words_of_text line
      → Takes words_of Fit words left taken → IfSome taken Fit
      → Finds (λ x. joined_by_blanks (words_of x)) Fit line (if_none_left left taken)
  whole line words [] None is none fit = λ x fit_x same. none x [] fit_x (all_words line words x is fit_x same)
  whole line words (word ∷ left) None is none fit = λ x fit_x same. none x [] fit_x (all_words line words x is fit_x same)
  whole line words [] (Some x) is takes fit =
      ap joined_by_blanks (sym (append-nil (words_of x)) ∙ sym takes ∙ is) ∙ join_with_byte-slice_split 0x20 line
  whole line words (word ∷ left) (Some x) is takes fit = λ y fit_y same.
      let none : word ∷ left ≡ [] =
      (s.once x y (word ∷ left) [] fit fit_y (sym takes ∙ all_words line words y is fit_y same)).1 in
      cc

  -- a text that begins with a value's line is cut after it
  pub cut_is : (text line behind : List ℕ) (x : X) (rest : List ℕ) → IsCutAt text line behind → Fit x
      → text ≡ line_text (words_of x) ++ rest → joined_by_blanks (words_of x) ≡ line
  cut_is text line behind x rest cut fit same =
      (line_once (joined_by_blanks (words_of x)) line rest behind
      (line_joined_by_blanks (words_of x) (s.clear x fit)) cut.no_end
      (sym (line_parts (words_of x) rest) ∙ sym same ∙ cut.parts)).0

  -- a text begins with the line of one value
  pub first_once : (x y : X) (u v : List ℕ) → Fit x → Fit y
      → line_text (words_of x) ++ u ≡ line_text (words_of y) ++ v → (x ≡ y) × (u ≡ v)
  first_once x y u v fit_x fit_y same =
      let both = words_once (words_of x) (words_of y) u v (s.clear x fit_x) (s.clear y fit_y) same in
      ((s.once x y [] [] fit_x fit_y (ap (λ words. words ++ []) both.0)).0, both.1)

  next_line : (x : X) (xs : List X) (u : List ℕ) → body words_of (x ∷ xs) u ≡ line_text (words_of x) ++ body words_of xs u
  next_line x xs u = append_assoc (line_text (words_of x)) (flat_map line_text (map words_of xs)) u

  one_line : (x y : X) (xs ys : List X) (u v : List ℕ) → All Fit (x ∷ xs) → All Fit (y ∷ ys)
      → body words_of (x ∷ xs) u ≡ body words_of (y ∷ ys) v → (x ≡ y) × (body words_of xs u ≡ body words_of ys v)
  one_line x y xs ys u v fit_x fit_y same =
      first_once x y (body words_of xs u) (body words_of ys v) (All-head Fit x xs fit_x) (All-head Fit y ys fit_y)
      (sym (next_line x xs u) ∙ same ∙ next_line y ys v)

  -- after the lines there is no other, so they are all
  pub same_front : (xs ys : List X) (u v : List ℕ) → All Fit xs → All Fit ys → Lacks words_of Fit u → Lacks words_of Fit v
      → body words_of xs u ≡ body words_of ys v → (xs ≡ ys) × (u ≡ v)
  same_front [] [] u v fit_x fit_y none_u none_v same = (refl, same)
  same_front [] (y ∷ ys) u v fit_x fit_y none_u none_v same =
      absurd (none_u y (body words_of ys v) (All-head Fit y ys fit_y) (same ∙ next_line y ys v))
  same_front (x ∷ xs) [] u v fit_x fit_y none_u none_v same =
      absurd (none_v x (body words_of xs u) (All-head Fit x xs fit_x) (sym same ∙ next_line x xs u))
  same_front (x ∷ xs) (y ∷ ys) u v fit_x fit_y none_u none_v same =
      let first = one_line x y xs ys u v fit_x fit_y same in
      let others =
      same_front xs ys u v (All-tail Fit x xs fit_x) (All-tail Fit y ys fit_y) none_u none_v first.1 in
      (λ j. first.0 j ∷ others.0 j, others.1)

  -- and no other list of them is longer
  pub no_longer : (xs ys : List X) (u v : List ℕ) → All Fit xs → All Fit ys → Lacks words_of Fit u
      → body words_of xs u ≡ body words_of ys v → length ys ≤ length xs
  no_longer xs [] u v fit_x fit_y none_u same = omega arith
  no_longer [] (y ∷ ys) u v fit_x fit_y none_u same =
      absurd (none_u y (body words_of ys v) (All-head Fit y ys fit_y) (same ∙ next_line y ys v))
  no_longer (x ∷ xs) (y ∷ ys) u v fit_x fit_y none_u same =
      let first = one_line x y xs ys u v fit_x fit_y same in
      omega (arith, no_longer xs ys u v (All-tail Fit x xs fit_x) (All-tail Fit y ys fit_y) none_u first.1)

-- the lines of these values were read, and the rest is left
pub record IsSoFar {X : Type 0} (words_of : X → List (List ℕ)) (Fit : X → Type 0) (text : List ℕ) (xs : List X) (rest : List ℕ) : Type 0 where
  pub fit : All Fit xs
  pub parts : text ≡ body words_of xs rest

pub one_more : {X : Type 0} (words_of : X → List (List ℕ)) (Fit : X → Type 0) (text : List ℕ) (xs : List X)
    (rest : List ℕ) (x : X) (behind : List ℕ) → IsSoFar words_of Fit text xs rest → Fit x
    → rest ≡ line_text (words_of x) ++ behind → IsSoFar words_of Fit text (xs ++ x ∷ []) behind
one_more words_of Fit text xs rest x behind is fit next = record {
  fit = All-push Fit xs x is.fit fit;
  parts =
      is.parts
      ∙ ap (body words_of xs) next
      ∙ sym (append_assoc (flat_map line_text (map words_of xs)) (line_text (words_of x)) behind)
      ∙ ap (λ lines. lines ++ behind)
      (flat_map_more line_text [] (map words_of xs) (words_of x)
      ∙ ap (flat_map line_text) (sym (map_push words_of xs x)));
}
