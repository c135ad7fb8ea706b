-- The case of the first words of rows.
use Rattle.std.proofs.Common.{◌≡◌, ℕ, ◌==◌, ◌&&◌, true, List, [], ◌∷◌, length, refl, sym, ap, ◌∙◌}
use Rattle.std.proofs.lemmas.Bool.{and_parts, eq-eqb, eqb-true, false≢true}
use Rattle.std.proofs.lemmas.List.{length-map}
use Rattle.std.proofs.lemmas.Str.{IsUtf8-from_ascii, utf8_valid_len-IsUtf8}
use Rattle.std.specs.Char.{eq_ignore_ascii_case, to_ascii_lowercase}
use Rattle.std.specs.Str.{IsAscii, str_eq_ignore_ascii_case}
use Rattle.std.specs.Str.Lossy.{utf8_valid_len}
use Rattle.key_text.proofs.for_laws.LikeLines.{IsKey}
use Rattle.key_text.proofs.for_laws.LikeReading.{AreSaid, rows_decide, says_some, words_alike, words_said}
use Rattle.key_text.specs.SameWords.{FirstWordsFold, SameButFirst, SameCase, first, words}
use Rattle.key_text.specs.Words.{bytes}
use Rattle.key_text.specs.declared.placed.Placed.{Placed}

-- what is the same but for case is the same to every text
pub folds : (xs ys text : List ℕ) → str_eq_ignore_ascii_case xs ys ≡ true → str_eq_ignore_ascii_case xs text ≡ str_eq_ignore_ascii_case ys text
folds [] [] text h = refl
folds [] (y ∷ ys) text h = absurd (false≢true h)
folds (x ∷ xs) [] text h = absurd (false≢true h)
folds (x ∷ xs) (y ∷ ys) [] h = refl
folds (x ∷ xs) (y ∷ ys) (t ∷ text) h =
    let lower : to_ascii_lowercase x ≡ to_ascii_lowercase y = eqb-true (to_ascii_lowercase x) (to_ascii_lowercase y) ((and_parts (eq_ignore_ascii_case x y) (str_eq_ignore_ascii_case xs ys) h).0) in
    ap (λ n. (n == to_ascii_lowercase t) && str_eq_ignore_ascii_case xs text) lower
    ∙ ap (λ b. (to_ascii_lowercase y == to_ascii_lowercase t) && b) (folds xs ys text ((and_parts (eq_ignore_ascii_case x y) (str_eq_ignore_ascii_case xs ys) h).1))

pub valid_ascii : (v : List Placed) → IsAscii (bytes v) → (utf8_valid_len (bytes v) == length v) ≡ true
valid_ascii v h = eq-eqb (utf8_valid_len (bytes v)) (length v) (utf8_valid_len-IsUtf8 (bytes v) (IsUtf8-from_ascii (bytes v) h) ∙ length-map v (λ p. p.byte))

case_key : (v w : List Placed) → SameCase v w → IsKey v w
case_key v w s = record {
  valid = valid_ascii v s.plain ∙ sym (valid_ascii w s.other);
  keyword = λ text key. folds (bytes v) (bytes w) text s.same;
}

firsts_said : AreSaid SameButFirst
firsts_said i j (words _ _ s) d e = words_said i j s d e
firsts_said i j (first _ _ v w h k c s) d e = says_some d e i j v w h k (case_key v.0 w.0 c) (words_alike v.1 w.1 s)

pub first-words_fold : FirstWordsFold
first-words_fold texts a b s = rows_decide SameButFirst firsts_said texts a b s
