-- The row of a pair is read as its line.
use Rattle.std.proofs.Common.{◌≡◌, ℕ, true, false, ◌&&◌, cond, Ok, IsTrue, List, [], ◌∷◌, codes, refl, ap, ◌∙◌}
use Rattle.std.proofs.lemmas.Bool.{and_from, and_parts}
use Rattle.std.specs.List.{join_with_byte}
use Rattle.std.specs.Str.{str_eq_ignore_ascii_case}
use Rattle.key_syms.specs.Act.{is_character}
use Rattle.key_syms.specs.Laws.{CodePointsAreTheirOwn}
use Rattle.key_syms.specs.declared.pair.Pair.{Pair}
use Rattle.key_text.specs.Fields.{character_at, end_of_line, keyword_at}
use Rattle.key_text.specs.Lines.{compose_line, is_next, is_next_by, pair_line, pair_of, means, usual_pairs_line}
use Rattle.key_text.specs.KeymapLine.{compose, is_real}
use Rattle.key_text.specs.Words.{bytes}
use Rattle.key_text.specs.declared.placed.Place.{Place}
use Rattle.key_text.specs.declared.placed.Placed.{Placed}
use Rattle.key_dump.specs.Dump.{code_point, pair_words}
use Rattle.key_dump.proofs.for_laws.NamedWords.{code_point_word}
use Rattle.key_dump.proofs.for_laws.ReadFields.{character_read, end_of_line_read, keyword_read, tail, word_of}
use Rattle.key_dump.proofs.for_laws.RowsSay.{says_by, word_row}
use Rattle.key_dump.proofs.for_laws.TextRows.{Says, is_row}

pair_by : (end : Place) (items : List Placed) (a b c : ℕ) (p q r s : List Placed) → character_at end items ≡ Ok (a, p) → character_at end p ≡ Ok (b, q) → keyword_at (codes "to") end q ≡ Ok r → character_at end r ≡ Ok (c, s) → end_of_line s ≡ Ok tt → pair_line end items ≡ Ok (means (compose (pair_of a b c)))
unfolding pair_line
pair_by end items a b c p q r s e1 e2 e3 e4 e5 = rw (e1, e2, e3, e4, e5) refl

-- a code point isn't the word `as`
not_as : (items : List Placed) (n : ℕ) (ws : List (List ℕ)) → bytes items ≡ tail (code_point n ∷ ws) → is_next (codes "as") items ≡ false
unfolding is_next
not_as items n ws e =
    let w = word_of items (code_point n) ws e (code_point_word n) in
    ap (is_next_by (codes "as")) w.found ∙ ap (λ t. str_eq_ignore_ascii_case t (codes "as")) w.spells

compose_read : CodePointsAreTheirOwn → (end : Place) (items : List Placed) (a b c : ℕ) → IsTrue (is_character a) → IsTrue (is_character b) → IsTrue (is_character c) → bytes items ≡ tail (code_point a ∷ code_point b ∷ codes "to" ∷ code_point c ∷ []) → compose_line end items ≡ Ok (means (compose (pair_of a b c)))
unfolding compose_line
compose_read own end items a b c good_a good_b good_c e =
    let accent = character_read own end items a (code_point b ∷ codes "to" ∷ code_point c ∷ []) good_a e in
    let base = character_read own end accent.left b (codes "to" ∷ code_point c ∷ []) good_b accent.leaves in
    let to = keyword_read (codes "to") end base.left (code_point c ∷ []) refl refl base.leaves in
    let result = character_read own end to.left c [] good_c to.leaves in
    ap (λ t. cond t (usual_pairs_line end items) (pair_line end items)) (not_as items a (code_point b ∷ codes "to" ∷ code_point c ∷ []) e)
    ∙ pair_by end items a b c accent.left base.left to.left result.left accent.is base.is to.is result.is (end_of_line_read result.left result.leaves)

-- the row of a pair
pub pair_says : CodePointsAreTheirOwn → (pair : Pair) → is_real pair ≡ true → Says (join_with_byte 0x20 (pair_words pair)) (compose pair)
pair_says own pair e =
    let parts = and_parts (is_character pair.accent && is_character pair.base) (is_character pair.result) e in
    let more = and_parts (is_character pair.accent) (is_character pair.base) parts.0 in
    let point : (n : ℕ) → is_row (code_point n) ≡ true = λ n. word_row (code_point n) (code_point_word n) in
    says_by (codes "compose") (code_point pair.accent ∷ code_point pair.base ∷ codes "to" ∷ code_point pair.result ∷ []) (compose pair) refl
    (and_from (is_row (code_point pair.accent)) _ (point pair.accent)
    (and_from (is_row (code_point pair.base)) _ (point pair.base)
    (and_from (is_row (code_point pair.result)) true (point pair.result) refl)))
    (λ end word left leaves. compose_read own end left pair.accent pair.base pair.result more.0 more.1 parts.1 leaves)
