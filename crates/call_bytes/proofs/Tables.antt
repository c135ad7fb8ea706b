-- Which bytes are those of a table, and of which.
use Rattle.std.proofs.Common.{◌≡◌, ℕ, ◌/◌, ◌%◌, ◌≤◌, Bool, true, false, ◌==◌, ◌&&◌, cond, nat_le, List, length, take, Option, Some, None, refl, sym, ap, ◌∙◌, eq-eqb}
use Rattle.std.specs.Prelude.{map}
use Rattle.std.specs.List.{list_all, range_with_len}
use Rattle.std.proofs.lemmas.Bool.{le-leb}
use Rattle.std.proofs.lemmas.List.{take_all}
use Rattle.call_bytes.specs.Colours.{colour_at, colours_in}
use Rattle.call_bytes.specs.Pairs.{is_pair_at, pair_at, pairs_in}
use Rattle.call_bytes.specs.Words.{word_at, words_in}
use Rattle.vt_cells.specs.Colours.{Rgb}
use Rattle.key_syms.specs.declared.pair.Pair.{Pair}

none_of : {A : Type 0} (t u : Bool) (x : Option A) → u ≡ false → None ≡ cond (t && u) x None
none_of true u x e = sym (ap (λ b. cond b x None) e)
none_of false u x e = refl

one_of : {A : Type 0} (t : Bool) (x : Option A) → t ≡ true → x ≡ cond t x None
one_of t x e = sym (ap (λ b. cond b x None) e)

three_of : (t u v : Bool) → t ≡ true → u ≡ true → v ≡ true → (t && u && v) ≡ true
three_of t u v p q r = ap (λ a. a && u && v) p ∙ ap (λ b. b && v) q ∙ r

pub pairs_refused : (b : List ℕ) → list_all (is_pair_at b) (range_with_len 0 (length b / 12)) ≡ false → None ≡ pairs_in b
pairs_refused b fails =
    none_of (nat_le (length b) 3072 && length b % 12 == 0)
    (list_all (is_pair_at b) (range_with_len 0 (length b / 12)))
    (Some (map (pair_at b) (range_with_len 0 (length b / 12)))) fails

pub pairs_read : (b : List ℕ) (pairs : List Pair) → length b ≤ 3072 → length b % 12 ≡ 0
    → list_all (is_pair_at b) (range_with_len 0 (length b / 12)) ≡ true
    → pairs ≡ map (pair_at b) (range_with_len 0 (length b / 12)) → Some pairs ≡ pairs_in b
pairs_read b pairs short fits whole e =
    ap Some e
    ∙ one_of (nat_le (length b) 3072 && length b % 12 == 0 && list_all (is_pair_at b) (range_with_len 0 (length b / 12)))
    (Some (map (pair_at b) (range_with_len 0 (length b / 12))))
    (three_of (nat_le (length b) 3072) (length b % 12 == 0)
    (list_all (is_pair_at b) (range_with_len 0 (length b / 12))) (le-leb (length b) 3072 short)
    (eq-eqb (length b % 12) 0 fits) whole)

pub words_read : (b words : List ℕ) (n : ℕ) → length b ≡ 512 → n ≡ length b / 2 → length words ≤ n
    → take n words ≡ map (word_at b) (range_with_len 0 n) → Some words ≡ words_in b
words_read b words n long half tall e =
    ap Some (sym (take_all n words tall) ∙ e ∙ ap (λ m. map (word_at b) (range_with_len 0 m)) half)
    ∙ one_of (length b == 512) (Some (map (word_at b) (range_with_len 0 (length b / 2)))) (eq-eqb (length b) 512 long)

pub colours_read : (b : List ℕ) (colours : List Rgb) (n : ℕ) → length b ≡ 48 → n ≡ length b / 3 → length colours ≤ n
    → take n colours ≡ map (colour_at b) (range_with_len 0 n) → Some colours ≡ colours_in b
colours_read b colours n long third tall e =
    ap Some (sym (take_all n colours tall) ∙ e ∙ ap (λ m. map (colour_at b) (range_with_len 0 m)) third)
    ∙ one_of (length b == 48) (Some (map (colour_at b) (range_with_len 0 (length b / 3)))) (eq-eqb (length b) 48 long)
