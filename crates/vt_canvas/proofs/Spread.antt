-- Characters of any columns that are put at once.
use Rattle.std.proofs.Common.{◌≡◌, ◌<◌, ◌==◌, ◌&&◌, ◌||◌, ◌≤◌, arith, length, ℕ, suc, Bool, true, false, ◌+◌, ◌-◌, List, [], ◌∷◌, ◌++◌, take, refl, sym, ap, subst, ◌∙◌, cond, nat_lt, eqb-true, leb-true, nat_le, ◌≢◌, drop, get_or, length-drop, append_assoc, length-append, if◌then◌else◌}
use Rattle.std.proofs.lemmas.Bool.{and_parts, cond-true, cond-false}
use Rattle.std.proofs.lemmas.Bool.Decides.{nat_tests}
use Rattle.std.proofs.lemmas.List.{append-nil, drop-drop, length-map, map-append, take-append-drop, take-take, take_all, take_more}
use Rattle.std.specs.List.{prefix_len}
use Rattle.vt_cells.specs.Width.{AtMostTwo, LowTakeOne, PlainTakeOne, columns, half, is_plain}
use Rattle.vt_cells.specs.declared.cell.Cell.{Cell}
use Rattle.vt_grid.specs.Grid.{cells_of_codes, row_at}
use Rattle.vt_grid.specs.Halves.{with_cells_at}
use Rattle.vt_grid.specs.Laws.{StretchesJoin}
use Rattle.vt_canvas.specs.Cursor.{at_column, linefeed}
use Rattle.vt_canvas.specs.Erasing.{cells_inserted}
use Rattle.vt_canvas.specs.Printing.{cells_codes, codes_drawn, lacks_room, with_gap, print, print_character, print_characters, with_cells_at_cursor, with_character, cells_of_characters, after_wrap}
use Rattle.vt_canvas.specs.Screen.{IsWhole, Screen, pen_byte}

-- one character of one column is its code
one_code : (w code : ℕ) → w ≡ 1 → cells_codes w code ≡ code ∷ []
one_code w code is = ap (λ n. cells_codes n code) is

-- characters of one column each are their codes
pub plain_cells_of_characters : PlainTakeOne → (codes : List ℕ) → cells_of_characters (take (prefix_len is_plain codes) codes) ≡ take (prefix_len is_plain codes) codes
plain_cells_of_characters law [] = refl
plain_cells_of_characters law (code ∷ codes) = by (is_plain code) refl (plain_cells_of_characters law codes)
  where
    by : (test : Bool) → is_plain code ≡ test
        → cells_of_characters (take (prefix_len is_plain codes) codes) ≡ take (prefix_len is_plain codes) codes
        → cells_of_characters (take (prefix_len is_plain (code ∷ codes)) (code ∷ codes)) ≡ take (prefix_len is_plain (code ∷ codes)) (code ∷ codes)
    by true is others =
        let all : ℕ = suc (prefix_len is_plain codes) in
        let len : prefix_len is_plain (code ∷ codes) ≡ all =
        cond-true (is_plain code) (1 + prefix_len is_plain codes) 0 is
        ∙ (let e : 1 + prefix_len is_plain codes ≡ all = omega arith in e) in
        let holds : cells_of_characters (take all (code ∷ codes)) ≡ take all (code ∷ codes) =
        (λ i. one_code (columns code) code (law code is) i ++ others i) in
        subst (λ (n : ℕ). cells_of_characters (take n (code ∷ codes)) ≡ take n (code ∷ codes)) (sym len) holds
    by false is others =
        let none : prefix_len is_plain (code ∷ codes) ≡ 0 =
        cond-false (is_plain code) (1 + prefix_len is_plain codes) 0 is in
        subst (λ (n : ℕ). cells_of_characters (take n (code ∷ codes)) ≡ take n (code ∷ codes)) (sym none) refl

-- how many cells a character has
pub length-with_cells_at : (w code : ℕ) → 0 < w → w ≤ 2 → length (codes_drawn w code) ≡ w
length-with_cells_at w code some few = by (w == 2) refl
  where
    by : (test : Bool) → (w == 2) ≡ test → length (cond test (code ∷ half ∷ []) (code ∷ [])) ≡ w
    by true is = sym (eqb-true w 2 is)
    by false is = let one : 1 ≡ w = grind (arith, nat_tests, is, some, few) in one

-- the screen behind cells that leave some of the row
abbrev behind : List ℕ → Screen → Screen
behind codes s = record {
  grid = with_cells_at s.grid s.state.y s.state.x (cells_of_codes codes (pen_byte s));
  state = record s.state { x = s.state.x + length codes; wrap = false };
}

behind_is : (codes : List ℕ) (s : Screen) → s.state.x + length codes < s.grid.cols
    → with_cells_at_cursor codes s ≡ behind codes s
behind_is codes s fits =
    let next : nat_lt (s.state.x + length codes) s.grid.cols ≡ true = grind (arith, nat_tests, fits) in
    λ i. record {
      grid = with_cells_at s.grid s.state.y s.state.x (cells_of_codes codes (pen_byte s));
      state = record s.state {
        x = if next i then s.state.x + length codes else s.grid.cols - 1;
        wrap = if next i then false else s.state.autowrap;
      };
    }

-- cells, and then more behind them
join : StretchesJoin → (a b : List ℕ) (s : Screen) → 0 < length a → 0 < length b
    → s.state.x + length (a ++ b) ≤ s.grid.cols → length (row_at s.grid s.state.y) ≡ s.grid.cols
    → with_cells_at_cursor b (behind a s) ≡ with_cells_at_cursor (a ++ b) s
join law a b s some_a some_b fits long =
    let attr : ℕ = pen_byte s in
    let y : ℕ = s.state.y in
    let x : ℕ = s.state.x in
    let first : List Cell = cells_of_codes a attr in
    let second : List Cell = cells_of_codes b attr in
    let len_a : length first ≡ length a = length-map a _ in
    let len_b : length second ≡ length b = length-map b _ in
    let len : length (a ++ b) ≡ length a + length b = length-append a b in
    let count : x + length a + length b ≡ x + length (a ++ b) = omega (arith, len) in
    let grid : with_cells_at (with_cells_at s.grid y x first) y (x + length a) second ≡ with_cells_at s.grid y x (cells_of_codes (a ++ b) attr) =
    ap (λ (n : ℕ). with_cells_at (with_cells_at s.grid y x first) y (x + n) second) (sym len_a)
    ∙ law s.grid y x first second (omega (arith, some_a, len_a)) (omega (arith, some_b, len_b))
    (omega (arith, length-append first second, len_a, len_b, len, fits, long))
    ∙ ap (with_cells_at s.grid y x) (sym (map-append _ a b)) in
    λ i. record {
      grid = grid i;
      state = record s.state {
        x = if nat_lt (count i) s.grid.cols then count i else s.grid.cols - 1;
        wrap = if nat_lt (count i) s.grid.cols then false else s.state.autowrap;
      };
    }

-- a character that ends in the row
print_here : (w code : ℕ) (s : Screen) → 0 < w → w ≤ 2 → s.state.wrap ≡ false → s.state.insert ≡ false
    → s.state.x + w ≤ s.grid.cols → print w code s ≡ with_cells_at_cursor (codes_drawn w code) s
unfolding print
print_here w code s some few wrap closed fits =
    let not_none : (w == 0) ≡ false = grind (arith, nat_tests, some) in
    let not_lone : (w == 2 && s.grid.cols == 1) ≡ false = alone (w == 2) refl in
    let room : lacks_room w s ≡ false = grind (arith, nat_tests, fits) in
    let stays : (s.state.autowrap && (s.state.wrap || lacks_room w s)) ≡ false =
    ap (λ (p : Bool). s.state.autowrap && (p || lacks_room w s)) wrap
    ∙ ap (λ (p : Bool). s.state.autowrap && p) room
    ∙ nothing s.state.autowrap in
    let there : after_wrap w s ≡ s =
    cond-false (s.state.autowrap && (s.state.wrap || lacks_room w s)) (linefeed (at_column 0 s)) (cond (lacks_room w s) (at_column (s.grid.cols - w) s) s) stays
    ∙ cond-false (lacks_room w s) (at_column (s.grid.cols - w) s) s room in
    cond-false (w == 0) s (cond (w == 2 && s.grid.cols == 1) (with_character 1 0xFFFD s) (with_character w code s)) not_none
    ∙ cond-false (w == 2 && s.grid.cols == 1) (with_character 1 0xFFFD s) (with_character w code s) not_lone
    ∙ ap (λ (t : Screen). with_cells_at_cursor (codes_drawn w code) (with_gap w t)) there
    ∙ ap (with_cells_at_cursor (codes_drawn w code)) (cond-false s.state.insert (cells_inserted w s) s closed)
  where
    nothing : (b : Bool) → (b && false) ≡ false
    nothing true = refl
    nothing false = refl

    alone : (test : Bool) → (w == 2) ≡ test → (test && s.grid.cols == 1) ≡ false
    alone true is = grind (arith, nat_tests, eqb-true w 2 is, fits)
    alone false is = refl

print_none : (w code : ℕ) (s : Screen) → (w == 0) ≡ true → print w code s ≡ s
unfolding print
print_none w code s none =
    cond-true (w == 0) s (cond (w == 2 && s.grid.cols == 1) (with_character 1 0xFFFD s) (with_character w code s)) none

-- characters behind cells that are put
more_put : StretchesJoin → AtMostTwo → (codes front : List ℕ) (s : Screen) → 0 < length front
    → s.state.insert ≡ false → s.state.x + length (front ++ cells_of_characters codes) ≤ s.grid.cols
    → length (row_at s.grid s.state.y) ≡ s.grid.cols
    → print_characters codes (with_cells_at_cursor front s) ≡ with_cells_at_cursor (front ++ cells_of_characters codes) s
more_put law most [] front s some closed fits long = ap (λ (cells : List ℕ). with_cells_at_cursor cells s) (sym (append-nil front))
more_put law most (code ∷ codes) front s some closed fits long =
    by (columns code == 0) refl
    (λ (cells : List ℕ) (some_cells : 0 < length cells) (in_row : s.state.x + length (cells ++ cells_of_characters codes) ≤ s.grid.cols).
    more_put law most codes cells s some_cells closed in_row long)
  where
    w : ℕ
    w = columns code

    cells : List ℕ
    cells = codes_drawn (columns code) code

    by : (test : Bool) → (columns code == 0) ≡ test
        → ((others : List ℕ) → 0 < length others → s.state.x + length (others ++ cells_of_characters codes) ≤ s.grid.cols
        → print_characters codes (with_cells_at_cursor others s) ≡ with_cells_at_cursor (others ++ cells_of_characters codes) s)
        → print_characters codes (print (columns code) code (with_cells_at_cursor front s)) ≡ with_cells_at_cursor (front ++ cells_of_characters (code ∷ codes)) s
    by true is on =
        let same : cells_of_characters (code ∷ codes) ≡ cells_of_characters codes =
        ap (λ (c : List ℕ). c ++ cells_of_characters codes) (cond-true (columns code == 0) [] cells is) in
        ap (print_characters codes) (print_none (columns code) code (with_cells_at_cursor front s) is)
        ∙ on front some (subst (λ (c : List ℕ). s.state.x + length (front ++ c) ≤ s.grid.cols) same fits)
        ∙ ap (λ (c : List ℕ). with_cells_at_cursor (front ++ c) s) (sym same)
    by false is on =
        let same : cells_of_characters (code ∷ codes) ≡ cells ++ cells_of_characters codes =
        ap (λ (c : List ℕ). c ++ cells_of_characters codes) (cond-false (columns code == 0) [] cells is) in
        let wide : 0 < columns code = grind (arith, nat_tests, is) in
        let len : length cells ≡ columns code = length-with_cells_at (columns code) code wide (most code) in
        let all : (front ++ cells) ++ cells_of_characters codes ≡ front ++ cells_of_characters (code ∷ codes) =
        append_assoc front cells (cells_of_characters codes) ∙ ap (λ (c : List ℕ). front ++ c) (sym same) in
        let in_row : s.state.x + length ((front ++ cells) ++ cells_of_characters codes) ≤ s.grid.cols =
        subst (λ (c : List ℕ). s.state.x + length c ≤ s.grid.cols) (sym all) fits in
        let both : length ((front ++ cells) ++ cells_of_characters codes) ≡ length front + length cells + length (cells_of_characters codes) =
        length-append (front ++ cells) (cells_of_characters codes) ∙ ap (λ n. n + length (cells_of_characters codes)) (length-append front cells) in
        ap (λ (t : Screen). print_characters codes (print (columns code) code t)) (behind_is front s (omega (arith, in_row, both, len, wide)))
        ∙ ap (print_characters codes)
        (print_here (columns code) code (behind front s) wide (most code) refl closed (omega (arith, in_row, both, len))
        ∙ join law front cells s some (omega (arith, len, wide)) (omega (arith, in_row, both, length-append front cells)) long)
        ∙ on (front ++ cells) (omega (arith, some, length-append front cells)) in_row
        ∙ ap (λ (c : List ℕ). with_cells_at_cursor c s) all

-- characters that end in the row, of which one has a cell, are put at once
pub put_at_once : StretchesJoin → AtMostTwo → (codes : List ℕ) (s : Screen) → 0 < length (cells_of_characters codes)
    → s.state.wrap ≡ false → s.state.insert ≡ false → s.state.x + length (cells_of_characters codes) ≤ s.grid.cols
    → length (row_at s.grid s.state.y) ≡ s.grid.cols
    → print_characters codes s ≡ with_cells_at_cursor (cells_of_characters codes) s
put_at_once law most [] s some wrap closed fits long = absurd (omega (arith, some))
put_at_once law most (code ∷ codes) s some wrap closed fits long =
    by (columns code == 0) refl
    (λ (some_left : 0 < length (cells_of_characters codes)) (in_row : s.state.x + length (cells_of_characters codes) ≤ s.grid.cols).
    put_at_once law most codes s some_left wrap closed in_row long)
  where
    cells : List ℕ
    cells = codes_drawn (columns code) code

    by : (test : Bool) → (columns code == 0) ≡ test
        → (0 < length (cells_of_characters codes) → s.state.x + length (cells_of_characters codes) ≤ s.grid.cols → print_characters codes s ≡ with_cells_at_cursor (cells_of_characters codes) s)
        → print_characters codes (print (columns code) code s) ≡ with_cells_at_cursor (cells_of_characters (code ∷ codes)) s
    by true is on =
        let same : cells_of_characters (code ∷ codes) ≡ cells_of_characters codes =
        ap (λ (c : List ℕ). c ++ cells_of_characters codes) (cond-true (columns code == 0) [] cells is) in
        ap (print_characters codes) (print_none (columns code) code s is)
        ∙ on (subst (λ (c : List ℕ). 0 < length c) same some)
        (subst (λ (c : List ℕ). s.state.x + length c ≤ s.grid.cols) same fits)
        ∙ ap (λ (c : List ℕ). with_cells_at_cursor c s) (sym same)
    by false is on =
        let same : cells_of_characters (code ∷ codes) ≡ cells ++ cells_of_characters codes =
        ap (λ (c : List ℕ). c ++ cells_of_characters codes) (cond-false (columns code == 0) [] cells is) in
        let wide : 0 < columns code = grind (arith, nat_tests, is) in
        let len : length cells ≡ columns code = length-with_cells_at (columns code) code wide (most code) in
        let in_row : s.state.x + length (cells ++ cells_of_characters codes) ≤ s.grid.cols =
        subst (λ (c : List ℕ). s.state.x + length c ≤ s.grid.cols) same fits in
        let both : length (cells ++ cells_of_characters codes) ≡ length cells + length (cells_of_characters codes) = length-append cells (cells_of_characters codes) in
        ap (print_characters codes) (print_here (columns code) code s wide (most code) wrap closed (omega (arith, in_row, both, len)))
        ∙ more_put law most codes cells s (omega (arith, len, wide)) closed in_row long
        ∙ ap (λ (c : List ℕ). with_cells_at_cursor c s) (sym same)

-- characters of one column each
pub put_narrow : StretchesJoin → AtMostTwo → (codes : List ℕ) (s : Screen) → cells_of_characters codes ≡ codes → IsWhole s
    → 0 < length codes → s.state.wrap ≡ false → s.state.insert ≡ false → s.state.x + length codes ≤ s.grid.cols
    → with_cells_at_cursor codes s ≡ print_characters codes s
put_narrow law most codes s narrow whole some wrap closed fits =
    let long : length (row_at s.grid s.state.y) ≡ s.grid.cols =
    whole.full.wide s.state.y [] (omega (arith, whole.full.tall, whole.row)) in
    sym
    (put_at_once law most codes s (subst (λ (c : List ℕ). 0 < length c) (sym narrow) some) wrap closed
    (subst (λ (c : List ℕ). s.state.x + length c ≤ s.grid.cols) (sym narrow) fits) long
    ∙ ap (λ (c : List ℕ). with_cells_at_cursor c s) narrow)

-- characters of any columns, whose cells are these
pub put_cells_of_characters : StretchesJoin → AtMostTwo → (codes cells : List ℕ) (s : Screen) → cells ≡ cells_of_characters codes → IsWhole s
    → 0 < length cells → s.state.wrap ≡ false → s.state.insert ≡ false → s.state.x + length cells ≤ s.grid.cols
    → with_cells_at_cursor cells s ≡ print_characters codes s
put_cells_of_characters law most codes cells s is whole some wrap closed fits =
    let long : length (row_at s.grid s.state.y) ≡ s.grid.cols =
    whole.full.wide s.state.y [] (omega (arith, whole.full.tall, whole.row)) in
    ap (λ (c : List ℕ). with_cells_at_cursor c s) is
    ∙ sym
    (put_at_once law most codes s (subst (λ (c : List ℕ). 0 < length c) is some) wrap closed
    (subst (λ (c : List ℕ). s.state.x + length c ≤ s.grid.cols) is fits) long)

-- characters in two parts
pub print_characters-append : (a b : List ℕ) (s : Screen) → print_characters (a ++ b) s ≡ print_characters b (print_characters a s)
print_characters-append [] b s = refl
print_characters-append (code ∷ a) b s = print_characters-append a b (print_character code s)

-- after the first n of what is left
pub print_characters_on : (codes : List ℕ) (at n : ℕ) (before after : Screen)
    → after ≡ print_characters (take n (take (length codes - at) (drop at codes))) before
    → print_characters (drop (at + n) codes) after ≡ print_characters (drop at codes) before
print_characters_on codes at n before after is =
    let left : List ℕ = drop at codes in
    let whole : take (length codes - at) left ≡ left =
    take_all (length codes - at) left (omega (arith, length-drop at codes)) in
    ap (print_characters (drop (at + n) codes)) (is ∙ ap (λ (c : List ℕ). print_characters (take n c) before) whole)
    ∙ ap (λ (c : List ℕ). print_characters c (print_characters (take n left) before)) (sym (drop-drop n at codes))
    ∙ sym (print_characters-append (take n left) (drop n left) before)
    ∙ ap (λ (c : List ℕ). print_characters c before) (take-append-drop n left)

cells_of_characters-append : (a b : List ℕ) → cells_of_characters (a ++ b) ≡ cells_of_characters a ++ cells_of_characters b
cells_of_characters-append [] b = refl
cells_of_characters-append (c ∷ a) b =
    ap (λ (more : List ℕ). cells_codes (columns c) c ++ more) (cells_of_characters-append a b)
    ∙ sym (append_assoc (cells_codes (columns c) c) (cells_of_characters a) (cells_of_characters b))

-- the cells of one character more
pub cells_of_characters_more : (codes : List ℕ) (i : ℕ) → i < length codes
    → cells_of_characters (take (i + 1) codes) ≡ cells_of_characters (take i codes) ++ cells_codes (columns (get_or codes i 0)) (get_or codes i 0)
cells_of_characters_more codes i within =
    let code : ℕ = get_or codes i 0 in
    ap cells_of_characters (take_more codes i 0 within)
    ∙ cells_of_characters-append (take i codes) (code ∷ [])
    ∙ ap (λ (c : List ℕ). cells_of_characters (take i codes) ++ c) (append-nil (cells_codes (columns code) code))

-- plain characters at the front of a list
pub plain_front : PlainTakeOne → (codes : List ℕ) (m count : ℕ) → count ≡ prefix_len is_plain (take m codes) → count ≤ m
    → (take count (take m codes) ≡ take count codes) × (cells_of_characters (take count codes) ≡ take count codes)
plain_front law codes m count is short =
    let same : take count (take m codes) ≡ take count codes = take-take count m codes short in
    let narrow : cells_of_characters (take count (take m codes)) ≡ take count (take m codes) =
    subst (λ (n : ℕ). cells_of_characters (take n (take m codes)) ≡ take n (take m codes)) (sym is) (plain_cells_of_characters law (take m codes)) in (
      same,
      subst (λ (c : List ℕ). cells_of_characters c ≡ c) same narrow,
    )
