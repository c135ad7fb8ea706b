-- Printable bytes, one after another.
use Rattle.std.proofs.Common.{None, ◌≡◌, ◌==◌, ◌&&◌, ◌||◌, ◌-◌, ◌≤◌, arith, length, zero, ℕ, Bool, true, false, suc, ◌+◌, List, [], ◌∷◌, take, refl, sym, ap, subst, ◌∙◌, cond, if◌then◌else◌}
use Rattle.std.proofs.lemmas.Bool.{and_parts, cond-true, cond-false}
use Rattle.std.proofs.lemmas.Bool.Decides.{nat_tests}
use Rattle.std.proofs.lemmas.List.{length-take}
use Rattle.std.specs.List.{prefix_len}
use Rattle.vt_canvas.specs.Cursor.{at_column, linefeed}
use Rattle.vt_cells.specs.Width.{columns}
use Rattle.vt_canvas.specs.Printing.{lacks_room, print, print_character, print_characters, with_character, after_wrap}
use Rattle.vt_screen.proofs.Quiet.{quiet_run}
use Rattle.vt_screen.specs.Run.{HasRun, ScreenAndOuts, run_from, screen_effects, with_outs}
use Rattle.vt_canvas.specs.Screen.{Screen, mode_of}
use Rattle.vt_units.specs.Answer.{answer, rest_after}
use Rattle.vt_units.specs.Bytes.{decodes, is_printable}
use Rattle.vt_units.specs.Laws.{PrintablesAreCharacters}
use Rattle.vt_units.specs.Reading.{is_empty}
use Rattle.vt_units.specs.Rest.{Rest, fresh}
use Rattle.vt_units.specs.Run.{Reached, effects_of, make_reached, run}
use Rattle.vt_units.specs.declared.mode.Mode.{Mode}
use Rattle.vt_units.specs.declared.read.Read.{Read}

pub either_mode : (test : Bool) (s t : Screen) (m : Mode) → mode_of s ≡ m → mode_of t ≡ m
    → mode_of (cond test s t) ≡ m
either_mode true s t m first second = first
either_mode false s t m first second = second

-- a print leaves the mode
with_character_mode : (w code : ℕ) (s : Screen) → mode_of (with_character w code s) ≡ mode_of s
with_character_mode w code s =
    let first : Screen = at_column 0 s in
    let line : mode_of (linefeed first) ≡ mode_of s =
    either_mode (first.state.y == first.state.bottom) _ _ (mode_of s) refl refl in
    let near : mode_of (cond (lacks_room w s) (at_column (s.grid.cols - w) s) s) ≡ mode_of s =
    either_mode (lacks_room w s) _ _ (mode_of s) refl refl in
    let after : mode_of (after_wrap w s) ≡ mode_of s =
    either_mode (s.state.autowrap && (s.state.wrap || lacks_room w s)) (linefeed first) _ (mode_of s) line near in
    either_mode (after_wrap w s).state.insert _ (after_wrap w s) (mode_of s) after after

pub print_mode : (w code : ℕ) (s : Screen) → mode_of (print w code s) ≡ mode_of s
unfolding print
print_mode w code s =
    either_mode (w == 0) s _ (mode_of s) refl
    (either_mode (w == 2 && s.grid.cols == 1) _ _ (mode_of s) (with_character_mode 1 0xFFFD s) (with_character_mode w code s))

-- each byte is printable
abbrev pub AllPrintable : List ℕ → Type 0
AllPrintable [] = Unit {0}
AllPrintable (b ∷ bytes) = (is_printable b ≡ true) × AllPrintable bytes

-- the rest behind printable bytes
abbrev pub rest_behind : List ℕ → Mode → Rest → Rest
rest_behind [] m old = old
rest_behind (b ∷ bytes) m old = fresh m

pub fresh_behind : (bytes : List ℕ) (m : Mode) → rest_behind bytes m (fresh m) ≡ fresh m
fresh_behind [] m = refl
fresh_behind (b ∷ bytes) m = refl

pub printables_run : PrintablesAreCharacters → (bytes : List ℕ) (s : Screen) (rest : Rest)
    → AllPrintable bytes → rest.text ≡ [] → decodes (mode_of s) ≡ true
    → run_from (make_reached s rest) bytes
    ≡ with_outs [] (make_reached (print_characters bytes s) (rest_behind bytes (mode_of s) rest))
printables_run law [] s rest all nothing decoding = refl
printables_run law (b ∷ bytes) s rest all nothing decoding =
    let m : Mode = mode_of s in
    let one = law rest m b nothing decoding all.0 in
    let start : ScreenAndOuts = record { screen = s; outs = [] } in
    let same : mode_of (print_character b s) ≡ m = print_mode (columns b) b s in
    let rests : rest_behind bytes (mode_of (print_character b s)) (fresh m) ≡ fresh m =
    ap (λ (n : Mode). rest_behind bytes n (fresh m)) same ∙ fresh_behind bytes m in
    let first : make_reached (effects_of screen_effects (answer rest m b) start) (rest_after rest m b)
    ≡ with_outs [] (make_reached (print_character b s) (fresh m)) =
    ap (λ (r : Read). make_reached (effects_of screen_effects r start) (rest_after rest m b)) one.0
    ∙ ap (λ (r : Rest). with_outs [] (make_reached (print_character b s) r)) one.1 in
    ap (run screen_effects bytes) first
    ∙ printables_run law bytes (print_character b s) (fresh m) all.1 refl (ap decodes same ∙ decoding)
    ∙ ap (λ (r : Rest). with_outs [] (make_reached (print_characters bytes (print_character b s)) r)) rests

pub prefix_printable : (bytes : List ℕ) → AllPrintable (take (prefix_len is_printable bytes) bytes)
prefix_printable [] = tt
prefix_printable (b ∷ bytes) = by (is_printable b) refl (prefix_printable bytes)
  where
    by : (test : Bool) → is_printable b ≡ test → AllPrintable (take (prefix_len is_printable bytes) bytes)
        → AllPrintable (take (prefix_len is_printable (b ∷ bytes)) (b ∷ bytes))
    by true is others =
        let all : ℕ = suc (prefix_len is_printable bytes) in
        let len : prefix_len is_printable (b ∷ bytes) ≡ all =
        cond-true (is_printable b) (1 + prefix_len is_printable bytes) 0 is
        ∙ (let e : 1 + prefix_len is_printable bytes ≡ all = omega arith in e) in
        let holds : AllPrintable (take all (b ∷ bytes)) = (is, others) in
        subst (λ (n : ℕ). AllPrintable (take n (b ∷ bytes))) (sym len) holds
    by false is others =
        let none : prefix_len is_printable (b ∷ bytes) ≡ 0 =
        cond-false (is_printable b) (1 + prefix_len is_printable bytes) 0 is in
        subst (λ (n : ℕ). AllPrintable (take n (b ∷ bytes))) (sym none) tt

-- the first of the first bytes
pub take_short : (n k : ℕ) (xs : List ℕ) → n ≤ length (take k xs) → take n xs ≡ take n (take k xs)
take_short zero k xs within = refl
take_short (suc n) zero xs within = absurd (omega (arith, within))
take_short (suc n) (suc k) [] within = refl
take_short (suc n) (suc k) (x ∷ xs) within =
    ap (λ (ys : List ℕ). x ∷ ys) (take_short n k xs (omega (arith, within)))

rest_is : (count : ℕ) (text : List ℕ) (m : Mode) (old : Rest) → count ≤ length text
    → rest_behind (take count text) m old ≡ (if count == 0 then old else fresh m)
rest_is zero text m old within = refl
rest_is (suc n) [] m old within = absurd (omega (arith, within))
rest_is (suc n) (b ∷ text) m old within =
    let some : (suc n == 0) ≡ false = grind (arith, nat_tests) in
    sym (cond-false (suc n == 0) old (fresh m) some)

pub empty_is : (text : List ℕ) → is_empty text ≡ true → text ≡ []
empty_is [] is = refl
empty_is (b ∷ text) is = absurd (let e : ⊥ = cc in e)

-- the printable bytes at the front of a text, as they are taken
pub front_runs : PrintablesAreCharacters → (text : List ℕ) (count : ℕ) (s : Screen) (rest new : Rest)
    (m : Mode) → m ≡ mode_of s
    → count ≡ (if is_empty rest.text && decodes m then prefix_len is_printable text else 0)
    → count ≤ length text → new ≡ (if count == 0 then rest else fresh m)
    → run_from (make_reached s rest) (take count text)
    ≡ with_outs [] (make_reached (print_characters (take count text) s) new)
front_runs law text count s rest new m mode is within left = by (is_empty rest.text && decodes m) refl
  where
    by : (test : Bool) → (is_empty rest.text && decodes m) ≡ test
        → run_from (make_reached s rest) (take count text)
        ≡ with_outs [] (make_reached (print_characters (take count text) s) new)
    by true both =
        let parts = and_parts (is_empty rest.text) (decodes m) both in
        let len : count ≡ prefix_len is_printable text = is ∙ cond-true _ _ _ both in
        let all : AllPrintable (take count text) =
        subst (λ (n : ℕ). AllPrintable (take n text)) (sym len) (prefix_printable text) in
        printables_run law (take count text) s rest all (empty_is rest.text parts.0)
        (ap decodes (sym mode) ∙ parts.1)
        ∙ ap (λ (r : Rest). with_outs [] (make_reached (print_characters (take count text) s) r))
        (ap (λ (n : Mode). rest_behind (take count text) n rest) (sym mode)
        ∙ rest_is count text m rest within ∙ sym left)
    by false other =
        let none : count ≡ 0 = is ∙ cond-false _ _ _ other in
        let stays : new ≡ rest = left ∙ ap (λ (n : ℕ). if n == 0 then rest else fresh m) none in
        let nothing : take count text ≡ [] = ap (λ (n : ℕ). take n text) none in
        ap (run_from (make_reached s rest)) nothing
        ∙ (λ i. with_outs [] (make_reached (print_characters (sym nothing i) s) (sym stays i)))

-- the printable bytes at the front of the first k bytes, as they are taken and drawn
pub short_front_runs : PrintablesAreCharacters → (text : List ℕ) (k count : ℕ) (old : Reached Screen) (s drawn : Screen)
    (rest new : Rest) (m : Mode) → make_reached s rest ≡ old → m ≡ mode_of s
    → count ≡ (if is_empty rest.text && decodes m then prefix_len is_printable (take k text) else 0)
    → count ≤ length (take k text) → new ≡ (if count == 0 then rest else fresh m)
    → drawn ≡ print_characters (take count (take k text)) s
    → HasRun old text count (make_reached drawn new) None
short_front_runs law text k count old s drawn rest new m view mode is within left shown =
    let ran : run_from old (take count text) ≡ with_outs [] (make_reached drawn new) =
    (λ i. run_from (sym view i) (take_short count k text within i))
    ∙ front_runs law (take k text) count s rest new m mode is within left
    ∙ ap (λ (t : Screen). with_outs [] (make_reached t new)) (sym shown) in
    (omega (arith, within, length-take k text), ran, quiet_run old text count (make_reached drawn new) ran)
