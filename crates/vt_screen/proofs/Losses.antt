-- Texts by which no row falls out at the top of the screen.
use Rattle.std.proofs.Common.{◌≡◌, ◌==◌, ◌&&◌, ◌||◌, ◌-◌, ◌≤◌, ◌<◌, ◌≢◌, arith, length, zero, ℕ, Bool, true, false, suc, ◌+◌, List, [], ◌∷◌, take, refl, sym, ap, subst, ◌∙◌, min, not, nat_le, nat_lt, leb-true, length-append, get_or, cond, Option, None, Some, if◌then◌else◌, ◌⊎◌, ⊎_elim}
use Rattle.std.proofs.lemmas.Bool.{and_left, and_parts, and_right, cond-true, cond-false, or_from}
use Rattle.std.proofs.lemmas.Bool.Decides.{nat_tests}
use Rattle.std.proofs.lemmas.List.{length-take}
use Rattle.std.specs.List.{prefix_len}
use Rattle.vt_canvas.specs.Falling.{fallen, feeds_line, goes_to_next_row, is_at_end, loses_row}
use Rattle.vt_canvas.specs.Printing.{after_wrap, codes_drawn, lacks_room, print, print_character, room, with_cells_at_cursor, with_character, with_gap}
use Rattle.vt_canvas.specs.Screen.{Screen, mode_of}
use Rattle.vt_cells.specs.Width.{AtMostTwo, LowTakeOne, columns}
use Rattle.vt_chars.specs.declared.decoded.Decoded.TheVariants.{Character, Malformed}
use Rattle.vt_grid.specs.Grid.{row_at}
use Rattle.vt_screen.proofs.Printed.{AllPrintable, empty_is, prefix_printable, print_mode, take_short}
use Rattle.vt_screen.proofs.Sequences.{come_run}
use Rattle.vt_screen.specs.Falling.{ScreenAndRows, bytes_ahead, count_of, row_effects, rows_of_run, then_fallen}
use Rattle.vt_units.proofs.Wholes.{all_shown, characters_run, well}
use Rattle.vt_units.specs.Answer.{rest_after}
use Rattle.vt_units.specs.Bytes.{decodes, is_printable}
use Rattle.vt_units.specs.Characters.{AreTextsOf, IsTextOf}
use Rattle.vt_units.specs.Laws.{IsUnitOf, PrintablesAreCharacters, SequencesAreUnits}
use Rattle.vt_units.specs.Numbers.{params_of}
use Rattle.vt_units.specs.Reading.{after_prefix, is_empty, longest_prefix}
use Rattle.vt_units.specs.Rest.{Rest, fresh}
use Rattle.vt_units.specs.Run.{Reached, effects_of, make_reached, run, step}
use Rattle.vt_units.specs.Sequences.{is_parameter}
use Rattle.vt_units.specs.WholeSequence.{Sequence, control_ahead, ends_control, escape_ahead, numbers_ahead, numbers_end, sequence_ahead, taken_ahead}
use Rattle.vt_units.specs.declared.mode.Mode.{Mode}
use Rattle.vt_units.specs.declared.read.Read.{Read}
use Rattle.vt_units.specs.declared.unit.Unit as units
use Rattle.vt_units.specs.declared.unit.Unit.TheVariants.{Csi}

-- a screen without rows that fell out
abbrev bare : Screen → ScreenAndRows
bare s = record { screen = s; rows = [] }

-- a unit that feeds no line loses no row
not_fed : (u : units.Unit) (s : Screen) → feeds_line u s ≡ false → fallen u s ≡ []
not_fed u s is = cond-false (loses_row u s) (row_at s.grid 0 ∷ []) [] (and_right (is_at_end s) (feeds_line u s) is)

-- above the last row no unit does
above_end : (u : units.Unit) (s : Screen) → is_at_end s ≡ false → fallen u s ≡ []
above_end u s is = cond-false (loses_row u s) (row_at s.grid 0 ∷ []) [] (and_left (is_at_end s) (feeds_line u s) is)

-- the rows of a sequence that is read at once are those of its unit
sequence_rows : SequencesAreUnits → (text : List ℕ) (old : Reached Screen) (s : Screen) (rest : Rest) (m : Mode)
    (one : Sequence) → make_reached s rest ≡ old → m ≡ mode_of s → taken_ahead rest text ≡ Some one
    → rows_of_run old (take one.count text) ≡ fallen one.unit s
sequence_rows law text old s rest m one view mode found =
    let comes : IsUnitOf m rest text one = law rest m text one found in
    ap (λ (from : Reached Screen). rows_of_run from (take one.count text)) (sym view)
    ∙ ap (λ (at : Reached ScreenAndRows). at.state.rows)
    (come_run row_effects one.unit m (take one.count text) (bare s) rest (sym mode) comes.comes)

-- a control sequence feeds no line
numbers_lose_none : (private : Bool) (before : ℕ) (numbers text : List ℕ) (one : Sequence) (s : Screen)
    → numbers_end private before numbers text ≡ Some one → feeds_line one.unit s ≡ false
numbers_lose_none private before numbers [] one s found = absurd (let e : ⊥ = cc in e)
numbers_lose_none private before numbers (last ∷ more) one s found = by (ends_control last) refl found
  where
    unit : Sequence
    unit = record { unit = Csi private (params_of numbers) last; count = before + length numbers + 1 }

    by : (test : Bool) → ends_control last ≡ test → cond test (Some unit) None ≡ Some one → feeds_line one.unit s ≡ false
    by true ends is = let same : unit ≡ one = cc in ap (λ (u : Sequence). feeds_line u.unit s) (sym same)
    by false ends is = absurd (let e : ⊥ = cc in e)

control_lose_none : (text : List ℕ) (one : Sequence) (s : Screen) → control_ahead text ≡ Some one → feeds_line one.unit s ≡ false
control_lose_none [] one s found = absurd (let e : ⊥ = cc in e)
control_lose_none (b ∷ more) one s found = by (b == 0x3F) found
  where
    by : (test : Bool) → cond test (numbers_ahead true 3 more) (numbers_ahead false 2 (b ∷ more)) ≡ Some one
        → feeds_line one.unit s ≡ false
    by true is = numbers_lose_none true 3 (longest_prefix is_parameter more) (after_prefix is_parameter more) one s is
    by false is =
        numbers_lose_none false 2 (longest_prefix is_parameter (b ∷ more)) (after_prefix is_parameter (b ∷ more)) one s is

opened_lose_none : (text : List ℕ) (one : Sequence) (s : Screen) → get_or text 1 0 ≡ 0x5B → sequence_ahead text ≡ Some one
    → feeds_line one.unit s ≡ false
opened_lose_none [] one s second found = absurd (let e : ⊥ = cc in e)
opened_lose_none (esc ∷ []) one s second found = absurd (let e : ⊥ = cc in e)
opened_lose_none (esc ∷ b ∷ more) one s second found = by (esc == 0x1B) found
  where
    by : (test : Bool) → cond test (escape_ahead b (take 254 more)) None ≡ Some one → feeds_line one.unit s ≡ false
    by true is =
        control_lose_none (take 254 more) one s (ap (λ (x : ℕ). escape_ahead x (take 254 more)) (sym second) ∙ is)
    by false is = absurd (let e : ⊥ = cc in e)

-- a sequence that is read at once loses no row above the last row, nor if it is a control sequence
pub ahead_lose_none : SequencesAreUnits → (text : List ℕ) (old : Reached Screen) (s : Screen) (rest : Rest) (m : Mode)
    → make_reached s rest ≡ old → m ≡ mode_of s → (is_at_end s ≡ false) ⊎ (get_or text 1 0 ≡ 0x5B)
    → rows_of_run old (take (bytes_ahead old text) text) ≡ []
ahead_lose_none law text old s rest m view mode no_loss =
    ap (λ (n : ℕ). rows_of_run old (take n text)) (ap (λ (at : Reached Screen). bytes_ahead at text) (sym view))
    ∙ by (taken_ahead rest text) refl
  where
    by : (ahead : Option Sequence) → taken_ahead rest text ≡ ahead → rows_of_run old (take (count_of (taken_ahead rest text)) text) ≡ []
    by None found = ap (λ (a : Option Sequence). rows_of_run old (take (count_of a) text)) found
    by (Some one) found =
        ap (λ (a : Option Sequence). rows_of_run old (take (count_of a) text)) found
        ∙ sequence_rows law text old s rest m one view mode found
        ∙ ⊎_elim (above_end one.unit s)
        (λ (second : get_or text 1 0 ≡ 0x5B). not_fed one.unit s (empty (is_empty rest.text) second found))
        no_loss
      where
        empty : (test : Bool) → get_or text 1 0 ≡ 0x5B → cond test (sequence_ahead text) None ≡ Some one
            → feeds_line one.unit s ≡ false
        empty true second is = opened_lose_none text one s second is
        empty false second is = absurd (let e : ⊥ = cc in e)

-- so many columns from the cursor on end in its row, if there are any
abbrev pub Fits : ℕ → Screen → Type 0
Fits n s = 0 < n → (s.state.wrap ≡ false) × (s.state.insert ≡ false) × (s.state.x + n ≤ s.grid.cols)

-- a character of some columns that fit is drawn at the cursor
drawn_here : (w code : ℕ) (s : Screen) → 0 < w → Fits w s → print w code s ≡ with_cells_at_cursor (codes_drawn w code) s
unfolding print
drawn_here w code s some fit =
    let here = fit some in
    let none : (w == 0) ≡ false = grind (arith, nat_tests, some) in
    let both : (w == 2 && s.grid.cols == 1) ≡ false = by (w == 2) refl in
    let lacks : lacks_room w s ≡ false = grind (arith, nat_tests, here.2) in
    let goes : (s.state.autowrap && (s.state.wrap || lacks_room w s)) ≡ false =
    and_right s.state.autowrap (s.state.wrap || lacks_room w s) (or_from s.state.wrap (lacks_room w s) here.0 lacks) in
    let stays : after_wrap w s ≡ s = cond-false _ _ _ goes ∙ cond-false _ _ _ lacks in
    let closed : with_gap w (after_wrap w s) ≡ s = ap (with_gap w) stays ∙ cond-false _ _ _ here.1 in
    cond-false (w == 0) s _ none
    ∙ cond-false (w == 2 && s.grid.cols == 1) (with_character 1 0xFFFD s) (with_character w code s) both
    ∙ ap (with_cells_at_cursor (codes_drawn w code)) closed
  where
    by : (test : Bool) → (w == 2) ≡ test → (w == 2 && s.grid.cols == 1) ≡ false
    by false is = and_left (w == 2) (s.grid.cols == 1) is
    by true is =
        let wide : 2 ≤ w = grind (arith, nat_tests, is) in
        let more : (s.grid.cols == 1) ≡ false = grind (arith, nat_tests, wide, (fit some).2) in
        and_right (w == 2) (s.grid.cols == 1) more

codes_count : (w code : ℕ) → 0 < w → w ≤ 2 → length (codes_drawn w code) ≡ w
codes_count zero code some few = absurd (omega (arith, some))
codes_count (suc zero) code some few = refl
codes_count (suc (suc zero)) code some few = refl
codes_count (suc (suc (suc w))) code some few = absurd (omega (arith, few))

-- the columns behind a character fit behind it
pub fits_on : (w n code : ℕ) (s : Screen) → w ≤ 2 → Fits (w + n) s → Fits n (print w code s)
unfolding print
fits_on zero n code s few fit =
    λ some. let here = fit (omega (arith, some)) in (here.0, here.1, omega (arith, here.2))
fits_on (suc w) n code s few fit = λ some.
    let here = fit (omega (arith, some)) in
    let long : length (codes_drawn (suc w) code) ≡ suc w = codes_count (suc w) code (omega arith) few in
    let next : nat_lt (s.state.x + length (codes_drawn (suc w) code)) s.grid.cols ≡ true =
    grind (arith, nat_tests, long, here.2, some) in
    let drawn : print (suc w) code s ≡ with_cells_at_cursor (codes_drawn (suc w) code) s =
    drawn_here (suc w) code s (omega arith) (λ more. (here.0, here.1, omega (arith, here.2))) in
    subst (λ (t : Screen). (t.state.wrap ≡ false) × (t.state.insert ≡ false) × (t.state.x + n ≤ t.grid.cols)) (sym drawn) (
      cond-true _ _ _ next,
      here.1,
      omega (arith, cond-true (nat_lt (s.state.x + length (codes_drawn (suc w) code)) s.grid.cols) (s.state.x + length (codes_drawn (suc w) code)) (s.grid.cols - 1) next, long, here.2),
    )

-- a character that fits doesn't go to the next row
fits_here : (w : ℕ) (s : Screen) → Fits w s → goes_to_next_row w s ≡ false
fits_here zero s fit = refl
fits_here (suc w) s fit =
    let here = fit (omega arith) in
    let lacks : lacks_room (min (suc w) s.grid.cols) s ≡ false = grind (arith, nat_tests, here.2) in
    and_right (not (suc w == 0)) (s.state.autowrap && (s.state.wrap || lacks_room (min (suc w) s.grid.cols) s))
    (and_right s.state.autowrap (s.state.wrap || lacks_room (min (suc w) s.grid.cols) s)
    (or_from s.state.wrap (lacks_room (min (suc w) s.grid.cols) s) here.0 lacks))

fits_first : (w n : ℕ) (s : Screen) → Fits (w + n) s → Fits w s
fits_first w n s fit some =
    let here = fit (omega (arith, some)) in (here.0, here.1, omega (arith, here.2))

-- the columns of characters
abbrev pub columns_of_all : List ℕ → ℕ
columns_of_all [] = 0
columns_of_all (code ∷ codes) = columns code + columns_of_all codes

-- a character takes at most as many columns as its text has bytes
text_columns : LowTakeOne → AtMostTwo → (first : List ℕ) (code : ℕ) → IsTextOf first code → columns code ≤ length first
text_columns low most [] code is = absurd (let e : ⊥ = (let clash : Malformed ≡ Character code = is.whole in cc) in e)
text_columns low most (a ∷ []) code is =
    let whole = well (a ∷ []) code is.whole in
    let under : code < 0x300 = omega (arith, leb-true a 0x7F whole.0, whole.1) in
    let other : code ≢ 0xAD = omega (arith, leb-true a 0x7F whole.0, whole.1) in
    omega (arith, low code under other)
text_columns low most (a ∷ b ∷ more) code is = omega (arith, most code)

pub texts_columns : LowTakeOne → AtMostTwo → (text codes : List ℕ) → AreTextsOf text codes
    → columns_of_all codes ≤ length text
texts_columns low most text [] are = omega arith
texts_columns low most text (code ∷ codes) (first, more, joined, one, others) =
    omega (
      arith,
      ap (λ (t : List ℕ). length t) joined,
      length-append first more,
      text_columns low most first code one,
      texts_columns low most more codes others,
    )

-- so many columns fit as the cursor's row has left
pub room_fits : (n : ℕ) (s : Screen) → n ≤ room s → Fits n s
room_fits n s few some = by s.state.wrap s.state.insert refl refl
  where
    by : (wrap insert : Bool) → s.state.wrap ≡ wrap → s.state.insert ≡ insert
        → (s.state.wrap ≡ false) × (s.state.insert ≡ false) × (s.state.x + n ≤ s.grid.cols)
    by true insert wrapped opened =
        let none : room s ≡ 0 = cond-true _ _ _ (ap (λ (t : Bool). t || s.state.insert) wrapped) in
        absurd (omega (arith, some, few, none))
    by false true wrapped opened =
        let none : room s ≡ 0 = cond-true _ _ _ (ap (λ (t : Bool). t || s.state.insert) wrapped ∙ opened) in
        absurd (omega (arith, some, few, none))
    by false false wrapped opened =
        let left : room s ≡ s.grid.cols - s.state.x =
        cond-false _ _ _ (ap (λ (t : Bool). t || s.state.insert) wrapped ∙ opened) in
        (wrapped, opened, omega (arith, some, few, left))

-- characters that fit lose no row
char_lose_none : (code n : ℕ) (s : Screen) → Fits (columns code + n) s
    → then_fallen (units.Unit.Char code) (bare s) ≡ bare (print_character code s)
char_lose_none code n s fit =
    let none : fallen (units.Unit.Char code) s ≡ [] =
    not_fed (units.Unit.Char code) s (fits_here (columns code) s (fits_first (columns code) n s fit)) in
    λ i. record { screen = print_character code s; rows = none i }

shown_lose_none : AtMostTwo → (codes : List ℕ) (s : Screen) → Fits (columns_of_all codes) s
    → (all_shown row_effects codes (bare s)).rows ≡ []
shown_lose_none most [] s fit = refl
shown_lose_none most (code ∷ codes) s fit =
    ap (λ (t : ScreenAndRows). (all_shown row_effects codes t).rows) (char_lose_none code (columns_of_all codes) s fit)
    ∙ shown_lose_none most codes (print_character code s)
    (fits_on (columns code) (columns_of_all codes) code s (most code) fit)

pub characters_lose_none : PrintablesAreCharacters → AtMostTwo → (text codes : List ℕ) (s : Screen) (rest : Rest) (m : Mode)
    → m ≡ mode_of s → AreTextsOf text codes → rest.text ≡ [] → decodes m ≡ true → Fits (columns_of_all codes) s
    → rows_of_run (make_reached s rest) text ≡ []
characters_lose_none law most text codes s rest m mode are nothing decoding fit =
    ap (λ (at : Reached ScreenAndRows). at.state.rows)
    (characters_run row_effects law (λ c t. print_mode (columns c) c t.screen) text codes (bare s) rest m (sym mode) are nothing decoding)
    ∙ shown_lose_none most codes s fit

-- printable bytes that fit lose no row
printables_lose_none : PrintablesAreCharacters → LowTakeOne → AtMostTwo → (bytes : List ℕ) (s : Screen) (rest : Rest)
    → AllPrintable bytes → rest.text ≡ [] → decodes (mode_of s) ≡ true → Fits (length bytes) s
    → rows_of_run (make_reached s rest) bytes ≡ []
printables_lose_none law low most [] s rest all nothing decoding fit = refl
printables_lose_none law low most (b ∷ bytes) s rest all nothing decoding fit =
    let m : Mode = mode_of s in
    let one = law rest m b nothing decoding all.0 in
    let ends = and_parts (nat_le 0x20 b) (nat_le b 0x7E) all.0 in
    let under : b < 0x300 = omega (arith, leb-true b 0x7E ends.1) in
    let other : b ≢ 0xAD = omega (arith, leb-true b 0x7E ends.1) in
    let wide : columns b ≡ 1 = low b under other in
    let fitting : Fits (columns b + length bytes) s =
    subst (λ (w : ℕ). Fits (w + length bytes) s) (sym wide)
    (λ some. let here = fit (omega (arith, some)) in (here.0, here.1, omega (arith, here.2))) in
    let same : mode_of (print_character b s) ≡ m = print_mode (columns b) b s in
    let first : step row_effects b (make_reached (bare s) rest) ≡ make_reached (bare (print_character b s)) (fresh m) =
    ap (λ (r : Read). make_reached (effects_of row_effects r (bare s)) (rest_after rest m b)) one.0
    ∙ ap (λ (r : Rest). make_reached (then_fallen (units.Unit.Char b) (bare s)) r) one.1
    ∙ ap (λ (t : ScreenAndRows). make_reached t (fresh m)) (char_lose_none b (length bytes) s fitting) in
    ap (λ (at : Reached ScreenAndRows). (run row_effects bytes at).state.rows) first
    ∙ printables_lose_none law low most bytes (print_character b s) (fresh m) all.1 refl (ap decodes same ∙ decoding)
    (fits_on (columns b) (length bytes) b s (most b) fitting)

-- the printable bytes at the front of the first k bytes, as they are taken
pub front_lose_none : PrintablesAreCharacters → LowTakeOne → AtMostTwo → (text : List ℕ) (k count : ℕ) (old : Reached Screen) (s : Screen)
    (rest : Rest) (m : Mode) → make_reached s rest ≡ old → m ≡ mode_of s
    → count ≡ (if is_empty rest.text && decodes m then prefix_len is_printable (take k text) else 0)
    → count ≤ length (take k text) → Fits k s → rows_of_run old (take count text) ≡ []
front_lose_none law low most text k count old s rest m view mode is within fit =
    by (is_empty rest.text && decodes m) refl
  where
    by : (test : Bool) → (is_empty rest.text && decodes m) ≡ test → rows_of_run old (take count text) ≡ []
    by true both =
        let parts = and_parts (is_empty rest.text) (decodes m) both in
        let front : List ℕ = take k text in
        let len : count ≡ prefix_len is_printable front = is ∙ cond-true _ _ _ both in
        let all : AllPrintable (take count front) =
        subst (λ (n : ℕ). AllPrintable (take n front)) (sym len) (prefix_printable front) in
        let fits : Fits (length (take count front)) s =
        λ some. let here = fit (omega (arith, some, within, length-take count front, length-take k text)) in
        (here.0, here.1, omega (arith, here.2, within, length-take count front, length-take k text)) in
        (λ i. rows_of_run (sym view i) (take_short count k text within i))
        ∙ printables_lose_none law low most (take count front) s rest all (empty_is rest.text parts.0)
        (ap decodes (sym mode) ∙ parts.1) fits
    by false other =
        let none : count ≡ 0 = is ∙ cond-false _ _ _ other in
        ap (λ (n : ℕ). rows_of_run old (take n text)) none
