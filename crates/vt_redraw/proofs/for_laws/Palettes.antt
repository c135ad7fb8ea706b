-- The text of the palette.
use Rattle.std.proofs.Common.{◌≡◌, ℕ, ◌+◌, ◌/◌, ◌%◌, ◌<◌, ◌≤◌, ◌==◌, ◌&&◌, ◌||◌, Bool, true, false, List, [], ◌∷◌, ◌++◌, length, refl, sym, subst, ap, ◌∙◌, append_assoc, append-nil, arith}
use Rattle.std.specs.Prelude.{All, if◌then◌else◌, slice_set}
use Rattle.std.specs.List.{list_all, range_with_len}
use Rattle.std.proofs.lemmas.Bool.{and_left, and_parts, cond-true, cond-false, eqb-true, le-ltb, lt-ltb}
use Rattle.std.proofs.lemmas.Bool.Decides.{nat_tests}
use Rattle.std.proofs.lemmas.List.{length-append, set_at}
use Rattle.std.proofs.lemmas.List.Elements.{All-head, All-tail}
use Rattle.std.proofs.lemmas.List.Folds.{list_all-append}
use Rattle.vt_cells.specs.Colours.{Rgb, start_palette}
use Rattle.vt_redraw.proofs.Does.{Does, does_nothing, does_then, does_to}
use Rattle.vt_redraw.proofs.Numbers.{below_holds}
use Rattle.vt_base.specs.Digits.{hex_digit}
use Rattle.vt_redraw.specs.Sequences.{colour_text, hex_digits, start_palette_text}
use Rattle.vt_redraw.specs.State.{colours_from, is_same_colour, palette_text}
use Rattle.vt_canvas.specs.Effect.{effect}
use Rattle.vt_screen.specs.Run.{ScreenAndOuts, PiecesAct, screen_effects, outs_of_option, run_from}
use Rattle.vt_canvas.specs.Saying.{Effect, without_out}
use Rattle.vt_canvas.specs.Screen.{Screen, mode_of, with_state}
use Rattle.vt_canvas.specs.Settings.{with_colour, with_start_palette}
use Rattle.vt_units.specs.Answer.{acts_in}
use Rattle.vt_units.specs.Bytes.{acts, is_hex}
use Rattle.vt_units.specs.Pieces.{HasEffect, controls_of, is_left_out, rest_with, text_of}
use Rattle.vt_units.specs.Reading.{Reading, after_prefix, command, longest_prefix, palette_ends, reading, unfinished, whole}
use Rattle.vt_units.specs.Rest.{Rest, fresh}
use Rattle.vt_units.specs.Run.{Reached, make_reached}
use Rattle.vt_units.specs.Sequences.{hex_pair, hex_value}
use Rattle.vt_units.specs.declared.mode.Mode.{Mode}
use Rattle.vt_units.specs.declared.unit.Unit as units
use Rattle.vt_units.specs.declared.unit.Unit.TheVariants.{Colour, ColourReset}

-- a text of a unit without a control character in it
piece_does : PiecesAct → (text : List ℕ) (u : units.Unit) → ((m : Mode) → reading m (text_of m [] text) ≡ whole u)
    → ((m : Mode) → controls_of m [] text ≡ []) → (s t : Screen) → effect u s ≡ without_out t → Does text s t
piece_does law text u reads acts_none s t is = record {
  does =
      λ m.
      let now : Mode = mode_of s in
      let at : Reached Screen = make_reached s (fresh m) in
      let first : ScreenAndOuts = record { screen = s; outs = [] } in
      let left : Rest = rest_with screen_effects first (fresh now) text in
      let effect_is : HasEffect screen_effects (reading now (text_of now [] text)) (controls_of now [] text) left (run_from at text) first = law at text refl in
      let all : HasEffect screen_effects (whole u) [] left (run_from at text) first =
      subst (λ (controls : List ℕ). HasEffect screen_effects (whole u) controls left (run_from at text) first) (acts_none now)
      (subst (λ (r : Reading). HasEffect screen_effects r (controls_of now [] text) left (run_from at text) first) (reads now) effect_is) in (
        left.mode,
        all ∙ ap (λ (d : Effect). make_reached (record { screen = d.screen; outs = [] ++ outs_of_option d.said }) (fresh left.mode)) is,
      );
}

longest_prefix_hex : (p : ℕ → Bool) (xs : List ℕ) → list_all p xs ≡ true → longest_prefix p xs ≡ xs
longest_prefix_hex p [] all = refl
longest_prefix_hex p (x ∷ xs) all =
    let parts = and_parts (p x) (list_all p xs) all in
    cond-true (p x) _ _ parts.0 ∙ ap (λ (ys : List ℕ). x ∷ ys) (longest_prefix_hex p xs parts.1)

after_prefix_hex : (p : ℕ → Bool) (xs : List ℕ) → list_all p xs ≡ true → after_prefix p xs ≡ []
after_prefix_hex p [] all = refl
after_prefix_hex p (x ∷ xs) all =
    let parts = and_parts (p x) (list_all p xs) all in
    cond-true (p x) _ _ parts.0 ∙ after_prefix_hex p xs parts.1

-- ESC ] P and digits
abbrev opened : List ℕ → List ℕ
opened ds = 0x1B ∷ 0x5D ∷ 0x50 ∷ ds

opened_reads : (m : Mode) (ds : List ℕ) → list_all is_hex ds ≡ true → length ds ≤ 7
    → reading m (opened ds) ≡ palette_ends m ds []
opened_reads m ds all few =
    cond-false _ _ _ (and_left _ _ (le-ltb 256 (length (opened ds)) (omega (arith, few))))
    ∙ (λ i. palette_ends m (longest_prefix_hex is_hex ds all i) (after_prefix_hex is_hex ds all i))

-- fewer than seven are no unit yet
goes_on : (m : Mode) (ds : List ℕ) → list_all is_hex ds ≡ true → length ds < 7 → reading m (opened ds) ≡ unfinished command
goes_on m ds all few =
    opened_reads m ds all (omega (arith, few)) ∙ cond-true _ _ _ (lt-ltb (length ds) 7 few)

no_control : (d : ℕ) → is_hex d ≡ true → acts d ≡ false
no_control d is = and_left _ _ (le-ltb d 0x20 (let low : 0x20 ≤ d = grind (arith, nat_tests, is) in low))

stays : (m : Mode) (ds : List ℕ) (d : ℕ) → list_all is_hex ds ≡ true → is_hex d ≡ true → length ds < 7
    → is_left_out (reading m (opened ds)) d ≡ false
stays m ds d all is few =
    ap (λ (r : Reading). is_left_out r d) (goes_on m ds all few) ∙ ap (λ (t : Bool). t || false) (no_control d is)

one_more : (ds : List ℕ) (d : ℕ) → list_all is_hex ds ≡ true → is_hex d ≡ true → list_all is_hex (ds ++ d ∷ []) ≡ true
one_more ds d all is =
    list_all-append is_hex ds (d ∷ []) ∙ (λ i. all i && (is i && true))

text_goes : (m : Mode) (todo ds : List ℕ) → list_all is_hex ds ≡ true → list_all is_hex todo ≡ true
    → length ds + length todo ≤ 7 → text_of m (opened ds) todo ≡ opened (ds ++ todo)
text_goes m [] ds all others few = ap opened (sym (append-nil ds))
text_goes m (d ∷ todo) ds all others few =
    let parts = and_parts (is_hex d) (list_all is_hex todo) others in
    cond-false _ _ _ (stays m ds d all parts.0 (omega (arith, few)))
    ∙ text_goes m todo (ds ++ d ∷ []) (one_more ds d all parts.0) parts.1 (omega (arith, few, length-append ds (d ∷ [])))
    ∙ ap opened (append_assoc ds (d ∷ []) todo)

no_controls : (m : Mode) (todo ds : List ℕ) → list_all is_hex ds ≡ true → list_all is_hex todo ≡ true
    → length ds + length todo ≤ 7 → controls_of m (opened ds) todo ≡ []
no_controls m [] ds all others few = refl
no_controls m (d ∷ todo) ds all others few =
    let parts = and_parts (is_hex d) (list_all is_hex todo) others in
    cond-false _ _ _ (ap (λ (r : Reading). acts_in r d) (goes_on m ds all (omega (arith, few))) ∙ no_control d parts.0)
    ∙ cond-false _ _ _ (stays m ds d all parts.0 (omega (arith, few)))
    ∙ no_controls m todo (ds ++ d ∷ []) (one_more ds d all parts.0) parts.1 (omega (arith, few, length-append ds (d ∷ [])))

reads_back : ℕ → Bool
reads_back n = is_hex (hex_digit n) && hex_value (hex_digit n) == n

all_read : list_all reads_back (range_with_len 0 16) ≡ true
unfolding reads_back
all_read = refl

digit : (n : ℕ) → n < 16 → (is_hex (hex_digit n) ≡ true) × (hex_value (hex_digit n) ≡ n)
unfolding reads_back
digit n h =
    let parts = and_parts (is_hex (hex_digit n)) (hex_value (hex_digit n) == n) (below_holds reads_back 16 all_read n h) in (
      parts.0,
      eqb-true (hex_value (hex_digit n)) n parts.1,
    )

pair : (n : ℕ) → n < 256 → hex_pair (hex_digit (n / 16)) (hex_digit (n % 16)) ≡ n
pair n h =
    let high = digit (n / 16) (omega (arith, h)) in
    let low = digit (n % 16) (omega arith) in
    omega (arith, high.1, low.1)

abbrev IsColour : Rgb → Type 0
IsColour rgb = (rgb.0 < 256) × (rgb.1 < 256) × (rgb.2 < 256)

module _ (law : PiecesAct) where
  start-does : (s : Screen) → Does start_palette_text s (with_start_palette s)
  unfolding start_palette_text
  start-does s = piece_does law _ ColourReset (λ m. refl) (λ m. refl) s _ refl

  colour-does : (n : ℕ) (rgb : Rgb) → n < 16 → IsColour rgb → (s : Screen) → Does (colour_text n rgb) s (with_colour n rgb s)
  unfolding colour_text
  colour-does n (r, g, b) h is s =
      let ds : List ℕ = hex_digit n ∷ hex_digits r (hex_digits g (hex_digits b [])) in
      let hex : list_all is_hex ds ≡ true =
      λ i. (digit n h).0 i && ((digit (r / 16) (omega (arith, is.0))).0 i && ((digit (r % 16) (omega arith)).0 i
      && ((digit (g / 16) (omega (arith, is.1))).0 i && ((digit (g % 16) (omega arith)).0 i
      && ((digit (b / 16) (omega (arith, is.2))).0 i && ((digit (b % 16) (omega arith)).0 i && true)))))) in
      piece_does law (opened ds) (Colour n (r, g, b))
      (λ m.
      ap (reading m) (text_goes m ds [] refl hex (omega arith))
      ∙ opened_reads m ds hex (omega arith)
      ∙ (λ i. whole (Colour ((digit n h).1 i) (pair r is.0 i, pair g is.1 i, pair b is.2 i))))
      (λ m. no_controls m ds [] refl hex (omega arith)) s _ refl

  colour-set : (front starts : List Rgb) (start rgb : Rgb) (s : Screen) → s.state.palette ≡ front ++ start ∷ starts
      → length front < 16
      → with_colour (length front) rgb s ≡ with_state s (record s.state { palette = front ++ rgb ∷ starts })
  unfolding with_colour
  colour-set front starts start rgb s now few =
      cond-true _ _ _ (lt-ltb (length front) 16 few)
      ∙ (λ i. with_state s (record s.state { palette = slice_set (now i) (length front) rgb }))
      ∙ ap (λ (p : List Rgb). with_state s (record s.state { palette = p })) (set_at front start starts rgb (length front) refl)

  -- colours from a number on
  Coloured : List Rgb → List Rgb → Type 0
  Coloured starts colours =
      (before : List Rgb) (s : Screen) → s.state.palette ≡ before ++ starts
      → length before + length colours ≤ 16 → length starts ≡ length colours → All IsColour colours
      → Does (colours_from (length before) starts colours) s (with_state s (record s.state { palette = before ++ colours }))

  colour-first : (start rgb : Rgb) (starts colours : List Rgb) → Coloured starts colours → Coloured (start ∷ starts) (rgb ∷ colours)
  unfolding Coloured
  colour-first start rgb starts colours others before s now few count all = by (is_same_colour start rgb) refl
    where
      Next : Screen → Type 0
      Next t = Does (colours_from (length before + 1) starts colours) t (with_state t (record t.state { palette = before ++ rgb ∷ colours }))

      next : (t : Screen) → t.state.palette ≡ before ++ rgb ∷ starts → Next t
      next t is =
          subst (λ (n : ℕ). Does (colours_from n starts colours) t (with_state t (record t.state { palette = before ++ rgb ∷ colours })))
          (length-append before (rgb ∷ []))
          (subst (λ (p : List Rgb). Does (colours_from (length (before ++ rgb ∷ [])) starts colours) t (with_state t (record t.state { palette = p })))
          (append_assoc before (rgb ∷ []) colours)
          (others (before ++ rgb ∷ []) t (is ∙ sym (append_assoc before (rgb ∷ []) starts))
          (omega (arith, few, length-append before (rgb ∷ []))) (omega (arith, count)) (All-tail IsColour rgb colours all)))

      same-colour : (a b : Rgb) → is_same_colour a b ≡ true → a ≡ b
      same-colour (r, g, b) (x, y, z) is =
          let last = and_parts (r == x && g == y) (b == z) is in
          let first = and_parts (r == x) (g == y) last.0 in
          λ i. (eqb-true r x first.0 i, eqb-true g y first.1 i, eqb-true b z last.1 i)

      by : (t : Bool) → is_same_colour start rgb ≡ t
          → Does ((if t then [] else colour_text (length before) rgb) ++ colours_from (length before + 1) starts colours) s
          (with_state s (record s.state { palette = before ++ rgb ∷ colours }))
      by true test = next s (now ∙ ap (λ (c : Rgb). before ++ c ∷ starts) (same-colour start rgb test))
      by false test =
          does_then
          (does_to (colour-does (length before) rgb (omega (arith, few)) (All-head IsColour rgb colours all) s) (colour-set before starts start rgb s now (omega (arith, few))))
          (next (with_state s (record s.state { palette = before ++ rgb ∷ starts })) refl)

  colours-do : (starts colours : List Rgb) → Coloured starts colours
  unfolding Coloured
  colours-do [] [] before s now few count all =
      does_to (does_nothing s) (ap (λ (p : List Rgb). with_state s (record s.state { palette = p })) now)
  colours-do [] (rgb ∷ colours) before s now few count all = absurd (omega (arith, count))
  colours-do (start ∷ starts) [] before s now few count all = absurd (omega (arith, count))
  colours-do (start ∷ starts) (rgb ∷ colours) before s now few count all =
      colour-first start rgb starts colours (colours-do starts colours) before s now few count all

  pub palette_does : (colours : List Rgb) → length colours ≡ 16 → All IsColour colours → (s : Screen)
      → Does (palette_text colours) s (with_state s (record s.state { palette = colours }))
  unfolding with_start_palette Coloured
  palette_does colours count all s =
      does_then (start-does s)
      (colours-do start_palette colours [] (with_state s (record s.state { palette = start_palette })) refl (omega (arith, count)) (omega (arith, count)) all)
