-- Printable characters that are read at once show what their codes show one by one.
use Rattle.std.proofs.Common.{◌≡◌, ◌<◌, true, ℕ, List, [], ◌∷◌, length, refl, sym, ap, ◌∙◌, arith}
use Rattle.vt_cells.specs.Width.{columns}
use Rattle.vt_screen.proofs.Printed.{print_mode}
use Rattle.vt_canvas.specs.Printing.{print_character, print_characters}
use Rattle.vt_screen.specs.Run.{ScreenAndOuts, run_from, screen_effects, with_outs}
use Rattle.vt_canvas.specs.Screen.{Screen, mode_of}
use Rattle.vt_units.proofs.Wholes.{all_shown, characters_run}
use Rattle.vt_units.specs.Bytes.{decodes}
use Rattle.vt_units.specs.Characters.{AreTextsOf}
use Rattle.vt_units.specs.Laws.{PrintablesAreCharacters}
use Rattle.vt_units.specs.Rest.{Rest, fresh}
use Rattle.vt_units.specs.Run.{make_reached}
use Rattle.vt_units.specs.declared.mode.Mode.{Mode}

-- they have no side effect
codes_shown : (codes : List ℕ) (s : Screen)
    → all_shown screen_effects codes (record { screen = s; outs = [] }) ≡ record { screen = print_characters codes s; outs = [] }
codes_shown [] s = refl
codes_shown (code ∷ codes) s = codes_shown codes (print_character code s)

-- some characters, as they are taken
pub codes_run : PrintablesAreCharacters → (text codes : List ℕ) (s : Screen) (rest : Rest) (m : Mode)
    → m ≡ mode_of s → AreTextsOf text codes → 0 < length text → rest.text ≡ [] → decodes m ≡ true
    → run_from (make_reached s rest) text ≡ with_outs [] (make_reached (print_characters codes s) (fresh m))
codes_run law text [] s rest m mode are some nothing decoding = absurd (omega (arith, ap (λ (t : List ℕ). length t) are, some))
codes_run law text (code ∷ codes) s rest m mode are some nothing decoding =
    characters_run screen_effects law (λ c t. print_mode (columns c) c t.screen) text (code ∷ codes) (record { screen = s; outs = [] }) rest m (sym mode) are nothing decoding
    ∙ ap (λ (t : ScreenAndOuts). make_reached t (fresh m)) (codes_shown (code ∷ codes) s)
