-- The property of rows that their edits keep, after every tape on a start screen; and the places of halves.
use Rattle.std.proofs.Common.{◌∙◌, ◌≡◌, ℕ, zero, suc, ◌+◌, ◌-◌, ◌<◌, ◌≤◌, ◌==◌, Bool, true, false, List, [], ◌∷◌, map, refl, sym, subst, cond, arith, nat_lt, ltb-true}
use Rattle.std.specs.Prelude.{All, slice_index}
use Rattle.std.specs.List.{list_all, range_with_len}
use Rattle.std.proofs.lemmas.Bool.{and_parts, false≢true}
use Rattle.std.proofs.lemmas.Bool.Decides.{nat_tests}
use Rattle.std.proofs.lemmas.List.Elements.{All-head, All-tail, All-weaker}
use Rattle.vt_cells.specs.Width.{columns, half}
use Rattle.vt_cells.specs.declared.cell.Cell.{Cell}
use Rattle.vt_chars.specs.CharMap.{char_of, font_place, graphic_of, graphics}
use Rattle.vt_chars.specs.Utf8.{within}
use Rattle.vt_grid.specs.Grid.{cells_of_codes}
use Rattle.vt_grid.specs.Halves.{IsPairedRow}
use Rattle.vt_screen.proofs.for_laws.Edits.{Each, Edits, IsWholeCell}
use Rattle.vt_screen.proofs.for_laws.FollowWide.{paired-row, wide-edits}
use Rattle.vt_screen.proofs.for_laws.Halved.{Draws, HasHalves, HaveCodes, coloured, colours_reset, control_keeps, escape_keeps, printed_once, private_keeps, sequence_keeps}
use Rattle.vt_canvas.specs.Effect.{control_sequence, effect, private_sequence}
use Rattle.vt_screen.specs.Halves.{FollowWide, HalvesFollowWide, IsPlainTaped, TapesKeepHalves}
use Rattle.vt_canvas.specs.Printing.{character_of_byte, table_of, toggle_high_bit}
use Rattle.vt_screen.specs.Run.{ScreenAndOuts, screen_effects, with_outs, start}
use Rattle.vt_canvas.specs.Screen.{Screen, blank_of, mode_of}
use Rattle.vt_screen.specs.Tape.{Taped, byte, change, after_tape_item, run_tape}
use Rattle.vt_canvas.specs.Change.{Change, lost_rows, after_change, palette, resize, resized_to, user_map}
use Rattle.vt_units.specs.Answer.{answer}
use Rattle.vt_units.specs.Laws.{PrintsOnly, TextsSpellCharacters, ThenPrints}
use Rattle.vt_units.specs.Run.{Reached, effect_of}
use Rattle.vt_units.specs.declared.read.Read.{Read}
use Rattle.vt_units.specs.declared.then.Then as then
use Rattle.vt_units.specs.declared.unit.Unit as units

pub below_half : (code : ℕ) → code < 0x110000 → (code == half) ≡ false
below_half code small = grind (arith, nat_tests, small)

either_below : (test : Bool) (a b : ℕ) → a < 256 → b < 256 → cond test a b < 256
either_below true a b first second = first
either_below false a b first second = second

toggle_high_bit_below : (b : ℕ) → b < 256 → toggle_high_bit b < 256
toggle_high_bit_below b small = grind (arith, nat_tests, small)

-- what is asked of the cells that come in, of the rows, of the codes of bytes, and of a tape's items
pub record KeepsTapes (Blank : Cell → Type 0) (Row : List Cell → Type 0) (Code : ℕ → Type 0) (Item : Taped → Type 0) : Type 0 where
  pub edits : Edits Blank Row
  pub blank : (c : Cell) → nat_lt c.code 0x7F ≡ true → Blank c
  pub draws : (code : ℕ) → (code == half) ≡ false → Draws Row Code (columns code) code
  pub draws_byte : (code : ℕ) → Code code → Draws Row Code 1 code
  pub malformed : Code 0xFFFD
  pub latin : (b : ℕ) → b < 256 → Code b
  pub graphic : HaveCodes Code graphics
  pub font : (b : ℕ) → b < 256 → Code (font_place b)
  pub bytes : (b : ℕ) → Item (byte b) → b < 256
  pub words : (words : List ℕ) → Item (change (user_map words)) → HaveCodes Code words

-- the codes of bytes
module _ (Code : ℕ → Type 0) (latin : (b : ℕ) → b < 256 → Code b) (graphic : HaveCodes Code graphics)
    (font : (b : ℕ) → b < 256 → Code (font_place b)) where
  -- one of these codes, or 0
  code_at : (codes : List ℕ) (i : ℕ) → HaveCodes Code codes → Code (slice_index codes i)
  code_at [] i h = latin 0 (omega arith)
  code_at (code ∷ codes) zero h = h.0
  code_at (code ∷ codes) (suc i) h = code_at codes i h.1

  -- the user's table at the start
  places : (n a : ℕ) → a + n ≤ 256 → HaveCodes Code (map font_place (range_with_len a n))
  places zero a small = tt
  places (suc n) a small = (font a (omega (arith, small)), places n (a + 1) (omega (arith, small)))

  either_code : (test : Bool) (a b : ℕ) → Code a → Code b → Code (cond test a b)
  either_code true a b first second = first
  either_code false a b first second = second

  graphic_is : (b : ℕ) → b < 256 → Code (graphic_of b)
  graphic_is b small =
      either_code (within 0x5F 0x7E b) (slice_index graphics (b - 0x5F)) b (code_at graphics (b - 0x5F) graphic) (latin b small)

  table_is : (user : List ℕ) (table b : ℕ) → HaveCodes Code user → b < 256 → Code (char_of user table b)
  table_is user table b h small =
      either_code (table == 0) b _ (latin b small)
      (either_code (table == 1) (graphic_of b) _ (graphic_is b small)
      (either_code (table == 2) (font_place b) (slice_index user b) (font b small) (code_at user b h)))

  character_of_byte_is : (b : ℕ) (s : Screen) → b < 256 → HaveCodes Code s.state.map → Code (character_of_byte b s)
  unfolding character_of_byte
  character_of_byte_is b s small h =
      table_is s.state.map (table_of s) (cond s.state.pen.toggle (toggle_high_bit b) b) h
      (either_below s.state.pen.toggle (toggle_high_bit b) b (toggle_high_bit_below b small) small)

module _ (Blank : Cell → Type 0) (Row : List Cell → Type 0) (Code : ℕ → Type 0) (Item : Taped → Type 0)
    (law : KeepsTapes Blank Row Code Item) where
  abbrev Keeps : Screen → Type 0
  Keeps s = HasHalves Row Code s

  malformed_draws : Draws Row Code 1 0xFFFD
  malformed_draws = law.draws_byte 0xFFFD law.malformed

  printed : (code : ℕ) (s : Screen) → (code == half) ≡ false → Keeps s → Keeps (effect (units.Unit.Char code) s).screen
  printed code s is h = printed_once Row Code Blank law.edits law.blank (columns code) code s malformed_draws (law.draws code is) h

  unit-keeps : (b : ℕ) (u : units.Unit) (s : Screen) → b < 256 → PrintsOnly b u → Keeps s → Keeps (effect u s).screen
  unit-keeps b (units.Unit.Char code) s small only h = printed code s (below_half code only) h
  unit-keeps b (units.Unit.Byte x) s small only h =
      printed_once Row Code Blank law.edits law.blank 1 (character_of_byte x s) s malformed_draws
      (law.draws_byte (character_of_byte x s)
      (character_of_byte_is Code law.latin law.graphic law.font x s (subst (λ n. n < 256) (sym only) small) h.1)) h
  unit-keeps b (units.Unit.Control code) s small only h = control_keeps Row Code Blank law.edits law.blank code s h
  unit-keeps b (units.Unit.Esc mid last) s small only h = escape_keeps Row Code Blank law.edits law.blank mid last s h
  unit-keeps b (units.Unit.Csi private params last) s small only h = by private
    where
      by : (test : Bool) → Keeps (cond test (private_sequence params last s) (control_sequence params last s)).screen
      by true = private_keeps Row Code Blank law.edits law.blank params last s h
      by false = sequence_keeps Row Code Blank law.edits law.blank params last s h
  unit-keeps b (units.Unit.Colour n rgb) s small only h = coloured Row Code Blank law.edits law.blank n rgb s h
  unit-keeps b units.Unit.ColourReset s small only h = colours_reset Row Code Blank law.edits law.blank s h
  unit-keeps b units.Unit.Ignored s small only h = h

  then-keeps : (b : ℕ) (t : then.Then) (at : ScreenAndOuts) → b < 256 → ThenPrints b t → Keeps at.screen
      → Keeps (effect_of screen_effects t at).screen
  then-keeps b (then.Then.Unit u) at small only h = unit-keeps b u at.screen small only h
  then-keeps b (then.Then.Act code) at small only h = control_keeps Row Code Blank law.edits law.blank code at.screen h
  then-keeps b then.Then.More at small only h = h
  then-keeps b then.Then.Dropped at small only h = h

  bad-keeps : (bad : Bool) (at : ScreenAndOuts) → Keeps at.screen
      → Keeps (cond bad (screen_effects.on_unit (units.Unit.Char 0xFFFD) at) at).screen
  bad-keeps true at h = printed 0xFFFD at.screen refl h
  bad-keeps false at h = h

  change-keeps : (m : Change) (s : Screen) → Item (change m) → Keeps s → Keeps (after_change m s)
  unfolding resized_to
  change-keeps (user_map words) s is h = (h.0, law.words words is)
  change-keeps (palette colours) s is h = h
  change-keeps (resize rows cols) s is h =
      (law.edits.resizing s.grid rows cols (lost_rows rows s) (blank_of s) h.0 (law.blank (blank_of s) refl), h.1)

  module _ (spell : TextsSpellCharacters) where
    played-keeps : (item : Taped) (at : Reached ScreenAndOuts) → Item item → Keeps at.state.screen
        → Keeps (after_tape_item item at).state.screen
    played-keeps (byte b) at is h =
        let m = mode_of at.state.screen in
        let read : Read = answer at.rest m b in
        then-keeps b read.got (cond read.bad (screen_effects.on_unit (units.Unit.Char 0xFFFD) at.state) at.state) (law.bytes b is)
        (spell at.rest m b) (bad-keeps read.bad at.state h)
    played-keeps (change m) at is h = change-keeps m at.state.screen is h

    tape-keeps : (tape : List Taped) (at : Reached ScreenAndOuts) → All Item tape → Keeps at.state.screen
        → Keeps (run_tape tape at).state.screen
    tape-keeps [] at are h = h
    tape-keeps (item ∷ tape) at are h =
        tape-keeps tape (after_tape_item item at) (All-tail Item item tape are)
        (played-keeps item at (All-head Item item tape are) h)

    -- every tape keeps it, from a start on
    pub tapes_keep : (rows cols : ℕ) (tape : List Taped) → All Item tape
        → Each Row (run_tape tape (with_outs [] (start rows cols))).state.screen.grid
    tapes_keep rows cols tape are =
        (tape-keeps tape (with_outs [] (start rows cols)) are
        (law.edits.filling rows cols _ (law.blank _ refl), places Code law.latin law.graphic law.font 256 0 (omega arith))).0

-- no code of a byte is that of a half
abbrev IsWhole : ℕ → Type 0
IsWhole code = (code == half) ≡ false

tested : (codes : List ℕ) → list_all (λ code. nat_lt code 0x110000) codes ≡ true → HaveCodes IsWhole codes
tested [] h = tt
tested (code ∷ codes) h =
    let parts = and_parts (nat_lt code 0x110000) (list_all (λ c. nat_lt c 0x110000) codes) h in
    (below_half code (ltb-true code 0x110000 parts.0), tested codes parts.1)

words_kept : (words : List ℕ) → All (λ word. word < 65536) words → HaveCodes IsWhole words
words_kept [] h = tt
words_kept (word ∷ words) h = (
  below_half word (let small = All-head (λ w. w < 65536) word words h in omega (arith, small)),
  words_kept words (All-tail (λ w. w < 65536) word words h),
)

whole_tapes : (Row : List Cell → Type 0) → Edits IsWholeCell Row
    → ((code : ℕ) → IsWhole code → Draws Row IsWhole (columns code) code)
    → ((code : ℕ) → IsWhole code → Draws Row IsWhole 1 code)
    → KeepsTapes IsWholeCell Row IsWhole IsPlainTaped
whole_tapes Row law draws draws_byte = record {
  edits = law;
  blank = λ c small. below_half c.code (let below = ltb-true c.code 0x7F small in omega (arith, below));
  draws = draws;
  draws_byte = draws_byte;
  malformed = refl;
  latin = λ b small. below_half b (omega (arith, small));
  graphic = tested graphics refl;
  font = λ b small. below_half (font_place b) (omega (arith, small));
  bytes = λ b small. small;
  words = words_kept;
}

-- left of each half stands a character of two columns
wide_draws : (code : ℕ) → IsWhole code → Draws (FollowWide false) IsWhole (columns code) code
wide_draws code is attr = by (columns code == 2) refl
  where
    by : (test : Bool) → (columns code == 2) ≡ test
        → FollowWide false (cells_of_codes (cond test (code ∷ half ∷ []) (code ∷ [])) attr)
    by true wide = ((λ e. absurd (false≢true (sym is ∙ e))), ((λ e. wide), tt))
    by false wide = ((λ e. absurd (false≢true (sym is ∙ e))), tt)

one_draws : (code : ℕ) → IsWhole code → Draws (FollowWide false) IsWhole 1 code
one_draws code is attr = ((λ e. absurd (false≢true (sym is ∙ e))), tt)

pub halves_follow_wide : columns half ≡ 1 → TextsSpellCharacters → HalvesFollowWide
halves_follow_wide narrow spell rows cols tape plain =
    tapes_keep IsWholeCell (FollowWide false) IsWhole IsPlainTaped
    (whole_tapes (FollowWide false) (wide-edits narrow) wide_draws one_draws) spell rows cols tape plain

-- so no half stands in column 0 or right of a half
pub tapes_keep_halves : columns half ≡ 1 → TextsSpellCharacters → TapesKeepHalves
tapes_keep_halves narrow spell rows cols tape plain =
    All-weaker (FollowWide false) IsPairedRow (paired-row narrow) _ (halves_follow_wide narrow spell rows cols tape plain)
