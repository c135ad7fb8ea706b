-- The rows of a screen are the cells of characters, after every tape whose words for the user's table are narrow.
use Rattle.std.proofs.Common.{◌≡◌, ℕ, ◌<◌, ◌==◌, ◌&&◌, ◌||◌, Bool, true, false, List, [], ◌∷◌, inl, inr, ⊎_elim, nat_lt, refl, sym, ap, subst, ◌∙◌, arith, ltb-true}
use Rattle.std.specs.Prelude.{All}
use Rattle.std.specs.List.{list_all, list_any}
use Rattle.std.proofs.lemmas.Bool.{and_parts, cases_lt, eqb-true, false≢true, or_cases}
use Rattle.std.proofs.lemmas.Bool.Decides.{nat_tests}
use Rattle.std.proofs.lemmas.List.Elements.{All-head, All-tail}
use Rattle.vt_cells.specs.Width.{LowTakeOne, PlainTakeOne, PrivateTakeOne, WorkedColumns, columns, half, is_plain}
use Rattle.vt_chars.specs.CharMap.{font_place, graphics}
use Rattle.vt_screen.proofs.for_laws.CharacterRows.{IsNarrow, IsNarrowCell, character-draws, character-edits, narrow-draws}
use Rattle.vt_screen.proofs.for_laws.Halved.{HaveCodes}
use Rattle.vt_screen.proofs.for_laws.TapeHalves.{KeepsTapes, below_half, tapes_keep}
use Rattle.vt_screen.specs.Characters.{AreCharacters, IsNarrowTaped, TapesKeepCharacters}
use Rattle.vt_units.specs.Laws.{TextsSpellCharacters}

few : (n : ℕ) → n < 2 → (n == 2) ≡ false
few n small = grind (arith, nat_tests, small)

-- what takes one column isn't followed by a half
of_one : (code : ℕ) → code < 0x110000 → columns code ≡ 1 → IsNarrow code
of_one code small one = (below_half code small, few (columns code) (omega (arith, one)))

-- the graphics that are neither in Latin-1 nor plain: the diamond and the scan lines
abbrev worked_codes : List ℕ
worked_codes = 0x25C6 ∷ 0x23BA ∷ 0x23BB ∷ 0x23BC ∷ 0x23BD ∷ []

-- a code of which a law states that it is narrow
abbrev is_known : ℕ → Bool
is_known code =
    list_any (λ m. code == m) worked_codes || (nat_lt code 256 || nat_lt code 0x110000 && is_plain code)

module _ (low : LowTakeOne) (plain : PlainTakeOne) (own : PrivateTakeOne) (worked : WorkedColumns) where
  latin-narrow : (b : ℕ) → b < 256 → IsNarrow b
  latin-narrow b small =
      elim (cases_lt b 0xAD) [
        | inl before ↦ of_one b (omega (arith, small)) (low b (omega (arith, small)) (λ same. omega (arith, before, same)))
        | inr from ↦
            elim (cases_lt 0xAD b) [
              | inl behind ↦ of_one b (omega (arith, small)) (low b (omega (arith, small)) (λ same. omega (arith, behind, same)))
              | inr to ↦
                  let same : 0xAD ≡ b = omega (arith, from, to) in
                  let none : columns b ≡ 0 = ap columns (sym same) ∙ worked.soft_hyphen in
                  (below_half b (omega (arith, small)), few (columns b) (omega (arith, none)))
            ]
      ]

  font-narrow : (b : ℕ) → b < 256 → IsNarrow (font_place b)
  font-narrow b small =
      of_one (font_place b) (omega (arith, small)) (own (font_place b) (omega arith) (omega (arith, small)))

  marked-narrow : (code : ℕ) (marked : List ℕ) → HaveCodes IsNarrow marked → list_any (λ m. code == m) marked ≡ true
      → IsNarrow code
  marked-narrow code [] h is = absurd (false≢true is)
  marked-narrow code (m ∷ marked) h is =
      ⊎_elim (λ same. subst IsNarrow (sym (eqb-true code m same)) h.0) (marked-narrow code marked h.1)
      (or_cases (code == m) (list_any (λ m. code == m) marked) is)

  worked-narrow : HaveCodes IsNarrow worked_codes
  worked-narrow = (
    of_one 0x25C6 (omega arith) worked.diamond,
    (
      of_one 0x23BA (omega arith) worked.lines.0,
      (
        of_one 0x23BB (omega arith) worked.lines.1,
        (of_one 0x23BC (omega arith) worked.lines.2, (of_one 0x23BD (omega arith) worked.lines.3, tt)),
      ),
    ),
  )

  known-narrow : (code : ℕ) → is_known code ≡ true → IsNarrow code
  known-narrow code is =
      ⊎_elim (marked-narrow code worked_codes worked-narrow)
      (λ other.
      ⊎_elim (λ small. latin-narrow code (ltb-true code 256 small))
      (λ both.
      let parts = and_parts (nat_lt code 0x110000) (is_plain code) both in
      of_one code (ltb-true code 0x110000 parts.0) (plain code parts.1))
      (or_cases (nat_lt code 256) (nat_lt code 0x110000 && is_plain code) other))
      (or_cases (list_any (λ m. code == m) worked_codes) (nat_lt code 256 || nat_lt code 0x110000 && is_plain code) is)

  known-codes : (codes : List ℕ) → list_all is_known codes ≡ true → HaveCodes IsNarrow codes
  known-codes [] is = tt
  known-codes (code ∷ codes) is =
      let parts = and_parts (is_known code) (list_all is_known codes) is in
      (known-narrow code parts.0, known-codes codes parts.1)

  words-narrow : (words : List ℕ) → All (λ word. (word < 65536) × (columns word < 2)) words → HaveCodes IsNarrow words
  words-narrow [] h = tt
  words-narrow (word ∷ words) h =
      let first = All-head (λ word. (word < 65536) × (columns word < 2)) word words h in
      let small = first.0 in (
        (below_half word (omega (arith, small)), few (columns word) first.1),
        words-narrow words (All-tail (λ word. (word < 65536) × (columns word < 2)) word words h),
      )

  space : columns 0x20 ≡ 1
  space = low 0x20 (omega arith) (λ same. omega (arith, same))

  keeps : KeepsTapes IsNarrowCell (AreCharacters false 0) IsNarrow IsNarrowTaped
  keeps = record {
    edits = character-edits space;
    blank = λ c small. (let below = ltb-true c.code 0x7F small in latin-narrow c.code (omega (arith, below)));
    draws = character-draws;
    draws_byte = narrow-draws;
    malformed = of_one 0xFFFD (omega arith) worked.replacement;
    latin = latin-narrow;
    graphic = known-codes graphics refl;
    font = font-narrow;
    bytes = λ b small. small;
    words = words-narrow;
  }

  pub tapes_keep_characters : TextsSpellCharacters → TapesKeepCharacters
  tapes_keep_characters spell rows cols tape narrow =
      tapes_keep IsNarrowCell (AreCharacters false 0) IsNarrow IsNarrowTaped keeps spell rows cols tape narrow
