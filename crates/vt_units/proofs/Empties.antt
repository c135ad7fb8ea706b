-- If no text is pending, the pending bytes are known, and are right in every mode.
use Rattle.std.proofs.Common.{◌≡◌, ◌⊎◌, ◌+◌, ◌<◌, ℕ, true, List, [], ◌∷◌, ◌++◌, length, refl, sym, ap, ◌∙◌, arith, ⊎_elim}
use Rattle.std.proofs.lemmas.List.{length-append}
use Rattle.vt_chars.specs.Utf8.{decoding_of}
use Rattle.vt_chars.specs.declared.decoded.Decoded.TheVariants.{Malformed, Unfinished}
use Rattle.vt_units.proofs.Readings.{empty_is}
use Rattle.vt_units.specs.Bytes.{decodes, is_csi, is_digit, opens_string}
use Rattle.vt_units.specs.Reading.{is_empty}
use Rattle.vt_units.specs.ParserState.{IsIntroducer, IsOpener, Stands}
use Rattle.vt_units.specs.declared.mode.Mode.{Mode}
use Rattle.vt_units.specs.declared.parser_state.ParserState as stage

introducer_some : (m : Mode) (intro : List ℕ) → IsIntroducer m intro → 0 < length intro
introducer_some m intro is = ⊎_elim
    (λ (e : intro ≡ 0x1B ∷ 0x5B ∷ []). omega (arith, ap (λ (xs : List ℕ). length xs) e))
    (λ (other : ((intro ≡ 0x9B ∷ []) × (is_csi m 0x9B ≡ true)) ⊎ ((intro ≡ 0xC2 ∷ 0x9B ∷ []) × (decodes m ≡ true))).
    ⊎_elim
    (λ (e : (intro ≡ 0x9B ∷ []) × (is_csi m 0x9B ≡ true)). omega (arith, ap (λ (xs : List ℕ). length xs) e.0))
    (λ (e : (intro ≡ 0xC2 ∷ 0x9B ∷ []) × (decodes m ≡ true)). omega (arith, ap (λ (xs : List ℕ). length xs) e.0))
    other)
    is

opener_some : (t : List ℕ) → IsOpener t → 0 < length t
opener_some t is = ⊎_elim
    (λ (e : (b : ℕ) × (t ≡ 0x1B ∷ b ∷ []) × (opens_string b ≡ true)).
    omega (arith, ap (λ (xs : List ℕ). length xs) e.1))
    (λ (e : (b : ℕ) × (t ≡ 0x1B ∷ 0x5D ∷ b ∷ []) × (is_digit b ≡ true)).
    omega (arith, ap (λ (xs : List ℕ). length xs) e.1))
    is

part_some : (t : List ℕ) → decoding_of t ≡ Unfinished → t ≡ [] → ⊥
part_some t unfinished none =
    let begun : decoding_of [] ≡ Unfinished = ap decoding_of (sym none) ∙ unfinished in
    let malformed : decoding_of [] ≡ Malformed = refl in
    let wrong : ⊥ = cc in wrong

joined_some : (t front back : List ℕ) → t ≡ front ++ back → t ≡ [] → 0 < length front + length back → ⊥
joined_some t front back is none some =
    omega (arith, length-append front back, ap (λ (xs : List ℕ). length xs) is, ap (λ (xs : List ℕ). length xs) none)

pub stands_empty : (at : stage.ParserState) (m n : Mode) (t : List ℕ) → Stands at m t → is_empty t ≡ true → Stands at n t
stands_empty stage.ParserState.Ground m n t s empty = s
stands_empty stage.ParserState.Utf8 m n t s empty = absurd (part_some t s.1 (empty_is t empty))
stands_empty stage.ParserState.Escape m n t s empty =
    absurd (joined_some t [] (0x1B ∷ s.0) s.1 (empty_is t empty) (omega arith))
stands_empty stage.ParserState.Control m n t s empty =
    absurd (joined_some t s.1.intro s.0 s.1.is (empty_is t empty)
    (omega (arith, introducer_some m s.1.intro s.1.introduces)))
stands_empty stage.ParserState.CsiBracket m n t s empty =
    absurd (joined_some t s.0 (0x5B ∷ []) s.1 (empty_is t empty) (omega arith))
stands_empty stage.ParserState.Osc m n t s empty =
    absurd (joined_some t [] (0x1B ∷ 0x5D ∷ []) s (empty_is t empty) (omega arith))
stands_empty stage.ParserState.Palette m n t s empty =
    absurd (joined_some t [] (0x1B ∷ 0x5D ∷ 0x50 ∷ s.0) s.1 (empty_is t empty) (omega arith))
stands_empty stage.ParserState.ControlString m n t s empty =
    let none : t ≡ [] = empty_is t empty in
    absurd (let some : 0 < length t = opener_some t s in omega (arith, some, ap (λ (xs : List ℕ). length xs) none))
stands_empty stage.ParserState.StringEscape m n t s empty =
    absurd (joined_some t s.0 (0x1B ∷ []) s.1 (empty_is t empty) (omega arith))
