-- The part of a rest that is left before a byte.
use Rattle.std.proofs.Common.{◌≡◌, ℕ, ◌≤◌, ◌+◌, Bool, true, false, cond, List, [], ◌∷◌, ◌++◌, length, drop, refl, sym, ap, ◌∙◌, arith, ⊎_elim}
use Rattle.std.proofs.lemmas.Bool.{cases_Bool, cond-true, cond-false}
use Rattle.std.proofs.lemmas.List.{length-append}
use Rattle.vt_chars.specs.Utf8.{decoding_of, is_begun, within}
use Rattle.vt_chars.specs.declared.decoded.Decoded.{Decoded}
use Rattle.vt_chars.specs.declared.decoded.Decoded.TheVariants.{Character, Unfinished, Malformed}
use Rattle.vt_units.proofs.Joined.{begun_low, character-text, csi_text, decoding_of_begun, part_short, part_whole, sequence_whole}
use Rattle.vt_units.proofs.Readings.{palette_whole, short_reading}
use Rattle.vt_units.specs.Answer.{goes_on, unbroken_rest, rest_before, rest_before_by}
use Rattle.vt_units.specs.Bytes.{decodes, interrupts}
use Rattle.vt_units.specs.Reading.{Reading, alone, begins_csi, character, character_reading, character_text, control_text, reading, sequence, text_reading, unfinished}
use Rattle.vt_units.specs.Rest.{fresh}
use Rattle.vt_units.specs.ParserState.{IsSequence, Leaves, Stands, rest_of}
use Rattle.vt_units.specs.declared.remainder.Remainder.TheVariants.{All, Nothing}
use Rattle.vt_units.specs.declared.mode.Mode.{Mode}
use Rattle.vt_units.specs.declared.parser_state.ParserState as stage

-- the beginning of a character, before a byte
module _ (m now : Mode) (t : List ℕ) (b : ℕ) (decoding : decodes m ≡ true) (is : decoding_of t ≡ Unfinished) where
  begun : is_begun t ≡ true
  begun = decoding_of_begun t is

  more-reading : reading m (t ++ b ∷ []) ≡ character_text m (t ++ b ∷ [])
  more-reading =
      let len : length (t ++ b ∷ []) ≡ length t + 1 = length-append t (b ∷ []) in
      let short : length t ≤ 3 = part_short t is in
      short_reading m (t ++ b ∷ []) (omega arith) ∙ character-text m t (b ∷ []) decoding begun

  settled-is : rest_before (rest_of m t) now b
      ≡ rest_before_by (unfinished character) (rest_of m t) now b
  settled-is =
      let short : length t ≤ 3 = part_short t is in
      ap (λ r. rest_before_by r (rest_of m t) now b)
      (short_reading m t (omega arith) ∙ part_whole m t decoding is)

  goes : (r : Reading) → reading m (t ++ b ∷ []) ≡ r → goes_on r ≡ true
      → rest_before (rest_of m t) now b ≡ unbroken_rest (rest_of m t)
  goes r same on = settled-is ∙ cond-true _ _ _ (ap goes_on same ∙ on)

  not-csi : (d : Decoded) → decoding_of (t ++ b ∷ []) ≡ d → begins_csi (t ++ b ∷ []) ≡ false
      → reading m (t ++ b ∷ []) ≡ character_reading (t ++ b ∷ []) d
  not-csi d same csi = more-reading ∙ cond-false _ _ _ csi ∙ ap (character_reading (t ++ b ∷ [])) same

  csi-goes : begins_csi (t ++ b ∷ []) ≡ true → rest_before (rest_of m t) now b ≡ unbroken_rest (rest_of m t)
  csi-goes csi = goes (unfinished sequence)
      (more-reading ∙ cond-true _ _ _ csi
      ∙ ap (λ xs. control_text m (drop 2 xs)) (csi_text t b begun csi))
      refl

  pub rest_before-character : (code : ℕ) → decoding_of (t ++ b ∷ []) ≡ Character code
      → rest_before (rest_of m t) now b ≡ unbroken_rest (rest_of m t)
  rest_before-character code same = ⊎_elim csi-goes
      (λ csi. goes (character_reading (t ++ b ∷ []) (Character code)) (not-csi (Character code) same csi) refl)
      (cases_Bool (begins_csi (t ++ b ∷ [])))

  pub rest_before-unfinished : decoding_of (t ++ b ∷ []) ≡ Unfinished
      → rest_before (rest_of m t) now b ≡ unbroken_rest (rest_of m t)
  rest_before-unfinished same = ⊎_elim csi-goes
      (λ csi. goes (unfinished character) (not-csi Unfinished same csi) refl)
      (cases_Bool (begins_csi (t ++ b ∷ [])))

  behind-first : drop 1 (t ++ b ∷ []) ≡ [] → ⊥
  behind-first nothing =
      let first : (a : ℕ) × (rest : List ℕ) × (t ≡ a ∷ rest) × (within 0xC2 0xF4 a ≡ true) = begun_low t begun in
      let e : first.1 ++ b ∷ [] ≡ [] = sym (ap (λ xs. drop 1 (xs ++ b ∷ [])) first.2) ∙ nothing in
      some-bytes first.1 b e
    where
      some-bytes : (xs : List ℕ) (y : ℕ) → xs ++ y ∷ [] ≡ [] → ⊥
      some-bytes [] y nothing = cc
      some-bytes (x ∷ xs) y nothing = cc

  pub rest_before_malformed : decoding_of (t ++ b ∷ []) ≡ Malformed
      → rest_before (rest_of m t) now b ≡ record { bad = true; rest = fresh now }
  rest_before_malformed same = ⊎_elim
      (λ (csi : begins_csi (t ++ b ∷ []) ≡ true).
      let e : decoding_of (t ++ b ∷ []) ≡ Character 0x9B = ap decoding_of (csi_text t b begun csi) in
      absurd (let no : ⊥ = cc in no))
      (λ (csi : begins_csi (t ++ b ∷ []) ≡ false).
      settled-is ∙ cond-false _ _ _ (ap goes_on (not-csi Malformed same csi) ∙ stops (drop 1 (t ++ b ∷ [])) behind-first))
      (cases_Bool (begins_csi (t ++ b ∷ [])))
    where
      stops : (xs : List ℕ) → (xs ≡ [] → ⊥) → goes_on (alone xs (character_reading [] Malformed)) ≡ false
      stops [] some = absurd (some refl)
      stops (x ∷ xs) some = refl

-- a sequence, before a byte that may break it off
leaves_by : (m now : Mode) (t : List ℕ) (b : ℕ) (at : stage.ParserState) (broken : Bool)
    → rest_before (rest_of m t) now b ≡ unbroken_rest (cond broken (fresh now) (rest_of m t))
    → Leaves (rest_before (rest_of m t) now b) at (rest_of m t) now (cond broken Nothing All)
leaves_by m now t b at true is = is
leaves_by m now t b at false is = is

pub sequence_leaves : (at : stage.ParserState) (m now : Mode) (t : List ℕ) (b : ℕ) → IsSequence at → Stands at m t
    → length t ≤ 256
    → Leaves (rest_before (rest_of m t) now b) at (rest_of m t) now (cond (interrupts m b) Nothing All)
sequence_leaves at m now t b one stands bound =
    leaves_by m now t b at (interrupts m b)
    (ap (λ r. rest_before_by r (rest_of m t) now b)
    (short_reading m t bound ∙ sequence_whole at m t one stands))

pub palette_leaves : (at : stage.ParserState) (m now : Mode) (t : List ℕ) (b : ℕ) → Stands stage.ParserState.Palette m t → length t ≤ 256
    → Leaves (rest_before (rest_of m t) now b) at (rest_of m t) now (cond (interrupts m b) Nothing All)
palette_leaves at m now t b (digits, is, passes, few) bound =
    leaves_by m now t b at (interrupts m b)
    (ap (λ r. rest_before_by r (rest_of m t) now b)
    (short_reading m t bound ∙ ap (text_reading m) is ∙ palette_whole m digits passes few b))
