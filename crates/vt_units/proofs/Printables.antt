-- Printable bytes are characters by themselves, and control characters are units.
use Rattle.std.proofs.Common.{◌≡◌, ℕ, Bool, ◌==◌, ◌≤◌, ◌&&◌, ◌||◌, not, true, false, List, [], ◌∷◌, length, ap, ◌∙◌, arith}
use Rattle.std.specs.List.{prefix_len}
use Rattle.std.specs.Prelude.{nat_le, nat_lt}
use Rattle.std.proofs.lemmas.List.Sums.{prefix_len-le-length}
use Rattle.std.proofs.lemmas.Bool.{and_left, and_parts, cond-true, cond-false}
use Rattle.std.proofs.lemmas.Bool.Decides.{nat_tests}
use Rattle.vt_chars.specs.Utf8.{within}
use Rattle.vt_units.specs.Answer.{RestBefore, ByteOutcome, outcome_by_reading, unbroken_rest, rest_before, rest_before_by, make_outcome, byte_outcome}
use Rattle.vt_units.specs.Bytes.{decodes, is_control, is_never_shown, is_printable}
use Rattle.vt_units.specs.Laws.{ControlsAreUnits, PrintablesAreCharacters}
use Rattle.vt_units.specs.Reading.{character_reading, reading, whole}
use Rattle.vt_units.specs.Rest.{fresh}
use Rattle.vt_units.specs.declared.mode.Mode.{Mode}
use Rattle.vt_units.specs.declared.read.Read.{Read}
use Rattle.vt_units.specs.declared.then.Then as then
use Rattle.vt_units.specs.declared.unit.Unit as units

printable_reading : (m : Mode) (b : ℕ) → decodes m ≡ true → is_printable b ≡ true
    → reading m (b ∷ []) ≡ whole (units.Unit.Char b)
printable_reading m b decoding is =
    let esc : (b == 0x1B) ≡ false = grind (arith, nat_tests) in
    let csi : (b == 0x9B) ≡ false = grind (arith, nat_tests) in
    let low : nat_lt b 0x20 ≡ false = grind (arith, nat_tests) in
    let ascii : nat_le b 0x7F ≡ true = grind (arith, nat_tests) in
    let shown : within 0x7F 0x9F b ≡ false = grind (arith, nat_tests) in
    cond-false _ _ _ esc ∙ cond-false _ _ _ (and_left _ _ csi) ∙ cond-false _ _ _ (and_left _ _ low)
    ∙ cond-true _ _ _ decoding
    ∙ ap (character_reading (b ∷ [])) (cond-true _ _ _ ascii)
    ∙ ap whole (cond-false _ _ _ shown)

abbrev answer_of : RestBefore → ℕ → Read
answer_of s b = record { bad = s.bad; got = (byte_outcome s.rest b).got }

pub printables_are_characters : PrintablesAreCharacters
printables_are_characters old m b nothing decoding is =
    let left : rest_before old m b ≡ unbroken_rest (fresh m) = ap (λ t. rest_before_by (reading old.mode t) old m b) nothing in
    let all : byte_outcome (fresh m) b ≡ make_outcome (then.Then.Unit (units.Unit.Char b)) (fresh m) =
    ap (λ r. outcome_by_reading r (fresh m) b) (printable_reading m b decoding is) in (
      ap (λ s. answer_of s b) left ∙ ap (λ (t : ByteOutcome). record { bad = false; got = t.got }) all,
      ap (λ (s : RestBefore). (byte_outcome s.rest b).rest) left ∙ ap (λ (t : ByteOutcome). t.rest) all,
    )

control_reading : (m : Mode) (b : ℕ) → is_control m b ≡ true → (b == 0x1B) ≡ false
    → reading m (b ∷ []) ≡ whole (units.Unit.Control b)
control_reading m b is esc =
    let parts = and_parts (nat_lt b 0x20) (not m.display || is_never_shown b) is in
    let low : (b == 0x9B) ≡ false = grind (arith, nat_tests, parts.0) in
    cond-false _ _ _ esc
    ∙ cond-false _ _ _ (ap (λ (c : Bool). c && (m.display || not m.utf8)) low)
    ∙ cond-true _ _ _ is

pub controls_are_units : ControlsAreUnits
controls_are_units old m b nothing is esc =
    let left : rest_before old m b ≡ unbroken_rest (fresh m) = ap (λ t. rest_before_by (reading old.mode t) old m b) nothing in
    let all : byte_outcome (fresh m) b ≡ make_outcome (then.Then.Unit (units.Unit.Control b)) (fresh m) =
    ap (λ r. outcome_by_reading r (fresh m) b) (control_reading m b is esc) in (
      ap (λ s. answer_of s b) left ∙ ap (λ (t : ByteOutcome). record { bad = false; got = t.got }) all,
      ap (λ (s : RestBefore). (byte_outcome s.rest b).rest) left ∙ ap (λ (t : ByteOutcome). t.rest) all,
    )

pub printable_within : (text : List ℕ) → prefix_len is_printable text ≤ length text
printable_within text = prefix_len-le-length is_printable text
