-- Each unfinished text is a proper prefix of a unit.
use Rattle.std.proofs.Common.{◌≡◌, ◌≢◌, ◌↔◌, ℕ, ◌==◌, ◌≤◌, Bool, true, false, cond, ◌&&◌, List, [], ◌∷◌, ◌++◌, length, drop, refl, sym, ap, ◌∙◌, subst, arith, ⊎_elim, inl, inr}
use Rattle.std.proofs.lemmas.Bool.{and_parts, cases_Bool, cond-true, cond-false, eqb-true, false≢true}
use Rattle.std.proofs.lemmas.List.{append_assoc}
use Rattle.std.proofs.lemmas.Bool.Decides.{nat_tests}
use Rattle.vt_chars.specs.Utf8.{Begins, UnfinishedBegins, code_of, decoding_of, is_well_formed, within}
use Rattle.vt_chars.specs.declared.decoded.Decoded.{Decoded}
use Rattle.vt_chars.specs.declared.decoded.Decoded.TheVariants.{Character, Unfinished, Malformed}
use Rattle.vt_units.proofs.Begun.{before_unfinished}
use Rattle.vt_units.proofs.Joined.{character-text, decoding_of_begun}
use Rattle.vt_units.proofs.Readings.{introduced, short_reading}
use Rattle.vt_units.proofs.Steps.{follows_reading, within_bound}
use Rattle.vt_units.specs.Bytes.{decodes, is_control, is_body, is_csi, is_digit, is_hex, is_mid, is_swallowed, opens_string}
use Rattle.vt_units.specs.Reading.{Kind, Reading, unfinished, character, sequence, command, string, string_end, whole, dropped, none, alone, begins_csi, after_prefix, bracket_text, byte_unit, character_reading, character_text, character_unit, command_text, control_ends, control_text, escape_ends, escape_text, longest_prefix, is_empty, palette_ends, reading, dropped_or_none, dropped_or_none_command, string_ends, string_tail, text_reading}
use Rattle.vt_units.specs.Sequences.{escape_unit}
use Rattle.vt_units.specs.Units.{Before, IsUnfinished, Spells}
use Rattle.vt_units.specs.declared.mode.Mode.{Mode}
use Rattle.vt_units.specs.declared.unit.Unit as units
use Rattle.vt_units.specs.declared.unit.Unit.TheVariants.{ColourReset, Ignored}

-- no sequence and no string is the beginning of a character
abbrev IsOther : Reading → Type 0
IsOther r = r ≡ unfinished character → ⊥

other_none : IsOther none
other_none e = cc

other_going : IsOther (unfinished command)
other_going e = cc

other_cond : (c : Bool) (a b : Reading) → IsOther a → IsOther b → IsOther (cond c a b)
other_cond true a b first second = first
other_cond false a b first second = second

other_alone : (ys : List ℕ) (r : Reading) → IsOther r → IsOther (alone ys r)
other_alone [] r is = is
other_alone (y ∷ ys) r is = other_none

other_whole : (u : units.Unit) → IsOther (whole u)
other_whole u e = cc

other_dropped_or_none : (m : Mode) (b : ℕ) → IsOther (dropped_or_none m b)
other_dropped_or_none m b = other_cond _ dropped none (λ e. cc) (λ e. cc)

other_dropped_or_none_command : (m : Mode) (b : ℕ) → IsOther (dropped_or_none_command m b)
other_dropped_or_none_command m b = other_cond _ dropped none (λ e. cc) (λ e. cc)

other_bracket : (m : Mode) (t : List ℕ) → IsOther (bracket_text m t)
other_bracket m [] = λ e. cc
other_bracket m (y ∷ ys) = other_alone ys _ (other_cond _ _ _ (other_whole Ignored) (other_dropped_or_none m y))

other_control : (m : Mode) (q t : List ℕ) → IsOther (control_ends m q t)
other_control m q [] = λ e. cc
other_control m q (y ∷ ys) = other_cond _ _ _ (other_bracket m ys)
    (other_alone ys _ (other_cond _ _ _ (other_whole _) (other_dropped_or_none m y)))

other_tail : (t : List ℕ) → IsOther (string_tail t)
other_tail [] = λ e. cc
other_tail (y ∷ ys) = other_alone ys _ (other_cond _ _ _ (other_whole Ignored) other_none)

other_string : (t : List ℕ) → IsOther (string_ends t)
other_string [] = λ e. cc
other_string (y ∷ ys) = other_cond _ _ _ (other_tail ys) (other_alone ys _ (other_whole Ignored))

other_palette : (m : Mode) (q t : List ℕ) → IsOther (palette_ends m q t)
other_palette m q [] = other_cond _ _ _ other_going (other_cond _ _ _ (other_whole _) other_none)
other_palette m q (y ∷ ys) = other_cond _ _ _ (other_alone ys _ (other_dropped_or_none_command m y)) other_none

other_command : (m : Mode) (t : List ℕ) → IsOther (command_text m t)
other_command m [] = λ e. cc
other_command m (y ∷ ys) = other_cond (is_digit y) _ _ (other_string (after_prefix is_swallowed ys))
    (other_cond (y == 0x50) _ _ (other_palette m (longest_prefix is_hex ys) (after_prefix is_hex ys))
    (other_alone ys _ (other_cond (y == 0x52) _ _ (other_whole ColourReset) (other_dropped_or_none_command m y))))

other_escape : (m : Mode) (q t : List ℕ) → IsOther (escape_ends m q t)
other_escape m q [] = λ e. cc
other_escape m q (y ∷ ys) = other_cond (is_empty q && opens_string y) _ _ (other_string (after_prefix is_swallowed ys))
    (other_cond (is_empty q && y == 0x5B) _ _ (other_control m (longest_prefix is_body ys) (after_prefix is_body ys))
    (other_cond (is_empty q && y == 0x5D) _ _ (other_command m ys)
    (other_alone ys _ (other_cond (within 0x30 0x7E y) _ _ (other_whole (escape_unit q y)) (other_dropped_or_none m y)))))

-- the beginning of a character is unfinished UTF-8
by_test_other : (c : Bool) (a b : Reading) → IsOther a → cond c a b ≡ unfinished character
    → (c ≡ false) × (b ≡ unfinished character)
by_test_other true a b other is = absurd (other is)
by_test_other false a b other is = (refl, is)

decoding_of-unfinished : (w : List ℕ) (d : Decoded) → character_reading w d ≡ unfinished character → d ≡ Unfinished
decoding_of-unfinished w (Character code) is = absurd (other_whole _ is)
decoding_of-unfinished w Unfinished is = refl
decoding_of-unfinished w Malformed is = absurd (other_alone _ _ (other_whole _) is)

pub part_of : (m : Mode) (t : List ℕ) → text_reading m t ≡ unfinished character
    → (decodes m ≡ true) × (decoding_of t ≡ Unfinished)
part_of m [] is = absurd (let wrong : ⊥ = cc in wrong)
part_of m (a ∷ p) is =
    let one : ((a == 0x1B) ≡ false) × (cond (is_csi m a) (control_text m p) (cond (is_control m a) (alone p (whole (units.Unit.Control a))) (cond (decodes m) (character_text m (a ∷ p)) (alone p (whole (byte_unit m a))))) ≡ unfinished character) = by_test_other (a == 0x1B) (escape_text m p) _ (other_escape m (longest_prefix is_mid p) (after_prefix is_mid p)) is in
    let two : (is_csi m a ≡ false) × (cond (is_control m a) (alone p (whole (units.Unit.Control a))) (cond (decodes m) (character_text m (a ∷ p)) (alone p (whole (byte_unit m a)))) ≡ unfinished character) = by_test_other (is_csi m a) (control_text m p) _ (other_control m (longest_prefix is_body p) (after_prefix is_body p)) one.1 in
    let three : (is_control m a ≡ false) × (cond (decodes m) (character_text m (a ∷ p)) (alone p (whole (byte_unit m a))) ≡ unfinished character) = by_test_other (is_control m a) (alone p (whole (units.Unit.Control a))) _ (other_alone p _ (other_whole (units.Unit.Control a))) two.1 in
    ⊎_elim
    (λ (decoding : decodes m ≡ true).
    let text : character_text m (a ∷ p) ≡ unfinished character = sym (cond-true _ _ _ decoding) ∙ three.1 in (
      decoding,
      decoding_of-unfinished (a ∷ p) (decoding_of (a ∷ p))
          (by_test_other (begins_csi (a ∷ p)) (control_text m (drop 2 (a ∷ p))) _
          (other_control m (longest_prefix is_body (drop 2 (a ∷ p))) (after_prefix is_body (drop 2 (a ∷ p)))) text).1,
    ))
    (λ (bytes : decodes m ≡ false).
    absurd (other_alone p _ (other_whole (byte_unit m a)) (sym (cond-false _ _ _ bytes) ∙ three.1)))
    (cases_Bool (decodes m))

-- CSI is the only character whose text begins so
csi_only : (w : List ℕ) → is_well_formed w ≡ true → begins_csi w ≡ true → w ≡ 0xC2 ∷ 0x9B ∷ []
csi_only [] is csi = absurd (false≢true csi)
csi_only (a ∷ []) is csi = absurd (false≢true csi)
csi_only (a ∷ b ∷ []) is csi = grind (arith, nat_tests)
csi_only (a ∷ b ∷ c ∷ []) is csi = absurd (grind (arith, nat_tests))
csi_only (a ∷ b ∷ c ∷ d ∷ []) is csi = absurd (grind (arith, nat_tests))
csi_only (a ∷ b ∷ c ∷ d ∷ e ∷ w) is csi = absurd (false≢true is)

formed_short : (w : List ℕ) → is_well_formed w ≡ true → length w ≤ 4
formed_short [] is = omega arith
formed_short (a ∷ []) is = omega arith
formed_short (a ∷ b ∷ []) is = omega arith
formed_short (a ∷ b ∷ c ∷ []) is = omega arith
formed_short (a ∷ b ∷ c ∷ d ∷ []) is = omega arith
formed_short (a ∷ b ∷ c ∷ d ∷ e ∷ w) is = absurd (false≢true is)

not_nothing : (m : Mode) (t : List ℕ) (k : Kind) → reading m t ≡ unfinished k → t ≢ []
not_nothing m t k is nothing =
    let e : reading m [] ≡ unfinished k = subst (λ xs. reading m xs ≡ unfinished k) nothing is in
    let wrong : ⊥ = cc in wrong

-- a character with the rest of its bytes, and CSI with a byte that drops it
completed : (m : Mode) (t : List ℕ) (x : ℕ) (xs : List ℕ) → decodes m ≡ true → decoding_of t ≡ Unfinished
    → is_well_formed (t ++ x ∷ xs) ≡ true
    → (y : ℕ) × (ys : List ℕ) × (u : units.Unit) × Spells m (t ++ y ∷ ys) u
completed m t x xs decoding is well =
    let w : List ℕ = t ++ x ∷ xs in
    let short : length (t ++ x ∷ xs) ≤ 4 = formed_short (t ++ x ∷ xs) well in
    let text : reading m (t ++ x ∷ xs) ≡ character_text m (t ++ x ∷ xs) =
    short_reading m (t ++ x ∷ xs) (omega arith) ∙ character-text m t (x ∷ xs) decoding (decoding_of_begun t is) in
    ⊎_elim
    (λ (csi : begins_csi (t ++ x ∷ xs) ≡ true).
    let two : t ++ x ∷ xs ≡ 0xC2 ∷ 0x9B ∷ [] = csi_only (t ++ x ∷ xs) well csi in
    let three : t ++ x ∷ (xs ++ 0x18 ∷ []) ≡ 0xC2 ∷ 0x9B ∷ 0x18 ∷ [] =
    sym (append_assoc t (x ∷ xs) (0x18 ∷ [])) ∙ ap (λ zs. zs ++ 0x18 ∷ []) two in
    let drops : reading m (t ++ x ∷ (xs ++ 0x18 ∷ [])) ≡ dropped =
    ap (reading m) three
    ∙ introduced m (0xC2 ∷ 0x9B ∷ []) (0x18 ∷ []) (inr (inr (refl, decoding))) in
    (x, xs ++ 0x18 ∷ [], Ignored, inr (drops, refl)))
    (λ (no_csi : begins_csi (t ++ x ∷ xs) ≡ false). (
      x,
      xs,
      character_unit (code_of (t ++ x ∷ xs)),
      inl (text ∙ cond-false _ _ _ no_csi ∙ ap (character_reading (t ++ x ∷ xs)) (cond-true _ _ _ well)),
    ))
    (cases_Bool (begins_csi (t ++ x ∷ xs)))

completes : UnfinishedBegins → (m : Mode) (t : List ℕ) (k : Kind) → reading m t ≡ unfinished k
    → (y : ℕ) × (ys : List ℕ) × (u : units.Unit) × Spells m (t ++ y ∷ ys) u
completes law m t sequence is = (0x18, [], Ignored, inr ((follows_reading m 0x18 t sequence is).1 refl, refl))
completes law m t command is = (0x18, [], Ignored, inr ((follows_reading m 0x18 t command is).1 refl, refl))
completes law m t string is = (0x18, [], Ignored, inl (follows_reading m 0x18 t string is))
completes law m t string_end is = (0x5C, [], Ignored, inl (follows_reading m 0x5C t string_end is))
completes law m t character is =
    let text : text_reading m t ≡ unfinished character = (within_bound m t character is).1 in
    let p : (decodes m ≡ true) × (decoding_of t ≡ Unfinished) = part_of m t text in
    let begins : Begins t = ((law t).0 p.1).1 in
    more-of begins.0 p.0 p.1 begins.1 begins.2
  where
    more-of : (more : List ℕ) → decodes m ≡ true → decoding_of t ≡ Unfinished → more ≢ []
        → is_well_formed (t ++ more) ≡ true
        → (y : ℕ) × (ys : List ℕ) × (u : units.Unit) × Spells m (t ++ y ∷ ys) u
    more-of [] decoding part some well = absurd (some refl)
    more-of (x ∷ xs) decoding part some well = completed m t x xs decoding part well

pub unfinished_before : UnfinishedBegins → (m : Mode) (t : List ℕ) → IsUnfinished m t → Before m t
unfinished_before law m t (k, is) =
    let done : (y : ℕ) × (ys : List ℕ) × (u : units.Unit) × Spells m (t ++ y ∷ ys) u = completes law m t k is in
    (not_nothing m t k is, done.0, done.1, done.2, done.3)

pub unfinished_is_before : UnfinishedBegins → (m : Mode) (t : List ℕ) → IsUnfinished m t ↔ Before m t
unfinished_is_before law m t = (unfinished_before law m t, before_unfinished law m t)
