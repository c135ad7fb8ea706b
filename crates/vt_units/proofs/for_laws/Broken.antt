-- Bytes that continue a text, and bytes that end it.
use Rattle.std.proofs.Common.{◌≡◌, ℕ, ◌==◌, Bool, true, false, cond, List, [], ◌∷◌, ◌++◌, refl, sym, ◌∙◌, subst, ⊎_elim}
use Rattle.std.proofs.lemmas.Bool.{cases_Bool, cond-true, or_from, or_parts, not_from_false}
use Rattle.vt_chars.specs.Utf8.{decoding_of}
use Rattle.vt_chars.specs.declared.decoded.Decoded.{Decoded}
use Rattle.vt_chars.specs.declared.decoded.Decoded.TheVariants.{Character, Unfinished, Malformed}
use Rattle.vt_units.proofs.Follows.{After, admits, admits_command, string_next}
use Rattle.vt_units.proofs.Opens.{IsSome}
use Rattle.vt_units.specs.Bytes.{acts, decodes, interrupts, is_control, is_csi, is_swallowed, joins, joins_command}
use Rattle.vt_units.specs.Pieces.{is_left_out, text_of}
use Rattle.vt_units.specs.Reading.{Kind, Reading, alone, byte_unit, character_reading, character_text, command, control_text, dropped, escape_text, none, reading, sequence, string, string_end, unfinished, whole}
use Rattle.vt_units.specs.declared.mode.Mode.{Mode}
use Rattle.vt_units.specs.declared.unit.Unit as units
use Rattle.vt_units.specs.declared.unit.Unit.TheVariants.{Ignored}

some_cond : (c : Bool) (a b : Reading) → IsSome a → IsSome b → IsSome (cond c a b)
some_cond true a b first second = first
some_cond false a b first second = second

-- a byte by itself is something
pub one_some : (m : Mode) (b : ℕ) → IsSome (reading m (b ∷ []))
one_some m b =
    some_cond (b == 0x1B) (escape_text m []) _ tt
    (some_cond (is_csi m b) (control_text m []) _ tt
    (some_cond (is_control m b) (alone [] (whole (units.Unit.Control b))) _ tt
    (some_cond (decodes m) (character_text m (b ∷ [])) (alone [] (whole (byte_unit m b))) (by (decoding_of (b ∷ []))) tt)))
  where
    by : (d : Decoded) → IsSome (character_reading (b ∷ []) d)
    by (Character code) = tt
    by Unfinished = tt
    by Malformed = tt

-- the text with a byte more
pub text_more : (m : Mode) (q front : List ℕ) (b : ℕ)
    → text_of m q (front ++ b ∷ [])
    ≡ cond (is_left_out (reading m (text_of m q front)) b) (text_of m q front) (text_of m q front ++ b ∷ [])
text_more m q [] b = refl
text_more m q (x ∷ front) b = by (is_left_out (reading m q) x) (text_more m q front b) (text_more m (q ++ x ∷ []) front b)
  where
    by : (c : Bool)
        → text_of m q (front ++ b ∷ [])
        ≡ cond (is_left_out (reading m (text_of m q front)) b) (text_of m q front) (text_of m q front ++ b ∷ [])
        → text_of m (q ++ x ∷ []) (front ++ b ∷ [])
        ≡ cond (is_left_out (reading m (text_of m (q ++ x ∷ []) front)) b) (text_of m (q ++ x ∷ []) front) (text_of m (q ++ x ∷ []) front ++ b ∷ [])
        → cond c (text_of m q (front ++ b ∷ [])) (text_of m (q ++ x ∷ []) (front ++ b ∷ []))
        ≡ cond (is_left_out (reading m (cond c (text_of m q front) (text_of m (q ++ x ∷ []) front))) b)
        (cond c (text_of m q front) (text_of m (q ++ x ∷ []) front))
        (cond c (text_of m q front) (text_of m (q ++ x ∷ []) front) ++ b ∷ [])
    by true same longer = same
    by false same longer = longer

pub some_unfinished : (r : Reading) (k : Kind) → r ≡ unfinished k → IsSome r
some_unfinished r k is = subst IsSome (sym is) tt

pub not-none : (r : Reading) → IsSome r → r ≡ none → ⊥
not-none r some is = subst IsSome is some

-- a byte that is no part of a sequence, and isn't left out of it, breaks it off
pub breaks_sequence : (m : Mode) (b : ℕ) (r : Reading) → is_left_out (unfinished sequence) b ≡ false → After m sequence b r
    → r ≡ none → interrupts m b ≡ true
breaks_sequence m b r part after is = ⊎_elim
    (λ (yes : interrupts m b ≡ true). yes)
    (λ (no_stop : interrupts m b ≡ false).
    let apart : (acts b ≡ false) × ((b == 0x7F) ≡ false) = or_parts (acts b) (b == 0x7F) part in
    let part_of : joins m b ≡ true = not_from_false _ (or_from _ _ (or_from _ _ apart.0 no_stop) apart.1) in
    absurd (⊎_elim
    (λ (in_it : admits b ≡ true). not-none r (after.0 in_it) is)
    (λ (out : admits b ≡ false). not-none r (subst IsSome (sym (after.1 out ∙ cond-true (joins m b) dropped none part_of)) tt) is)
    (cases_Bool (admits b))))
    (cases_Bool (interrupts m b))

pub breaks_command : (m : Mode) (b : ℕ) (r : Reading) → is_left_out (unfinished command) b ≡ false → After m command b r
    → r ≡ none → interrupts m b ≡ true
breaks_command m b r part after is = ⊎_elim
    (λ (yes : interrupts m b ≡ true). yes)
    (λ (no_stop : interrupts m b ≡ false).
    let apart : (acts b ≡ false) × (false ≡ false) = or_parts (acts b) false part in
    let part_of : joins_command m b ≡ true = not_from_false _ (or_from _ _ apart.0 no_stop) in
    absurd (⊎_elim
    (λ (in_it : admits_command b ≡ true). not-none r (after.0 in_it) is)
    (λ (out : admits_command b ≡ false). not-none r (subst IsSome (sym (after.1 out ∙ cond-true (joins_command m b) dropped none part_of)) tt) is)
    (cases_Bool (admits_command b))))
    (cases_Bool (interrupts m b))

pub string_some : (b : ℕ) → IsSome (string_next b)
string_some b =
    some_cond (is_swallowed b) (unfinished string) _ tt (some_cond (b == 0x1B) (unfinished string_end) (whole Ignored) tt tt)

pub ends_off : (c : Bool) → cond c (whole Ignored) none ≡ none → c ≡ false
ends_off true is = absurd (not-none (whole Ignored) tt is)
ends_off false is = refl
