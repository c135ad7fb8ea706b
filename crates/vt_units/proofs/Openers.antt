-- The bytes that open a string; the text after them is read alike in every mode.
use Rattle.std.proofs.Common.{◌≡◌, ℕ, ◌==◌, Bool, true, false, cond, ◌&&◌, List, [], ◌∷◌, ◌++◌, length, drop, refl, sym, ap, ◌∙◌, subst, arith, ⊎_elim, inl, inr}
use Rattle.std.specs.Prelude.{nat_lt}
use Rattle.std.proofs.lemmas.Bool.{and_parts, cases_Bool, cond-true, cond-false, eqb-true, false≢true}
use Rattle.std.proofs.lemmas.Bool.Decides.{nat_tests}
use Rattle.std.proofs.lemmas.List.{append-nil}
use Rattle.vt_chars.specs.Utf8.{decoding_of, within}
use Rattle.vt_chars.specs.declared.decoded.Decoded.{Decoded}
use Rattle.vt_chars.specs.declared.decoded.Decoded.TheVariants.{Character, Unfinished, Malformed}
use Rattle.vt_units.proofs.Fronts.{IsCut, after_prefix_pass, after_prefix_stop, cut, longest_prefix_stop}
use Rattle.vt_units.proofs.Readings.{empty_is}
use Rattle.vt_units.proofs.Steps.{within_bound}
use Rattle.vt_units.specs.Bytes.{decodes, is_body, is_control, is_csi, is_digit, is_hex, is_mid, opens_string}
use Rattle.vt_units.specs.Reading.{Kind, Reading, unfinished, sequence, command, string, string_end, whole, dropped, none, alone, begins_csi, after_prefix, bracket_text, byte_unit, character_reading, command_text, control_ends, control_text, escape_ends, escape_text, longest_prefix, is_empty, palette_ends, palette_text, reading, dropped_or_none, dropped_or_none_command, string_text, text_reading}
use Rattle.vt_units.specs.Sequences.{colour_unit, control_unit, escape_unit}
use Rattle.vt_units.specs.ParserState.{Each, IsOpener}
use Rattle.vt_units.specs.declared.mode.Mode.{Mode}
use Rattle.vt_units.specs.declared.unit.Unit as units

-- the text is in a string, or behind an ESC in one
abbrev pub in_string : Reading → Bool
in_string (unfinished string) = true
in_string (unfinished string_end) = true
in_string r = false

out_cond : (c : Bool) (a b : Reading) → in_string a ≡ false → in_string b ≡ false → in_string (cond c a b) ≡ false
out_cond true a b first second = first
out_cond false a b first second = second

out_alone : (ys : List ℕ) (r : Reading) → in_string r ≡ false → in_string (alone ys r) ≡ false
out_alone [] r is = is
out_alone (y ∷ ys) r is = refl

out_dropped_or_none : (m : Mode) (b : ℕ) → in_string (dropped_or_none m b) ≡ false
out_dropped_or_none m b = out_cond _ dropped none refl refl

out_dropped_or_none_command : (m : Mode) (b : ℕ) → in_string (dropped_or_none_command m b) ≡ false
out_dropped_or_none_command m b = out_cond _ dropped none refl refl

out_bracket : (m : Mode) (t : List ℕ) → in_string (bracket_text m t) ≡ false
out_bracket m [] = refl
out_bracket m (y ∷ ys) = out_alone ys _ (out_cond (within 0x20 0x7E y) (whole units.Unit.Ignored) (dropped_or_none m y) refl (out_dropped_or_none m y))

out_control : (m : Mode) (q t : List ℕ) → in_string (control_ends m q t) ≡ false
out_control m q [] = refl
out_control m q (y ∷ ys) = out_cond (is_empty q && y == 0x5B) _ _ (out_bracket m ys)
    (out_alone ys _ (out_cond (within 0x40 0x7E y) (whole (control_unit q y)) (dropped_or_none m y) refl (out_dropped_or_none m y)))

out_palette : (m : Mode) (q t : List ℕ) → in_string (palette_ends m q t) ≡ false
out_palette m q [] =
    out_cond (nat_lt (length q) 7) (unfinished command) (cond (length q == 7) (whole (colour_unit q)) none) refl
    (out_cond (length q == 7) (whole (colour_unit q)) none refl refl)
out_palette m q (y ∷ ys) =
    out_cond (nat_lt (length q) 7) (alone ys (dropped_or_none_command m y)) none
    (out_alone ys (dropped_or_none_command m y) (out_dropped_or_none_command m y)) refl

out_character : (w : List ℕ) (d : Decoded) → in_string (character_reading w d) ≡ false
out_character w (Character code) = refl
out_character w Unfinished = refl
out_character w Malformed = out_alone _ (whole _) refl

-- a string's text: what opened it, and what stands behind that
pub record HasOpener (t : List ℕ) (r : Reading) : Type 0 where
  pub opener : List ℕ
  pub behind_it : List ℕ
  pub is : t ≡ opener ++ behind_it
  pub opens : IsOpener opener
  pub reads : string_text behind_it ≡ r

command_opener : (m : Mode) (p : List ℕ) → in_string (command_text m p) ≡ true
    → HasOpener (0x1B ∷ 0x5D ∷ p) (command_text m p)
command_opener m [] is = absurd (false≢true is)
command_opener m (d ∷ p) is = ⊎_elim
    (λ (digit : is_digit d ≡ true). record {
      opener = 0x1B ∷ 0x5D ∷ d ∷ [];
      behind_it = p;
      is = refl;
      opens = inr (d, refl, digit);
      reads = sym (cond-true _ _ _ digit);
    })
    (λ (other : is_digit d ≡ false).
    absurd (false≢true (sym (ap in_string (cond-false _ _ _ other)
    ∙ out_cond (d == 0x50) (palette_text m p) _ (out_palette m (longest_prefix is_hex p) (after_prefix is_hex p))
    (out_alone p _ (out_cond (d == 0x52) (whole units.Unit.ColourReset) (dropped_or_none_command m d) refl (out_dropped_or_none_command m d))))
    ∙ is)))
    (cases_Bool (is_digit d))

escape_opener : (m : Mode) (p : List ℕ) → in_string (escape_text m p) ≡ true
    → HasOpener (0x1B ∷ p) (escape_text m p)
escape_opener m p is = ⊎_elim
    (λ (passes : Each is_mid p).
    let nothing : after_prefix is_mid p ≡ [] = ap (after_prefix is_mid) (sym (append-nil p)) ∙ after_prefix_pass is_mid p [] passes in
    let here : escape_text m p ≡ unfinished sequence = ap (escape_ends m (longest_prefix is_mid p)) nothing in
    absurd (false≢true (sym (ap in_string here) ∙ is)))
    (λ (c : IsCut is_mid p).
    let here : escape_text m p ≡ escape_ends m c.before (c.stop ∷ c.after) =
    ap (escape_text m) c.is
    ∙ (λ i. escape_ends m (longest_prefix_stop is_mid c.before c.stop c.after c.passes c.stops i)
    (after_prefix_stop is_mid c.before c.stop c.after c.passes c.stops i)) in
    let cut_in : in_string (escape_ends m c.before (c.stop ∷ c.after)) ≡ true = ap in_string (sym here) ∙ is in
    subst (HasOpener (0x1B ∷ p)) (sym here)
    (subst (λ xs. HasOpener (0x1B ∷ xs) (escape_ends m c.before (c.stop ∷ c.after))) (sym c.is)
    (opener-at c.before c.stop c.after cut_in)))
    (cut is_mid p)
  where
    opener-first : (q : List ℕ) (y : ℕ) (ys : List ℕ) → (is_empty q && opens_string y) ≡ true
        → HasOpener (0x1B ∷ q ++ y ∷ ys) (escape_ends m q (y ∷ ys))
    opener-first q y ys first =
        let e : q ≡ [] = empty_is q (and_parts (is_empty q) (opens_string y) first).0 in
        record {
          opener = 0x1B ∷ y ∷ [];
          behind_it = ys;
          is = ap (λ zs. 0x1B ∷ zs ++ y ∷ ys) e;
          opens = inl (y, refl, (and_parts (is_empty q) (opens_string y) first).1);
          reads = sym (cond-true _ _ _ first);
        }

    opener-command : (q : List ℕ) (y : ℕ) (ys : List ℕ) (r : Reading) → (is_empty q && y == 0x5D) ≡ true
        → command_text m ys ≡ r → in_string r ≡ true → HasOpener (0x1B ∷ q ++ y ∷ ys) r
    opener-command q y ys r third same inside =
        let e : q ≡ [] = empty_is q (and_parts (is_empty q) (y == 0x5D) third).0 in
        let sign : y ≡ 0x5D = eqb-true y 0x5D (and_parts (is_empty q) (y == 0x5D) third).1 in
        let all : 0x1B ∷ 0x5D ∷ ys ≡ 0x1B ∷ q ++ y ∷ ys = sym (λ i. 0x1B ∷ e i ++ sign i ∷ ys) in
        subst (λ xs. HasOpener xs r) all
        (subst (HasOpener (0x1B ∷ 0x5D ∷ ys)) same (command_opener m ys (ap in_string same ∙ inside)))

    opener-at : (q : List ℕ) (y : ℕ) (ys : List ℕ) → in_string (escape_ends m q (y ∷ ys)) ≡ true
        → HasOpener (0x1B ∷ q ++ y ∷ ys) (escape_ends m q (y ∷ ys))
    opener-at q y ys inside = ⊎_elim (opener-first q y ys)
        (λ (first : (is_empty q && opens_string y) ≡ false). ⊎_elim
        (λ (second : (is_empty q && y == 0x5B) ≡ true).
        absurd (false≢true (sym (ap in_string (cond-false _ _ _ first ∙ cond-true _ _ _ second)
        ∙ out_control m (longest_prefix is_body ys) (after_prefix is_body ys)) ∙ inside)))
        (λ (second : (is_empty q && y == 0x5B) ≡ false). ⊎_elim
        (λ (third : (is_empty q && y == 0x5D) ≡ true).
        opener-command q y ys (escape_ends m q (y ∷ ys)) third
        (sym (cond-false _ _ _ first ∙ cond-false _ _ _ second ∙ cond-true _ _ _ third)) inside)
        (λ (third : (is_empty q && y == 0x5D) ≡ false).
        absurd (false≢true (sym (ap in_string (cond-false _ _ _ first ∙ cond-false _ _ _ second ∙ cond-false _ _ _ third)
        ∙ out_alone ys _ (out_cond (within 0x30 0x7E y) (whole (escape_unit q y)) (dropped_or_none m y) refl (out_dropped_or_none m y))) ∙ inside)))
        (cases_Bool (is_empty q && y == 0x5D)))
        (cases_Bool (is_empty q && y == 0x5B)))
        (cases_Bool (is_empty q && opens_string y))

text_opener : (m : Mode) (t : List ℕ) → in_string (text_reading m t) ≡ true → HasOpener t (text_reading m t)
text_opener m [] is = absurd (false≢true is)
text_opener m (a ∷ p) is = ⊎_elim
    (λ (esc : (a == 0x1B) ≡ true).
    let sign : a ≡ 0x1B = eqb-true a 0x1B esc in
    let here : text_reading m (a ∷ p) ≡ escape_text m p = cond-true _ _ _ esc in
    subst (λ x. HasOpener (x ∷ p) (text_reading m (a ∷ p))) (sym sign)
    (subst (HasOpener (0x1B ∷ p)) (sym here) (escape_opener m p (ap in_string (sym here) ∙ is))))
    (λ (other : (a == 0x1B) ≡ false).
    absurd (false≢true (sym (ap in_string (cond-false _ _ _ other)
    ∙ out_cond (is_csi m a) (control_text m p) _ (out_control m (longest_prefix is_body p) (after_prefix is_body p))
    (out_cond (is_control m a) _ _ (out_alone p (whole (units.Unit.Control a)) refl)
    (out_cond (decodes m) _ _
    (out_cond (begins_csi (a ∷ p)) _ _
    (out_control m (longest_prefix is_body (drop 2 (a ∷ p))) (after_prefix is_body (drop 2 (a ∷ p))))
    (out_character (a ∷ p) (decoding_of (a ∷ p))))
    (out_alone p (whole (byte_unit m a)) refl)))) ∙ is)))
    (cases_Bool (a == 0x1B))

-- a string is read alike in every mode
pub opener_reads : (m : Mode) (o xs : List ℕ) → IsOpener o → text_reading m (o ++ xs) ≡ string_text xs
opener_reads m o xs opens = ⊎_elim
    (λ (esc : (b : ℕ) × (o ≡ 0x1B ∷ b ∷ []) × (opens_string b ≡ true)).
    let mid : is_mid esc.0 ≡ false = not-mid esc.0 esc.2 in
    ap (λ zs. text_reading m (zs ++ xs)) esc.1
    ∙ (λ i. escape_ends m (cond-false (is_mid esc.0) (esc.0 ∷ longest_prefix is_mid xs) [] mid i)
    (cond-false (is_mid esc.0) (after_prefix is_mid xs) (esc.0 ∷ xs) mid i))
    ∙ cond-true _ _ _ esc.2)
    (λ (osc : (b : ℕ) × (o ≡ 0x1B ∷ 0x5D ∷ b ∷ []) × (is_digit b ≡ true)).
    ap (λ zs. text_reading m (zs ++ xs)) osc.1 ∙ cond-true _ _ _ osc.2)
    opens
  where
    not-mid : (b : ℕ) → opens_string b ≡ true → is_mid b ≡ false
    not-mid b is = grind (arith, nat_tests)

pub string_opener : (m : Mode) (t : List ℕ) (k : Kind) → in_string (unfinished k) ≡ true
    → reading m t ≡ unfinished k → HasOpener t (unfinished k)
string_opener m t k inside is =
    let text : text_reading m t ≡ unfinished k = (within_bound m t k is).1 in
    subst (HasOpener t) text (text_opener m t (ap in_string text ∙ inside))
