-- No text of three bytes requests another console.
use Rattle.std.proofs.Common.{◌≡◌, ◌⊎◌, ℕ, ◌+◌, ◌≤◌, ◌==◌, ◌&&◌, not, Bool, true, false, List, [], ◌∷◌, length, take, drop, nat_lt, cond, suc, length-drop, refl, inl, inr, arith}
use Rattle.std.specs.List.{list_all}
use Rattle.std.proofs.lemmas.Bool.{and_parts}
use Rattle.std.proofs.lemmas.Bool.Decides.{nat_tests}
use Rattle.vt_chars.specs.Utf8.{decoding_of, within}
use Rattle.vt_chars.specs.declared.decoded.Decoded.{Decoded}
use Rattle.vt_chars.specs.declared.decoded.Decoded.TheVariants.{Character, Unfinished, Malformed}
use Rattle.vt_canvas.specs.Effect.{number_at}
use Rattle.vt_units.specs.Bytes.{decodes, is_body, is_control, is_csi, is_digit, is_hex, is_mid, is_swallowed, opens_string}
use Rattle.vt_units.specs.Numbers.{Fields, number_of, params_of}
use Rattle.vt_units.specs.Reading.{Reading, alone, begins_csi, after_prefix, bracket_text, byte_unit, character_reading, character_text, command, command_text, control_ends, control_text, dropped, escape_ends, escape_text, longest_prefix, is_empty, is_sequence, none, overlong, palette_ends, palette_text, reading, dropped_or_none, dropped_or_none_command, string_ends, string_tail, string_text, text_reading, unfinished, whole}
use Rattle.vt_units.specs.Sequences.{colour_unit, control_unit, escape_unit, is_parameter, numbered_unit}
use Rattle.vt_units.specs.declared.mode.Mode.{Mode}
use Rattle.vt_units.specs.declared.unit.Unit as units
use Rattle.vt_screen.proofs.for_laws.AskingTable.{asking, is_request}

-- a text that isn't a unit that asks
abbrev pub Tame : Reading → Type 0
Tame (whole u) = asking u ≡ false
Tame dropped = Unit {0}
Tame (unfinished k) = Unit {0}
Tame none = Unit {0}

tame_either : (test : Bool) (a b : Reading) → Tame a → Tame b → Tame (cond test a b)
tame_either true a b first second = first
tame_either false a b first second = second

tame_alone : (more : List ℕ) (r : Reading) → Tame r → Tame (alone more r)
tame_alone [] r h = h
tame_alone (x ∷ more) r h = tt

tame_dropped_or_none : (m : Mode) (b : ℕ) → Tame (dropped_or_none m b)
tame_dropped_or_none m b = tame_either _ dropped none tt tt

tame_dropped_or_none_command : (m : Mode) (b : ℕ) → Tame (dropped_or_none_command m b)
tame_dropped_or_none_command m b = tame_either _ dropped none tt tt

tame_bracket : (m : Mode) (text : List ℕ) → Tame (bracket_text m text)
tame_bracket m [] = tt
tame_bracket m (last ∷ more) =
    tame_alone more _ (tame_either (within 0x20 0x7E last) (whole units.Unit.Ignored) (dropped_or_none m last) refl (tame_dropped_or_none m last))

tame_tail : (text : List ℕ) → Tame (string_tail text)
tame_tail [] = tt
tame_tail (last ∷ more) = tame_alone more _ (tame_either (last == 0x5C) (whole units.Unit.Ignored) none refl tt)

tame_string_ends : (text : List ℕ) → Tame (string_ends text)
tame_string_ends [] = tt
tame_string_ends (last ∷ more) =
    tame_either (last == 0x1B) (string_tail more) (alone more (whole units.Unit.Ignored)) (tame_tail more)
    (tame_alone more (whole units.Unit.Ignored) refl)

colour_tame : (digits : List ℕ) → asking (colour_unit digits) ≡ false
colour_tame [] = refl
colour_tame (a ∷ []) = refl
colour_tame (a ∷ b ∷ []) = refl
colour_tame (a ∷ b ∷ c ∷ []) = refl
colour_tame (a ∷ b ∷ c ∷ d ∷ []) = refl
colour_tame (a ∷ b ∷ c ∷ d ∷ e ∷ []) = refl
colour_tame (a ∷ b ∷ c ∷ d ∷ e ∷ f ∷ []) = refl
colour_tame (a ∷ b ∷ c ∷ d ∷ e ∷ f ∷ g ∷ []) = refl
colour_tame (a ∷ b ∷ c ∷ d ∷ e ∷ f ∷ g ∷ h ∷ more) = refl

escape_unit_tame : (mids : List ℕ) (last : ℕ) → asking (escape_unit mids last) ≡ false
escape_unit_tame [] last = refl
escape_unit_tame (mid ∷ []) last = refl
escape_unit_tame (mid ∷ other ∷ mids) last = refl

tame_palette : (m : Mode) (digits text : List ℕ) → Tame (palette_ends m digits text)
tame_palette m digits [] =
    tame_either (nat_lt (length digits) 7) (unfinished command) _ tt
    (tame_either (length digits == 7) (whole (colour_unit digits)) none (colour_tame digits) tt)
tame_palette m digits (last ∷ more) =
    tame_either (nat_lt (length digits) 7) (alone more (dropped_or_none_command m last)) none
    (tame_alone more (dropped_or_none_command m last) (tame_dropped_or_none_command m last)) tt

tame_command : (m : Mode) (text : List ℕ) → Tame (command_text m text)
tame_command m [] = tt
tame_command m (b ∷ more) =
    let otherwise = cond (b == 0x52) (whole units.Unit.ColourReset) (dropped_or_none_command m b) in
    tame_either (is_digit b) (string_text more) _ (tame_string_ends (after_prefix is_swallowed more))
    (tame_either (b == 0x50) (palette_text m more) (alone more otherwise)
    (tame_palette m (longest_prefix is_hex more) (after_prefix is_hex more))
    (tame_alone more otherwise (tame_either (b == 0x52) (whole units.Unit.ColourReset) (dropped_or_none_command m b) refl (tame_dropped_or_none_command m b))))

-- one byte of a body: the first number has at most one digit
without_out_body : (private : Bool) (params : List ℕ) (last : ℕ) → (is_request (number_at params 0)) ≡ false
    → asking (units.Unit.Csi private params last) ≡ false
without_out_body true params last h = refl
without_out_body false params last h = by (last == 0x5D) _ h
  where
    by : (test other : Bool) → other ≡ false → (test && other) ≡ false
    by true other e = e
    by false other e = refl

all_one : (x : ℕ) → list_all is_parameter (x ∷ []) ≡ true → is_parameter x ≡ true
all_one x e = (and_parts (is_parameter x) true e).0

unit_either : (test : Bool) (a b : units.Unit) → (test ≡ true → asking a ≡ false) → asking b ≡ false → asking (cond test a b) ≡ false
unit_either true a b first second = first refl
unit_either false a b first second = second

parameter_small : (x : ℕ) → is_parameter x ≡ true → (x == 0x3B) ≡ false → x ≤ 0x39
parameter_small x h e = grind (arith, nat_tests, h, e)

abbrev split_at : Bool → ℕ → Fields
split_at test x = cond test (record { first = []; others = [] ∷ [] }) (record { first = x ∷ []; others = [] })

digit_without_out : (x : ℕ) → x ≤ 0x39 → is_request (number_of (x ∷ [])) ≡ false
digit_without_out x small = grind (arith, nat_tests, small)

first_without_out : (x : ℕ) → is_parameter x ≡ true → is_request (number_at (params_of (x ∷ [])) 0) ≡ false
first_without_out x h = by (x == 0x3B) (λ e. digit_without_out x (parameter_small x h e))
  where
    by : (test : Bool) → (test ≡ false → is_request (number_of (x ∷ [])) ≡ false)
        → is_request (number_of (split_at test x).first) ≡ false
    by true quiet = refl
    by false quiet = quiet refl

body_tame : (body : List ℕ) (last : ℕ) → length body ≤ 1 → asking (control_unit body last) ≡ false
body_tame [] last short = without_out_body false (params_of []) last refl
body_tame (x ∷ []) last short =
    unit_either (x == 0x3F) (numbered_unit true [] last) (numbered_unit false (x ∷ []) last) (λ e. refl)
    (unit_either (list_all is_parameter (x ∷ [])) (units.Unit.Csi false (params_of (x ∷ [])) last) units.Unit.Ignored
    (λ e. without_out_body false (params_of (x ∷ [])) last (first_without_out x (all_one x e))) refl)
body_tame (x ∷ y ∷ body) last short = absurd (omega (arith, short))

tame_control_ends : (m : Mode) (body text : List ℕ) → (text ≡ []) ⊎ (length body ≤ 1) → Tame (control_ends m body text)
tame_control_ends m body [] short = tt
tame_control_ends m body (last ∷ more) (inl is) = absurd (let e : ⊥ = cc in e)
tame_control_ends m body (last ∷ more) (inr short) =
    let otherwise = cond (within 0x40 0x7E last) (whole (control_unit body last)) (dropped_or_none m last) in
    tame_either (is_empty body && last == 0x5B) (bracket_text m more) (alone more otherwise) (tame_bracket m more)
    (tame_alone more otherwise
    (tame_either (within 0x40 0x7E last) (whole (control_unit body last)) (dropped_or_none m last) (body_tame body last short) (tame_dropped_or_none m last)))

parts_of : (p : ℕ → Bool) (text : List ℕ) → length (longest_prefix p text) + length (after_prefix p text) ≡ length text
parts_of p [] = refl
parts_of p (x ∷ text) = by (p x) (parts_of p text)
  where
    by : (test : Bool) → length (longest_prefix p text) + length (after_prefix p text) ≡ length text
        → length (cond test (x ∷ longest_prefix p text) []) + length (cond test (after_prefix p text) (x ∷ text)) ≡ suc (length text)
    by true h = omega arith
    by false h = omega arith

after_prefix_short : (p : ℕ → Bool) (text : List ℕ) → length (after_prefix p text) ≤ length text
after_prefix_short p text = let h = parts_of p text in omega arith

-- a body behind which a byte stands, in a text of two
short_body : (a : List ℕ) (text : List ℕ) → length a + length text ≤ 2 → (text ≡ []) ⊎ (length a ≤ 1)
short_body a [] h = inl refl
short_body a (x ∷ text) h = inr (omega (arith, h))

tame_control : (m : Mode) (text : List ℕ) → length text ≤ 2 → Tame (control_text m text)
tame_control m text short =
    let h = parts_of is_body text in
    tame_control_ends m (longest_prefix is_body text) (after_prefix is_body text)
    (short_body (longest_prefix is_body text) (after_prefix is_body text) (omega (arith, h, short)))

tame_escape_ends : (m : Mode) (mids text : List ℕ) → length text ≤ 3 → Tame (escape_ends m mids text)
tame_escape_ends m mids [] short = tt
tame_escape_ends m mids (last ∷ more) short =
    let otherwise = alone more (cond (within 0x30 0x7E last) (whole (escape_unit mids last)) (dropped_or_none m last)) in
    let commands = cond (is_empty mids && last == 0x5D) (command_text m more) otherwise in
    let controls = cond (is_empty mids && last == 0x5B) (control_text m more) commands in
    tame_either (is_empty mids && opens_string last) (string_text more) controls (tame_string_ends (after_prefix is_swallowed more))
    (tame_either (is_empty mids && last == 0x5B) (control_text m more) commands (tame_control m more (omega (arith, short)))
    (tame_either (is_empty mids && last == 0x5D) (command_text m more) otherwise (tame_command m more)
    (tame_alone more _
    (tame_either (within 0x30 0x7E last) (whole (escape_unit mids last)) (dropped_or_none m last) (escape_unit_tame mids last) (tame_dropped_or_none m last)))))

tame_character : (text : List ℕ) (d : Decoded) → Tame (character_reading text d)
tame_character text (Character code) = unit_either (within 0x7F 0x9F code) units.Unit.Ignored (units.Unit.Char code) (λ e. refl) refl
tame_character text Unfinished = tt
tame_character text Malformed = tame_alone (drop 1 text) (whole (units.Unit.Char 0xFFFD)) refl

tame_text : (m : Mode) (text : List ℕ) → length text ≤ 3 → Tame (text_reading m text)
tame_text m [] short = tt
tame_text m (b ∷ more) short =
    let bytes = alone more (whole (byte_unit m b)) in
    let characters = cond (decodes m) (character_text m (b ∷ more)) bytes in
    let controls = cond (is_control m b) (alone more (whole (units.Unit.Control b))) characters in
    let sequences = cond (is_csi m b) (control_text m more) controls in
    tame_either (b == 0x1B) (escape_text m more) sequences
    (tame_escape_ends m (longest_prefix is_mid more) (after_prefix is_mid more)
    (let h = after_prefix_short is_mid more in omega (arith, h, short)))
    (tame_either (is_csi m b) (control_text m more) controls (tame_control m more (omega (arith, short)))
    (tame_either (is_control m b) (alone more (whole (units.Unit.Control b))) characters (tame_alone more _ refl)
    (tame_either (decodes m) (character_text m (b ∷ more)) bytes
    (tame_either (begins_csi (b ∷ more)) (control_text m (drop 2 (b ∷ more))) (character_reading (b ∷ more) (decoding_of (b ∷ more)))
    (tame_control m (drop 2 (b ∷ more)) (let h = length-drop 2 (b ∷ more) in omega (arith, h, short)))
    (tame_character (b ∷ more) (decoding_of (b ∷ more))))
    (tame_alone more _ (unit_either (b == 0x7F && not m.display) units.Unit.Ignored (units.Unit.Byte b) (λ e. refl) refl)))))

tame_overlong : (m : Mode) (text : List ℕ) → Tame (overlong m text)
tame_overlong m [] = tt
tame_overlong m (last ∷ more) = tame_alone more (dropped_or_none m last) (tame_dropped_or_none m last)

-- no text of three bytes asks
pub tame_reading : (m : Mode) (text : List ℕ) → length text ≤ 3 → Tame (reading m text)
tame_reading m text short =
    tame_either (nat_lt 256 (length text) && is_sequence (text_reading m (take 256 text))) (overlong m (drop 256 text)) (text_reading m text)
    (tame_overlong m (drop 256 text)) (tame_text m text short)
