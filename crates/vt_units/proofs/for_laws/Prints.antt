-- The output of the units of texts: code points, and the byte that ends a text.
use Rattle.std.proofs.Common.{◌≡◌, ◌<◌, ◌≤◌, ◌==◌, ◌&&◌, ℕ, Bool, true, false, List, [], ◌∷◌, ◌++◌, take, drop, length, nat_lt, nat_le, refl, sym, ap, cond, arith, leb-true, eqb-true, not, get_or, inl, inr, lit<}
use Rattle.std.specs.List.{list_all}
use Rattle.std.proofs.lemmas.Bool.{and_parts, cases_eq, eqb-false}
use Rattle.vt_chars.specs.Utf8.{code_of, decoding_of, is_begun, is_second, is_tail, is_well_formed, within}
use Rattle.vt_chars.specs.declared.decoded.Decoded.TheVariants.{Character, Unfinished, Malformed}
use Rattle.vt_units.specs.Answer.{acts_in, outcome_of_text, outcome_by_reading, rest_before, make_outcome, byte_outcome, vanishes_in}
use Rattle.vt_units.specs.Bytes.{decodes, is_body, is_control, is_csi, is_digit, is_hex, is_mid, is_swallowed, joins, joins_command, opens_string}
use Rattle.vt_units.specs.Laws.{PrintsOnly, TextsSpellCharacters, ThenPrints}
use Rattle.vt_units.specs.Numbers.{params_of}
use Rattle.vt_units.specs.Reading.{Reading, alone, begins_csi, after_prefix, bracket_text, byte_unit, character_reading, character_text, character_unit, command_text, control_ends, control_text, dropped, escape_ends, escape_text, longest_prefix, is_empty, is_sequence, none, overlong, palette_ends, palette_text, command, reading, dropped_or_none, dropped_or_none_command, string_ends, string_tail, string_text, text_reading, unfinished, whole}
use Rattle.vt_units.specs.Rest.{Rest}
use Rattle.vt_units.specs.Sequences.{colour_unit, control_unit, escape_unit, is_parameter, numbered_unit}
use Rattle.vt_units.specs.declared.mode.Mode.{Mode}
use Rattle.vt_units.specs.declared.then.Then as then
use Rattle.vt_units.specs.declared.unit.Unit as units

-- a text of this reading, which byte b ends, prints no more than that
abbrev Prints : ℕ → Reading → Type 0
Prints b (whole u) = PrintsOnly b u
Prints b r = Unit {0}

either : (b : ℕ) (test : Bool) (r s : Reading) → Prints b r → Prints b s → Prints b (cond test r s)
either b true r s first second = first
either b false r s first second = second

alone_prints : (b : ℕ) (more : List ℕ) (r : Reading) → Prints b r → Prints b (alone more r)
alone_prints b [] r h = h
alone_prints b (x ∷ more) r h = tt

dropped_or_none_prints : (b : ℕ) (m : Mode) (x : ℕ) → Prints b (dropped_or_none m x)
dropped_or_none_prints b m x = either b (joins m x) dropped none tt tt

dropped_or_none_command_prints : (b : ℕ) (m : Mode) (x : ℕ) → Prints b (dropped_or_none_command m x)
dropped_or_none_command_prints b m x = either b (joins_command m x) dropped none tt tt

escape-unit : (b : ℕ) (mids : List ℕ) (last : ℕ) → PrintsOnly b (escape_unit mids last)
escape-unit b [] last = tt
escape-unit b (mid ∷ []) last = tt
escape-unit b (mid ∷ other ∷ mids) last = tt

numbered : (b : ℕ) (test private : Bool) (params : List ℕ) (last : ℕ)
    → PrintsOnly b (cond test (units.Unit.Csi private params last) units.Unit.Ignored)
numbered b true private params last = tt
numbered b false private params last = tt

control-unit : (b : ℕ) (body : List ℕ) (last : ℕ) → PrintsOnly b (control_unit body last)
control-unit b [] last = numbered b (list_all is_parameter []) false (params_of []) last
control-unit b (x ∷ body) last = by (x == 0x3F)
  where
    by : (test : Bool) → PrintsOnly b (cond test (numbered_unit true body last) (numbered_unit false (x ∷ body) last))
    by true = numbered b (list_all is_parameter body) true (params_of body) last
    by false = numbered b (list_all is_parameter (x ∷ body)) false (params_of (x ∷ body)) last

bracket_prints : (b : ℕ) (m : Mode) (text : List ℕ) → Prints b (bracket_text m text)
bracket_prints b m [] = tt
bracket_prints b m (last ∷ more) =
    alone_prints b more (cond (within 0x20 0x7E last) (whole units.Unit.Ignored) (dropped_or_none m last))
    (either b (within 0x20 0x7E last) (whole units.Unit.Ignored) (dropped_or_none m last) tt (dropped_or_none_prints b m last))

control-ends : (b : ℕ) (m : Mode) (body text : List ℕ) → Prints b (control_ends m body text)
control-ends b m body [] = tt
control-ends b m body (last ∷ more) =
    let unit = whole (control_unit body last) in
    either b (is_empty body && last == 0x5B) (bracket_text m more) (alone more (cond (within 0x40 0x7E last) unit (dropped_or_none m last)))
    (bracket_prints b m more)
    (alone_prints b more (cond (within 0x40 0x7E last) unit (dropped_or_none m last))
    (either b (within 0x40 0x7E last) unit (dropped_or_none m last) (control-unit b body last) (dropped_or_none_prints b m last)))

control_prints : (b : ℕ) (m : Mode) (text : List ℕ) → Prints b (control_text m text)
control_prints b m text = control-ends b m (longest_prefix is_body text) (after_prefix is_body text)

tail_prints : (b : ℕ) (text : List ℕ) → Prints b (string_tail text)
tail_prints b [] = tt
tail_prints b (last ∷ more) =
    alone_prints b more (cond (last == 0x5C) (whole units.Unit.Ignored) none)
    (either b (last == 0x5C) (whole units.Unit.Ignored) none tt tt)

string-ends : (b : ℕ) (text : List ℕ) → Prints b (string_ends text)
string-ends b [] = tt
string-ends b (last ∷ more) =
    either b (last == 0x1B) (string_tail more) (alone more (whole units.Unit.Ignored)) (tail_prints b more)
    (alone_prints b more (whole units.Unit.Ignored) tt)

string_prints : (b : ℕ) (text : List ℕ) → Prints b (string_text text)
string_prints b text = string-ends b (after_prefix is_swallowed text)

colour : (b : ℕ) (digits : List ℕ) → PrintsOnly b (colour_unit digits)
colour b [] = tt
colour b (n ∷ []) = tt
colour b (n ∷ r ∷ []) = tt
colour b (n ∷ r ∷ s ∷ []) = tt
colour b (n ∷ r ∷ s ∷ g ∷ []) = tt
colour b (n ∷ r ∷ s ∷ g ∷ h ∷ []) = tt
colour b (n ∷ r ∷ s ∷ g ∷ h ∷ i ∷ []) = tt
colour b (n ∷ r ∷ s ∷ g ∷ h ∷ i ∷ j ∷ []) = tt
colour b (n ∷ r ∷ s ∷ g ∷ h ∷ i ∷ j ∷ k ∷ digits) = tt

palette-ends : (b : ℕ) (m : Mode) (digits text : List ℕ) → Prints b (palette_ends m digits text)
palette-ends b m digits [] =
    let unit = whole (colour_unit digits) in
    either b (nat_lt (length digits) 7) (unfinished command) (cond (length digits == 7) unit none) tt
    (either b (length digits == 7) unit none (colour b digits) tt)
palette-ends b m digits (last ∷ more) =
    either b (nat_lt (length digits) 7) (alone more (dropped_or_none_command m last)) none
    (alone_prints b more (dropped_or_none_command m last) (dropped_or_none_command_prints b m last)) tt

command_prints : (b : ℕ) (m : Mode) (text : List ℕ) → Prints b (command_text m text)
command_prints b m [] = tt
command_prints b m (x ∷ more) =
    let last = cond (x == 0x52) (whole units.Unit.ColourReset) (dropped_or_none_command m x) in
    either b (is_digit x) (string_text more) (cond (x == 0x50) (palette_text m more) (alone more last))
    (string_prints b more)
    (either b (x == 0x50) (palette_text m more) (alone more last)
    (palette-ends b m (longest_prefix is_hex more) (after_prefix is_hex more))
    (alone_prints b more last
    (either b (x == 0x52) (whole units.Unit.ColourReset) (dropped_or_none_command m x) tt (dropped_or_none_command_prints b m x))))

escape-ends : (b : ℕ) (m : Mode) (mids text : List ℕ) → Prints b (escape_ends m mids text)
escape-ends b m mids [] = tt
escape-ends b m mids (last ∷ more) =
    let unit = whole (escape_unit mids last) in
    let end = alone more (cond (within 0x30 0x7E last) unit (dropped_or_none m last)) in
    let third = cond (is_empty mids && last == 0x5D) (command_text m more) end in
    let second = cond (is_empty mids && last == 0x5B) (control_text m more) third in
    either b (is_empty mids && opens_string last) (string_text more) second (string_prints b more)
    (either b (is_empty mids && last == 0x5B) (control_text m more) third (control_prints b m more)
    (either b (is_empty mids && last == 0x5D) (command_text m more) end (command_prints b m more)
    (alone_prints b more (cond (within 0x30 0x7E last) unit (dropped_or_none m last))
    (either b (within 0x30 0x7E last) unit (dropped_or_none m last) (escape-unit b mids last) (dropped_or_none_prints b m last)))))

-- the code of a well-formed sequence
in_range : (low high b : ℕ) → within low high b ≡ true → (low ≤ b) × (b ≤ high)
in_range low high b h =
    let parts = and_parts (nat_le low b) (nat_le b high) h in
    (leb-true low b parts.0, leb-true b high parts.1)

-- a second byte is at most BF, and at most 8F behind F4
second_small : (a b : ℕ) → is_second a b ≡ true → (b ≤ 0xBF) × (a ≡ 0xF4 → b ≤ 0x8F)
second_small a b h = by (a == 0xE0) refl (a == 0xED) refl (a == 0xF0) refl (a == 0xF4) refl h
  where
    by : (first : Bool) → (a == 0xE0) ≡ first → (second : Bool) → (a == 0xED) ≡ second
        → (third : Bool) → (a == 0xF0) ≡ third → (fourth : Bool) → (a == 0xF4) ≡ fourth
        → cond first (within 0xA0 0xBF b) (cond second (within 0x80 0x9F b) (cond third (within 0x90 0xBF b) (cond fourth (within 0x80 0x8F b) (is_tail b)))) ≡ true
        → (b ≤ 0xBF) × (a ≡ 0xF4 → b ≤ 0x8F)
    by true e1 second e2 third e3 fourth e4 is =
        let range = in_range 0xA0 0xBF b is in
        (range.1, λ other. absurd (omega (arith, eqb-true a 0xE0 e1, other)))
    by false e1 true e2 third e3 fourth e4 is =
        let range = in_range 0x80 0x9F b is in
        (omega (arith, range.1), λ other. absurd (omega (arith, eqb-true a 0xED e2, other)))
    by false e1 false e2 true e3 fourth e4 is =
        let range = in_range 0x90 0xBF b is in
        (range.1, λ other. absurd (omega (arith, eqb-true a 0xF0 e3, other)))
    by false e1 false e2 false e3 true e4 is =
        let range = in_range 0x80 0x8F b is in
        (omega (arith, range.1), λ other. range.1)
    by false e1 false e2 false e3 false e4 is =
        let range = in_range 0x80 0xBF b is in
        (range.1, λ other. absurd (eqb-false a 0xF4 e4 other))

code_small : (text : List ℕ) → is_well_formed text ≡ true → code_of text < 0x110000
code_small [] h = cc
code_small (a ∷ []) h = omega (arith, leb-true a 0x7F h)
code_small (a ∷ b ∷ []) h =
    let parts = and_parts (within 0xC2 0xDF a) (is_tail b) h in
    let first = in_range 0xC2 0xDF a parts.0 in
    let second = in_range 0x80 0xBF b parts.1 in
    omega (arith, first.1, second.1)
code_small (a ∷ b ∷ c ∷ []) h =
    let parts = and_parts (within 0xE0 0xEF a && is_second a b) (is_tail c) h in
    let two = and_parts (within 0xE0 0xEF a) (is_second a b) parts.0 in
    let first = in_range 0xE0 0xEF a two.0 in
    let third = in_range 0x80 0xBF c parts.1 in
    omega (arith, first.1, (second_small a b two.1).0, third.1)
code_small (a ∷ b ∷ c ∷ d ∷ []) h =
    let parts = and_parts (within 0xF0 0xF4 a && is_second a b && is_tail c) (is_tail d) h in
    let three = and_parts (within 0xF0 0xF4 a && is_second a b) (is_tail c) parts.0 in
    let two = and_parts (within 0xF0 0xF4 a) (is_second a b) three.0 in
    let first = in_range 0xF0 0xF4 a two.0 in
    let third = in_range 0x80 0xBF c three.1 in
    let fourth = in_range 0x80 0xBF d parts.1 in
    let second = second_small a b two.1 in
    elim (cases_eq a 0xF4) [
      | inl is ↦ omega (arith, is, second.1 is, third.1, fourth.1)
      | inr other ↦ omega (arith, first.1, other, second.0, third.1, fourth.1)
    ]
code_small (a ∷ b ∷ c ∷ d ∷ e ∷ text) h = cc

character-unit : (b code : ℕ) → code < 0x110000 → PrintsOnly b (character_unit code)
character-unit b code small = by (within 0x7F 0x9F code)
  where
    by : (test : Bool) → PrintsOnly b (cond test units.Unit.Ignored (units.Unit.Char code))
    by true = tt
    by false = small

decoding_of_prints : (b : ℕ) (text : List ℕ) → Prints b (character_reading text (decoding_of text))
decoding_of_prints b text = by (is_well_formed text) refl (is_begun text)
  where
    by : (test : Bool) → is_well_formed text ≡ test → (begun : Bool)
        → Prints b (character_reading text (cond test (Character (code_of text)) (cond begun Unfinished Malformed)))
    by true is begun = character-unit b (code_of text) (code_small text is)
    by false is true = tt
    by false is false =
        alone_prints b (drop 1 text) (whole (units.Unit.Char 0xFFFD)) (let small : 0xFFFD < 0x110000 = lit< tt in small)

character_prints : (b : ℕ) (m : Mode) (text : List ℕ) → Prints b (character_text m text)
character_prints b m text =
    either b (begins_csi text) (control_text m (drop 2 text)) (character_reading text (decoding_of text))
    (control_prints b m (drop 2 text)) (decoding_of_prints b text)

-- a byte that stands alone is the last one
byte_prints : (b x : ℕ) (m : Mode) (more : List ℕ) → (more ≡ [] → x ≡ b) → Prints b (alone more (whole (byte_unit m x)))
byte_prints b x m [] last = by (x == 0x7F && not m.display)
  where
    by : (test : Bool) → PrintsOnly b (cond test units.Unit.Ignored (units.Unit.Byte x))
    by true = tt
    by false = last refl
byte_prints b x m (y ∷ more) last = tt

text_prints : (b : ℕ) (m : Mode) (text : List ℕ) → ((x : ℕ) → text ≡ x ∷ [] → x ≡ b) → Prints b (text_reading m text)
text_prints b m [] last = tt
text_prints b m (x ∷ more) last =
    let byte = alone more (whole (byte_unit m x)) in
    let fourth = cond (decodes m) (character_text m (x ∷ more)) byte in
    let third = cond (is_control m x) (alone more (whole (units.Unit.Control x))) fourth in
    let second = cond (is_csi m x) (control_text m more) third in
    either b (x == 0x1B) (escape_text m more) second (escape-ends b m (longest_prefix is_mid more) (after_prefix is_mid more))
    (either b (is_csi m x) (control_text m more) third (control_prints b m more)
    (either b (is_control m x) (alone more (whole (units.Unit.Control x))) fourth (alone_prints b more (whole (units.Unit.Control x)) tt)
    (either b (decodes m) (character_text m (x ∷ more)) byte (character_prints b m (x ∷ more))
    (byte_prints b x m more (λ none. last x (ap (λ (t : List ℕ). x ∷ t) none))))))

overlong_prints : (b : ℕ) (m : Mode) (text : List ℕ) → Prints b (overlong m text)
overlong_prints b m [] = tt
overlong_prints b m (last ∷ more) = alone_prints b more (dropped_or_none m last) (dropped_or_none_prints b m last)

reading_prints : (b : ℕ) (m : Mode) (text : List ℕ) → ((x : ℕ) → text ≡ x ∷ [] → x ≡ b) → Prints b (reading m text)
reading_prints b m text last =
    either b (nat_lt 256 (length text) && is_sequence (text_reading m (take 256 text))) (overlong m (drop 256 text)) (text_reading m text)
    (overlong_prints b m (drop 256 text)) (text_prints b m text last)

-- a text that a byte ends
ended : (text : List ℕ) (b x : ℕ) → text ++ b ∷ [] ≡ x ∷ [] → x ≡ b
ended [] b x is = ap (λ (t : List ℕ). get_or t 0 0) (sym is)
ended (y ∷ []) b x is = absurd (let e : ⊥ = omega (arith, ap (λ (t : List ℕ). length t) is) in e)
ended (y ∷ z ∷ text) b x is = absurd (let e : ⊥ = omega (arith, ap (λ (t : List ℕ). length t) is) in e)

outcome_of_text_prints : (b : ℕ) (r : Reading) (old : Rest) → Prints b r → ThenPrints b (outcome_by_reading r old b).got
outcome_of_text_prints b (whole u) old h = h
outcome_of_text_prints b (unfinished kind) old h = tt
outcome_of_text_prints b dropped old h = tt
outcome_of_text_prints b none old h = tt

byte_outcome_prints : (b : ℕ) (r : Rest) → ThenPrints b (byte_outcome r b).got
byte_outcome_prints b r = by (acts_in (reading r.mode r.text) b) (vanishes_in (reading r.mode r.text) b)
  where
    by : (acting vanishing : Bool)
        → ThenPrints b (cond acting (make_outcome (then.Then.Act b) r) (cond vanishing (make_outcome then.Then.More r) (outcome_of_text r b))).got
    by true vanishing = tt
    by false true = tt
    by false false =
        outcome_of_text_prints b (reading r.mode (r.text ++ b ∷ [])) r
        (reading_prints b r.mode (r.text ++ b ∷ []) (ended r.text b))

pub texts_spell : TextsSpellCharacters
texts_spell old m b = byte_outcome_prints b (rest_before old m b).rest
