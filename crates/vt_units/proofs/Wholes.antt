-- Texts that are whole characters, read byte by byte.
use Rattle.std.proofs.Common.{◌≡◌, ℕ, Bool, true, false, not, cond, ◌==◌, ◌&&◌, ◌||◌, ◌≤◌, List, [], ◌∷◌, ◌++◌, length, refl, sym, ap, ◌∙◌, append_assoc, append-nil, arith}
use Rattle.std.specs.Prelude.{nat_le, nat_lt, if◌then◌else◌}
use Rattle.std.proofs.lemmas.Bool.{and_left, and_parts, cond-false, cond-true, eqb-true, not-true}
use Rattle.std.proofs.lemmas.Bool.Decides.{nat_tests}
use Rattle.vt_chars.specs.Utf8.{code_of, decoding_of, is_begun, is_second, is_tail, is_well_formed, within}
use Rattle.vt_chars.specs.declared.decoded.Decoded.TheVariants.{Character, Unfinished, Malformed}
use Rattle.vt_units.proofs.Readings.{short_reading}
use Rattle.vt_units.proofs.Runs.{any_cut}
use Rattle.vt_units.specs.Answer.{RestBefore, ByteOutcome, acts_in, answer, rest_after, goes_on, outcome_of_text, outcome_by_reading, unbroken_rest, rest_before, rest_before_by, make_outcome, byte_outcome, vanishes_in}
use Rattle.vt_units.specs.Bytes.{decodes, is_printable}
use Rattle.vt_units.specs.Characters.{AreTextsOf, IsTextOf, is_shown}
use Rattle.vt_units.specs.Laws.{PrintablesAreCharacters}
use Rattle.vt_units.specs.Reading.{Reading, begins_csi, character, character_reading, reading, unfinished, whole}
use Rattle.vt_units.specs.Rest.{Rest, fresh, rest_with_byte}
use Rattle.vt_units.specs.Run.{Effects, Reached, effects_of, make_reached, run, step}
use Rattle.vt_units.specs.declared.mode.Mode.{Mode}
use Rattle.vt_units.specs.declared.then.Then as then
use Rattle.vt_units.specs.declared.unit.Unit as units

-- one character more
pub texts_more : (text : List ℕ) (codes : List ℕ) (first : List ℕ) (code : ℕ) → AreTextsOf text codes
    → IsTextOf first code → AreTextsOf (text ++ first) (codes ++ code ∷ [])
texts_more text [] first code are is =
    (first, [], ap (λ t. t ++ first) are ∙ sym (append-nil first), is, refl)
texts_more text (c ∷ codes) first code (front, more, outcome_of_text, one, others) is =
    (front, more ++ first, ap (λ t. t ++ first) outcome_of_text ∙ append_assoc front more first, one, texts_more more codes first code others is)

-- what is decoded as a character is well formed
pub well : (t : List ℕ) (code : ℕ) → decoding_of t ≡ Character code → (is_well_formed t ≡ true) × (code_of t ≡ code)
well t code is = by (is_well_formed t) (is_begun t) refl is
  where
    by : (a b : Bool) → is_well_formed t ≡ a → cond a (Character (code_of t)) (cond b Unfinished Malformed) ≡ Character code
        → (is_well_formed t ≡ true) × (code_of t ≡ code)
    by true b test same = (test, cc)
    by false true test same = absurd (let e : ⊥ = cc in e)
    by false false test same = absurd (let e : ⊥ = cc in e)

-- a text that begins with a byte of a character of more than one
char_reading : (m : Mode) (a : ℕ) (more : List ℕ) → length more ≤ 3 → 0xC2 ≤ a → decodes m ≡ true
    → begins_csi (a ∷ more) ≡ false
    → reading m (a ∷ more) ≡ character_reading (a ∷ more) (decoding_of (a ∷ more))
char_reading m a more short high decoding plain =
    let esc : (a == 0x1B) ≡ false = grind (arith, nat_tests, high) in
    let shows = and_parts m.utf8 (not m.display) decoding in
    let csi : (m.display || not m.utf8) ≡ false = both m.display m.utf8 shows.0 shows.1 in
    let low : nat_lt a 0x20 ≡ false = grind (arith, nat_tests, high) in
    short_reading m (a ∷ more) (omega (arith, short))
    ∙ cond-false _ _ _ esc
    ∙ cond-false _ _ _ (ap (λ (t : Bool). (a == 0x9B) && t) csi ∙ none (a == 0x9B))
    ∙ cond-false _ _ _ (and_left _ _ low)
    ∙ cond-true _ _ _ decoding
    ∙ cond-false _ _ _ plain
  where
    both : (d u : Bool) → u ≡ true → not d ≡ true → (d || not u) ≡ false
    both true u on off = absurd (let e : ⊥ = cc in e)
    both false u on off = ap not on

    none : (t : Bool) → (t && false) ≡ false
    none true = refl
    none false = refl

-- what a byte comes to makes the step
stepped : {S : Type 0} (e : Effects S) (s : S) (rest : Rest) (m : Mode) (b : ℕ) → e.mode_of s ≡ m
    → (before : Rest) (got : then.Then) (after : Rest) → rest_before rest m b ≡ unbroken_rest before
    → byte_outcome before b ≡ make_outcome got after
    → step e b (make_reached s rest) ≡ make_reached (effects_of e (record { bad = false; got = got }) s) after
stepped e s rest m b mode before got after left all =
    ap (λ (n : Mode). make_reached (effects_of e (answer rest n b) s) (rest_after rest n b)) mode
    ∙ ap (λ (l : RestBefore). make_reached (effects_of e (record { bad = l.bad; got = (byte_outcome l.rest b).got }) s) (byte_outcome l.rest b).rest) left
    ∙ ap (λ (t : ByteOutcome). make_reached (effects_of e (record { bad = false; got = t.got }) s) t.rest) all

-- the first byte of a character of more than one
step_first : {S : Type 0} (e : Effects S) (s : S) (rest : Rest) (m : Mode) (b : ℕ) → e.mode_of s ≡ m
    → rest.text ≡ [] → reading m (b ∷ []) ≡ unfinished character
    → step e b (make_reached s rest) ≡ make_reached s (record { mode = m; text = b ∷ [] })
step_first e s rest m b mode nothing is =
    let left : rest_before rest m b ≡ unbroken_rest (fresh m) = ap (λ t. rest_before_by (reading rest.mode t) rest m b) nothing in
    let all : byte_outcome (fresh m) b ≡ make_outcome then.Then.More (rest_with_byte (fresh m) b) =
    ap (λ r. outcome_by_reading r (fresh m) b) is in
    stepped e s rest m b mode (fresh m) then.Then.More (rest_with_byte (fresh m) b) left all

-- a byte behind the beginning of a character joins it
byte_outcome_joins : (m : Mode) (t : List ℕ) (b : ℕ) → reading m t ≡ unfinished character
    → byte_outcome (record { mode = m; text = t }) b ≡ outcome_of_text (record { mode = m; text = t }) b
byte_outcome_joins m t b is =
    let old : Rest = record { mode = m; text = t } in
    ap (λ (now : Reading). if acts_in now b then make_outcome (then.Then.Act b) old
    else if vanishes_in now b then make_outcome then.Then.More old
    else outcome_of_text old b) is

stays : (m : Mode) (t : List ℕ) (b : ℕ) (r : Reading) → reading m t ≡ unfinished character
    → reading m (t ++ b ∷ []) ≡ r → goes_on r ≡ true
    → rest_before (record { mode = m; text = t }) m b ≡ unbroken_rest (record { mode = m; text = t })
stays m t b r is next goes =
    let old : Rest = record { mode = m; text = t } in
    ap (λ (now : Reading). rest_before_by now old m b) is ∙ cond-true _ _ _ (ap goes_on next ∙ goes)

step_more : {S : Type 0} (e : Effects S) (s : S) (m : Mode) (t : List ℕ) (b : ℕ) → e.mode_of s ≡ m
    → reading m t ≡ unfinished character → reading m (t ++ b ∷ []) ≡ unfinished character
    → step e b (make_reached s (record { mode = m; text = t })) ≡ make_reached s (record { mode = m; text = t ++ b ∷ [] })
step_more e s m t b mode is next =
    let old : Rest = record { mode = m; text = t } in
    stepped e s old m b mode old then.Then.More (rest_with_byte old b) (stays m t b (unfinished character) is next refl)
    (byte_outcome_joins m t b is ∙ ap (λ r. outcome_by_reading r old b) next)

step_last : {S : Type 0} (e : Effects S) (s : S) (m : Mode) (t : List ℕ) (b : ℕ) (u : units.Unit) → e.mode_of s ≡ m
    → reading m t ≡ unfinished character → reading m (t ++ b ∷ []) ≡ whole u
    → step e b (make_reached s (record { mode = m; text = t })) ≡ make_reached (e.on_unit u s) (fresh m)
step_last e s m t b u mode is next =
    let old : Rest = record { mode = m; text = t } in
    stepped e s old m b mode old (then.Then.Unit u) (fresh m) (stays m t b (whole u) is next refl)
    (byte_outcome_joins m t b is ∙ ap (λ r. outcome_by_reading r old b) next)

-- a beginning of a character
begun_reading : (m : Mode) (a : ℕ) (more : List ℕ) → length more ≤ 3 → 0xC2 ≤ a → decodes m ≡ true
    → begins_csi (a ∷ more) ≡ false → is_well_formed (a ∷ more) ≡ false → is_begun (a ∷ more) ≡ true
    → reading m (a ∷ more) ≡ unfinished character
begun_reading m a more short high decoding plain ill begun =
    char_reading m a more short high decoding plain
    ∙ ap (character_reading (a ∷ more)) (cond-false _ _ _ ill ∙ cond-true _ _ _ begun)

-- a whole character
whole-reading : (m : Mode) (a : ℕ) (more : List ℕ) (code : ℕ) → length more ≤ 3 → 0xC2 ≤ a → decodes m ≡ true
    → begins_csi (a ∷ more) ≡ false → IsTextOf (a ∷ more) code
    → reading m (a ∷ more) ≡ whole (units.Unit.Char code)
whole-reading m a more code short high decoding plain is =
    let parts = and_parts (nat_le 0x20 code) (not (within 0x7F 0x9F code)) is.shown in
    char_reading m a more short high decoding plain
    ∙ ap (character_reading (a ∷ more)) is.whole
    ∙ ap whole (cond-false _ _ _ (not-true (within 0x7F 0x9F code) parts.1))

-- U+009B isn't shown
no_csi : (a b code : ℕ) → code_of (a ∷ b ∷ []) ≡ code → is_shown code ≡ true → (a == 0xC2 && b == 0x9B) ≡ false
no_csi a b code is shown = by (a == 0xC2 && b == 0x9B) refl
  where
    by : (test : Bool) → (a == 0xC2 && b == 0x9B) ≡ test → (a == 0xC2 && b == 0x9B) ≡ false
    by false same = same
    by true same =
        let parts = and_parts (a == 0xC2) (b == 0x9B) same in
        let first : a ≡ 0xC2 = eqb-true a 0xC2 parts.0 in
        let second : b ≡ 0x9B = eqb-true b 0x9B parts.1 in
        let value : code ≡ 0x9B = sym is ∙ (λ i. code_of (first i ∷ second i ∷ [])) in
        let hidden : true ≡ false = sym shown ∙ ap is_shown value in
        absurd (let e : ⊥ = cc in e)

not_c2 : (a b : ℕ) → 0xE0 ≤ a → (a == 0xC2 && b == 0x9B) ≡ false
not_c2 a b high =
    let other : (a == 0xC2) ≡ false = grind (arith, nat_tests, high) in
    ap (λ (t : Bool). t && (b == 0x9B)) other

module _ {S : Type 0} (e : Effects S) (printables : PrintablesAreCharacters) (s : S) (rest : Rest) (m : Mode) (mode : e.mode_of s ≡ m)
    (nothing : rest.text ≡ []) (decoding : decodes m ≡ true)
  where
    abbrev Runs : List ℕ → ℕ → Type 0
    Runs first code = run e first (make_reached s rest) ≡ make_reached (e.on_unit (units.Unit.Char code) s) (fresh m)

    one-run : (a code : ℕ) → IsTextOf (a ∷ []) code → Runs (a ∷ []) code
    one-run a code is =
        let formed = well (a ∷ []) code is.whole in
        let low : nat_le a 0x7F ≡ true = formed.0 in
        let shown : is_shown a ≡ true = ap is_shown formed.1 ∙ is.shown in
        let parts = and_parts (nat_le 0x20 a) (not (within 0x7F 0x9F a)) shown in
        let out : within 0x7F 0x9F a ≡ false = not-true (within 0x7F 0x9F a) parts.1 in
        let printable : is_printable a ≡ true = grind (arith, nat_tests, low, parts.0, out) in
        let one = printables rest m a nothing decoding printable in
        ap (λ (n : Mode). make_reached (effects_of e (answer rest n a) s) (rest_after rest n a)) mode
        ∙ (λ i. make_reached (effects_of e (one.0 i) s) (one.1 i))
        ∙ ap (λ (c : ℕ). make_reached (e.on_unit (units.Unit.Char c) s) (fresh m)) formed.1

    two-run : (a b code : ℕ) → IsTextOf (a ∷ b ∷ []) code → Runs (a ∷ b ∷ []) code
    two-run a b code is =
        let formed = well (a ∷ b ∷ []) code is.whole in
        let parts = and_parts (within 0xC2 0xDF a) (is_tail b) formed.0 in
        let high : 0xC2 ≤ a = grind (arith, nat_tests, parts.0) in
        let ill : nat_le a 0x7F ≡ false = grind (arith, nat_tests, high) in
        let begun : within 0xC2 0xF4 a ≡ true = grind (arith, nat_tests, parts.0) in
        let first : reading m (a ∷ []) ≡ unfinished character =
        begun_reading m a [] (omega arith) high decoding refl ill begun in
        let plain : begins_csi (a ∷ b ∷ []) ≡ false = no_csi a b code formed.1 is.shown in
        let both : reading m (a ∷ b ∷ []) ≡ whole (units.Unit.Char code) =
        whole-reading m a (b ∷ []) code (omega arith) high decoding plain is in
        ap (step e b) (step_first e s rest m a mode nothing first)
        ∙ step_last e s m (a ∷ []) b (units.Unit.Char code) mode first both

    three-run : (a b c code : ℕ) → IsTextOf (a ∷ b ∷ c ∷ []) code → Runs (a ∷ b ∷ c ∷ []) code
    three-run a b c code is =
        let formed = well (a ∷ b ∷ c ∷ []) code is.whole in
        let parts = and_parts (within 0xE0 0xEF a && is_second a b) (is_tail c) formed.0 in
        let front = and_parts (within 0xE0 0xEF a) (is_second a b) parts.0 in
        let high : 0xE0 ≤ a = grind (arith, nat_tests, front.0) in
        let multi : 0xC2 ≤ a = omega (arith, high) in
        let ill : nat_le a 0x7F ≡ false = grind (arith, nat_tests, high) in
        let begun : within 0xC2 0xF4 a ≡ true = grind (arith, nat_tests, front.0) in
        let first : reading m (a ∷ []) ≡ unfinished character =
        begun_reading m a [] (omega arith) multi decoding refl ill begun in
        let plain : (a == 0xC2 && b == 0x9B) ≡ false = not_c2 a b high in
        let longer : within 0xC2 0xDF a ≡ false = grind (arith, nat_tests, high) in
        let wide : within 0xE0 0xF4 a ≡ true = grind (arith, nat_tests, front.0) in
        let second : reading m (a ∷ b ∷ []) ≡ unfinished character =
        begun_reading m a (b ∷ []) (omega arith) multi decoding plain (and_left _ _ longer)
        (ap (λ (t : Bool). t && is_second a b) wide ∙ front.1) in
        let all : reading m (a ∷ b ∷ c ∷ []) ≡ whole (units.Unit.Char code) =
        whole-reading m a (b ∷ c ∷ []) code (omega arith) multi decoding plain is in
        ap (λ (at : Reached S). step e c (step e b at)) (step_first e s rest m a mode nothing first)
        ∙ ap (step e c) (step_more e s m (a ∷ []) b mode first second)
        ∙ step_last e s m (a ∷ b ∷ []) c (units.Unit.Char code) mode second all

    four-run : (a b c d code : ℕ) → IsTextOf (a ∷ b ∷ c ∷ d ∷ []) code → Runs (a ∷ b ∷ c ∷ d ∷ []) code
    four-run a b c d code is =
        let formed = well (a ∷ b ∷ c ∷ d ∷ []) code is.whole in
        let parts = and_parts (within 0xF0 0xF4 a && is_second a b && is_tail c) (is_tail d) formed.0 in
        let middle = and_parts (within 0xF0 0xF4 a && is_second a b) (is_tail c) parts.0 in
        let front = and_parts (within 0xF0 0xF4 a) (is_second a b) middle.0 in
        let high : 0xF0 ≤ a = grind (arith, nat_tests, front.0) in
        let multi : 0xC2 ≤ a = omega (arith, high) in
        let ill : nat_le a 0x7F ≡ false = grind (arith, nat_tests, high) in
        let begun : within 0xC2 0xF4 a ≡ true = grind (arith, nat_tests, front.0) in
        let first : reading m (a ∷ []) ≡ unfinished character =
        begun_reading m a [] (omega arith) multi decoding refl ill begun in
        let plain : (a == 0xC2 && b == 0x9B) ≡ false = not_c2 a b (omega (arith, high)) in
        let longer : within 0xC2 0xDF a ≡ false = grind (arith, nat_tests, high) in
        let longest : within 0xE0 0xEF a ≡ false = grind (arith, nat_tests, high) in
        let wide : within 0xE0 0xF4 a ≡ true = grind (arith, nat_tests, front.0) in
        let second : reading m (a ∷ b ∷ []) ≡ unfinished character =
        begun_reading m a (b ∷ []) (omega arith) multi decoding plain (and_left _ _ longer)
        (ap (λ (t : Bool). t && is_second a b) wide ∙ front.1) in
        let third : reading m (a ∷ b ∷ c ∷ []) ≡ unfinished character =
        begun_reading m a (b ∷ c ∷ []) (omega arith) multi decoding plain
        (and_left _ _ (and_left _ _ longest)) parts.0 in
        let all : reading m (a ∷ b ∷ c ∷ d ∷ []) ≡ whole (units.Unit.Char code) =
        whole-reading m a (b ∷ c ∷ d ∷ []) code (omega arith) multi decoding plain is in
        ap (λ (at : Reached S). step e d (step e c (step e b at))) (step_first e s rest m a mode nothing first)
        ∙ ap (λ (at : Reached S). step e d (step e c at)) (step_more e s m (a ∷ []) b mode first second)
        ∙ ap (step e d) (step_more e s m (a ∷ b ∷ []) c mode second third)
        ∙ step_last e s m (a ∷ b ∷ c ∷ []) d (units.Unit.Char code) mode third all

    -- the bytes of a character are read as that character
    character-run : (first : List ℕ) (code : ℕ) → IsTextOf first code → Runs first code
    character-run [] code is = absurd (let e : ⊥ = (let clash : Malformed ≡ Character code = is.whole in cc) in e)
    character-run (a ∷ []) code is = one-run a code is
    character-run (a ∷ b ∷ []) code is = two-run a b code is
    character-run (a ∷ b ∷ c ∷ []) code is = three-run a b c code is
    character-run (a ∷ b ∷ c ∷ d ∷ []) code is = four-run a b c d code is
    character-run (a ∷ b ∷ c ∷ d ∷ f ∷ more) code is = absurd (let e : ⊥ = (let clash : Malformed ≡ Character code = is.whole in cc) in e)

-- characters, one after another
abbrev pub all_shown : {S : Type 0} → Effects S → List ℕ → S → S
all_shown e [] s = s
all_shown e (code ∷ codes) s = all_shown e codes (e.on_unit (units.Unit.Char code) s)

-- the rest behind so many characters
abbrev pub rest_of_codes : List ℕ → Mode → Rest → Rest
rest_of_codes [] m old = old
rest_of_codes (code ∷ codes) m old = fresh m

fresh_codes : (codes : List ℕ) (m : Mode) → rest_of_codes codes m (fresh m) ≡ fresh m
fresh_codes [] m = refl
fresh_codes (code ∷ codes) m = refl

-- where characters leave the mode, text that is characters is run as them
pub characters_run : {S : Type 0} (e : Effects S) → PrintablesAreCharacters
    → ((code : ℕ) (s : S) → e.mode_of (e.on_unit (units.Unit.Char code) s) ≡ e.mode_of s)
    → (text codes : List ℕ) (s : S) (rest : Rest) (m : Mode) → e.mode_of s ≡ m → AreTextsOf text codes
    → rest.text ≡ [] → decodes m ≡ true
    → run e text (make_reached s rest) ≡ make_reached (all_shown e codes s) (rest_of_codes codes m rest)
characters_run e law keeps text [] s rest m mode are nothing decoding =
    ap (λ (bytes : List ℕ). run e bytes (make_reached s rest)) are
characters_run {S = S} e law keeps text (code ∷ codes) s rest m mode (first, more, outcome_of_text, one, others) nothing decoding =
    ap (λ (bytes : List ℕ). run e bytes (make_reached s rest)) outcome_of_text
    ∙ any_cut e first more (make_reached s rest)
    ∙ ap (run e more) (character-run e law s rest m mode nothing decoding first code one)
    ∙ characters_run e law keeps more codes (e.on_unit (units.Unit.Char code) s) (fresh m) m (keeps code s ∙ mode) others refl decoding
    ∙ ap (λ (r : Rest). make_reached (all_shown e codes (e.on_unit (units.Unit.Char code) s)) r) (fresh_codes codes m)
