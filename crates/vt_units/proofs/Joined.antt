-- The result of a byte after a sequence.
use Rattle.std.proofs.Common.{◌≡◌, ℕ, ◌==◌, ◌≤◌, ◌<◌, ◌+◌, true, false, cond, ◌&&◌, List, [], ◌∷◌, ◌++◌, length, take, refl, sym, ap, ◌∙◌, subst, arith, ⊎_elim, inl, inr}
use Rattle.std.specs.Prelude.{nat_lt}
use Rattle.std.proofs.lemmas.Bool.{and_parts, and_from, and_left, cases_Bool, cond-true, cond-false, eqb-true, lt-ltb, le-ltb, eq-eqb, false≢true, false_from_ne_true}
use Rattle.std.proofs.lemmas.Bool.Decides.{nat_tests}
use Rattle.std.proofs.lemmas.List.{append-nil, append_assoc, drop_at, length-append, take_at}
use Rattle.vt_chars.specs.Utf8.{code_of, decoding_of, is_begun, is_well_formed, within}
use Rattle.vt_chars.specs.declared.decoded.Decoded.TheVariants.{Character, Unfinished, Malformed}
use Rattle.vt_units.proofs.Fronts.{each_push}
use Rattle.vt_units.proofs.Readings.{IsOver, bracket_whole, control_body, control-ends, control_whole, empty_is, escape-ends, escape_mid, escape_whole, introduced, joined_dropped, joined_more, joined_unit, over_joined, over_dropped_or_none, over_dropped_or_none_command, palette_digit, palette_stops, palette_whole, short_reading}
use Rattle.vt_units.specs.Answer.{ByteOutcome, acts_in, vanishes_in, outcome_of_text, make_outcome, byte_outcome}
use Rattle.vt_units.specs.Bytes.{acts, decodes, is_body, is_csi, is_hex, is_mid, opens_string}
use Rattle.vt_units.specs.Reading.{Reading, Kind, unfinished, sequence, command, character, begins_csi, character_reading, character_text, is_empty, is_sequence, overlong, reading, text_reading, dropped_or_none}
use Rattle.vt_units.specs.Rest.{Rest}
use Rattle.vt_units.specs.Sequences.{colour_unit, control_unit, escape_unit}
use Rattle.vt_units.specs.ParserState.{Each, HasBody, Inside, IsIntroducer, IsSequence, IsOutcomeOf, Stands, Steps, rest_of}
use Rattle.vt_units.specs.declared.mode.Mode.{Mode}
use Rattle.vt_units.specs.declared.parser_state.ParserState as stage
use Rattle.vt_units.specs.declared.step.Step.{Step}
use Rattle.vt_units.specs.declared.step.Step.TheVariants.{Keep, Grow, Clear}
use Rattle.vt_units.specs.declared.then.Then as then

-- an escape sequence
module _ (m : Mode) (t mids : List ℕ) (is : t ≡ 0x1B ∷ mids) (passes : Each is_mid mids) (b : ℕ)
    (room : length t < 256) where
  room-of : length (0x1B ∷ mids) < 256
  room-of = subst (λ xs. length xs < 256) is room

  at : (got : then.Then) (step : Step) → IsOutcomeOf m (0x1B ∷ mids) b got step → IsOutcomeOf m t b got step
  at got step joins = subst (λ xs. IsOutcomeOf m xs b got step) (sym is) joins

  pub escape_goes : is_mid b ≡ true → IsOutcomeOf m t b then.Then.More (Grow stage.ParserState.Escape)
  escape_goes mid = at then.Then.More (Grow stage.ParserState.Escape) (joined_more m (0x1B ∷ mids) b sequence stage.ParserState.Escape room-of
      (escape_mid m mids passes b mid) (mids ++ b ∷ [], refl, each_push is_mid mids b passes mid))

  pub escape_csi : (is_empty mids && b == 0x5B) ≡ true
      → IsOutcomeOf m t b then.Then.More (Grow stage.ParserState.Control)
  escape_csi first =
      let p : (is_empty mids ≡ true) × ((b == 0x5B) ≡ true) = and_parts _ _ first in
      let none : mids ≡ [] = empty_is mids p.0 in
      let sign : b ≡ 0x5B = eqb-true b 0x5B p.1 in
      let all : 0x1B ∷ mids ++ b ∷ [] ≡ 0x1B ∷ 0x5B ∷ [] = (λ i. 0x1B ∷ none i ++ sign i ∷ []) in
      let body : HasBody m (0x1B ∷ 0x5B ∷ []) [] =
      record { intro = 0x1B ∷ 0x5B ∷ []; is = refl; introduces = inl refl; passes = tt } in
      at then.Then.More (Grow stage.ParserState.Control) (joined_more m (0x1B ∷ mids) b sequence stage.ParserState.Control room-of (ap (text_reading m) all)
      (subst (Stands stage.ParserState.Control m) (sym all) ([], body)))

  pub escape-unit : is_mid b ≡ false → (is_empty mids && opens_string b) ≡ false
      → (is_empty mids && b == 0x5B) ≡ false → (is_empty mids && b == 0x5D) ≡ false
      → within 0x30 0x7E b ≡ true → IsOutcomeOf m t b (then.Then.Unit (escape_unit mids b)) Clear
  escape-unit mid opener bracket close last = at (then.Then.Unit (escape_unit mids b)) Clear (joined_unit m (0x1B ∷ mids) b (escape_unit mids b) room-of
      (escape-ends m mids passes b mid
      ∙ cond-false _ _ _ opener ∙ cond-false _ _ _ bracket ∙ cond-false _ _ _ close ∙ cond-true _ _ _ last))

  pub escape_dropped : is_mid b ≡ false → (is_empty mids && opens_string b) ≡ false
      → (is_empty mids && b == 0x5B) ≡ false → (is_empty mids && b == 0x5D) ≡ false
      → within 0x30 0x7E b ≡ false → IsOutcomeOf m t b then.Then.Dropped Clear
  escape_dropped mid opener bracket close last = at then.Then.Dropped Clear (joined_dropped m (0x1B ∷ mids) b room-of
      (subst IsOver (sym (escape-ends m mids passes b mid
      ∙ cond-false _ _ _ opener ∙ cond-false _ _ _ bracket ∙ cond-false _ _ _ close ∙ cond-false _ _ _ last))
      (over_dropped_or_none m b)))

-- a control sequence
module _ (m : Mode) (t body : List ℕ) (has : HasBody m t body) (b : ℕ) (room : length t < 256) where
  open has use {intro, is, introduces, passes}

  room-has : length (intro ++ body) < 256
  room-has = subst (λ xs. length xs < 256) is room

  at-has : (got : then.Then) (step : Step) → IsOutcomeOf m (intro ++ body) b got step → IsOutcomeOf m t b got step
  at-has got step joins = subst (λ xs. IsOutcomeOf m xs b got step) (sym is) joins

  pub control_goes : is_body b ≡ true → IsOutcomeOf m t b then.Then.More (Grow stage.ParserState.Control)
  control_goes admits =
      let more : HasBody m ((intro ++ body) ++ b ∷ []) (body ++ b ∷ []) = record {
        intro = intro;
        is = append_assoc intro body (b ∷ []);
        introduces = introduces;
        passes = each_push is_body body b passes admits;
      } in
      at-has then.Then.More (Grow stage.ParserState.Control) (joined_more m (intro ++ body) b sequence stage.ParserState.Control room-has
      (control_body m intro body introduces passes b admits) (body ++ b ∷ [], more))

  pub control_bracket : is_body b ≡ false → (is_empty body && b == 0x5B) ≡ true
      → IsOutcomeOf m t b then.Then.More (Grow stage.ParserState.CsiBracket)
  control_bracket admits first =
      let p : (is_empty body ≡ true) × ((b == 0x5B) ≡ true) = and_parts _ _ first in
      let nothing : body ≡ [] = empty_is body p.0 in
      let sign : b ≡ 0x5B = eqb-true b 0x5B p.1 in
      let all : (intro ++ body) ++ b ∷ [] ≡ intro ++ 0x5B ∷ [] =
      append_assoc intro body (b ∷ []) ∙ (λ i. intro ++ (nothing i ++ sign i ∷ [])) in
      at-has then.Then.More (Grow stage.ParserState.CsiBracket) (joined_more m (intro ++ body) b sequence stage.ParserState.CsiBracket room-has
      (control-ends m intro body introduces passes b admits ∙ cond-true _ _ _ first)
      (intro, all, introduces))

  pub control-unit : is_body b ≡ false → (is_empty body && b == 0x5B) ≡ false → within 0x40 0x7E b ≡ true
      → IsOutcomeOf m t b (then.Then.Unit (control_unit body b)) Clear
  control-unit admits first last = at-has (then.Then.Unit (control_unit body b)) Clear (joined_unit m (intro ++ body) b (control_unit body b) room-has
      (control-ends m intro body introduces passes b admits ∙ cond-false _ _ _ first ∙ cond-true _ _ _ last))

  pub control_dropped : is_body b ≡ false → (is_empty body && b == 0x5B) ≡ false → within 0x40 0x7E b ≡ false
      → IsOutcomeOf m t b then.Then.Dropped Clear
  control_dropped admits first last = at-has then.Then.Dropped Clear (joined_dropped m (intro ++ body) b room-has
      (subst IsOver (sym (control-ends m intro body introduces passes b admits
      ∙ cond-false _ _ _ first ∙ cond-false _ _ _ last)) (over_dropped_or_none m b)))

-- a sequence that isn't a string reads as unfinished
pub sequence_whole : (at : stage.ParserState) (m : Mode) (t : List ℕ) → IsSequence at → Stands at m t
    → text_reading m t ≡ unfinished sequence
sequence_whole stage.ParserState.Escape m t one (mids, is, passes) =
    ap (text_reading m) is ∙ escape_whole m mids passes
sequence_whole stage.ParserState.Control m t one (body, has) =
    ap (text_reading m) has.is ∙ control_whole m has.intro body has.introduces has.passes 0
sequence_whole stage.ParserState.CsiBracket m t one (intro, is, introduces) =
    ap (text_reading m) is ∙ bracket_whole m intro introduces
sequence_whole stage.ParserState.Ground m t one stands = absurd one
sequence_whole stage.ParserState.Utf8 m t one stands = absurd one
sequence_whole stage.ParserState.Osc m t one stands = absurd one
sequence_whole stage.ParserState.Palette m t one stands = absurd one
sequence_whole stage.ParserState.ControlString m t one stands = absurd one
sequence_whole stage.ParserState.StringEscape m t one stands = absurd one

-- what is read inside, where the reading is known
abbrev inside_by : Reading → Rest → ℕ → ByteOutcome
inside_by now r b =
    cond (acts_in now b) (make_outcome (then.Then.Act b) r)
    (cond (vanishes_in now b) (make_outcome then.Then.More r) (outcome_of_text r b))

module _ (m : Mode) (t : List ℕ) (b : ℕ) (bound : length t ≤ 256) (k : Kind)
    (is : text_reading m t ≡ unfinished k) where
  pub byte_outcome_is : byte_outcome (rest_of m t) b ≡ inside_by (unfinished k) (rest_of m t) b
  byte_outcome_is = ap (λ now. inside_by now (rest_of m t) b) (short_reading m t bound ∙ is)

  pub inside_acts : acts_in (unfinished k) b ≡ true → Inside m t b (then.Then.Act b) Keep
  inside_acts act = byte_outcome_is ∙ cond-true _ _ _ act

  pub inside_vanishes : acts_in (unfinished k) b ≡ false → vanishes_in (unfinished k) b ≡ true
      → Inside m t b then.Then.More Keep
  inside_vanishes act vanish = byte_outcome_is ∙ cond-false _ _ _ act ∙ cond-true _ _ _ vanish

  pub byte_outcome-outcome_of_text : acts_in (unfinished k) b ≡ false → vanishes_in (unfinished k) b ≡ false
      → byte_outcome (rest_of m t) b ≡ outcome_of_text (rest_of m t) b
  byte_outcome-outcome_of_text act vanish = byte_outcome_is ∙ cond-false _ _ _ act ∙ cond-false _ _ _ vanish

  pub inside_outcome_of_text : acts_in (unfinished k) b ≡ false → vanishes_in (unfinished k) b ≡ false
      → (got : then.Then) (step : Step) → IsOutcomeOf m t b got step → Inside m t b got step
  inside_outcome_of_text act vanish got step joins =
      subst (λ all. Steps all (rest_of m t) b got step) (sym (byte_outcome-outcome_of_text act vanish)) joins

-- the 257th byte
pub overlong_over : (m : Mode) (t : List ℕ) (b : ℕ) → length t ≡ 256
    → text_reading m t ≡ unfinished sequence → reading m (t ++ b ∷ []) ≡ dropped_or_none m b
overlong_over m t b full is =
    let len : length (t ++ b ∷ []) ≡ length t + 1 = length-append t (b ∷ []) in
    let long : nat_lt 256 (length (t ++ b ∷ [])) ≡ true = lt-ltb 256 (length (t ++ b ∷ [])) (omega arith) in
    let going : is_sequence (text_reading m (take 256 (t ++ b ∷ []))) ≡ true =
    ap (λ xs. is_sequence (text_reading m xs)) (take_at t (b ∷ []) 256 full) ∙ ap is_sequence is in
    cond-true _ _ _ (and_from _ _ long going) ∙ ap (overlong m) (drop_at t (b ∷ []) 256 full)

-- behind ESC ] P and digits
module _ (m : Mode) (t digits : List ℕ) (is : t ≡ 0x1B ∷ 0x5D ∷ 0x50 ∷ digits) (passes : Each is_hex digits)
    (few : length digits < 7) (b : ℕ) (act : acts b ≡ false) where
  short-palette : length (0x1B ∷ 0x5D ∷ 0x50 ∷ digits) < 256
  short-palette = omega arith

  at-palette : (got : then.Then) (step : Step)
      → IsOutcomeOf m (0x1B ∷ 0x5D ∷ 0x50 ∷ digits) b got step → Inside m t b got step
  at-palette got step joins = subst (λ xs. Inside m xs b got step) (sym is)
      (inside_outcome_of_text m (0x1B ∷ 0x5D ∷ 0x50 ∷ digits) b (omega arith) command
      (palette_whole m digits passes few b) act refl got step joins)

  pub palette_dropped : is_hex b ≡ false → Inside m t b then.Then.Dropped Clear
  palette_dropped hex = at-palette then.Then.Dropped Clear
      (joined_dropped m (0x1B ∷ 0x5D ∷ 0x50 ∷ digits) b short-palette
      (subst IsOver (sym (palette_stops m digits passes few b hex)) (over_dropped_or_none_command m b)))

  pub palette_goes : is_hex b ≡ true → length digits < 6
      → Inside m t b then.Then.More (Grow stage.ParserState.Palette)
  palette_goes hex fewer =
      let len : length (digits ++ b ∷ []) ≡ length digits + 1 = length-append digits (b ∷ []) in
      let few_more : length (digits ++ b ∷ []) < 7 = omega arith in
      at-palette then.Then.More (Grow stage.ParserState.Palette)
      (joined_more m (0x1B ∷ 0x5D ∷ 0x50 ∷ digits) b command stage.ParserState.Palette short-palette
      (palette_digit m digits passes few b hex ∙ cond-true _ _ _ (lt-ltb _ 7 few_more))
      (digits ++ b ∷ [], refl, each_push is_hex digits b passes hex, few_more))

  pub palette_unit : is_hex b ≡ true → length digits ≡ 6
      → Inside m t b (then.Then.Unit (colour_unit (digits ++ b ∷ []))) Clear
  palette_unit hex six =
      let len : length (digits ++ b ∷ []) ≡ length digits + 1 = length-append digits (b ∷ []) in
      let seven : length (digits ++ b ∷ []) ≡ 7 = omega arith in
      at-palette (then.Then.Unit (colour_unit (digits ++ b ∷ []))) Clear
      (joined_unit m (0x1B ∷ 0x5D ∷ 0x50 ∷ digits) b (colour_unit (digits ++ b ∷ [])) short-palette
      (palette_digit m digits passes few b hex
      ∙ cond-false _ _ _ (le-ltb (length (digits ++ b ∷ [])) 7 (omega arith))
      ∙ cond-true _ _ _ (eq-eqb (length (digits ++ b ∷ [])) 7 seven)))

-- CSI by one byte, and by the character U+009B
pub ground_csi : (m : Mode) (b : ℕ) → is_csi m b ≡ true → IsOutcomeOf m [] b then.Then.More (Grow stage.ParserState.Control)
ground_csi m b csi =
    let is : b ≡ 0x9B = eqb-true b 0x9B (and_parts _ _ csi).0 in
    let introduces : IsIntroducer m (0x9B ∷ []) =
    inr (inl (refl, subst (λ x. is_csi m x ≡ true) is csi)) in
    let body : HasBody m (0x9B ∷ []) [] =
    record { intro = 0x9B ∷ []; is = refl; introduces = introduces; passes = tt } in
    subst (λ x. IsOutcomeOf m [] x then.Then.More (Grow stage.ParserState.Control)) (sym is)
    (joined_more m [] 0x9B sequence stage.ParserState.Control (omega arith)
    (introduced m (0x9B ∷ []) [] introduces) ([], body))

part_csi_two : (m : Mode) (a b : ℕ) → decodes m ≡ true → begins_csi (a ∷ b ∷ []) ≡ true
    → IsOutcomeOf m (a ∷ []) b then.Then.More (Grow stage.ParserState.Control)
part_csi_two m a b decoding csi =
    let p : ((a == 0xC2) ≡ true) × ((b == 0x9B) ≡ true) = and_parts _ _ csi in
    let first : a ≡ 0xC2 = eqb-true a 0xC2 p.0 in
    let second : b ≡ 0x9B = eqb-true b 0x9B p.1 in
    let introduces : IsIntroducer m (0xC2 ∷ 0x9B ∷ []) = inr (inr (refl, decoding)) in
    let body : HasBody m (0xC2 ∷ 0x9B ∷ []) [] =
    record { intro = 0xC2 ∷ 0x9B ∷ []; is = refl; introduces = introduces; passes = tt } in
    subst (λ x. IsOutcomeOf m (x ∷ []) b then.Then.More (Grow stage.ParserState.Control)) (sym first)
    (subst (λ x. IsOutcomeOf m (0xC2 ∷ []) x then.Then.More (Grow stage.ParserState.Control)) (sym second)
    (joined_more m (0xC2 ∷ []) 0x9B sequence stage.ParserState.Control (omega arith)
    (introduced m (0xC2 ∷ 0x9B ∷ []) [] introduces) ([], body)))

not-begun : (a x : ℕ) → (a == 0xC2) ≡ true → within 0xE0 0xF4 a ≡ true → ⊥
not-begun a x first begun = grind (arith, nat_tests)

part_begun : (m : Mode) (t : List ℕ) (b : ℕ) → decodes m ≡ true → is_begun t ≡ true
    → begins_csi (t ++ b ∷ []) ≡ true → IsOutcomeOf m t b then.Then.More (Grow stage.ParserState.Control)
part_begun m [] b decoding begun csi = absurd (false≢true begun)
part_begun m (a ∷ []) b decoding begun csi = part_csi_two m a b decoding csi
part_begun m (a ∷ x ∷ []) b decoding begun csi =
    absurd (not-begun a x (and_parts _ _ csi).0 (and_parts _ _ begun).0)
part_begun m (a ∷ x ∷ y ∷ []) b decoding begun csi =
    absurd (not-begun a x (and_parts _ _ csi).0 (longer a (and_parts _ _ (and_parts _ _ begun).0).0))
  where
    longer : (a : ℕ) → within 0xF0 0xF4 a ≡ true → within 0xE0 0xF4 a ≡ true
    longer a inside = grind (arith, nat_tests)
part_begun m (a ∷ x ∷ y ∷ z ∷ rest) b decoding begun csi = absurd (false≢true begun)

-- what comes first inside a sequence
module _ (at : stage.ParserState) (m : Mode) (t : List ℕ) (one : IsSequence at) (stands : Stands at m t)
    (bound : length t ≤ 256) (b : ℕ) where
  pub sequence-acts : acts b ≡ true → Inside m t b (then.Then.Act b) Keep
  sequence-acts act = inside_acts m t b bound sequence (sequence_whole at m t one stands) act

  pub sequence_vanishes : acts b ≡ false → (b == 0x7F) ≡ true → Inside m t b then.Then.More Keep
  sequence_vanishes act del = inside_vanishes m t b bound sequence (sequence_whole at m t one stands) act del

  pub sequence-outcome_of_text : acts b ≡ false → (b == 0x7F) ≡ false → (got : then.Then) (step : Step)
      → IsOutcomeOf m t b got step → Inside m t b got step
  sequence-outcome_of_text act del = inside_outcome_of_text m t b bound sequence (sequence_whole at m t one stands) act del

  pub sequence_full : acts b ≡ false → (b == 0x7F) ≡ false → length t ≡ 256
      → Inside m t b then.Then.Dropped Clear
  sequence_full act del full =
      let is : text_reading m t ≡ unfinished sequence = sequence_whole at m t one stands in
      sequence-outcome_of_text act del then.Then.Dropped Clear
      (over_joined (reading m (t ++ b ∷ [])) (rest_of m t) b
      (subst IsOver (sym (overlong_over m t b full is)) (over_dropped_or_none m b)))

-- the beginning of a character
pub begun_low : (t : List ℕ) → is_begun t ≡ true → (a : ℕ) × (more : List ℕ) × (t ≡ a ∷ more) × (within 0xC2 0xF4 a ≡ true)
begun_low [] begun = absurd (false≢true begun)
begun_low (a ∷ []) begun = (a, [], refl, begun)
begun_low (a ∷ b ∷ []) begun = (a, b ∷ [], refl, grind (arith, nat_tests))
begun_low (a ∷ b ∷ c ∷ []) begun = (a, b ∷ c ∷ [], refl, grind (arith, nat_tests))
begun_low (a ∷ b ∷ c ∷ d ∷ more) begun = absurd (false≢true begun)

character_first : (m : Mode) (a : ℕ) (more : List ℕ) → decodes m ≡ true → within 0xC2 0xF4 a ≡ true
    → text_reading m (a ∷ more) ≡ character_text m (a ∷ more)
character_first m a more decoding inside =
    let esc : (a == 0x1B) ≡ false = grind (arith, nat_tests) in
    let csi : (a == 0x9B) ≡ false = grind (arith, nat_tests) in
    let low : nat_lt a 0x20 ≡ false = grind (arith, nat_tests) in
    cond-false _ _ _ esc ∙ cond-false _ _ _ (and_left _ _ csi) ∙ cond-false _ _ _ (and_left _ _ low)
    ∙ cond-true _ _ _ decoding

pub character-text : (m : Mode) (t more : List ℕ) → decodes m ≡ true → is_begun t ≡ true
    → text_reading m (t ++ more) ≡ character_text m (t ++ more)
character-text m t more decoding begun =
    let first : (a : ℕ) × (rest : List ℕ) × (t ≡ a ∷ rest) × (within 0xC2 0xF4 a ≡ true) = begun_low t begun in
    ap (λ xs. text_reading m (xs ++ more)) first.2
    ∙ character_first m first.0 (first.1 ++ more) decoding first.3
    ∙ ap (λ xs. character_text m (xs ++ more)) (sym first.2)

pub decoding_of_begun : (t : List ℕ) → decoding_of t ≡ Unfinished → is_begun t ≡ true
decoding_of_begun t is = ⊎_elim
    (λ (formed : is_well_formed t ≡ true).
    let e : decoding_of t ≡ Character (code_of t) = cond-true _ _ _ formed in
    absurd (let no : ⊥ = cc in no))
    (λ (not_formed : is_well_formed t ≡ false). ⊎_elim
    (λ (begun : is_begun t ≡ true). begun)
    (λ (not_begun : is_begun t ≡ false).
    let e : decoding_of t ≡ Malformed = cond-false _ _ _ not_formed ∙ cond-false _ _ _ not_begun in
    absurd (let no : ⊥ = cc in no))
    (cases_Bool (is_begun t)))
    (cases_Bool (is_well_formed t))

pub part_csi : (m : Mode) (t : List ℕ) (b : ℕ) → decodes m ≡ true → decoding_of t ≡ Unfinished
    → begins_csi (t ++ b ∷ []) ≡ true → IsOutcomeOf m t b then.Then.More (Grow stage.ParserState.Control)
part_csi m t b decoding is = part_begun m t b decoding (decoding_of_begun t is)

-- a beginning isn't CSI
begun_csi : (t : List ℕ) → is_begun t ≡ true → begins_csi t ≡ false
begun_csi [] begun = refl
begun_csi (a ∷ []) begun = refl
begun_csi (a ∷ x ∷ []) begun =
    false_from_ne_true _ (λ csi. not-begun a x (and_parts _ _ csi).0 (and_parts _ _ begun).0)
begun_csi (a ∷ x ∷ y ∷ []) begun =
    false_from_ne_true _ (λ csi. not-begun a x (and_parts _ _ csi).0 (longer (and_parts _ _ (and_parts _ _ begun).0).0))
  where
    longer : within 0xF0 0xF4 a ≡ true → within 0xE0 0xF4 a ≡ true
    longer inside = grind (arith, nat_tests)
begun_csi (a ∷ x ∷ y ∷ z ∷ rest) begun = absurd (false≢true begun)

module _ (m : Mode) (t : List ℕ) (decoding : decodes m ≡ true) (is : decoding_of t ≡ Unfinished) where
  pub part_whole : text_reading m t ≡ unfinished character
  part_whole =
      ap (text_reading m) (sym (append-nil t))
      ∙ character-text m t [] decoding (decoding_of_begun t is)
      ∙ ap (character_text m) (append-nil t)
      ∙ cond-false _ _ _ (begun_csi t (decoding_of_begun t is))
      ∙ ap (character_reading t) is

pub part_short : (t : List ℕ) → decoding_of t ≡ Unfinished → length t ≤ 3
part_short t is = begun-short t (decoding_of_begun t is)
  where
    begun-short : (xs : List ℕ) → is_begun xs ≡ true → length xs ≤ 3
    begun-short [] begun = omega arith
    begun-short (a ∷ []) begun = omega arith
    begun-short (a ∷ x ∷ []) begun = omega arith
    begun-short (a ∷ x ∷ y ∷ []) begun = omega arith
    begun-short (a ∷ x ∷ y ∷ z ∷ rest) begun = absurd (false≢true begun)

-- the only text that is CSI by its character
pub csi_text : (t : List ℕ) (b : ℕ) → is_begun t ≡ true → begins_csi (t ++ b ∷ []) ≡ true
    → t ++ b ∷ [] ≡ 0xC2 ∷ 0x9B ∷ []
csi_text [] b begun csi = absurd (false≢true begun)
csi_text (a ∷ []) b begun csi = grind (arith, nat_tests)
csi_text (a ∷ x ∷ rest) b begun csi = absurd (false≢true (sym (begun_csi (a ∷ x ∷ rest) begun) ∙ csi))
