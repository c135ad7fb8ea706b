-- The reading of a text with one more byte, by its stage.
use Rattle.std.proofs.Common.{◌≡◌, ℕ, ◌≤◌, ◌<◌, ◌+◌, true, false, List, [], ◌∷◌, ◌++◌, length, refl, sym, ap, ◌∙◌, subst, arith, ⊎_elim}
use Rattle.std.proofs.lemmas.Bool.{and_left, cond-true, cond-false, cond_both, lt-ltb, le-ltb, false≢true}
use Rattle.std.proofs.lemmas.List.{append-nil, append_assoc, length-append}
use Rattle.vt_units.proofs.Fronts.{after_prefix_pass, longest_prefix_pass}
use Rattle.vt_units.specs.Answer.{outcome_by_reading, make_outcome}
use Rattle.vt_units.specs.Bytes.{decodes, is_body, is_csi, is_hex, is_mid}
use Rattle.vt_units.specs.Reading.{Reading, Kind, whole, dropped, unfinished, none, sequence, command, after_prefix, longest_prefix, is_empty, reading, text_reading, escape_ends, control_ends, control_text, palette_ends, dropped_or_none, dropped_or_none_command}
use Rattle.vt_units.specs.Rest.{Rest, fresh}
use Rattle.vt_units.specs.ParserState.{Each, IsIntroducer, IsOutcomeOf, Stands, rest_of}
use Rattle.vt_units.specs.declared.mode.Mode.{Mode}
use Rattle.vt_units.specs.declared.parser_state.ParserState as stage
use Rattle.vt_units.specs.declared.step.Step.TheVariants.{Grow, Clear}
use Rattle.vt_units.specs.declared.then.Then as then
use Rattle.vt_units.specs.declared.unit.Unit as units

-- a text of at most 256 bytes is judged by its first byte
pub short_reading : (m : Mode) (t : List ℕ) → length t ≤ 256 → reading m t ≡ text_reading m t
short_reading m t short = cond-false _ _ _ (and_left _ _ (le-ltb 256 (length t) short))

-- an answer by what the text with the byte is
pub joined_more : (m : Mode) (t : List ℕ) (b : ℕ) (k : Kind) (to : stage.ParserState) → length t < 256
    → text_reading m (t ++ b ∷ []) ≡ unfinished k → Stands to m (t ++ b ∷ [])
    → IsOutcomeOf m t b then.Then.More (Grow to)
joined_more m t b k to room is stands =
    let len : length (t ++ b ∷ []) ≡ length t + 1 = length-append t (b ∷ []) in
    (ap (λ r. outcome_by_reading r (rest_of m t) b) (short_reading m (t ++ b ∷ []) (omega arith) ∙ is), room, stands)

pub joined_unit : (m : Mode) (t : List ℕ) (b : ℕ) (u : units.Unit) → length t < 256
    → text_reading m (t ++ b ∷ []) ≡ whole u → IsOutcomeOf m t b (then.Then.Unit u) Clear
joined_unit m t b u room is =
    let len : length (t ++ b ∷ []) ≡ length t + 1 = length-append t (b ∷ []) in
    ap (λ r. outcome_by_reading r (rest_of m t) b) (short_reading m (t ++ b ∷ []) (omega arith) ∙ is)

-- the text is no unit
abbrev pub IsOver : Reading → Type 0
IsOver dropped = Unit {0}
IsOver none = Unit {0}
IsOver other = ⊥

pub over_joined : (r : Reading) (old : Rest) (b : ℕ) → IsOver r
    → outcome_by_reading r old b ≡ make_outcome then.Then.Dropped (fresh old.mode)
over_joined dropped old b over = refl
over_joined none old b over = refl
over_joined (whole u) old b over = absurd over
over_joined (unfinished k) old b over = absurd over

pub joined_dropped : (m : Mode) (t : List ℕ) (b : ℕ) → length t < 256
    → IsOver (text_reading m (t ++ b ∷ [])) → IsOutcomeOf m t b then.Then.Dropped Clear
joined_dropped m t b room over =
    let len : length (t ++ b ∷ []) ≡ length t + 1 = length-append t (b ∷ []) in
    let e : reading m (t ++ b ∷ []) ≡ text_reading m (t ++ b ∷ []) =
    short_reading m (t ++ b ∷ []) (omega arith) in
    over_joined (reading m (t ++ b ∷ [])) (rest_of m t) b (subst IsOver (sym e) over)

pub over_dropped_or_none : (m : Mode) (b : ℕ) → IsOver (dropped_or_none m b)
over_dropped_or_none m b = cond_both _ dropped none IsOver (λ e. tt) (λ e. tt)

pub over_dropped_or_none_command : (m : Mode) (b : ℕ) → IsOver (dropped_or_none_command m b)
over_dropped_or_none_command m b = cond_both _ dropped none IsOver (λ e. tt) (λ e. tt)

-- behind ESC and intermediate bytes
module _ (m : Mode) (mids : List ℕ) (passes : Each is_mid mids) (b : ℕ) where
  pub escape_mid : is_mid b ≡ true → text_reading m (0x1B ∷ mids ++ b ∷ []) ≡ unfinished sequence
  escape_mid is =
      ap (λ xs. escape_ends m (longest_prefix is_mid (mids ++ b ∷ [])) xs)
      (after_prefix_pass is_mid mids (b ∷ []) passes ∙ cond-true _ _ _ is)

  pub escape-ends : is_mid b ≡ false
      → text_reading m (0x1B ∷ mids ++ b ∷ []) ≡ escape_ends m mids (b ∷ [])
  escape-ends is =
      let fronts : longest_prefix is_mid (mids ++ b ∷ []) ≡ mids =
      longest_prefix_pass is_mid mids (b ∷ []) passes ∙ ap (λ xs. mids ++ xs) (cond-false _ _ _ is) ∙ append-nil mids in
      let behinds : after_prefix is_mid (mids ++ b ∷ []) ≡ b ∷ [] =
      after_prefix_pass is_mid mids (b ∷ []) passes ∙ cond-false _ _ _ is in
      λ i. escape_ends m (fronts i) (behinds i)

pub empty_is : (xs : List ℕ) → is_empty xs ≡ true → xs ≡ []
empty_is [] is = refl
empty_is (x ∷ xs) is = absurd (false≢true is)

-- CSI, however it is written
pub introduced : (m : Mode) (intro xs : List ℕ) → IsIntroducer m intro
    → text_reading m (intro ++ xs) ≡ control_text m xs
introduced m intro xs introduces = ⊎_elim
    (λ (esc : intro ≡ 0x1B ∷ 0x5B ∷ []). ap (λ i. text_reading m (i ++ xs)) esc)
    (λ others. ⊎_elim
    (λ (byte : (intro ≡ 0x9B ∷ []) × (is_csi m 0x9B ≡ true)).
    ap (λ i. text_reading m (i ++ xs)) byte.0 ∙ cond-true _ _ _ byte.1)
    (λ (char : (intro ≡ 0xC2 ∷ 0x9B ∷ []) × (decodes m ≡ true)).
    ap (λ i. text_reading m (i ++ xs)) char.0 ∙ cond-true _ _ _ char.1)
    others)
    introduces

-- behind CSI and a body
module _ (m : Mode) (intro body : List ℕ) (introduces : IsIntroducer m intro) (passes : Each is_body body)
    (b : ℕ) where
  pub control_whole : text_reading m (intro ++ body) ≡ unfinished sequence
  control_whole =
      let behinds : after_prefix is_body body ≡ [] =
      ap (after_prefix is_body) (sym (append-nil body)) ∙ after_prefix_pass is_body body [] passes in
      introduced m intro body introduces ∙ ap (control_ends m (longest_prefix is_body body)) behinds

  pub control_body : is_body b ≡ true → text_reading m ((intro ++ body) ++ b ∷ []) ≡ unfinished sequence
  control_body is =
      ap (text_reading m) (append_assoc intro body (b ∷ []))
      ∙ introduced m intro (body ++ b ∷ []) introduces
      ∙ ap (control_ends m (longest_prefix is_body (body ++ b ∷ [])))
      (after_prefix_pass is_body body (b ∷ []) passes ∙ cond-true _ _ _ is)

  pub control-ends : is_body b ≡ false
      → text_reading m ((intro ++ body) ++ b ∷ []) ≡ control_ends m body (b ∷ [])
  control-ends is =
      let fronts : longest_prefix is_body (body ++ b ∷ []) ≡ body =
      longest_prefix_pass is_body body (b ∷ []) passes ∙ ap (λ xs. body ++ xs) (cond-false _ _ _ is) ∙ append-nil body in
      let behinds : after_prefix is_body (body ++ b ∷ []) ≡ b ∷ [] =
      after_prefix_pass is_body body (b ∷ []) passes ∙ cond-false _ _ _ is in
      ap (text_reading m) (append_assoc intro body (b ∷ []))
      ∙ introduced m intro (body ++ b ∷ []) introduces
      ∙ (λ i. control_ends m (fronts i) (behinds i))

pub escape_whole : (m : Mode) (mids : List ℕ) → Each is_mid mids
    → text_reading m (0x1B ∷ mids) ≡ unfinished sequence
escape_whole m mids passes =
    let behinds : after_prefix is_mid mids ≡ [] =
    ap (after_prefix is_mid) (sym (append-nil mids)) ∙ after_prefix_pass is_mid mids [] passes in
    ap (escape_ends m (longest_prefix is_mid mids)) behinds

pub bracket_whole : (m : Mode) (intro : List ℕ) → IsIntroducer m intro
    → text_reading m (intro ++ 0x5B ∷ []) ≡ unfinished sequence
bracket_whole m intro introduces = introduced m intro (0x5B ∷ []) introduces

-- behind ESC ] P and digits
module _ (m : Mode) (digits : List ℕ) (passes : Each is_hex digits) (few : length digits < 7) (b : ℕ) where
  pub palette_whole : text_reading m (0x1B ∷ 0x5D ∷ 0x50 ∷ digits) ≡ unfinished command
  palette_whole =
      let behinds : after_prefix is_hex digits ≡ [] =
      ap (after_prefix is_hex) (sym (append-nil digits)) ∙ after_prefix_pass is_hex digits [] passes in
      let fronts : longest_prefix is_hex digits ≡ digits =
      ap (longest_prefix is_hex) (sym (append-nil digits)) ∙ longest_prefix_pass is_hex digits [] passes ∙ append-nil digits in
      (λ i. palette_ends m (fronts i) (behinds i)) ∙ cond-true _ _ _ (lt-ltb (length digits) 7 few)

  pub palette_digit : is_hex b ≡ true
      → text_reading m (0x1B ∷ 0x5D ∷ 0x50 ∷ digits ++ b ∷ []) ≡ palette_ends m (digits ++ b ∷ []) []
  palette_digit is =
      let fronts : longest_prefix is_hex (digits ++ b ∷ []) ≡ digits ++ b ∷ [] =
      longest_prefix_pass is_hex digits (b ∷ []) passes ∙ ap (λ xs. digits ++ xs) (cond-true _ _ _ is) in
      let behinds : after_prefix is_hex (digits ++ b ∷ []) ≡ [] =
      after_prefix_pass is_hex digits (b ∷ []) passes ∙ cond-true _ _ _ is in
      λ i. palette_ends m (fronts i) (behinds i)

  pub palette_stops : is_hex b ≡ false
      → text_reading m (0x1B ∷ 0x5D ∷ 0x50 ∷ digits ++ b ∷ []) ≡ dropped_or_none_command m b
  palette_stops is =
      let fronts : longest_prefix is_hex (digits ++ b ∷ []) ≡ digits =
      longest_prefix_pass is_hex digits (b ∷ []) passes ∙ ap (λ xs. digits ++ xs) (cond-false _ _ _ is) ∙ append-nil digits in
      let behinds : after_prefix is_hex (digits ++ b ∷ []) ≡ b ∷ [] =
      after_prefix_pass is_hex digits (b ∷ []) passes ∙ cond-false _ _ _ is in
      (λ i. palette_ends m (fronts i) (behinds i)) ∙ cond-true _ _ _ (lt-ltb (length digits) 7 few)
