-- Sequences that are read at once come to their unit, byte by byte.
use Rattle.std.proofs.Common.{◌≡◌, ℕ, ◌==◌, ◌≤◌, ◌<◌, ◌+◌, Bool, true, false, cond, ◌&&◌, ◌||◌, not, List, [], ◌∷◌, ◌++◌, length, min, take, Some, None, refl, sym, ap, ◌∙◌, subst, arith, ⊎_elim, inl}
use Rattle.std.specs.Prelude.{nat_lt}
use Rattle.std.proofs.lemmas.Bool.{and_left, and_parts, and_right, cases_Bool, cond-true, cond-false, eqb-true, not-true, or_from, or_parts}
use Rattle.std.proofs.lemmas.Bool.Decides.{nat_tests}
use Rattle.std.proofs.lemmas.List.{append-nil, append_assoc, length-append, length-take, take_at, take-take}
use Rattle.std.proofs.lemmas.Option.{none-some}
use Rattle.vt_chars.specs.Utf8.{within}
use Rattle.vt_units.proofs.Follows.{admits}
use Rattle.vt_units.proofs.Fronts.{each_push}
use Rattle.vt_units.proofs.Joined.{byte_outcome-outcome_of_text}
use Rattle.vt_units.proofs.Numbered.{each_all, each_map, longest_prefix-after_prefix, longest_prefix_each}
use Rattle.vt_units.proofs.Readings.{control_whole, control_body, control-ends, empty_is, escape-ends, escape_mid, short_reading}
use Rattle.vt_units.specs.WholeSequence.{Sequence, control_ahead, ends_control, ends_escape, escape_ahead, mid_ahead, numbers_ahead, numbers_end, opened_ahead, sequence_ahead}
use Rattle.vt_units.specs.Answer.{RestBefore, ByteOutcome, answer, outcome_by_reading, unbroken_rest, rest_after, rest_before, rest_before_by, make_outcome, byte_outcome}
use Rattle.vt_units.specs.Bytes.{acts, interrupts, is_body, is_mid, opens_string}
use Rattle.vt_units.specs.Laws.{ComeTo, IsUnitOf, SequencesAreUnits}
use Rattle.vt_units.specs.Numbers.{params_of}
use Rattle.vt_units.specs.Reading.{Reading, after_prefix, longest_prefix, is_empty, reading, sequence, text_reading, unfinished, whole}
use Rattle.vt_units.specs.Rest.{Rest, fresh, start_mode}
use Rattle.vt_units.specs.ShortSequences.{csi_in, sgr_in}
use Rattle.vt_units.specs.declared.long_sgr.LongSgr.{LongSgr}
use Rattle.vt_units.specs.declared.short_csi.ShortCsi.{ShortCsi}
use Rattle.vt_units.specs.Sequences.{control_unit, is_parameter, numbered_unit}
use Rattle.vt_units.specs.ParserState.{Each, rest_of}
use Rattle.vt_units.specs.declared.mode.Mode.{Mode}
use Rattle.vt_units.specs.declared.read.Read.{Read}
use Rattle.vt_units.specs.declared.then.Then as then
use Rattle.vt_units.specs.declared.unit.Unit as units
use Rattle.vt_units.specs.declared.unit.Unit.TheVariants.{Esc, Csi}

abbrev answer_of : RestBefore → ℕ → Read
answer_of s b = record { bad = s.bad; got = (byte_outcome s.rest b).got }

-- a byte that is admitted neither acts nor interrupts nor is DEL
pub admitted_quiet : (m : Mode) (b : ℕ) → admits b ≡ true
    → (acts b ≡ false) × (interrupts m b ≡ false) × ((b == 0x7F) ≡ false)
admitted_quiet m b is = grind (arith, nat_tests)

-- what a byte comes to
abbrev pub Gives : Mode → Rest → ℕ → then.Then → Rest → Type 0
Gives m old b got new = (answer old m b ≡ record { bad = false; got = got }) × (rest_after old m b ≡ new)

pub gives : (m : Mode) (old before : Rest) (b : ℕ) (all : ByteOutcome) → rest_before old m b ≡ unbroken_rest before → byte_outcome before b ≡ all
    → Gives m old b all.got all.rest
gives m old before b all left is = (
  ap (λ (s : RestBefore). answer_of s b) left ∙ ap (λ (t : ByteOutcome). record { bad = false; got = t.got }) is,
  ap (λ (s : RestBefore). (byte_outcome s.rest b).rest) left ∙ ap (λ (t : ByteOutcome). t.rest) is,
)

-- behind a sequence a byte that is admitted joins it
gives_inside : (m : Mode) (t : List ℕ) (b : ℕ) (r : Reading) → length t ≤ 256
    → text_reading m t ≡ unfinished sequence → admits b ≡ true → reading m (t ++ b ∷ []) ≡ r
    → Gives m (rest_of m t) b (outcome_by_reading r (rest_of m t) b).got (outcome_by_reading r (rest_of m t) b).rest
gives_inside m t b r bound is admitted next =
    let quiet = admitted_quiet m b admitted in
    let left : rest_before (rest_of m t) m b ≡ unbroken_rest (rest_of m t) =
    ap (λ (now : Reading). rest_before_by now (rest_of m t) m b) (short_reading m t bound ∙ is)
    ∙ ap unbroken_rest (cond-false _ _ _ quiet.1) in
    gives m (rest_of m t) (rest_of m t) b (outcome_by_reading r (rest_of m t) b) left
    (byte_outcome-outcome_of_text m t b bound sequence is quiet.0 quiet.2 ∙ ap (λ (now : Reading). outcome_by_reading now (rest_of m t) b) next)

come_more : (u : units.Unit) (m : Mode) (old new : Rest) (b : ℕ) (bytes : List ℕ) → Gives m old b then.Then.More new
    → ComeTo u m new bytes → ComeTo u m old (b ∷ bytes)
come_more u m old new b [] quiet comes = absurd comes
come_more u m old new b (c ∷ bytes) quiet comes =
    (quiet.0, subst (λ (r : Rest). ComeTo u m r (c ∷ bytes)) (sym quiet.1) comes)

-- ESC where no text is
come_escape : (u : units.Unit) (m : Mode) (old : Rest) (bytes : List ℕ) → old.text ≡ []
    → ComeTo u m (rest_of m (0x1B ∷ [])) bytes → ComeTo u m old (0x1B ∷ bytes)
come_escape u m old bytes nothing comes =
    let left : rest_before old m 0x1B ≡ unbroken_rest (fresh m) =
    ap (λ t. rest_before_by (reading old.mode t) old m 0x1B) nothing in
    come_more u m old (rest_of m (0x1B ∷ [])) 0x1B bytes
    (gives m old (fresh m) 0x1B (make_outcome then.Then.More (rest_of m (0x1B ∷ []))) left refl) comes

-- behind ESC [ and a body
abbrev behind_csi : List ℕ → List ℕ
behind_csi body = 0x1B ∷ 0x5B ∷ body

record IsLast (body : List ℕ) (last : ℕ) : Type 0 where
  stops : is_body last ≡ false
  first : (is_empty body && last == 0x5B) ≡ false
  ends : within 0x40 0x7E last ≡ true

module _ (m : Mode) where
  control-unit-reading : (body : List ℕ) (last : ℕ) → Each is_body body → IsLast body last
      → text_reading m (behind_csi body ++ last ∷ []) ≡ whole (control_unit body last)
  control-unit-reading body last passes is =
      control-ends m (0x1B ∷ 0x5B ∷ []) body (inl refl) passes last is.stops
      ∙ cond-false _ _ _ is.first ∙ cond-true _ _ _ is.ends

  control-text-reading : (body : List ℕ) → Each is_body body → text_reading m (behind_csi body) ≡ unfinished sequence
  control-text-reading body passes = control_whole m (0x1B ∷ 0x5B ∷ []) body (inl refl) passes 0

  come-body : (done left : List ℕ) (last : ℕ) → Each is_body done → Each is_body left
      → IsLast (done ++ left) last → length (done ++ left) < 254
      → ComeTo (control_unit (done ++ left) last) m (rest_of m (behind_csi done)) (left ++ last ∷ [])
  come-body done [] last passes others is short =
      let none : done ++ [] ≡ done = append-nil done in
      let here : IsLast done last = subst (λ (body : List ℕ). IsLast body last) none is in
      let bound : length done < 254 = subst (λ (body : List ℕ). length body < 254) none short in
      let len : length (done ++ last ∷ []) ≡ length done + 1 = length-append done (last ∷ []) in
      let admitted : admits last ≡ true = grind (arith, nat_tests, here.ends) in
      let all : reading m (behind_csi done ++ last ∷ []) ≡ whole (control_unit done last) =
      short_reading m (behind_csi done ++ last ∷ []) (omega arith) ∙ control-unit-reading done last passes here in
      subst (λ (body : List ℕ). ComeTo (control_unit body last) m (rest_of m (behind_csi done)) (last ∷ [])) (sym none)
      (gives_inside m (behind_csi done) last (whole (control_unit done last)) (omega arith)
      (control-text-reading done passes) admitted all)
  come-body done (b ∷ left) last passes (first, others) is short =
      let joined_lists : (done ++ b ∷ []) ++ left ≡ done ++ b ∷ left = append_assoc done (b ∷ []) left in
      let total : length (done ++ b ∷ left) ≡ length done + length (b ∷ left) = length-append done (b ∷ left) in
      let len : length (done ++ b ∷ []) ≡ length done + 1 = length-append done (b ∷ []) in
      let admitted : admits b ≡ true = grind (arith, nat_tests, first) in
      let more : reading m (behind_csi done ++ b ∷ []) ≡ unfinished sequence =
      short_reading m (behind_csi done ++ b ∷ []) (omega arith)
      ∙ control_body m (0x1B ∷ 0x5B ∷ []) done (inl refl) passes b first in
      let again : ComeTo (control_unit ((done ++ b ∷ []) ++ left) last) m (rest_of m (behind_csi (done ++ b ∷ []))) (left ++ last ∷ []) =
      come-body (done ++ b ∷ []) left last (each_push is_body done b passes first) others
      (subst (λ (body : List ℕ). IsLast body last) (sym joined_lists) is)
      (subst (λ (body : List ℕ). length body < 254) (sym joined_lists) short) in
      come_more (control_unit (done ++ b ∷ left) last) m (rest_of m (behind_csi done)) (rest_of m (behind_csi (done ++ b ∷ []))) b
      (left ++ last ∷ [])
      (gives_inside m (behind_csi done) b (unfinished sequence) (omega arith) (control-text-reading done passes) admitted more)
      (subst (λ (body : List ℕ). ComeTo (control_unit body last) m (rest_of m (behind_csi (done ++ b ∷ []))) (left ++ last ∷ [])) joined_lists again)

  -- a control sequence at the front of a text
  control-is : (old : Rest) → old.text ≡ [] → (body : List ℕ) (last : ℕ) (more : List ℕ) (s : Sequence)
      → Each is_body body → IsLast body last → s.unit ≡ control_unit body last → s.count ≡ length body + 3
      → length (behind_csi (body ++ last ∷ more)) ≤ 256
      → IsUnitOf m old (behind_csi (body ++ last ∷ more)) s
  control-is old nothing body last more s passes is unit count short =
      let total : length (body ++ last ∷ more) ≡ length body + length (last ∷ more) = length-append body (last ∷ more) in
      let len : length (body ++ last ∷ []) ≡ length body + 1 = length-append body (last ∷ []) in
      let apart : body ++ last ∷ more ≡ (body ++ last ∷ []) ++ more = sym (append_assoc body (last ∷ []) more) in
      let front_is : take s.count (behind_csi (body ++ last ∷ more)) ≡ behind_csi (body ++ last ∷ []) =
      ap (λ (bytes : List ℕ). take s.count (behind_csi bytes)) apart
      ∙ take_at (behind_csi (body ++ last ∷ [])) more s.count (omega arith) in
      let csi : reading m (0x1B ∷ 0x5B ∷ []) ≡ unfinished sequence = refl in
      let comes : ComeTo (control_unit body last) m old (behind_csi (body ++ last ∷ [])) =
      come_escape (control_unit body last) m old (0x5B ∷ body ++ last ∷ []) nothing
      (come_more (control_unit body last) m (rest_of m (0x1B ∷ [])) (rest_of m (behind_csi [])) 0x5B (body ++ last ∷ [])
      (gives_inside m (0x1B ∷ []) 0x5B (unfinished sequence) (omega arith) refl refl csi)
      (come-body [] body last tt passes is (omega arith))) in
      record {
        within = omega arith;
        spells =
            ap (reading m) front_is ∙ short_reading m (behind_csi (body ++ last ∷ [])) (omega arith)
            ∙ control-unit-reading body last passes is ∙ ap whole (sym unit);
        comes =
            subst (λ (bytes : List ℕ). ComeTo s.unit m old bytes) (sym front_is)
            (subst (λ (u : units.Unit). ComeTo u m old (behind_csi (body ++ last ∷ []))) (sym unit) comes);
      }

  -- an escape sequence
  escape-two : (old : Rest) → old.text ≡ [] → (b : ℕ) (more : List ℕ) → ends_escape b ≡ true → is_mid b ≡ false
      → IsUnitOf m old (0x1B ∷ b ∷ more) (record { unit = Esc 0 b; count = 2 })
  escape-two old nothing b more ends mid =
      let parts = and_parts (within 0x30 0x7E b) (not (opens_string b || b == 0x5B || b == 0x5D)) ends in
      let no_text = or_parts (opens_string b || b == 0x5B) (b == 0x5D) (not-true _ parts.1) in
      let no_csi = or_parts (opens_string b) (b == 0x5B) no_text.0 in
      let admitted : admits b ≡ true = grind (arith, nat_tests, parts.0) in
      let all : text_reading m (0x1B ∷ b ∷ []) ≡ whole (Esc 0 b) =
      escape-ends m [] tt b mid
      ∙ cond-false _ _ _ no_csi.0 ∙ cond-false _ _ _ no_csi.1 ∙ cond-false _ _ _ no_text.1 ∙ cond-true _ _ _ parts.0 in
      let read : reading m (0x1B ∷ b ∷ []) ≡ whole (Esc 0 b) = short_reading m (0x1B ∷ b ∷ []) (omega arith) ∙ all in
      record {
        within = omega arith;
        spells = read;
        comes =
            come_escape (Esc 0 b) m old (b ∷ []) nothing
            (gives_inside m (0x1B ∷ []) b (whole (Esc 0 b)) (omega arith) refl admitted read);
      }

  escape-three : (old : Rest) → old.text ≡ [] → (mid last : ℕ) (more : List ℕ) → is_mid mid ≡ true → within 0x30 0x7E last ≡ true
      → IsUnitOf m old (0x1B ∷ mid ∷ last ∷ more) (record { unit = Esc mid last; count = 3 })
  escape-three old nothing mid last more is ends =
      let first : admits mid ≡ true = grind (arith, nat_tests, is) in
      let second : admits last ≡ true = grind (arith, nat_tests, ends) in
      let stops : is_mid last ≡ false = grind (arith, nat_tests, ends) in
      let before : text_reading m (0x1B ∷ mid ∷ []) ≡ unfinished sequence = escape_mid m [] tt mid is in
      let begun : reading m (0x1B ∷ mid ∷ []) ≡ unfinished sequence =
      short_reading m (0x1B ∷ mid ∷ []) (omega arith) ∙ before in
      let all : text_reading m (0x1B ∷ mid ∷ last ∷ []) ≡ whole (Esc mid last) =
      escape-ends m (mid ∷ []) (is, tt) last stops ∙ cond-true _ _ _ ends in
      let read : reading m (0x1B ∷ mid ∷ last ∷ []) ≡ whole (Esc mid last) =
      short_reading m (0x1B ∷ mid ∷ last ∷ []) (omega arith) ∙ all in
      record {
        within = omega arith;
        spells = read;
        comes =
            come_escape (Esc mid last) m old (mid ∷ last ∷ []) nothing
            (come_more (Esc mid last) m (rest_of m (0x1B ∷ [])) (rest_of m (0x1B ∷ mid ∷ [])) mid (last ∷ [])
            (gives_inside m (0x1B ∷ []) mid (unfinished sequence) (omega arith) refl first begun)
            (gives_inside m (0x1B ∷ mid ∷ []) last (whole (Esc mid last)) (omega arith) before second read));
      }

-- parameters and a last byte, as they stand in a text
record HasNumbers (private : Bool) (before : ℕ) (text : List ℕ) (s : Sequence) : Type 0 where
  numbers : List ℕ
  last : ℕ
  more : List ℕ
  is : text ≡ numbers ++ last ∷ more
  passes : Each is_parameter numbers
  ends : ends_control last ≡ true
  found : s ≡ record { unit = Csi private (params_of numbers) last; count = before + length numbers + 1 }

numbers_found : (private : Bool) (before : ℕ) (text : List ℕ) (s : Sequence)
    → numbers_ahead private before text ≡ Some s → HasNumbers private before text s
numbers_found private before text s found = by (after_prefix is_parameter text) (longest_prefix-after_prefix is_parameter text) found
  where
    numbers : List ℕ
    numbers = longest_prefix is_parameter text

    by : (after : List ℕ) → text ≡ longest_prefix is_parameter text ++ after → numbers_end private before (longest_prefix is_parameter text) after ≡ Some s
        → HasNumbers private before text s
    by [] is same = absurd (let e : ⊥ = cc in e)
    by (last ∷ more) is same = ⊎_elim
        (λ (ends : ends_control last ≡ true). record {
          numbers = numbers;
          last = last;
          more = more;
          is = is;
          passes = longest_prefix_each is_parameter text;
          ends = ends;
          found = let e : Some s ≡ Some (record { unit = Csi private (params_of numbers) last; count = before + length numbers + 1 }) =
              sym same ∙ cond-true _ _ _ ends in cc;
        })
        (λ (other : ends_control last ≡ false).
        absurd (let e : None ≡ Some s = sym (cond-false _ _ _ other) ∙ same in let f : ⊥ = cc in f))
        (cases_Bool (ends_control last))

parameter_body : (b : ℕ) → is_parameter b ≡ true → is_body b ≡ true
parameter_body b is = grind (arith, nat_tests, is)

parameter_unmarked : (b : ℕ) → is_parameter b ≡ true → (b == 0x3F) ≡ false
parameter_unmarked b is = grind (arith, nat_tests, is)

-- the unit of parameters alone, and of parameters behind a question mark
numbers_unit : (private : Bool) (numbers : List ℕ) (last : ℕ) → Each is_parameter numbers
    → numbered_unit private numbers last ≡ Csi private (params_of numbers) last
numbers_unit private numbers last passes = cond-true _ _ _ (each_all is_parameter numbers passes)

plain_unit : (numbers : List ℕ) (last : ℕ) → Each is_parameter numbers
    → control_unit numbers last ≡ Csi false (params_of numbers) last
plain_unit [] last passes = numbers_unit false [] last passes
plain_unit (b ∷ numbers) last (first, others) =
    cond-false _ _ _ (parameter_unmarked b first) ∙ numbers_unit false (b ∷ numbers) last (first, others)

last_byte : (body : List ℕ) (last : ℕ) → ends_control last ≡ true → IsLast body last
last_byte body last is =
    let parts = and_parts (within 0x40 0x7E last) (not (last == 0x5B)) is in
    record {
      stops = grind (arith, nat_tests, parts.0);
      first = and_right (is_empty body) _ (not-true _ parts.1);
      ends = parts.0;
    }

module _ (m : Mode) (old : Rest) (nothing : old.text ≡ []) where
  marked-is : (text : List ℕ) (s : Sequence) → length (behind_csi (0x3F ∷ text)) ≤ 256
      → numbers_ahead true 3 text ≡ Some s → IsUnitOf m old (behind_csi (0x3F ∷ text)) s
  marked-is text s short found =
      let has : HasNumbers true 3 text s = numbers_found true 3 text s found in
      let all : behind_csi (0x3F ∷ text) ≡ behind_csi (0x3F ∷ has.numbers ++ has.last ∷ has.more) =
      ap (λ (bytes : List ℕ). behind_csi (0x3F ∷ bytes)) has.is in
      let body : Each is_body (0x3F ∷ has.numbers) = (refl, each_map is_parameter is_body parameter_body has.numbers has.passes) in
      subst (λ (bytes : List ℕ). IsUnitOf m old bytes s) (sym all)
      (control-is m old nothing (0x3F ∷ has.numbers) has.last has.more s body (last_byte (0x3F ∷ has.numbers) has.last has.ends)
      (ap (λ (t : Sequence). t.unit) has.found ∙ sym (numbers_unit true has.numbers has.last has.passes))
      (ap (λ (t : Sequence). t.count) has.found ∙ omega arith)
      (subst (λ (bytes : List ℕ). length bytes ≤ 256) all short))

  plain-is : (text : List ℕ) (s : Sequence) → length (behind_csi text) ≤ 256
      → numbers_ahead false 2 text ≡ Some s → IsUnitOf m old (behind_csi text) s
  plain-is text s short found =
      let has : HasNumbers false 2 text s = numbers_found false 2 text s found in
      let all : behind_csi text ≡ behind_csi (has.numbers ++ has.last ∷ has.more) = ap behind_csi has.is in
      subst (λ (bytes : List ℕ). IsUnitOf m old bytes s) (sym all)
      (control-is m old nothing has.numbers has.last has.more s (each_map is_parameter is_body parameter_body has.numbers has.passes)
      (last_byte has.numbers has.last has.ends)
      (ap (λ (t : Sequence). t.unit) has.found ∙ sym (plain_unit has.numbers has.last has.passes))
      (ap (λ (t : Sequence). t.count) has.found ∙ omega arith)
      (subst (λ (bytes : List ℕ). length bytes ≤ 256) all short))

  control-found : (text : List ℕ) (s : Sequence) → length (behind_csi text) ≤ 256
      → control_ahead text ≡ Some s → IsUnitOf m old (behind_csi text) s
  control-found [] s short found = absurd (none-some s found)
  control-found (b ∷ text) s short found = ⊎_elim
      (λ (mark : (b == 0x3F) ≡ true).
      let sign : b ≡ 0x3F = eqb-true b 0x3F mark in
      subst (λ (x : ℕ). IsUnitOf m old (behind_csi (x ∷ text)) s) (sym sign)
      (marked-is text s (subst (λ (x : ℕ). length (behind_csi (x ∷ text)) ≤ 256) sign short) (sym (cond-true _ _ _ mark) ∙ found)))
      (λ (other : (b == 0x3F) ≡ false). plain-is (b ∷ text) s short (sym (cond-false _ _ _ other) ∙ found))
      (cases_Bool (b == 0x3F))

  mid-found : (mid : ℕ) (text : List ℕ) (s : Sequence) → is_mid mid ≡ true → mid_ahead mid text ≡ Some s
      → IsUnitOf m old (0x1B ∷ mid ∷ text) s
  mid-found mid [] s is found = absurd (none-some s found)
  mid-found mid (last ∷ text) s is found = ⊎_elim
      (λ (ends : within 0x30 0x7E last ≡ true).
      let same : Some (record { unit = Esc mid last; count = 3 }) ≡ Some s = sym (cond-true _ _ _ ends) ∙ found in
      let one : record { unit = Esc mid last; count = 3 } ≡ s = cc in
      subst (IsUnitOf m old (0x1B ∷ mid ∷ last ∷ text)) one (escape-three m old nothing mid last text is ends))
      (λ (other : within 0x30 0x7E last ≡ false). absurd (none-some s (sym (cond-false _ _ _ other) ∙ found)))
      (cases_Bool (within 0x30 0x7E last))

  plain-found : (b : ℕ) (text : List ℕ) (s : Sequence) → is_mid b ≡ false
      → cond (ends_escape b) (Some (record { unit = Esc 0 b; count = 2 })) None ≡ Some s
      → IsUnitOf m old (0x1B ∷ b ∷ text) s
  plain-found b text s mid found = ⊎_elim
      (λ (ends : ends_escape b ≡ true).
      let same : Some (record { unit = Esc 0 b; count = 2 }) ≡ Some s = sym (cond-true _ _ _ ends) ∙ found in
      let one : record { unit = Esc 0 b; count = 2 } ≡ s = cc in
      subst (IsUnitOf m old (0x1B ∷ b ∷ text)) one (escape-two m old nothing b text ends mid))
      (λ (other : ends_escape b ≡ false). absurd (none-some s (sym (cond-false _ _ _ other) ∙ found)))
      (cases_Bool (ends_escape b))

  escape-found : (b : ℕ) (text : List ℕ) (s : Sequence) → length (0x1B ∷ b ∷ text) ≤ 256
      → escape_ahead b text ≡ Some s → IsUnitOf m old (0x1B ∷ b ∷ text) s
  escape-found b text s short found = ⊎_elim
      (λ (csi : (b == 0x5B) ≡ true).
      let sign : b ≡ 0x5B = eqb-true b 0x5B csi in
      subst (λ (x : ℕ). IsUnitOf m old (0x1B ∷ x ∷ text) s) (sym sign)
      (control-found text s (subst (λ (x : ℕ). length (0x1B ∷ x ∷ text) ≤ 256) sign short) (sym (cond-true _ _ _ csi) ∙ found)))
      (λ (other : (b == 0x5B) ≡ false). ⊎_elim
      (λ (mid : is_mid b ≡ true). mid-found b text s mid (sym (cond-false _ _ _ other ∙ cond-true _ _ _ mid) ∙ found))
      (λ (plain : is_mid b ≡ false). plain-found b text s plain (sym (cond-false _ _ _ other ∙ cond-false _ _ _ plain) ∙ found))
      (cases_Bool (is_mid b)))
      (cases_Bool (b == 0x5B))

  opened-found : (text : List ℕ) (s : Sequence) → length text ≤ 256 → opened_ahead text ≡ Some s → IsUnitOf m old text s
  opened-found [] s short found = absurd (none-some s found)
  opened-found (esc ∷ []) s short found = absurd (none-some s found)
  opened-found (esc ∷ b ∷ text) s short found = ⊎_elim
      (λ (is : (esc == 0x1B) ≡ true).
      let sign : esc ≡ 0x1B = eqb-true esc 0x1B is in
      subst (λ (x : ℕ). IsUnitOf m old (x ∷ b ∷ text) s) (sym sign)
      (escape-found b text s (subst (λ (x : ℕ). length (x ∷ b ∷ text) ≤ 256) sign short) (sym (cond-true _ _ _ is) ∙ found)))
      (λ (other : (esc == 0x1B) ≡ false). absurd (none-some s (sym (cond-false _ _ _ other) ∙ found)))
      (cases_Bool (esc == 0x1B))

  -- what is found in the first 256 bytes of a text is found in the text
  sequence-found : (text : List ℕ) (s : Sequence) → sequence_ahead text ≡ Some s → IsUnitOf m old text s
  sequence-found text s found =
      let len : length (take 256 text) ≡ min 256 (length text) = length-take 256 text in
      let here : IsUnitOf m old (take 256 text) s = opened-found (take 256 text) s (omega arith) found in
      let same : take s.count (take 256 text) ≡ take s.count text = take-take s.count 256 text (omega (arith, here.within)) in
      record {
        within = omega (arith, here.within);
        spells = ap (reading m) (sym same) ∙ here.spells;
        comes = subst (λ (bytes : List ℕ). ComeTo s.unit m old bytes) same here.comes;
      }

pub sequences_are_units : SequencesAreUnits
sequences_are_units old m text s found = ⊎_elim
    (λ (empty : is_empty old.text ≡ true).
    sequence-found m old (empty_is old.text empty) text s (sym (cond-true _ _ _ empty) ∙ found))
    (λ (other : is_empty old.text ≡ false).
    absurd (let e : None ≡ Some s = sym (cond-false _ _ _ other) ∙ found in let f : ⊥ = cc in f))
    (cases_Bool (is_empty old.text))

-- a sequence that is read at once stands in the text
pub csi_within : (text : List ℕ) (brief : ShortCsi) → sequence_ahead text ≡ Some (csi_in brief) → brief.count ≤ length text
csi_within text brief found = (sequences_are_units (fresh start_mode) start_mode text (csi_in brief) found).within

pub sgr_within : (text : List ℕ) (longer : LongSgr) → sequence_ahead text ≡ Some (sgr_in longer) → longer.count ≤ length text
sgr_within text longer found = (sequences_are_units (fresh start_mode) start_mode text (sgr_in longer) found).within
