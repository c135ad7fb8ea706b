-- Every text is pieces and one last rest.
use Rattle.std.proofs.Common.{◌≡◌, ◌⊎◌, ℕ, ◌==◌, true, false, cond, List, [], ◌∷◌, ◌++◌, refl, sym, ap, ◌∙◌, subst, ⊎_elim, inl, inr}
use Rattle.std.proofs.lemmas.Bool.{cases_Bool, cond-false, cond-true, false≢true}
use Rattle.std.proofs.lemmas.List.{append-nil, append_assoc}
use Rattle.vt_chars.specs.Utf8.{UnfinishedBegins}
use Rattle.vt_units.proofs.Bases.{base, base_some, unfinished_some}
use Rattle.vt_units.proofs.for_laws.Broken.{breaks_command, breaks_sequence, ends_off, not-none, one_some, some_unfinished, string_some, text_more}
use Rattle.vt_units.proofs.Bytewise.{Becomes, St, base_reads, rest_with_byte_st}
use Rattle.vt_units.proofs.Follows.{After, string_next}
use Rattle.vt_units.proofs.Openers.{in_string}
use Rattle.vt_units.proofs.Opens.{IsSome}
use Rattle.vt_units.proofs.Piecewise.{walk}
use Rattle.vt_units.proofs.Runs.{any_cut, characters_end, sequences_end, strings_end}
use Rattle.vt_units.proofs.Steps.{follows_reading}
use Rattle.vt_units.proofs.Walks.{IsStringRest}
use Rattle.vt_units.specs.Answer.{answer, rest_after}
use Rattle.vt_units.specs.Bytes.{interrupts}
use Rattle.vt_units.specs.Cutting.{ComeInOrder, IsCut, IsEnded, IsEndedBefore, IsLast, IsPiece, IsRest, PieceComesTo, all_bytes, rest_before_piece}
use Rattle.vt_units.specs.Laws.{AreAlike}
use Rattle.vt_units.specs.Pieces.{after_controls, controls_of, is_left_out, rest_with, text_of}
use Rattle.vt_units.specs.Reading.{Kind, Reading, character, command, dropped, none, reading, sequence, string, string_end, unfinished, whole}
use Rattle.vt_units.specs.Rest.{Rest, fresh}
use Rattle.vt_units.specs.Run.{Effects, Reached, effects_of, make_reached, run, step}
use Rattle.vt_units.specs.ParserState.{rest_of}
use Rattle.vt_units.specs.Units.{IsUnfinished}
use Rattle.vt_units.specs.declared.mode.Mode.{Mode}
use Rattle.vt_units.specs.declared.unit.Unit as units
use Rattle.vt_units.specs.declared.unit.Unit.TheVariants.{Ignored}

module _ {S : Type 0} (e : Effects S) (law : UnfinishedBegins)
    (keeps : (s : S) → e.mode_of (e.on_unit (units.Unit.Char 0xFFFD) s) ≡ e.mode_of s) where
  -- the mode at the first byte of a piece, and what its first bytes come to
  abbrev mode_at : Reached S → Mode
  mode_at at = (rest_before_piece e at).mode

  abbrev text_at : Reached S → List ℕ → List ℕ
  text_at at front = text_of (rest_before_piece e at).mode (rest_before_piece e at).text front

  abbrev state_at : Reached S → List ℕ → S
  state_at at front = after_controls e (controls_of (rest_before_piece e at).mode (rest_before_piece e at).text front) at.state

  abbrev rest_at : Reached S → List ℕ → Rest
  rest_at at front = rest_with e at.state (rest_before_piece e at) front

  -- the rest before a piece stands for its text
  abbrev Starts : Reached S → Type 0
  Starts at = St e at.state at.rest (rest_before_piece e at).mode (rest_before_piece e at).text
      × (base at.rest (rest_before_piece e at).mode (rest_before_piece e at).text ≡ rest_before_piece e at)

  starts : (at : Reached S) → IsRest at.rest → Starts at
  starts at ok = by at.state at.rest.mode at.rest.text ok
    where
      by : (s : S) (n : Mode) (t : List ℕ) → (t ≡ []) ⊎ IsUnfinished n t → Starts (make_reached s (rest_of n t))
      by s n [] one = (inl (refl, refl, refl), refl)
      by s n (x ∷ t) (inl nothing) = absurd (let no : ⊥ = cc in no)
      by s n (x ∷ t) (inr is) = (rest_with_byte_st e s n (x ∷ t) is.0 is.1, refl)

  walked : (at : Reached S) → IsRest at.rest → (front : List ℕ) → IsSome (reading (mode_at at) (text_at at front))
      → Becomes e (reading (mode_at at) (text_at at front)) (run e front at) (state_at at front) (mode_at at) (text_at at front) (rest_at at front)
  walked at ok front some =
      let start : Starts at = starts at ok in
      subst (λ (left : Rest). Becomes e (reading (mode_at at) (text_at at front)) (run e front at) (state_at at front) (mode_at at)
      (text_at at front) (rest_with e at.state left front)) start.1
      (walk e law front (mode_at at) at.state at.rest (rest_before_piece e at).text start.0 some)

  -- the first bytes of a piece aren't the whole of it
  abbrev Unread : Reached S → List ℕ → Type 0
  Unread at front = (((rest_before_piece e at).text ≡ []) × (front ≡ [])) ⊎ IsUnfinished (mode_at at) (text_at at front)

  -- the bytes behind them are cut
  abbrev CutFrom : Reached S → List ℕ → List ℕ → Type 0
  CutFrom at front bytes = IsCut e at (front ++ bytes) (run e (front ++ bytes) at)

  -- a piece that ends with these bytes
  whole-piece : (at : Reached S) (front : List ℕ) (next : Reached S) (bytes : List ℕ)
      → ((more : List ℕ) → IsPiece e at front more next) → run e front at ≡ next → CutFrom next [] bytes
      → CutFrom at front bytes
  whole-piece at front next bytes piece there c =
      let runs : run e (front ++ bytes) at ≡ run e bytes next = any_cut e front bytes at ∙ ap (run e bytes) there in
      record {
        pieces = front ∷ c.pieces;
        last = c.last;
        all = ap (λ xs. front ++ xs) c.all;
        come = (
          next,
          piece (all_bytes c.pieces c.last),
          subst (λ x. ComeInOrder e next c.pieces c.last x) (sym runs) c.come,
        );
      }

  -- the last bytes
  last-rest : (at : Reached S) → IsRest at.rest → (front : List ℕ) → Unread at front → CutFrom at front []
  last-rest at ok front unread =
      let same : front ++ [] ≡ front = append-nil front in
      record {
        pieces = [];
        last = front;
        all = sym same;
        come = subst (λ xs. IsLast e at front (run e xs at)) (sym same) (by unread);
      }
    where
      empty : (s : S) (n : Mode) (t : List ℕ) → (rest_before_piece e (make_reached s (rest_of n t))).text ≡ [] → t ≡ []
      empty s n [] is = refl
      empty s n (x ∷ t) is = is

      by : Unread at front → IsLast e at front (run e front at)
      by (inl (nothing, none_yet)) =
          inl (none_yet, empty at.state at.rest.mode at.rest.text nothing, ap (λ xs. run e xs at) none_yet)
      by (inr (k, is)) =
          let all = subst (λ now. Becomes e now (run e front at) (state_at at front) (mode_at at) (text_at at front) (rest_at at front)) is
          (walked at ok front (some_unfinished (reading (mode_at at) (text_at at front)) k is)) in
          inr ((k, is), all.0)

  plain-left : (s : S) (left : Rest) (m : Mode) (w : List ℕ) (k : Kind) → St e s left m w → reading m w ≡ unfinished k
      → in_string (unfinished k) ≡ false → left ≡ rest_of m w
  plain-left s left m w k st is out = ⊎_elim
      (λ (empty : (w ≡ []) × (left.text ≡ []) × (m ≡ e.mode_of s)). absurd (unfinished_some m w k is empty.0))
      (λ others. ⊎_elim
      (λ (plain : (j : Kind) × (reading m w ≡ unfinished j) × (in_string (unfinished j) ≡ false) × (left ≡ rest_of m w)). plain.3)
      (λ (strings : (j : Kind) × (reading m w ≡ unfinished j) × (in_string (unfinished j) ≡ true) × IsStringRest left w).
      absurd (false≢true (sym out ∙ ap in_string (sym is ∙ strings.1) ∙ strings.2)))
      others)
      st

  reads-left : (s : S) (left : Rest) (m : Mode) (w : List ℕ) (k : Kind) → St e s left m w → reading m w ≡ unfinished k
      → reading left.mode left.text ≡ unfinished k
  reads-left s left m w k st is =
      subst (λ (r : Rest). reading r.mode r.text ≡ reading m w) (base_some left m w (unfinished_some m w k is)) (base_reads e s left m w st)
      ∙ is

  -- the first bytes of a piece, whose text is unfinished
  module _ (at : Reached S) (ok : IsRest at.rest) (front : List ℕ) (k : Kind)
      (was : reading (mode_at at) (text_at at front) ≡ unfinished k) where
    read : Becomes e (unfinished k) (run e front at) (state_at at front) (mode_at at) (text_at at front) (rest_at at front)
    read = subst (λ now. Becomes e now (run e front at) (state_at at front) (mode_at at) (text_at at front) (rest_at at front)) was
        (walked at ok front (some_unfinished (reading (mode_at at) (text_at at front)) k was))

    left-reads : reading (rest_at at front).mode (rest_at at front).text ≡ unfinished k
    left-reads = reads-left (state_at at front) (rest_at at front) (mode_at at) (text_at at front) k read.1 was

    left-is : in_string (unfinished k) ≡ false → rest_at at front ≡ rest_of (mode_at at) (text_at at front)
    left-is out = plain-left (state_at at front) (rest_at at front) (mode_at at) (text_at at front) k read.1 was out

  alike-step : (b : ℕ) (s : S) (left other : Rest) → AreAlike left other (e.mode_of s) b
      → step e b (make_reached s left) ≡ step e b (make_reached s other)
  alike-step b s left other alike = λ i. make_reached (effects_of e (alike.0 i) s) (alike.1 i)

  -- a byte that breaks a sequence off acts as if no text were pending
  broken-step : (at : Reached S) → IsRest at.rest → (front : List ℕ) (k : Kind) (b : ℕ)
      → reading (mode_at at) (text_at at front) ≡ unfinished k → in_string (unfinished k) ≡ false
      → (unfinished k ≡ unfinished sequence) ⊎ (unfinished k ≡ unfinished command) → interrupts (mode_at at) b ≡ true
      → step e b (run e front at) ≡ step e b (make_reached (state_at at front) (fresh (mode_at at)))
  broken-step at ok front k b was out sort breaks =
      let s : S = state_at at front in
      let left : Rest = rest_at at front in
      let breaks_left : interrupts left.mode b ≡ true =
      ap (λ (r : Rest). interrupts r.mode b) (left-is at ok front k was out) ∙ breaks in
      let alike : AreAlike left (fresh (e.mode_of s)) (e.mode_of s) b =
      sequences_end left (e.mode_of s) b
      (⊎_elim (λ (one : unfinished k ≡ unfinished sequence). inl (left-reads at ok front k was ∙ one))
      (λ (one : unfinished k ≡ unfinished command). inr (left-reads at ok front k was ∙ one)) sort)
      breaks_left in
      ap (step e b) (read at ok front k was).0 ∙ alike-step b s left (fresh (e.mode_of s)) alike

  -- the byte that ends an unfinished text acts as it does from the result of that end
  abbrev EndsAs : Reached S → List ℕ → ℕ → Reached S → Type 0
  EndsAs at front b next = (step e b (run e front at) ≡ step e b next) × IsRest next.rest

  ended-step : (at : Reached S) → IsRest at.rest → (front : List ℕ) (k : Kind) (b : ℕ) (next : Reached S)
      → reading (mode_at at) (text_at at front) ≡ unfinished k
      → IsEnded e k (mode_at at) (text_at at front) b (state_at at front) (rest_at at front) next
      → EndsAs at front b next
  ended-step at ok front character b next was (out, is) =
      let m : Mode = mode_at at in
      let w : List ℕ = text_at at front in
      let s : S = state_at at front in
      let n : Mode = e.mode_of s in
      let t : S = e.on_unit (units.Unit.Char 0xFFFD) s in
      let ends = characters_end (rest_of m w) n b was out in
      let first : step e b (make_reached s (rest_of m w)) ≡ make_reached (effects_of e (answer (fresh m) n b) t) (rest_after (fresh m) n b) =
      λ i. make_reached (effects_of e (ends.0 i) s) (ends.1 i) in
      let second : step e b (make_reached t (fresh m)) ≡ make_reached (effects_of e (answer (fresh m) n b) t) (rest_after (fresh m) n b) =
      ap (λ (x : Mode). make_reached (effects_of e (answer (fresh m) x b) t) (rest_after (fresh m) x b)) (keeps s) in
      subst (EndsAs at front b) (sym is) (
        ap (step e b) ((read at ok front character was).0 ∙ ap (make_reached s) (left-is at ok front character was refl)) ∙ first ∙ sym second,
        inl refl,
      )
  ended-step at ok front sequence b next was (breaks, is) =
      subst (EndsAs at front b) (sym is) (broken-step at ok front sequence b was refl (inl refl) breaks, inl refl)
  ended-step at ok front command b next was (breaks, is) =
      subst (EndsAs at front b) (sym is) (broken-step at ok front command b was refl (inr refl) breaks, inl refl)
  ended-step at ok front string b next was never = absurd never
  ended-step at ok front string_end b next was (other, is) =
      let s : S = state_at at front in
      let left : Rest = rest_at at front in
      let opened : Rest = rest_of left.mode (0x1B ∷ []) in
      let alike : AreAlike left opened (e.mode_of s) b =
      strings_end left (e.mode_of s) b (left-reads at ok front string_end was) other in
      subst (EndsAs at front b) (sym is)
      (ap (step e b) (read at ok front string_end was).0 ∙ alike-step b s left opened alike, inr (sequence, refl))

  -- so do the bytes behind it
  ended-run : (at : Reached S) → IsRest at.rest → (front : List ℕ) (k : Kind) (bytes : List ℕ) (next : Reached S)
      → reading (mode_at at) (text_at at front) ≡ unfinished k
      → IsEndedBefore e k (mode_at at) (text_at at front) bytes (state_at at front) (rest_at at front) next
      → (run e bytes (run e front at) ≡ run e bytes next) × IsRest next.rest
  ended-run at ok front k [] next was never = absurd never
  ended-run at ok front k (b ∷ bytes) next was end =
      let p : EndsAs at front b next = ended-step at ok front k b next was end in
      (ap (run e bytes) p.0, p.1)

  -- the result of a piece, with the bytes behind it
  piece-runs : (at : Reached S) → IsRest at.rest → (piece bytes : List ℕ) (next : Reached S)
      → IsPiece e at piece bytes next → (run e bytes (run e piece at) ≡ run e bytes next) × IsRest next.rest
  piece-runs at ok piece bytes next is = by (reading (mode_at at) (text_at at piece)) refl is
    where
      there : (now : Reading) → reading (mode_at at) (text_at at piece) ≡ now → IsSome now
          → Becomes e now (run e piece at) (state_at at piece) (mode_at at) (text_at at piece) (rest_at at piece)
      there now was some =
          subst (λ x. Becomes e x (run e piece at) (state_at at piece) (mode_at at) (text_at at piece) (rest_at at piece)) was
          (walked at ok piece (subst IsSome (sym was) some))

      by : (now : Reading) → reading (mode_at at) (text_at at piece) ≡ now
          → PieceComesTo e now (mode_at at) (text_at at piece) bytes (state_at at piece) (rest_at at piece) next
          → (run e bytes (run e piece at) ≡ run e bytes next) × IsRest next.rest
      by (whole u) was comes =
          (ap (run e bytes) (there (whole u) was tt ∙ sym comes), subst (λ (x : Reached S). IsRest x.rest) (sym comes) (inl refl))
      by dropped was comes =
          (ap (run e bytes) (there dropped was tt ∙ sym comes), subst (λ (x : Reached S). IsRest x.rest) (sym comes) (inl refl))
      by (unfinished k) was comes = ended-run at ok piece k bytes next was comes
      by none was comes = absurd comes

  cuts-run : (pieces : List (List ℕ)) (last : List ℕ) (at after : Reached S) → IsRest at.rest
      → ComeInOrder e at pieces last after → after ≡ run e (all_bytes pieces last) at
  cuts-run [] last at after ok (inl (none_yet, nothing, is)) = is ∙ ap (λ xs. run e xs at) (sym none_yet)
  cuts-run [] last at after ok (inr ((k, was), is)) = is ∙ sym (read at ok last k was).0
  cuts-run (piece ∷ pieces) last at after ok (next, one, more) =
      let p = piece-runs at ok piece (all_bytes pieces last) next one in
      cuts-run pieces last next after p.1 more ∙ sym p.0 ∙ sym (any_cut e piece (all_bytes pieces last) at)

  -- the result of any pieces of a text, and of its last rest, is its run
  pub cut_runs : (at : Reached S) (bytes : List ℕ) (after : Reached S) → IsRest at.rest → IsCut e at bytes after
      → after ≡ run e bytes at
  cut_runs at bytes after ok c = cuts-run c.pieces c.last at after ok c.come ∙ ap (λ xs. run e xs at) c.all

  -- one byte more, where the bytes behind it are cut
  module _ (b : ℕ) (bytes : List ℕ)
      (again : (at : Reached S) → IsRest at.rest → (front : List ℕ) → Unread at front → CutFrom at front bytes) where
    longer : (at : Reached S) (front : List ℕ) → CutFrom at (front ++ b ∷ []) bytes → CutFrom at front (b ∷ bytes)
    longer at front c = subst (λ xs. IsCut e at xs (run e xs at)) (append_assoc front (b ∷ []) bytes) c

    advance : (at : Reached S) → IsRest at.rest → (front : List ℕ) → IsSome (reading (mode_at at) (text_at at (front ++ b ∷ [])))
        → CutFrom at front (b ∷ bytes)
    advance at ok front some =
        longer at front (by (reading (mode_at at) (text_at at (front ++ b ∷ []))) refl (walked at ok (front ++ b ∷ []) some))
      where
        comes : (now : Reading) (next : Reached S) → reading (mode_at at) (text_at at (front ++ b ∷ [])) ≡ now
            → ((more : List ℕ) → PieceComesTo e now (mode_at at) (text_at at (front ++ b ∷ [])) more
            (state_at at (front ++ b ∷ [])) (rest_at at (front ++ b ∷ [])) next)
            → (more : List ℕ) → IsPiece e at (front ++ b ∷ []) more next
        comes now next is one more =
            subst (λ x. PieceComesTo e x (mode_at at) (text_at at (front ++ b ∷ [])) more
            (state_at at (front ++ b ∷ [])) (rest_at at (front ++ b ∷ [])) next) (sym is) (one more)

        by : (now : Reading) → reading (mode_at at) (text_at at (front ++ b ∷ [])) ≡ now
            → Becomes e now (run e (front ++ b ∷ []) at) (state_at at (front ++ b ∷ [])) (mode_at at) (text_at at (front ++ b ∷ [])) (rest_at at (front ++ b ∷ []))
            → CutFrom at (front ++ b ∷ []) bytes
        by (unfinished k) is becomes = again at ok (front ++ b ∷ []) (inr (k, is))
        by (whole u) is becomes =
            let next : Reached S = make_reached (e.on_unit u (state_at at (front ++ b ∷ []))) (fresh (rest_at at (front ++ b ∷ [])).mode) in
            whole-piece at (front ++ b ∷ []) next bytes (comes (whole u) next is (λ more. refl)) becomes (again next (inl refl) [] (inl (refl, refl)))
        by dropped is becomes =
            let next : Reached S = make_reached (state_at at (front ++ b ∷ [])) (fresh (rest_at at (front ++ b ∷ [])).mode) in
            whole-piece at (front ++ b ∷ []) next bytes (comes dropped next is (λ more. refl)) becomes (again next (inl refl) [] (inl (refl, refl)))
        by none is becomes = absurd becomes

    fresh-cut : (s : S) (n : Mode) → CutFrom (make_reached s (fresh n)) [] (b ∷ bytes)
    fresh-cut s n = advance (make_reached s (fresh n)) (inl refl) [] (one_some (e.mode_of s) b)

    -- a piece that the byte ends
    ended : (at : Reached S) → IsRest at.rest → (front : List ℕ) (k : Kind) (next : Reached S)
        → reading (mode_at at) (text_at at front) ≡ unfinished k
        → IsEnded e k (mode_at at) (text_at at front) b (state_at at front) (rest_at at front) next
        → CutFrom next [] (b ∷ bytes) → CutFrom at front (b ∷ bytes)
    ended at ok front k next is end c =
        let runs : run e (front ++ b ∷ bytes) at ≡ run e (b ∷ bytes) next =
        any_cut e front (b ∷ bytes) at ∙ ap (run e bytes) (ended-step at ok front k b next is end).0 in
        record {
          pieces = front ∷ c.pieces;
          last = c.last;
          all = ap (λ xs. front ++ xs) c.all;
          come = (
            next,
            subst (λ x. PieceComesTo e x (mode_at at) (text_at at front) (all_bytes c.pieces c.last) (state_at at front) (rest_at at front) next)
                (sym is)
                (subst (λ xs. IsEndedBefore e k (mode_at at) (text_at at front) xs (state_at at front) (rest_at at front) next) (sym c.all) end),
            subst (λ x. ComeInOrder e next c.pieces c.last x) (sym runs) c.come,
          );
        }

    broken-off : (at : Reached S) → IsRest at.rest → (front : List ℕ) (k : Kind) → reading (mode_at at) (text_at at front) ≡ unfinished k
        → IsEnded e k (mode_at at) (text_at at front) b (state_at at front) (rest_at at front) (make_reached (state_at at front) (fresh (mode_at at)))
        → CutFrom at front (b ∷ bytes)
    broken-off at ok front k was end =
        ended at ok front k (make_reached (state_at at front) (fresh (mode_at at))) was end (fresh-cut (state_at at front) (mode_at at))

    malformed : (at : Reached S) → IsRest at.rest → (front : List ℕ)
        → reading (mode_at at) (text_at at front) ≡ unfinished character
        → reading (mode_at at) (text_at at front ++ b ∷ []) ≡ none → CutFrom at front (b ∷ bytes)
    malformed at ok front was out =
        let t : S = e.on_unit (units.Unit.Char 0xFFFD) (state_at at front) in
        ended at ok front character (make_reached t (fresh (mode_at at))) was (out, refl) (fresh-cut t (mode_at at))

    -- a byte that is no part of a text that isn't finished
    module _ (at : Reached S) (ok : IsRest at.rest) (front : List ℕ)
        (out : reading (mode_at at) (text_at at (front ++ b ∷ [])) ≡ none) where
      part : (k : Kind) → reading (mode_at at) (text_at at front) ≡ unfinished k → is_left_out (unfinished k) b ≡ false
      part k was = ⊎_elim
          (λ (yes : is_left_out (unfinished k) b ≡ true).
          let same : text_at at (front ++ b ∷ []) ≡ text_at at front =
          text_more (mode_at at) (rest_before_piece e at).text front b ∙ cond-true _ _ _ (ap (λ x. is_left_out x b) was ∙ yes) in
          absurd (not-none (unfinished k) tt (sym was ∙ ap (reading (mode_at at)) (sym same) ∙ out)))
          (λ (no_part : is_left_out (unfinished k) b ≡ false). no_part)
          (cases_Bool (is_left_out (unfinished k) b))

      out-now : (k : Kind) → reading (mode_at at) (text_at at front) ≡ unfinished k
          → reading (mode_at at) (text_at at front ++ b ∷ []) ≡ none
      out-now k was =
          ap (reading (mode_at at)) (sym (text_more (mode_at at) (rest_before_piece e at).text front b
          ∙ cond-false _ _ _ (ap (λ x. is_left_out x b) was ∙ part k was)))
          ∙ out

      after : (k : Kind) → reading (mode_at at) (text_at at front) ≡ unfinished k → After (mode_at at) k b none
      after k was = subst (After (mode_at at) k b) (out-now k was) (follows_reading (mode_at at) b (text_at at front) k was)

      cut-sequence : reading (mode_at at) (text_at at front) ≡ unfinished sequence → CutFrom at front (b ∷ bytes)
      cut-sequence was =
          broken-off at ok front sequence was
          (breaks_sequence (mode_at at) b none (part sequence was) (after sequence was) refl, refl)

    -- behind the ESC that ended a string
    escape-cut : (s : S) (n : Mode) → CutFrom (make_reached s (rest_of n (0x1B ∷ []))) [] (b ∷ bytes)
    escape-cut s n = by (reading n (text_of n (0x1B ∷ []) (b ∷ []))) refl
      where
        at : Reached S
        at = make_reached s (rest_of n (0x1B ∷ []))

        by : (now : Reading) → reading n (text_of n (0x1B ∷ []) (b ∷ [])) ≡ now → CutFrom (make_reached s (rest_of n (0x1B ∷ []))) [] (b ∷ bytes)
        by none is = cut-sequence (make_reached s (rest_of n (0x1B ∷ []))) (inr (sequence, refl)) [] is refl
        by (whole u) is = advance (make_reached s (rest_of n (0x1B ∷ []))) (inr (sequence, refl)) [] (subst IsSome (sym is) tt)
        by dropped is = advance (make_reached s (rest_of n (0x1B ∷ []))) (inr (sequence, refl)) [] (subst IsSome (sym is) tt)
        by (unfinished k) is = advance (make_reached s (rest_of n (0x1B ∷ []))) (inr (sequence, refl)) [] (subst IsSome (sym is) tt)

    cut-out : (at : Reached S) (ok : IsRest at.rest) (front : List ℕ) → Unread at front
        → reading (mode_at at) (text_at at (front ++ b ∷ [])) ≡ none → CutFrom at front (b ∷ bytes)
    cut-out at ok front (inl (nothing, none_yet)) out =
        let m : Mode = mode_at at in
        let some : IsSome (reading m (text_of m (rest_before_piece e at).text (front ++ b ∷ []))) =
        subst (λ xs. IsSome (reading m (text_of m xs (front ++ b ∷ [])))) (sym nothing)
        (subst (λ ys. IsSome (reading m (text_of m [] (ys ++ b ∷ [])))) (sym none_yet) (one_some m b)) in
        absurd (not-none (reading m (text_of m (rest_before_piece e at).text (front ++ b ∷ []))) some out)
    cut-out at ok front (inr (sequence, was)) out = cut-sequence at ok front out was
    cut-out at ok front (inr (command, was)) out =
        broken-off at ok front command was
        (breaks_command (mode_at at) b none (part at ok front out command was) (after at ok front out command was) refl, refl)
    cut-out at ok front (inr (character, was)) out = malformed at ok front was (out-now at ok front out character was)
    cut-out at ok front (inr (string, was)) out =
        let next : none ≡ string_next b = after at ok front out string was in
        absurd (not-none (string_next b) (string_some b) (sym next))
    cut-out at ok front (inr (string_end, was)) out =
        let left : Rest = rest_at at front in
        let next : none ≡ cond (b == 0x5C) (whole Ignored) none = after at ok front out string_end was in
        let other : (b == 0x5C) ≡ false = ends_off (b == 0x5C) (sym next) in
        ended at ok front string_end (make_reached (state_at at front) (rest_of left.mode (0x1B ∷ []))) was (other, refl)
        (escape-cut (state_at at front) left.mode)

    cut-more : (at : Reached S) → IsRest at.rest → (front : List ℕ) → Unread at front → CutFrom at front (b ∷ bytes)
    cut-more at ok front unread = by (reading (mode_at at) (text_at at (front ++ b ∷ []))) refl
      where
        by : (now : Reading) → reading (mode_at at) (text_at at (front ++ b ∷ [])) ≡ now → CutFrom at front (b ∷ bytes)
        by none is = cut-out at ok front unread is
        by (whole u) is = advance at ok front (subst IsSome (sym is) tt)
        by dropped is = advance at ok front (subst IsSome (sym is) tt)
        by (unfinished k) is = advance at ok front (subst IsSome (sym is) tt)

  cut-all : (bytes : List ℕ) (at : Reached S) → IsRest at.rest → (front : List ℕ) → Unread at front → CutFrom at front bytes
  cut-all [] at ok front unread = last-rest at ok front unread
  cut-all (b ∷ bytes) at ok front unread = cut-more b bytes (cut-all bytes) at ok front unread

  pub text_cut : (at : Reached S) (bytes : List ℕ) → IsRest at.rest → IsCut e at bytes (run e bytes at)
  text_cut at bytes ok = cut-all bytes at ok [] (unread at.state at.rest.mode at.rest.text ok)
    where
      unread : (s : S) (n : Mode) (t : List ℕ) → (t ≡ []) ⊎ IsUnfinished n t → Unread (make_reached s (rest_of n t)) []
      unread s n [] one = inl (refl, refl)
      unread s n (x ∷ t) (inl nothing) = absurd (let no : ⊥ = cc in no)
      unread s n (x ∷ t) (inr is) = inr is
