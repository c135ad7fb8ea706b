-- The bytes of a piece, read one by one.
use Rattle.std.proofs.Common.{◌≡◌, ◌⊎◌, ℕ, ◌==◌, Bool, true, false, cond, ◌&&◌, ◌||◌, not, List, [], ◌∷◌, ◌++◌, length, take, refl, sym, ap, ◌∙◌, arith, ⊎_elim, inl, inr}
use Rattle.std.specs.Prelude.{nat_lt}
use Rattle.std.proofs.lemmas.Bool.{and_left, and_right, and_parts, cases_Bool, cond-true, cond-false, eqb-true, not-true, not_from_true, or_cases, or_from, or_left, or_right, or_parts}
use Rattle.std.proofs.lemmas.Bool.Decides.{nat_tests}
use Rattle.std.proofs.lemmas.List.{append-nil}
use Rattle.vt_units.proofs.Follows.{admits, admits_command}
use Rattle.vt_units.proofs.Fronts.{IsCut, after_prefix_pass, after_prefix_stop, cut}
use Rattle.vt_units.proofs.Openers.{HasOpener, in_string, opener_reads, string_opener}
use Rattle.vt_units.specs.Bytes.{acts, interrupts, is_digit, is_swallowed, joins, joins_command, opens_string}
use Rattle.vt_units.specs.Reading.{Kind, Reading, unfinished, whole, dropped, none, alone, after_prefix, reading, dropped_or_none, dropped_or_none_command, string_ends, string_tail, string_text, is_sequence, text_reading}
use Rattle.vt_units.specs.Rest.{Rest}
use Rattle.vt_units.specs.ParserState.{Each, IsOpener, rest_of}
use Rattle.vt_units.specs.declared.mode.Mode.{Mode}
use Rattle.vt_units.specs.declared.unit.Unit.TheVariants.{Ignored}

-- a byte that interrupts isn't admitted, and doesn't join
pub interrupts_out : (m : Mode) (b : ℕ) → interrupts m b ≡ true
    → (admits b ≡ false) × (admits_command b ≡ false) × (dropped_or_none m b ≡ none) × (dropped_or_none_command m b ≡ none)
interrupts_out m b is = ⊎_elim
    (λ (esc : (b == 0x1B) ≡ true). by-byte 0x1B (eqb-true b 0x1B esc) refl refl)
    (λ (csi : (b == 0x9B && not-utf8) ≡ true). by-byte 0x9B (eqb-true b 0x9B (and_parts _ _ csi).0) refl refl)
    (or_cases (b == 0x1B) (b == 0x9B && not-utf8) is)
  where
    not-utf8 : Bool
    not-utf8 = not m.utf8

    by-byte : (x : ℕ) → b ≡ x → admits x ≡ false → admits_command x ≡ false
        → (admits b ≡ false) × (admits_command b ≡ false) × (dropped_or_none m b ≡ none) × (dropped_or_none_command m b ≡ none)
    by-byte x same out out_command = (
      ap admits same ∙ out,
      ap admits_command same ∙ out_command,
      cond-false (joins m b) dropped none (not_from_true _ (or_left _ _ (or_right (acts b) (interrupts m b) is))),
      cond-false (joins_command m b) dropped none (not_from_true _ (or_right (acts b) (interrupts m b) is)),
    )

pub acts_low : (m : Mode) (b : ℕ) → acts b ≡ true → interrupts m b ≡ false
acts_low m b is = grind (arith, nat_tests)

pub del_passes : (m : Mode) (b : ℕ) → (b == 0x7F) ≡ true → (interrupts m b ≡ false) × (acts b ≡ false)
del_passes m b is =
    let e : b ≡ 0x7F = eqb-true b 0x7F is in
    (ap (interrupts m) e, ap acts e)

-- a rest that stands for a text in a mode: none, the text itself, or a string of which part is gone
pub record IsStringRest (r : Rest) (q : List ℕ) : Type 0 where
  pub opener : List ℕ
  pub gone : List ℕ
  pub left : List ℕ
  pub tail : List ℕ
  pub is : q ≡ opener ++ (gone ++ tail)
  pub text : r.text ≡ opener ++ (left ++ tail)
  pub opens : IsOpener opener
  pub swallowed : Each is_swallowed gone
  pub swallowed_left : Each is_swallowed left
  pub ends : (tail ≡ []) ⊎ (tail ≡ 0x1B ∷ [])

swallowed_text : (gone tail : List ℕ) → Each is_swallowed gone → string_text (gone ++ tail) ≡ string_text tail
swallowed_text gone tail passes = ap string_ends (after_prefix_pass is_swallowed gone tail passes)

not_sequence : (xs : List ℕ) → is_sequence (string_ends xs) ≡ false
not_sequence [] = refl
not_sequence (y ∷ ys) = by-cond (y == 0x1B) (string_tail ys) (alone ys (whole Ignored)) (tail-out ys) (alone-out ys)
  where
    by-cond : (c : Bool) (a b : Reading) → is_sequence a ≡ false → is_sequence b ≡ false
        → is_sequence (cond c a b) ≡ false
    by-cond true a b first second = first
    by-cond false a b first second = second

    alone-out : (zs : List ℕ) → is_sequence (alone zs (whole Ignored)) ≡ false
    alone-out [] = refl
    alone-out (z ∷ zs) = refl

    tail-out : (zs : List ℕ) → is_sequence (string_tail zs) ≡ false
    tail-out [] = refl
    tail-out (z ∷ []) = by-cond (z == 0x5C) (whole Ignored) none refl refl
    tail-out (z ∷ w ∷ zs) = refl

-- a string of any length is within the bound
pub opened_reading : (m : Mode) (o xs : List ℕ) → IsOpener o → reading m (o ++ xs) ≡ string_text xs
opened_reading m o xs opens =
    cond-false _ _ _ (and_right (nat_lt 256 (length (o ++ xs))) _ (front-out opens)) ∙ opener_reads m o xs opens
  where
    front-out : IsOpener o → is_sequence (text_reading m (take 256 (o ++ xs))) ≡ false
    front-out one = ⊎_elim
        (λ (esc : (b : ℕ) × (o ≡ 0x1B ∷ b ∷ []) × (opens_string b ≡ true)).
        ap (λ zs. is_sequence (text_reading m (take 256 (zs ++ xs)))) esc.1
        ∙ ap is_sequence (opener_reads m (0x1B ∷ esc.0 ∷ []) (take 254 xs) (inl (esc.0, refl, esc.2)))
        ∙ not_sequence (after_prefix is_swallowed (take 254 xs)))
        (λ (osc : (b : ℕ) × (o ≡ 0x1B ∷ 0x5D ∷ b ∷ []) × (is_digit b ≡ true)).
        ap (λ zs. is_sequence (text_reading m (take 256 (zs ++ xs)))) osc.1
        ∙ ap is_sequence (opener_reads m (0x1B ∷ 0x5D ∷ osc.0 ∷ []) (take 253 xs) (inr (osc.0, refl, osc.2)))
        ∙ not_sequence (after_prefix is_swallowed (take 253 xs)))
        one

-- a string's text, and its rest, in any mode
module _ (r : Rest) (q : List ℕ) (s : IsStringRest r q) where
  open s use {opener, gone, left, tail, is, text, opens, swallowed, swallowed_left}

  pub string-text : (m : Mode) → reading m q ≡ string_text tail
  string-text m =
      ap (reading m) is ∙ opened_reading m opener (gone ++ tail) opens ∙ swallowed_text gone tail swallowed

  pub string_rest : (m : Mode) → reading m r.text ≡ string_text tail
  string_rest m =
      ap (reading m) text ∙ opened_reading m opener (left ++ tail) opens ∙ swallowed_text left tail swallowed_left

-- the parts of a string that isn't finished
string_parts : (xs : List ℕ) (k : Kind) → string_text xs ≡ unfinished k
    → (gone : List ℕ) × (tail : List ℕ) × (xs ≡ gone ++ tail) × Each is_swallowed gone
    × ((tail ≡ []) ⊎ (tail ≡ 0x1B ∷ []))
string_parts xs k is = ⊎_elim
    (λ (passes : Each is_swallowed xs). (xs, [], sym (append-nil xs), passes, inl refl))
    (λ (c : IsCut is_swallowed xs).
    let here : string_ends (c.stop ∷ c.after) ≡ unfinished k =
    sym (ap string_text c.is ∙ ap string_ends (after_prefix_stop is_swallowed c.before c.stop c.after c.passes c.stops)) ∙ is in
    (c.before, c.stop ∷ c.after, c.is, c.passes, inr (esc-alone c.stop c.after here)))
    (cut is_swallowed xs)
  where
    tail-alone : (ys : List ℕ) → string_tail ys ≡ unfinished k → ys ≡ []
    tail-alone [] e = refl
    tail-alone (y ∷ []) e = absurd (by-cond (y == 0x5C) e)
      where
        by-cond : (c : Bool) → cond c (whole Ignored) none ≡ unfinished k → ⊥
        by-cond true f = cc
        by-cond false f = cc
    tail-alone (y ∷ z ∷ ys) e = absurd (let wrong : ⊥ = cc in wrong)

    never-alone : (ys : List ℕ) → alone ys (whole Ignored) ≡ unfinished k → ⊥
    never-alone [] e = cc
    never-alone (y ∷ ys) e = cc

    esc-alone : (y : ℕ) (ys : List ℕ) → string_ends (y ∷ ys) ≡ unfinished k → y ∷ ys ≡ 0x1B ∷ []
    esc-alone y ys e = ⊎_elim
        (λ (esc : (y == 0x1B) ≡ true).
        let sign : y ≡ 0x1B = eqb-true y 0x1B esc in
        let nothing : ys ≡ [] = tail-alone ys (sym (cond-true _ _ _ esc) ∙ e) in
        λ i. sign i ∷ nothing i)
        (λ (other : (y == 0x1B) ≡ false). absurd (never-alone ys (sym (cond-false _ _ _ other) ∙ e)))
        (cases_Bool (y == 0x1B))

-- a string's whole text is a rest of it
pub whole_rest : (m : Mode) (q : List ℕ) (k : Kind) → in_string (unfinished k) ≡ true
    → reading m q ≡ unfinished k → IsStringRest (rest_of m q) q
whole_rest m q k inside is =
    let o : HasOpener q (unfinished k) = string_opener m q k inside is in
    let p : (gone : List ℕ) × (tail : List ℕ) × (o.behind_it ≡ gone ++ tail) × Each is_swallowed gone
    × ((tail ≡ []) ⊎ (tail ≡ 0x1B ∷ [])) = string_parts o.behind_it k o.reads in
    let all : q ≡ o.opener ++ (p.0 ++ p.1) = o.is ∙ ap (λ xs. o.opener ++ xs) p.2 in
    record {
      opener = o.opener;
      gone = p.0;
      left = p.0;
      tail = p.1;
      is = all;
      text = all;
      opens = o.opens;
      swallowed = p.3;
      swallowed_left = p.3;
      ends = p.4;
    }
