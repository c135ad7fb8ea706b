-- One byte of a piece, and then all of them.
use Rattle.std.proofs.Common.{◌≡◌, ◌⊎◌, ℕ, ◌==◌, Bool, true, false, cond, List, [], ◌∷◌, ◌++◌, refl, sym, ap, ◌∙◌, subst, ⊎_elim, inl, inr}
use Rattle.std.proofs.lemmas.Bool.{cases_Bool, cond-true, cond-false, eqb-true, or_cases, or_parts, false_from_ne_true, not-true, or_left, or_right, false≢true}
use Rattle.std.proofs.lemmas.List.{append-nil, append_assoc}
use Rattle.vt_units.proofs.Bases.{base, base_some, plain_read, unfinished_some}
use Rattle.vt_units.proofs.Follows.{string_next}
use Rattle.vt_units.proofs.Fronts.{each_push}
use Rattle.vt_units.proofs.Openers.{in_string}
use Rattle.vt_units.proofs.Opens.{IsSome}
use Rattle.vt_units.proofs.Steps.{follows_reading}
use Rattle.vt_units.proofs.Walks.{IsStringRest, acts_low, del_passes, interrupts_out, string_rest, string-text, whole_rest}
use Rattle.vt_units.specs.Answer.{RestBefore, ByteOutcome, acts_in, goes_on, outcome_of_text, outcome_by_reading, unbroken_rest, rest_before, rest_before_by, make_outcome, byte_outcome, vanishes_in}
use Rattle.vt_units.specs.Bytes.{acts, interrupts, is_swallowed}
use Rattle.vt_units.specs.Pieces.{is_ignored_in, is_left_out, read_on}
use Rattle.vt_units.specs.Reading.{Kind, Reading, unfinished, character, sequence, command, string, string_end, string_text, whole, dropped, none, reading}
use Rattle.vt_units.specs.Rest.{Rest, fresh, rest_with_byte}
use Rattle.vt_units.specs.Run.{Effects, Reached, effect_of, effects_of, make_reached, step}
use Rattle.vt_units.specs.ParserState.{rest_of}
use Rattle.vt_units.specs.declared.mode.Mode.{Mode}
use Rattle.vt_units.specs.declared.then.Then as then
use Rattle.vt_units.specs.declared.unit.Unit.TheVariants.{Ignored}

-- a sequence or the beginning of a character that goes on is left as it is
module _ (m n : Mode) (q : List ℕ) (b : ℕ) (some : IsSome (reading m (q ++ b ∷ []))) where
  goes-some : (r : Reading) → IsSome r → goes_on r ≡ true
  goes-some (whole u) s = refl
  goes-some dropped s = refl
  goes-some (unfinished k) s = refl
  goes-some none s = absurd s

  goes-uninterrupted : (k : Kind) → reading m q ≡ unfinished k → in_string (unfinished k) ≡ false
      → rest_before_by (unfinished k) (rest_of m q) n b ≡ unbroken_rest (rest_of m q)
  goes-uninterrupted character is out = cond-true _ _ _ (goes-some (reading m (q ++ b ∷ [])) some)
  goes-uninterrupted sequence is out = ap unbroken_rest (cond-false (interrupts m b) _ _ (false_from_ne_true _ (λ breaks.
      let p = interrupts_out m b breaks in
      subst IsSome ((follows_reading m b q sequence is).1 p.0 ∙ p.2) some)))
  goes-uninterrupted command is out = ap unbroken_rest (cond-false (interrupts m b) _ _ (false_from_ne_true _ (λ breaks.
      let p = interrupts_out m b breaks in
      subst IsSome ((follows_reading m b q command is).1 p.1 ∙ p.3) some)))
  goes-uninterrupted string is out = absurd (false≢true (sym out))
  goes-uninterrupted string_end is out = absurd (false≢true (sym out))

-- what acts or is ignored breaks nothing off
left_uninterrupted : (m n : Mode) (q : List ℕ) (b : ℕ) (k : Kind) → is_left_out (unfinished k) b ≡ true
    → rest_before_by (unfinished k) (rest_of m q) n b ≡ unbroken_rest (rest_of m q)
left_uninterrupted m n q b sequence is = ap unbroken_rest (cond-false (interrupts m b) _ _
    (⊎_elim (acts_low m b) (λ del. (del_passes m b del).0) (or_cases (acts b) (b == 0x7F) is)))
left_uninterrupted m n q b command is = ap unbroken_rest (cond-false (interrupts m b) _ _
    (⊎_elim (acts_low m b) (λ never. absurd (false≢true never)) (or_cases (acts b) false is)))
left_uninterrupted m n q b character is = absurd (false≢true is)
left_uninterrupted m n q b string is = absurd (false≢true is)
left_uninterrupted m n q b string_end is = absurd (false≢true is)

plain_vanishes : (k : Kind) (b : ℕ) → in_string (unfinished k) ≡ false → is_ignored_in (unfinished k) b ≡ false
    → vanishes_in (unfinished k) b ≡ false
plain_vanishes sequence b out is = is
plain_vanishes command b out is = refl
plain_vanishes character b out is = refl
plain_vanishes string b out is = absurd (false≢true (sym out))
plain_vanishes string_end b out is = refl

-- what is read, where the reading of the rest is known
byte_outcome_by : (r : Rest) (b : ℕ) (now : Reading) → reading r.mode r.text ≡ now
    → acts_in now b ≡ false → vanishes_in now b ≡ false → byte_outcome r b ≡ outcome_of_text r b
byte_outcome_by r b now is act vanish =
    cond-false _ _ _ (ap (λ x. acts_in x b) is ∙ act) ∙ cond-false _ _ _ (ap (λ x. vanishes_in x b) is ∙ vanish)

module _ {S : Type 0} (e : Effects S) where
  -- the rest stands for the text in this mode
  abbrev pub St : S → Rest → Mode → List ℕ → Type 0
  St s r m q =
      ((q ≡ []) × (r.text ≡ []) × (m ≡ e.mode_of s))
      ⊎ (((k : Kind) × (reading m q ≡ unfinished k) × (in_string (unfinished k) ≡ false) × (r ≡ rest_of m q))
      ⊎ ((k : Kind) × (reading m q ≡ unfinished k) × (in_string (unfinished k) ≡ true) × IsStringRest r q))

  -- and this rest is left of it
  abbrev pub Becomes : Reading → Reached S → S → Mode → List ℕ → Rest → Type 0
  Becomes (whole u) at s m w left = at ≡ make_reached (e.on_unit u s) (fresh left.mode)
  Becomes dropped at s m w left = at ≡ make_reached s (fresh left.mode)
  Becomes (unfinished k) at s m w left = (at ≡ make_reached s left) × St s left m w
  Becomes none at s m w left = ⊥

  step-by : (s : S) (r r' : Rest) (b : ℕ) (all : ByteOutcome) → rest_before r (e.mode_of s) b ≡ unbroken_rest r'
      → byte_outcome r' b ≡ all → step e b (make_reached s r) ≡ make_reached (effect_of e all.got s) all.rest
  step-by s r r' b all left is =
      ap (λ (x : RestBefore). make_reached (effects_of e (record { bad = x.bad; got = (byte_outcome x.rest b).got }) s)
      (byte_outcome x.rest b).rest) left
      ∙ ap (λ (x : ByteOutcome). make_reached (effect_of e x.got s) x.rest) is

  joined-becomes : (s : S) (r : Rest) (b : ℕ) (m : Mode) (w : List ℕ) (now : Reading) (at : Reached S)
      → at ≡ make_reached (effect_of e (outcome_by_reading now r b).got s) (outcome_by_reading now r b).rest → IsSome now
      → ((k : Kind) → now ≡ unfinished k → St s (rest_with_byte r b) m w) → Becomes now at s m w (rest_with_byte r b)
  joined-becomes s r b m w (whole u) at is some st = is
  joined-becomes s r b m w dropped at is some st = is
  joined-becomes s r b m w (unfinished k) at is some st = (is, st k refl)
  joined-becomes s r b m w none at is some st = absurd some

  -- a text that has grown by a byte, and its rest with it
  pub rest_with_byte_st : (s : S) (m : Mode) (w : List ℕ) (k : Kind) → reading m w ≡ unfinished k → St s (rest_of m w) m w
  rest_with_byte_st s m w k is = ⊎_elim
      (λ (inside : in_string (unfinished k) ≡ true). inr (inr (k, is, inside, whole_rest m w k inside is)))
      (λ (out : in_string (unfinished k) ≡ false). inr (inl (k, is, out, refl)))
      (cases_Bool (in_string (unfinished k)))

  step-plain : (s : S) (m : Mode) (q : List ℕ) (b : ℕ) (k : Kind) → reading m q ≡ unfinished k
      → in_string (unfinished k) ≡ false → is_left_out (reading m q) b ≡ false
      → IsSome (reading m (q ++ b ∷ []))
      → Becomes (reading m (q ++ b ∷ [])) (step e b (make_reached s (rest_of m q))) s m (q ++ b ∷ []) (rest_with_byte (rest_of m q) b)
  step-plain s m q b k is out part some =
      let apart : (acts_in (unfinished k) b ≡ false) × (is_ignored_in (unfinished k) b ≡ false) =
      or_parts _ _ (ap (λ r. is_left_out r b) (sym is) ∙ part) in
      let left : rest_before (rest_of m q) (e.mode_of s) b ≡ unbroken_rest (rest_of m q) =
      ap (λ r. rest_before_by r (rest_of m q) (e.mode_of s) b) is ∙ goes-uninterrupted m (e.mode_of s) q b some k is out in
      joined-becomes s (rest_of m q) b m (q ++ b ∷ []) (reading m (q ++ b ∷ [])) (step e b (make_reached s (rest_of m q)))
      (step-by s (rest_of m q) (rest_of m q) b (outcome_of_text (rest_of m q) b) left
      (byte_outcome_by (rest_of m q) b (unfinished k) is apart.0 (plain_vanishes k b out apart.1)))
      some (λ j goes. rest_with_byte_st s m (q ++ b ∷ []) j goes)

  step-empty : (s : S) (r : Rest) (b : ℕ) → r.text ≡ [] → IsSome (reading (e.mode_of s) (b ∷ []))
      → Becomes (reading (e.mode_of s) (b ∷ [])) (step e b (make_reached s r)) s (e.mode_of s) (b ∷ [])
      (rest_with_byte (fresh (e.mode_of s)) b)
  step-empty s r b nothing some =
      let m : Mode = e.mode_of s in
      let left : rest_before r (e.mode_of s) b ≡ unbroken_rest (fresh (e.mode_of s)) =
      ap (λ t. rest_before_by (reading r.mode t) r (e.mode_of s) b) nothing in
      joined-becomes s (fresh (e.mode_of s)) b (e.mode_of s) (b ∷ []) (reading (e.mode_of s) (b ∷ []))
      (step e b (make_reached s r))
      (step-by s r (fresh (e.mode_of s)) b (outcome_of_text (fresh (e.mode_of s)) b) left refl)
      some (λ j goes. rest_with_byte_st s (e.mode_of s) (b ∷ []) j goes)

  -- a byte of a string
  module _ (s : S) (r : Rest) (m : Mode) (q : List ℕ) (b : ℕ) (st : IsStringRest r q)
      (some : IsSome (reading m (q ++ b ∷ []))) where
    open st use {opener, gone, left, tail, is, text, opens, swallowed, swallowed_left}

    longer : (new_tail : List ℕ) → tail ≡ [] → q ++ new_tail ≡ opener ++ (gone ++ new_tail)
    longer new_tail nothing =
        ap (λ xs. xs ++ new_tail) (is ∙ ap (λ t. opener ++ (gone ++ t)) nothing ∙ ap (λ xs. opener ++ xs) (append-nil gone))
        ∙ append_assoc opener gone new_tail

    longer-rest : (new_tail : List ℕ) → tail ≡ [] → r.text ++ new_tail ≡ opener ++ (left ++ new_tail)
    longer-rest new_tail nothing =
        ap (λ xs. xs ++ new_tail) (text ∙ ap (λ t. opener ++ (left ++ t)) nothing ∙ ap (λ xs. opener ++ xs) (append-nil left))
        ∙ append_assoc opener left new_tail

    -- in the string
    module _ (nothing : tail ≡ []) where
      in-text : (n : Mode) → reading n q ≡ unfinished string
      in-text n = string-text r q st n ∙ ap string_text nothing

      in-rest : (n : Mode) → reading n r.text ≡ unfinished string
      in-rest n = string_rest r q st n ∙ ap string_text nothing

      next-text : (n : Mode) → reading n (q ++ b ∷ []) ≡ string_next b
      next-text n = follows_reading n b q string (in-text n)

      next-rest : (n : Mode) → reading n (r.text ++ b ∷ []) ≡ string_next b
      next-rest n = follows_reading n b r.text string (in-rest n)

      settled-in : rest_before r (e.mode_of s) b
          ≡ unbroken_rest (cond (b == 0x1B) (record { mode = e.mode_of s; text = r.text }) r)
      settled-in = ap (λ x. rest_before_by x r (e.mode_of s) b) (in-rest r.mode)

      step-swallowed : is_swallowed b ≡ true
          → Becomes (reading m (q ++ b ∷ [])) (step e b (make_reached s r)) s m (q ++ b ∷ []) r
      step-swallowed swallows =
          let now : reading m (q ++ b ∷ []) ≡ unfinished string = next-text m ∙ cond-true _ _ _ swallows in
          let not_esc : (b == 0x1B) ≡ false = (or_parts _ _ (not-true _ swallows)).1 in
          let rest : IsStringRest r (q ++ b ∷ []) = record {
            opener = opener;
            gone = gone ++ b ∷ [];
            left = left;
            tail = tail;
            is = longer (b ∷ []) nothing ∙ ap (λ xs. opener ++ xs)
                (sym (append-nil (gone ++ b ∷ [])) ∙ ap (λ t. (gone ++ b ∷ []) ++ t) (sym nothing));
            text = text;
            opens = opens;
            swallowed = each_push is_swallowed gone b swallowed swallows;
            swallowed_left = swallowed_left;
            ends = inl nothing;
          } in
          subst (λ x. Becomes x (step e b (make_reached s r)) s m (q ++ b ∷ []) r) (sym now) (
            step-by s r r b (make_outcome then.Then.More r) (settled-in ∙ ap unbroken_rest (cond-false _ _ _ not_esc))
                (ap (λ x. cond (acts_in x b) (make_outcome (then.Then.Act b) r) (cond (vanishes_in x b) (make_outcome then.Then.More r) (outcome_of_text r b))) (in-rest r.mode)
                ∙ cond-true _ _ _ swallows),
            inr (inr (string, now, refl, rest)),
          )

      step-esc : is_swallowed b ≡ false → (b == 0x1B) ≡ true
          → Becomes (reading m (q ++ b ∷ [])) (step e b (make_reached s r)) s m (q ++ b ∷ [])
          (rest_with_byte (record { mode = e.mode_of s; text = r.text }) b)
      step-esc passes esc =
          let n : Mode = e.mode_of s in
          let sign : b ≡ 0x1B = eqb-true b 0x1B esc in
          let now : reading m (q ++ b ∷ []) ≡ unfinished string_end =
          next-text m ∙ cond-false _ _ _ passes ∙ cond-true _ _ _ esc in
          let moded : Rest = record { mode = e.mode_of s; text = r.text } in
          let there : reading (e.mode_of s) (r.text ++ b ∷ []) ≡ unfinished string_end =
          next-rest (e.mode_of s) ∙ cond-false _ _ _ passes ∙ cond-true _ _ _ esc in
          let rest : IsStringRest (rest_with_byte moded b) (q ++ b ∷ []) = record {
            opener = opener;
            gone = gone;
            left = left;
            tail = b ∷ [];
            is = longer (b ∷ []) nothing;
            text = longer-rest (b ∷ []) nothing;
            opens = opens;
            swallowed = swallowed;
            swallowed_left = swallowed_left;
            ends = inr (ap (λ x. x ∷ []) sign);
          } in
          subst (λ x. Becomes x (step e b (make_reached s r)) s m (q ++ b ∷ []) (rest_with_byte moded b)) (sym now) (
            step-by s r moded b (make_outcome then.Then.More (rest_with_byte moded b)) (settled-in ∙ ap unbroken_rest (cond-true _ _ _ esc))
                (byte_outcome_by moded b (unfinished string) (in-rest (e.mode_of s)) refl passes
                ∙ ap (λ x. outcome_by_reading x moded b) there),
            inr (inr (string_end, now, refl, rest)),
          )

      step-ends : is_swallowed b ≡ false → (b == 0x1B) ≡ false
          → Becomes (reading m (q ++ b ∷ [])) (step e b (make_reached s r)) s m (q ++ b ∷ []) (rest_with_byte r b)
      step-ends passes other =
          let now : reading m (q ++ b ∷ []) ≡ whole Ignored =
          next-text m ∙ cond-false _ _ _ passes ∙ cond-false _ _ _ other in
          let there : reading r.mode (r.text ++ b ∷ []) ≡ whole Ignored =
          next-rest r.mode ∙ cond-false _ _ _ passes ∙ cond-false _ _ _ other in
          subst (λ x. Becomes x (step e b (make_reached s r)) s m (q ++ b ∷ []) (rest_with_byte r b)) (sym now)
          (step-by s r r b (make_outcome (then.Then.Unit Ignored) (fresh r.mode)) (settled-in ∙ ap unbroken_rest (cond-false _ _ _ other))
          (byte_outcome_by r b (unfinished string) (in-rest r.mode) refl passes ∙ ap (λ x. outcome_by_reading x r b) there))

      -- the rest that is left is the one that is read on
      left-by : (left other : Rest) → other ≡ left
          → Becomes (reading m (q ++ b ∷ [])) (step e b (make_reached s r)) s m (q ++ b ∷ []) other
          → Becomes (reading m (q ++ b ∷ [])) (step e b (make_reached s r)) s m (q ++ b ∷ []) left
      left-by left other same is =
          subst (Becomes (reading m (q ++ b ∷ [])) (step e b (make_reached s r)) s m (q ++ b ∷ [])) same is

      read-in : read_on (reading m q) (e.mode_of s) r b ≡ read_on (unfinished string) (e.mode_of s) r b
      read-in = ap (λ x. read_on x (e.mode_of s) r b) (in-text m)

      step-in : Becomes (reading m (q ++ b ∷ [])) (step e b (make_reached s r)) s m (q ++ b ∷ [])
          (read_on (reading m q) (e.mode_of s) r b)
      step-in = ⊎_elim
          (λ swallows. left-by _ r (sym (read-in ∙ cond-true (is_swallowed b) _ _ swallows)) (step-swallowed swallows))
          (λ passes. ⊎_elim
          (λ esc. left-by _ (rest_with_byte (record { mode = e.mode_of s; text = r.text }) b)
          (sym (read-in ∙ cond-false (is_swallowed b) _ _ passes ∙ cond-true (b == 0x1B) _ _ esc)) (step-esc passes esc))
          (λ other. left-by _ (rest_with_byte r b)
          (sym (read-in ∙ cond-false (is_swallowed b) _ _ passes ∙ cond-false (b == 0x1B) _ _ other)) (step-ends passes other))
          (cases_Bool (b == 0x1B)))
          (cases_Bool (is_swallowed b))

    -- behind its ESC
    module _ (esc : tail ≡ 0x1B ∷ []) where
      end-text : reading m q ≡ unfinished string_end
      end-text = string-text r q st m ∙ ap string_text esc

      end-rest : reading r.mode r.text ≡ unfinished string_end
      end-rest = string_rest r q st r.mode ∙ ap string_text esc

      ends-now : (c : Bool) → (b == 0x5C) ≡ c → IsSome (cond c (whole Ignored) none) → (b == 0x5C) ≡ true
      ends-now true is_c one = is_c
      ends-now false is_c one = absurd one

      step-end : Becomes (reading m (q ++ b ∷ [])) (step e b (make_reached s r)) s m (q ++ b ∷ [])
          (read_on (reading m q) (e.mode_of s) r b)
      step-end =
          let next : reading m (q ++ b ∷ []) ≡ cond (b == 0x5C) (whole Ignored) none =
          follows_reading m b q string_end end-text in
          let sign : (b == 0x5C) ≡ true = ends-now (b == 0x5C) refl (subst IsSome next some) in
          let now : reading m (q ++ b ∷ []) ≡ whole Ignored = next ∙ cond-true _ _ _ sign in
          let there : reading r.mode (r.text ++ b ∷ []) ≡ whole Ignored =
          follows_reading r.mode b r.text string_end end-rest ∙ cond-true _ _ _ sign in
          let left : read_on (reading m q) (e.mode_of s) r b ≡ rest_with_byte r b =
          ap (λ x. read_on x (e.mode_of s) r b) end-text in
          subst (Becomes (reading m (q ++ b ∷ [])) (step e b (make_reached s r)) s m (q ++ b ∷ [])) (sym left)
          (subst (λ x. Becomes x (step e b (make_reached s r)) s m (q ++ b ∷ []) (rest_with_byte r b)) (sym now)
          (step-by s r r b (make_outcome (then.Then.Unit Ignored) (fresh r.mode))
          (ap (λ x. rest_before_by x r (e.mode_of s) b) end-rest ∙ ap unbroken_rest (cond-true _ _ _ sign))
          (byte_outcome_by r b (unfinished string_end) end-rest refl refl ∙ ap (λ x. outcome_by_reading x r b) there)))

    step-string : Becomes (reading m (q ++ b ∷ [])) (step e b (make_reached s r)) s m (q ++ b ∷ [])
        (read_on (reading m q) (e.mode_of s) r b)
    step-string = ⊎_elim step-in step-end st.ends

  -- it is read as the text is
  pub base_reads : (s : S) (r : Rest) (m : Mode) (q : List ℕ) → St s r m q
      → reading (base r m q).mode (base r m q).text ≡ reading m q
  base_reads s r m [] st = refl
  base_reads s r m (x ∷ q) st = ⊎_elim
      (λ (empty : (x ∷ q ≡ []) × (r.text ≡ []) × (m ≡ e.mode_of s)).
      let nothing : x ∷ q ≡ [] = empty.0 in absurd (let none_is : ⊥ = cc in none_is))
      (λ others. ⊎_elim
      (λ (plain : (k : Kind) × (reading m (x ∷ q) ≡ unfinished k) × (in_string (unfinished k) ≡ false) × (r ≡ rest_of m (x ∷ q))).
      ap (λ (z : Rest). reading z.mode z.text) plain.3)
      (λ (strings : (k : Kind) × (reading m (x ∷ q) ≡ unfinished k) × (in_string (unfinished k) ≡ true) × IsStringRest r (x ∷ q)).
      string_rest r (x ∷ q) strings.3 r.mode ∙ sym (string-text r (x ∷ q) strings.3 m))
      others)
      st

  -- a byte of the text
  pub step_text : (s : S) (r : Rest) (m : Mode) (q : List ℕ) (b : ℕ) → St s r m q
      → is_left_out (reading m q) b ≡ false → IsSome (reading m (q ++ b ∷ []))
      → Becomes (reading m (q ++ b ∷ [])) (step e b (make_reached s r)) s m (q ++ b ∷ [])
      (read_on (reading m q) (e.mode_of s) (base r m q) b)
  step_text s r m q b st part some = ⊎_elim
      (λ (empty : (q ≡ []) × (r.text ≡ []) × (m ≡ e.mode_of s)).
      let here : IsSome (reading (e.mode_of s) (b ∷ [])) =
      subst (λ x. IsSome (reading x (b ∷ []))) empty.2
      (subst (λ xs. IsSome (reading m (xs ++ b ∷ []))) empty.0 some) in
      subst (λ xs. Becomes (reading m (xs ++ b ∷ [])) (step e b (make_reached s r)) s m (xs ++ b ∷ [])
      (read_on (reading m xs) (e.mode_of s) (base r m xs) b)) (sym empty.0)
      (subst (λ x. Becomes (reading x (b ∷ [])) (step e b (make_reached s r)) s x (b ∷ []) (rest_with_byte (fresh x) b)) (sym empty.2)
      (step-empty s r b empty.1 here)))
      (λ others. ⊎_elim
      (λ (plain : (k : Kind) × (reading m q ≡ unfinished k) × (in_string (unfinished k) ≡ false) × (r ≡ rest_of m q)).
      let left : read_on (reading m q) (e.mode_of s) (base r m q) b ≡ rest_with_byte (rest_of m q) b =
      (λ i. read_on (plain.1 i) (e.mode_of s) ((base_some r m q (unfinished_some m q plain.0 plain.1) ∙ plain.3) i) b)
      ∙ plain_read plain.0 (e.mode_of s) (rest_of m q) b plain.2 (ap (λ x. is_left_out x b) (sym plain.1) ∙ part) in
      subst (Becomes (reading m (q ++ b ∷ [])) (step e b (make_reached s r)) s m (q ++ b ∷ [])) (sym left)
      (subst (λ x. Becomes (reading m (q ++ b ∷ [])) (step e b (make_reached s x)) s m (q ++ b ∷ []) (rest_with_byte (rest_of m q) b)) (sym plain.3)
      (step-plain s m q b plain.0 plain.1 plain.2 part some)))
      (λ (strings : (k : Kind) × (reading m q ≡ unfinished k) × (in_string (unfinished k) ≡ true) × IsStringRest r q).
      subst (λ x. Becomes (reading m (q ++ b ∷ [])) (step e b (make_reached s r)) s m (q ++ b ∷ [])
      (read_on (reading m q) (e.mode_of s) x b)) (sym (base_some r m q (unfinished_some m q strings.0 strings.1)))
      (step-string s r m q b strings.3 some))
      others)
      st

  -- a control character that acts, or DEL that is ignored
  left-plain : (s : S) (r : Rest) (m : Mode) (q : List ℕ) (b : ℕ) → St s r m q
      → is_left_out (reading m q) b ≡ true
      → (k : Kind) × (reading m q ≡ unfinished k) × (in_string (unfinished k) ≡ false) × (r ≡ rest_of m q)
  left-plain s r m q b st out = ⊎_elim
      (λ (empty : (q ≡ []) × (r.text ≡ []) × (m ≡ e.mode_of s)).
      absurd (false≢true (sym (ap (λ xs. is_left_out (reading m xs) b) empty.0) ∙ out)))
      (λ others. ⊎_elim
      (λ (plain : (k : Kind) × (reading m q ≡ unfinished k) × (in_string (unfinished k) ≡ false) × (r ≡ rest_of m q)). plain)
      (λ (strings : (k : Kind) × (reading m q ≡ unfinished k) × (in_string (unfinished k) ≡ true) × IsStringRest r q).
      absurd (never strings.0 strings.2 (ap (λ x. is_left_out x b) (sym strings.1) ∙ out)))
      others)
      st
    where
      never : (k : Kind) → in_string (unfinished k) ≡ true → is_left_out (unfinished k) b ≡ true → ⊥
      never string inside is = false≢true is
      never string_end inside is = false≢true is
      never character inside is = false≢true inside
      never sequence inside is = false≢true inside
      never command inside is = false≢true inside

  pub step-acts : (s : S) (r : Rest) (m : Mode) (q : List ℕ) (b : ℕ) → St s r m q
      → acts_in (reading m q) b ≡ true
      → (step e b (make_reached s r) ≡ make_reached (e.on_control b s) r) × St (e.on_control b s) r m q
  step-acts s r m q b st act =
      let out : is_left_out (reading m q) b ≡ true = or_left _ _ act in
      let p : (k : Kind) × (reading m q ≡ unfinished k) × (in_string (unfinished k) ≡ false) × (r ≡ rest_of m q) =
      left-plain s r m q b st out in
      let here : step e b (make_reached s (rest_of m q)) ≡ make_reached (e.on_control b s) (rest_of m q) =
      step-by s (rest_of m q) (rest_of m q) b (make_outcome (then.Then.Act b) (rest_of m q))
      (ap (λ x. rest_before_by x (rest_of m q) (e.mode_of s) b) p.1
      ∙ left_uninterrupted m (e.mode_of s) q b p.0 (ap (λ x. is_left_out x b) (sym p.1) ∙ out))
      (cond-true _ _ _ act) in
      (subst (λ x. step e b (make_reached s x) ≡ make_reached (e.on_control b s) x) (sym p.3) here, inr (inl p))

  pub step_ignored : (s : S) (r : Rest) (m : Mode) (q : List ℕ) (b : ℕ) → St s r m q
      → acts_in (reading m q) b ≡ false → is_ignored_in (reading m q) b ≡ true
      → step e b (make_reached s r) ≡ make_reached s r
  step_ignored s r m q b st act ignored =
      let out : is_left_out (reading m q) b ≡ true = or_right _ _ ignored in
      let p : (k : Kind) × (reading m q ≡ unfinished k) × (in_string (unfinished k) ≡ false) × (r ≡ rest_of m q) =
      left-plain s r m q b st out in
      let here : step e b (make_reached s (rest_of m q)) ≡ make_reached s (rest_of m q) =
      step-by s (rest_of m q) (rest_of m q) b (make_outcome then.Then.More (rest_of m q))
      (ap (λ x. rest_before_by x (rest_of m q) (e.mode_of s) b) p.1
      ∙ left_uninterrupted m (e.mode_of s) q b p.0 (ap (λ x. is_left_out x b) (sym p.1) ∙ out))
      (cond-false _ _ _ act ∙ cond-true _ _ _ (vanishes p.0 (reading m q) p.1 ignored)) in
      subst (λ x. step e b (make_reached s x) ≡ make_reached s x) (sym p.3) here
    where
      by-kind : (k : Kind) → is_ignored_in (unfinished k) b ≡ true → vanishes_in (unfinished k) b ≡ true
      by-kind sequence is = is
      by-kind command is = absurd (false≢true is)
      by-kind character is = absurd (false≢true is)
      by-kind string is = absurd (false≢true is)
      by-kind string_end is = absurd (false≢true is)

      vanishes : (k : Kind) (now : Reading) → now ≡ unfinished k → is_ignored_in now b ≡ true → vanishes_in now b ≡ true
      vanishes k now is ign =
          ap (λ x. vanishes_in x b) is ∙ by-kind k (ap (λ x. is_ignored_in x b) (sym is) ∙ ign)
