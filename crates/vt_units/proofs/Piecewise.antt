-- All bytes of a piece.
use Rattle.std.proofs.Common.{◌≡◌, ◌≢◌, ℕ, Bool, true, false, cond, List, [], ◌∷◌, ◌++◌, refl, sym, ap, ◌∙◌, subst, ⊎_elim}
use Rattle.std.proofs.lemmas.Bool.{cases_Bool, cond-true, cond-false, or_from, or_left, or_right}
use Rattle.std.proofs.lemmas.List.{append-nil, append_assoc}
use Rattle.vt_chars.specs.Utf8.{UnfinishedBegins}
use Rattle.vt_units.proofs.Begun.{opens_reading}
use Rattle.vt_units.proofs.Bases.{base, base_some}
use Rattle.vt_units.proofs.Bytewise.{Becomes, St, base_reads, step-acts, step_ignored, step_text}
use Rattle.vt_units.proofs.Opens.{Goes, IsSome}
use Rattle.vt_units.specs.Answer.{acts_in}
use Rattle.vt_units.specs.Pieces.{after_controls, controls_of, is_ignored_in, is_left_out, read_on, rest_with, text_of}
use Rattle.vt_units.specs.Reading.{Reading, unfinished, whole, dropped, none, reading}
use Rattle.vt_units.specs.Rest.{Rest}
use Rattle.vt_units.specs.Run.{Effects, Reached, make_reached, run, step}
use Rattle.vt_units.specs.declared.mode.Mode.{Mode}

-- a text is a front of the text with bytes behind it
pub extends : (m : Mode) (t bytes : List ℕ) → (more : List ℕ) × (text_of m t bytes ≡ t ++ more)
extends m t [] = ([], sym (append-nil t))
extends m t (b ∷ bytes) = by-test (is_left_out (reading m t) b) (extends m t bytes) (extends m (t ++ b ∷ []) bytes)
  where
    by-test : (c : Bool) → (more : List ℕ) × (text_of m t bytes ≡ t ++ more)
        → (more : List ℕ) × (text_of m (t ++ b ∷ []) bytes ≡ (t ++ b ∷ []) ++ more)
        → (more : List ℕ) × (cond c (text_of m t bytes) (text_of m (t ++ b ∷ []) bytes) ≡ t ++ more)
    by-test true same longer = same
    by-test false same longer = (b ∷ longer.0, longer.1 ∙ append_assoc t (b ∷ []) longer.0)

goes_some : (r : Reading) → Goes r → IsSome r
goes_some (unfinished k) g = tt
goes_some (whole u) g = absurd g
goes_some dropped g = absurd g
goes_some none g = absurd g

some_more : (t : List ℕ) (b : ℕ) → t ++ b ∷ [] ≢ []
some_more [] b e = cc
some_more (x ∷ t) b e = cc

-- a front of a text that is something is something
front_some : UnfinishedBegins → (m : Mode) (t more : List ℕ) → t ≢ [] → IsSome (reading m (t ++ more))
    → IsSome (reading m t)
front_some law m t [] some is = subst (λ xs. IsSome (reading m xs)) (append-nil t) is
front_some law m t (x ∷ xs) some is = goes_some (reading m t) (opens_reading law m t x xs some is)

-- nothing stands behind a unit or a drop
over_alone : UnfinishedBegins → (m : Mode) (t bytes : List ℕ) → t ≢ [] → (Goes (reading m t) → ⊥)
    → ((b : ℕ) → is_left_out (reading m t) b ≡ false) → IsSome (reading m (text_of m t bytes)) → bytes ≡ []
over_alone law m t [] some over none_out is = refl
over_alone law m t (b ∷ bytes) some over none_out is =
    let more : (more : List ℕ) × (text_of m (t ++ b ∷ []) bytes ≡ (t ++ b ∷ []) ++ more) = extends m (t ++ b ∷ []) bytes in
    let all : text_of m t (b ∷ bytes) ≡ t ++ b ∷ more.0 =
    cond-false _ _ _ (none_out b) ∙ more.1 ∙ append_assoc t (b ∷ []) more.0 in
    absurd (over (opens_reading law m t b more.0 some (subst (λ xs. IsSome (reading m xs)) all is)))

module _ {S : Type 0} (e : Effects S) (law : UnfinishedBegins) where
  -- what all bytes of a text come to
  abbrev Walks : List ℕ → S → Rest → Mode → List ℕ → Type 0
  Walks bytes s r m q =
      Becomes e (reading m (text_of m q bytes)) (run e bytes (make_reached s r)) (after_controls e (controls_of m q bytes) s) m
      (text_of m q bytes) (rest_with e s (base r m q) bytes)

  carry : (m : Mode) (w v : List ℕ) (at to : Reached S) (s t : S) (left now : Rest) → w ≡ v → at ≡ to → s ≡ t → left ≡ now
      → Becomes e (reading m w) at s m w left → Becomes e (reading m v) to t m v now
  carry m w v at to s t left now same there state rest is =
      subst (Becomes e (reading m v) to t m v) rest
      (subst (λ x. Becomes e (reading m v) to x m v left) state
      (subst (λ x. Becomes e (reading m v) x s m v left) there
      (subst (λ x. Becomes e (reading m x) at s m x left) same is)))

  stays : (s : S) (r : Rest) (m : Mode) (q : List ℕ) → St e s r m q → IsSome (reading m q)
      → Becomes e (reading m q) (make_reached s r) s m q (base r m q)
  stays s r m q st some = ⊎_elim
      (λ (empty : (q ≡ []) × (r.text ≡ []) × (m ≡ e.mode_of s)).
      absurd (subst (λ xs. IsSome (reading m xs)) empty.0 some))
      (λ others. subst (Becomes e (reading m q) (make_reached s r) s m q) (sym (base_some r m q (some-text some)))
      (⊎_elim
      (λ plain. subst (λ x. Becomes e x (make_reached s r) s m q r) (sym plain.1) (refl, st))
      (λ strings. subst (λ x. Becomes e x (make_reached s r) s m q r) (sym strings.1) (refl, st))
      others))
      st
    where
      some-text : IsSome (reading m q) → q ≡ [] → ⊥
      some-text is nothing = subst (λ xs. IsSome (reading m xs)) nothing is

  -- nothing is left to be read behind a unit or a drop
  over-walks : (m : Mode) (t bytes : List ℕ) (at : Reached S) (s : S) (left : Rest) → bytes ≡ []
      → Becomes e (reading m t) at s m t left
      → Becomes e (reading m (text_of m t bytes)) (run e bytes at) (after_controls e (controls_of m t bytes) s) m (text_of m t bytes)
      (rest_with e s left bytes)
  over-walks m t bytes at s left nothing is =
      subst (λ xs. Becomes e (reading m (text_of m t xs)) (run e xs at) (after_controls e (controls_of m t xs) s) m (text_of m t xs)
      (rest_with e s left xs))
      (sym nothing) is

  -- one byte more, where the bytes behind it are walked
  module _ (m : Mode) (b : ℕ) (bytes : List ℕ)
      (again : (s : S) (r : Rest) (q : List ℕ) → St e s r m q → IsSome (reading m (text_of m q bytes)) → Walks bytes s r m q)
      (s : S) (r : Rest) (q : List ℕ) (st : St e s r m q) (some : IsSome (reading m (text_of m q (b ∷ bytes)))) where
    -- the rest with that byte, by the reading of the text
    read-now : rest_with e s (base r m q) (b ∷ bytes)
        ≡ rest_with e (cond (acts_in (reading m q) b) (e.on_control b s) s) (read_on (reading m q) (e.mode_of s) (base r m q) b) bytes
    read-now = ap (λ now. rest_with e (cond (acts_in now b) (e.on_control b s) s) (read_on now (e.mode_of s) (base r m q) b) bytes)
        (base_reads e s r m q st)

    left-now : is_left_out (reading m q) b ≡ true → read_on (reading m q) (e.mode_of s) (base r m q) b ≡ base r m q
    left-now out = cond-true _ _ _ (or_left _ _ out)

    acting : acts_in (reading m q) b ≡ true → Walks (b ∷ bytes) s r m q
    acting act =
        let out : is_left_out (reading m q) b ≡ true = or_left _ _ act in
        let p : (step e b (make_reached s r) ≡ make_reached (e.on_control b s) r) × St e (e.on_control b s) r m q =
        step-acts e s r m q b st act in
        let text : text_of m q (b ∷ bytes) ≡ text_of m q bytes = cond-true _ _ _ out in
        let controls : controls_of m q (b ∷ bytes) ≡ b ∷ controls_of m q bytes = cond-true _ _ _ act in
        let state : cond (acts_in (reading m q) b) (e.on_control b s) s ≡ e.on_control b s = cond-true _ _ _ act in
        let left : rest_with e s (base r m q) (b ∷ bytes) ≡ rest_with e (e.on_control b s) (base r m q) bytes =
        read-now ∙ (λ i. rest_with e (state i) (left-now out i) bytes) in
        carry m (text_of m q bytes) (text_of m q (b ∷ bytes)) (run e bytes (make_reached (e.on_control b s) r))
        (run e bytes (step e b (make_reached s r))) (after_controls e (controls_of m q bytes) (e.on_control b s))
        (after_controls e (controls_of m q (b ∷ bytes)) s)
        (rest_with e (e.on_control b s) (base r m q) bytes) (rest_with e s (base r m q) (b ∷ bytes))
        (sym text) (ap (run e bytes) (sym p.0)) (ap (λ xs. after_controls e xs s) (sym controls)) (sym left)
        (again (e.on_control b s) r q p.1 (subst (λ xs. IsSome (reading m xs)) text some))

    ignoring : acts_in (reading m q) b ≡ false → is_ignored_in (reading m q) b ≡ true → Walks (b ∷ bytes) s r m q
    ignoring act ignored =
        let out : is_left_out (reading m q) b ≡ true = or_right _ _ ignored in
        let text : text_of m q (b ∷ bytes) ≡ text_of m q bytes = cond-true _ _ _ out in
        let controls : controls_of m q (b ∷ bytes) ≡ controls_of m q bytes =
        cond-false _ _ _ act ∙ cond-true _ _ _ out in
        let state : cond (acts_in (reading m q) b) (e.on_control b s) s ≡ s = cond-false _ _ _ act in
        let left : rest_with e s (base r m q) (b ∷ bytes) ≡ rest_with e s (base r m q) bytes =
        read-now ∙ (λ i. rest_with e (state i) (left-now out i) bytes) in
        carry m (text_of m q bytes) (text_of m q (b ∷ bytes)) (run e bytes (make_reached s r))
        (run e bytes (step e b (make_reached s r))) (after_controls e (controls_of m q bytes) s) (after_controls e (controls_of m q (b ∷ bytes)) s)
        (rest_with e s (base r m q) bytes) (rest_with e s (base r m q) (b ∷ bytes))
        (sym text) (ap (run e bytes) (sym (step_ignored e s r m q b st act ignored)))
        (ap (λ xs. after_controls e xs s) (sym controls)) (sym left)
        (again s r q st (subst (λ xs. IsSome (reading m xs)) text some))

    growing : acts_in (reading m q) b ≡ false → is_ignored_in (reading m q) b ≡ false → Walks (b ∷ bytes) s r m q
    growing act kept_in =
        let part : is_left_out (reading m q) b ≡ false = or_from _ _ act kept_in in
        let text : text_of m q (b ∷ bytes) ≡ text_of m (q ++ b ∷ []) bytes = cond-false _ _ _ part in
        let controls : controls_of m q (b ∷ bytes) ≡ controls_of m (q ++ b ∷ []) bytes =
        cond-false _ _ _ act ∙ cond-false _ _ _ part in
        let there : IsSome (reading m (text_of m (q ++ b ∷ []) bytes)) =
        subst (λ xs. IsSome (reading m xs)) text some in
        let more : (more : List ℕ) × (text_of m (q ++ b ∷ []) bytes ≡ (q ++ b ∷ []) ++ more) =
        extends m (q ++ b ∷ []) bytes in
        let here : IsSome (reading m (q ++ b ∷ [])) =
        front_some law m (q ++ b ∷ []) more.0 (some_more q b)
        (subst (λ xs. IsSome (reading m xs)) more.1 there) in
        let state : cond (acts_in (reading m q) b) (e.on_control b s) s ≡ s = cond-false _ _ _ act in
        let left : rest_with e s (base r m q) (b ∷ bytes) ≡ rest_with e s next bytes =
        read-now ∙ ap (λ x. rest_with e x next bytes) state in
        carry m (text_of m (q ++ b ∷ []) bytes) (text_of m q (b ∷ bytes)) (run e bytes (step e b (make_reached s r)))
        (run e bytes (step e b (make_reached s r))) (after_controls e (controls_of m (q ++ b ∷ []) bytes) s)
        (after_controls e (controls_of m q (b ∷ bytes)) s)
        (rest_with e s next bytes) (rest_with e s (base r m q) (b ∷ bytes))
        (sym text) refl (ap (λ xs. after_controls e xs s) (sym controls)) (sym left)
        (by-reading (reading m (q ++ b ∷ [])) refl there (step_text e s r m q b st part here))
      where
        next : Rest
        next = read_on (reading m q) (e.mode_of s) (base r m q) b

        by-reading : (now : Reading) → reading m (q ++ b ∷ []) ≡ now
            → IsSome (reading m (text_of m (q ++ b ∷ []) bytes))
            → Becomes e now (step e b (make_reached s r)) s m (q ++ b ∷ []) next
            → Becomes e (reading m (text_of m (q ++ b ∷ []) bytes)) (run e bytes (step e b (make_reached s r)))
            (after_controls e (controls_of m (q ++ b ∷ []) bytes) s) m (text_of m (q ++ b ∷ []) bytes) (rest_with e s next bytes)
        by-reading (unfinished k) is is_some becomes =
            subst (λ x. Becomes e (reading m (text_of m (q ++ b ∷ []) bytes)) (run e bytes x)
            (after_controls e (controls_of m (q ++ b ∷ []) bytes) s) m (text_of m (q ++ b ∷ []) bytes) (rest_with e s next bytes)) (sym becomes.0)
            (subst (λ x. Becomes e (reading m (text_of m (q ++ b ∷ []) bytes)) (run e bytes (make_reached s next))
            (after_controls e (controls_of m (q ++ b ∷ []) bytes) s) m (text_of m (q ++ b ∷ []) bytes) (rest_with e s x bytes))
            (base_some next m (q ++ b ∷ []) (some_more q b))
            (again s next (q ++ b ∷ []) becomes.1 is_some))
        by-reading (whole u) is is_some becomes =
            over-walks m (q ++ b ∷ []) bytes (step e b (make_reached s r)) s next
            (over_alone law m (q ++ b ∷ []) bytes (some_more q b) (λ g. subst Goes is g)
            (λ x. ap (λ y. is_left_out y x) is) is_some)
            (subst (λ x. Becomes e x (step e b (make_reached s r)) s m (q ++ b ∷ []) next) (sym is) becomes)
        by-reading dropped is is_some becomes =
            over-walks m (q ++ b ∷ []) bytes (step e b (make_reached s r)) s next
            (over_alone law m (q ++ b ∷ []) bytes (some_more q b) (λ g. subst Goes is g)
            (λ x. ap (λ y. is_left_out y x) is) is_some)
            (subst (λ x. Becomes e x (step e b (make_reached s r)) s m (q ++ b ∷ []) next) (sym is) becomes)
        by-reading none is is_some becomes = absurd becomes

    walk-more : Walks (b ∷ bytes) s r m q
    walk-more = ⊎_elim acting
        (λ (act : acts_in (reading m q) b ≡ false). ⊎_elim (ignoring act) (growing act)
        (cases_Bool (is_ignored_in (reading m q) b)))
        (cases_Bool (acts_in (reading m q) b))

  pub walk : (bytes : List ℕ) (m : Mode) (s : S) (r : Rest) (q : List ℕ) → St e s r m q
      → IsSome (reading m (text_of m q bytes)) → Walks bytes s r m q
  walk [] m s r q st some = stays s r m q st some
  walk (b ∷ bytes) m s r q st some = walk-more m b bytes (walk bytes m) s r q st some
