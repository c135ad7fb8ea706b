-- The unfinished texts are the proper prefixes of units.
use Rattle.std.proofs.Common.{◌≡◌, ◌≢◌, ℕ, ◌==◌, ◌≤◌, ◌<◌, ◌+◌, ◌-◌, Bool, true, false, ◌&&◌, List, [], ◌∷◌, ◌++◌, length, take, drop, refl, sym, ap, ◌∙◌, subst, arith, ⊎_elim}
use Rattle.std.specs.Prelude.{nat_lt}
use Rattle.std.proofs.lemmas.Bool.{and_parts, and_from, cases_Bool, cond-true, cond-false, eqb-true, lt-ltb, ltb-true, false≢true, false_from_ne_true}
use Rattle.std.proofs.lemmas.List.{append-nil, append_assoc, length-append, length-drop, length-take-le, take-append-drop, take-append-le, take-take, take_at}
use Rattle.vt_chars.specs.Utf8.{Begins, UnfinishedBegins, decoding_of, is_begun, is_well_formed}
use Rattle.vt_chars.specs.declared.decoded.Decoded.{Decoded}
use Rattle.vt_chars.specs.declared.decoded.Decoded.TheVariants.{Character, Unfinished, Malformed}
use Rattle.vt_units.proofs.Opens.{Goes, IsSome, Opens, alone_ends, by_test, opens_control, opens_escape}
use Rattle.vt_units.proofs.Readings.{short_reading}
use Rattle.vt_units.specs.Bytes.{decodes, is_control, is_csi}
use Rattle.vt_units.specs.Reading.{Kind, Reading, whole, dropped, unfinished, none, begins_csi, character_reading, character_text, is_sequence, overlong, reading, text_reading}
use Rattle.vt_units.specs.Units.{Before, IsUnfinished, Spells}
use Rattle.vt_units.specs.declared.mode.Mode.{Mode}
use Rattle.vt_units.specs.declared.unit.Unit as units

-- what a text in UTF-8 is, by a decoded text that isn't malformed
module _ (law : UnfinishedBegins) where
  formed : (w : List ℕ) (code : ℕ) → decoding_of w ≡ Character code → is_well_formed w ≡ true
  formed w code is = ⊎_elim
      (λ (whole_one : is_well_formed w ≡ true). whole_one)
      (λ (not_whole : is_well_formed w ≡ false). ⊎_elim
      (λ (begun : is_begun w ≡ true).
      let e : decoding_of w ≡ Unfinished = cond-false _ _ _ not_whole ∙ cond-true _ _ _ begun in
      absurd (let wrong : ⊥ = cc in wrong))
      (λ (not_begun : is_begun w ≡ false).
      let e : decoding_of w ≡ Malformed = cond-false _ _ _ not_whole ∙ cond-false _ _ _ not_begun in
      absurd (let wrong : ⊥ = cc in wrong))
      (cases_Bool (is_begun w)))
      (cases_Bool (is_well_formed w))

  some-more : (x : ℕ) (xs : List ℕ) → x ∷ xs ≢ []
  some-more x xs e = cc

  prefix-by : (d : Decoded) (t : List ℕ) (x : ℕ) (xs : List ℕ) → decoding_of (t ++ x ∷ xs) ≡ d → d ≢ Malformed
      → t ≢ [] → decoding_of t ≡ Unfinished
  prefix-by (Character code) t x xs is well some =
      (law t).1 (some, (x ∷ xs, some-more x xs, formed (t ++ x ∷ xs) code is))
  prefix-by Unfinished t x xs is well some =
      let begins : Begins (t ++ x ∷ xs) = ((law (t ++ x ∷ xs)).0 is).1 in
      (law t).1 (
        some,
        (
          x ∷ (xs ++ begins.0),
          some-more x (xs ++ begins.0),
          subst (λ zs. is_well_formed zs ≡ true) (append_assoc t (x ∷ xs) begins.0) begins.2,
        ),
      )
  prefix-by Malformed t x xs is well some = absurd (well refl)

  -- a text of at least two bytes that is something isn't malformed
  not-malformed : (a : ℕ) (more : List ℕ) (d : Decoded) → more ≢ []
      → IsSome (character_reading (a ∷ more) d) → d ≢ Malformed
  not-malformed a [] d some is e = some refl
  not-malformed a (b ∷ more) d some is e = subst (λ x. IsSome (character_reading (a ∷ b ∷ more) x)) e is

  opens-decoded : (a : ℕ) (p : List ℕ) (x : ℕ) (xs : List ℕ)
      → IsSome (character_reading (a ∷ p ++ x ∷ xs) (decoding_of (a ∷ p ++ x ∷ xs)))
      → Goes (character_reading (a ∷ p) (decoding_of (a ∷ p)))
  opens-decoded a p x xs is =
      let well : decoding_of (a ∷ p ++ x ∷ xs) ≢ Malformed =
      not-malformed a (p ++ x ∷ xs) (decoding_of (a ∷ p ++ x ∷ xs)) (behind-some p) is in
      let begun : decoding_of (a ∷ p) ≡ Unfinished =
      prefix-by (decoding_of (a ∷ p ++ x ∷ xs)) (a ∷ p) x xs refl well (some-more a p) in
      subst (λ d. Goes (character_reading (a ∷ p) d)) (sym begun) tt
    where
      behind-some : (q : List ℕ) → q ++ x ∷ xs ≢ []
      behind-some [] e = cc
      behind-some (y ∷ q) e = cc

  opens-character : (m : Mode) (a : ℕ) → Opens (λ p. character_text m (a ∷ p))
  opens-character m a [] x xs some = ⊎_elim
      (λ (csi : begins_csi (a ∷ x ∷ xs) ≡ true).
      let first : a ≡ 0xC2 = eqb-true a 0xC2 (and_parts _ _ csi).0 in
      subst (λ b. Goes (character_text m (b ∷ []))) (sym first) tt)
      (λ (no_csi : begins_csi (a ∷ x ∷ xs) ≡ false).
      opens-decoded a [] x xs (subst IsSome (cond-false _ _ _ no_csi) some))
      (cases_Bool (begins_csi (a ∷ x ∷ xs)))
  opens-character m a (b ∷ p) x xs some =
      by_test (a == 0xC2 && b == 0x9B) _ _ _ _ (opens_control m p x xs) (opens-decoded a (b ∷ p) x xs) some

  opens-text : (m : Mode) (a : ℕ) → Opens (λ p. text_reading m (a ∷ p))
  opens-text m a p x xs some =
      by_test (a == 0x1B) _ _ _ _ (opens_escape m p x xs)
      (by_test (is_csi m a) _ _ _ _ (opens_control m p x xs)
      (by_test (is_control m a) _ _ _ _ (λ single. absurd (alone_ends p x xs _ single))
      (by_test (decodes m) _ _ _ _ (opens-character m a p x xs)
      (λ single. absurd (alone_ends p x xs _ single))))) some

  opens-some : (m : Mode) (t : List ℕ) (x : ℕ) (xs : List ℕ) → t ≢ []
      → IsSome (text_reading m (t ++ x ∷ xs)) → Goes (text_reading m t)
  opens-some m [] x xs some is = absurd (some refl)
  opens-some m (a ∷ t) x xs some is = opens-text m a t x xs is

  abbrev is_long : Mode → List ℕ → Bool
  is_long m t = nat_lt 256 (length t) && is_sequence (text_reading m (take 256 t))

  -- a part of a text is too long only where the text is
  long-part : (m : Mode) (t more : List ℕ) → is_long m t ≡ true → is_long m (t ++ more) ≡ true
  long-part m t more long =
      let p : (nat_lt 256 (length t) ≡ true) × (is_sequence (text_reading m (take 256 t)) ≡ true) =
      and_parts _ _ long in
      let over : 256 < length t = ltb-true 256 (length t) p.0 in
      let len : length (t ++ more) ≡ length t + length more = length-append t more in
      let same : take 256 (t ++ more) ≡ take 256 t = take-append-le 256 t more (omega arith) in
      and_from _ _ (lt-ltb 256 (length (t ++ more)) (omega arith))
      (ap (λ xs. is_sequence (text_reading m xs)) same ∙ p.1)

  -- a front of a text of which the first bytes go on
  goes-front : (m : Mode) (t whole_text : List ℕ) → t ≢ [] → length t ≤ 256 → take (length t) whole_text ≡ t
      → length whole_text ≡ 256 → Goes (text_reading m whole_text) → Goes (text_reading m t)
  goes-front m t w some short is full goes =
      front-of (drop (length t) w) (sym (take-append-drop (length t) w) ∙ ap (λ xs. xs ++ drop (length t) w) is)
    where
      some-goes : (r : Reading) → Goes r → IsSome r
      some-goes (unfinished k) g = tt
      some-goes (whole u) g = absurd g
      some-goes dropped g = absurd g
      some-goes none g = absurd g

      front-of : (rest : List ℕ) → w ≡ t ++ rest → Goes (text_reading m t)
      front-of [] all = subst (λ xs. Goes (text_reading m xs)) (all ∙ append-nil t) goes
      front-of (x ∷ xs) all =
          opens-some m t x xs some (some-goes _ (subst (λ zs. Goes (text_reading m zs)) all goes))

  sequence-goes : (r : Reading) → is_sequence r ≡ true → Goes r
  sequence-goes (unfinished k) is = tt
  sequence-goes (whole u) is = absurd (false≢true is)
  sequence-goes dropped is = absurd (false≢true is)
  sequence-goes none is = absurd (false≢true is)

  overlong-one : (m : Mode) (xs : List ℕ) → IsSome (overlong m xs) → length xs ≤ 1
  overlong-one m [] some = omega arith
  overlong-one m (x ∷ []) some = omega arith
  overlong-one m (x ∷ y ∷ xs) some = absurd some

  pub opens_reading : (m : Mode) (t : List ℕ) (x : ℕ) (xs : List ℕ) → t ≢ []
      → IsSome (reading m (t ++ x ∷ xs)) → Goes (reading m t)
  opens_reading m t x xs some is = ⊎_elim
      (λ (long : is_long m (t ++ x ∷ xs) ≡ true).
      let p : (nat_lt 256 (length (t ++ x ∷ xs)) ≡ true)
      × (is_sequence (text_reading m (take 256 (t ++ x ∷ xs))) ≡ true) = and_parts _ _ long in
      let over : 256 < length (t ++ x ∷ xs) = ltb-true 256 (length (t ++ x ∷ xs)) p.0 in
      let one : length (drop 256 (t ++ x ∷ xs)) ≤ 1 =
      overlong-one m (drop 256 (t ++ x ∷ xs)) (subst IsSome (cond-true _ _ _ long) is) in
      let left : length (drop 256 (t ++ x ∷ xs)) ≡ length (t ++ x ∷ xs) - 256 =
      length-drop 256 (t ++ x ∷ xs) in
      let len : length (t ++ x ∷ xs) ≡ length t + length (x ∷ xs) = length-append t (x ∷ xs) in
      let short : length t ≤ 256 = omega arith in
      let full : length (take 256 (t ++ x ∷ xs)) ≡ 256 =
      length-take-le 256 (t ++ x ∷ xs) (omega arith) in
      let front : take (length t) (take 256 (t ++ x ∷ xs)) ≡ t =
      take-take (length t) 256 (t ++ x ∷ xs) short ∙ take_at t (x ∷ xs) (length t) refl in
      subst Goes (sym (short_reading m t short))
      (goes-front m t (take 256 (t ++ x ∷ xs)) some short front full (sequence-goes _ p.1)))
      (λ (not_long : is_long m (t ++ x ∷ xs) ≡ false).
      let here : is_long m t ≡ false =
      false_from_ne_true _ (λ long. false≢true (sym not_long ∙ long-part m t (x ∷ xs) long)) in
      subst Goes (sym (cond-false _ _ _ here))
      (opens-some m t x xs some (subst IsSome (cond-false _ _ _ not_long) is)))
      (cases_Bool (is_long m (t ++ x ∷ xs)))

  goes-kind : (r : Reading) → Goes r → (k : Kind) × (r ≡ unfinished k)
  goes-kind (unfinished k) g = (k, refl)
  goes-kind (whole u) g = absurd g
  goes-kind dropped g = absurd g
  goes-kind none g = absurd g

  spelled-some : (m : Mode) (t : List ℕ) (u : units.Unit) → Spells m t u → IsSome (reading m t)
  spelled-some m t u spelled = ⊎_elim
      (λ is. subst IsSome (sym is) tt)
      (λ is. subst IsSome (sym is.0) tt)
      spelled

  pub before_unfinished : (m : Mode) (t : List ℕ) → Before m t → IsUnfinished m t
  before_unfinished m t (some, x, more, u, spelled) =
      goes-kind (reading m t) (opens_reading m t x more some (spelled-some m (t ++ x ∷ more) u spelled))
