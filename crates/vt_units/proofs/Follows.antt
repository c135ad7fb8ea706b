-- The reading of an unfinished text with one more byte, by its kind, phrase by phrase.
use Rattle.std.proofs.Common.{◌≡◌, ℕ, ◌==◌, ◌≤◌, ◌<◌, ◌+◌, Bool, true, false, cond, ◌&&◌, List, [], ◌∷◌, ◌++◌, length, refl, sym, ap, ◌∙◌, subst, arith, ⊎_elim}
use Rattle.std.specs.Prelude.{nat_lt}
use Rattle.std.proofs.lemmas.Bool.{and_parts, and_left, cases_Bool, cases_lt, cond-true, cond-false, eq-eqb, lt-ltb, le-ltb, or_from, not_from_false, false≢true}
use Rattle.std.proofs.lemmas.Bool.Decides.{nat_tests}
use Rattle.std.proofs.lemmas.List.{append-nil, append_assoc, length-append}
use Rattle.vt_chars.specs.Utf8.{decoding_of, within}
use Rattle.vt_chars.specs.declared.decoded.Decoded.{Decoded}
use Rattle.vt_chars.specs.declared.decoded.Decoded.TheVariants.{Character, Unfinished, Malformed}
use Rattle.vt_units.proofs.Fronts.{IsCut, after_prefix_pass, after_prefix_stop, cut, longest_prefix_pass, longest_prefix_stop}
use Rattle.vt_units.proofs.Opens.{IsSome}
use Rattle.vt_units.specs.Bytes.{decodes, is_body, is_control, is_csi, is_digit, is_hex, is_mid, is_swallowed, joins, joins_command, opens_string}
use Rattle.vt_units.specs.Reading.{Kind, Reading, whole, dropped, unfinished, none, character, sequence, command, string, string_end, alone, after_prefix, bracket_text, character_reading, character_text, command_text, control_ends, control_text, escape_ends, escape_text, longest_prefix, is_empty, palette_ends, palette_text, dropped_or_none, dropped_or_none_command, string_ends, string_tail, string_text, text_reading}
use Rattle.vt_units.specs.Sequences.{control_unit, escape_unit}
use Rattle.vt_units.specs.ParserState.{Each}
use Rattle.vt_units.specs.declared.mode.Mode.{Mode}
use Rattle.vt_units.specs.declared.unit.Unit as units
use Rattle.vt_units.specs.declared.unit.Unit.TheVariants.{Ignored}

-- the bytes that a sequence can admit
abbrev pub admits : ℕ → Bool
admits b = within 0x20 0x7E b

abbrev pub admits_command : ℕ → Bool
admits_command b = within 0x30 0x66 b

-- a byte of a string
abbrev pub string_next : ℕ → Reading
string_next b = cond (is_swallowed b) (unfinished string) (cond (b == 0x1B) (unfinished string_end) (whole Ignored))

-- what a text that was unfinished is with b
abbrev pub After : Mode → Kind → ℕ → Reading → Type 0
After m character b r = Unit {0}
After m sequence b r = (admits b ≡ true → IsSome r) × (admits b ≡ false → r ≡ dropped_or_none m b)
After m command b r = (admits_command b ≡ true → IsSome r) × (admits_command b ≡ false → r ≡ dropped_or_none_command m b)
After m string b r = r ≡ string_next b
After m string_end b r = r ≡ cond (b == 0x5C) (whole Ignored) none

abbrev pub Follows : Mode → ℕ → (List ℕ → Reading) → Type 0
Follows m b f = (t : List ℕ) (k : Kind) → f t ≡ unfinished k → After m k b (f (t ++ b ∷ []))

admitted_joins : (m : Mode) (b : ℕ) → admits b ≡ true → joins m b ≡ true
admitted_joins m b is = grind (arith, nat_tests)

admitted_joins-command : (m : Mode) (b : ℕ) → admits_command b ≡ true → joins_command m b ≡ true
admitted_joins-command m b is = grind (arith, nat_tests)

pub dropped_or_none_some : (m : Mode) (b : ℕ) → admits b ≡ true → IsSome (dropped_or_none m b)
dropped_or_none_some m b is = subst IsSome (sym (cond-true _ _ _ (admitted_joins m b is))) tt

dropped_or_none_command_some : (m : Mode) (b : ℕ) → admits_command b ≡ true → IsSome (dropped_or_none_command m b)
dropped_or_none_command_some m b is = subst IsSome (sym (cond-true _ _ _ (admitted_joins-command m b is))) tt

-- the kind of a text is one
at_kind : (m : Mode) (b : ℕ) (j k : Kind) (r : Reading) → unfinished j ≡ unfinished k → After m j b r → After m k b r
at_kind m b j k r same after = let e : j ≡ k = cc in subst (λ i. After m i b r) e after

goes_on : (m : Mode) (b : ℕ) → admits b ≡ true → After m sequence b (unfinished sequence)
goes_on m b is = ((λ e. tt), (λ e. absurd (false≢true (sym e ∙ is))))

-- a last byte, or one that is refused
ends_or-dropped_or_none : (m : Mode) (b : ℕ) (c : Bool) (u : units.Unit) → (c ≡ true → admits b ≡ true)
    → After m sequence b (cond c (whole u) (dropped_or_none m b))
ends_or-dropped_or_none m b true u is = ((λ e. tt), (λ e. absurd (false≢true (sym e ∙ is refl))))
ends_or-dropped_or_none m b false u is = (dropped_or_none_some m b, (λ e. refl))

ends_or-dropped_or_none_command : (m : Mode) (b : ℕ) (c : Bool) (u : units.Unit) → (c ≡ true → admits_command b ≡ true)
    → After m command b (cond c (whole u) (dropped_or_none_command m b))
ends_or-dropped_or_none_command m b true u is = ((λ e. tt), (λ e. absurd (false≢true (sym e ∙ is refl))))
ends_or-dropped_or_none_command m b false u is = (dropped_or_none_command_some m b, (λ e. refl))

-- what ends isn't unfinished
abbrev pub IsOut : Reading → Type 0
IsOut r = (k : Kind) → r ≡ unfinished k → ⊥

out_whole : (u : units.Unit) → IsOut (whole u)
out_whole u k e = cc

pub out_dropped_or_none : (m : Mode) (b : ℕ) → IsOut (dropped_or_none m b)
out_dropped_or_none m b = by-cond (joins m b)
  where
    by-cond : (c : Bool) → IsOut (cond c dropped none)
    by-cond true k e = cc
    by-cond false k e = cc

out_dropped_or_none_command : (m : Mode) (b : ℕ) → IsOut (dropped_or_none_command m b)
out_dropped_or_none_command m b = by-cond (joins_command m b)
  where
    by-cond : (c : Bool) → IsOut (cond c dropped none)
    by-cond true k e = cc
    by-cond false k e = cc

out_cond : (c : Bool) (a b : Reading) → IsOut a → IsOut b → IsOut (cond c a b)
out_cond true a b first second = first
out_cond false a b first second = second

pub out_none : IsOut none
out_none k e = cc

pub out_alone : (ys : List ℕ) (r : Reading) → IsOut r → IsOut (alone ys r)
out_alone [] r is = is
out_alone (y ∷ ys) r is = out_none

follow_test : (m : Mode) (b : ℕ) (k : Kind) (c : Bool) (first second first_more second_more : Reading)
    → (first ≡ unfinished k → After m k b first_more) → (second ≡ unfinished k → After m k b second_more)
    → cond c first second ≡ unfinished k → After m k b (cond c first_more second_more)
follow_test m b k true first second first_more second_more one other is = one is
follow_test m b k false first second first_more second_more one other is = other is

follow_cut : (m : Mode) (b : ℕ) (p : ℕ → Bool) (ends : List ℕ → List ℕ → Reading)
    → ((q : List ℕ) (k : Kind) → p b ≡ true → ends q [] ≡ unfinished k → After m k b (ends (q ++ b ∷ []) []))
    → ((q : List ℕ) (k : Kind) → p b ≡ false → ends q [] ≡ unfinished k → After m k b (ends q (b ∷ [])))
    → ((q : List ℕ) (y : ℕ) → Follows m b (λ ys. ends q (y ∷ ys)))
    → Follows m b (λ t. ends (longest_prefix p t) (after_prefix p t))
follow_cut m b p ends goes stops further t k is = ⊎_elim
    (λ (passes : Each p t).
    let fronts : longest_prefix p t ≡ t = ap (longest_prefix p) (sym (append-nil t)) ∙ longest_prefix_pass p t [] passes ∙ append-nil t in
    let nothing : after_prefix p t ≡ [] = ap (after_prefix p) (sym (append-nil t)) ∙ after_prefix_pass p t [] passes in
    let here : ends t [] ≡ unfinished k = sym (λ i. ends (fronts i) (nothing i)) ∙ is in
    ⊎_elim
    (λ (go : p b ≡ true).
    let front_more : longest_prefix p (t ++ b ∷ []) ≡ t ++ b ∷ [] =
    longest_prefix_pass p t (b ∷ []) passes ∙ ap (λ xs. t ++ xs) (cond-true _ _ _ go) in
    let behind_more : after_prefix p (t ++ b ∷ []) ≡ [] = after_prefix_pass p t (b ∷ []) passes ∙ cond-true _ _ _ go in
    subst (After m k b) (sym (λ i. ends (front_more i) (behind_more i))) (goes t k go here))
    (λ (stop : p b ≡ false).
    subst (After m k b) (sym (λ i. ends (longest_prefix_stop p t b [] passes stop i) (after_prefix_stop p t b [] passes stop i)))
    (stops t k stop here))
    (cases_Bool (p b)))
    (λ (c : IsCut p t).
    let all : t ++ b ∷ [] ≡ c.before ++ c.stop ∷ (c.after ++ b ∷ []) =
    ap (λ zs. zs ++ b ∷ []) c.is ∙ append_assoc c.before (c.stop ∷ c.after) (b ∷ []) in
    let more : ends (longest_prefix p (t ++ b ∷ [])) (after_prefix p (t ++ b ∷ []))
    ≡ ends c.before (c.stop ∷ (c.after ++ b ∷ [])) =
    ap (λ zs. ends (longest_prefix p zs) (after_prefix p zs)) all
    ∙ (λ i. ends (longest_prefix_stop p c.before c.stop (c.after ++ b ∷ []) c.passes c.stops i)
    (after_prefix_stop p c.before c.stop (c.after ++ b ∷ []) c.passes c.stops i)) in
    let here : ends (longest_prefix p t) (after_prefix p t) ≡ ends c.before (c.stop ∷ c.after) =
    ap (λ zs. ends (longest_prefix p zs) (after_prefix p zs)) c.is
    ∙ (λ i. ends (longest_prefix_stop p c.before c.stop c.after c.passes c.stops i)
    (after_prefix_stop p c.before c.stop c.after c.passes c.stops i)) in
    subst (After m k b) (sym more) (further c.before c.stop c.after k (sym here ∙ is)))
    (cut p t)

module _ (m : Mode) (b : ℕ) where
  follows-bracket : Follows m b (bracket_text m)
  follows-bracket [] k is = at_kind m b sequence k _ is (ends_or-dropped_or_none m b (within 0x20 0x7E b) Ignored (λ e. e))
  follows-bracket (last ∷ more) k is =
      absurd (out_alone more _ (out_cond _ _ _ (out_whole Ignored) (out_dropped_or_none m last)) k is)

  control-out : (q : List ℕ) (y : ℕ) (ys : List ℕ)
      → IsOut (alone ys (cond (within 0x40 0x7E y) (whole (control_unit q y)) (dropped_or_none m y)))
  control-out q y ys = out_alone ys _ (out_cond _ _ _ (out_whole _) (out_dropped_or_none m y))

  follows-control : Follows m b (control_text m)
  follows-control = follow_cut m b is_body (control_ends m)
      (λ q k go is. at_kind m b sequence k _ is (goes_on m b (body-admits go)))
      (λ q k stop is. at_kind m b sequence k _ is (control-stops q))
      (λ q y ys k is. follow_test m b k (is_empty q && y == 0x5B) _ _ _ _ (follows-bracket ys k)
      (λ single. absurd (control-out q y ys k single)) is)
    where
      body-admits : is_body b ≡ true → admits b ≡ true
      body-admits is = grind (arith, nat_tests)

      sign-admits : (b == 0x5B) ≡ true → admits b ≡ true
      sign-admits is = grind (arith, nat_tests)

      last-admits : within 0x40 0x7E b ≡ true → admits b ≡ true
      last-admits is = grind (arith, nat_tests)

      by-sign : (c : Bool) (q : List ℕ) → (c ≡ true → admits b ≡ true)
          → After m sequence b (cond c (unfinished sequence) (cond (within 0x40 0x7E b) (whole (control_unit q b)) (dropped_or_none m b)))
      by-sign true q is = goes_on m b (is refl)
      by-sign false q is = ends_or-dropped_or_none m b (within 0x40 0x7E b) (control_unit q b) last-admits

      control-stops : (q : List ℕ) → After m sequence b (control_ends m q (b ∷ []))
      control-stops q = by-sign (is_empty q && b == 0x5B) q (λ e. sign-admits (and_parts (is_empty q) (b == 0x5B) e).1)

  follows-tail : Follows m b string_tail
  follows-tail [] k is = at_kind m b string_end k _ is refl
  follows-tail (last ∷ more) k is = absurd (out_alone more _ (out_cond _ _ _ (out_whole Ignored) out_none) k is)

  follows-string : Follows m b string_text
  follows-string = follow_cut m b is_swallowed (λ q. string_ends)
      (λ q k go is. at_kind m b string k _ is (sym (cond-true _ _ _ go)))
      (λ q k stop is. at_kind m b string k _ is (sym (cond-false _ _ _ stop)))
      (λ q y ys k is. follow_test m b k (y == 0x1B) _ _ _ _ (follows-tail ys k)
      (λ single. absurd (out_alone ys _ (out_whole Ignored) k single)) is)

  -- a colour that isn't finished
  few-of : (q : List ℕ) (k : Kind) → palette_ends m q [] ≡ unfinished k → (length q < 7) × (unfinished command ≡ unfinished k)
  few-of q k is = ⊎_elim
      (λ (few : length q < 7). (few, sym (cond-true _ _ _ (lt-ltb (length q) 7 few)) ∙ is))
      (λ (many : 7 ≤ length q). absurd (out_cond _ _ _ (out_whole _) out_none k
      (sym (cond-false _ _ _ (le-ltb (length q) 7 many)) ∙ is)))
      (cases_lt (length q) 7)

  hex-admits : is_hex b ≡ true → admits_command b ≡ true
  hex-admits is = grind (arith, nat_tests)

  palette-goes-on : (q : List ℕ) → length q < 7 → is_hex b ≡ true → After m command b (palette_ends m (q ++ b ∷ []) [])
  palette-goes-on q few go =
      let len : length (q ++ b ∷ []) ≡ length q + 1 = length-append q (b ∷ []) in (
        (λ e. ⊎_elim
            (λ (fewer : length (q ++ b ∷ []) < 7). subst IsSome (sym (cond-true _ _ _ (lt-ltb (length (q ++ b ∷ [])) 7 fewer))) tt)
            (λ (seven : 7 ≤ length (q ++ b ∷ [])).
            subst IsSome (sym (cond-false _ _ _ (le-ltb (length (q ++ b ∷ [])) 7 seven)
            ∙ cond-true _ _ _ (eq-eqb (length (q ++ b ∷ [])) 7 (omega arith)))) tt)
            (cases_lt (length (q ++ b ∷ [])) 7)),
        (λ e. absurd (false≢true (sym e ∙ hex-admits go))),
      )

  follows-palette : Follows m b (palette_text m)
  follows-palette = follow_cut m b is_hex (palette_ends m)
      (λ q k go is.
      let few : (length q < 7) × (unfinished command ≡ unfinished k) = few-of q k is in
      at_kind m b command k _ few.1 (palette-goes-on q few.0 go))
      (λ q k stop is.
      let few : (length q < 7) × (unfinished command ≡ unfinished k) = few-of q k is in
      at_kind m b command k _ few.1
      (subst (After m command b) (sym (cond-true _ _ _ (lt-ltb (length q) 7 few.0)))
      (dropped_or_none_command_some m b, (λ e. refl))))
      (λ q y ys k is. absurd (out_cond _ _ _ (out_alone ys _ (out_dropped_or_none_command m y)) out_none k is))

  follows-command : Follows m b (command_text m)
  follows-command [] k is = at_kind m b command k _ is
      (by-digit (is_digit b) digit-admits)
    where
      digit-admits : is_digit b ≡ true → admits_command b ≡ true
      digit-admits is = grind (arith, nat_tests)

      letter-admits : (b == 0x50) ≡ true → admits_command b ≡ true
      letter-admits is = grind (arith, nat_tests)

      reset-admits : (b == 0x52) ≡ true → admits_command b ≡ true
      reset-admits is = grind (arith, nat_tests)

      by-letter : (c : Bool) → (c ≡ true → admits_command b ≡ true)
          → After m command b (cond c (palette_text m []) (cond (b == 0x52) (whole units.Unit.ColourReset) (dropped_or_none_command m b)))
      by-letter true is = ((λ e. tt), (λ e. absurd (false≢true (sym e ∙ is refl))))
      by-letter false is = ends_or-dropped_or_none_command m b (b == 0x52) units.Unit.ColourReset reset-admits

      by-digit : (c : Bool) → (c ≡ true → admits_command b ≡ true)
          → After m command b (cond c (string_text []) (cond (b == 0x50) (palette_text m [])
          (cond (b == 0x52) (whole units.Unit.ColourReset) (dropped_or_none_command m b))))
      by-digit true is = ((λ e. tt), (λ e. absurd (false≢true (sym e ∙ is refl))))
      by-digit false is = by-letter (b == 0x50) letter-admits
  follows-command (a ∷ more) k is =
      follow_test m b k (is_digit a) _ _ _ _ (follows-string more k)
      (follow_test m b k (a == 0x50) _ _ _ _ (follows-palette more k)
      (λ single. absurd (out_alone more _ (out_cond _ _ _ (out_whole _) (out_dropped_or_none_command m a)) k single))) is

  escape-out : (q : List ℕ) (y : ℕ) (ys : List ℕ)
      → IsOut (alone ys (cond (within 0x30 0x7E y) (whole (escape_unit q y)) (dropped_or_none m y)))
  escape-out q y ys = out_alone ys _ (out_cond _ _ _ (out_whole _) (out_dropped_or_none m y))

  follows-escape : Follows m b (escape_text m)
  follows-escape = follow_cut m b is_mid (escape_ends m)
      (λ q k go is. at_kind m b sequence k _ is (goes_on m b (mid-admits go)))
      (λ q k stop is. at_kind m b sequence k _ is (escape-stops q))
      (λ q y ys k is.
      follow_test m b k (is_empty q && opens_string y) _ _ _ _ (follows-string ys k)
      (follow_test m b k (is_empty q && y == 0x5B) _ _ _ _ (follows-control ys k)
      (follow_test m b k (is_empty q && y == 0x5D) _ _ _ _ (follows-command ys k)
      (λ single. absurd (escape-out q y ys k single)))) is)
    where
      mid-admits : is_mid b ≡ true → admits b ≡ true
      mid-admits is = grind (arith, nat_tests)

      opener-admits : opens_string b ≡ true → admits b ≡ true
      opener-admits is = grind (arith, nat_tests)

      bracket-admits : (b == 0x5B) ≡ true → admits b ≡ true
      bracket-admits is = grind (arith, nat_tests)

      close-admits : (b == 0x5D) ≡ true → admits b ≡ true
      close-admits is = grind (arith, nat_tests)

      last-admits : within 0x30 0x7E b ≡ true → admits b ≡ true
      last-admits is = grind (arith, nat_tests)

      some-first : (c : Bool) (k : Kind) (r : Reading) → (c ≡ true → admits b ≡ true) → After m sequence b r
          → After m sequence b (cond c (unfinished k) r)
      some-first true k r is after = ((λ e. tt), (λ e. absurd (false≢true (sym e ∙ is refl))))
      some-first false k r is after = after

      escape-stops : (q : List ℕ) → After m sequence b (escape_ends m q (b ∷ []))
      escape-stops q =
          some-first (is_empty q && opens_string b) string (cond (is_empty q && b == 0x5B) (unfinished sequence) (cond (is_empty q && b == 0x5D) (unfinished command) (cond (within 0x30 0x7E b) (whole (escape_unit q b)) (dropped_or_none m b)))) (λ e. opener-admits (and_parts (is_empty q) (opens_string b) e).1)
          (some-first (is_empty q && b == 0x5B) sequence (cond (is_empty q && b == 0x5D) (unfinished command) (cond (within 0x30 0x7E b) (whole (escape_unit q b)) (dropped_or_none m b))) (λ e. bracket-admits (and_parts (is_empty q) (b == 0x5B) e).1)
          (some-first (is_empty q && b == 0x5D) command (cond (within 0x30 0x7E b) (whole (escape_unit q b)) (dropped_or_none m b)) (λ e. close-admits (and_parts (is_empty q) (b == 0x5D) e).1)
          (ends_or-dropped_or_none m b (within 0x30 0x7E b) (escape_unit q b) last-admits)))

  character-kind : (w : List ℕ) (d : Decoded) (k : Kind) (r : Reading) → character_reading w d ≡ unfinished k → After m k b r
  character-kind w (Character code) k r is = absurd (let wrong : ⊥ = cc in wrong)
  character-kind w Unfinished k r is = at_kind m b character k r is tt
  character-kind w Malformed k r is = absurd (out_alone _ _ (out_whole _) k is)

  follows-character : (a : ℕ) → Follows m b (λ p. character_text m (a ∷ p))
  follows-character a [] k is = character-kind (a ∷ []) (decoding_of (a ∷ [])) k _ is
  follows-character a (c ∷ p) k is =
      follow_test m b k (a == 0xC2 && c == 0x9B) _ _ _ _ (follows-control p k)
      (character-kind (a ∷ c ∷ p) (decoding_of (a ∷ c ∷ p)) k _) is

  follows-first : (a : ℕ) → Follows m b (λ p. text_reading m (a ∷ p))
  follows-first a p k is =
      follow_test m b k (a == 0x1B) _ _ _ _ (follows-escape p k)
      (follow_test m b k (is_csi m a) _ _ _ _ (follows-control p k)
      (follow_test m b k (is_control m a) _ _ _ _ (λ single. absurd (out_alone p _ (out_whole _) k single))
      (follow_test m b k (decodes m) _ _ _ _ (follows-character a p k)
      (λ single. absurd (out_alone p _ (out_whole _) k single))))) is

  pub follows_text : Follows m b (text_reading m)
  follows_text [] k is = absurd (out_none k is)
  follows_text (a ∷ p) k is = follows-first a p k is
