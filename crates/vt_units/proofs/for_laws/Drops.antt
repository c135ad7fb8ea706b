-- When a byte drops a sequence.
use Rattle.std.proofs.Common.{◌≡◌, ◌↔◌, ℕ, ◌==◌, Bool, true, false, cond, not, [], ◌∷◌, ◌++◌, refl, sym, ap, ◌∙◌, subst, arith, ⊎_elim}
use Rattle.std.specs.Prelude.{nat_lt}
use Rattle.std.proofs.lemmas.Bool.{and_parts, cases_Bool, cond-true, cond-false, eqb-true, not_from_false, not_from_true, or_from, or_left, or_right}
use Rattle.std.proofs.lemmas.Bool.Decides.{nat_tests}
use Rattle.vt_chars.specs.Utf8.{decoding_of}
use Rattle.vt_chars.specs.declared.decoded.Decoded.{Decoded}
use Rattle.vt_chars.specs.declared.decoded.Decoded.TheVariants.{Character, Unfinished, Malformed}
use Rattle.vt_units.proofs.for_laws.Broken.{one_some, string_some}
use Rattle.vt_units.proofs.Follows.{After, admits, admits_command, string_next}
use Rattle.vt_units.proofs.Opens.{IsSome}
use Rattle.vt_units.proofs.Steps.{follows_reading}
use Rattle.vt_units.proofs.Walks.{IsStringRest, string-text, whole_rest}
use Rattle.vt_units.specs.Answer.{RestBefore, ByteOutcome, acts_in, goes_on, outcome_of_text, outcome_by_reading, unbroken_rest, rest_before_by, make_outcome, byte_outcome, vanishes_in}
use Rattle.vt_units.specs.Bytes.{acts, decodes, interrupts, is_control, is_csi, is_swallowed, joins, joins_command}
use Rattle.vt_units.specs.Laws.{DropsExactly}
use Rattle.vt_units.specs.Reading.{Kind, Reading, character, sequence, command, string, string_end, whole, dropped, unfinished, none, byte_unit, character_reading, reading}
use Rattle.vt_units.specs.Rest.{Rest, fresh}
use Rattle.vt_units.specs.ParserState.{rest_of}
use Rattle.vt_units.specs.Units.{IsUnfinished}
use Rattle.vt_units.specs.declared.mode.Mode.{Mode}
use Rattle.vt_units.specs.declared.then.Then as then
use Rattle.vt_units.specs.declared.unit.Unit as units

-- the law, of a rest from which nothing more ends
abbrev Drops : Rest → ℕ → Type 0
Drops r b = ((byte_outcome r b).got ≡ then.Then.Dropped) ↔ (reading r.mode (r.text ++ b ∷ []) ≡ dropped)

outcome_of_text_drops : (now : Reading) (r : Rest) (b : ℕ) → IsSome now
    → ((outcome_by_reading now r b).got ≡ then.Then.Dropped) ↔ (now ≡ dropped)
outcome_of_text_drops (whole u) r b some = ((λ e. absurd (let wrong : ⊥ = cc in wrong)), (λ e. absurd (let wrong : ⊥ = cc in wrong)))
outcome_of_text_drops dropped r b some = ((λ e. refl), (λ e. refl))
outcome_of_text_drops (unfinished k) r b some = ((λ e. absurd (let wrong : ⊥ = cc in wrong)), (λ e. absurd (let wrong : ⊥ = cc in wrong)))
outcome_of_text_drops none r b some = absurd some

by_outcome_of_text : (r : Rest) (b : ℕ) → byte_outcome r b ≡ outcome_of_text r b → IsSome (reading r.mode (r.text ++ b ∷ [])) → Drops r b
by_outcome_of_text r b is some =
    subst (λ (x : ByteOutcome). (x.got ≡ then.Then.Dropped) ↔ (reading r.mode (r.text ++ b ∷ []) ≡ dropped)) (sym is)
    (outcome_of_text_drops (reading r.mode (r.text ++ b ∷ [])) r b some)

-- a byte that comes to something else
never_drops : (r : Rest) (b : ℕ) (got : then.Then) → byte_outcome r b ≡ make_outcome got r → (got ≡ then.Then.Dropped → ⊥)
    → (reading r.mode (r.text ++ b ∷ []) ≡ dropped → ⊥) → Drops r b
never_drops r b got is other not =
    ((λ e. absurd (other (ap (λ (x : ByteOutcome). x.got) (sym is) ∙ e))), (λ e. absurd (not e)))

byte_outcome_now : (r : Rest) (b : ℕ) (now : Reading) → reading r.mode r.text ≡ now
    → byte_outcome r b ≡ cond (acts_in now b) (make_outcome (then.Then.Act b) r) (cond (vanishes_in now b) (make_outcome then.Then.More r) (outcome_of_text r b))
byte_outcome_now r b now is =
    ap (λ x. cond (acts_in x b) (make_outcome (then.Then.Act b) r) (cond (vanishes_in x b) (make_outcome then.Then.More r) (outcome_of_text r b))) is

-- a sequence that isn't broken off
sequence_drops : (r : Rest) (b : ℕ) → reading r.mode r.text ≡ unfinished sequence → interrupts r.mode b ≡ false → Drops r b
sequence_drops r b is whole_one = ⊎_elim
    (λ (act : acts b ≡ true).
    never_drops r b (then.Then.Act b) (byte_outcome_now r b (unfinished sequence) is ∙ cond-true _ _ _ act) (λ e. cc)
    (out (not_from_true _ (or_left _ _ (or_left _ _ act))) (acts-out act)))
    (λ (act : acts b ≡ false). ⊎_elim
    (λ (del : (b == 0x7F) ≡ true).
    never_drops r b then.Then.More
    (byte_outcome_now r b (unfinished sequence) is ∙ cond-false _ _ _ act ∙ cond-true _ _ _ del) (λ e. cc)
    (out (not_from_true _ (or_right _ _ del)) (ap admits (eqb-true b 0x7F del))))
    (λ (not_del : (b == 0x7F) ≡ false).
    by_outcome_of_text r b (byte_outcome_now r b (unfinished sequence) is ∙ cond-false _ _ _ act ∙ cond-false _ _ _ not_del)
    (joined-some (not_from_false _ (or_from _ _ (or_from _ _ act whole_one) not_del))))
    (cases_Bool (b == 0x7F)))
    (cases_Bool (acts b))
  where
    after : After r.mode sequence b (reading r.mode (r.text ++ b ∷ []))
    after = follows_reading r.mode b r.text sequence is

    acts-out : acts b ≡ true → admits b ≡ false
    acts-out act = low-out (and_parts (nat_lt b 0x20) _ act).0
      where
        low-out : nat_lt b 0x20 ≡ true → admits b ≡ false
        low-out low = grind (arith, nat_tests)

    out : joins r.mode b ≡ false → admits b ≡ false → reading r.mode (r.text ++ b ∷ []) ≡ dropped → ⊥
    out apart outside e =
        let is_none : reading r.mode (r.text ++ b ∷ []) ≡ none =
        after.1 outside ∙ cond-false (joins r.mode b) dropped none apart in
        let wrong : ⊥ = cc in wrong

    joined-some : joins r.mode b ≡ true → IsSome (reading r.mode (r.text ++ b ∷ []))
    joined-some joins_it = ⊎_elim after.0
        (λ outside. subst IsSome (sym (after.1 outside ∙ cond-true (joins r.mode b) dropped none joins_it)) tt)
        (cases_Bool (admits b))

command_drops : (r : Rest) (b : ℕ) → reading r.mode r.text ≡ unfinished command → interrupts r.mode b ≡ false → Drops r b
command_drops r b is whole_one = ⊎_elim
    (λ (act : acts b ≡ true).
    never_drops r b (then.Then.Act b) (byte_outcome_now r b (unfinished command) is ∙ cond-true _ _ _ act) (λ e. cc)
    (out (not_from_true _ (or_left _ _ act)) (acts-out act)))
    (λ (act : acts b ≡ false).
    by_outcome_of_text r b (byte_outcome_now r b (unfinished command) is ∙ cond-false _ _ _ act)
    (joined-some (not_from_false _ (or_from _ _ act whole_one))))
    (cases_Bool (acts b))
  where
    after : After r.mode command b (reading r.mode (r.text ++ b ∷ []))
    after = follows_reading r.mode b r.text command is

    acts-out : acts b ≡ true → admits_command b ≡ false
    acts-out act = low-out (and_parts (nat_lt b 0x20) _ act).0
      where
        low-out : nat_lt b 0x20 ≡ true → admits_command b ≡ false
        low-out low = grind (arith, nat_tests)

    out : joins_command r.mode b ≡ false → admits_command b ≡ false → reading r.mode (r.text ++ b ∷ []) ≡ dropped → ⊥
    out apart outside e =
        let is_none : reading r.mode (r.text ++ b ∷ []) ≡ none =
        after.1 outside ∙ cond-false (joins_command r.mode b) dropped none apart in
        let wrong : ⊥ = cc in wrong

    joined-some : joins_command r.mode b ≡ true → IsSome (reading r.mode (r.text ++ b ∷ []))
    joined-some joins_it = ⊎_elim after.0
        (λ outside. subst IsSome (sym (after.1 outside ∙ cond-true (joins_command r.mode b) dropped none joins_it)) tt)
        (cases_Bool (admits_command b))

string_drops : (r : Rest) (b : ℕ) → reading r.mode r.text ≡ unfinished string → Drops r b
string_drops r b is =
    let next : reading r.mode (r.text ++ b ∷ []) ≡ string_next b = follows_reading r.mode b r.text string is in
    ⊎_elim
    (λ (swallows : is_swallowed b ≡ true).
    let now : reading r.mode (r.text ++ b ∷ []) ≡ unfinished string = next ∙ cond-true _ _ _ swallows in
    never_drops r b then.Then.More (byte_outcome_now r b (unfinished string) is ∙ cond-true _ _ _ swallows) (λ e. cc)
    (λ e. let wrong : ⊥ = cc in wrong))
    (λ (passes : is_swallowed b ≡ false).
    by_outcome_of_text r b (byte_outcome_now r b (unfinished string) is ∙ cond-false _ _ _ passes)
    (subst IsSome (sym next) (string_some b)))
    (cases_Bool (is_swallowed b))

fresh_drops : (m : Mode) (b : ℕ) → Drops (fresh m) b
fresh_drops m b = by_outcome_of_text (fresh m) b refl (one_some m b)

-- a rest whatever ends before the byte
settled_drops : (old : Rest) (m : Mode) (b : ℕ) (k : Kind) → reading old.mode old.text ≡ unfinished k
    → Drops (rest_before_by (unfinished k) old m b).rest b
settled_drops old m b sequence is = by-break (interrupts old.mode b) (λ whole_one. sequence_drops old b is whole_one)
  where
    by-break : (c : Bool) → (c ≡ false → Drops old b) → Drops (cond c (fresh m) old) b
    by-break true stays = fresh_drops m b
    by-break false stays = stays refl
settled_drops old m b command is = by-break (interrupts old.mode b) (λ whole_one. command_drops old b is whole_one)
  where
    by-break : (c : Bool) → (c ≡ false → Drops old b) → Drops (cond c (fresh m) old) b
    by-break true stays = fresh_drops m b
    by-break false stays = stays refl
settled_drops old m b character is = by-next (reading old.mode (old.text ++ b ∷ [])) refl
  where
    stays : (now : Reading) → reading old.mode (old.text ++ b ∷ []) ≡ now → IsSome now → Drops old b
    stays now same some =
        by_outcome_of_text old b (byte_outcome_now old b (unfinished character) is) (subst IsSome (sym same) some)

    by-next : (now : Reading) → reading old.mode (old.text ++ b ∷ []) ≡ now
        → Drops (cond (goes_on now) (unbroken_rest old) (record { bad = true; rest = fresh m })).rest b
    by-next (whole u) same = stays (whole u) same tt
    by-next dropped same = stays dropped same tt
    by-next (unfinished k) same = stays (unfinished k) same tt
    by-next none same = fresh_drops m b
settled_drops old m b string is = by-esc (b == 0x1B)
  where
    there : reading m old.text ≡ unfinished string
    there =
        let rest : IsStringRest (rest_of old.mode old.text) old.text = whole_rest old.mode old.text string refl is in
        string-text (rest_of old.mode old.text) old.text rest m
        ∙ sym (string-text (rest_of old.mode old.text) old.text rest old.mode) ∙ is

    by-esc : (c : Bool) → Drops (cond c (record { mode = m; text = old.text }) old) b
    by-esc true = string_drops (rest_of m old.text) b there
    by-esc false = string_drops old b is
settled_drops old m b string_end is = by-end (b == 0x5C) refl (interrupts old.mode b) refl
  where
    ended : (b == 0x5C) ≡ true → Drops old b
    ended sign = by_outcome_of_text old b (byte_outcome_now old b (unfinished string_end) is)
        (subst IsSome (sym (follows_reading old.mode b old.text string_end is ∙ cond-true _ _ _ sign)) tt)

    by-end : (c : Bool) → (b == 0x5C) ≡ c → (d : Bool) → interrupts old.mode b ≡ d
        → Drops (cond c old (cond d (fresh m) (record { mode = old.mode; text = 0x1B ∷ [] }))) b
    by-end true sign d breaks = ended sign
    by-end false sign true breaks = fresh_drops m b
    by-end false sign false breaks = sequence_drops (rest_of old.mode (0x1B ∷ [])) b refl breaks

pub drops_exactly : DropsExactly
drops_exactly old m b standing = ⊎_elim
    (λ (nothing : old.text ≡ []).
    subst (λ (s : RestBefore). Drops s.rest b) (sym (ap (λ t. rest_before_by (reading old.mode t) old m b) nothing)) (fresh_drops m b))
    (λ (one : IsUnfinished old.mode old.text).
    subst (λ (s : RestBefore). Drops s.rest b) (sym (ap (λ r. rest_before_by r old m b) one.1))
    (settled_drops old m b one.0 one.1))
    standing
