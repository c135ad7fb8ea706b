-- The words of a call, and the call of words.
use Rattle.std.proofs.Common.{◌≡◌, ℕ, ◌<◌, ◌^◌, Bool, true, false, suc, Option, Some, None, List, [], ◌∷◌, ◌++◌, length, map, decimal, refl, sym, ap, subst, ◌∙◌, append_assoc, arith}
use Rattle.std.specs.List.{All}
use Rattle.std.specs.Prelude.{IfNone, IfSome, unwrap_or}
use Rattle.std.proofs.lemmas.Fmt.{decimal_injective}
use Rattle.vt_events.specs.Calls.{PartsView, bytes_of, held_of, kind_of, numbers_of, parts_of}
use Rattle.vt_events.specs.Kinds.{blank, call_of, name_of, takes}
use Rattle.vt_events.specs.Plain.{plain_event}
use Rattle.vt_events.specs.declared.event.Event.{Event}
use Rattle.vt_events.specs.declared.kind.Kind.{Kind}
use Rattle.vt_events.proofs.Calls.{IsOfKind, held-if, held_if, holds, is_made, kind_once, of_kind, same_call, takes_held}
use Rattle.vt_journal.specs.Cut.{words_of_text}
use Rattle.vt_journal.specs.Hex.{hex_text}
use Rattle.vt_journal.specs.Readers.{Finds}
use Rattle.vt_journal.specs.Words.{IsFit, IsFitCall, Spells, event_words, held_words, joined_by_blanks}
use Rattle.vt_journal.proofs.Clear.{are_clear-event, wide}
use Rattle.vt_journal.proofs.OneSpelling.{OneSpelling, cut_words}
use Rattle.vt_journal.proofs.Pairs.{hex_injective}

-- the first of them is the name of a kind
pub named_kind : (e : Event) (rest : List (List ℕ))
    → (k : Kind) × (more : List (List ℕ)) × (event_words e ++ rest ≡ name_of k ∷ more)
named_kind e rest =
    (kind_of e, (map decimal (numbers_of e) ++ held_words (held_of e)) ++ rest, refl)

-- the words after the name of a kind
pub record KindIs (k : Kind) (u : List (List ℕ)) (e : Event) (rest : List (List ℕ)) : Type 0 where
  pub words : u ≡ map decimal (numbers_of e) ++ (held_words (held_of e) ++ rest)
  pub kind : IsOfKind k e

pub kind_is : (words u : List (List ℕ)) (k : Kind) (e : Event) (rest : List (List ℕ))
    → words ≡ event_words e ++ rest → words ≡ name_of k ∷ u → KindIs k u e rest
kind_is words u k e rest is named =
    let both : name_of k ∷ u
    ≡ name_of (kind_of e) ∷ ((map decimal (numbers_of e) ++ held_words (held_of e)) ++ rest) = sym named ∙ is in
    let name : name_of (kind_of e) ≡ name_of k = cc in
    let others : u ≡ (map decimal (numbers_of e) ++ held_words (held_of e)) ++ rest = cc in
    record {
      words = others ∙ append_assoc (map decimal (numbers_of e)) (held_words (held_of e)) rest;
      kind = subst (λ k. IsOfKind k e) (kind_once (kind_of e) k name) (of_kind e);
    }

-- as many numbers, and the words after them
pub split_numbers : (ms ns : List ℕ) (u v : List (List ℕ)) → length ms ≡ length ns
    → map decimal ms ++ u ≡ map decimal ns ++ v → (map decimal ms ≡ map decimal ns) × (u ≡ v)
split_numbers [] [] u v many same = (refl, same)
split_numbers [] (n ∷ ns) u v many same = absurd (omega arith)
split_numbers (m ∷ ms) [] u v many same = absurd (omega arith)
split_numbers (m ∷ ms) (n ∷ ns) u v many same =
    let others : map decimal ms ++ u ≡ map decimal ns ++ v = cc in
    let first : decimal m ≡ decimal n = cc in
    let both = split_numbers ms ns u v (omega arith) others in
    (λ j. first j ∷ both.0 j, both.1)

-- after its name and as many numbers come a call's bytes
pub bytes_are : (words u v : List (List ℕ)) (k : Kind) (ns : List ℕ) (held : Bool) (e : Event)
    (rest : List (List ℕ)) → words ≡ event_words e ++ rest → words ≡ name_of k ∷ u
    → u ≡ map decimal ns ++ v → length ns ≡ length (numbers_of (blank k)) → held ≡ holds (blank k)
    → v ≡ held_words (held_if held (bytes_of e)) ++ rest
bytes_are words u v k ns held e rest is named numbers many same =
    let kind = kind_is words u k e rest is named in
    (split_numbers ns (numbers_of e) v _ (many ∙ sym kind.kind.many) (sym numbers ∙ kind.words)).1
    ∙ ap (λ held. held_words held ++ rest) (held-if e)
    ∙ ap (λ h. held_words (held_if h (bytes_of e)) ++ rest) (kind.kind.holds ∙ sym same)

-- and they are bytes
pub fit_bytes : (held : Option (List ℕ)) → IfSome held (λ bytes. All (λ b. b < 2 ^ 8) bytes)
    → All (λ b. b < 2 ^ 8) (unwrap_or held [])
fit_bytes (Some bytes) fit = fit
fit_bytes None fit = λ k d within. absurd (omega arith)

-- numbers are read back from their words
pub decimals_injective : (ms ns : List ℕ) → All (λ n. n < 2 ^ 64) ms → All (λ n. n < 2 ^ 64) ns
    → map decimal ms ≡ map decimal ns → ms ≡ ns
decimals_injective [] [] fit_m fit_n same = refl
decimals_injective [] (n ∷ ns) fit_m fit_n same = cc
decimals_injective (m ∷ ms) [] fit_m fit_n same = cc
decimals_injective (m ∷ ms) (n ∷ ns) fit_m fit_n same =
    let first : decimal m ≡ decimal n = cc in
    let others : map decimal ms ≡ map decimal ns = cc in
    let head : m ≡ n =
    decimal_injective m n (fit_m 0 0 (omega arith)) (fit_n 0 0 (omega arith)) first in
    let tail : ms ≡ ns =
    decimals_injective ms ns (λ k d within. fit_m (suc k) d (omega arith))
    (λ k d within. fit_n (suc k) d (omega arith)) others in
    λ j. head j ∷ tail j

-- bytes are read back from their word, and so are the words after them
pub held_injective : (held : Bool) (a b : List ℕ) (u v : List (List ℕ)) → All (λ x. x < 2 ^ 8) a
    → All (λ x. x < 2 ^ 8) b → held_words (held_if held a) ++ u ≡ held_words (held_if held b) ++ v
    → (held_if held a ≡ held_if held b) × (u ≡ v)
held_injective true a b u v fit_a fit_b same =
    let word : hex_text a ≡ hex_text b = cc in
    let others : u ≡ v = cc in
    (ap Some (hex_injective a b fit_a fit_b word), others)
held_injective false a b u v fit_a fit_b same = (refl, same)

-- a call has as many bytes as its kind takes, however they are read
pub takes_all : (words u v w : List (List ℕ)) (k : Kind) (ns b : List ℕ) (held : Bool) (e : Event)
    (rest : List (List ℕ)) → words ≡ event_words e ++ rest → words ≡ name_of k ∷ u
    → u ≡ map decimal ns ++ v → v ≡ held_words (held_if held b) ++ w
    → length ns ≡ length (numbers_of (blank k)) → held ≡ holds (blank k)
    → All (λ x. x < 2 ^ 8) b → IsFit e → takes k (length b) ≡ true
takes_all words u v w k ns b held e rest is named numbers bytes many same fit_b fit =
    let all =
    (held_injective held b (bytes_of e) w rest fit_b (fit_bytes (held_of e) fit.bytes)
    (sym bytes ∙ bytes_are words u v k ns held e rest is named numbers many same)).0 in
    let counted : Bool → List ℕ → Bool =
    λ h bs. takes k (length (unwrap_or (held_if h bs) [])) in
    sym (takes_held k b)
    ∙ ap (λ h. counted h b) (sym same)
    ∙ ap (λ h. takes k (length (unwrap_or h []))) all
    ∙ ap (λ h. counted h (bytes_of e)) same
    ∙ takes_held k (bytes_of e)
    ∙ (kind_is words u k e rest is named).kind.takes

-- words are one call and the words after it
pub event_once : (d e : Event) (u v : List (List ℕ)) → IsFitCall d → IsFitCall e
    → event_words d ++ u ≡ event_words e ++ v → (d ≡ e) × (u ≡ v)
event_once d e u v fit_d fit_e same =
    let name : name_of (kind_of d) ≡ name_of (kind_of e) = cc in
    let kind = kind_once (kind_of d) (kind_of e) name in
    let like = subst (λ k. IsOfKind k d) kind (of_kind d) in
    let other = of_kind e in
    let others : (map decimal (numbers_of d) ++ held_words (held_of d)) ++ u
    ≡ (map decimal (numbers_of e) ++ held_words (held_of e)) ++ v = cc in
    let both =
    split_numbers (numbers_of d) (numbers_of e) _ _ (like.many ∙ sym other.many)
    (sym (append_assoc (map decimal (numbers_of d)) (held_words (held_of d)) u)
    ∙ others
    ∙ append_assoc (map decimal (numbers_of e)) (held_words (held_of e)) v) in
    let numbers =
    decimals_injective (numbers_of d) (numbers_of e) (wide (numbers_of d) fit_d.0.numbers)
    (wide (numbers_of e) fit_e.0.numbers) both.0 in
    let here : held_of d ≡ held_if (holds e) (bytes_of d) =
    held-if d ∙ ap (λ h. held_if h (bytes_of d)) (like.holds ∙ sym other.holds) in
    let held =
    held_injective (holds e) (bytes_of d) (bytes_of e) u v (fit_bytes (held_of d) fit_d.0.bytes)
    (fit_bytes (held_of e) fit_e.0.bytes)
    (ap (λ held. held_words held ++ u) (sym here)
    ∙ both.1
    ∙ ap (λ held. held_words held ++ v) (held-if e)) in
    (same_call d e fit_d.1 fit_e.1 kind numbers (here ∙ held.0 ∙ sym (held-if e)), held.1)

pub event_spelling : OneSpelling event_words IsFitCall
event_spelling = record { clear = λ e fit. are_clear-event e fit.0; once = event_once }

-- the words of the text that spells a call
pub cut_parts : (text : List ℕ) (e : Event) → Spells text e → words_of_text text ≡ event_words e
cut_parts text e s = cut_words event_spelling text e (s.fit, s.plain) s.spelled

-- one text spells one call
pub spelled_once : (text : List ℕ) (d e : Event) → Spells text d → Spells text e → d ≡ e
spelled_once text d e sd se =
    (event_once d e [] [] (sd.fit, sd.plain) (se.fit, se.plain)
    (ap (λ words. words ++ []) (sym (cut_parts text d sd) ∙ cut_parts text e se))).0

-- the call that was found in a text is the one that the text spells
pub spelled : (text : List ℕ) (e : Event) → IsFitCall e → joined_by_blanks (event_words e) ≡ text → Spells text e
spelled text e fit is = record { fit = fit.0; plain = fit.1; spelled = is }

pub found_spells : (text : List ℕ) (r : Option Event)
    → Finds (λ e. joined_by_blanks (event_words e)) IsFitCall text r → IfSome r IsFitCall
    → IfSome r (Spells text) × IfNone r ((e : Event) → ¬ Spells text e)
    × IfSome r (λ e. (other : Event) → Spells text other → other ≡ e)
found_spells text (Some e) is fit =
    let spells = spelled text e fit is in
    (spells, tt, λ other s. spelled_once text other e s spells)
found_spells text None none fit = (tt, λ e s. none e (s.fit, s.plain) s.spelled, tt)

-- the call made of the kind, numbers and bytes that were read has these words
pub record IsRead (words : List (List ℕ)) (e : Event) (rest : List (List ℕ)) : Type 0 where
  pub parts : words ≡ event_words e ++ rest
  pub fit : IsFitCall e

pub call_is : (words u v w : List (List ℕ)) (k : Kind) (ns b : List ℕ) (held : Bool)
    → words ≡ name_of k ∷ u → u ≡ map decimal ns ++ v
    → v ≡ held_words (held_if held b) ++ w → length ns ≡ length (numbers_of (blank k))
    → held ≡ holds (blank k) → takes k (length b) ≡ true → All (λ n. n < 2 ^ 16) ns
    → All (λ x. x < 2 ^ 8) b → IsRead words (call_of k ns b) w
call_is words u v w k ns b held name numbers bytes many same few fit_n fit_b =
    let e = call_of k ns b in
    let is = is_made k ns b many few in
    let here : held_of e ≡ held_if held b = is.held ∙ ap (λ h. held_if h b) (sym same) in
    record {
      parts =
          name
          ∙ ap (λ rest. name_of k ∷ rest) (numbers ∙ ap (λ rest. map decimal ns ++ rest) bytes)
          ∙ sym (ap (λ rest. name_of k ∷ rest) (append_assoc (map decimal ns) (held_words (held_if held b)) w))
          ∙ sym (λ j. name_of (is.kind j) ∷ ((map decimal (is.numbers j) ++ held_words (here j)) ++ w));
      fit = (
        record {
          numbers = subst (All (λ n. n < 2 ^ 16)) (sym is.numbers) fit_n;
          bytes =
              subst (λ held. IfSome held (λ bytes. All (λ x. x < 2 ^ 8) bytes)) (sym here)
              (fit_if held b fit_b);
        },
        is.plain,
      );
    }
  where
    fit_if : (held : Bool) (b : List ℕ) → All (λ x. x < 2 ^ 8) b
        → IfSome (held_if held b) (λ bytes. All (λ x. x < 2 ^ 8) bytes)
    fit_if true b fit = fit
    fit_if false b fit = tt

-- a call without room is fit if its numbers and its bytes are
pub fit_meant : (e : Event) → parts_of (plain_event e) ≡ parts_of e → All (λ n. n < 2 ^ 16) (numbers_of e)
    → IfSome (held_of e) (λ bytes. All (λ b. b < 2 ^ 8) bytes) → IsFit (plain_event e)
fit_meant e same numbers held = record {
  numbers =
      subst (All (λ n. n < 2 ^ 16)) (sym (ap (λ (p : PartsView). p.numbers) same)) numbers;
  bytes =
      subst (λ held. IfSome held (λ bytes. All (λ b. b < 2 ^ 8) bytes))
      (sym (ap (λ (p : PartsView). p.held) same)) held;
}
