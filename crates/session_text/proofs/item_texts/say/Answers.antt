use Rattle.std.proofs.Common.{ℕ, List, Bor, codes, eqb, map, subst, sym, ap, ◌∙◌, true≢false}
use Rattle.std.specs.List.{starts_with}
use Rattle.vt_events.specs.declared.event.Event.TheVariants as event
use Rattle.session_text.specs.HookTexts.{words_of}
use Rattle.session_text.specs.ItemTexts.{AreSay, IsSaid}
use Rattle.session_text.proofs.ItemWords.{say_start, say_text}
use Rattle.session_text.proofs.item_texts.say.Goals as goal

pub bytes_from-requires : goal.bytes_from-requires
bytes_from-requires c =
    let are = ap (map (λ (word : Bor (List ℕ)). word.now)) c.as_slice.ensures.value ∙ c.in_ok-words.ensures in
    let s : IsSaid (words_of c.args.text.now) c.in-Some.said =
    subst (λ w. IsSaid w c.in-Some.said) are c.in-Some.ensures.found in
    (say_start c.args.text.now c.in-Some.said s).0

pub returns-in-Some-clause-found : goal.returns-in-Some-clause-found
returns-in-Some-clause-found c =
    let are = ap (map (λ (word : Bor (List ℕ)). word.now)) c.as_slice.ensures.value ∙ c.in_ok-words.ensures in
    let s : IsSaid (words_of c.args.text.now) c.in-Some.said =
    subst (λ w. IsSaid w c.in-Some.said) are c.in-Some.ensures.found in
    let made = c.in_ok-bytes-in-Some.ensures in
    let bytes = made.bytes ∙ c.bytes_from.ensures ∙ (say_start c.args.text.now c.in-Some.said s).1 in
    record {
      fd = c.in-Some.said.fd;
      say = s.say;
      write = λ i. event.Write c.in-Some.said.fd (record { bytes = bytes i; room = made.room i });
    }

pub returns-clause-none : goal.returns-clause-none
returns-clause-none c =
    λ e say.
    let are = ap (map (λ (word : Bor (List ℕ)). word.now)) c.as_slice.ensures.value ∙ c.in_ok-words.ensures in
    c.in-None.ensures.none say.fd (subst (λ w. AreSay w say.fd) (sym are) say.say)

pub returns-then-not-starts_with-clause-none : goal.returns-then-not-starts_with-clause-none
returns-then-not-starts_with-clause-none c =
    λ e say.
    true≢false
    (sym (ap (λ text. starts_with eqb text (codes "say "))
    (c.as_bytes.ensures.value ∙ say_text c.args.text.now say.fd say.say))
    ∙ (sym c.starts_with.ensures.value ∙ c.if-not-starts_with.true))
