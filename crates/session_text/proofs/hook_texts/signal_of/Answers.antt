use Rattle.std.proofs.Common.{◌≡◌, sym, ◌∙◌, inl, inr, arith}
use Rattle.std.proofs.lemmas.Fmt.{decimal_injective}
use Rattle.session_text.proofs.hook_texts.signal_of.Goals as goal

pub returns-then-n-eq0-clause-none : goal.returns-then-n-eq0-clause-none
returns-then-n-eq0-clause-none c =
    λ n hooked.
    let high = hooked.high in
    let low = hooked.low in
    let same : c.in_ok-n.n ≡ n =
    decimal_injective c.in_ok-n.n n (omega arith) (omega arith)
    (c.in_ok-n.ensures.found.1 ∙ c.as_bytes.ensures.value ∙ sym hooked.is) in
    elim c.then-n-eq0.either [ inl zero ↦ omega arith | inr nine ↦ hooked.other (sym same ∙ nine.1) ]
