use Rattle.std.proofs.Common.{List, ℕ, Bor, map, sym, ap, ◌∙◌}
use Rattle.session_text.proofs.HookWords.{hook_fault, in_range_same}
use Rattle.session_text.proofs.hooks.with_hook.Goals as goal

pub returns-then-has : goal.returns-then-has
returns-then-has c =
    rw c.refused-then-has.ensures
    (hook_fault c.args.part c.args.item c.args.hooked c.args.text.now _ c.in-Some.found.signal
    c.in-Some-new.signal c.in-Some.found.act
    (ap (map (λ (word : Bor (List ℕ)). word.now)) c.as_slice.ensures.value ∙ c.in_ok-words.ensures)
    c.in-Some.ensures.found
    (in_range_same 1 64 c.in-Some.found.signal _ (sym c.new.ensures ∙ c.in-Some-new.is))
    (sym c.if-has.ensures))
