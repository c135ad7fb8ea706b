-- How a judge finds that all programs are over.
use Rattle.std.proofs.Common.{◌≡◌, ℕ, ◌<◌, true, false, List, None, is_some, sym, ap, ◌∙◌}
use Rattle.std.proofs.lemmas.Bool.{false_from_ne_true, false≢true}
use Rattle.session_order.proofs.Races.{over_from}
use Rattle.session_order.proofs.Turns.{none_next}
use Rattle.session_order.specs.Calls.{all_over, is_none, next_by}
use Rattle.session_text.specs.declared.program.Program.{Program}
use Rattle.vt_base.specs.Limits.{callers}
use Rattle.vt_events.specs.declared.entry.Entry.{Entry}

-- all programs are over if none has a next call, and not if one has
pub all_are_over : (programs : List Program) (h : List Entry)
    → ((p : ℕ) → p < callers → next_by programs p h ≡ None) → all_over programs h ≡ true
all_are_over programs h over =
    over_from (λ p. is_none (next_by programs p h)) 0 callers (λ p within. ap is_none (over p within))

pub one_goes_on : (programs : List Program) (h : List Entry) (p : ℕ) → p < callers
    → is_some (next_by programs p h) ≡ true → all_over programs h ≡ false
one_goes_on programs h p within is =
    false_from_ne_true (all_over programs h)
    (λ over. false≢true (ap is_some (sym (none_next programs h p within over)) ∙ is))
