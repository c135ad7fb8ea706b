-- A machine whose journal has lost its first entries.
use Rattle.std.proofs.Common.{◌≡◌, ◌<◌, ◌+◌, ℕ, arith, List, [], ◌∷◌, ◌++◌, get_or, set, length, length-append, refl, sym, ap, subst}
use Rattle.std.proofs.lemmas.List.{append-nil, append_assoc}
use Rattle.std.specs.Prelude.{min}
use Rattle.machine.specs.History.{IsAfter, Start}
use Rattle.vt_events.specs.declared.entry.Entry.{Entry}
use Rattle.vt_events.specs.declared.event.Event.{Event}
use Rattle.vt_events.specs.declared.reply.Reply.{Reply}
use Rattle.vt_world.specs.History.{StepsAreEntered}
use Rattle.vt_world.specs.State.{WorldState}
use Rattle.vt_world.specs.Step.{HasOutcome, step}
use Rattle.machine.proofs.Afters.{after_call}

-- one more call
pub after_more : (s : Start) (before entries : List Entry) (v w : WorldState) (old : List ℕ) (p : ℕ) (e : Event)
    (r : Reply) → StepsAreEntered → IsAfter s (before ++ entries) v old → HasOutcome (step v p e) w r → p < 68
    → length old ≡ 68
    → IsAfter s (before ++ (entries ++ record { caller = p; seq = get_or old p 0; event = e; reply = r } ∷ [])) w
    (set old p (get_or old p 0 + 1))
after_more s before entries v w old p e r entered is gives low size =
    let entry : Entry = record { caller = p; seq = get_or old p 0; event = e; reply = r } in
    subst (λ (h : List Entry). IsAfter s h w (set old p (get_or old p 0 + 1)))
    (append_assoc before entries (entry ∷ []))
    (after_call s (before ++ entries) v w old p e r entered is gives low size)

-- the entries are gone
pub after_forgetting : (s : Start) (before entries : List Entry) (w : WorldState) (made : List ℕ)
    → IsAfter s (before ++ entries) w made → IsAfter s ((before ++ entries) ++ []) w made
after_forgetting s before entries w made is =
    subst (λ (h : List Entry). IsAfter s h w made) (sym (append-nil (before ++ entries))) is

pub gone_more : (before entries : List Entry) (gone : ℕ) → gone ≡ min (length before) 18446744073709551615
    → min (gone + length entries) 18446744073709551615 ≡ min (length (before ++ entries)) 18446744073709551615
gone_more before entries gone is = omega (arith, is, length-append before entries)

-- if none is gone, the journal has all
pub nothing_gone : (before : List Entry) (gone : ℕ) → gone ≡ min (length before) 18446744073709551615 → gone ≡ 0
    → before ≡ []
nothing_gone [] gone is none = refl
nothing_gone (e ∷ before) gone is none = absurd (let no : ⊥ = omega (arith, is, none) in no)
