-- The attention key ends its users one by one.
use Rattle.std.proofs.Common.{◌≡◌, ◌<◌, ℕ, ◌+◌, ◌-◌, Bool, true, false, cond, List, ◌∷◌, get_or, set, length, sym, ap, ◌∙◌, arith, ⊎_elim}
use Rattle.std.proofs.lemmas.Bool.{cases_lt}
use Rattle.std.proofs.lemmas.Grind.{get_or-set_at}
use Rattle.std.proofs.lemmas.List.{get_or-set_other}
use Rattle.std.specs.List.{range_with_len}
use Rattle.std.specs.Prelude.{filter}
use Rattle.vt_switch.specs.Acts.{End}
use Rattle.vt_world.specs.Deeds.{By, Deed, apply_deeds, apply_deed}
use Rattle.vt_world.specs.State.{WorldState}
use Rattle.vt_world.specs.Typing.{ends_of}
use Rattle.vt_world.proofs.Requests.{range_first}

-- one more flag
pub flags_more : (f : ℕ → Bool) (flags : List Bool) (n : ℕ) (b : Bool) → n < length flags → b ≡ f n
    → ((k : ℕ) → k < n → get_or flags k false ≡ f k)
    → (k : ℕ) → k < n + 1 → get_or (set flags n b) k false ≡ f k
flags_more f flags n b inside is before k within = ⊎_elim
    (λ below. get_or-set_other flags n k b false (omega (arith, below)) ∙ before k below)
    (λ above.
    let here : k ≡ n = omega (arith, above, within) in
    get_or-set_at flags n k b false here inside ∙ is ∙ ap f (sym here))
    (cases_lt k n)

abbrev pub users_from : (ℕ → Bool) → ℕ → List ℕ
users_from f p = filter f (range_with_len p (65 - p))

-- the callers from p on that pass: p itself, if it does, and those above
users_next : (f : ℕ → Bool) (p : ℕ) → p < 65
    → users_from f p ≡ cond (f p) (p ∷ users_from f (p + 1)) (users_from f (p + 1))
users_next f p within = ap (filter f) (range_first p p 65 within)

either_ends : (b : Bool) (p : ℕ) (ps : List ℕ) (deeds : List Deed) (w v : WorldState)
    → v ≡ cond b (apply_deed w (By (End p))) w
    → apply_deeds w (ends_of (cond b (p ∷ ps) ps) deeds) ≡ apply_deeds v (ends_of ps deeds)
either_ends true p ps deeds w v is = ap (λ (u : WorldState). apply_deeds u (ends_of ps deeds)) (sym is)
either_ends false p ps deeds w v is = ap (λ (u : WorldState). apply_deeds u (ends_of ps deeds)) (sym is)

pub ends_next : (f : ℕ → Bool) (p : ℕ) → p < 65 → (deeds : List Deed) (w v : WorldState)
    → v ≡ cond (f p) (apply_deed w (By (End p))) w
    → apply_deeds v (ends_of (users_from f (p + 1)) deeds) ≡ apply_deeds w (ends_of (users_from f p) deeds)
ends_next f p within deeds w v is =
    sym (ap (λ (ps : List ℕ). apply_deeds w (ends_of ps deeds)) (users_next f p within)
    ∙ either_ends (f p) p (users_from f (p + 1)) deeds w v is)
