-- The death of a process leaves the display sound.
use Rattle.std.proofs.Common.{◌≡◌, ℕ, Bool, true, false, cond, List, get_or, set, map, Option, Some, None, refl, sym, ap, subst, ◌∙◌, ◌⊎◌, inl, inr}
use Rattle.std.proofs.Math.ListN.{get_or-map}
use Rattle.std.proofs.lemmas.List.{get_or-set_other}
use Rattle.std.specs.Prelude.{◌==◌, IfSome, is_some, option_map}
use Rattle.std.proofs.lemmas.Option.{IfSome_then}
use Rattle.vt_switch.proofs.Lookups.{set_either, unequal}
use Rattle.vt_switch.specs.Calls.{names, owns}
use Rattle.vt_switch.specs.Deaths.{after_hop, falls_to, left_by}
use Rattle.vt_switch.specs.Display.{Display, IsSound, MayWait, fresh, or_fresh, owner_of}
use Rattle.vt_switch.specs.declared.console.Console.{Console}
use Rattle.vt_switch.specs.declared.hop.Hop.{Hop}

-- whether a place is taken isn't changed by changing what it has
kept : {A : Type 0} (f : A → A) (o : Option A) → is_some (option_map f o) ≡ is_some o
kept f None = refl
kept f (Some a) = refl

none_waits : (d : Display) (P : ℕ → Type 0) → d.pending ≡ None → IfSome d.pending P
none_waits d P none = subst (λ (o : Option ℕ). IfSome o P) (sym none) tt

abbrev as_new : Display → ℕ → Display
as_new d c = record d { consoles = set d.consoles c (Some fresh) }

abbrev IsTaken : Option Console → Type 0
IsTaken o = is_some o ≡ true

pub reset_sound : (d : Display) (c : ℕ) → IsSound d → (d.pending ≡ None) ⊎ ((c == d.front) ≡ false)
    → IsSound (as_new d c)
reset_sound d c sound (inl none) = record {
  has_front = set_either IsTaken d.consoles c d.front (Some fresh) None refl sound.has_front;
  has_pending = none_waits d (MayWait (as_new d c)) none;
}
reset_sound d c sound (inr other) = record {
  has_front = set_either IsTaken d.consoles c d.front (Some fresh) None refl sound.has_front;
  has_pending = IfSome_then d.pending {P = MayWait d} {Q = MayWait (as_new d c)} sound.has_pending (λ n waits. record { is_there = set_either IsTaken d.consoles c n (Some fresh) None refl waits.is_there; apart = waits.apart; asked = ap (λ (o : Option Console). is_some (owner_of (or_fresh o).handling)) (get_or-set_other d.consoles c d.front (Some fresh) None (unequal c d.front other)) ∙ waits.asked });
}

abbrev pub given_back : Display → ℕ → Display
given_back d p = record d { consoles = map (option_map (left_by p)) d.consoles }

taken : (p : ℕ) (xs : List (Option Console)) (n : ℕ) → is_some (get_or xs n None) ≡ true
    → is_some (get_or (map (option_map (left_by p)) xs) n None) ≡ true
taken p xs n there =
    ap (λ (o : Option Console). is_some o) (get_or-map (option_map (left_by p)) xs n None)
    ∙ kept (left_by p) (get_or xs n None) ∙ there

pub still : (p : ℕ) (o : Option Console) → names p (owner_of (or_fresh o).handling) ≡ false
    → or_fresh (option_map (left_by p) o) ≡ or_fresh o
still p None other = refl
still p (Some console) other = ap (λ b. cond b fresh console) other

pub leave_sound : (d : Display) (p : ℕ) → IsSound d
    → (d.pending ≡ None) ⊎ (owns d p d.front ≡ false) → IsSound (given_back d p)
leave_sound d p sound (inl none) = record {
  has_front = taken p d.consoles d.front sound.has_front;
  has_pending = none_waits d (MayWait (given_back d p)) none;
}
leave_sound d p sound (inr other) = record {
  has_front = taken p d.consoles d.front sound.has_front;
  has_pending = IfSome_then d.pending {P = MayWait d} {Q = MayWait (given_back d p)} sound.has_pending (λ n waits. record { is_there = taken p d.consoles n waits.is_there; apart = waits.apart; asked = ap (λ (o : Option Console). is_some (owner_of (or_fresh o).handling)) (get_or-map (option_map (left_by p)) d.consoles d.front None) ∙ ap (λ (console : Console). is_some (owner_of console.handling)) (still p (get_or d.consoles d.front None) other) ∙ waits.asked });
}

-- after the display fell to what waited: nothing waits, or the front is another's
pub fallen : (P : Display → Bool) (old new : Display) (p : ℕ) (front : Bool) (hop : Option Hop)
    → P old ≡ front → hop ≡ cond front (falls_to old p old.pending) None
    → new ≡ after_hop old hop → (front ≡ true → new.pending ≡ None)
    → (new.pending ≡ None) ⊎ (P new ≡ false)
fallen P old new p true hop is answer state nothing = inl (nothing refl)
fallen P old new p false hop is answer state nothing =
    inr (ap P (state ∙ ap (after_hop old) answer) ∙ is)
