-- A hub that was just opened: no pass was made.
use Rattle.std.proofs.Common.{◌≡◌, ℕ, zero, suc, false, replicate, refl, sym, ap, ◌∙◌, subst}
use Rattle.turn_lock.specs.Views.{IsFirst, among, joined_of, made_of, newcomer}
use Rattle.turn_lock.specs.Words as lock
use Rattle.turn_lock.specs.Words.{has_joined}
use Rattle.turn_lock.specs.declared.pass.Pass.{Pass}
use Rattle.turn_lock.specs.declared.view.View.{View}
use Rattle.vt_events.specs.declared.entry.Entry.{Entry}
use Rattle.vt_hub.specs.Places.{Keeps}
use Rattle.vt_hub.specs.Views.{is_home, is_made, stand_at}
use Rattle.vt_hub.specs.declared.pass_place.PassPlace.TheVariants.{Unmade}
use Rattle.vt_journal.specs.declared.full.Full.{Full}

pub unmade_at : (size n : ℕ) → stand_at (replicate size Unmade) n ≡ Unmade
unmade_at zero n = refl
unmade_at (suc size) zero = refl
unmade_at (suc size) (suc n) = unmade_at size n

pub none_made : (n : ℕ) → false ≡ is_made (stand_at (replicate 68 Unmade) n)
none_made n = sym (ap is_made (unmade_at 68 n))

pub none_home : (n : ℕ) → false ≡ is_home (stand_at (replicate 68 Unmade) n)
none_home n = sym (ap is_home (unmade_at 68 n))

-- the steward of a hub that opens
module _ {K : Type 0} where
  pub keeps_none : (before : ℕ) (p : Pass K Entry Full) → lock.Rests p
      → lock.view p ≡ newcomer before → Keeps (replicate 68 Unmade) 0 p
  keeps_none before p rests new = record {
    rests = rests;
    first = subst (λ (v : View Entry Full). IsFirst v.role) (sym new) tt;
    size = refl;
    made = λ n. ap (λ (v : View Entry Full). among n (made_of v.role)) new ∙ none_made n;
    home = λ n. ap (λ (v : View Entry Full). has_joined n (joined_of v.role)) new ∙ none_home n;
    counted = refl;
  }
