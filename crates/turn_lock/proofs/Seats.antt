-- Part A over a step of one pass, which keeps its role.
use Rattle.std.proofs.Common.{◌≡◌, ◌≢◌, ℕ, ◌%◌, ◌^◌, ◌<◌, ◌≤◌, Bool, true, false, List, length}
use Rattle.std.proofs.Common.{get_or, set, sym, ap, ◌∙◌, subst, Option, Some, None}
use mathlib.Core.Logic.{dite}
use native.Mathlib.Decide.{ℕ_discrete}
use mathlib.Core.Option.{some, none}
use mathlib.Core.Option as maybe
use lib.ListN.{get_elem?}
use Rattle.atomic_table.specs.Table.{State, Step, step}
use Rattle.atomic_table.proofs.Lists.{set_here, set_else}
use Rattle.turn_lock.specs.declared.view.View.{View}
use Rattle.turn_lock.specs.declared.view.Joined.{Joined}
use Rattle.turn_lock.specs.declared.view.Role.{Role}
use Rattle.turn_lock.specs.declared.view.Role.TheVariants.{Spent}
use Rattle.turn_lock.specs.declared.view.Stage.{Stage}
use Rattle.turn_lock.specs.Views.{IsLive, joined_away}
use Rattle.turn_lock.specs.Rule.{Queued, HasTicket, HasTurn, Named, IsCaller, Placed, PartA}
use Rattle.turn_lock.proofs.Lists.{in_range, same_at, each_set}

module _ {K W Z : Type 0} where
  abbrev pub state : List ℕ → List (maybe.Option (Option K)) → List (View W Z)
      → State (Option K) (View W Z)
  state words homes views = record { words = words; homes = homes; views = views }

-- a step: its relation doesn't depend on its numbers
abbrev pub some_step : {S : Type 0} → Step S
some_step = step 0 0 0 0 none

module _ {W Z : Type 0} where
  pub not_spent : (r : Role W Z) → IsLive r → r ≡ Spent → ⊥
  not_spent r live e = subst IsLive e live

  -- a fact of the seat of a pass stays if the pass changes and keeps its role
  pub replaced : (views : List (View W Z)) (joined : List (Joined W Z)) (id : ℕ) (v w : View W Z)
      → get_elem? views id ≡ some v → w.role ≡ v.role
      → (n : ℕ) (seat : Option ℕ) → Placed views joined n seat
      → Placed (set views id w) joined n seat
  replaced views joined id v w at same n None p = p
  replaced views joined id v w at same n (Some j) p = dite (ℕ_discrete j id)
      (λ e. (
        w,
        subst (λ (k : ℕ). get_elem? (set views id w) k ≡ some w) (sym e)
            (set_here views id w (in_range views id v at)),
        subst (IsCaller n) (sym (same
            ∙ ap (λ (u : View W Z). u.role)
            (same_at views id v p.0 at (subst (λ (k : ℕ). get_elem? views k ≡ some p.0) e p.1))))
            p.2,
      ))
      (λ ne. (p.0, set_else views id j w ne ∙ p.1, p.2))

  -- some pass at j is in such a stage, also after the pass id changed
  pub found : (views : List (View W Z)) (id : ℕ) (v w : View W Z) → get_elem? views id ≡ some v
      → (P : Stage W → Type 0) → (P v.stage → P w.stage)
      → (j : ℕ) → (u : View W Z) × (get_elem? views j ≡ some u) × P u.stage
      → (u : View W Z) × (get_elem? (set views id w) j ≡ some u) × P u.stage
  found views id v w at P goes j h = dite (ℕ_discrete j id)
      (λ e. (
        w,
        subst (λ (k : ℕ). get_elem? (set views id w) k ≡ some w) (sym e)
            (set_here views id w (in_range views id v at)),
        goes (subst (λ (u : View W Z). P u.stage)
            (sym (same_at views id v h.0 at
            (subst (λ (k : ℕ). get_elem? views k ≡ some h.0) e h.1))) h.2),
      ))
      (λ ne. (h.0, set_else views id j w ne ∙ h.1, h.2))

module _ {K W Z : Type 0} (joined : List (Joined W Z)) (words words' : List ℕ)
    (homes homes' : List (maybe.Option (Option K))) (views : List (View W Z)) (id : ℕ)
    (v w : View W Z) where
  -- the pass goes from v to w
  pub moves : (a : PartA joined (state words homes views)) → get_elem? views id ≡ some v
      → w.role ≡ v.role → IsLive v.role
      → (next serving : ℕ) (holder : ℕ → ℕ) (out : Bool)
      → length words' ≡ 3 → length homes' ≡ 1 → get_or words' 0 0 ≡ next % 2 ^ 64
      → get_or words' 1 0 ≡ serving % 2 ^ 64 → serving ≤ next
      → Queued next serving holder out id w.stage
      → ((j : ℕ) (u : View W Z) → j ≢ id → get_elem? views j ≡ some u
      → Queued next serving holder out j u.stage)
      → ((t : ℕ) → serving ≤ t → t < next
      → (u : View W Z) × (get_elem? (set views id w) (holder t) ≡ some u) × HasTicket t u.stage)
      → (out ≡ false → (k : K) × (get_elem? homes' 0 ≡ some (some (Some k))))
      → (out ≡ true → (get_elem? homes' 0 ≡ some none)
      × ((u : View W Z) × (get_elem? (set views id w) (holder serving) ≡ some u)
      × HasTurn u.stage))
      → PartA joined (state words' homes' (set views id w))
  moves a at role live next serving holder out wide deep next_is serving_is order own others tickets
      home away = record {
        next = next;
        serving = serving;
        holder = holder;
        out = out;
        seat_of = a.seat_of;
        made = a.made;
        wide = wide;
        deep = deep;
        next_is = next_is;
        serving_is = serving_is;
        order = order;
        queued = each_set (λ (j : ℕ) (u : View W Z). Queued next serving holder out j u.stage) views id
            w own others;
        named = each_set (λ (j : ℕ) (u : View W Z). Named a.seat_of a.made joined j u.role) views id w
            (subst (Named a.seat_of a.made joined id) (sym role) (a.named id v at))
            (λ j u ne q. a.named j u q);
        gone = each_set (λ (j : ℕ) (u : View W Z). u.role ≡ Spent → u ≡ joined_away) views id w
            (λ e. absurd (not_spent v.role live (sym role ∙ e))) (λ j u ne q. a.gone j u q);
        each_ticket = tickets;
        each_made = λ n m. replaced views joined id v w at role n (a.seat_of n) (a.each_made n m);
        each_joined = a.each_joined;
        joined_once = a.joined_once;
        home = home;
        away = away;
      }

module _ {K W Z : Type 0} (joined : List (Joined W Z)) (words words' : List ℕ)
    (homes : List (maybe.Option (Option K))) (views : List (View W Z)) (id : ℕ) (v w : View W Z)
  where
    -- if neither the role nor the stage changes, and the tickets and the slot stay, part A stays
    pub stays : (a : PartA joined (state words homes views)) → get_elem? views id ≡ some v
        → w.role ≡ v.role → IsLive v.role
        → ((next serving : ℕ) (holder : ℕ → ℕ) (out : Bool) (j : ℕ)
        → Queued next serving holder out j v.stage → Queued next serving holder out j w.stage)
        → ((t : ℕ) → HasTicket t v.stage → HasTicket t w.stage) → (HasTurn v.stage → HasTurn w.stage)
        → length words' ≡ 3 → get_or words' 0 0 ≡ get_or words 0 0
        → get_or words' 1 0 ≡ get_or words 1 0
        → PartA joined (state words' homes (set views id w))
    stays a at role live queued ticket turn wide next serving =
        moves joined words words' homes homes views id v w a at role live a.next a.serving a.holder
        a.out wide a.deep (next ∙ a.next_is) (serving ∙ a.serving_is) a.order
        (queued a.next a.serving a.holder a.out id (a.queued id v at)) (λ j u ne q. a.queued j u q)
        (λ t low high. found views id v w at (HasTicket t) (ticket t) (a.holder t)
        (a.each_ticket t low high))
        a.home (λ o. (
          (a.away o).0,
          found views id v w at HasTurn turn (a.holder a.serving)
              (a.away o).1,
        ))
