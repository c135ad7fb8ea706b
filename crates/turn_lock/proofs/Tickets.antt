-- Part A over the steps that draw a ticket, take the value, and give it back.
use Rattle.std.proofs.Common.{◌≡◌, ◌≢◌, ℕ, suc, ◌+◌, ◌%◌, ◌^◌, ◌<◌, ◌≤◌, Bool, true, false, List}
use Rattle.std.proofs.Common.{length, get_or, set, sym, refl, ap, ◌∙◌, subst, arith, Option, Some}
use Rattle.std.proofs.Common.{length-set, get_or-set_same, get_or-set_other}
use mathlib.Core.Logic.{dite}
use native.Mathlib.Decide.{ℕ_discrete}
use mathlib.Core.Option.{some, none}
use mathlib.Core.Option as maybe
use lib.ListN.{get_elem?}
use Rattle.atomic_table.proofs.Lists.{set_here}
use Rattle.turn_lock.specs.declared.entry.Entry.{Entry}
use Rattle.turn_lock.specs.declared.seal.Seal.{Seal}
use Rattle.turn_lock.specs.declared.view.View.{View}
use Rattle.turn_lock.specs.declared.view.Joined.{Joined}
use Rattle.turn_lock.specs.declared.view.Stage.{Stage}
use Rattle.turn_lock.specs.declared.view.Stage.TheVariants.{Idle, Waits, Has}
use Rattle.turn_lock.specs.Views.{IsLive, with_ticket, with_turn, without_turn}
use Rattle.turn_lock.specs.Rule.{Queued, HasTicket, HasTurn, PartA}
use Rattle.turn_lock.proofs.Lists.{put, put_here, put_else, in_range}
use Rattle.turn_lock.proofs.Seats.{state, found, moves}
use Rattle.turn_lock.proofs.Holders.{in_turn}

module _ {W : Type 0} where
  -- a new ticket for another pass
  drawn : (next serving : ℕ) (holder : ℕ → ℕ) (out : Bool) (id j : ℕ) (st : Stage W)
      → Queued next serving holder out j st
      → Queued (suc next) serving (put holder next id) out j st
  drawn next serving holder out id j Idle q = tt
  drawn next serving holder out id j (Waits t) q = let l = q.1 in
      (q.0, omega arith, put_else holder next id t (λ e. omega arith) ∙ q.2)
  drawn next serving holder out id j (Has t held) q = let l = q.1 in
      (q.0, omega arith, put_else holder next id t (λ e. omega arith) ∙ q.2, q.3)

  -- another pass takes the value
  taken : (next serving : ℕ) (holder : ℕ → ℕ) (j : ℕ) (st : Stage W)
      → Queued next serving holder false j st → Queued next serving holder true j st
  taken next serving holder j Idle q = tt
  taken next serving holder j (Waits t) q = q
  taken next serving holder j (Has t held) q = (q.0, q.1, q.2, refl)

  -- another pass gives the value back
  ended : (next serving : ℕ) (holder : ℕ → ℕ) (out : Bool) (id j : ℕ) (st : Stage W)
      → holder serving ≡ id → j ≢ id → Queued next serving holder out j st
      → Queued next (suc serving) holder false j st
  ended next serving holder out id j Idle h ne q = tt
  ended next serving holder out id j (Waits t) h ne q =
      let later : t ≢ serving = λ e. ne (sym q.2 ∙ (ap holder e ∙ h)) in let l = q.0 in
      (omega arith, q.1, q.2)
  ended next serving holder out id j (Has t held) h ne q = absurd
      (ne (sym q.2 ∙ (ap holder q.0 ∙ h)))

module _ {K W Z : Type 0} (joined : List (Joined W Z)) (words : List ℕ)
    (homes : List (maybe.Option (Option K))) (views : List (View W Z)) (id : ℕ) (v : View W Z) where
  pub draws_A : (a : PartA joined (state words homes views)) → get_elem? views id ≡ some v
      → v.stage ≡ Idle → IsLive v.role
      → PartA joined (state (set words 0 ((get_or words 0 0 + 1) % 2 ^ 64)) homes
      (set views id (with_ticket a.next v)))
  draws_A a at idle live =
      let wide : length words ≡ 3 = a.wide in
      let is : get_or words 0 0 ≡ a.next % 2 ^ 64 = a.next_is in
      let order = a.order in
      let some_words : 0 < length words = omega arith in
      let w = with_ticket a.next v in
      let holder : ℕ → ℕ = put a.holder a.next id in
      let words' = set words 0 ((get_or words 0 0 + 1) % 2 ^ 64) in
      let no_turn : HasTurn v.stage → HasTurn w.stage = λ h. absurd (subst HasTurn idle h) in
      let next_is : get_or words' 0 0 ≡ suc a.next % 2 ^ 64 = get_or-set_same words 0 _ 0 some_words
      ∙ omega arith in
      let tickets : (t : ℕ) → a.serving ≤ t → t < suc a.next
      → (u : View W Z) × (get_elem? (set views id w) (holder t) ≡ some u)
      × HasTicket t u.stage = λ t low high.
      dite (ℕ_discrete t a.next)
      (λ e. (
        w,
        subst (λ (k : ℕ). get_elem? (set views id w) k ≡ some w)
            (sym (ap holder e ∙ put_here a.holder a.next id))
            (set_here views id w (in_range views id v at)),
        sym e,
      ))
      (λ ne. let f = found views id v w at (HasTicket t) (λ h. absurd (subst (HasTicket t) idle h))
      (a.holder t) (a.each_ticket t low (omega arith)) in (
        f.0,
        subst (λ (k : ℕ). get_elem? (set views id w) k ≡ some f.0)
            (sym (put_else a.holder a.next id t ne)) f.1,
        f.2,
      )) in
      let away : a.out ≡ true → (get_elem? homes 0 ≡ some none)
      × ((u : View W Z) × (get_elem? (set views id w) (holder a.serving) ≡ some u)
      × HasTurn u.stage) = λ o.
      let x = a.away o in
      let line = (in_turn joined (state words homes views) a (a.holder a.serving) x.1.0 x.1.1
      x.1.2).2 in
      let f = found views id v w at HasTurn no_turn (a.holder a.serving) x.1 in (
        x.0,
        (
          f.0,
          subst (λ (k : ℕ). get_elem? (set views id w) k ≡ some f.0)
              (sym (put_else a.holder a.next id a.serving (λ e. omega arith))) f.1,
          f.2,
        ),
      ) in
      moves joined words words' homes homes views id v w a at refl live (suc a.next) a.serving
      holder a.out
      (length-set words 0 _ ∙ wide) a.deep next_is
      (get_or-set_other words 0 1 _ 0 (λ e. omega arith) ∙ a.serving_is) (omega arith)
      (a.order, omega arith, put_here a.holder a.next id)
      (λ j u ne q. drawn a.next a.serving a.holder a.out id j u.stage (a.queued j u q))
      tickets a.home away

  pub takes_A : (a : PartA joined (state words homes views)) → get_elem? views id ≡ some v
      → IsLive v.role → v.stage ≡ Waits a.serving → a.out ≡ false
      → (log : List (Entry W)) (seal : Option (Seal Z))
      → PartA joined (state words (set homes 0 none)
      (set views id (with_turn a.serving log seal v)))
  takes_A a at live waits home log seal =
      let deep : length homes ≡ 1 = a.deep in
      let w = with_turn a.serving log seal v in
      let q : (a.serving ≤ a.serving) × (a.serving < a.next)
      × (a.holder a.serving ≡ id) = subst (Queued a.next a.serving a.holder a.out id) waits
      (a.queued id v at) in
      moves joined words words homes (set homes 0 none) views id v w a at refl live a.next a.serving
      a.holder true
      a.wide (length-set homes 0 none ∙ deep) a.next_is a.serving_is a.order
      (refl, q.1, q.2, refl)
      (λ j u ne at_j. taken a.next a.serving a.holder j u.stage
      (subst (λ (b : Bool). Queued a.next a.serving a.holder b j u.stage) home
      (a.queued j u at_j)))
      (λ t low high. found views id v w at (HasTicket t) (λ h. subst (HasTicket t) waits h)
      (a.holder t) (a.each_ticket t low high))
      (λ e. cc)
      (λ o. (
        set_here homes 0 none (omega arith),
        (
          w,
          subst (λ (k : ℕ). get_elem? (set views id w) k ≡ some w) (sym q.2)
              (set_here views id w (in_range views id v at)),
          tt,
        ),
      ))

  pub leaves_A : (a : PartA joined (state words homes views)) → get_elem? views id ≡ some v
      → IsLive v.role → (t : ℕ) (held : List (Entry W)) → v.stage ≡ Has t held
      → (k : K) (seal : Option (Seal Z))
      → PartA joined (state (set words 1 ((get_or words 1 0 + 1) % 2 ^ 64))
      (set homes 0 (some (Some k))) (set views id (without_turn seal v)))
  leaves_A a at live t held has k seal =
      let wide : length words ≡ 3 = a.wide in
      let deep : length homes ≡ 1 = a.deep in
      let is : get_or words 1 0 ≡ a.serving % 2 ^ 64 = a.serving_is in
      let w = without_turn seal v in
      let words' = set words 1 ((get_or words 1 0 + 1) % 2 ^ 64) in
      let q : (t ≡ a.serving) × (t < a.next) × (a.holder t ≡ id)
      × (a.out ≡ true) = subst (Queued a.next a.serving a.holder a.out id) has
      (a.queued id v at) in
      let here : a.holder a.serving ≡ id = ap a.holder (sym q.0) ∙ q.2 in
      let high = q.1 in let same = q.0 in
      let some_words : 1 < length words = omega arith in
      let serving_is : get_or words' 1 0 ≡ suc a.serving % 2 ^ 64 = get_or-set_same words 1 _ 0
      some_words ∙ omega arith in
      moves joined words words' homes (set homes 0 (some (Some k))) views id v w a at refl live
      a.next (suc a.serving) a.holder false
      (length-set words 1 _ ∙ wide) (length-set homes 0 _ ∙ deep)
      (get_or-set_other words 1 0 _ 0 (λ e. omega arith) ∙ a.next_is) serving_is (omega arith)
      tt
      (λ j u ne at_j. ended a.next a.serving a.holder a.out id j u.stage here ne
      (a.queued j u at_j))
      (λ u low high'. found views id v w at (HasTicket u)
      (λ h. let e : t ≡ u = subst (HasTicket u) has h in absurd (omega arith)) (a.holder u)
      (a.each_ticket u (omega arith) high'))
      (λ e. (k, set_here homes 0 (some (Some k)) (omega arith)))
      (λ o. cc)
