-- The holders of tickets: there are few tickets, and one pass has the value.
use Rattle.std.proofs.Common.{◌≡◌, ℕ, ◌+◌, ◌-◌, ◌%◌, ◌^◌, ◌<◌, ◌≤◌, Bool, true, List, sym, refl, ap}
use Rattle.std.proofs.Common.{◌∙◌, subst, arith, Option, Some}
use mathlib.Core.Option.{some, none}
use mathlib.Core.Option as maybe
use lib.ListN.{get_elem?}
use Rattle.atomic_table.specs.Table.{State}
use Rattle.atomic_table.proofs.Lists.{one_turn}
use Rattle.turn_lock.specs.declared.view.View.{View}
use Rattle.turn_lock.specs.declared.view.Joined.{Joined}
use Rattle.turn_lock.specs.declared.view.Role.{Role}
use Rattle.turn_lock.specs.declared.view.Role.TheVariants.{First, Caller, Spent}
use Rattle.turn_lock.specs.declared.view.Stage.{Stage}
use Rattle.turn_lock.specs.declared.view.Stage.TheVariants.{Idle, Waits, Has}
use Rattle.turn_lock.specs.Rule.{Queued, HasTicket, HasTurn, Named, PartA}
use Rattle.turn_lock.proofs.Lists.{pigeon, same_at}

module _ {W : Type 0} where
  pub one_ticket : (st : Stage W) (t u : ℕ) → HasTicket t st → HasTicket u st → t ≡ u
  one_ticket Idle t u h k = absurd h
  one_ticket (Waits x) t u h k = sym h ∙ k
  one_ticket (Has x held) t u h k = sym h ∙ k

  -- the pass whose turn has come has the ticket that is served
  pub turn_seat : (next serving : ℕ) (holder : ℕ → ℕ) (out : Bool) (j : ℕ) (st : Stage W)
      → Queued next serving holder out j st → HasTurn st
      → (holder serving ≡ j) × (out ≡ true) × (serving < next)
  turn_seat next serving holder out j Idle q h = absurd h
  turn_seat next serving holder out j (Waits t) q h = absurd h
  turn_seat next serving holder out j (Has t held) q h = let e = q.0 in let l = q.1 in
      (ap holder (sym q.0) ∙ q.2, q.3, omega arith)

module _ {W Z : Type 0} where
  -- a number for each role that may have a ticket: the first pass has 2^32
  abbrev code : Role W Z → ℕ
  code (First made joined) = 4294967296
  code (Caller n) = n
  code Spent = 0

  abbrev code_of : maybe.Option (View W Z) → ℕ
  code_of none = 0
  code_of (some v) = code v.role

  code_low : (seat_of : ℕ → Option ℕ) (made : List ℕ) (joined : List (Joined W Z)) (j : ℕ)
      (r : Role W Z) → Named seat_of made joined j r → (r ≡ Spent → ⊥) → code r < 4294967297
  code_low seat_of made joined j (First m js) h live = omega arith
  code_low seat_of made joined j (Caller n) h live = let l = h.1 in omega arith
  code_low seat_of made joined j Spent h live = absurd (live refl)

  code_apart : (seat_of : ℕ → Option ℕ) (made : List ℕ) (joined : List (Joined W Z)) (i j : ℕ)
      (r q : Role W Z) → Named seat_of made joined i r → Named seat_of made joined j q
      → (r ≡ Spent → ⊥) → (q ≡ Spent → ⊥) → code r ≡ code q → i ≡ j
  code_apart seat_of made joined i j (First m js) (First m' js') h k lr lq e = h.0 ∙ sym k.0
  code_apart seat_of made joined i j (First m js) (Caller n) h k lr lq e = let l = k.1 in
      absurd (omega arith)
  code_apart seat_of made joined i j (Caller n) (First m js) h k lr lq e = let l = h.1 in
      absurd (omega arith)
  code_apart seat_of made joined i j (Caller n) (Caller n') h k lr lq e = let x : Some i ≡ Some
      j = sym h.3 ∙ (ap seat_of e ∙ k.3) in cc
  code_apart seat_of made joined i j Spent q h k lr lq e = absurd (lr refl)
  code_apart seat_of made joined i j r Spent h k lr lq e = absurd (lq refl)

module _ {K W Z : Type 0} (joined : List (Joined W Z)) (s : State (Option K) (View W Z)) where
  -- a joined pass has no ticket
  pub not_gone : (a : PartA joined s) (j : ℕ) (v : View W Z) → get_elem? s.views j ≡ some v
      → (t : ℕ) → HasTicket t v.stage → v.role ≡ Spent → ⊥
  not_gone a j v at t has e = subst (HasTicket t) (ap (λ (u : View W Z). u.stage) (a.gone j v at e))
      has

  -- there are at most 2^32 + 1 tickets, since the passes that have one have numbers below 2^32, or
  -- are the first
  pub few : (a : PartA joined s) → a.next ≤ a.serving + 4294967297
  few a =
      let n = a.next - a.serving in
      let order = a.order in
      let f : ℕ → ℕ = λ i. code_of (get_elem? s.views (a.holder (a.serving + i))) in
      let at : (i : ℕ) → i < n → (v : View W Z)
      × (get_elem? s.views (a.holder (a.serving + i)) ≡ some v)
      × HasTicket (a.serving + i) v.stage
      = λ i h. a.each_ticket (a.serving + i) (omega arith) (omega arith) in
      let is : (i : ℕ) (h : i < n) → f i ≡ code (at i h).0.role = λ i h. ap code_of (at i h).1 in
      let live : (i : ℕ) (h : i < n) → (at i h).0.role ≡ Spent
      → ⊥ = λ i h. not_gone a _ (at i h).0 (at i h).1 _ (at i h).2 in
      let named : (i : ℕ) (h : i < n)
      → Named a.seat_of a.made joined (a.holder (a.serving + i)) (at i h).0.role = λ i h.
      a.named _ (at i h).0 (at i h).1 in
      let low : (i : ℕ) → i < n → f i < 4294967297 = λ i h. subst (λ (k : ℕ). k < 4294967297)
      (sym (is i h)) (code_low a.seat_of a.made joined _ _ (named i h) (live i h)) in
      let apart : (i j : ℕ) → i < n → j < n → f i ≡ f j → i ≡ j = λ i j hi hj e.
      let seats = code_apart a.seat_of a.made joined _ _ _ _ (named i hi) (named j hj) (live i hi)
      (live j hj) (sym (is i hi) ∙ (e ∙ is j hj)) in
      let same = same_at s.views _ (at i hi).0 (at j hj).0 (at i hi).1
      (subst (λ (k : ℕ). get_elem? s.views k ≡ some (at j hj).0) (sym seats) (at j hj).1) in
      let one = one_ticket (at j hj).0.stage (a.serving + i) (a.serving + j)
      (subst (λ (u : View W Z). HasTicket (a.serving + i) u.stage) same (at i hi).2) (at j hj).2
      in
      omega arith in
      let all = pigeon 4294967297 n f low apart in omega arith

  -- a ticket whose last 64 bits are those of the ticket that is served is that ticket
  pub served : (a : PartA joined s) (j : ℕ) (v : View W Z) (t : ℕ) → get_elem? s.views j ≡ some v
      → v.stage ≡ Waits t → t % 2 ^ 64 ≡ a.serving % 2 ^ 64 → a.serving ≡ t
  served a j v t at waits same =
      let q : (a.serving ≤ t) × (t < a.next)
      × (a.holder t ≡ j) = subst (Queued a.next a.serving a.holder a.out j) waits
      (a.queued j v at) in
      let low = q.0 in let high = q.1 in let bound = few a in
      one_turn a.serving t (2 ^ 64) q.0 (omega arith) (sym same)

  -- the pass that has its turn has the ticket that is served
  pub in_turn : (a : PartA joined s) (j : ℕ) (v : View W Z) → get_elem? s.views j ≡ some v
      → HasTurn v.stage → (a.holder a.serving ≡ j) × (a.out ≡ true) × (a.serving < a.next)
  in_turn a j v at h = turn_seat a.next a.serving a.holder a.out j v.stage (a.queued j v at) h
