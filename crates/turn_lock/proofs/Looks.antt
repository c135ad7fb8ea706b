-- A load of `serving` keeps the rule: if it finds the pass's ticket, the pass takes the value.
use Rattle.std.proofs.Common.{◌≡◌, ◌≢◌, ℕ, ◌%◌, ◌^◌, ◌<◌, ◌≤◌, inl, inr, Bool, true, false, List}
use Rattle.std.proofs.Common.{◌∷◌, length, get_or, set, sym, refl, ap, ◌∙◌, subst, arith, Option}
use Rattle.std.proofs.Common.{Some, None}
use Rattle.std.proofs.lemmas.List.{set-get_or}
use mathlib.Core.Logic.{dite}
use native.Mathlib.Decide.{ℕ_discrete}
use mathlib.Core.Option.{some, none}
use lib.ListN.{get_elem?}
use Rattle.atomic_table.specs.Table.{State, Me, Allows, keeps, takes}
use Rattle.atomic_table.proofs.Lists.{set_here}
use Rattle.turn_lock.specs.declared.entry.Entry.{Entry}
use Rattle.turn_lock.specs.declared.seal.Seal.{Seal}
use Rattle.turn_lock.specs.declared.view.View.{View}
use Rattle.turn_lock.specs.declared.view.Joined.{Joined}
use Rattle.turn_lock.specs.declared.view.Role.{Role}
use Rattle.turn_lock.specs.declared.view.Role.TheVariants.{First, Caller, Spent}
use Rattle.turn_lock.specs.declared.view.Stage.TheVariants.{Waits}
use Rattle.turn_lock.specs.History.{IsCounted, IsShown, StartsWith, IsWordIn}
use Rattle.turn_lock.specs.Views.{IsLive, ticket_of, with_turn}
use Rattle.turn_lock.specs.Words.{HasMine}
use Rattle.turn_lock.specs.Rule.{Queued, HasTurn, Named, IsCaller, Owns, PartA, PartB, PartC, PartD}
use Rattle.turn_lock.specs.Rule.{Rule}
use Rattle.turn_lock.specs.Told.{FindsHistory, LoadsServing}
use Rattle.turn_lock.proofs.Lists.{same_at}
use Rattle.turn_lock.proofs.Seats.{state, some_step}
use Rattle.turn_lock.proofs.Holders.{served}
use Rattle.turn_lock.proofs.Tickets.{takes_A}
use Rattle.turn_lock.proofs.Passes.{unmoved}
use Rattle.turn_lock.proofs.Histories.{starts_self}
use Rattle.turn_lock.proofs.Logs.{quiet}
use Rattle.turn_lock.proofs.Seals.{Named_by, met_some, calm}
use Rattle.turn_lock.proofs.Known.{still}

module _ {W Z : Type 0} where
  owns_mine : (log mine : List (Entry W)) (r : Role W Z) → Owns log r mine → HasMine log r mine
  owns_mine log mine (First m js) h = tt
  owns_mine log mine (Caller n) h = h
  owns_mine log mine Spent h = tt

  caller_seat : (seat_of : ℕ → Option ℕ) (made : List ℕ) (joined : List (Joined W Z)) (j n : ℕ)
      (r : Role W Z) → IsCaller n r → Named seat_of made joined j r → seat_of n ≡ Some j
  caller_seat seat_of made joined j n (First m js) h q = absurd h
  caller_seat seat_of made joined j n (Caller k) h q = ap seat_of (sym h) ∙ q.3
  caller_seat seat_of made joined j n Spent h q = absurd h

module _ {K W Z : Type 0} (before : ℕ) (entries : K → List (Entry W)) (seal : K → Option (Seal Z))
    (Right : List (Entry W) → Type 0) where
  -- a load of `serving` that doesn't find the pass's ticket
  looks_past : (slots id : ℕ) (me : Me (Option K) (View W Z)) (s : State (Option K) (View W Z))
      → Rule before entries seal Right s → get_elem? s.views id ≡ some me.0
      → get_or s.words 1 0 ≢ ticket_of me.0.stage % 2 ^ 64
      → Rule before entries seal Right
      (state (set s.words 1 (get_or s.words 1 0)) s.homes (set s.views id me.0))
      × LoadsServing before entries seal some_step me (get_or s.words 1 0) me
  looks_past slots id me s rule at other = (
    subst (Rule before entries seal Right) (unmoved rule.0 s.words s.homes s.views id me.0 1 at) rule,
    ((λ e. absurd (other e)), (λ ne. refl)),
  )

  -- a seal that names a pass was met by it
  names_own : (joined : List (Joined W Z)) (s : State (Option K) (View W Z)) (id : ℕ) (v : View W Z)
      → (a : PartA joined s) → get_elem? s.views id ≡ some v → (z : Seal Z)
      → Named_by s.views joined z → IsCaller z.by v.role → v.seal ≡ Some z
  names_own joined s id v a at z (inl n) calls =
      let there = caller_seat a.seat_of a.made joined n.0 z.by n.1.role n.3 (a.named n.0 n.1 n.2) in
      let here = caller_seat a.seat_of a.made joined id z.by v.role calls (a.named id v at) in
      let seats : Some n.0 ≡ Some id = sym there ∙ here in let seat : n.0 ≡ id = cc in
      let there' = subst (λ (i : ℕ). get_elem? s.views i ≡ some n.1) seat n.2 in
      ap (λ (u : View W Z). u.seal) (sym (same_at s.views id n.1 v there' at)) ∙ n.4
  names_own joined s id v a at z (inr n) calls =
      let here = caller_seat a.seat_of a.made joined id z.by v.role calls (a.named id v at) in
      let moved : a.seat_of n.1.number ≡ a.seat_of z.by = ap a.seat_of n.3 in
      let gone : None ≡ Some id = sym (a.each_joined n.0 n.1 n.2).1 ∙ (moved ∙ here) in
      absurd cc

  -- the facts that the pass finds when it takes the value
  finds : (joined : List (Joined W Z)) (log : List (Entry W)) (s : State (Option K) (View W Z))
      (id : ℕ) (v : View W Z) → (a : PartA joined s) → PartB before entries log s
      → (c : PartC seal joined log s)
      → PartD before Right joined log s → get_elem? s.views id ≡ some v → IsLive v.role → (k : K)
      → get_elem? s.homes 0 ≡ some (some (Some k)) → FindsHistory before (entries k) (seal k) v
  finds joined log s id v a b c d at live k home =
      let tells : log ≡ entries k = sym (b.told k home) in
      let stands : seal k ≡ c.stop = c.at_home k home in record {
        seen = subst (λ (l : List (Entry W)). StartsWith l v.seen) tells (b.seen id v at);
        mine = subst (λ (l : List (Entry W)). HasMine l v.role v.mine) tells
            (owns_mine log v.mine v.role (b.owned id v at));
        known = subst (λ (l : List (Entry W)). IsWordIn before l v.known) tells
            (d.known id v at live);
        read = subst (λ (l : List (Entry W)). StartsWith l v.read) tells (d.read id v at);
        stands = λ z e. let m = met_some c.stop log v.seal v.seen z e (c.met id v at) in
            (stands ∙ m.0, sym tells ∙ sym m.1);
        own = λ z e calls.
            names_own joined s id v a at z (c.namer z (sym stands ∙ e)) calls;
        counted = subst (λ (l : List (Entry W)). IsCounted l) tells b.counted;
        shown = subst (λ (l : List (Entry W)). IsShown l) tells d.shown;
      }

  -- no pass has the value if a pass that waits has the ticket that is served
  not_out : (joined : List (Joined W Z)) (s : State (Option K) (View W Z)) (id : ℕ) (v : View W Z)
      → (a : PartA joined s) → get_elem? s.views id ≡ some v → v.stage ≡ Waits a.serving
      → a.out ≡ false
  not_out joined s id v a at waits =
      let q : (a.serving ≤ a.serving) × (a.serving < a.next)
      × (a.holder a.serving ≡ id) = subst (Queued a.next a.serving a.holder a.out id) waits
      (a.queued id v at) in
      go a.out refl q.2
    where
      go : (o : Bool) → a.out ≡ o → a.holder a.serving ≡ id → o ≡ false
      go false e h = refl
      go true e h =
          let x = (a.away e).1 in
          let same = same_at s.views id x.0 v
          (subst (λ (i : ℕ). get_elem? s.views i ≡ some x.0) h x.1) at in
          absurd (subst HasTurn (ap (λ (u : View W Z). u.stage) same ∙ waits) x.2)

  -- a load of `serving` that finds the pass's ticket: it takes the value out of its slot
  looks_on : (id : ℕ) (me : Me (Option K) (View W Z)) (s : State (Option K) (View W Z))
      → Rule before entries seal Right s → get_elem? s.views id ≡ some me.0
      → me.0.stage ≡ Waits (ticket_of me.0.stage) → IsLive me.0.role
      → get_or s.words 1 0 ≡ ticket_of me.0.stage % 2 ^ 64
      → (k : K) × (get_elem? s.homes 0 ≡ some (some (Some k)))
      × Rule before entries seal Right
      (state (set s.words 1 (get_or s.words 1 0)) (set s.homes 0 none)
      (set s.views id (with_turn (ticket_of me.0.stage) (entries k) (seal k) me.0)))
      × LoadsServing before entries seal some_step me (get_or s.words 1 0)
      (with_turn (ticket_of me.0.stage) (entries k) (seal k) me.0, (0, Some k) ∷ me.1)
  looks_on id me s rule at waits live found =
      let v = me.0 in let joined = rule.0 in let log = rule.1 in let a = rule.2 in let b = rule.3 in
      let c = rule.4 in let d = rule.5 in
      let t = ticket_of v.stage in
      let same : a.serving ≡ t = served joined s a id v t at waits (sym found ∙ a.serving_is) in
      let waits' : v.stage ≡ Waits a.serving = waits ∙ ap (λ (u : ℕ). Waits u) (sym same) in
      let home = not_out joined s id v a at waits' in
      let h = a.home home in let k = h.0 in
      let w = with_turn t (entries k) (seal k) v in
      let deep : length s.homes ≡ 1 = a.deep in
      let gone : (k' : K) → get_elem? (set s.homes 0 none) 0 ≡ some (some (Some k')) → ⊥ = λ k' q.
      let x = set_here s.homes 0 none (omega arith) in
      let y : some none ≡ some (some (Some k')) = sym x ∙ q in cc in
      let tells : entries k ≡ log = b.told k h.1 in
      let stands : seal k ≡ c.stop = c.at_home k h.1 in
      let now : Rule before entries seal Right (state s.words (set s.homes 0 none) (set s.views id w)) = (
        joined,
        log,
        subst (λ (u : ℕ). PartA joined
            (state s.words (set s.homes 0 none) (set s.views id (with_turn u (entries k) (seal k) v))))
            same
            (takes_A joined s.words s.homes s.views id v a at live waits' home (entries k)
            (seal k)),
        quiet before entries log s.words s.words s.homes (set s.homes 0 none) s.views id v w b refl
            (λ k' q. absurd (gone k' q)) tells
            (subst (StartsWith log) (sym tells) (starts_self log)) (b.owned id v at),
        calm seal joined log s.words s.words s.homes (set s.homes 0 none) s.views id v w c at refl
            (λ k' q. absurd (gone k' q)) (λ x. stands) (inr (stands, tells))
            (λ z e. stands ∙ (met_some c.stop log v.seal v.seen z e (c.met id v at)).0),
        still before Right joined log s.words s.words s.homes (set s.homes 0 none) s.views id v w d
            (d.known id v at) (d.read id v at),
      ) in (
        k,
        h.1,
        subst (λ (ws : List ℕ). Rule before entries seal Right
            (state ws (set s.homes 0 none) (set s.views id w))) (sym (set-get_or s.words 1 0)) now,
        (
          (λ e. (k, refl, finds joined log s id v a b c d at live k h.1)),
          (λ ne. absurd (ne found)),
        ),
      )

  -- a load of `serving`
  pub looks_ok : (slots id : ℕ) (me : Me (Option K) (View W Z))
      → me.0.stage ≡ Waits (ticket_of me.0.stage) → IsLive me.0.role
      → Allows (Rule before entries seal Right) slots id me 1 (λ n. n)
      (LoadsServing before entries seal some_step me)
  looks_ok slots id me waits live s rule deep at small = dite
      (ℕ_discrete (get_or s.words 1 0) (ticket_of me.0.stage % 2 ^ 64))
      (λ e. let r = looks_on id me s rule at waits live e in (
        with_turn (ticket_of me.0.stage) (entries r.0) (seal r.0) me.0,
        takes 0 (Some r.0),
        r.1,
        r.2,
        r.3,
      ))
      (λ ne. let r = looks_past slots id me s rule at ne in (me.0, keeps, tt, r.0, r.1))
