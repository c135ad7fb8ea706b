-- Each kind of step keeps the rule, part by part, each from that part and those before it; with it
-- comes the relation of the step.
use Rattle.std.proofs.Common.{◌≡◌, ℕ, suc, ◌+◌, ◌%◌, ◌^◌, ◌<◌, Bool, true, false, List, [], ◌∷◌, ◌++◌, length}
use Rattle.std.proofs.Common.{get_or, set, sym, refl, ap, ◌∙◌, subst, arith, Option, Some, None}
use Rattle.std.proofs.Common.{length-set, get_or-set_same, get_or-set_other}
use Rattle.std.proofs.lemmas.List.{set-get_or}
use mathlib.Core.Option.{some}
use lib.ListN.{get_elem?}
use Rattle.atomic_table.specs.Table.{Me, Allows, Splits, Joins, keeps, gives, opening}
use Rattle.atomic_table.proofs.Lists.{set_here, set_else}
use Rattle.turn_lock.specs.declared.entry.Entry.{Entry}
use Rattle.turn_lock.specs.declared.seal.Seal.{Seal}
use Rattle.turn_lock.specs.declared.view.View.{View}
use Rattle.turn_lock.specs.declared.view.Joined.{Joined}
use Rattle.turn_lock.specs.declared.view.Stage.{Stage}
use Rattle.turn_lock.specs.declared.view.Stage.TheVariants.{Idle, Waits, Has}
use Rattle.turn_lock.specs.History.{IsDisplay, word_of}
use Rattle.turn_lock.specs.Views.{among, IsLive, IsFirst, HasNumber, made_of, joined_of, ticket_of}
use Rattle.turn_lock.specs.Views.{newcomer, joined_away, with_number, as_caller, joined_view, both, with_ticket}
use Rattle.turn_lock.specs.Views.{with_published, without_turn, with_known_word}
use Rattle.turn_lock.specs.Words.{AddsNext, MaySeal, has_joined}
use Rattle.turn_lock.specs.Rule.{Queued, HasTicket, HasTurn, PartB, Rule}
use Rattle.turn_lock.specs.Told.{DrawsTicket, StoresFront, EndsTurn, ComparesJoined, LoadsFront}
use Rattle.turn_lock.proofs.Seats.{state, some_step, stays}
use Rattle.turn_lock.proofs.Tickets.{draws_A, leaves_A}
use Rattle.turn_lock.proofs.Passes.{splits_A, joins_A, unmoved, opens_A, first_named, joined_at}
use Rattle.turn_lock.proofs.Histories.{longer_both, starts_self, display_shown, word_here}
use Rattle.turn_lock.proofs.Logs.{owns_first, sees_all, quiet, adds, splits_B, joins_B, opens_B}
use Rattle.turn_lock.proofs.Seals.{calm, goes_on, seals_C, splits_C, joins_C, opens_C}
use Rattle.turn_lock.proofs.Known.{still, shows_D, splits_D, joins_D, reads, opens_D}

module _ {W : Type 0} where
  held_queued : (next serving : ℕ) (holder : ℕ → ℕ) (out : Bool) (j : ℕ) (log : List (Entry W))
      (st : Stage W) → HasTurn st → Queued next serving holder out j st
      → Queued next serving holder out j (Has (ticket_of st) log)
  held_queued next serving holder out j log Idle h q = absurd h
  held_queued next serving holder out j log (Waits t) h q = absurd h
  held_queued next serving holder out j log (Has t held) h q = q

  held_ticket : (log : List (Entry W)) (st : Stage W) → HasTurn st → (t : ℕ) → HasTicket t st
      → HasTicket {W = W} t (Has (ticket_of st) log)
  held_ticket log Idle h t q = absurd h
  held_ticket log (Waits u) h t q = absurd h
  held_ticket log (Has u held) h t q = q

module _ {W Z : Type 0} where
  -- the pass that was joined last is the only one that has its number
  no_other : (joined : List (Joined W Z)) (x : Joined W Z) (xs : List (Joined W Z)) → joined ≡ x ∷ xs
      → ((i j : ℕ) (y z : Joined W Z) → get_elem? joined i ≡ some y → get_elem? joined j ≡ some z
      → y.number ≡ z.number → i ≡ j)
      → has_joined x.number xs ≡ false
  no_other joined x xs is once = go (has_joined x.number xs) refl
    where
      go : (b : Bool) → has_joined x.number xs ≡ b → b ≡ false
      go false e = refl
      go true e =
          let r = joined_at x.number xs e in
          let here : get_elem? joined 0 ≡ some x = ap
          (λ (js : List (Joined W Z)). get_elem? js 0) is in
          let there : get_elem? joined (suc r.0) ≡ some r.1 = ap
          (λ (js : List (Joined W Z)). get_elem? js (suc r.0)) is ∙ r.2 in
          let bad : 0 ≡ suc r.0 = once 0 (suc r.0) x r.1 here there (sym r.3) in
          absurd (omega arith)

abbrev first_value : {S : Type 0} → S → List (ℕ × S) → S
first_value default [] = default
first_value default (x ∷ xs) = x.1

module _ {K W Z : Type 0} (before : ℕ) (entries : K → List (Entry W)) (seal : K → Option (Seal Z))
    (Right : List (Entry W) → Type 0) where
  -- a fetch_add of `next`
  pub draws_ok : (slots id : ℕ) (me : Me (Option K) (View W Z)) → me.0.stage ≡ Idle
      → IsLive me.0.role
      → Allows (Rule before entries seal Right) slots id me 0 (λ n. (n + 1) % 2 ^ 64) (DrawsTicket some_step me)
  draws_ok slots id me idle live s rule deep at small =
      let v = me.0 in let joined = rule.0 in let log = rule.1 in let a = rule.2 in let b = rule.3 in
      let c = rule.4 in let d = rule.5 in
      let words' = set s.words 0 ((get_or s.words 0 0 + 1) % 2 ^ 64) in
      let w = with_ticket a.next v in (
        w,
        keeps,
        tt,
        (
          joined,
          log,
          draws_A joined s.words s.homes s.views id v a at idle live,
          quiet before entries log s.words words' s.homes s.homes s.views id v w b
              (get_or-set_other s.words 0 2 _ 0 (λ e. omega arith)) b.told tt (b.seen id v at)
              (b.owned id v at),
          calm seal joined log s.words words' s.homes s.homes s.views id v w c at refl c.at_home
              (λ h. absurd h) (c.met id v at) (λ z e. e),
          still before Right joined log s.words words' s.homes s.homes s.views id v w d (d.known id v at) (d.read id v at),
        ),
        (refl, (a.next, a.next_is, refl)),
      )

  -- a store to `front`: the one event
  pub shows_ok : (slots id : ℕ) (me : Me (Option K) (View W Z)) (t : ℕ)
      → me.0.stage ≡ Has t me.0.seen → IsLive me.0.role → me.0.seal ≡ None
      → (more : List (Entry W)) → AddsNext (me.0.seen ++ more) me.0 → Right (me.0.seen ++ more)
      → (word : ℕ)
      → word ≡ word_of before (me.0.seen ++ more)
      → Allows (Rule before entries seal Right) slots id me 2 (λ _. word)
      (λ _. StoresFront more some_step me word)
  shows_ok slots id me t has live unsealed more adds_next right word is s rule deep at small =
      let v = me.0 in let joined = rule.0 in let log = rule.1 in let a = rule.2 in let b = rule.3 in
      let c = rule.4 in let d = rule.5 in
      let wide : length s.words ≡ 3 = a.wide in
      let some_words : 2 < length s.words = omega arith in
      let words' = set s.words 2 word in let e = adds_next.0 in let grown = v.seen ++ more in
      let same : grown ≡ v.seen ++ e ∷ [] = adds_next.1 in
      let w = with_published grown v in
      let turn : HasTurn v.stage = subst HasTurn (sym has) tt in
      let whole : v.seen ≡ log = sees_all before entries joined log s.words s.homes s.views id v b
      at t v.seen has in
      let fit : Right (log ++ e ∷ []) = subst Right
      (same ∙ ap (λ (l : List (Entry W)). l ++ e ∷ []) whole) right in
      let front : get_or words' 2 0 ≡ word_of before (v.seen ++ e ∷ []) = get_or-set_same s.words 2
      word 0 some_words ∙ (is ∙ ap (word_of before) same) in (
        w,
        keeps,
        tt,
        (
          joined,
          log ++ e ∷ [],
          stays joined s.words words' s.homes s.views id v w a at refl live
              (λ next serving holder out j q. held_queued next serving holder out j grown v.stage
              turn q) (held_ticket grown v.stage turn) (λ h. tt)
              (length-set s.words 2 word ∙ wide)
              (get_or-set_other s.words 2 0 word 0 (λ z. omega arith))
              (get_or-set_other s.words 2 1 word 0 (λ z. omega arith)),
          subst (λ (l : List (Entry W)). PartB before entries (log ++ e ∷ [])
              (state words' s.homes (set s.views id (with_published l v)))) (sym same)
              (adds before entries joined log s.words s.homes s.views id v a b at t has e
              adds_next.2 adds_next.3 words' front),
          goes_on entries before seal joined log s.words s.homes s.views id v c at turn unsealed
              (e ∷ []) grown words',
          shows_D before Right joined log s.words words' s.homes s.homes s.views id v w d e
              adds_next.4 fit (d.known id v at) (d.read id v at),
        ),
        refl,
      )

  leaves_at : (slots id : ℕ) (v : View W Z) (t : ℕ) → v.stage ≡ Has t v.seen → IsLive v.role
      → (k : K) → entries k ≡ v.seen → MaySeal (seal k) v
      → Allows (Rule before entries seal Right) slots id (v, (0, Some k) ∷ []) 1 (λ n. (n + 1) % 2 ^ 64)
      (EndsTurn seal some_step (v, (0, Some k) ∷ []))
  leaves_at slots id v t has live k tells may s rule deep at small =
      let joined = rule.0 in let log = rule.1 in let a = rule.2 in let b = rule.3 in
      let c = rule.4 in let d = rule.5 in
      let words' = set s.words 1 ((get_or s.words 1 0 + 1) % 2 ^ 64) in
      let homes' = set s.homes 0 (some (Some k)) in
      let one : length s.homes ≡ 1 = a.deep in
      let w = without_turn (seal k) v in
      let whole : v.seen ≡ log = sees_all before entries joined log s.words s.homes s.views id v b
      at t v.seen has in
      let told : (k' : K) → get_elem? homes' 0 ≡ some (some (Some k')) → entries k' ≡ log = λ k' q.
      let x = set_here s.homes 0 (some (Some k)) (omega arith) in
      let y : some (some (Some k)) ≡ some (some (Some k')) = sym x ∙ q in let same : k ≡ k' = cc in
      ap entries (sym same) ∙ (tells ∙ whole) in
      let own : (t ≡ a.serving) × (t < a.next) × (a.holder t ≡ id)
      × (a.out ≡ true) = subst (Queued a.next a.serving a.holder a.out id) has (a.queued id v at) in
      let number : get_or s.words 1 0 ≡ ticket_of v.stage % 2 ^ 64 = a.serving_is
      ∙ ap (λ u. u % 2 ^ 64) (sym own.0 ∙ sym (ap ticket_of has)) in (
        w,
        gives,
        tt,
        (
          joined,
          log,
          leaves_A joined s.words s.homes s.views id v a at live t v.seen has k (seal k),
          quiet before entries log s.words words' s.homes homes' s.views id v w b
              (get_or-set_other s.words 1 2 _ 0 (λ e. omega arith)) told tt (b.seen id v at)
              (b.owned id v at),
          seals_C entries before seal joined log s.words s.homes s.views id v a b c at t has k may
              words',
          still before Right joined log s.words words' s.homes homes' s.views id v w d (d.known id v at) (d.read id v at),
        ),
        (λ k' e. let taken : Some k ≡ Some k' = ap (first_value (Some k)) e in
            let same : k ≡ k' = cc in (ap (λ (y : K). (without_turn (seal y) v, [])) same, number)),
      )

  -- a fetch_add of `serving`: the value is back in the slot
  pub leaves_ok : (slots id : ℕ) (me : Me (Option K) (View W Z)) (v : View W Z) (k : K)
      → me ≡ (v, (0, Some k) ∷ []) → (t : ℕ) → v.stage ≡ Has t v.seen → IsLive v.role
      → entries k ≡ v.seen → MaySeal (seal k) v
      → Allows (Rule before entries seal Right) slots id me 1 (λ n. (n + 1) % 2 ^ 64)
      (EndsTurn seal some_step me)
  leaves_ok slots id me v k is t has live tells may =
      subst (λ (m : Me (Option K) (View W Z)). Allows (Rule before entries seal Right) slots id m 1
      (λ n. (n + 1) % 2 ^ 64) (EndsTurn seal some_step m)) (sym is)
      (leaves_at slots id v t has live k tells may)

  -- a load of word 0 after a join: no view changes
  pub compares_ok : (slots id : ℕ) (me : Me (Option K) (View W Z)) → IsFirst me.0.role
      → Allows (Rule before entries seal Right) slots id me 0 (λ n. n) (ComparesJoined some_step me)
  compares_ok slots id me first s rule deep at small =
      let v = me.0 in let joined = rule.0 in let log = rule.1 in let a = rule.2 in let b = rule.3 in
      let names = first_named a.seat_of a.made joined id v.role first (a.named id v at) in
      let owns = owns_first log v.mine v.role first (b.owned id v at) in (
        v,
        keeps,
        tt,
        subst (Rule before entries seal Right) (unmoved joined s.words s.homes s.views id v 0 at) rule,
        (
          refl,
          (λ x xs e.
              let q : get_elem? (joined_of v.role) 0 ≡ some x = ap
              (λ (js : List (Joined W Z)). get_elem? js 0) e in
              longer_both log x.beside x.seen (owns.beside 0 x q) (owns.seen 0 x q)),
          (λ x xs e.
              let q : get_elem? joined 0 ≡ some x = ap
              (λ (js : List (Joined W Z)). get_elem? js 0) (sym names.2 ∙ e) in
              let r = rule.5.joined_read 0 x q in longer_both log x.beside_read x.read r.1 r.0),
          (λ x xs e.
              let is : joined ≡ x ∷ xs = sym names.2 ∙ e in
              let here : get_elem? joined 0 ≡ some x = ap
              (λ (js : List (Joined W Z)). get_elem? js 0) is in (
                ap (λ (ms : List ℕ). among x.number ms) names.1 ∙ (a.each_joined 0 x here).0,
                no_other joined x xs is a.joined_once,
              )),
        ),
      )

  -- a load of `front`
  pub reads_ok : (slots id : ℕ) (me : Me (Option K) (View W Z)) → IsDisplay before
      → IsLive me.0.role
      → Allows (Rule before entries seal Right) slots id me 2 (λ n. n) (LoadsFront before Right some_step me)
  reads_ok slots id me first live s rule deep at small =
      let v = me.0 in let joined = rule.0 in let log = rule.1 in let a = rule.2 in let b = rule.3 in
      let c = rule.4 in let d = rule.5 in
      let word = get_or s.words 2 0 in let w = with_known_word log word v in
      let now : Rule before entries seal Right (state s.words s.homes (set s.views id w)) = (
        joined,
        log,
        stays joined s.words s.words s.homes s.views id v w a at refl live
            (λ next serving holder out j q. q) (λ u h. h) (λ h. h) a.wide refl refl,
        quiet before entries log s.words s.words s.homes s.homes s.views id v w b refl b.told
            (b.held id v at) (b.seen id v at) (b.owned id v at),
        calm seal joined log s.words s.words s.homes s.homes s.views id v w c at refl c.at_home
            (c.in_turn id v at) (c.met id v at) (λ z e. e),
        still before Right joined log s.words s.words s.homes s.homes s.views id v w d
            (λ l. word_here before log word (display_shown before log first d.shown) b.front_is)
            (starts_self log),
      ) in (
        w,
        keeps,
        tt,
        subst (λ (ws : List ℕ). Rule before entries seal Right (state ws s.homes (set s.views id w)))
            (sym (set-get_or s.words 2 0)) now,
        (
          log,
          refl,
          reads before Right joined log s.words s.homes s.views id v first b d at live word
              b.front_is,
        ),
      )

  pub splits_ok : (id : ℕ) (v : View W Z) (n : ℕ) → IsFirst v.role → v.stage ≡ Idle → n < 2 ^ 32
      → among n (made_of v.role) ≡ false
      → Splits (Rule before entries seal Right) id v (with_number n v) (as_caller n v)
  splits_ok id v n first idle small fresh s rule at =
      let joined = rule.0 in let log = rule.1 in (
        joined,
        log,
        splits_A joined s.words s.homes s.views id v rule.2 at first idle n small fresh,
        splits_B before entries joined log s.words s.homes s.views id v rule.3 at first n fresh,
        splits_C entries before seal joined log s.words s.homes s.views id v rule.4 at first idle n,
        splits_D before Right joined log s.words s.homes s.views id v rule.5 at first n,
      )

  pub joins_ok : (id : ℕ) (v : View W Z) (other : ℕ) (w : View W Z) → IsFirst v.role
      → v.stage ≡ Idle → HasNumber w.role → w.stage ≡ Idle
      → Joins (Rule before entries seal Right) id v other w (both v w) joined_away
  joins_ok id v other w first idle has_number idle_w s rule at apart at_w =
      let joined = rule.0 in let log = rule.1 in
      let there : get_elem? s.views other ≡ some w = sym
      (set_else s.views id other (both v w) apart) ∙ at_w in (
        joined_view v w ∷ joined,
        log,
        joins_A joined s.words s.homes s.views id v rule.2 at first other w apart there has_number
            idle_w,
        joins_B before entries joined log s.words s.homes s.views id v rule.3 at first other w there
            has_number,
        joins_C entries before seal joined log s.words s.homes s.views id v rule.3 rule.4 at first
            idle other w there has_number,
        joins_D before Right joined log s.words s.homes s.views id v rule.5 at first other w there
            has_number,
      )

  pub opens_ok : Right [] → IsDisplay before → (k : K) (word : ℕ) (slots : List (Option K))
      → word ≡ word_of {W = W} before [] → entries k ≡ [] → seal k ≡ None → slots ≡ Some k ∷ []
      → Rule before entries seal Right (opening (0 ∷ 0 ∷ word ∷ []) slots (newcomer before))
  opens_ok right first k word slots is empty unsealed one =
      subst (λ (xs : List (Option K)). Rule before entries seal Right
      (opening (0 ∷ 0 ∷ word ∷ []) xs (newcomer before))) (sym one) (
        [],
        [],
        opens_A before word k,
        opens_B before entries k word is empty,
        opens_C before seal k
            word unsealed,
        opens_D before Right right first k word,
      )
