-- The lock closes: the value is in the slot, and shows the history.
use Rattle.std.proofs.Common.{inl, inr, ◌≡◌, ℕ, Bool, true, false, List, get_or}
use Rattle.std.proofs.Common.{sym, refl, ap, ◌∙◌, subst, Option, Some, None}
use Rattle.std.proofs.lemmas.List.{get_or_default}
use mathlib.Core.Option.{some, some-injective}
use lib.ListN.{get_elem?}
use Rattle.atomic_table.specs.Table.{State, Final, Seen}
use Rattle.atomic_table.proofs.Lists.{at_index}
use Rattle.turn_lock.specs.declared.entry.Entry.{Entry}
use Rattle.turn_lock.specs.declared.seal.Seal.{Seal}
use Rattle.turn_lock.specs.declared.view.View.{View}
use Rattle.turn_lock.specs.declared.view.Joined.{Joined}
use Rattle.turn_lock.specs.declared.view.Role.{Role}
use Rattle.turn_lock.specs.declared.view.Role.TheVariants.{First, Caller, Spent}
use Rattle.turn_lock.specs.declared.view.Stage.TheVariants.{Idle}
use Rattle.turn_lock.specs.History.{StartsWith, entries_by, IsWordIn, IsCounted, IsShown}
use Rattle.turn_lock.specs.Views.{among, IsFirst, made_of, joined_of}
use Rattle.turn_lock.specs.Told.{Closes}
use Rattle.turn_lock.specs.Words.{AllJoined}
use Rattle.turn_lock.proofs.Seals.{Named_by}
use Rattle.turn_lock.specs.Rule.{IsCaller, HasTurn, Named, Met, PartA, Rule}
use Rattle.turn_lock.proofs.Lists.{same_at}
use Rattle.turn_lock.proofs.Passes.{first_named, joined_at}
use Rattle.turn_lock.proofs.Logs.{owns_first}
use Rattle.turn_lock.proofs.Known.{first_live}

module _ {W Z : Type 0} where
  -- a pass with a number: its number was made, and is its own
  caller_named : (seat_of : ℕ → Option ℕ) (made : List ℕ) (joined : List (Joined W Z)) (j n : ℕ)
      (r : Role W Z) → IsCaller n r → Named seat_of made joined j r
      → (among n made ≡ true) × (seat_of n ≡ Some j)
  caller_named seat_of made joined j n (First m js) h q = absurd h
  caller_named seat_of made joined j n (Caller k) h
      q = (ap (λ (i : ℕ). among i made) (sym h) ∙ q.2, ap seat_of (sym h) ∙ q.3)
  caller_named seat_of made joined j n Spent h q = absurd h

module _ {K W Z : Type 0} (before : ℕ) (entries : K → List (Entry W)) (seal : K → Option (Seal Z))
    (Right : List (Entry W) → Type 0) where
  -- if each pass was joined, none has its turn
  all_home : (joined : List (Joined W Z)) (s : State (Option K) (View W Z)) (id : ℕ) (v : View W Z)
      → (a : PartA joined s) → get_elem? s.views id ≡ some v
      → IsFirst v.role → v.stage ≡ Idle → AllJoined v.role → a.out ≡ false
  all_home joined s id v a at first idle all = go a.out refl
    where
      is : (id ≡ 0) × (made_of v.role ≡ a.made) × (joined_of v.role ≡ joined)
      is = first_named a.seat_of a.made joined id v.role first (a.named id v at)

      no_turn : (j : ℕ) (u : View W Z) → get_elem? s.views j ≡ some u → (r : Role W Z) → u.role ≡ r
          → Named a.seat_of a.made joined j r → HasTurn u.stage → ⊥
      no_turn j u q (First m js) e n h =
          let same = same_at s.views id u v
          (subst (λ (i : ℕ). get_elem? s.views i ≡ some u) (n.0 ∙ sym is.0) q) at in
          subst HasTurn (ap (λ (x : View W Z). x.stage) same ∙ idle) h
      no_turn j u q (Caller k) e n h =
          let there = joined_at k (joined_of v.role)
          (all k (subst (λ (m : List ℕ). among k m ≡ true) (sym is.1) n.2)) in
          let gone = (a.each_joined there.0 there.1
          (subst (λ (js : List (Joined W Z)). get_elem? js there.0 ≡ some there.1) is.2
          there.2)).1 in
          let x : None ≡ Some j = sym gone ∙ (ap a.seat_of there.3 ∙ n.3) in cc
      no_turn j u q Spent e n h = subst HasTurn (ap (λ (x : View W Z). x.stage) (a.gone j u q e)) h

      go : (o : Bool) → a.out ≡ o → o ≡ false
      go false e = refl
      go true e = let x = (a.away e).1 in
          absurd (no_turn (a.holder a.serving) x.0 x.1 x.0.role refl
          (a.named (a.holder a.serving) x.0 x.1) x.2)

  -- if each pass was joined, so was that of the caller that a seal names
  names : (joined : List (Joined W Z)) (s : State (Option K) (View W Z)) (id : ℕ) (v : View W Z)
      → (a : PartA joined s) → get_elem? s.views id ≡ some v
      → IsFirst v.role → AllJoined v.role → (z : Seal Z) → Named_by s.views joined z
      → (i : ℕ) × (x : Joined W Z) × (get_elem? joined i ≡ some x) × (x.number ≡ z.by)
      × (x.seal ≡ Some z)
  names joined s id v a at first all z (inr n) = n
  names joined s id v a at first all z (inl n) =
      let is = first_named a.seat_of a.made joined id v.role first (a.named id v at) in
      let here = caller_named a.seat_of a.made joined n.0 z.by n.1.role n.3 (a.named n.0 n.1 n.2) in
      let there = joined_at z.by (joined_of v.role)
      (all z.by (subst (λ (m : List ℕ). among z.by m ≡ true) (sym is.1) here.0)) in
      let gone = (a.each_joined there.0 there.1
      (subst (λ (js : List (Joined W Z)). get_elem? js there.0 ≡ some there.1) is.2 there.2)).1
      in
      absurd (let x : None ≡ Some n.0 = sym gone ∙ (ap a.seat_of there.3 ∙ here.1) in cc)

  pub closes : (id : ℕ) (v : View W Z) (words : List ℕ) (slots : List (Option K)) → IsFirst v.role
      → v.stage ≡ Idle → AllJoined v.role
      → Final (Seen (Rule before entries seal Right) id v) words slots
      → (k : K) × (get_elem? slots 0 ≡ some (Some k)) × Closes before (entries k) (seal k) v
  closes id v words slots first idle all final =
      let s = final.0 in let rule = final.1.0 in let at = final.1.1 in
      let joined = rule.0 in let log = rule.1 in let a = rule.2 in let b = rule.3 in
      let c = rule.4 in let d = rule.5 in
      let home = a.home (all_home joined s id v a at first idle all) in let k = home.0 in
      let tells : log ≡ entries k = sym (b.told k home.1) in
      let stands : c.stop ≡ seal k = sym (c.at_home k home.1) in
      let is = first_named a.seat_of a.made joined id v.role first (a.named id v at) in
      let owns = owns_first log v.mine v.role first (b.owned id v at) in (
        k,
        final.4 0 (Some k) home.1,
        record {
          seen = subst (λ (l : List (Entry W)). StartsWith l v.seen) tells (b.seen id v at);
          known = subst (λ (l : List (Entry W)). IsWordIn before l v.known) tells
              (d.known id v at (first_live v.role first));
          read = subst (λ (l : List (Entry W)). StartsWith l v.read) tells (d.read id v at);
          met = subst (λ (l : List (Entry W)). Met (seal k) l v.seal v.seen) tells
              (subst (λ (z : Option (Seal Z)). Met z log v.seal v.seen) stands (c.met id v at));
          joined = λ i default low.
              let x = get_or (joined_of v.role) i default in
              let there : get_elem? (joined_of v.role) i ≡ some x = at_index (joined_of v.role) i x
              low (get_or_default (joined_of v.role) i default x low) in
              let there' : get_elem? joined
              i ≡ some x = subst (λ (js : List (Joined W Z)). get_elem? js i ≡ some x) is.2
              there in record {
                seen = subst (λ (l : List (Entry W)). StartsWith l x.seen) tells
                    (owns.seen i x there);
                mine = owns.mine i x there ∙ ap (entries_by x.number) tells;
                known = subst (λ (l : List (Entry W)). IsWordIn before l x.known) tells
                    (d.joined_known i x there');
                read = subst (λ (l : List (Entry W)). StartsWith l x.read) tells
                    (d.joined_read i x there').0;
                met = subst (λ (l : List (Entry W)). Met (seal k) l x.seal x.seen) tells
                    (subst (λ (z : Option (Seal Z)). Met z log x.seal x.seen) stands
                    (c.joined_met i x there'));
              };
          named = λ z e. subst (λ (js : List (Joined W Z)). (i : ℕ) × (x : Joined W Z)
              × (get_elem? js i ≡ some x) × (x.number ≡ z.by) × (x.seal ≡ Some z)) (sym is.2)
              (names joined s id v a at first all z (c.namer z (stands ∙ e)));
          counted = subst (λ (l : List (Entry W)). IsCounted l) tells b.counted;
          shown = subst (λ (l : List (Entry W)). IsShown l) tells d.shown;
          unmade = λ n new. ap (entries_by n) (sym tells) ∙ owns.unmade n new;
        },
      )

  -- the value was in the slot
  pub taken_out : (id : ℕ) (v : View W Z) (words : List ℕ) (slots : List (Option K))
      → IsFirst v.role → v.stage ≡ Idle → AllJoined v.role
      → Final (Seen (Rule before entries seal Right) id v) words slots → (taken : Option K)
      → get_elem? slots 0 ≡ some taken
      → (k : K) × (taken ≡ Some k) × Closes before (entries k) (seal k) v
  taken_out id v words slots first idle all final taken at =
      let h = closes id v words slots first idle all final in
      (h.0, some-injective taken (Some h.0) (sym at ∙ h.1), h.2)

  pub closed : (id : ℕ) (v : View W Z) (words : List ℕ) (slots : List (Option K)) → IsFirst v.role
      → v.stage ≡ Idle → AllJoined v.role
      → Final (Seen (Rule before entries seal Right) id v) words slots → (taken : Option K)
      → get_elem? slots 0 ≡ some taken → (value : K) → taken ≡ Some value
      → Closes before (entries value) (seal value) v
  closed id v words slots first idle all final taken at value is =
      let h = taken_out id v words slots first idle all final taken at in
      let same : h.0 ≡ value = let e = h.1 in cc in subst (λ (k : K). Closes before (entries k) (seal k) v) same h.2
