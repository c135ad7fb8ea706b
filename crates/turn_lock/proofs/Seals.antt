-- Each step keeps part C of the rule, the seal: one that was met stands.
use Rattle.std.proofs.Common.{◌≡◌, ◌≢◌, ℕ, suc, ◌⊎◌, inl, inr, List, [], ◌∷◌, ◌++◌, length, set}
use Rattle.std.proofs.Common.{sym, refl, ap, ◌∙◌, subst, arith, Option, Some, None}
use mathlib.Core.Logic.{dite}
use native.Mathlib.Decide.{ℕ_discrete}
use mathlib.Core.Option.{some, some-injective}
use mathlib.Core.Option as maybe
use lib.ListN.{get_elem?}
use Rattle.atomic_table.proofs.Lists.{set_here, set_else, at_longer}
use Rattle.turn_lock.specs.declared.entry.Entry.{Entry}
use Rattle.turn_lock.specs.declared.seal.Seal.{Seal}
use Rattle.turn_lock.specs.declared.view.View.{View}
use Rattle.turn_lock.specs.declared.view.Joined.{Joined}
use Rattle.turn_lock.specs.declared.view.Role.TheVariants.{Caller}
use Rattle.turn_lock.specs.declared.view.Stage.TheVariants.{Idle, Has}
use Rattle.turn_lock.specs.History.{StartsWith}
use Rattle.turn_lock.specs.Views.{IsFirst, HasNumber, longer, either_seal, newcomer, joined_away}
use Rattle.turn_lock.specs.Views.{with_number, as_caller, joined_view, both, with_published, without_turn}
use Rattle.turn_lock.specs.Words.{MaySeal}
use Rattle.turn_lock.specs.Rule.{HasTurn, IsCaller, Met, PartA, PartB, PartC}
use Rattle.turn_lock.proofs.Lists.{in_range, same_at, each_set, each_front, each_split, each_join}
use Rattle.turn_lock.proofs.Lists.{each_one, each_none}
use Rattle.turn_lock.proofs.Seats.{state}
use Rattle.turn_lock.proofs.Holders.{in_turn}
use Rattle.turn_lock.proofs.Passes.{first_calls_none, number_is}
use Rattle.turn_lock.proofs.Histories.{longer_whole}
use Rattle.turn_lock.proofs.Logs.{sees_all}

module _ {W Z : Type 0} where
  -- the seal that either of two passes has met, if they have seen prefixes of the history
  join_met : (stop : Option (Seal Z)) (log : List (Entry W)) (p q : Option (Seal Z))
      (xs ys : List (Entry W)) → StartsWith log xs → StartsWith log ys
      → Met stop log p xs → Met stop log q ys → Met stop log (either_seal p q) (longer xs ys)
  join_met stop log (Some z) q xs ys sx sy (inl e) m = absurd cc
  join_met stop log (Some z) q xs ys sx sy (inr e) m = inr
      (e.0, longer_whole log xs ys sx sy (inl e.1))
  join_met stop log None q xs ys sx sy m (inl e) = inl e
  join_met stop log None q xs ys sx sy m (inr e) = inr (e.0, longer_whole log xs ys sx sy (inr e.1))

  -- if there is no seal, none was met
  met_none : (stop : Option (Seal Z)) (log : List (Entry W)) (p : Option (Seal Z))
      (xs : List (Entry W)) → stop ≡ None → Met stop log p xs → p ≡ None
  met_none stop log p xs e (inl m) = m
  met_none stop log p xs e (inr m) = m.0 ∙ e

  -- a seal that was met is the one of the value
  pub met_some : (stop : Option (Seal Z)) (log : List (Entry W)) (p : Option (Seal Z))
      (xs : List (Entry W)) (z : Seal Z) → p ≡ Some z → Met stop log p xs
      → (stop ≡ Some z) × (xs ≡ log)
  met_some stop log p xs z e (inl m) = absurd cc
  met_some stop log p xs z e (inr m) = (sym m.0 ∙ e, m.1)

  -- the caller that a seal names has met it, or had when it was joined
  abbrev pub Named_by : List (View W Z) → List (Joined W Z) → Seal Z → Type 0
  Named_by views joined z =
      ((j : ℕ) × (u : View W Z) × (get_elem? views j ≡ some u) × IsCaller z.by u.role
      × (u.seal ≡ Some z))
      ⊎ ((i : ℕ) × (x : Joined W Z) × (get_elem? joined i ≡ some x) × (x.number ≡ z.by)
      × (x.seal ≡ Some z))

  named_set : (views : List (View W Z)) (joined : List (Joined W Z)) (id : ℕ) (v w : View W Z)
      (z : Seal Z) → get_elem? views id ≡ some v → w.role ≡ v.role
      → (v.seal ≡ Some z → w.seal ≡ Some z)
      → Named_by views joined z → Named_by (set views id w) joined z
  named_set views joined id v w z at role keeps (inr n) = inr n
  named_set views joined id v w z at role keeps (inl n) = dite (ℕ_discrete n.0 id)
      (λ e. let same = same_at views id n.1 v
      (subst (λ (k : ℕ). get_elem? views k ≡ some n.1) e n.2) at in
      inl (
        id,
        w,
        set_here views id w (in_range views id v at),
        subst (IsCaller z.by)
            (ap (λ (u : View W Z). u.role) same ∙ sym role) n.3,
        keeps
            (ap (λ (u : View W Z). u.seal) (sym same) ∙ n.4),
      ))
      (λ ne. inl (n.0, n.1, set_else views id n.0 w ne ∙ n.2, n.3, n.4))

  named_split : (views : List (View W Z)) (joined : List (Joined W Z)) (id : ℕ)
      (v left right : View W Z) (z : Seal Z) → get_elem? views id ≡ some v → IsFirst v.role
      → Named_by views joined z → Named_by (set views id left ++ right ∷ []) joined z
  named_split views joined id v left right z at first (inr n) = inr n
  named_split views joined id v left right z at first (inl n) =
      let ne : n.0 ≢ id = λ e. first_calls_none z.by v.role first
      (subst (λ (u : View W Z). IsCaller z.by u.role)
      (same_at views id n.1 v (subst (λ (k : ℕ). get_elem? views k ≡ some n.1) e n.2) at) n.3)
      in
      inl (
        n.0,
        n.1,
        at_longer (set views id left) (right ∷ []) n.0 n.1
            (set_else views id n.0 left ne ∙ n.2),
        n.3,
        n.4,
      )

  named_join : (views : List (View W Z)) (joined : List (Joined W Z)) (id other : ℕ)
      (v w left : View W Z) (z : Seal Z) → get_elem? views id ≡ some v → IsFirst v.role
      → get_elem? views other ≡ some w → HasNumber w.role → Named_by views joined z
      → Named_by (set (set views id left) other joined_away) (joined_view v w ∷ joined) z
  named_join views joined id other v w left z at first at_w as_caller (inr n) = inr
      (suc n.0, n.1, n.2, n.3, n.4)
  named_join views joined id other v w left z at first at_w as_caller (inl n) =
      let ne : n.0 ≢ id = λ e. first_calls_none z.by v.role first
      (subst (λ (u : View W Z). IsCaller z.by u.role)
      (same_at views id n.1 v (subst (λ (k : ℕ). get_elem? views k ≡ some n.1) e n.2) at) n.3)
      in
      dite (ℕ_discrete n.0 other)
      (λ e. let same = same_at views other n.1 w
      (subst (λ (k : ℕ). get_elem? views k ≡ some n.1) e n.2) at_w in
      inr (
        0,
        joined_view v w,
        refl,
        number_is z.by w.role as_caller
            (subst (λ (u : View W Z). IsCaller z.by u.role) same n.3),
        ap (λ (u : View W Z). u.seal)
            (sym same) ∙ n.4,
      ))
      (λ apart. inl (
        n.0,
        n.1,
        set_else (set views id left) other n.0 joined_away apart
            ∙ (set_else views id n.0 left ne ∙ n.2),
        n.3,
        n.4,
      ))

module _ {K W Z : Type 0} (seal : K → Option (Seal Z)) (joined : List (Joined W Z))
    (log : List (Entry W)) (words words' : List ℕ) (homes homes' : List (maybe.Option (Option K)))
    (views : List (View W Z)) (id : ℕ) (v w : View W Z) where
  -- the seal stays
  pub calm : (c : PartC seal joined log (state words homes views)) → get_elem? views id ≡ some v
      → w.role ≡ v.role
      → ((k : K) → get_elem? homes' 0 ≡ some (some (Some k)) → seal k ≡ c.stop)
      → (HasTurn w.stage → w.seal ≡ c.stop) → Met c.stop log w.seal w.seen
      → ((z : Seal Z) → v.seal ≡ Some z → w.seal ≡ Some z)
      → PartC seal joined log (state words' homes' (set views id w))
  calm c at role home turn met keeps = record {
    stop = c.stop;
    at_home = home;
    in_turn = each_set (λ (j : ℕ) (u : View W Z). HasTurn u.stage → u.seal ≡ c.stop) views id w turn
        (λ j u ne q. c.in_turn j u q);
    met = each_set (λ (j : ℕ) (u : View W Z). Met c.stop log u.seal u.seen) views id w met
        (λ j u ne q. c.met j u q);
    joined_met = c.joined_met;
    namer = λ z e. named_set views joined id v w z at role (keeps z) (c.namer z e);
  }

module _ {K W Z : Type 0} (entries : K → List (Entry W)) (before : ℕ) (seal : K → Option (Seal Z))
    (joined : List (Joined W Z)) (log : List (Entry W)) (words : List ℕ)
    (homes : List (maybe.Option (Option K)))
    (views : List (View W Z)) (id : ℕ) (v : View W Z) where
  -- the pass publishes, if it has met no seal
  pub goes_on : (c : PartC seal joined log (state words homes views)) → get_elem? views id ≡ some v
      → HasTurn v.stage → v.seal ≡ None → (more seen : List (Entry W)) (words' : List ℕ)
      → PartC seal joined (log ++ more) (state words' homes (set views id (with_published seen v)))
  goes_on c at turn unsealed more seen words' =
      let none_stands : c.stop ≡ None = sym (c.in_turn id v at turn) ∙ unsealed in record {
        stop = c.stop;
        at_home = c.at_home;
        in_turn = each_set (λ (j : ℕ) (u : View W Z). HasTurn u.stage → u.seal ≡ c.stop) views id
            (with_published seen v) (λ h. c.in_turn id v at turn) (λ j u ne q. c.in_turn j u q);
        met = each_set (λ (j : ℕ) (u : View W Z). Met c.stop (log ++ more) u.seal u.seen) views id
            (with_published seen v) (inl unsealed)
            (λ j u ne q. inl (met_none c.stop log u.seal u.seen none_stands (c.met j u q)));
        joined_met = λ i x q. inl (met_none c.stop log x.seal x.seen none_stands
            (c.joined_met i x q));
        namer = λ z e. absurd cc;
      }

  home_is : length homes ≡ 1 → (k k' : K)
      → get_elem? (set homes 0 (some (Some k))) 0 ≡ some (some (Some k')) → k ≡ k'
  home_is deep k k' q = let h = set_here homes 0 (some (Some k)) (omega arith) in
      let z : some (some (Some k)) ≡ some (some (Some k')) = sym h ∙ q in cc

  -- the pass gives back a value that shows the seal that was found, or its own
  pub seals_C : (a : PartA joined (state words homes views))
      → PartB before entries log (state words homes views)
      → (c : PartC seal joined log (state words homes views)) → get_elem? views id ≡ some v
      → (t : ℕ) → v.stage ≡ Has t v.seen → (k : K) → MaySeal (seal k) v → (words' : List ℕ)
      → PartC seal joined log (state words' (set homes 0 (some (Some k)))
      (set views id (without_turn (seal k) v)))
  seals_C a b c at t has k (inl same) words' =
      let turn : HasTurn v.stage = subst HasTurn (sym has) tt in
      let stands : seal k ≡ c.stop = same ∙ c.in_turn id v at turn in
      calm seal joined log words words' homes (set homes 0 (some (Some k))) views id v
      (without_turn (seal k) v) c at refl
      (λ k' q. ap seal (sym (home_is a.deep k k' q)) ∙ stands) (λ h. absurd h)
      (subst (λ (z : Option (Seal Z)). Met c.stop log z v.seen) (sym same) (c.met id v at))
      (λ z e. same ∙ e)
  seals_C a b c at t has k (inr new) words' =
      let turn : HasTurn v.stage = subst HasTurn (sym has) tt in
      let none_stands : c.stop ≡ None = sym (c.in_turn id v at turn) ∙ new.0 in
      let z = new.1.0 in let is : seal k ≡ Some z = new.1.1 in
      let role : v.role ≡ Caller z.by = new.1.2 in
      let w = without_turn (seal k) v in record {
        stop = Some z;
        at_home = λ k' q. ap seal (sym (home_is a.deep k k' q)) ∙ is;
        in_turn = each_set (λ (j : ℕ) (u : View W Z). HasTurn u.stage → u.seal ≡ Some z) views id w
            (λ h. absurd h)
            (λ j u ne q h. absurd (ne (sym (in_turn joined (state words homes views) a j u q h).0
            ∙ (in_turn joined (state words homes views) a id v at turn).0)));
        met = each_set (λ (j : ℕ) (u : View W Z). Met (Some z) log u.seal u.seen) views id w
            (inr (is, sees_all before entries joined log words homes views id v b at t v.seen has))
            (λ j u ne q. inl (met_none c.stop log u.seal u.seen none_stands (c.met j u q)));
        joined_met = λ i x q. inl (met_none c.stop log x.seal x.seen none_stands
            (c.joined_met i x q));
        namer = λ y e. let same : z ≡ y = cc in
            inl (
              id,
              w,
              set_here views id w (in_range views id v at),
              subst (IsCaller y.by)
                  (sym role) (ap (λ (x : Seal Z). x.by) same),
              is ∙ e,
            );
      }

  pub splits_C : (c : PartC seal joined log (state words homes views)) → get_elem? views id ≡ some v
      → IsFirst v.role → v.stage ≡ Idle → (n : ℕ)
      → PartC seal joined log (state words homes
      (set views id (with_number n v) ++ as_caller n v ∷ []))
  splits_C c at first idle n = record {
    stop = c.stop;
    at_home = c.at_home;
    in_turn = each_split (λ (j : ℕ) (u : View W Z). HasTurn u.stage → u.seal ≡ c.stop) views id
        (with_number n v) (as_caller n v) (c.in_turn id v at) (λ h. absurd (subst HasTurn idle h))
        (λ j u ne q. c.in_turn j u q);
    met = each_split (λ (j : ℕ) (u : View W Z). Met c.stop log u.seal u.seen) views id
        (with_number n v) (as_caller n v) (c.met id v at) (inl refl) (λ j u ne q. c.met j u q);
    joined_met = c.joined_met;
    namer = λ z e. named_split views joined id v (with_number n v) (as_caller n v) z at first
        (c.namer z e);
  }

  pub joins_C : PartB before entries log (state words homes views)
      → (c : PartC seal joined log (state words homes views)) → get_elem? views id ≡ some v
      → IsFirst v.role → v.stage ≡ Idle
      → (other : ℕ) (w : View W Z) → get_elem? views other ≡ some w → HasNumber w.role
      → PartC seal (joined_view v w ∷ joined) log
      (state words homes (set (set views id (both v w)) other joined_away))
  joins_C b c at first idle other w at_w has_number = record {
    stop = c.stop;
    at_home = c.at_home;
    in_turn = each_join (λ (j : ℕ) (u : View W Z). HasTurn u.stage → u.seal ≡ c.stop) views id other
        (both v w) joined_away (λ h. absurd (subst HasTurn idle h)) (λ h. absurd h)
        (λ j u ne nor q. c.in_turn j u q);
    met = each_join (λ (j : ℕ) (u : View W Z). Met c.stop log u.seal u.seen) views id other
        (both v w) joined_away
        (join_met c.stop log v.seal w.seal v.seen w.seen (b.seen id v at) (b.seen other w at_w)
        (c.met id v at) (c.met other w at_w)) (inl refl) (λ j u ne nor q. c.met j u q);
    joined_met = each_front (λ (i : ℕ) (y : Joined W Z). Met c.stop log y.seal y.seen) joined
        (joined_view v w) (c.met other w at_w) c.joined_met;
    namer = λ z e. named_join views joined id other v w (both v w) z at first at_w has_number
        (c.namer z e);
  }

pub opens_C : {K W Z : Type 0} (before : ℕ) (seal : K → Option (Seal Z)) (k : K) (word : ℕ)
    → seal k ≡ None
    → PartC {W = W} seal [] []
    (state (0 ∷ 0 ∷ word ∷ []) (some (Some k) ∷ []) (newcomer before ∷ []))
opens_C {K} {W} {Z} before seal k word unsealed = record {
  stop = None;
  at_home = λ k' q. let z = some-injective (some (Some k)) (some (Some k')) q in
      let same : k ≡ k' = cc in ap seal (sym same) ∙ unsealed;
  in_turn = each_one (λ (j : ℕ) (u : View W Z). HasTurn u.stage → u.seal ≡ None) (newcomer before)
      (λ h. absurd h);
  met = each_one (λ (j : ℕ) (u : View W Z). Met None [] u.seal u.seen) (newcomer before) (inl refl);
  joined_met = each_none (λ (i : ℕ) (x : Joined W Z). Met None [] x.seal x.seen);
  namer = λ z e. absurd cc;
}
