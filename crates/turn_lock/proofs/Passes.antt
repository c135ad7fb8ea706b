-- Part A when the lock opens, over a step that changes nothing, and when passes are made and joined.
use Rattle.std.proofs.Common.{◌≡◌, ◌≢◌, ℕ, zero, suc, ◌^◌, ◌<◌, Bool, true, false, ◌||◌, ◌==◌, List}
use Rattle.std.proofs.Common.{[], ◌∷◌, ◌++◌, length, get_or, set, sym, refl, ap, ◌∙◌, subst, arith}
use Rattle.std.proofs.Common.{Option, Some, None, length-set}
use Rattle.std.proofs.lemmas.Bool.{eq-eqb, ne_eqb}
use Rattle.std.proofs.lemmas.List.{set-get_or}
use mathlib.Core.Logic.{dite}
use native.Mathlib.Decide.{ℕ_discrete}
use mathlib.Core.Option.{some, none, some-injective, some-ne-none}
use mathlib.Core.Option as maybe
use lib.ListN.{get_elem?}
use Rattle.atomic_table.proofs.Lists.{set_else, set_again, at_longer, at_last}
use Rattle.turn_lock.specs.declared.view.View.{View}
use Rattle.turn_lock.specs.declared.view.Joined.{Joined}
use Rattle.turn_lock.specs.declared.view.Role.{Role}
use Rattle.turn_lock.specs.declared.view.Role.TheVariants.{First, Caller, Spent}
use Rattle.turn_lock.specs.declared.view.Stage.{Stage}
use Rattle.turn_lock.specs.declared.view.Stage.TheVariants.{Idle}
use Rattle.turn_lock.specs.Views.{among, IsFirst, HasNumber, made_of, joined_of, number_of}
use Rattle.turn_lock.specs.Views.{newcomer, joined_away, with_number, as_caller, joined_view, both}
use Rattle.turn_lock.specs.Words.{has_joined}
use Rattle.turn_lock.specs.Rule.{Queued, HasTicket, HasTurn, Named, IsCaller, Placed, PartA}
use Rattle.turn_lock.proofs.Lists.{put, put_here, put_else, in_range, same_at, each_front}
use Rattle.turn_lock.proofs.Lists.{each_split, each_join, each_one, each_none}
use Rattle.turn_lock.proofs.Seats.{state, found}

or_right : (a b : Bool) → b ≡ true → a || b ≡ true
or_right true b e = refl
or_right false b e = e

or_left : (a b : Bool) → a ≡ true → a || b ≡ true
or_left true b e = refl
or_left false b e = cc

pub or_false : (a b : Bool) → a ≡ false → a || b ≡ b
or_false true b e = cc
or_false false b e = refl

pub among_front : (n m : ℕ) (ms : List ℕ) → among n ms ≡ true → among n (m ∷ ms) ≡ true
among_front n m ms h = or_right (n == m) (among n ms) h

pub among_here : (n : ℕ) (ms : List ℕ) → among n (n ∷ ms) ≡ true
among_here n ms = or_left (n == n) (among n ms) (eq-eqb n n refl)

-- a number of a list is the first one, or among the others
pub among_else : (n m : ℕ) (ms : List ℕ) → n ≢ m → among n (m ∷ ms) ≡ among n ms
among_else n m ms ne = or_false (n == m) (among n ms) (ne_eqb n m ne)

pub among_apart : (k n : ℕ) (ms : List ℕ) → among k ms ≡ true → among n ms ≡ false → k ≢ n
among_apart k n ms in_list not_in_list e = let same : among k ms ≡ among n ms = ap
    (λ (z : ℕ). among z ms) e in cc

module _ {W Z : Type 0} where
  -- the place in the list of joined passes of one with this number
  pub joined_at : (n : ℕ) (js : List (Joined W Z)) → has_joined n js ≡ true
      → (i : ℕ) × (x : Joined W Z) × (get_elem? js i ≡ some x) × (x.number ≡ n)
  joined_at n [] h = absurd cc
  joined_at n (x ∷ xs) h = dite (ℕ_discrete n x.number)
      (λ e. (0, x, refl, sym e))
      (λ ne. let r = joined_at n xs
      (sym (or_false (n == x.number) (has_joined n xs) (ne_eqb n x.number ne)) ∙ h) in
      (suc r.0, r.1, r.2, r.3))

  pub first_named : (seat_of : ℕ → Option ℕ) (made : List ℕ) (joined : List (Joined W Z)) (j : ℕ)
      (r : Role W Z) → IsFirst r → Named seat_of made joined j r
      → (j ≡ 0) × (made_of r ≡ made) × (joined_of r ≡ joined)
  first_named seat_of made joined j (First m js) f h = h
  first_named seat_of made joined j (Caller n) f h = absurd f
  first_named seat_of made joined j Spent f h = absurd f

  pub number_named : (seat_of : ℕ → Option ℕ) (made : List ℕ) (joined : List (Joined W Z)) (j : ℕ)
      (r : Role W Z) → HasNumber r → Named seat_of made joined j r
      → (0 < j) × (number_of r < 2 ^ 32) × (among (number_of r) made ≡ true)
      × (seat_of (number_of r) ≡ Some j)
  number_named seat_of made joined j (First m js) f h = absurd f
  number_named seat_of made joined j (Caller n) f h = h
  number_named seat_of made joined j Spent f h = absurd f

  pub first_calls_none : (n : ℕ) (r : Role W Z) → IsFirst r → IsCaller n r → ⊥
  first_calls_none n (First m js) f h = h
  first_calls_none n (Caller k) f h = f
  first_calls_none n Spent f h = f

  pub number_is : (n : ℕ) (r : Role W Z) → HasNumber r → IsCaller n r → number_of r ≡ n
  number_is n (First m js) f h = absurd f
  number_is n (Caller k) f h = h
  number_is n Spent f h = absurd f

  split_named : (seat_of : ℕ → Option ℕ) (made : List ℕ) (joined : List (Joined W Z)) (n last j : ℕ)
      (r : Role W Z) → j ≢ 0 → among n made ≡ false
      → Named seat_of made joined j r → Named (put seat_of n (Some last)) (n ∷ made) joined j r
  split_named seat_of made joined n last j (First m js) ne fresh h = absurd (ne h.0)
  split_named seat_of made joined n last j (Caller k) ne fresh h = (
    h.0,
    h.1,
    among_front k n made h.2,
    put_else seat_of n (Some last) k
        (among_apart k n made h.2 fresh) ∙ h.3,
  )
  split_named seat_of made joined n last j Spent ne fresh h = h

  join_named : (seat_of : ℕ → Option ℕ) (made : List ℕ) (joined joined' : List (Joined W Z))
      (n other j : ℕ) (r : Role W Z) → j ≢ 0 → j ≢ other → seat_of n ≡ Some other
      → Named seat_of made joined j r → Named (put seat_of n None) made joined' j r
  join_named seat_of made joined joined' n other j (First m js) ne other_seat at h = absurd (ne h.0)
  join_named seat_of made joined joined' n other j (Caller k) ne other_seat at h =
      let apart : k ≢ n = λ e. let x : Some j ≡ Some other = sym h.3 ∙ (ap seat_of e ∙ at) in
      other_seat cc in
      (h.0, h.1, h.2, put_else seat_of n None k apart ∙ h.3)
  join_named seat_of made joined joined' n other j Spent ne other_seat at h = h

  -- the place of a number after a split and a join
  split_placed : (views : List (View W Z)) (joined : List (Joined W Z)) (id : ℕ)
      (v left right : View W Z) → get_elem? views id ≡ some v → IsFirst v.role
      → (k : ℕ) (seat : Option ℕ) → Placed views joined k seat
      → Placed (set views id left ++ right ∷ []) joined k seat
  split_placed views joined id v left right at first k None p = p
  split_placed views joined id v left right at first k (Some j) p =
      let ne : j ≢ id = λ e. first_calls_none k v.role first
      (subst (λ (u : View W Z). IsCaller k u.role)
      (same_at views id p.0 v (subst (λ (i : ℕ). get_elem? views i ≡ some p.0) e p.1) at) p.2)
      in (
        p.0,
        at_longer (set views id left) (right ∷ []) j p.0 (set_else views id j left ne ∙ p.1),
        p.2,
      )

  join_placed : (views : List (View W Z)) (joined : List (Joined W Z)) (x : Joined W Z)
      (id other : ℕ) (v w left : View W Z) → get_elem? views id ≡ some v → IsFirst v.role
      → get_elem? views other ≡ some w → HasNumber w.role → (k : ℕ) → k ≢ number_of w.role
      → (seat : Option ℕ) → Placed views joined k seat
      → Placed (set (set views id left) other joined_away) (x ∷ joined) k seat
  join_placed views joined x id other v w left at first at_w as_caller k ne None
      p = (suc p.0, p.1, p.2, p.3)
  join_placed views joined x id other v w left at first at_w as_caller k ne (Some j) p =
      let not_id : j ≢ id = λ e. first_calls_none k v.role first
      (subst (λ (u : View W Z). IsCaller k u.role)
      (same_at views id p.0 v (subst (λ (i : ℕ). get_elem? views i ≡ some p.0) e p.1) at) p.2)
      in
      let not_other : j ≢ other = λ e. ne (sym (number_is k w.role as_caller
      (subst (λ (u : View W Z). IsCaller k u.role)
      (same_at views other p.0 w (subst (λ (i : ℕ). get_elem? views i ≡ some p.0) e p.1) at_w)
      p.2))) in (
        p.0,
        set_else (set views id left) other j joined_away not_other
            ∙ (set_else views id j left not_id ∙ p.1),
        p.2,
      )

  once_front : (joined : List (Joined W Z)) (x : Joined W Z)
      → ((i : ℕ) (y : Joined W Z) → get_elem? joined i ≡ some y → x.number ≢ y.number)
      → ((i j : ℕ) (y z : Joined W Z) → get_elem? joined i ≡ some y → get_elem? joined j ≡ some z
      → y.number ≡ z.number → i ≡ j)
      → (i j : ℕ) (y z : Joined W Z) → get_elem? (x ∷ joined) i ≡ some y
      → get_elem? (x ∷ joined) j ≡ some z → y.number ≡ z.number → i ≡ j
  once_front joined x new old zero zero y z at_y at_z e = refl
  once_front joined x new old zero (suc j) y z at_y at_z e = absurd
      (new j z at_z (ap (λ (u : Joined W Z). u.number) (some-injective x y at_y) ∙ e))
  once_front joined x new old (suc i) zero y z at_y at_z e = absurd
      (new i y at_y (ap (λ (u : Joined W Z). u.number) (some-injective x z at_z) ∙ sym e))
  once_front joined x new old (suc i) (suc j) y z at_y at_z e = ap suc (old i j y z at_y at_z e)

module _ {K W Z : Type 0} (joined : List (Joined W Z)) (words : List ℕ)
    (homes : List (maybe.Option (Option K))) (views : List (View W Z)) (id : ℕ) (v : View W Z) where
  pub splits_A : (a : PartA joined (state words homes views)) → get_elem? views id ≡ some v
      → IsFirst v.role → v.stage ≡ Idle → (n : ℕ) → n < 2 ^ 32 → among n (made_of v.role) ≡ false
      → PartA joined (state words homes (set views id (with_number n v) ++ as_caller n v ∷ []))
  splits_A a at first idle n small fresh =
      let left = with_number n v in let right = as_caller n v in let last = length views in
      let views' = set views id left ++ right ∷ [] in
      let seat_of : ℕ → Option ℕ = put a.seat_of n (Some last) in
      let is = first_named a.seat_of a.made joined id v.role first (a.named id v at) in
      let new : among n a.made ≡ false = subst (λ (m : List ℕ). among n m ≡ false) is.1 fresh in
      let zero_id = is.0 in
      let in_views = in_range views id v at in
      let apart : (j : ℕ) → j ≢ id → j ≢ 0 = λ j ne e. ne (e ∙ sym is.0) in
      let keeps : (P : Stage W → Type 0) → (j : ℕ) → (u : View W Z) × (get_elem? views j ≡ some u)
      × P u.stage → (u : View W Z) × (get_elem? views' j ≡ some u) × P u.stage = λ P j h.
      let f = found views id v left at P (λ x. x) j h in
      (f.0, at_longer (set views id left) (right ∷ []) j f.0 f.1, f.2) in
      record {
        next = a.next;
        serving = a.serving;
        holder = a.holder;
        out = a.out;
        seat_of = seat_of;
        made = n ∷ a.made;
        wide = a.wide;
        deep = a.deep;
        next_is = a.next_is;
        serving_is = a.serving_is;
        order = a.order;
        queued = each_split (λ (j : ℕ) (u : View W Z). Queued a.next a.serving a.holder a.out j
            u.stage) views id left right
            (a.queued id v at) (subst (Queued a.next a.serving a.holder a.out last) (sym idle) tt)
            (λ j u ne q. a.queued j u q);
        named = each_split (λ (j : ℕ) (u : View W Z). Named seat_of (n ∷ a.made) joined j u.role)
            views id left right
            (is.0, ap (λ (m : List ℕ). n ∷ m) is.1, is.2)
            (omega arith, small, among_here n a.made, put_here a.seat_of n (Some last))
            (λ j u ne q. split_named a.seat_of a.made joined n last j u.role (apart j ne) new
            (a.named j u q));
        gone = each_split (λ (j : ℕ) (u : View W Z). u.role ≡ Spent → u ≡ joined_away) views id left right
            (λ e. cc) (λ e. cc) (λ j u ne q. a.gone j u q);
        each_ticket = λ t low high. keeps (HasTicket t) (a.holder t) (a.each_ticket t low high);
        each_made = λ k m. dite (ℕ_discrete k n)
            (λ e. subst (Placed views' joined k)
            (sym (ap seat_of e ∙ put_here a.seat_of n (Some last)))
            (right, at_last (set views id left) right last (length-set views id left), sym e))
            (λ ne. subst (Placed views' joined k) (sym (put_else a.seat_of n (Some last) k ne))
            (split_placed views joined id v left right at first k (a.seat_of k)
            (a.each_made k (sym (among_else k n a.made ne) ∙ m))));
        each_joined = λ i x q. let h = a.each_joined i x q in (
          among_front x.number n a.made h.0,
          put_else a.seat_of n (Some last) x.number
              (among_apart x.number n a.made h.0 new) ∙ h.1,
        );
        joined_once = a.joined_once;
        home = a.home;
        away = λ o. ((a.away o).0, keeps HasTurn (a.holder a.serving) (a.away o).1);
      }

  pub joins_A : (a : PartA joined (state words homes views)) → get_elem? views id ≡ some v
      → IsFirst v.role
      → (other : ℕ) (w : View W Z) → ¬ (other ≡ id) → get_elem? views other ≡ some w
      → HasNumber w.role → w.stage ≡ Idle
      → PartA (joined_view v w ∷ joined) (state words homes (set (set views id (both v w)) other joined_away))
  joins_A a at first other w apart at_w has_number idle =
      let n = number_of w.role in let x = joined_view v w in let left = both v w in
      let views' = set (set views id left) other joined_away in
      let seat_of : ℕ → Option ℕ = put a.seat_of n None in
      let is = first_named a.seat_of a.made joined id v.role first (a.named id v at) in
      let has = number_named a.seat_of a.made joined other w.role has_number (a.named other w at_w) in
      let at_w' : get_elem? (set views id left) other ≡ some w = set_else views id other left apart
      ∙ at_w in
      let keeps : (P : Stage W → Type 0) → (j : ℕ) → (u : View W Z) × (get_elem? views j ≡ some u)
      × P u.stage → (u : View W Z) × (get_elem? views' j ≡ some u) × P u.stage = λ P j h.
      found (set views id left) other w joined_away at_w' P (λ y. subst P idle y) j
      (found views id v left at P (λ y. y) j h) in
      let elsewhere : (i : ℕ) (y : Joined W Z) → get_elem? joined i ≡ some y
      → y.number ≢ n = λ i y q e.
      let p : None ≡ Some other = sym (a.each_joined i y q).1 ∙ (ap a.seat_of e ∙ has.3) in cc in
      record {
        next = a.next;
        serving = a.serving;
        holder = a.holder;
        out = a.out;
        seat_of = seat_of;
        made = a.made;
        wide = a.wide;
        deep = a.deep;
        next_is = a.next_is;
        serving_is = a.serving_is;
        order = a.order;
        queued = each_join (λ (j : ℕ) (u : View W Z). Queued a.next a.serving a.holder a.out j
            u.stage) views id other left joined_away
            (a.queued id v at) tt (λ j u ne nor q. a.queued j u q);
        named = each_join (λ (j : ℕ) (u : View W Z). Named seat_of a.made (x ∷ joined) j u.role)
            views id other left joined_away
            (is.0, is.1, ap (λ (js : List (Joined W Z)). x ∷ js) is.2) has.0
            (λ j u ne nor q. join_named a.seat_of a.made joined (x ∷ joined) n other j u.role
            (λ e. ne (e ∙ sym is.0)) nor has.3 (a.named j u q));
        gone = each_join (λ (j : ℕ) (u : View W Z). u.role ≡ Spent → u ≡ joined_away) views id other left
            joined_away (λ e. cc) (λ e. refl) (λ j u ne nor q. a.gone j u q);
        each_ticket = λ t low high. keeps (HasTicket t) (a.holder t) (a.each_ticket t low high);
        each_made = λ k m. dite (ℕ_discrete k n)
            (λ e. subst (Placed views' (x ∷ joined) k)
            (sym (ap seat_of e ∙ put_here a.seat_of n None)) (0, x, refl, sym e))
            (λ ne. subst (Placed views' (x ∷ joined) k) (sym (put_else a.seat_of n None k ne))
            (join_placed views joined x id other v w left at first at_w has_number k ne (a.seat_of k)
            (a.each_made k m)));
        each_joined = each_front (λ (i : ℕ) (y : Joined W Z). (among y.number a.made ≡ true)
            × (seat_of y.number ≡ None)) joined x
            (has.2, put_here a.seat_of n None)
            (λ i y q. (
              (a.each_joined i y q).0,
              put_else a.seat_of n None y.number (elsewhere i y q)
                  ∙ (a.each_joined i y q).1,
            ));
        joined_once = once_front joined x (λ i y q e. elsewhere i y q (sym e)) a.joined_once;
        home = a.home;
        away = λ o. ((a.away o).0, keeps HasTurn (a.holder a.serving) (a.away o).1);
      }

  -- a step that changes nothing
  pub unmoved : (i : ℕ) → get_elem? views id ≡ some v
      → state words homes views ≡ state (set words i (get_or words i 0)) homes (set views id v)
  unmoved i at = λ k. state (sym (set-get_or words i 0) k) homes (sym (set_again views id v at) k)

pub opens_A : {K W Z : Type 0} (before word : ℕ) (k : K)
    → PartA {W = W} {Z = Z} []
    (state (0 ∷ 0 ∷ word ∷ []) (some (Some k) ∷ []) (newcomer before ∷ []))
opens_A {K} {W} {Z} before word k = record {
  next = 0;
  serving = 0;
  holder = λ t. 0;
  out = false;
  seat_of = λ n. None;
  made = [];
  wide = refl;
  deep = refl;
  next_is = refl;
  serving_is = refl;
  order = omega arith;
  queued = each_one (λ (j : ℕ) (u : View W Z). Queued 0 0 (λ t. 0) false j u.stage)
      (newcomer before) tt;
  named = each_one (λ (j : ℕ) (u : View W Z). Named (λ n. None) [] [] j u.role) (newcomer before)
      (refl, refl, refl);
  gone = each_one (λ (j : ℕ) (u : View W Z). u.role ≡ Spent → u ≡ joined_away) (newcomer before)
      (λ e. cc);
  each_ticket = λ t low high. absurd (omega arith);
  each_made = λ n m. absurd cc;
  each_joined = each_none (λ (i : ℕ) (x : Joined W Z). (among x.number [] ≡ true) × (None ≡ None));
  joined_once = λ i j x y p q e. absurd (some-ne-none x (sym p));
  home = λ o. (k, refl);
  away = λ o. cc;
}
