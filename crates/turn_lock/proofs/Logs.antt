-- Part B: `front`, and the entries that passes have seen and published.
use Rattle.std.proofs.Common.{◌≡◌, ◌≢◌, ℕ, ◌^◌, ◌<◌, ⊎_elim, Bool, true, false, List, [], ◌∷◌, ◌++◌}
use Rattle.std.proofs.Common.{length, get_or, set, drop, sym, refl, ap, ◌∙◌, subst, Option, Some}
use Rattle.std.proofs.Common.{None}
use mathlib.Core.Logic.{dite}
use native.Mathlib.Decide.{ℕ_discrete}
use mathlib.Core.Option.{some, none, some-injective, some-ne-none}
use mathlib.Core.Option as maybe
use lib.ListN.{get_elem?}
use Rattle.turn_lock.specs.declared.entry.Entry.{Entry}
use Rattle.turn_lock.specs.declared.view.View.{View}
use Rattle.turn_lock.specs.declared.view.Joined.{Joined}
use Rattle.turn_lock.specs.declared.view.Role.{Role}
use Rattle.turn_lock.specs.declared.view.Role.TheVariants.{First, Caller, Spent}
use Rattle.turn_lock.specs.declared.view.Stage.{Stage}
use Rattle.turn_lock.specs.declared.view.Stage.TheVariants.{Idle, Waits, Has}
use Rattle.turn_lock.specs.History.{StartsWith, entries_by, word_of}
use Rattle.turn_lock.specs.Views.{among, IsFirst, HasNumber, made_of, joined_of, number_of}
use Rattle.turn_lock.specs.Views.{newcomer, joined_away, with_number, as_caller, joined_view, both, with_published}
use Rattle.turn_lock.specs.Rule.{Holds, HasTurn, Named, OwnsJoined, Owns, PartA, PartB}
use Rattle.turn_lock.proofs.Lists.{at_end, each_set, each_front, each_split, each_join, each_one}
use Rattle.turn_lock.proofs.Lists.{each_none}
use Rattle.turn_lock.proofs.Seats.{state}
use Rattle.turn_lock.proofs.Holders.{in_turn}
use Rattle.turn_lock.proofs.Passes.{among_front, among_apart}
use Rattle.turn_lock.proofs.Histories.{starts_self, starts_empty, starts_more, longer_starts}
use Rattle.turn_lock.proofs.Histories.{by_own, by_other, added}

among_less : (k n : ℕ) (ms : List ℕ) → among k (n ∷ ms) ≡ false → among k ms ≡ false
among_less k n ms h = go (among k ms) refl
  where
    go : (b : Bool) → among k ms ≡ b → b ≡ false
    go false e = refl
    go true e = let f = among_front k n ms e in cc

module _ {W : Type 0} where
  holds_none : (log : List (Entry W)) (st : Stage W) → (HasTurn st → ⊥) → Holds log st
  holds_none log Idle h = tt
  holds_none log (Waits t) h = tt
  holds_none log (Has t held) h = absurd (h tt)

module _ {W Z : Type 0} where
  pub owns_first : (log mine : List (Entry W)) (r : Role W Z) → IsFirst r → Owns log r mine
      → OwnsJoined log (made_of r) (joined_of r)
  owns_first log mine (First m js) f h = h
  owns_first log mine (Caller n) f h = absurd f
  owns_first log mine Spent f h = absurd f

  pub owns_number : (log mine : List (Entry W)) (r : Role W Z) → HasNumber r → Owns log r mine
      → mine ≡ entries_by (number_of r) log
  owns_number log mine (First m js) f h = absurd f
  owns_number log mine (Caller n) f h = h
  owns_number log mine Spent f h = absurd f

  -- the entries of another pass stay if the pass of seat id, whose number was made, publishes
  owns_other : (seat_of : ℕ → Option ℕ) (made : List ℕ) (joined : List (Joined W Z))
      (log : List (Entry W)) (e : Entry W) (id j : ℕ)
      → among e.by made ≡ true → seat_of e.by ≡ Some id → j ≢ id
      → ((i : ℕ) (x : Joined W Z) → get_elem? joined i ≡ some x
      → (among x.number made ≡ true) × (seat_of x.number ≡ None))
      → (r : Role W Z) (mine : List (Entry W)) → Named seat_of made joined j r → Owns log r mine
      → Owns (log ++ e ∷ []) r mine
  owns_other seat_of made joined log e id j is_made at ne each (First m js) mine named h = record {
    unmade = λ n new. let apart : e.by ≢ n = among_apart e.by n m
        (subst (λ (l : List ℕ). among e.by l ≡ true) (sym named.1) is_made) new in
        by_other n log e apart ∙ h.unmade n new;
    mine = λ i x q. let none_has : seat_of
        x.number ≡ None = (each i x
        (subst (λ (l : List (Joined W Z)). get_elem? l i ≡ some x) named.2 q)).1 in
        let apart : e.by ≢ x.number = λ same. let z : None ≡ Some id = sym none_has
        ∙ (ap seat_of (sym same) ∙ at) in cc in
        h.mine i x q ∙ sym (by_other x.number log e apart);
    seen = λ i x q. starts_more log x.seen (e ∷ []) (h.seen i x q);
    beside = λ i x q. starts_more log x.beside (e ∷ []) (h.beside i x q);
  }
  owns_other seat_of made joined log e id j is_made at ne each (Caller n) mine named h =
      let apart : e.by ≢ n = λ same. let z : Some j ≡ Some id = sym named.3
      ∙ (ap seat_of (sym same) ∙ at) in ne cc in h ∙ sym (by_other n log e apart)
  owns_other seat_of made joined log e id j is_made at ne each Spent mine named h = tt

module _ {K W Z : Type 0} (before : ℕ) (entries : K → List (Entry W)) (log : List (Entry W))
    (words words' : List ℕ) (homes homes' : List (maybe.Option (Option K)))
    (views : List (View W Z)) (id : ℕ)
    (v w : View W Z) where
  -- the history stays
  pub quiet : PartB before entries log (state words homes views)
      → get_or words' 2 0 ≡ get_or words 2 0
      → ((k : K) → get_elem? homes' 0 ≡ some (some (Some k)) → entries k ≡ log)
      → Holds log w.stage → StartsWith log w.seen → Owns log w.role w.mine
      → PartB before entries log (state words' homes' (set views id w))
  quiet b front told held seen owned = record {
    front_is = front ∙ b.front_is;
    told = told;
    held = each_set (λ (j : ℕ) (u : View W Z). Holds log u.stage) views id w held
        (λ j u ne q. b.held j u q);
    seen = each_set (λ (j : ℕ) (u : View W Z). StartsWith log u.seen) views id w seen
        (λ j u ne q. b.seen j u q);
    owned = each_set (λ (j : ℕ) (u : View W Z). Owns log u.role u.mine) views id w owned
        (λ j u ne q. b.owned j u q);
    counted = b.counted;
  }

module _ {K W Z : Type 0} (before : ℕ) (entries : K → List (Entry W)) (joined : List (Joined W Z))
    (log : List (Entry W)) (words : List ℕ) (homes : List (maybe.Option (Option K)))
    (views : List (View W Z)) (id : ℕ) (v : View W Z)
  where
    -- the pass that has its turn has seen the whole history
    pub sees_all : PartB before entries log (state words homes views) → get_elem? views id ≡ some v
        → (t : ℕ) (held : List (Entry W)) → v.stage ≡ Has t held → held ≡ log
    sees_all b at t held has = subst (Holds log) has (b.held id v at)

    -- the pass publishes an entry
    pub adds : (a : PartA joined (state words homes views))
        → PartB before entries log (state words homes views) → get_elem? views id ≡ some v
        → (t : ℕ) → v.stage ≡ Has t v.seen → (e : Entry W) → v.role ≡ Caller e.by
        → e.seq ≡ length v.mine
        → (words' : List ℕ) → get_or words' 2 0 ≡ word_of before (v.seen ++ e ∷ [])
        → PartB before entries (log ++ e ∷ [])
        (state words' homes (set views id (with_published (v.seen ++ e ∷ []) v)))
    adds a b at t has e role next words' front =
        let whole : v.seen ≡ log = sees_all b at t v.seen has in
        let grown : v.seen ++ e ∷ [] ≡ log ++ e ∷ [] = ap (λ (l : List (Entry W)). l ++ e ∷ [])
        whole in
        let w = with_published (v.seen ++ e ∷ []) v in
        let turn : HasTurn v.stage = subst HasTurn (sym has) tt in
        let mine : v.mine ≡ entries_by e.by log = subst (λ (r : Role W Z). Owns log r v.mine) role
        (b.owned id v at) in
        let named : (0 < id) × (e.by < 2 ^ 32) × (among e.by a.made ≡ true)
        × (a.seat_of e.by ≡ Some id)
        = subst (λ (r : Role W Z). Named a.seat_of a.made joined id r) role (a.named id v at) in
        let out = (in_turn joined (state words homes views) a id v at turn).1 in
        let own : Owns (log ++ e ∷ []) v.role (v.mine ++ drop (length v.seen) (v.seen ++ e ∷ [])) =
        subst (λ (r : Role W Z). Owns (log ++ e ∷ []) r
        (v.mine ++ drop (length v.seen) (v.seen ++ e ∷ []))) (sym role)
        (ap (λ (l : List (Entry W)). v.mine ++ l) (added v.seen (e ∷ []))
        ∙ (ap (λ (l : List (Entry W)). l ++ e ∷ []) mine ∙ sym (by_own e.by log e refl))) in
        record {
          front_is = front ∙ ap (word_of before) grown;
          told = λ k q. absurd (let z : some (some (Some k)) ≡ some none = sym q ∙ (a.away out).0 in
              cc);
          held = each_set (λ (j : ℕ) (u : View W Z). Holds (log ++ e ∷ []) u.stage) views id w grown
              (λ j u ne q. holds_none (log ++ e ∷ []) u.stage
              (λ h. ne (sym (in_turn joined (state words homes views) a j u q h).0
              ∙ (in_turn joined (state words homes views) a id v at turn).0)));
          seen = each_set (λ (j : ℕ) (u : View W Z). StartsWith (log ++ e ∷ []) u.seen) views id w
              (subst (StartsWith (log ++ e ∷ [])) (sym grown) (starts_self (log ++ e ∷ [])))
              (λ j u ne q. starts_more log u.seen (e ∷ []) (b.seen j u q));
          owned = each_set (λ (j : ℕ) (u : View W Z). Owns (log ++ e ∷ []) u.role u.mine) views id w
              own
              (λ j u ne q. owns_other a.seat_of a.made joined log e id j named.2 named.3 ne
              a.each_joined u.role u.mine (a.named j u q) (b.owned j u q));
          counted = λ n i x q. dite (ℕ_discrete e.by n)
              (λ same. ⊎_elim (λ old. b.counted n i x old)
              (λ new. ap (λ (y : Entry W). y.seq) (sym new.1)
              ∙ (next ∙ (ap (λ (l : List (Entry W)). length l) mine
              ∙ (ap (λ (m : ℕ). length (entries_by m log)) same ∙ sym new.0))))
              (at_end (entries_by n log) e x i
              (subst (λ (l : List (Entry W)). get_elem? l i ≡ some x) (by_own n log e same) q)))
              (λ apart. b.counted n i x (subst (λ (l : List (Entry W)). get_elem? l i ≡ some x)
              (by_other n log e apart) q));
        }

    pub splits_B : PartB before entries log (state words homes views) → get_elem? views id ≡ some v
        → IsFirst v.role → (n : ℕ) → among n (made_of v.role) ≡ false
        → PartB before entries log
        (state words homes (set views id (with_number n v) ++ as_caller n v ∷ []))
    splits_B b at first n fresh =
        let owns = owns_first log v.mine v.role first (b.owned id v at) in record {
          front_is = b.front_is;
          told = b.told;
          held = each_split (λ (j : ℕ) (u : View W Z). Holds log u.stage) views id (with_number n v)
              (as_caller n v) (b.held id v at) (b.held id v at) (λ j u ne q. b.held j u q);
          seen = each_split (λ (j : ℕ) (u : View W Z). StartsWith log u.seen) views id
              (with_number n v) (as_caller n v) (b.seen id v at) (b.seen id v at)
              (λ j u ne q. b.seen j u q);
          owned = each_split (λ (j : ℕ) (u : View W Z). Owns log u.role u.mine) views id
              (with_number n v) (as_caller n v)
              (record {
                unmade = λ k q. owns.unmade k (among_less k n (made_of v.role) q);
                mine = owns.mine;
                seen = owns.seen;
                beside = owns.beside;
              })
              (sym (owns.unmade n fresh)) (λ j u ne q. b.owned j u q);
          counted = b.counted;
        }

    pub joins_B : PartB before entries log (state words homes views) → get_elem? views id ≡ some v
        → IsFirst v.role
        → (other : ℕ) (w : View W Z) → get_elem? views other ≡ some w → HasNumber w.role
        → PartB before entries log (state words homes (set (set views id (both v w)) other joined_away))
    joins_B b at first other w at_w has_number =
        let owns = owns_first log v.mine v.role first (b.owned id v at) in
        let x = joined_view v w in let js = joined_of v.role in record {
          front_is = b.front_is;
          told = b.told;
          held = each_join (λ (j : ℕ) (u : View W Z). Holds log u.stage) views id other (both v w)
              joined_away (b.held id v at) tt (λ j u ne nor q. b.held j u q);
          seen = each_join (λ (j : ℕ) (u : View W Z). StartsWith log u.seen) views id other
              (both v w) joined_away
              (longer_starts log v.seen w.seen (b.seen id v at) (b.seen other w at_w))
              (starts_empty log) (λ j u ne nor q. b.seen j u q);
          owned = each_join (λ (j : ℕ) (u : View W Z). Owns log u.role u.mine) views id other
              (both v w) joined_away
              (record {
                unmade = owns.unmade;
                mine = each_front (λ (i : ℕ) (y : Joined W Z). y.mine ≡ entries_by y.number log) js
                    x (owns_number log w.mine w.role has_number (b.owned other w at_w)) owns.mine;
                seen = each_front (λ (i : ℕ) (y : Joined W Z). StartsWith log y.seen) js x
                    (b.seen other w at_w) owns.seen;
                beside = each_front (λ (i : ℕ) (y : Joined W Z). StartsWith log y.beside) js x
                    (b.seen id v at) owns.beside;
              })
              tt (λ j u ne nor q. b.owned j u q);
          counted = b.counted;
        }

pub opens_B : {K W Z : Type 0} (before : ℕ) (entries : K → List (Entry W)) (k : K) (word : ℕ)
    → word ≡ word_of {W = W} before [] → entries k ≡ []
    → PartB {Z = Z} before entries []
    (state (0 ∷ 0 ∷ word ∷ []) (some (Some k) ∷ []) (newcomer before ∷ []))
opens_B {K} {W} {Z} before entries k word is empty = record {
  front_is = is;
  told = λ k' q. let z = some-injective (some (Some k)) (some (Some k')) q in
      let same : k ≡ k' = cc in ap entries (sym same) ∙ empty;
  held = each_one (λ (j : ℕ) (u : View W Z). Holds [] u.stage) (newcomer before) tt;
  seen = each_one (λ (j : ℕ) (u : View W Z). StartsWith [] u.seen) (newcomer before)
      (starts_empty []);
  owned = each_one (λ (j : ℕ) (u : View W Z). Owns [] u.role u.mine) (newcomer before) record {
    unmade = λ n new. refl;
    mine = each_none (λ (i : ℕ) (x : Joined W Z). x.mine ≡ []);
    seen = each_none (λ (i : ℕ) (x : Joined W Z). StartsWith [] x.seen);
    beside = each_none (λ (i : ℕ) (x : Joined W Z). StartsWith [] x.beside);
  };
  counted = λ n i e q. absurd (some-ne-none e (sym q));
}
