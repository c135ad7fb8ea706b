-- Each step keeps part D of the rule: the words that passes have read stay those of prefixes.
use Rattle.std.proofs.Common.{◌≡◌, ℕ, ⊎_elim, List, [], ◌∷◌, ◌++◌, set, sym, subst, arith}
use Rattle.std.proofs.Common.{Option, Some}
use mathlib.Core.Option.{some, some-ne-none}
use mathlib.Core.Option as maybe
use lib.ListN.{get_elem?}
use Rattle.turn_lock.specs.declared.entry.Entry.{Entry}
use Rattle.turn_lock.specs.declared.view.View.{View}
use Rattle.turn_lock.specs.declared.view.Joined.{Joined}
use Rattle.turn_lock.specs.declared.view.Role.{Role}
use Rattle.turn_lock.specs.declared.view.Role.TheVariants.{First, Caller, Spent}
use Rattle.turn_lock.specs.History.{IsDisplay, IsWordIn, StartsWith, word_of}
use Rattle.turn_lock.specs.Views.{IsLive, IsFirst, HasNumber, newcomer, joined_away, with_number}
use Rattle.turn_lock.specs.Views.{as_caller, joined_view, both}
use Rattle.turn_lock.specs.Rule.{PartB, PartD}
use Rattle.turn_lock.specs.Told.{Reads}
use Rattle.turn_lock.proofs.Lists.{at_end, each_set, each_front, each_split, each_join, each_one}
use Rattle.turn_lock.proofs.Lists.{each_none}
use Rattle.turn_lock.proofs.Seats.{state}
use Rattle.turn_lock.proofs.Histories.{starts_length, starts_empty, starts_more, longer_starts}
use Rattle.turn_lock.proofs.Histories.{display_shown, word_more, word_empty}
use Rattle.turn_lock.proofs.Histories.{word_either, word_whole, word_greatest}

module _ {W Z : Type 0} where
  pub first_live : (r : Role W Z) → IsFirst r → IsLive r
  first_live (First m js) f = tt
  first_live (Caller n) f = tt
  first_live Spent f = f

  pub number_live : (r : Role W Z) → HasNumber r → IsLive r
  number_live (First m js) f = tt
  number_live (Caller n) f = tt
  number_live Spent f = f

module _ {K W Z : Type 0} (before : ℕ) (Right : List (Entry W) → Type 0)
    (joined : List (Joined W Z)) (log : List (Entry W))
    (words words' : List ℕ) (homes homes' : List (maybe.Option (Option K)))
    (views : List (View W Z)) (id : ℕ) (v w : View W Z) where
  -- the history stays
  pub still : (d : PartD before Right joined log (state words homes views))
      → (IsLive w.role → IsWordIn before log w.known) → StartsWith log w.read
      → PartD before Right joined log (state words' homes' (set views id w))
  still d here read = record {
    right = d.right;
    shown = d.shown;
    known = each_set (λ (j : ℕ) (u : View W Z). IsLive u.role → IsWordIn before log u.known) views
        id w here (λ j u ne q. d.known j u q);
    read = each_set (λ (j : ℕ) (u : View W Z). StartsWith log u.read) views id w read
        (λ j u ne q. d.read j u q);
    joined_known = d.joined_known;
    joined_read = d.joined_read;
  }

  -- an entry is published
  pub shows_D : (d : PartD before Right joined log (state words homes views)) → (e : Entry W)
      → IsDisplay e.display → Right (log ++ e ∷ []) → (IsLive w.role → IsWordIn before log w.known)
      → StartsWith log w.read
      → PartD before Right joined (log ++ e ∷ []) (state words' homes' (set views id w))
  shows_D d e display right here read = record {
    right = right;
    shown = λ i x q. ⊎_elim (λ old. d.shown i x old)
        (λ new. subst (λ (y : Entry W). IsDisplay y.display) new.1 display) (at_end log e x i q);
    known = each_set (λ (j : ℕ) (u : View W Z). IsLive u.role
        → IsWordIn before (log ++ e ∷ []) u.known) views id w
        (λ l. word_more before log (e ∷ []) w.known (here l))
        (λ j u ne q l. word_more before log (e ∷ []) u.known (d.known j u q l));
    read = each_set (λ (j : ℕ) (u : View W Z). StartsWith (log ++ e ∷ []) u.read) views id w
        (starts_more log w.read (e ∷ []) read)
        (λ j u ne q. starts_more log u.read (e ∷ []) (d.read j u q));
    joined_known = λ i x q. word_more before log (e ∷ []) x.known (d.joined_known i x q);
    joined_read = λ i x q. (
      starts_more log x.read (e ∷ []) (d.joined_read i x q).0,
      starts_more log x.beside_read (e ∷ []) (d.joined_read i x q).1,
    );
  }

module _ {K W Z : Type 0} (before : ℕ) (Right : List (Entry W) → Type 0)
    (joined : List (Joined W Z)) (log : List (Entry W))
    (words : List ℕ) (homes : List (maybe.Option (Option K))) (views : List (View W Z)) (id : ℕ)
    (v : View W Z) where
  pub splits_D : PartD before Right joined log (state words homes views) → get_elem? views id ≡ some v
      → IsFirst v.role → (n : ℕ)
      → PartD before Right joined log (state words homes
      (set views id (with_number n v) ++ as_caller n v ∷ []))
  splits_D d at first n = let own = d.known id v at (first_live v.role first) in
      let read = d.read id v at in record {
        right = d.right;
        shown = d.shown;
        known = each_split (λ (j : ℕ) (u : View W Z). IsLive u.role → IsWordIn before log u.known) views
            id (with_number n v) (as_caller n v) (λ l. own) (λ l. own) (λ j u ne q. d.known j u q);
        read = each_split (λ (j : ℕ) (u : View W Z). StartsWith log u.read) views id (with_number n v)
            (as_caller n v) read read (λ j u ne q. d.read j u q);
        joined_known = d.joined_known;
        joined_read = d.joined_read;
      }

  pub joins_D : PartD before Right joined log (state words homes views) → get_elem? views id ≡ some v
      → IsFirst v.role → (other : ℕ) (w : View W Z) → get_elem? views other ≡ some w
      → HasNumber w.role
      → PartD before Right (joined_view v w ∷ joined) log
      (state words homes (set (set views id (both v w)) other joined_away))
  joins_D d at first other w at_w has_number =
      let own = d.known id v at (first_live v.role first) in
      let theirs = d.known other w at_w (number_live w.role has_number) in record {
        right = d.right;
        shown = d.shown;
        known = each_join (λ (j : ℕ) (u : View W Z). IsLive u.role → IsWordIn before log u.known)
            views id other (both v w) joined_away
            (λ l. word_either before log v.known w.known own theirs) (λ l. absurd l)
            (λ j u ne nor q. d.known j u q);
        read = each_join (λ (j : ℕ) (u : View W Z). StartsWith log u.read) views id other (both v w)
            joined_away (longer_starts log v.read w.read (d.read id v at) (d.read other w at_w))
            (starts_empty log) (λ j u ne nor q. d.read j u q);
        joined_known = each_front (λ (i : ℕ) (y : Joined W Z). IsWordIn before log y.known) joined
            (joined_view v w) theirs d.joined_known;
        joined_read = each_front
            (λ (i : ℕ) (y : Joined W Z). StartsWith log y.read × StartsWith log y.beside_read) joined
            (joined_view v w) (d.read other w at_w, d.read id v at) d.joined_read;
      }

  -- the facts of a word that a pass reads
  pub reads : {entries : K → List (Entry W)} → IsDisplay before
      → PartB before entries log (state words homes views)
      → PartD before Right joined log (state words homes views)
      → get_elem? views id ≡ some v → IsLive v.role → (word : ℕ) → word ≡ word_of before log
      → Reads before Right log word v
  reads first b d at live word is =
      let display = display_shown before log first d.shown in
      let whole = word_whole before log word display is in
      let old = d.known id v at live in
      let start = b.seen id v at in
      let len = starts_length log v.seen start in let len' = whole.0 in let within = old.within in
      record {
        is = is;
        count = whole.0;
        right = d.right;
        after = start;
        read = d.read id v at;
        seen = omega arith;
        known = omega arith;
        greatest = word_greatest before log v.known word old is;
        display = subst IsDisplay (sym whole.1) display;
      }

pub opens_D : {K W Z : Type 0} (before : ℕ) (Right : List (Entry W) → Type 0) → Right []
    → IsDisplay before → (k : K) (word : ℕ)
    → PartD {W = W} {Z = Z} before Right [] []
    (state (0 ∷ 0 ∷ word ∷ []) (some (Some k) ∷ []) (newcomer before ∷ []))
opens_D {K} {W} {Z} before Right right first k word = record {
  right = right;
  shown = λ i e q. absurd (some-ne-none e (sym q));
  known = each_one (λ (j : ℕ) (u : View W Z). IsLive u.role → IsWordIn before [] u.known)
      (newcomer before) (λ l. word_empty before [] first);
  read = each_one (λ (j : ℕ) (u : View W Z). StartsWith [] u.read) (newcomer before) (starts_empty []);
  joined_known = each_none (λ (i : ℕ) (x : Joined W Z). IsWordIn before [] x.known);
  joined_read = each_none
      (λ (i : ℕ) (x : Joined W Z). StartsWith [] x.read × StartsWith [] x.beside_read);
}
