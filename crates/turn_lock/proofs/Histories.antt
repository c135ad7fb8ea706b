-- Prefixes of a history, the entries of one number, and the words of histories.
use Rattle.std.proofs.Common.{◌≡◌, ◌≢◌, ℕ, suc, ◌+◌, ◌*◌, ◌/◌, ◌%◌, ◌<◌, ◌≤◌, ◌⊎◌, inl, inr, ⊎_elim}
use Rattle.std.proofs.Common.{Bool, true, false, cond, eqb, ltb, max, List, [], ◌∷◌, ◌++◌, length}
use Rattle.std.proofs.Common.{take, drop, sym, refl, ap, ◌∙◌, subst, arith, length-append}
use Rattle.std.proofs.lemmas.Bool.{eq-eqb, ne_eqb, lt-ltb, ltb-true}
use Rattle.std.proofs.lemmas.List.{append-nil, append_assoc, take-append-le}
use Rattle.std.proofs.lemmas.List.Elements.{filter-append}
use Rattle.std.proofs.Math.Seq.{take-length, drop-append_seam}
use Rattle.std.proofs.Math.Nat.{lt_of_not-le}
use native.Mathlib.Decide.{dec_le, ℕ_discrete}
use mathlib.Core.Logic.{dite}
use mathlib.Core.Option.{some}
use lib.ListN.{get_elem?}
use Rattle.turn_lock.specs.declared.entry.Entry.{Entry}
use Rattle.turn_lock.specs.History.{IsDisplay, display_after, word_of, StartsWith, entries_by}
use Rattle.turn_lock.specs.History.{IsWordIn}
use Rattle.turn_lock.specs.Views.{longer}

module _ {W : Type 0} where
  pub starts_self : (log : List (Entry W)) → StartsWith log log
  starts_self log = ([], sym (append-nil log))

  pub starts_empty : (log : List (Entry W)) → StartsWith log []
  starts_empty log = (log, refl)

  pub starts_more : (log seen more : List (Entry W)) → StartsWith log seen
      → StartsWith (log ++ more) seen
  starts_more log seen more h = (
    h.0 ++ more,
    ap (λ (l : List (Entry W)). l ++ more) h.1
        ∙ append_assoc seen h.0 more,
  )

  pub starts_length : (log seen : List (Entry W)) → StartsWith log seen → length seen ≤ length log
  starts_length log seen h = let e = ap (λ (l : List (Entry W)). length l) h.1 in
      let f = length-append seen h.0 in omega arith

  -- of two prefixes of one history the shorter is a prefix of the longer
  pub starts_between : (xs ys log : List (Entry W)) → StartsWith log xs → StartsWith log ys
      → length xs ≤ length ys → StartsWith ys xs
  starts_between [] ys log p q h = (ys, refl)
  starts_between (x ∷ xs) [] log p q h = absurd (omega arith)
  starts_between (x ∷ xs) (y ∷ ys) [] p q h = absurd (let e = p.1 in cc)
  starts_between (x ∷ xs) (y ∷ ys) (z ∷ log) p q h =
      let a = p.1 in let b = q.1 in
      let p' : log ≡ xs ++ p.0 = cc in let q' : log ≡ ys ++ q.0 = cc in let same : y ≡ x = cc in
      let r = starts_between xs ys log (p.0, p') (q.0, q') (omega arith) in let s = r.1 in (r.0, cc)

  pub longer_cases : (xs ys : List (Entry W)) → ((length xs ≤ length ys) × (longer xs ys ≡ ys))
      ⊎ ((length ys ≤ length xs) × (longer xs ys ≡ xs))
  longer_cases xs ys = go (ltb (length xs) (length ys)) refl
    where
      go : (b : Bool) → ltb (length xs) (length ys) ≡ b
          → ((length xs ≤ length ys) × (cond b ys xs ≡ ys))
          ⊎ ((length ys ≤ length xs) × (cond b ys xs ≡ xs))
      go true e = let l = ltb-true (length xs) (length ys) e in inl (omega arith, refl)
      go false e = dite (dec_le (length ys) (length xs))
          (λ l. inr (l, refl))
          (λ n. let t = lt-ltb (length xs) (length ys) (lt_of_not-le n) in let f = e in absurd cc)

  pub longer_starts : (log xs ys : List (Entry W)) → StartsWith log xs → StartsWith log ys
      → StartsWith log (longer xs ys)
  longer_starts log xs ys p q = ⊎_elim (λ t. subst (StartsWith log) (sym t.1) q)
      (λ t. subst (StartsWith log) (sym t.1) p) (longer_cases xs ys)

  pub longer_both : (log xs ys : List (Entry W)) → StartsWith log xs → StartsWith log ys
      → StartsWith (longer xs ys) xs × StartsWith (longer xs ys) ys
  longer_both log xs ys p q = ⊎_elim
      (λ t. subst (λ (l : List (Entry W)). StartsWith l xs × StartsWith l ys) (sym t.1)
      (starts_between xs ys log p q t.0, starts_self ys))
      (λ t. subst (λ (l : List (Entry W)). StartsWith l xs × StartsWith l ys) (sym t.1)
      (starts_self xs, starts_between ys xs log q p t.0))
      (longer_cases xs ys)

  starts_whole : (log xs : List (Entry W)) → StartsWith log xs → length log ≤ length xs → xs ≡ log
  starts_whole [] [] p h = refl
  starts_whole [] (x ∷ xs) p h = absurd (let e = p.1 in cc)
  starts_whole (z ∷ log) [] p h = absurd (omega arith)
  starts_whole (z ∷ log) (x ∷ xs) p h =
      let a = p.1 in let p' : log ≡ xs ++ p.0 = cc in let same : x ≡ z = cc in
      let r = starts_whole log xs (p.0, p') (omega arith) in cc

  -- the longer of a prefix and the whole is the whole
  pub longer_whole : (log xs ys : List (Entry W)) → StartsWith log xs → StartsWith log ys
      → (xs ≡ log) ⊎ (ys ≡ log) → longer xs ys ≡ log
  longer_whole log xs ys p q (inl e) =
      let l = starts_length log ys q in let n = ap (λ (z : List (Entry W)). length z) e in
      ⊎_elim (λ t. t.1 ∙ (let s = t.0 in starts_whole log ys q (omega arith))) (λ t. t.1 ∙ e)
      (longer_cases xs ys)
  longer_whole log xs ys p q (inr e) =
      let l = starts_length log xs p in let n = ap (λ (z : List (Entry W)). length z) e in
      ⊎_elim (λ t. t.1 ∙ e) (λ t. t.1 ∙ (let s = t.0 in starts_whole log xs p (omega arith)))
      (longer_cases xs ys)

  pub by_own : (n : ℕ) (log : List (Entry W)) (e : Entry W) → e.by ≡ n
      → entries_by n (log ++ e ∷ []) ≡ entries_by n log ++ e ∷ []
  by_own n log e own = filter-append (λ (x : Entry W). eqb x.by n) log (e ∷ [])
      ∙ ap (λ (b : Bool). entries_by n log ++ cond b (e ∷ []) []) (eq-eqb e.by n own)

  pub by_other : (n : ℕ) (log : List (Entry W)) (e : Entry W) → e.by ≢ n
      → entries_by n (log ++ e ∷ []) ≡ entries_by n log
  by_other n log e other = filter-append (λ (x : Entry W). eqb x.by n) log (e ∷ [])
      ∙ (ap (λ (b : Bool). entries_by n log ++ cond b (e ∷ []) []) (ne_eqb e.by n other)
      ∙ append-nil (entries_by n log))

  -- the entries of a history after a prefix
  pub added : (seen more : List (Entry W)) → drop (length seen) (seen ++ more) ≡ more
  added seen more = drop-append_seam seen more

  pub display_end : (before : ℕ) (log : List (Entry W)) (e : Entry W)
      → display_after before (log ++ e ∷ []) ≡ e.display
  display_end before [] e = refl
  display_end before (x ∷ xs) e = display_end x.display xs e

  pub display_shown : (before : ℕ) (log : List (Entry W)) → IsDisplay before
      → ((i : ℕ) (e : Entry W) → get_elem? log i ≡ some e → IsDisplay e.display)
      → IsDisplay (display_after before log)
  display_shown before [] first shown = first
  display_shown before (e ∷ es) first shown = display_shown e.display es (shown 0 e refl)
      (λ i x q. shown (suc i) x q)

  -- a word in a history is one in each that begins with it
  pub word_more : (before : ℕ) (log more : List (Entry W)) (word : ℕ) → IsWordIn before log word
      → IsWordIn before (log ++ more) word
  word_more before log more word h = record {
    within = let l = h.within in let n = length-append log more in omega arith;
    is = ap (word_of before) (take-append-le (word / 64) log more h.within) ∙ h.is;
  }

  pub word_empty : (before : ℕ) (log : List (Entry W)) → IsDisplay before
      → IsWordIn before log before
  word_empty before log first =
      let low = first.1 in let none : before / 64 ≡ 0 = omega arith in record {
        within = omega arith;
        is = ap (λ (n : ℕ). word_of before (take n log)) none ∙ omega arith;
      }

  pub word_either : (before : ℕ) (log : List (Entry W)) (a b : ℕ) → IsWordIn before log a
      → IsWordIn before log b → IsWordIn before log (max a b)
  word_either before log a b p q = dite (dec_le a b)
      (λ l. let e : b ≡ max a b = omega arith in subst (IsWordIn before log) e q)
      (λ n. let l = lt_of_not-le n in let e : a ≡ max a b = omega arith in
      subst (IsWordIn before log) e p)

  -- the number of entries and the display in the word of a whole history
  pub word_whole : (before : ℕ) (log : List (Entry W)) (word : ℕ)
      → IsDisplay (display_after before log) → word ≡ word_of before log
      → (word / 64 ≡ length log) × (word % 64 ≡ display_after before log)
  word_whole before log word display is =
      let n : ℕ = length log in let d : ℕ = display_after before log in
      let high : d < 64 = display.1 in let e : word ≡ 64 * n + d = is in (omega arith, omega arith)

  pub word_here : (before : ℕ) (log : List (Entry W)) (word : ℕ)
      → IsDisplay (display_after before log) → word ≡ word_of before log → IsWordIn before log word
  word_here before log word display is = let w = (word_whole before log word display is).0 in
      record {
        within = omega arith;
        is = ap (λ (n : ℕ). word_of before (take n log)) w
            ∙ (ap (word_of before) (take-length log) ∙ sym is);
      }

  -- no word in a history is greater than its own
  pub word_greatest : (before : ℕ) (log : List (Entry W)) (old word : ℕ) → IsWordIn before log old
      → word ≡ word_of before log → old ≤ word
  word_greatest before log old word h is = dite (ℕ_discrete (old / 64) (length log))
      (λ e. let same : old ≡ word = sym h.is
      ∙ (ap (λ (n : ℕ). word_of before (take n log)) e
      ∙ (ap (word_of before) (take-length log) ∙ sym is)) in omega arith)
      (λ ne. let l = h.within in let n : ℕ = length log in let d : ℕ = display_after before log in
      let e : word ≡ 64 * n + d = is in omega arith)
