-- Lists that grow by one, and facts at each place of them.
use Rattle.std.proofs.Common.{◌≡◌, ◌≢◌, ℕ, zero, suc, Bool, true, false, cond, ◌==◌, List, [], ◌∷◌, ◌++◌, take, Some, None, refl, ap, ◌∙◌, subst}
use Rattle.std.proofs.lemmas.Bool.{eq-eqb, ne_eqb}
use Rattle.std.proofs.lemmas.List.Elements.{filter-append}
use Rattle.std.specs.Prelude.{slice_get}
use Rattle.vt_events.specs.Waits.{is_wait}
use Rattle.vt_events.specs.Plain.{plain_reply}
use Rattle.vt_events.specs.declared.entry.Entry.{Entry}
use Rattle.vt_events.specs.declared.reply.Reply.{Reply}
use Rattle.vt_events.specs.declared.reply.Reply.TheVariants as reply
use Rattle.vt_hub.specs.Histories.{made_by, waits_by}

module _ {A : Type 0} where
  -- a fact of each element and of those before it
  abbrev pub EachAfter : (List A → A → Type 0) → List A → Type 0
  EachAfter P xs = (k : ℕ) (x : A) → slice_get xs k ≡ Some x → P (take k xs) x

  pub each_more : (P : List A → A → Type 0) (xs : List A) (x : A) → EachAfter P xs → P xs x
      → EachAfter P (xs ++ x ∷ [])
  each_more P [] x each next zero found is =
      let one : Some x ≡ Some found = is in let same : x ≡ found = cc in subst (P []) same next
  each_more P [] x each next (suc k) found is = let bad : None ≡ Some found = is in absurd cc
  each_more P (y ∷ ys) x each next zero found is = each zero found is
  each_more P (y ∷ ys) x each next (suc k) found is =
      each_more (λ before. P (y ∷ before)) ys x (λ j z at. each (suc j) z at) next k found is

-- the entries of a caller, with one entry more
pub made_own : (p : ℕ) (es : List Entry) (e : Entry) → e.caller ≡ p
    → made_by p (es ++ e ∷ []) ≡ made_by p es ++ e ∷ []
made_own p es e own =
    let test : (e.caller == p) ≡ true = eq-eqb e.caller p own in
    filter-append (λ (x : Entry). x.caller == p) es (e ∷ [])
    ∙ ap (λ b. made_by p es ++ cond b (e ∷ []) []) test

pub made_other : (p : ℕ) (es : List Entry) (e : Entry) → e.caller ≢ p
    → made_by p (es ++ e ∷ []) ≡ made_by p es ++ []
made_other p es e other =
    let test : (e.caller == p) ≡ false = ne_eqb e.caller p other in
    filter-append (λ (x : Entry). x.caller == p) es (e ∷ [])
    ∙ ap (λ b. made_by p es ++ cond b (e ∷ []) []) test

-- whether an answer is "wait" doesn't depend on its room
pub plain_waits : (r : Reply) → is_wait (plain_reply r) ≡ is_wait r
plain_waits (reply.Text b) = refl
plain_waits r = refl

-- the last of the entries is the one that was added
pub waits_more : (known : Bool) (es : List Entry) (e : Entry)
    → waits_by known (es ++ e ∷ []) ≡ is_wait e.reply
waits_more known [] e = refl
waits_more known (x ∷ es) e = waits_more (is_wait x.reply) es e
