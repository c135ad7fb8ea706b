-- A list is its pushes.
use Rattle.std.proofs.Common.{◌≡◌, ℕ, Bool, true, false, cond, List, [], ◌∷◌, ◌++◌, take, refl, sym, ap, ◌∙◌, append_assoc}
use Rattle.std.proofs.lemmas.List.{append-nil}
use Rattle.cooked.proofs.FreshLaws.{fresh_more}
use Rattle.cooked.specs.Echo.{echo_of}
use Rattle.cooked.specs.Fresh.{after_last, ends, fresh, most}
use Rattle.cooked.specs.Given.{items_after}
use Rattle.cooked.specs.Laws.{ListIsItsPushes, OneMore, Pushed, nothing_pushed, push, pushes}
use Rattle.cooked.specs.Whole.{all_echo, all_items, each}
use Rattle.cooked.specs.declared.termios.Termios.{Termios}

each_more : {A : Type 0} (f : List ℕ → ℕ → List A) (before xs : List ℕ) (b : ℕ)
    → each f before (xs ++ b ∷ []) ≡ each f before xs ++ f (before ++ xs) b
each_more f before [] b =
    append-nil (f before b) ∙ ap (λ ys. f ys b) (sym (append-nil before))
each_more f before (x ∷ xs) b =
    ap (λ ys. f before x ++ ys)
    (each_more f (before ++ x ∷ []) xs b
    ∙ ap (λ zs. each f (before ++ x ∷ []) xs ++ f zs b) (append_assoc before (x ∷ []) xs))
    ∙ sym (append_assoc (f before x) (each f (before ++ x ∷ []) xs) (f (before ++ x ∷ xs) b))

pub one_more : OneMore
one_more t bytes b = record {
  left = fresh_more t bytes b;
  items = each_more (λ before b. items_after t (fresh t before) b) [] bytes b;
  echo = each_more (λ before b. echo_of t (fresh t before) b) [] bytes b;
}

-- the result of all the bytes
abbrev stands_after : Termios → List ℕ → Pushed
stands_after t bytes = record { fresh = fresh t bytes; items = all_items t bytes; echo = all_echo t bytes }

one_push : (t : Termios) (bytes : List ℕ) (b : ℕ)
    → push t (stands_after t bytes) b ≡ stands_after t (bytes ++ b ∷ [])
one_push t bytes b =
    let more = one_more t bytes b in
    cc (more.left, more.items, more.echo)

pushes_on : (t : Termios) (before more : List ℕ)
    → pushes t (stands_after t before) more ≡ stands_after t (before ++ more)
pushes_on t before [] = ap (stands_after t) (sym (append-nil before))
pushes_on t before (b ∷ more) =
    ap (λ p. pushes t p more) (one_push t before b)
    ∙ pushes_on t (before ++ b ∷ []) more
    ∙ ap (stands_after t) (append_assoc before (b ∷ []) more)

-- no bytes have no fresh bytes
pub fresh_none : (t : Termios) → fresh t [] ≡ []
fresh_none t = by_mode t.icanon
  where
    by_mode : (canonical : Bool) → cond canonical (take most (after_last (ends t) [])) [] ≡ []
    by_mode true = refl
    by_mode false = refl

nothing_yet : (t : Termios) → stands_after t [] ≡ nothing_pushed
nothing_yet t = ap (λ f. record { fresh = f; items = []; echo = [] }) (fresh_none t)

pub list_is_its_pushes : ListIsItsPushes
list_is_its_pushes t bytes =
    ap (λ p. pushes t p bytes) (sym (nothing_yet t)) ∙ pushes_on t [] bytes
