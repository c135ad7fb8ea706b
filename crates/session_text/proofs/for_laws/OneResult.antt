-- Relations that give one result at most.
use Rattle.std.proofs.Common.{◌≡◌, ℕ, ◌+◌, List, [], ◌∷◌, Result, Ok, Err, subst, sym, ◌∙◌}
use Rattle.table_fields.specs.declared.fault.TableFault.{TableFault}
use Rattle.session_text.specs.Says.{◌>>=◌, each_says, follows, is}

-- the relation has one result at most
abbrev pub IsOne : {A : Type 0} → (Result A TableFault → Type 0) → Type 0
IsOne {A = A} says = (a b : Result A TableFault) → says a → says b → a ≡ b

pub is_one : {A : Type 0} (read : Result A TableFault) → IsOne (is read)
is_one read a b this other = this ∙ sym other

follows_one : {A B : Type 0} (more : A → Result B TableFault → Type 0) (read : Result A TableFault)
    → ((x : A) → IsOne (more x)) → IsOne (follows more read)
follows_one more (Ok x) one a b this other = one x a b this other
follows_one more (Err e) one a b this other = this ∙ sym other

pub bind_one : {A B : Type 0} (first : Result A TableFault → Type 0)
    (more : A → Result B TableFault → Type 0)
    → IsOne first → ((x : A) → IsOne (more x)) → IsOne (first >>= more)
bind_one first more one_first one_more a b this other =
    follows_one more this.0 one_more a b this.2
    (subst (λ read. follows more read b) (one_first other.0 this.0 other.1 this.1) other.2)

pub each_one : {A B : Type 0} (says : ℕ → A → Result B TableFault → Type 0)
    → ((n : ℕ) (x : A) → IsOne (says n x)) → (n : ℕ) (xs : List A) → IsOne (each_says says n xs)
each_one says one n [] = is_one (Ok [])
each_one says one n (x ∷ xs) =
    bind_one (says n x) _ (one n x)
    (λ y. bind_one (each_says says (n + 1) xs) _ (each_one says one (n + 1) xs) (λ ys. is_one (Ok (y ∷ ys))))
