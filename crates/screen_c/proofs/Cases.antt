-- A clause about what a loan has.
use Rattle.std.proofs.Common.{◌≡◌, Option, Some, None, IfSome, subst, sym}

pub at_some : {A : Type 0} (value : Option A) (o : A) (P : A → Type 0) → value ≡ Some o → P o → IfSome value P
at_some value o P is holds = subst (λ v. IfSome v P) (sym is) holds

pub at_none : {A : Type 0} (value : Option A) (P : A → Type 0) → value ≡ None → IfSome value P
at_none value P is = subst (λ v. IfSome v P) (sym is) tt
