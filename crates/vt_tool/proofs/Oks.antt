-- Facts of a result that isn't an error.
use Rattle.std.proofs.Common.{Result, Ok, Err}
use Rattle.std.specs.Prelude.{IfOk}

-- a fact that follows from another
pub ok_more : {A E : Type 0} (P Q : A → Type 0) (r : Result A E) → ((a : A) → P a → Q a) → IfOk r P
    → IfOk r Q
ok_more P Q (Ok a) more holds = more a holds
ok_more P Q (Err e) more holds = tt
