-- Two readings with the same result except for places.
use Rattle.std.proofs.Common.{◌≡◌, Bool, true, false, cond, Result, Ok, Err, sym}
use Rattle.std.proofs.lemmas.Bool.{false≢true}
use Rattle.key_text.specs.Fault.{◌>>=◌}
use Rattle.key_text.specs.declared.fault.KeyFault.{KeyFault}

-- both have values that belong together, or faults of the same kind
abbrev pub Same : {X Y : Type 0} → (X → Y → Type 0) → Result X KeyFault → Result Y KeyFault → Type 0
Same R (Ok x) (Ok y) = R x y
Same R (Ok x) (Err g) = ⊥
Same R (Err f) (Ok y) = ⊥
Same R (Err f) (Err g) = f.kind ≡ g.kind

-- one step after another
pub then : {X Y A B : Type 0} (R : X → Y → Type 0) (S : A → B → Type 0) (m : Result X KeyFault) (n : Result Y KeyFault) (f : X → Result A KeyFault) (g : Y → Result B KeyFault) → Same R m n → ((x : X) (y : Y) → R x y → Same S (f x) (g y)) → Same S (m >>= f) (n >>= g)
then R S (Ok x) (Ok y) f g h k = k x y h
then R S (Ok x) (Err e) f g h k = absurd h
then R S (Err d) (Ok y) f g h k = absurd h
then R S (Err d) (Err e) f g h k = h

-- a choice that both make
pub pick : {A B : Type 0} (S : A → B → Type 0) (b c : Bool) (m o : Result A KeyFault) (n p : Result B KeyFault) → b ≡ c → Same S m n → Same S o p → Same S (cond b m o) (cond c n p)
pick S true true m o n p e h k = h
pick S true false m o n p e h k = absurd (false≢true (sym e))
pick S false true m o n p e h k = absurd (false≢true e)
pick S false false m o n p e h k = k
