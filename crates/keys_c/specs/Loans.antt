-- A loan of a keyboard that a call gives back as it was.
use Rattle.std.specs.Prelude.{◌≡◌}
use Rattle.keys_c.specs.declared.loan.KeysLoan.{KeysLoan}

-- of the same keyboard, for the same lifetime, and the same part of it
pub record IsSameLoan (old new : KeysLoan) : Type 0 where
  pub value : new.value ≡ old.value
  pub life : new.life ≡ old.life
  pub part : new.part ≡ old.part
