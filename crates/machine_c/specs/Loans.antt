-- A loan of a machine that a call gives back as it was.
use Rattle.std.specs.Prelude.{◌≡◌}
use Rattle.machine_c.specs.declared.loan.MachineLoan.{MachineLoan}

-- of the same machine, for the same lifetime, and the same part of it
pub record IsSameLoan (old new : MachineLoan) : Type 0 where
  pub value : new.value ≡ old.value
  pub life : new.life ≡ old.life
  pub part : new.part ≡ old.part
