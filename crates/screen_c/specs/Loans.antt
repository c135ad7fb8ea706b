-- A loan of a screen that a call gives back as it was.
use Rattle.std.specs.Prelude.{◌≡◌}
use Rattle.screen_c.specs.declared.loan.ScreenLoan.{ScreenLoan}

-- of the same screen, for the same lifetime, and the same part of it
pub record IsSameLoan (old new : ScreenLoan) : Type 0 where
  pub value : new.value ≡ old.value
  pub life : new.life ≡ old.life
  pub part : new.part ≡ old.part
