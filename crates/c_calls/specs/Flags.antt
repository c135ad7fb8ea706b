-- A flag as C gets it.
use Rattle.std.specs.Prelude.{ℕ, Bool, true, false}

-- 1 is yes and 0 is no
abbrev pub c_flag : Bool → ℕ
c_flag true = 1
c_flag false = 0
