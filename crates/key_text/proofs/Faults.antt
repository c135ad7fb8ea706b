-- A fault that is passed on.
use Rattle.std.proofs.Common.{◌≡◌, Result, Err}
use Rattle.key_text.specs.Fault.{Fails}
use Rattle.key_text.specs.declared.fault.KeyError.{KeyError}
use Rattle.key_text.specs.declared.fault.KeyError.TheVariants as errors
use Rattle.key_text.specs.declared.fault.KeyFault.{KeyFault}

pub fails_as : {X Y : Type 0} (e : KeyError) (first : Result X KeyFault) (second : Result Y KeyFault) → ((f : KeyFault) → first ≡ Err f → second ≡ Err f) → Fails e first → Fails e second
fails_as errors.NoMemory first second on h = tt
fails_as (errors.Fault f) first second on h = on f h
