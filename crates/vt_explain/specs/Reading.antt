-- The result of reading a certificate's text. This project's own.
use Rattle.std.specs.Prelude.{◌≡◌, ⊤, ℕ, List, Result, Ok, Err}
use Rattle.std.specs.declared.vec.Vec.{Vec}
use Rattle.vt_explain.specs.CertText.{line_number}
use Rattle.vt_explain.specs.declared.cert_error.CertError.{CertError}
use Rattle.vt_explain.specs.declared.cert_error.CertError.TheVariants as errors
use Rattle.vt_explain.specs.declared.hop_why.HopWhy.{HopWhy}

-- unless memory ran out, the fault is the meaning of the text
abbrev pub IsSaid : CertError → (Result (List HopWhy) ℕ → Type 0) → Type 0
IsSaid (errors.Fault line) says = says (Err line)
IsSaid errors.NoMemory says = ⊤

-- unless memory ran out, the result of a call is the meaning of the text
abbrev pub Reads : {A : Type 0} → Result (Vec HopWhy A) CertError → (Result (List HopWhy) ℕ → Type 0) → Type 0
Reads (Ok c) says = says (Ok c.items)
Reads (Err e) says = IsSaid e says

-- the error is the fault that names that line
abbrev pub IsFaultAt : ℕ → CertError → Type 0
IsFaultAt line (errors.Fault at) = at ≡ line_number line
IsFaultAt line errors.NoMemory = ⊥
