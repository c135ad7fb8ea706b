-- The error as a text. This project's own.
use Rattle.std.specs.Prelude.{ℕ, List, ◌++◌, codes, decimal}
use Rattle.vt_explain.specs.declared.cert_error.CertError.{CertError}
use Rattle.vt_explain.specs.declared.cert_error.CertError.TheVariants as errors

abbrev pub error_text : CertError → List ℕ
error_text (errors.Fault line) = codes "refused 45 at " ++ (decimal line ++ codes ":1")
error_text errors.NoMemory = codes "no memory"
