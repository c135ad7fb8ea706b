use Rattle.vt_explain.proofs.Certs.{one_cert, printed_is_read, read_is_printed}
use Rattle.vt_explain.proofs.laws.one_cert.Goals as goal

pub returns-clause-one : goal.returns-clause-one
returns-clause-one c = one_cert

pub returns-clause-printed : goal.returns-clause-printed
returns-clause-printed c = printed_is_read

pub returns-clause-read : goal.returns-clause-read
returns-clause-read c = read_is_printed
