use Rattle.vt_explain.proofs.Certified.{certificates_are_good, one_first_bad}
use Rattle.vt_explain.proofs.Stated.{certificates_explain-explain, certificates_explain-one}
use Rattle.vt_explain.proofs.laws.certificates_explain.Goals as goal

pub returns-clause-explain : goal.returns-clause-explain
returns-clause-explain c = certificates_explain-explain

pub returns-clause-one : goal.returns-clause-one
returns-clause-one c = certificates_explain-one

pub returns-clause-bad : goal.returns-clause-bad
returns-clause-bad c = one_first_bad

pub returns-clause-apart : goal.returns-clause-apart
returns-clause-apart c = certificates_are_good
