use Rattle.key_syms.proofs.for_laws.Own.{code_points_are_their_own, names_are_their_own}
use Rattle.key_syms.proofs.laws.names_are_their_own.Goals as goal

pub returns-clause-names : goal.returns-clause-names
returns-clause-names c = names_are_their_own

pub returns-clause-code_points : goal.returns-clause-code_points
returns-clause-code_points c = code_points_are_their_own
