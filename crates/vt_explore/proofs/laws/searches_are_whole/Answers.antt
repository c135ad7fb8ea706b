use Rattle.vt_explore.proofs.Journals.{never_in_journals}
use Rattle.vt_explore.proofs.Nevers.{never_from}
use Rattle.vt_explore.proofs.Plays.{played}
use Rattle.session_order.specs.Sessions.{setup_of}
use Rattle.vt_explore.proofs.laws.searches_are_whole.Goals as goal

pub returns-clause-all : goal.returns-clause-all
returns-clause-all c = never_from

pub returns-clause-journals : goal.returns-clause-journals
returns-clause-journals c = never_in_journals

pub returns-clause-played : goal.returns-clause-played
returns-clause-played c = λ s order t serial. played (setup_of s) order t serial
