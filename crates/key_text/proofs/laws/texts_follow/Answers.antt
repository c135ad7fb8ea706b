use Rattle.key_text.proofs.for_laws.Elsewhere.{places_tell}
use Rattle.key_text.proofs.for_laws.PartsRead.{starts_there, texts_follow}
use Rattle.key_text.proofs.laws.texts_follow.Goals as goal

pub returns-clause-start : goal.returns-clause-start
returns-clause-start c = starts_there

pub returns-clause-follow : goal.returns-clause-follow
returns-clause-follow c = texts_follow

pub returns-clause-places : goal.returns-clause-places
returns-clause-places c = places_tell
