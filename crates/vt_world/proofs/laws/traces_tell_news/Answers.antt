use Rattle.vt_world.proofs.for_laws.Moments.{moments_grow}
use Rattle.vt_world.proofs.for_laws.Tellings.{traces_tell_news}
use Rattle.vt_world.proofs.laws.traces_tell_news.Goals as goal

pub returns-clause-news : goal.returns-clause-news
returns-clause-news c = traces_tell_news

pub returns-clause-moments : goal.returns-clause-moments
returns-clause-moments c = moments_grow
