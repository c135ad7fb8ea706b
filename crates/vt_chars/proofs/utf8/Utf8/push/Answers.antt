use Rattle.vt_chars.proofs.Prefixes.{more_exactly}
use Rattle.vt_chars.proofs.utf8.Utf8.push.Goals as goal

pub returns-clause-more : goal.returns-clause-more
returns-clause-more c = rw c.step-got.ensures.answer (rw c.self.view_is (more_exactly c.args.self.now c.args.b))
