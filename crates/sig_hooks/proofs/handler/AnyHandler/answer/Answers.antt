use Rattle.std.proofs.Common.{rules}
use Rattle.sig_hooks.proofs.handler.AnyHandler.answer.Goals as goal

pub returns : goal.returns
returns g c = (c.requires c.args.s (search rules) (search rules)).1 _ c.self.ensures
