use Rattle.vt_check.proofs.Tested.{program_is}
use Rattle.vt_check.proofs.judge.Judge.next_of.Goals as goal

pub returns : goal.returns
returns c = λ o h at.
    c.walk.ensures.next o.programs h c.args.program.now c.in_ok-next.next
    (program_is o h c.args.self.now c.args.p c.args.program.now at c.requires) at.standing c.in_ok-next.ensures
