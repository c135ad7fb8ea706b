use Rattle.std.proofs.Common.{sym, ap, ◌∙◌}
use Rattle.cooked.proofs.StandLaws.{pushed_ended}
use Rattle.cooked.proofs.cooked_line.Cooked.push.Goals as goal
use Rattle.cooked.specs.Cooked.{Typing}
use Rattle.cooked.specs.Kinds.{ends_line}

pub returns-in-Interrupt-clause-fresh : goal.returns-in-Interrupt-clause-fresh
returns-in-Interrupt-clause-fresh c =
    ap (λ (v : Typing). v.fresh) c.restart.ensures
    ∙ sym (pushed_ended _ _ _ _ c.args.b _ _ c.self.view_is c.heard-heard.ensures c.kind_of-kind.ensures (ap ends_line c.in-Interrupt.is))

pub returns-in-Quit-clause-fresh : goal.returns-in-Quit-clause-fresh
returns-in-Quit-clause-fresh c =
    ap (λ (v : Typing). v.fresh) c.restart-in-Quit.ensures
    ∙ sym (pushed_ended _ _ _ _ c.args.b _ _ c.self.view_is c.heard-heard.ensures c.kind_of-kind.ensures (ap ends_line c.in-Quit.is))

pub returns-in-Kill-clause-fresh : goal.returns-in-Kill-clause-fresh
returns-in-Kill-clause-fresh c =
    ap (λ (v : Typing). v.fresh) c.kill.ensures.state
    ∙ sym (pushed_ended _ _ _ _ c.args.b _ _ c.self.view_is c.heard-heard.ensures c.kind_of-kind.ensures (ap ends_line c.in-Kill.is))

pub returns-in-Eof-clause-fresh : goal.returns-in-Eof-clause-fresh
returns-in-Eof-clause-fresh c =
    ap (λ (v : Typing). v.fresh) c.finish.ensures.state
    ∙ sym (pushed_ended _ _ _ _ c.args.b _ _ c.self.view_is c.heard-heard.ensures c.kind_of-kind.ensures (ap ends_line c.in-Eof.is))

pub returns-in-End-clause-fresh : goal.returns-in-End-clause-fresh
returns-in-End-clause-fresh c =
    ap (λ (v : Typing). v.fresh) c.finish-in-End.ensures.state
    ∙ sym (pushed_ended _ _ _ _ c.args.b _ _ c.self.view_is c.heard-heard.ensures c.kind_of-kind.ensures (ap ends_line c.in-End.is))
