use Rattle.std.proofs.Common.{sym, ap, ◌∙◌}
use Rattle.vt_journal.specs.Cut.{cut_of}
use Rattle.vt_journal.specs.Readers.{if_none_left}
use Rattle.vt_journal.proofs.Cuts.{some_left}
use Rattle.vt_journal.proofs.words.Words.if_none_left.Goals as goal

pub returns-in-Some : goal.returns-in-Some
returns-in-Some g c =
    some_left c.in-Some._rest.now c.args.taken
    ∙ ap (λ words. if_none_left words c.args.taken) (ap cut_of (sym c.in-Some.is) ∙ c.self.view_is)
