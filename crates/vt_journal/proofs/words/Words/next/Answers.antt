use Rattle.std.proofs.Common.{◌∷◌, ◌+◌, take, sym, ap, ◌∙◌}
use Rattle.vt_journal.specs.Cut.{words_of_text, cut_of}
use Rattle.vt_journal.proofs.Cuts.{cut_at, cut_none, rest_is}
use Rattle.vt_journal.proofs.words.Words.next.Goals as goal

pub returns-in-Some : goal.returns-in-Some
returns-in-Some c =
    let text = c.in_ok-rest.rest.now in
    sym c.self.view_is
    ∙ ap cut_of c.in_ok-rest.was
    ∙ cut_at text c.in-Some.i (sym c.in-Some.is ∙ c.first_blank.ensures)
    ∙ ap (λ rest. take c.in-Some.i text ∷ words_of_text rest) (sym (rest_is text (c.in-Some.i + 1)))

pub returns-in-None : goal.returns-in-None
returns-in-None c =
    sym c.self.view_is
    ∙ ap cut_of c.in_ok-rest.was
    ∙ cut_none c.in_ok-rest.rest.now (sym c.in-None.is ∙ c.first_blank.ensures)
