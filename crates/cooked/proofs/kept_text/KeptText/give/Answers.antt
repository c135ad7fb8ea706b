use Rattle.std.proofs.Common.{sym, ap, ◌∙◌}
use Rattle.std.specs.List.{concat}
use Rattle.vt_base.specs.Bytes.{Text}
use Rattle.cooked.proofs.SizeLaws.{parts_whole}
use Rattle.cooked.proofs.kept_text.KeptText.give.Goals as goal

pub returns-clause-line : goal.returns-clause-line
returns-clause-line c =
    ap (λ (t : Text). t.bytes) c.swap.ensures.y_after
    ∙ sym (parts_whole c.self.inside.sizes.bytes c.self.inside.bytes.bytes c.self.invariant.whole)
    ∙ ap concat c.self.view_is
