use Rattle.std.proofs.Common.{sym, ap, ◌∙◌}
use Rattle.std.specs.List.{concat}
use Rattle.cooked.proofs.SizeLaws.{parts_whole}
use Rattle.cooked.proofs.kept_text.KeptText.as_slice.Goals as goal

pub returns : goal.returns
returns c =
    c.as_slice.ensures
    ∙ sym (parts_whole c.self.inside.sizes.bytes c.self.inside.bytes.bytes c.self.invariant.whole)
    ∙ ap concat c.self.view_is
