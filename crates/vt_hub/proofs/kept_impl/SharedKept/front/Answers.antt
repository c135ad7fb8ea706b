use Rattle.std.proofs.Common.{◌∙◌}
use Rattle.vt_hub.proofs.Carried.{first_display, is_carried_entries}
use Rattle.vt_hub.proofs.Found.{front_is}
use Rattle.vt_hub.proofs.kept_impl.SharedKept.front.Goals as goal

pub returns-clause-word : goal.returns-clause-word
returns-clause-word g c =
    c.word.ensures ∙ front_is g.J.Opening.start g.J.Opening.limits _ c.sound.ensures

pub returns-clause-right : goal.returns-clause-right
returns-clause-right g c =
    is_carried_entries g.J.Opening.start _ c.sound.ensures.legal
    (first_display g.J.Opening.start c.sound.ensures.display_low c.sound.ensures.display_high)
