use Rattle.vt_picture.specs.Picture.{title_text}
use Rattle.vt_picture.proofs.Texts.{in_three}
use Rattle.vt_picture.proofs.head.add_title.Goals as goal

pub returns : goal.returns
unfolding title_text
returns c =
    in_three _ _ _ _ _ _ _
    c.in_ok-add.ensures c.in_ok-add_size_words.ensures c.in_ok-add-2.ensures
