use Rattle.std.proofs.Common.{◌≡◌, ◌*◌, ◌++◌, codes}
use Rattle.vt_picture.specs.Picture.{opening_tag}
use Rattle.vt_picture.specs.Svg.{number_attribute}
use Rattle.vt_picture.proofs.Texts.{in_five}
use Rattle.vt_picture.proofs.head.add_opening_tag.Goals as goal

pub returns : goal.returns
unfolding opening_tag
returns c =
    let wide : c.add_numbered.new.text.bytes ≡ c.add-2.new.self.bytes ++ number_attribute (codes "width") (8 * c.args.g.now.cols) =
    cc (c.in_ok-add_numbered.ensures) in
    let high : c.add_numbered-2.new.text.bytes
    ≡ c.add_numbered.new.text.bytes ++ number_attribute (codes "height") (15 * c.args.g.now.rows) =
    cc (c.in_ok-add_numbered-2.ensures) in
    in_five _ _ _ _ _ _ _ _ _ _ _ c.in_ok-add.ensures c.in_ok-add-2.ensures wide high c.in_ok-add-3.ensures
