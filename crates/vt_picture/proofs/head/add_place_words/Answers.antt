use Rattle.std.proofs.Common.{◌≡◌, ◌+◌, ◌++◌, decimal}
use Rattle.vt_picture.specs.Picture.{place_words}
use Rattle.vt_picture.proofs.Texts.{in_five}
use Rattle.vt_picture.proofs.head.add_place_words.Goals as goal

pub returns : goal.returns
unfolding place_words
returns c =
    let row : c.add_decimal.new.self.bytes ≡ c.add.new.self.bytes ++ decimal (c.args.state.now.y + 1) =
    cc (c.in_ok-add_decimal.ensures) in
    let column : c.add_decimal-2.new.self.bytes ≡ c.add-2.new.self.bytes ++ decimal (c.args.state.now.x + 1) =
    cc (c.in_ok-add_decimal-2.ensures) in
    in_five _ _ _ _ _ _ _ _ _ _ _ c.in_ok-add.ensures row c.in_ok-add-2.ensures column c.in_ok-add-3.ensures
