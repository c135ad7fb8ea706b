use Rattle.std.proofs.Common.{◌≡◌, ◌++◌, ◌∙◌, ap}
use Rattle.vt_grid.specs.Grid.{GridView}
use Rattle.vt_picture.specs.Picture.{cursor_words, description_text, size_words}
use Rattle.vt_picture.proofs.Texts.{in_five}
use Rattle.vt_picture.proofs.head.add_description.Goals as goal
use Rattle.vt_canvas.specs.declared.screen_state.ScreenState.{ScreenState}

pub returns : goal.returns
unfolding description_text
returns c =
    let size : c.add_size_words.new.text.bytes ≡ c.add.new.self.bytes ++ size_words c.args.emu.now.state.grid =
    c.in_ok-add_size_words.ensures ∙ ap (λ (g : GridView). c.add.new.self.bytes ++ size_words g) c.grid.ensures.cells in
    let cursor : c.add_cursor_words.new.text.bytes
    ≡ c.add-2.new.self.bytes ++ cursor_words c.args.emu.now.state.state =
    c.in_ok-add_cursor_words.ensures
    ∙ ap (λ (s : ScreenState). c.add-2.new.self.bytes ++ cursor_words s) c.state.ensures.state in
    in_five _ _ _ _ _ _ _ _ _ _ _ c.in_ok-add.ensures size c.in_ok-add-2.ensures cursor c.in_ok-add-3.ensures
