use Rattle.std.proofs.Common.{◌≡◌, ◌+◌, ◌++◌, List, drop, take, ap, refl, ◌∙◌}
use Rattle.vt_cells.specs.declared.cell.Cell.{Cell}
use Rattle.vt_grid.specs.Grid.{row_at}
use Rattle.vt_picture.specs.Picture.{letters_text, words_text}
use Rattle.vt_picture.specs.Runs.{words}
use Rattle.vt_picture.proofs.Texts.{in_three, run_of_first}
use Rattle.vt_picture.proofs.letters.add_letters.Goals as goal

pub returns : goal.returns
unfolding letters_text
returns c =
    let row : List Cell = row_at c.args.g.now c.args.y in
    let run : drop c.args.x (take (c.args.x + c.args.count) row) ≡ take c.args.count (drop c.args.x row) =
    run_of_first row c.args.x c.args.count (c.args.x + c.args.count) refl in
    let middle : c.add_words.new.text.bytes
    ≡ c.add_letters_tag.new.text.bytes ++ words_text c.args.x (words (take c.args.count (drop c.args.x row))) =
    c.in_ok-add_words.ensures
    ∙ ap (λ (cells : List Cell). c.add_letters_tag.new.text.bytes ++ words_text c.args.x (words cells)) run in
    in_three _ _ _ _ _ _ _ c.in_ok-add_letters_tag.ensures middle c.in_ok-add.ensures
