use Rattle.std.proofs.Common.{◌≡◌, ℕ, ◌++◌, List, drop, length, take, ap, sym, ◌∙◌, arith}
use Rattle.vt_cells.specs.declared.cell.Cell.{Cell}
use Rattle.vt_grid.specs.Grid.{row_at}
use Rattle.vt_picture.specs.Picture.{word_text}
use Rattle.vt_picture.proofs.Texts.{row_long, run_long, word_of_row, words_more}
use Rattle.vt_picture.proofs.letters.add_words.Goals as goal

pub loop-next-preserved : goal.loop-next-preserved
loop-next-preserved c =
    let row : List Cell = row_at c.args.g.now c.args.y in
    let next : ℕ = c.loop-next.next in
    let count : ℕ = c.word_length-count.result in
    let wide : length row ≡ c.args.g.now.cols = row_long c.args.g.now c.args.y c.stays_full.ensures.full c.requires.row in
    let same : take count (drop next (take c.args.end row)) ≡ take count (drop next row) =
    word_of_row row next count c.args.end c.word_length-count.ensures.within in
    let long : length (take count (drop next row)) ≡ count = run_long row next count (omega arith) in
    let added : c.add_word.new.text.bytes ≡ c.loop-next.text.bytes ++ word_text next (take count (drop next (take c.args.end row))) =
    c.in_ok-add_word.ensures ∙ ap (λ (word : List Cell). c.loop-next.text.bytes ++ word_text next word) (sym same) in
    record {
      within = c.word_length-count.ensures.within;
      bytes = words_more next count (take c.args.end row) c.loop-next.text.bytes c.add_word.new.text.bytes _
          c.word_length-count.ensures.word (ap length same ∙ long) added c.loop-next.invariant.bytes;
    }
