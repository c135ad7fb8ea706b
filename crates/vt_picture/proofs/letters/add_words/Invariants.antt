use Rattle.std.proofs.Common.{◌≡◌, ◌-◌, ◌≤◌, ◌++◌, drop, take}
use Rattle.vt_grid.specs.Grid.{row_at}
use Rattle.vt_picture.specs.Picture.{words_text}
use Rattle.vt_picture.specs.Runs.{words}
use Rattle.vt_picture.proofs.letters.add_words.Given as goal

abbrev pub invariant-loop-next : goal.invariant-loop-next
invariant-loop-next l =
    let cells = take l.end (row_at l.g l.y) in
    record {
      within : l.next ≤ l.end;
      bytes : l.text.bytes ++ words_text l.next (words (drop l.next cells))
          ≡ l.fn.text.bytes ++ words_text l.x (words (drop l.x cells));
    }

abbrev pub decreases-loop-next : goal.decreases-loop-next
decreases-loop-next l = l.end - l.next
