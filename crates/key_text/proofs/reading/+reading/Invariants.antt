use Rattle.std.proofs.Common.{◌+◌, ◌*◌, ◌-◌, length}
use Rattle.key_text.specs.Reading.{within}
use Rattle.key_text.proofs.Rows.{IsReading}
use Rattle.key_text.proofs.reading.+reading.Given as goal

abbrev pub decreases-read_text : goal.decreases-read_text
decreases-read_text l = 3 * l.depth.left + 2

abbrev pub decreases-read_row : goal.decreases-read_row
decreases-read_row l = 3 * l.depth.left + 1

abbrev pub decreases-include : goal.decreases-include
decreases-include l = 3 * l.at.left

abbrev pub invariant-read_text-rows : goal.invariant-read_text-rows
invariant-read_text-rows l =
    IsReading (within l.depth.left l.texts) l.texts l.depth.outer l.fn.tally l.text l.initial.out.items l.out.items l.tally l.at l.place

abbrev pub decreases-read_text-rows : goal.decreases-read_text-rows
decreases-read_text-rows l = length l.text - l.at
