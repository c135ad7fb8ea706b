use Rattle.std.proofs.Common.{◌≡◌, ◌-◌, true, false, sym, subst, arith, rules}
use Rattle.std.proofs.lemmas.Bool.Decides.{nat_tests}
use Rattle.vt_cells.proofs.Stated.{columns_are_few-low}
use Rattle.vt_screen.proofs.CursorSteps.{back, bell, below, character_below, character_here, feed, in_column, return}
use Rattle.vt_screen.specs.ChangedRows.{Moves}
use Rattle.vt_units.proofs.Stated.{controls_are_units, printables_are_characters}
use Rattle.vt_units.specs.Bytes.{is_printable}
use Rattle.vt_screen.proofs.cursor_step.next_cursor.Goals as goal

pub returns-in-7-clause-moves : goal.returns-in-7-clause-moves
returns-in-7-clause-moves c =
    subst (λ b. Moves c.args.cols c.args.bottom b c.args.at c.args.at) (sym c.in-7.is)
    (bell columns_are_few-low printables_are_characters controls_are_units c.args.cols c.args.bottom c.args.at)

pub returns-in-8-clause-moves : goal.returns-in-8-clause-moves
returns-in-8-clause-moves c =
    let x_is : c.args.at.x - 1 ≡ c.saturating_sub.result = omega arith in
    subst (λ b. Moves c.args.cols c.args.bottom b c.args.at (in_column c.saturating_sub.result c.args.at)) (sym c.in-8.is)
    (subst (λ x. Moves c.args.cols c.args.bottom 0x08 c.args.at (in_column x c.args.at)) x_is
    (back columns_are_few-low printables_are_characters controls_are_units c.args.cols c.args.bottom c.args.at))

pub returns-in-10-clause-moves : goal.returns-in-10-clause-moves
returns-in-10-clause-moves c =
    subst (λ b. Moves c.args.cols c.args.bottom b c.args.at (below c.args.at)) (sym c.in-10.is)
    (feed columns_are_few-low printables_are_characters controls_are_units c.args.cols c.args.bottom c.args.at (omega arith))

pub returns-in-13-clause-moves : goal.returns-in-13-clause-moves
returns-in-13-clause-moves c =
    subst (λ b. Moves c.args.cols c.args.bottom b c.args.at (in_column 0 c.args.at)) (sym c.in-13.is)
    (return columns_are_few-low printables_are_characters controls_are_units c.args.cols c.args.bottom c.args.at)

pub returns-in-32-to-126-clause-moves : goal.returns-in-32-to-126-clause-moves
returns-in-32-to-126-clause-moves c =
    let bounds = c.in-32-to-126 in
    let is : is_printable c.args.b ≡ true = grind (arith, nat_tests, bounds) in
    let none : c.args.at.wrap ≡ false = search rules in
    subst (Moves c.args.cols c.args.bottom c.args.b c.args.at) (sym c.after_cell.ensures)
    (character_here columns_are_few-low printables_are_characters controls_are_units
    c.args.cols c.args.bottom c.args.b c.args.at is none)

pub returns-in-32-to-126-2-clause-moves : goal.returns-in-32-to-126-2-clause-moves
returns-in-32-to-126-2-clause-moves c =
    let bounds = c.in-32-to-126 in
    let is : is_printable c.args.b ≡ true = grind (arith, nat_tests, bounds) in
    let some : c.args.at.wrap ≡ true = search rules in
    subst (Moves c.args.cols c.args.bottom c.args.b c.args.at) (sym c.after_cell-in-32-to-126-2.ensures)
    (character_below columns_are_few-low printables_are_characters controls_are_units
    c.args.cols c.args.bottom c.args.b c.args.at is some (omega arith))
