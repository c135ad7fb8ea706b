use Rattle.std.proofs.Common.{◌∙◌, ap, false}
use Rattle.std.specs.List.{slice_index_or}
use Rattle.key_compile.specs.Union.{passing_below}
use Rattle.key_compile.proofs.Marking.{marks_union}
use Rattle.key_compile.proofs.compiling.compile.Goals as goal

pub lines_fault-requires : goal.lines_fault-requires
lines_fault-requires c = c.as_slice-2.ensures.value ∙ c.in_ok-union.ensures ∙ ap (λ marks. passing_below (λ t. slice_index_or marks t false) 256) c.as_slice.ensures.value ∙ marks_union c.args.lines.now c.in_ok-marks.marks.items c.in_ok-marks.ensures

pub fill_tables-requires-clause-union : goal.fill_tables-requires-clause-union
fill_tables-requires-clause-union c = c.as_slice-4.ensures.value ∙ c.in_ok-union.ensures ∙ ap (λ marks. passing_below (λ t. slice_index_or marks t false) 256) c.as_slice.ensures.value ∙ marks_union c.args.lines.now c.in_ok-marks.marks.items c.in_ok-marks.ensures
