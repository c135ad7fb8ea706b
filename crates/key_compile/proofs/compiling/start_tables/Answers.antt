use Rattle.std.proofs.Common.{Result, Ok, Err, ◌∙◌, ap, false}
use Rattle.std.specs.Result.{IfOk}
use Rattle.std.specs.List.{slice_index_or}
use Rattle.key_tables.specs.Tables.{IsEmpty, Tables}
use Rattle.key_compile.specs.Compiled.{AreStart}
use Rattle.key_compile.specs.Union.{passing_below}
use Rattle.key_compile.proofs.Whole.{start_of}
use Rattle.key_compile.proofs.compiling.start_tables.Goals as goal

mapped : {E : Type 0} (P Q : Tables → Type 0) (r : Result Tables E) → ((k : Tables) → P k → Q k) → IfOk r P → IfOk r Q
mapped P Q (Ok k) f h = f k h
mapped P Q (Err e) f h = h

pub returns : goal.returns
returns c =
    mapped (IsEmpty c.as_slice-2.result.now) (AreStart c.args.lines.now) c.empty.result
    (λ k empty. start_of c.args.lines.now c.in_ok-declared.declared.items c.as_slice-2.result.now k c.in_ok-declared.ensures (c.as_slice-2.ensures.value ∙ c.in_ok-numbers.ensures ∙ ap (λ marks. passing_below (λ t. slice_index_or marks t false) 256) c.as_slice.ensures.value) empty)
    c.empty.ensures
