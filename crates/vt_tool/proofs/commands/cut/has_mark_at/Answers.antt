use Rattle.vt_tool.proofs.Cuts.{mark_here, no_mark}
use Rattle.vt_tool.proofs.commands.cut.has_mark_at.Goals as goal

pub returns-then-begins_line-clause-yes : goal.returns-then-begins_line-clause-yes
returns-then-begins_line-clause-yes c = λ starts.
    mark_here c.args.mark c.args.input.now c.split_at.result.0.now c.split_at.result.1.now c.args.at
    c.split_at.ensures.front c.split_at.ensures.back (c.begins_line.ensures.yes c.if-begins_line.true)
    (c.has_mark.ensures.yes starts)

pub returns-then-begins_line-clause-no : goal.returns-then-begins_line-clause-no
returns-then-begins_line-clause-no c = λ not.
    no_mark c.args.mark c.args.input.now c.split_at.result.1.now c.args.at c.split_at.ensures.back
    (c.has_mark.ensures.no not)
