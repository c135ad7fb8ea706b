use Rattle.std.proofs.Common.{◌+◌, ◌==◌, ◌&&◌, ◌∙◌, Some, None, cond, ap}
use Rattle.key_tables.specs.Tables.{entry_of}
use Rattle.key_compile.specs.Metas.{meta_of}
use Rattle.key_compile.proofs.Steps.{puts_same}
use Rattle.key_compile.proofs.metas.put_meta.Goals as goal

pub returns-in-Some : goal.returns-in-Some
returns-in-Some c =
    let k = c.args.tables.now in
    puts_same (λ u d. cond (u == c.args.t + 8 && d == c.args.c) (Some c.in-Some.meta) None)
    (λ u d. cond (u == c.args.t + 8 && d == c.args.c) (meta_of (entry_of k c.args.t c.args.c) (entry_of k (c.args.t + 8) c.args.c)) None) k c.put_one.new.tables
    (λ u d. ap (λ m. cond (u == c.args.t + 8 && d == c.args.c) m None)
    (c.in-Some.ensures ∙ ap (λ e. meta_of e c.entry-above.result) c.entry-below.ensures ∙ ap (meta_of (entry_of k c.args.t c.args.c)) c.entry-above.ensures))
    c.put_one.ensures
