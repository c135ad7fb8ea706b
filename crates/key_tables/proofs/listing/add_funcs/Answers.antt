use Rattle.std.proofs.Common.{◌++◌, ◌∙◌, ap, List, ℕ}
use Rattle.key_tables.specs.Listing.{func_text}
use Rattle.key_tables.proofs.Texts.{texts_more}
use Rattle.key_tables.proofs.listing.add_funcs.Goals as goal

pub loop-i-preserved : goal.loop-i-preserved
loop-i-preserved c =
    texts_more func_text c.args.funcs.now c.loop-i.i c.index-funcs-i.result _ _ _ c.loop-i-test.true c.index-funcs-i.is
    (c.in_ok-add_func.ensures ∙ ap (λ (f : List ℕ). c.loop-i.text.bytes ++ func_text c.loop-i.i f) c.as_slice.ensures.list) c.loop-i.invariant
