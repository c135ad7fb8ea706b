use Rattle.key_tables.specs.Listing.{entry_text}
use Rattle.key_tables.proofs.Texts.{texts_more}
use Rattle.key_tables.proofs.listing.add_map.Goals as goal

pub loop-c-preserved : goal.loop-c-preserved
loop-c-preserved c =
    texts_more (entry_text c.args.t) c.args.entries.now c.loop-c.c c.index-entries-c.result _ _ _ c.loop-c-test.true c.index-entries-c.is c.in_ok-add_entry.ensures c.loop-c.invariant
