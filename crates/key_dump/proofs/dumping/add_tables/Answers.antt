use Rattle.std.proofs.Common.{None, arith}
use Rattle.key_dump.specs.Dump.{row_text, table_rows}
use Rattle.key_dump.proofs.Adding.{rows_all, rows_more}
use Rattle.key_dump.proofs.dumping.add_tables.Goals as goal

pub loop-t-preserved : goal.loop-t-preserved
loop-t-preserved c =
    rows_more row_text table_rows c.args.tables.now.maps c.loop-t.t None c.args.text.now.bytes c.loop-t.text.bytes c.add_table.new.text.bytes
    (let tall = c.stays_whole.ensures.tall in omega (arith, tall, c.loop-t-test.true)) c.in_ok-add_table.ensures c.loop-t.invariant

pub returns : goal.returns
returns c =
    rows_all row_text table_rows c.args.tables.now.maps c.loop-t.t c.args.text.now.bytes c.loop-t.text.bytes
    (let tall = c.stays_whole.ensures.tall in omega (arith, tall, c.loop-t-test.false)) c.loop-t.invariant
