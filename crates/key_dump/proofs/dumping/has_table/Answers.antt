use Rattle.std.proofs.Common.{◌||◌, ◌∙◌, Bool, None, ap, is_some, sym, arith}
use Rattle.std.proofs.lemmas.List.{take_all}
use Rattle.std.proofs.lemmas.List.Folds.{list_any_at, list_any_more}
use Rattle.std.specs.List.{list_any}
use Rattle.key_tables.specs.Tables.{map_of}
use Rattle.key_dump.proofs.dumping.has_table.Goals as goal

pub loop-t-preserved : goal.loop-t-preserved
loop-t-preserved c =
    list_any_more is_some c.args.tables.now.maps c.loop-t.t None (let tall = c.stays_whole.ensures.tall in omega (arith, tall, c.loop-t-test.true))
    ∙ ap (λ (b : Bool). b || is_some (map_of c.args.tables.now c.loop-t.t)) c.loop-t.invariant
    ∙ sym c.exists.ensures.value ∙ c.if-exists.false

pub returns-then-exists : goal.returns-then-exists
returns-then-exists c =
    sym (list_any_at is_some c.args.tables.now.maps c.loop-t.t None (let tall = c.stays_whole.ensures.tall in omega (arith, tall, c.loop-t-test.true)) (sym c.exists.ensures.value ∙ c.if-exists.true))

pub returns : goal.returns
returns c =
    sym c.loop-t.invariant
    ∙ ap (list_any is_some) (take_all c.loop-t.t c.args.tables.now.maps (let tall = c.stays_whole.ensures.tall in omega (arith, tall, c.loop-t-test.false)))
