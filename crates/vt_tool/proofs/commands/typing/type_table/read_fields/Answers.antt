use Rattle.std.proofs.Common.{refl, sym, ◌∙◌}
use Rattle.toml.specs.View.{table_view}
use Rattle.vt_tool.proofs.TypeTables.{type_table_read}
use Rattle.vt_tool.proofs.commands.typing.type_table.read_fields.Goals as goal

pub returns-clause-table : goal.returns-clause-table
returns-clause-table c =
    let (lines, are, tables) = c.in_ok-tables.ensures in
    let read =
    type_table_read (table_view c.args.table.now) _ _ _ _ _ _ _ lines _ _ (sym c.knows_keys.ensures ∙ c.if-not-knows_keys.false)
    c.at.ensures c.in_ok-mode.ensures.value c.at-2.ensures c.in_ok-included.ensures c.at-3.ensures
    c.in_ok-keymap_text.ensures are c.at-4.ensures c.in_ok-keys_text.ensures c.in_ok-keys.ensures.bytes in (
      record { mode = c.in_ok-mode.mode; lines = lines; keys = c.in_ok-keys.keys.bytes },
      read,
      (refl, tables, refl),
    )
