use Rattle.toml.specs.View.{table_view}
use Rattle.session_text.proofs.KeyTyping.{typed_read}
use Rattle.session_text.proofs.keyboard_fields.keyboard.Goals as goal

pub returns-clause-keyboard : goal.returns-clause-keyboard
returns-clause-keyboard c =
    let (lines, are, tables) = c.in_ok-tables.ensures in
    let read =
    typed_read (table_view c.args.table.now) _ _ _ _ _ lines _ _ c.at.ensures c.in_ok-included.ensures
    c.at-2.ensures c.in_ok-keymap_text.ensures are c.at-3.ensures c.in_ok-items.ensures
    c.in_ok-keys.ensures.bytes in (
      record { lines = lines; keys = c.in_ok-keys.keys.bytes },
      read,
      (tables, λ i. record c.in_ok-keys.keys { room = c.in_ok-keys.ensures.room i }),
    )
