use Rattle.std.proofs.Common.{◌≡◌, []}
use Rattle.toml.specs.View.{members_view}
use Rattle.table_fields.specs.Checked.{fault}
use Rattle.table_fields.specs.Fields.{texts_after}
use Rattle.table_fields.proofs.included.table_texts.Given as goal

abbrev pub invariant-loop-name : goal.invariant-loop-name
invariant-loop-name l =
    (goal.iterator-loop-name).can_next l.name-iterator
    × (goal.iterator-loop-name).is_finite l.name-iterator
    × (texts_after (fault 22 l.part l.key) l.texts (members_view l.name-iterator)
    ≡ texts_after (fault 22 l.part l.key) [] (members_view l.table.entries))
