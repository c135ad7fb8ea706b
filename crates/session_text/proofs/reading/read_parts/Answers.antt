use Rattle.std.proofs.Common.{List, Bor, BTreeMap, String, Global, Ok, map, refl, subst, sym, ap, ◌∙◌}
use Rattle.toml.specs.Data.{Members}
use Rattle.toml.specs.View.{table_view}
use Rattle.toml.specs.declared.value.Value.{Value}
use Rattle.session_text.specs.Says.{each_says}
use Rattle.session_text.specs.Scripts.{process_says}
use Rattle.session_text.proofs.reading.read_parts.Goals as goal

abbrev Entries : Type 0
Entries = Bor (BTreeMap (String Global) Value)

abbrev views : List Entries → List Members
views tables = map (λ (table : Entries). table_view table.now) tables

pub returns-in-Ok-clause-parts : goal.returns-in-Ok-clause-parts
returns-in-Ok-clause-parts c =
    let (top, top_is, is) = c.in_ok-top.ensures.top in
    let found = c.in-Ok.processes.items in
    let said =
    subst (λ tables. each_says process_says 1 tables (Ok found))
    (ap views c.as_slice.ensures.value ∙ is.tables) c.in-Ok.ensures.says in (
      record {
        opening = top.opening;
        typed = top.typed;
        turns = top.turns;
        processes = found;
        further = top.further;
      },
      (Ok top, sym top_is, (Ok found, said, refl)),
      record {
        opening = is.opening;
        keyboard = is.keyboard;
        turns = is.turns;
        processes = refl;
        further = is.further;
      },
    )
